-- The laws of costs, for any format: `View` the two kinds of cost, `Order` their order, `Sum` and `Product` their arithmetic, `Bound` what keeps a sum from overflowing.
pub mod View
pub mod Order
pub mod Sum
pub mod Product
pub mod Bound
pub mod Difference
