pub mod Carried
pub mod Demand
pub mod Priced
pub mod Unbanded
mod Calling
mod Ends
mod Members
mod Starting
mod Storing
mod Taking
mod Turns
mod Walking
mod Whole
