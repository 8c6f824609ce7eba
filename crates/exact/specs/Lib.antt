-- A choice's exact cost: `Units` a float as a whole number, `Exact` a choice's terms added up with no rounding.
pub mod Units
pub mod Exact
