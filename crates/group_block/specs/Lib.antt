-- A block's numbers within what is lent for the whole list.
pub mod Lists
pub mod Part
