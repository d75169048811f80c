pub mod Lists
pub mod Conditions
