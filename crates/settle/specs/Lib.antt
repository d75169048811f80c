pub mod Charges
pub mod Point
