pub mod Parts
pub mod Point
pub mod Bounds
pub mod Rows
