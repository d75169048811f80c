pub mod Advances
pub mod Bounds
pub mod Adding
