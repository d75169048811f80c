pub mod Spreadable
pub mod Meters
