pub mod Asks
pub mod Made
pub mod Taking
