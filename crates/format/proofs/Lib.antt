pub mod Rest
pub mod Walk
