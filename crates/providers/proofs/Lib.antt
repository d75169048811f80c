pub mod Down
pub mod Insert
pub mod Runs
pub mod Days
pub mod Points
