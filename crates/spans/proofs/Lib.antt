pub mod Written
pub mod Days
