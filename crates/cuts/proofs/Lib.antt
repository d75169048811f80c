pub mod Walks
pub mod Cutting
