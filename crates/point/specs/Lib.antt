pub mod Standing
pub mod Spans
