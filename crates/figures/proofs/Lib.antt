pub mod Owners
pub mod Own
pub mod Charging
pub mod Sums
pub mod Settled
