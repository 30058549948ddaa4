pub mod Records
pub mod Faults
pub mod Keys
pub mod Check
pub mod RunBytes
pub mod Opened
pub mod Lookups
