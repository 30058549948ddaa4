pub mod Orders
pub mod Places
pub mod Joins
pub mod Handed
pub mod Examples
pub mod Versions
