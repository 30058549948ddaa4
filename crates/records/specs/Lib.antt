pub mod Zeros
pub mod States
pub mod Order
pub mod Content
pub mod Ranges
pub mod Meaning
pub mod Listed
pub mod Values
