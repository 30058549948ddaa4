pub mod Numbers
pub mod Fields
pub mod Writes
pub mod Lawful
pub mod Trips
