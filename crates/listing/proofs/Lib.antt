pub mod Folds
pub mod Counts
pub mod Lines
