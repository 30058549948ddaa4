pub mod Fold
pub mod Count
pub mod Lines
