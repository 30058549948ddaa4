pub mod Numbers
pub mod Faults
pub mod Kinds
pub mod Layout
pub mod Pieces
