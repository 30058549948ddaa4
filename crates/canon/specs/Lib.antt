pub mod Run
pub mod Check
pub mod Spans
pub mod Laws
pub mod Examples
