pub mod Words
pub mod RunWords
