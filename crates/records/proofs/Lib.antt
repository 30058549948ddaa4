pub mod Zeros
pub mod Ext
pub mod Says
pub mod Passing
pub mod Equal
pub mod Order
