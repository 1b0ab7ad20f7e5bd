pub mod Number
pub mod Refusing
