pub mod Agreement
pub mod Widening
pub mod Counting
