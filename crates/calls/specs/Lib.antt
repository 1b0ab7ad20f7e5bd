pub mod Lists
pub mod Stages
pub mod Work
