pub mod Shown
pub mod Events
pub mod DrainSteps
pub mod OddSteps
