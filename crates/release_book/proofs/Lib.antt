pub mod Searches
pub mod NextSteps
pub mod BookSteps
