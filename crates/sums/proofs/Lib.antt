pub mod Slack
pub mod Counting
