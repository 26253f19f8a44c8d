pub mod Index
pub mod Waits
