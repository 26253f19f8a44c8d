-- Definitions that the contracts cite.
pub mod Losing
pub mod Parts
pub mod Sends
pub mod Steps
