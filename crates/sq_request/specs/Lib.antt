pub mod Endings
pub mod Heads
pub mod Parts
pub mod Refusals
pub mod Spans
pub mod Written
