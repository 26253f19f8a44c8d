-- Definitions that the contracts cite.
pub mod Calling
pub mod Noting
