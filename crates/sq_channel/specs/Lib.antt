-- Definitions that the contracts cite.
pub mod Gots
pub mod Indexes
