-- Definitions that the contracts cite.
pub mod Faults
pub mod Legality
pub mod Telling
pub mod Moments
