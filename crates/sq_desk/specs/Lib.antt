-- Definitions that the contracts cite.
pub mod Desks
pub mod Calling
pub mod Tells
