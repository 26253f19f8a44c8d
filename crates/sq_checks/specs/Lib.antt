-- Definitions that the contracts cite.
pub mod Conns
pub mod Counts
pub mod Courses
pub mod GivenValues
pub mod Givens
pub mod Groups
pub mod Kinds
pub mod OpenChecks
pub mod OpenGroups
pub mod Positions
pub mod Records
pub mod Slots
pub mod Stages
pub mod Standing
pub mod Tables
pub mod Traces
pub mod Weights
