-- Definitions that the contracts cite.
pub mod DueSets
pub mod DueStates
pub mod EpochChanges
pub mod EpochProcs
pub mod EpochStates
pub mod HomeStates
pub mod LiveEpochs
pub mod Reconfigured
pub mod Sets
