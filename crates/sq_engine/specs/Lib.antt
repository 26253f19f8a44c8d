-- Definitions that the contracts cite.
pub mod Acting
pub mod Begun
pub mod EngineViews
pub mod Engines
pub mod Handing
pub mod Lines
pub mod Promised
pub mod Stepping
pub mod Tellings
