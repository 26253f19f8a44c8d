pub mod Adapters
pub mod Hosts
pub mod Names
pub mod System
