pub mod Memory
pub mod MemoryChildren
pub mod MemoryLinks
pub mod MemoryNet
pub mod MemoryServer
pub mod MemoryWorld
pub mod Taking
