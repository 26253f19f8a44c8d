pub mod MemHubs
