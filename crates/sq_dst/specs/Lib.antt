pub mod AnsweredLines
pub mod LookupAcls
pub mod LookupHits
pub mod LookupKeys
pub mod Rings
