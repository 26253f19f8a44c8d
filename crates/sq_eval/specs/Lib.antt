pub mod Rans
pub mod Takings
