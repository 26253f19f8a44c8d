pub mod Keeping
pub mod Seeding
