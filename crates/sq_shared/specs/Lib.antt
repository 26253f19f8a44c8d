pub mod Books
pub mod Doors
pub mod Ledgers
pub mod Waking
