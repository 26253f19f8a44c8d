-- Definitions that the contracts cite.
pub mod Acts
pub mod Replies
pub mod Rooms
