pub mod Attending
pub mod ControlViews
pub mod Orders
pub mod Renewing
pub mod Rereading
pub mod ControlText
