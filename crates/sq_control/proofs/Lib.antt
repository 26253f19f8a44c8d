mod AttendLaws
mod OrderLaws
mod ControlTextLaws
pub mod RereadLaws
