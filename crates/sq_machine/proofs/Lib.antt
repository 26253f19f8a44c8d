pub mod CheckLaws
pub mod ConnectionLaws
pub mod EventLaws
mod MachineRows
pub mod OpenCheckLaws
pub mod ReadingLaws
pub mod TakenLaws
