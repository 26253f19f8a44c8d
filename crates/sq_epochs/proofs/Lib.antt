mod ActLaws
pub mod DueLaws
mod EpochLaws
mod PartLaws
mod FindLaws
pub mod HomeLaws
mod OutcomeLaws
mod RisingRows
mod SetLaws
mod WordLaws
pub mod LiveLaws
mod AlikeLaws
mod InheritLaws
mod MarkLaws
mod DropLaws
pub mod NumberLaws
pub mod BegunLaws
pub mod EndLaws
pub mod OverLaws
pub mod HomedLaws
pub mod ProcLaws
pub mod ReadLaws
