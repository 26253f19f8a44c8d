-- Laws of runs.
pub mod DueLaws
pub mod ReadingLaws
pub mod ActLaws
pub mod RunLaws
pub mod SourceLaws
pub mod GrowthLaws
pub mod HeadlineLaws
pub mod EndLaws
pub mod PageLaws
pub mod OpeningLaws
pub mod OpenedLaws
pub mod LoopLaws
pub mod MakingLaws
pub mod EnteringLaws
pub mod ToldLaws
pub mod TakenLaws
pub mod BeginLaws
mod HoldingLaws
mod OutcomeLaws
mod EngineLaws
mod SeatingLaws
mod RecordLaws
mod NamingLaws
mod ActingLaws
mod ViewLaws
mod AskLaws
pub mod MadeLaws
mod RunRows
mod PairLaws
mod KindLaws
