mod BeginLaws
pub mod CarryLaws
mod ForwardLaws
pub mod GoesLaws
pub mod OwnReplyLaws
mod PartLaws
pub mod TurnLaws
pub mod VerdictLaws
pub mod CompleteLaws
mod HubLaws
mod JudgeLaws
mod OpenLaws
mod RewriteLaws
mod SameLaws
mod SeatLaws
mod SpentLaws
mod StandLaws
mod TellLaws
-- of a rewriter that goes on
pub mod WorkLaws
