pub mod DoneLaws
pub mod EndLaws
mod HalfwayLaws
mod MigrateLaws
mod MissingLaws
mod OpenedLaws
mod OptionLaws
mod RehearseLaws
mod SettleLaws
mod ShelfLaws
mod StageLaws
mod VerifyLaws
-- Laws of turns, of what they count, and of the history of a rehearsal.
mod CountLaws
mod TurnLaws
mod LoopLaws
mod FuelLaws
mod WorldLaws
mod TargetLaws
mod AskLaws
pub mod LegalLaws
