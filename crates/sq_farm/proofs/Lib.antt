-- Lemmas that the proofs use.
mod CallLaws
mod DueLaws
mod FarmLaws
mod LivingLaws
mod LostLaws
pub mod PlaceLaws
mod ReadingWords
mod RowReadings
mod ReplyLaws
