-- Lemmas that the proofs use.
mod ActLaws
mod AgreeLaws
mod FarmLaws
mod FindLaws
mod HandLaws
mod LostLaws
mod OpenLaws
mod RoundLaws
mod RowLaws
mod RunLaws
-- of calls behind a state
pub mod WorkLaws
