-- Lemmas, by subject.
pub mod MomentLaws
