-- Lemmas, by subject.
mod OutcomeLaws
