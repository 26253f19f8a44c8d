-- Lemmas, by subject.
mod CallLaws
mod SpareLaws
mod ReplayLaws
mod EventLaws
mod NameLaws
mod NextLaws
mod TellingLaws
