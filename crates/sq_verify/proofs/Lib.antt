pub mod AuditLaws
mod BeginLaws
pub mod CompleteLaws
mod EndLaws
mod FirstLaws
mod LaterLaws
mod LoopLaws
pub mod MigratedLaws
mod MigrateLaws
mod PlayLaws
mod StepLaws
mod TextLaws
mod ToldLaws
