pub mod BodyLaws
mod ElementLaws
mod EscapeLaws
mod FieldLaws
mod GrowthLaws
mod LengthLaws
mod LineLaws
mod MarkLaws
mod NameLaws
mod PassLaws
pub mod PieceLaws
mod ReplyLaws
mod SchemeLaws
mod SizeLaws
mod StatusLaws
mod TakeLaws
mod ValueLaws
