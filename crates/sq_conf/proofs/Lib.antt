pub mod BareLaws
mod DayLaws
mod JoinLaws
mod LexLaws
mod LineLaws
mod NumberLaws
mod WordLaws
mod AclReadLaws
mod FirstLaws
mod FreeLaws
pub mod GroupLaws
mod KnownLaws
mod LineReadLaws
mod ListLaws
mod LookedLaws
mod SoundLaws
pub mod StatedLaws
mod StepLaws
mod TakesLaws
pub mod TextLaws
mod WholeLaws
