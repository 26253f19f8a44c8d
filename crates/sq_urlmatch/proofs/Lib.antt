mod DayLaws
mod FactLaws
mod ManyLaws
mod MatcherLaws
mod MergeLaws
mod NameLaws
pub mod PatternLaws
mod PlaceLaws
mod ReadLaws
mod SchemeLaws
mod SearchLaws
pub mod SetThreadLaws
mod TableLaws
mod ThreadLaws
mod ValueLaws
