mod BoardLaws
mod EntryLaws
mod HandLaws
mod LineLaws
mod RoundLaws
mod TakingLaws
