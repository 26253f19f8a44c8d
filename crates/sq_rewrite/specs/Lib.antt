-- Definitions that the contracts cite.
pub mod Calls
pub mod Rewritings
pub mod Rounds
pub mod States
pub mod Statuses
pub mod Transcripts
pub mod Handing
pub mod LineViews
pub mod PumpRounds
pub mod Pumps
pub mod RewriterCalls
pub mod Turning
