-- Definitions that the contracts cite.
pub mod Audits
pub mod Promised
pub mod JournalLines
pub mod Judging
pub mod Migrating
pub mod Tellable
pub mod FindingText
