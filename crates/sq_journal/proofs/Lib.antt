mod AddressLaws
mod AddressPutLaws
mod AskLaws
pub mod EntryLaws
pub mod EscapeLaws
mod EventLaws
mod FieldLaws
mod FieldTextLaws
mod FrontLaws
pub mod JournalLaws
pub mod LineLaws
mod MemLaws
pub mod NumberedLaws
pub mod PutLaws
pub mod PutSameLaws
mod RangeLaws
mod ToldLaws
mod ToldWordLaws
mod WordLaws
