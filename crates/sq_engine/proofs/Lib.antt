-- Lemmas, by subject.
pub mod TableLaws
pub mod ConfigLaws
mod BegunLaws
mod HeldLaws
mod PlaceLaws
mod FreshLaws
mod OpenLaws
mod StepLaws
mod LookupLaws
mod ChangedLaws
mod PartLaws
mod ResolveLaws
mod ResolvedLaws
mod HandingLaws
mod KeyLaws
mod LostLaws
mod EndedLaws
mod AskingLaws
mod LosingLaws
mod NowLaws
mod CountLaws
mod EndingLaws
mod LineLaws
pub mod PromiseLaws
mod ReaderLaws
mod QuietLaws
mod StartedLaws
mod ReplyLaws
mod GiveLaws
mod RepliedLaws
mod LeavingLaws
mod OverLaws
mod TakeLaws
mod CloseLaws
mod OnLaws
mod AskLaws
mod ReconfigureLaws
mod ActLaws
