pub mod AloneLaws
mod CheckLaws
mod CourseLaws
mod CountLaws
mod Defaults
mod DropLaws
mod EndLaws
pub mod EpochLaws
mod FrameLaws
mod FrameStepLaws
mod GivenLaws
mod MapLaws
mod MemberLaws
pub mod NeedLaws
mod NestLaws
mod PlaceLaws
mod PoolLaws
pub mod RowLaws
mod SeenLaws
mod SlotLaws
pub mod StepLaws
mod TableLaws
mod TagLaws
mod WeightLaws
