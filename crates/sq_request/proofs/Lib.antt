pub mod EndLaws
mod FieldLaws
mod HeadLaws
mod MadeLaws
mod MethodLaws
pub mod MoreLaws
mod OneLaws
pub mod PairLaws
mod PortLaws
mod TargetLaws
mod TrimLaws
mod WholeLaws
mod WrittenLaws
mod WrittenRows
