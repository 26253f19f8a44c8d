mod AggregateLaws
mod BasinLaws
mod DryLaws
mod FlowLaws
mod GenerationLaws
mod GrantLaws
pub mod HistoryLaws
mod SeatLaws
pub mod StandLaws
