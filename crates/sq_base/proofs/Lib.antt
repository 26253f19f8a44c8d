pub mod AddressLaws
pub mod CommonLaws
mod DistinctLaws
pub mod NumberLaws
pub mod RangeLaws
