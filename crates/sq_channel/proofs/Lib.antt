mod ChannelLaws
mod PlaceLaws
pub mod RisingLaws
pub mod SlotLaws
