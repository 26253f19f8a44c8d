mod AheadLaws
mod CopyLaws
mod ExchangeLaws
mod FindLaws
mod HeadLaws
mod LeadLaws
mod PayLaws
mod ReplyLaws
mod RequestLaws
mod SearchLaws
mod WayLaws
pub mod AccessLaws
mod RuleLaws
mod TableLaws
