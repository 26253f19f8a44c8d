pub mod AclLaws
mod ConfTexts
pub mod FactLaws
pub mod FourLaws
mod HeaderLaws
pub mod ListLaws
pub mod LookupLaws
mod MadeLaws
pub mod MemberLaws
pub mod NameLaws
mod PopLaws
pub mod PredefinedTexts
mod ScanLaws
pub mod SightLaws
pub mod TableLaws
pub mod ThreadLaws
mod TokenLaws
pub mod ValueLaws
