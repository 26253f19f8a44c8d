pub mod Found
pub mod Matchers
pub mod Members
pub mod Names
pub mod Patterns
pub mod Programs
pub mod Spans
pub mod Values
