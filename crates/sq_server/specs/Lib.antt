pub mod Beginning
pub mod Service
