pub mod Handing
pub mod Lines
pub mod Memory
pub mod Walk
pub mod PipeViews
pub mod Pipes
pub mod Waiting
