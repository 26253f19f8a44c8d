pub mod BankViews
pub mod Basins
pub mod Flows
pub mod Generations
pub mod Granting
pub mod Seats
pub mod Stands
pub mod Turning
