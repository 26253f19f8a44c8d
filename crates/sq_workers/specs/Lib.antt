pub mod HubFaults
pub mod Untold
