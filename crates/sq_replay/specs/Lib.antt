-- Definitions that the laws cite, and the contracts of the code that runs scripts.
pub mod Dues
pub mod Ends
pub mod Entering
pub mod Headline
pub mod MachineViews
pub mod Making
pub mod Naming
pub mod Openings
pub mod Riding
pub mod RunText
pub mod Runs
pub mod Steps
