pub mod Commands
pub mod Ends
pub mod Limits
pub mod Opened
pub mod Outputs
pub mod ParseText
pub mod Pieces
pub mod Serving
-- The definition of a rehearsal: its requests, its driver, and what it comes to.
pub mod Requests
pub mod Going
pub mod Driving
pub mod Summaries
pub mod Rehearsals
pub mod Turns
