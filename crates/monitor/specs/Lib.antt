-- What passes through a port, and the lines of what was read.
pub mod Transfers
pub mod HeardLines
-- What is asked for, and how a call ends.
pub mod MonitorRequests
pub mod MonitorCalls
-- Laws of these.
pub mod Laws
-- How the program does it.
pub mod inside
-- Words of contracts further down.
pub mod calls
