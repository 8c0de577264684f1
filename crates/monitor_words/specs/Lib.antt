-- Who stops whom, and why a task is stuck.
pub mod Stops
pub mod Reasons
-- What is written.
pub mod Words
pub mod Sentences
pub mod Messages
pub mod Faults
-- Laws of messages, and worked ones.
pub mod Laws
pub mod Worked
-- How the program does it: its values, and what it writes of them.
pub mod inside
-- Words of contracts further down: the values that a state has, and that what is written of them is what the definitions say.
pub mod calls
