pub mod Falls
pub mod ClockReading
