pub mod ClockPlanning
