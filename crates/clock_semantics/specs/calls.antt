pub mod Making
pub mod ClockTests
pub mod Laws
pub mod WorkedClocks
pub mod ProgramPoints
pub mod ClockUnfolds
