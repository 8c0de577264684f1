mod Lines
mod Found
mod Building
mod Prefixes
mod Comments
mod Names
pub mod Statements
pub mod Sought
pub mod Pushed
pub mod ForkBodies
pub mod BodiesStand
pub mod TasksVisits
pub mod CodesOfVisits
pub mod Growing
pub mod MadeByVisits
pub mod WrittenStatements
pub mod NotingStatements
pub mod ByNumber
pub mod LastVisits
pub mod TurnedVisits
