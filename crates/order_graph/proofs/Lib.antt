mod TaskBits
mod WordBits
mod RowBits
mod ListPairs
mod TaskRows
mod Climbing
mod NearestTasks
mod NearestWalks
mod OneWalk
pub mod Sending
mod OrderRows
mod MendedLists
mod MendedOrders
pub mod PairEdges
mod WaitSets
