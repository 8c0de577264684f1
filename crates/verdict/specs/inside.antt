pub mod DeadWalks
