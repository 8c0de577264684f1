pub mod Listings
pub mod Distances
pub mod ListReasons
pub mod PhaserPlaces
pub mod Reaching
