pub mod ResourcePlaces
