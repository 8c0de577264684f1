pub mod WaitPlaces
