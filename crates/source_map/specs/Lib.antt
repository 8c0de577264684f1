-- Where the bytes of a text stand.
pub mod NamedPlaces
pub mod TextPlaces
pub mod PlaceWords
-- From which statements ops, phasers and tasks come.
pub mod Origins
pub mod Turns
-- How the program finds it: private contracts alone cite these.
pub mod inside
-- Words of contracts further down, which no promise of a program needs.
pub mod calls
