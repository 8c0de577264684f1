pub mod NamedPlaces
pub mod Laws
pub mod Origins
pub mod OriginTables
pub mod OriginLaws
