pub mod Direct
pub mod Laws
pub mod WorkedRuns
pub mod TextNumbers
pub mod TextLaws
pub mod WorkedTexts
