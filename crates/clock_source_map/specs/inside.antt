pub mod VisitNotes
pub mod OpNotes
