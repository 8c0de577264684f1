pub mod Laws
pub mod ParagraphLaws
