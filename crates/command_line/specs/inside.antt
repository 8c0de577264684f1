pub mod Form
pub mod Rules
