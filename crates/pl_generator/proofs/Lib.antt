pub mod GeneratedProgram
pub mod Succeeding
pub mod Statements
pub mod Drawing
pub mod Working
pub mod Accepted
pub mod LaidOut
