pub mod ValueWords
pub mod ValueMessages
