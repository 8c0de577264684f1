pub mod Scenes
pub mod Laws
