-- instances that are added behind those that they spawn
pub mod Adding
