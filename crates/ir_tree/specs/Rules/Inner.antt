pub mod Scopes
pub mod Seen
