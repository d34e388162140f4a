pub mod TokenPrefixes
pub mod Names
