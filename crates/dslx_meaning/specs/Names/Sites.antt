-- what expressions do as statements, without references
pub mod Acts
