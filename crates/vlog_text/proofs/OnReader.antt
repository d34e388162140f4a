pub mod AtParts
pub mod OneModule
