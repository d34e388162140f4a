pub mod LastToken
pub mod OneTree
pub mod OnePackage
pub mod Verdicts
