-- texts with which nothing is wrong
pub mod WellTypedTexts
