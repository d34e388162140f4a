-- texts with which nothing is wrong
pub mod WellTypedNexts
