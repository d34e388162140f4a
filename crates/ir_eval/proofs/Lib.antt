pub mod Cases
pub mod Kept
mod OneMore
pub mod WalkSteps
-- the same meaning, the same outcomes
pub mod OnOutcomes
