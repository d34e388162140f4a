-- the types of what steps bind, where all their parts have types that nodes may have
pub mod StepTypes
-- what is promised of steps that are lowered
pub mod Steps
