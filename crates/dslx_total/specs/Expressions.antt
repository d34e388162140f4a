-- the scope that matches the type environment
pub mod Beside
-- what each part is lowered to
pub mod ExprLowering
-- instances of functions
pub mod Instances
-- instances in order
pub mod InstanceLists
-- the block of `next`
pub mod NextSteps
-- `next` of instances of procs
pub mod Nexts
-- members of procs
pub mod Members
