-- what steps do with arms
pub mod Arms
-- how steps change the body that is lowered
pub mod Bodies
-- scopes that differ in what calls resolve to
pub mod Callees
-- how instances are opened and closed, and several steps
pub mod Machines
-- what steps do with several expressions
pub mod Parts
-- what is so at the end
pub mod Reached
-- what each step does
pub mod Steps
-- what is to be done, and where the machine stands
pub mod Tasks
