-- what is between the functions of a walk
pub mod Parts
-- loops
pub mod Loops
-- builtins by their forms
pub mod Builtins
