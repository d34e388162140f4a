-- activations with which nothing is wrong
pub mod ActivityGoesOn
-- members of a proc
pub mod Members
