-- items of one name
pub mod Namesakes
-- instances that pass the test of equality
pub mod OneInstance
-- items and instances without faults
pub mod Sound
