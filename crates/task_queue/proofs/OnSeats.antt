-- what two seats get from each other, or give back
pub mod Halves
-- and several, one after the other
pub mod Many
-- seats at which their owner was
pub mod Looks
