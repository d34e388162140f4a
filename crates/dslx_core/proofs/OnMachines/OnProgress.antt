-- what a body needs, and that it goes on
pub mod Bodies
-- the instances that are open stand in the other table
pub mod Descent
-- the whole machine goes on
pub mod Machines
-- what comes of a root
pub mod Roots
-- instances that may be opened
pub mod Opens
