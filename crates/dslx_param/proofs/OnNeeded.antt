-- instances behind a table
pub mod Behind
-- what is called is needed
pub mod Called
-- nothing comes without an instance that is missing
pub mod Lacking
-- each step of the machine
pub mod Machines
-- what calls resolve to among more instances
pub mod More
-- what comes of the roots
pub mod Roots
