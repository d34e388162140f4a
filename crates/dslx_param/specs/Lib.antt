-- tables to which an instance was added
pub mod Made
-- instances that are needed, and tables to which none but those were added
pub mod Needed
-- expressions of a body
pub mod Works
-- the whole run
pub mod Run
