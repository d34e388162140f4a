-- several steps, and one more
pub mod Further
-- what is made of what was made last
pub mod Made
-- an instance that is needed
pub mod Needed
-- an instance that is opened
pub mod Opening
