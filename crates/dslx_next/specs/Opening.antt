-- steps that bind nothing yet
pub mod Opened
-- what comes of expressions in the body of a `next`
pub mod Works
