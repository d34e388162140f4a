-- steps that bind nothing yet, and what they bind
pub mod Opens
-- statements, one after another
pub mod Passed
-- a whole `next`
pub mod Ends
