-- counts
pub mod OnCount
-- families
pub mod OnFamily
-- bodies
pub mod OnBody
-- checked texts that are made
pub mod OnLinked
-- words that are received in these
pub mod OnReceived
