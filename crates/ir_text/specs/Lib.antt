-- the parser
pub mod Parser
-- the printer
pub mod Printer
-- what is printed reads back
pub mod RoundTrip
