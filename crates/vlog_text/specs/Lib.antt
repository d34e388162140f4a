-- the parser
pub mod Parser
-- the printer
pub mod Printer
-- the reader
pub mod Reader
-- what is printed reads back
pub mod RoundTrip
-- building the module of a text of the Verilog subset, from the bottom up
pub mod Builder
-- the tokens of a text of the Verilog subset
pub mod Token
