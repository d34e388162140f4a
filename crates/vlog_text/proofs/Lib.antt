-- the parser
pub mod OnParser
-- the printer
pub mod OnPrinter
-- the reader
pub mod OnReader
-- what is printed reads back
pub mod OnRoundTrip
-- where the parts of a module stand
pub mod OnSpans
-- building the module of a text of the Verilog subset, from the bottom up
pub mod OnBuilder
-- the tokens of a text of the Verilog subset
pub mod OnToken
