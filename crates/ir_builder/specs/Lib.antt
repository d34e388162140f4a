-- how a package is built from steps and tokens
pub mod Building
-- nothing built, and parts that aren't there
pub mod Empty
-- what names stand for
pub mod Named
-- what each rule makes of the parts of its symbols
pub mod Rules
-- the tokens of an IR text
pub mod Token
