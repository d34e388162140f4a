-- what stands between tokens
pub mod Blank
-- the classes of characters
pub mod Characters
-- the kinds of tokens, by themselves and in a text
pub mod Kinds
-- a token as contracts see it
pub mod Lexeme
-- what the tokens are
pub mod Lexical
-- how a text is refused
pub mod Refusal
-- the words and marks that have a kind of their own
pub mod Spelling
-- the tokens of a text, and the first character that begins none
pub mod Tokens
-- contracts of this crate's private functions
pub mod Inner
-- brackets
pub mod BracketClasses
-- rules
pub mod Rules
