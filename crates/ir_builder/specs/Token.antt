-- what stands at the front of a text: a word, a number or a mark
pub mod TokenPrefixes
-- the kinds of tokens, by themselves and in a text
pub mod Kinds
-- what numbers and `OP.ID` say
pub mod Said
-- the tokens of a text, and the first character that begins none
pub mod Tokens
-- contracts of this crate's private functions
pub mod Inner
-- rules
pub mod Rules
