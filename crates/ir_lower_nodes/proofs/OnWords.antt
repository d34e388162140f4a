-- operations on words
pub mod OnWords
-- values that are written out
pub mod OnLiterals
