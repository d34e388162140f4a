-- what names stand for in a text: what is bound in a scope, its items, and what is called
pub mod OnNames
-- lemmas for other crates
pub mod Lemmas
