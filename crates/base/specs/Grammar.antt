-- rules, grammars as lists of rules, and what a table means
pub mod Syntax
-- derivations, sentences, prefixes and the first fault, of any context-free grammar
pub mod Derivation
-- the computed test that one token of lookahead decides a grammar
pub mod Ll1
-- what a reader answers
pub mod Answer
-- parse trees, and where the trees of a derivation stand
pub mod Tree
-- the steps in which a tree is built
pub mod Steps
-- what functions of this crate promise to one another, and nobody else needs
pub mod Inner
