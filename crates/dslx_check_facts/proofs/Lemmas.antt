-- What is said of walks, and of what they come to, as lemmas. This module is for other crates' proofs; nothing else of this folder is.
-- walks that go on
pub mod Walks
-- what is so of a walk, and stays so
pub mod Judged
-- names of items
pub mod Items
-- what names stand for
pub mod Envs
-- the first item of a name
pub mod Firsts
-- what is mentioned
pub mod Mentioned
