-- what the items of a text are called
pub mod Names
-- names with what they stand for
pub mod Bound
-- keys of instances and of prefixes of parametrics
pub mod Keys
-- keys that are one
pub mod KeyLaws
-- where a walk stands
pub mod Walks
-- what is in scope at a place
pub mod TypeEnvs
-- what a walk comes to
pub mod Typings
-- items that are known with all that they mention
pub mod Kept
-- what functions promise to each other alone
pub mod Inner
-- what is known of a text
pub mod Known
-- what a function of a walk promises
pub mod Judged
-- what instances come to
pub mod Sums
-- first items of names
pub mod Firsts
-- where nothing is known
pub mod Nothing
-- what called names stand for
pub mod Callees
