-- scopes in bodies, and which bound values names stand for
pub mod CoreScopes
-- what it means that a core expression simulates an expression of a text
pub mod Correspondence
-- types that are equal in all their parts
pub mod EqualTypes
-- operators, parts and calls
pub mod Lowering
-- patterns, arms, loops and blocks
pub mod Patterns
-- the recursion on trees
pub mod Trees
-- instances of functions
pub mod Functions
-- what it means that instances simulate those of a text
pub mod Instances
-- the steps of `next`
pub mod Steps
-- what it means that steps simulate statements
pub mod Activities
