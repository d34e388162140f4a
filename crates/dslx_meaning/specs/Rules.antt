-- numbers, arrays, tuples and structs
pub mod AggregateRules
-- calls of functions, builtins and effects
pub mod CallRules
-- expressions that must be constant
pub mod ConstantRules
-- blocks, `if`, `match` and `for`
pub mod ControlRules
-- which calls are effects
pub mod EffectNames
-- values that are equal in all their parts
pub mod EqualValues
-- functions, constants, types, structs and enums
pub mod ItemRules
-- judgements
pub mod TypeEnvs
-- what the parts of each sort come to
pub mod Typings
-- what a text names, and which items reach which
pub mod Mentions
-- all faults of a module, and the one that is named
pub mod ModuleRules
-- names
pub mod NameRules
-- items of one name
pub mod Namesakes
-- how many procs and channels a network has
pub mod NetworkLimits
-- the judgement of each tree
pub mod NodeRules
-- operators, casts and slices
pub mod OperatorRules
-- recursion on trees whose steps see the trees of the parts
pub mod Paired
-- patterns
pub mod PatternRules
-- procs
pub mod ProcRules
-- the rules by name
pub mod RuleNumbers
-- written types
pub mod TypeRules
