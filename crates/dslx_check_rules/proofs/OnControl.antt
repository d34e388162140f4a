-- blocks, loops and `match`
pub mod OnControl
-- calls and effects
pub mod OnCalls
-- patterns
pub mod OnPatterns
