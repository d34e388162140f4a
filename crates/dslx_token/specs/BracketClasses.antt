-- what each token does to the nesting
pub mod BracketClasses
-- which rule took each token
pub mod Takers
