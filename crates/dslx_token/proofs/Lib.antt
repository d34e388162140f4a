mod Digits
mod FittingTokens
mod LastToken
mod LongestTokens
mod NameSets
mod OneReading
mod TokenBytes
mod TokensSoFar
-- brackets
pub mod OnBracketClasses
