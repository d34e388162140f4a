-- types that nodes may have
pub mod OnLimits
-- what signatures in a list give
pub mod OnSignatures
-- types of written values
pub mod OnLiterals
-- what patterns bind
pub mod OnBound
-- the types of each kind of expression
pub mod OnKinds
-- the arms of a match
pub mod OnArms
-- steps, one after the other
pub mod OnSteps
-- each function and its signature
pub mod OnFunctions
-- values of a small type, each of which fits some arm
pub mod OnFits
-- types that code found to be the same
pub mod OnSame
