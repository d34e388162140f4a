-- written types
pub mod Types
-- items over what they mention
pub mod Items
-- what is kept and what is known
pub mod Kept
