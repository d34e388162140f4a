-- what a proc mentions in its `config`
pub mod OnMentions
-- orders in which instances stand
pub mod OnOrder
-- instances that are added
pub mod OnAdding
-- the top's instance
pub mod OnTop
