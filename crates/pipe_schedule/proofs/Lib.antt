pub mod Least
pub mod Ends
pub mod Walk
pub mod Order
pub mod Schedules
pub mod Ready
pub mod Several
pub mod Placing
pub mod Operands
-- laws
pub mod OnLaws
-- the text of schedules
pub mod OnText
