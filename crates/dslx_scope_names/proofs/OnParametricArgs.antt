-- which names are constants'
pub mod Constants
-- arguments in their scope, one after the other
pub mod Located
-- parametrics that stand, in either order
pub mod Stands
