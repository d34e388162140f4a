-- constants one after another
pub mod Constants
