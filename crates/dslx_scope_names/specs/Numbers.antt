-- the arguments of an instance in their scope
pub mod InScope
