-- the order in which the instances of an accepted text's procs are made
pub mod Order
