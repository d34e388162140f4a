-- parametrics, one after the other
pub mod InOrder
