-- what no table has
pub mod Missing
