-- where the checking of a text stands
pub mod Standing
