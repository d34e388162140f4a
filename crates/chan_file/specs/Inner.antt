pub mod Named
pub mod Form
pub mod Number
