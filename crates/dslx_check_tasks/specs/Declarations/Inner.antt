-- parts of declarations
pub mod Foreign
