-- modules whose names are names of texts
pub mod Names
