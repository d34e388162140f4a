-- ends of lists
pub mod Tails
-- the first of a list
pub mod Tops
