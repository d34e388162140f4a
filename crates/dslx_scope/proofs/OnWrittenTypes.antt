-- values that are there unless something sees a local
pub mod Unless
-- the induction on written types
pub mod Written
