-- places in tables
pub mod Places
-- items by their numbers and their names
pub mod Firsts
