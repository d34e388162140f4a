-- numbers of keys
pub mod Numbers
-- values of prefixes
pub mod Lists
