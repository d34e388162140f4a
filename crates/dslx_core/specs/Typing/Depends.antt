-- items on which two global environments agree
pub mod Alike
-- what is seen of the own group
pub mod Groups
