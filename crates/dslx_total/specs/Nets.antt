-- networks whatever their channels are named
pub mod Numbered
-- texts whose outer ends have plain names
pub mod Slashes
