-- a scope by what code has of it
pub mod Seen
