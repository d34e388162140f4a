-- names of fields
pub mod OnFields
