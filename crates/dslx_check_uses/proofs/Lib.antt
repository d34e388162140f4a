-- parametrics of calls
mod OnArguments
-- calls by their parametrics
mod OnCallees
-- inference
mod OnInference
-- names of fields, and items by their numbers
mod OnFields
-- channels by their names
mod OnChannels
