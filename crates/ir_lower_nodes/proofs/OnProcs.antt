-- an instance
pub mod OnNext
