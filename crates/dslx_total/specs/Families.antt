-- procs of a network, and what their `next` is lowered to
pub mod EachElaborated
