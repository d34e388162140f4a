-- A scope in a body, as the crate below defines it, passed on.
pub use Rattle.dslx_scope_names.specs.Values.Seen.{scope_with}
