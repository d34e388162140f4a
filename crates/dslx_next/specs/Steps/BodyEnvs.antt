-- The environment of the body of a `next`, as the crate below defines it, passed on.
pub use Rattle.dslx_next.specs.Opening.Works.{parametric_args_known}
