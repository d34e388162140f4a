-- Tables in which each instance stands once.
use Rattle.std.specs.Prelude.{◌≡◌, ℕ, List, Some, slice_get}
use Rattle.dslx_core.specs.Lowering.Functions.{CoreInstance, instance_in}

-- each is the one that is found by its name and parametric arguments, at its own index
abbrev pub OccursOnce : List CoreInstance → Type 0
OccursOnce table = (k : ℕ) (i : CoreInstance) → slice_get table k ≡ Some i → instance_in i.name i.parametric_args 0 table ≡ Some (k, i)
