-- What is bound behind what was bound before.
use Rattle.std.specs.Prelude.{◌≡◌, ◌++◌, List}
use Rattle.xb_value.specs.declared.ty.Ty.{Ty}

-- some types stand behind those that are bound
pub record AddsTypes (before all : List Ty) : Type 0 where
  pub more : List Ty
  pub are : all ≡ before ++ more
