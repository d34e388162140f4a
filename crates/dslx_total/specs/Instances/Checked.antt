-- Items of a text that are checked.
use Rattle.std.specs.Prelude.{◌≡◌, ℕ, List, [], ◌∷◌, Bool, true, Option, Some}
use Rattle.std.specs.List.{list_any}
use Rattle.std.specs.Str.{bytes_eq}
use Rattle.dslx_tree.specs.declared.item.Definition.{Definition}
use Rattle.dslx_tree.specs.declared.item.Definition.TheVariants as d
use Rattle.dslx_tree.specs.declared.item.Module.{Module}
use Rattle.dslx_meaning.specs.Items.{item_named}
use Rattle.dslx_meaning.specs.Rules.TypeEnvs.{Instance}
use Rattle.dslx_meaning.specs.Rules.ModuleRules.{instances_of}
use Rattle.dslx_core.specs.Lowering.Functions.{Instantiated}

-- an instance of this name is checked
abbrev pub has_instance : Module → Option (List ℕ) → List ℕ → Bool
has_instance m top name = list_any (λ (i : Instance). bytes_eq name i.name) (instances_of m top)

-- a function or a proc of which an instance is checked, or anything else
abbrev pub is_checked_as : Module → Option (List ℕ) → List ℕ → Option Definition → Bool
is_checked_as m top name (Some (d.Function f)) = has_instance m top name
is_checked_as m top name (Some (d.Proc p)) = has_instance m top name
is_checked_as m top name _ = true

abbrev pub is_checked_item : Module → Option (List ℕ) → List ℕ → Bool
is_checked_item m top name = is_checked_as m top name (item_named name m.items)

-- each of these is of a checked item
abbrev pub AreOfChecked : Module → Option (List ℕ) → List Instantiated → Type 0
AreOfChecked m top [] = Unit {0}
AreOfChecked m top (i ∷ is) = (is_checked_item m top i.name ≡ true) × AreOfChecked m top is
