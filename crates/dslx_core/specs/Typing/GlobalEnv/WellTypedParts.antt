-- Texts whose constants and types are well-typed.
use Rattle.std.specs.Prelude.{◌≡◌, ℕ, List, Some}
use Rattle.dslx_tree.specs.declared.item.Definition.{Definition}
use Rattle.dslx_tree.specs.declared.item.Module.{Module}
use Rattle.dslx_meaning.specs.Items.{item_named}
use Rattle.dslx_meaning.specs.Rules.ModuleRules.{item_found, globals_of}
use Rattle.dslx_core.specs.Typing.Complete.HasValue.{IsWellTypedFound}

-- no rule broken and no limit passed in any of them, and nothing reached that isn't well-typed; functions and procs are
-- typed by their instances
abbrev pub EachItemWellTyped : Module → Type 0
EachItemWellTyped m = (name : List ℕ) (x : Definition) → item_named name m.items ≡ Some x → IsWellTypedFound (globals_of m) (item_found (globals_of m) x)
