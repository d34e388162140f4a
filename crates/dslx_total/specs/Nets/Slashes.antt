-- Names without a slash, as identifiers of a text are. A channel that a proc makes has one between the proc's path and its own name.
use Rattle.std.specs.Prelude.{◌≡◌, ◌==◌, ℕ, List, Bool, false, Option, Some}
use Rattle.std.specs.List.{list_any}
use Rattle.dslx_tree.specs.declared.item.Module.{Module}
use Rattle.dslx_tree.specs.declared.process.End.{End}
use Rattle.dslx_tree.specs.declared.process.Proc.{Proc}
use Rattle.dslx_meaning.specs.Network.{top_proc}

-- 47 is the slash
abbrev pub has_slash : List ℕ → Bool
has_slash name = list_any (λ b. b == 47) name

-- no end of the top proc's `config` has a slash in its name
abbrev pub EndsHaveNoSlash : Module → Option (List ℕ) → Type 0
EndsHaveNoSlash m top = (p : Proc) → top_proc m top ≡ Some p → list_any (λ (e : End). has_slash e.name.name) p.config.ends ≡ false
