use Rattle.std.proofs.Common.{◌≡◌, List, ℕ, drop, map}
use denote.Ref.{Bor}
use Rattle.std.specs.List.{list_any}
use Rattle.dslx_meaning.specs.Lists.{is_in}
use Rattle.dslx_core.specs.Lowering.CoreScopes.{slot_names}
use Rattle.dslx_scope_names.proofs.values.local.is_any_local.Given as goal

abbrev pub invariant-names : goal.invariant-names
invariant-names l = list_any (λ name. is_in name (slot_names l.locals)) (map (λ (name : Bor (List ℕ)). name.now) (drop l.name-index l.names))
    ≡ list_any (λ name. is_in name (slot_names l.locals)) (map (λ (name : Bor (List ℕ)). name.now) l.names)
