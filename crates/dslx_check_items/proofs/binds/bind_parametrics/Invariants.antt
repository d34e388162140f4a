use Rattle.std.proofs.Common.{◌≡◌, ◌-◌, ◌∷◌, [], drop, length}
use Rattle.std.specs.Prelude.{flat_map}
use Rattle.dslx_tree.specs.declared.item.Parametric.{Parametric}
use Rattle.dslx_check_items.specs.Inner.Walks.{binding}
use Rattle.dslx_check_items.specs.Inner.Plain.{walk_shown}
use Rattle.dslx_check_items.proofs.binds.bind_parametrics.Given as goal

abbrev pub invariant-parametrics : goal.invariant-parametrics
invariant-parametrics l = walk_shown l.w ≡ binding (flat_map (λ (x : Parametric). x.name.name ∷ []) (drop (length l.parametrics - l.i) l.parametrics)) (walk_shown l.initial.w)
