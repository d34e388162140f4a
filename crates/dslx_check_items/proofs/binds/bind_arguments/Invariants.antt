use Rattle.std.proofs.Common.{◌≡◌, ◌-◌, ◌∷◌, [], drop, length}
use Rattle.std.specs.Prelude.{flat_map}
use Rattle.dslx_tree.specs.declared.item.Field.{Field}
use Rattle.dslx_check_items.specs.Inner.Walks.{binding}
use Rattle.dslx_check_items.specs.Inner.Plain.{walk_shown}
use Rattle.dslx_check_items.proofs.binds.bind_arguments.Given as goal

abbrev pub invariant-arguments : goal.invariant-arguments
invariant-arguments l = walk_shown l.w ≡ binding (flat_map (λ (x : Field). x.name.name ∷ []) (drop (length l.arguments - l.i) l.arguments)) (walk_shown l.initial.w)
