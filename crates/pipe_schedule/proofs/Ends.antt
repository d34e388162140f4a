-- Where the walks over all nodes end.
use Rattle.std.proofs.Common.{◌≡◌, ℕ, zero, suc, ◌≤◌, min, List, [], ◌∷◌, drop, length, refl, arith}
use Rattle.ir_tree.specs.declared.node.Node.{Node}
use Rattle.pipe_schedule.specs.declared.slot.Slot.{Slot}
use Rattle.pipe_schedule.specs.Inner.Slots.{receive_within, stages_of}

pub receive_ended : (last : ℕ) (nodes : List Node) (slots : List Slot) (i : ℕ) → min (length nodes) (length slots) ≤ i → receive_within last (drop i nodes) (stages_of (drop i slots)) ≡ last
receive_ended last [] slots zero h = refl
receive_ended last [] slots (suc i) h = refl
receive_ended last (n ∷ nodes) [] zero h = refl
receive_ended last (n ∷ nodes) (s ∷ slots) zero h = absurd (omega arith)
receive_ended last (n ∷ nodes) [] (suc i) h = nothing last (drop i nodes)
  where
    nothing : (last : ℕ) (ns : List Node) → receive_within last ns [] ≡ last
    nothing last [] = refl
    nothing last (m ∷ ns) = refl
receive_ended last (n ∷ nodes) (s ∷ slots) (suc i) h = receive_ended last nodes slots i (omega arith)
