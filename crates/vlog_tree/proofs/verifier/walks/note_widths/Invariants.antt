use Rattle.std.proofs.Common.{◌≡◌, ℕ, [], ◌∷◌, drop, get_or}
use Rattle.vlog_tree.specs.Verifier.Checks.{noted, walk, width_at}
use Rattle.vlog_tree.proofs.verifier.walks.note_widths.Given as goal

abbrev pub invariant-widths : goal.invariant-widths
invariant-widths l =
    noted l.held (walk (λ _ i width. width_at (get_or l.ends i 0) width ∷ []) (λ (seen : ℕ) _. seen) 0 l.i (drop l.i l.widths))
    ≡ noted l.fn.held (walk (λ _ i width. width_at (get_or l.ends i 0) width ∷ []) (λ (seen : ℕ) _. seen) 0 0 l.widths)
