use Rattle.std.specs.Prelude.{◌≡◌, ℕ, Some, slice_get}
use Rattle.dslx_check_leaves.proofs.fits.ways.put_all.Given as goal
use Rattle.dslx_check_leaves.specs.Fits.Ways.{PutsBehind}

abbrev pub invariant-needs : goal.invariant-needs
invariant-needs l = PutsBehind (λ x. (k : ℕ) × (slice_get l.own k ≡ Some x)) l.fn.queue.items l.queue.items
