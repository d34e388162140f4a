use Rattle.std.proofs.Common.{◌≡◌, ◌≤◌, ◌-◌, length}
use Rattle.std.specs.Prelude.{slice_get}
use Rattle.block_stage.specs.Machine.Pipeline.{count_before}
use Rattle.net_samples.specs.Blocks.Samples.{stage_at}
use Rattle.net_samples.proofs.blocks.sample.Sample.first.Given as goal

abbrev pub invariant-loop-place : goal.invariant-loop-place
invariant-loop-place l =
    (l.count ≡ count_before (λ i. stage_at (slice_get l.self.sites.now i)) l.stage l.place)
    × (l.count ≤ l.place)
    × (l.place ≤ length l.self.sites.now)

abbrev pub decreases-loop-place : goal.decreases-loop-place
decreases-loop-place l = length l.self.sites.now - l.place
