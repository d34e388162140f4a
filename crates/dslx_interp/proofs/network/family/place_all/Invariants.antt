use Rattle.std.proofs.Common.{◌≡◌, ◌+◌, length}
use Rattle.dslx_interp.specs.Network.Inner.Pending.{ArePending, all_procs, all_chans, all_instances}
use Rattle.dslx_interp.proofs.network.family.place_all.Given as goal

abbrev pub invariant-procs : goal.invariant-procs
invariant-procs l =
    (all_procs l.instances l.family l.pending ≡ all_procs l.instances l.initial.family l.initial.pending)
    × (all_chans l.instances l.family l.pending ≡ all_chans l.instances l.initial.family l.initial.pending)
    × ArePending l.instances (length l.family.chans.items) l.pending
    × (length l.family.procs.items ≡ length l.initial.family.procs.items + l.counter)
    × (all_instances l.instances l.family l.pending ≡ all_instances l.instances l.initial.family l.initial.pending)
