use Rattle.std.proofs.Common.{◌≡◌, ◌∙◌, length, ap, sym, arith}
use Rattle.dslx_interp.specs.Network.Inner.Pending.{all_procs}
use Rattle.dslx_interp.proofs.OnNetwork.OnFamily.Families.{all_instances_placed, all_placed}
use Rattle.dslx_interp.proofs.network.family.place_all.Goals as goal

pub returns-clause-chans : goal.returns-clause-chans
returns-clause-chans c =
    let is = c.args.instances.now in
    let kept = c.procs.invariant in
    let end : c.procs.counter ≡ c.args.count = omega (arith, c.procs-test.false, c.procs.auto.counter-end) in
    let count : length (all_procs is c.procs.family c.procs.pending) ≡ length c.procs.family.procs.items =
    omega (arith, ap length kept.0, c.requires.count, kept.3, end) in
    sym (all_placed is (length c.procs.family.chans.items) c.procs.family c.procs.pending kept.2 count) ∙ kept.1

pub returns-clause-instances : goal.returns-clause-instances
returns-clause-instances c =
    let is = c.args.instances.now in
    let kept = c.procs.invariant in
    let end : c.procs.counter ≡ c.args.count = omega (arith, c.procs-test.false, c.procs.auto.counter-end) in
    let count : length (all_procs is c.procs.family c.procs.pending) ≡ length c.procs.family.procs.items =
    omega (arith, ap length kept.0, c.requires.count, kept.3, end) in
    sym (all_instances_placed is (length c.procs.family.chans.items) c.procs.family c.procs.pending kept.2 count) ∙ kept.4
