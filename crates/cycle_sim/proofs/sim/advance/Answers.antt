use Rattle.std.proofs.Common.{◌≡◌, ◌≤◌, ◌+◌, ◌*◌, ◌<◌, ◌∙◌, length, length-set, ap, All, List, subst, sym, refl, arith}
use Rattle.xb_bits.specs.Word.{Word}
use Rattle.vlog_tree.specs.declared.module.Set.{Set}
use Rattle.vlog_tree.specs.Settled.{widths_of}
use Rattle.vlog_tree.specs.Sound.{IsSoundAssignment}
use Rattle.cycle_sim.specs.Stored.{evaluated}
use Rattle.cycle_sim.proofs.Cycling.{handed, handing, handed_sound, cycling, sets_by}
use Rattle.cycle_sim.proofs.sim.advance.Goals as goal

pub give-requires : goal.give-requires
give-requires c =
    let handed_is = handing c.args.design.now c.args.indices.now c.args.values.now c.args.before.now c.args.row.now c.requires.running c.requires.row in
    rw (c.as_slice.ensures, length-set c.args.values.now 1 c.of_bool.result) handed_is.count

pub settle-requires-clause-sound : goal.settle-requires-clause-sound
settle-requires-clause-sound c =
    let sound = handed_sound c.args.design.now c.args.indices.now c.args.values.now c.args.before.now c.args.row.now c.requires.running c.requires.row in
    let made : c.give.new.values ≡ handed c.args.row.now c.args.values.now = rw (c.give.ensures, c.as_slice.ensures, c.of_bool.ensures) refl in
    subst (λ assignments. All (IsSoundAssignment (length c.give.new.values) (widths_of c.give.new.values)) assignments) (sym c.as_slice-2.ensures)
    (subst (λ words. All (IsSoundAssignment (length words) (widths_of words)) c.args.design.now.assignments) (sym made) sound)

pub clock-requires-clause-targets : goal.clock-requires-clause-targets
clock-requires-clause-targets c =
    let known = cycling c.args.design.now c.args.indices.now c.args.values.now c.args.before.now c.args.row.now c.requires.running c.requires.row in
    let made : c.settle.new.values ≡ evaluated c.args.design.now c.args.indices.now c.args.row.now c.args.values.now =
    rw (c.settle.ensures, c.as_slice-2.ensures, c.give.ensures, c.as_slice.ensures, c.of_bool.ensures) refl in
    subst (λ sets. All (λ set. set.target.0 < length c.settle.new.values) sets) (sym c.sets_of.ensures)
    (subst (λ words. All (λ set. set.target.0 < length words) (sets_by c.args.design.now c.args.row.now.reset)) (sym made) known.targets)
