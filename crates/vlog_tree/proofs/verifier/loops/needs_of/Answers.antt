use Rattle.std.proofs.Common.{◌<◌, ◌≤◌, ℕ, List, [], length, ap, ◌∙◌, arith}
use Rattle.vlog_tree.proofs.OnVerifier.Looping.{needs_begin, needs_step, needs_end, stands}
use Rattle.std.specs.Prelude.{replicate}
use Rattle.vlog_tree.proofs.verifier.loops.needs_of.Goals as goal

pub assignments-init : goal.assignments-init
assignments-init c = needs_begin c.args.design.now c.in_ok-needs.needs.items (c.in_ok-needs.ensures ∙ ap (λ n. replicate {A = List ℕ} n []) c.signal_count.ensures)

pub assignments-preserved : goal.assignments-preserved
assignments-preserved c =
    let m = c.args.design.now in
    let x = c.index-assignments-i.result in
    let inside : c.assignments.i < length c.as_slice-assignments.result.now = omega arith in
    needs_step m c.assignments.i x c.assignments.needs.items c.push_needs.new.needs.items
    (stands m.assignments c.as_slice-assignments.result.now c.assignments.i x c.as_slice-assignments.ensures inside c.index-assignments-i.is)
    c.assignments.invariant c.in_ok-push_needs.ensures

pub returns : goal.returns
returns c =
    let end : length c.args.design.now.assignments ≤ c.assignments.i = omega (arith, ap length c.as_slice-assignments.ensures) in
    needs_end c.args.design.now c.assignments.i c.assignments.needs.items end c.assignments.invariant
