use Rattle.std.proofs.Common.{◌≡◌, sym, ap, subst, ◌∙◌, Some}
use Rattle.std.specs.Prelude.{slice_get}
use Rattle.ir_tree.specs.SameBehavior.{SameBehavior}
use Rattle.ir_tree.specs.Rules.Verified.{IsVerified}
use Rattle.ir_rebuild.specs.Walks.{EachProcRebuildsTo}
use Rattle.ir_rebuild.proofs.Packages.{AllRebuilt, with_procs, checked_proc, item_there, read_more, all_procs, all_verified, all_same}
use Rattle.ir_rebuild.proofs.Walked.{became_more, all_became}
use Rattle.ir_rebuild.proofs.proc.rebuild.Goals as goal

pub rebuilt-requires : goal.rebuilt-requires
rebuilt-requires g c =
    let items = c.as_slice-proc-items.result.now in
    let proc = c.proc-item.result in
    let i = c.procs.proc-index in
    let there : slice_get c.args.ir.procs i ≡ Some proc = ap (λ xs. slice_get xs i) (sym c.as_slice-proc-items.ensures) ∙ item_there items i proc c.procs-test.true c.proc-item.is in
    (c.args.ir.channels, checked_proc c.args.ir c.requires i proc there)

pub procs-preserved : goal.procs-preserved
procs-preserved g c =
    let items = c.as_slice-proc-items.result.now in
    let proc = c.proc-item.result in
    let i = c.procs.proc-index in
    let there : slice_get c.args.ir.procs i ≡ Some proc = ap (λ xs. slice_get xs i) (sym c.as_slice-proc-items.ensures) ∙ item_there items i proc c.procs-test.true c.proc-item.is in (
      read_more c.args.ir.channels items c.procs.all.items c.push.new.self.items i proc c.in_ok-rebuilt.field-0 c.procs-test.true c.proc-item.is c.in_ok-push.ensures.items c.procs.invariant.0 (c.in_ok-rebuilt.ensures.rebuilt c.args.ir.channels (checked_proc c.args.ir c.requires i proc there)),
      became_more g.R.Rewrite.marks g.R.Rewrite.gives items c.procs.all.items c.push.new.self.items i proc c.in_ok-rebuilt.field-0 c.procs-test.true c.proc-item.is c.in_ok-push.ensures.items c.procs.invariant.1 c.in_ok-rebuilt.ensures.became,
    )

pub returns-clause-verified : goal.returns-clause-verified
returns-clause-verified g c =
    let ir = c.args.ir in
    let each = subst (λ ps. AllRebuilt ir.channels ps c.procs.all.items) c.as_slice-proc-items.ensures (all_procs ir.channels c.as_slice-proc-items.result.now c.procs.all.items c.procs.proc-index c.procs-test.false c.procs.invariant.0) in
    subst (λ qs. IsVerified (with_procs ir qs)) (sym c.from_vec.ensures) (all_verified ir c.procs.all.items c.requires each)

pub returns-clause-same : goal.returns-clause-same
returns-clause-same g c =
    let ir = c.args.ir in
    let each = subst (λ ps. AllRebuilt ir.channels ps c.procs.all.items) c.as_slice-proc-items.ensures (all_procs ir.channels c.as_slice-proc-items.result.now c.procs.all.items c.procs.proc-index c.procs-test.false c.procs.invariant.0) in
    subst (λ qs. SameBehavior ir (with_procs ir qs)) (sym c.from_vec.ensures) (all_same ir c.procs.all.items each)

pub returns-clause-became : goal.returns-clause-became
returns-clause-became g c =
    let marks = g.R.Rewrite.marks in
    let gives = g.R.Rewrite.gives in
    subst (λ qs. EachProcRebuildsTo marks gives c.args.ir.procs qs) (sym c.from_vec.ensures)
    (subst (λ ps. EachProcRebuildsTo marks gives ps c.procs.all.items) c.as_slice-proc-items.ensures
    (all_became marks gives c.as_slice-proc-items.result.now c.procs.all.items c.procs.proc-index c.procs-test.false c.procs.invariant.1))
