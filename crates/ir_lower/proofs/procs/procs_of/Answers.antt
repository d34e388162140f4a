use Rattle.std.proofs.Common.{◌∙◌, ◌+◌, [], ◌∷◌, ℕ, length, length-append, sym, ap, subst}
use Rattle.ir_lower.specs.Inner.Made.{AreLowered, IsLoweredAt}
use Rattle.ir_lower.proofs.OnLists.{each_more}
use Rattle.ir_lower.proofs.procs.procs_of.Goals as goal

pub procs-preserved : goal.procs-preserved
procs-preserved c =
    let design = c.args.design.now in
    let made = c.args.made.now in
    record {
      count = ap length c.in_ok-push.ensures.items ∙ (length-append c.procs.procs.items (c.in_ok-proc_at.field-0 ∷ []) ∙ ap (λ (n : ℕ). n + 1) c.procs.invariant.count);
      each = subst (AreLowered c.args.signatures.now design made.net.chans made.instances.items) (sym c.in_ok-push.ensures.items)
          (each_more (IsLoweredAt c.args.signatures.now design made.net.chans made.instances.items) c.procs.procs.items c.in_ok-proc_at.field-0 c.procs.invariant.each
          (subst (λ n. IsLoweredAt c.args.signatures.now design made.net.chans made.instances.items n c.in_ok-proc_at.field-0) (sym c.procs.invariant.count) c.in_ok-proc_at.ensures));
    }

pub returns : goal.returns
returns c = subst (AreLowered c.args.signatures.now c.args.design.now c.args.made.now.net.chans c.args.made.now.instances.items) (sym c.from_vec.ensures) c.procs.invariant.each
