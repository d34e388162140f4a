use Rattle.std.proofs.Common.{◌-◌, List, drop, arith, sym, subst, length, refl}
use Rattle.std.proofs.lemmas.List.{drop_all}
use Rattle.dslx_check_declarations.specs.declared.ends.NamedEnd.{NamedEnd}
use Rattle.dslx_check_declarations.specs.Procs.{AddsEnds}
use Rattle.dslx_check_declarations.proofs.OnProcs.{all_from_end, end_before, from_end, no_ends}
use Rattle.dslx_check_declarations.proofs.procs.add_all.Goals as goal

pub ends-init : goal.ends-init
ends-init c = subst (AddsEnds c.args.s.now c.args.s.now c.args.made.now c.args.made.now) (sym (drop_all ((length c.args.ends.now) - 0) c.args.ends.now (omega arith))) (no_ends c.args.s.now c.args.made.now)

pub ends-preserved : goal.ends-preserved
ends-preserved c =
    let e = c.index-ends-count.result in
    subst (AddsEnds c.args.s.now c.add_one.new.s c.args.made.now c.add_one.new.made) (sym (from_end c.args.ends.now (length c.args.ends.now) c.ends.i _ e refl (omega arith) (omega arith) c.index-ends-count.is))
    (end_before e (drop ((length c.args.ends.now) - c.ends.i) c.args.ends.now) c.ends.invariant c.in_ok-add_one.ensures)

pub returns : goal.returns
returns c = subst (AddsEnds c.args.s.now c.ends.s c.args.made.now c.ends.made) (all_from_end c.args.ends.now (length c.args.ends.now) c.ends.i (omega arith)) c.ends.invariant
