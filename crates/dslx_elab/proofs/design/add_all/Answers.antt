use Rattle.std.proofs.Common.{◌≤◌, ◌+◌, None, Some, [], drop, length, sym, ap, subst, arith}
use Rattle.std.proofs.Math.ListN.{drop_of_length-le}
use Rattle.dslx_core.specs.Lowering.Functions.{Instantiated}
use Rattle.dslx_elab.specs.Adding.{AddsProc, KeepsTable}
use Rattle.dslx_elab.specs.declared.adding.MadeInstances.{MadeInstances}
use Rattle.dslx_elab.proofs.OnDesign.{left_from, step_added, step_missing, steps_added}
use Rattle.dslx_elab.proofs.design.add_all.Goals as goal

pub wanted-init : goal.wanted-init
wanted-init c = (λ o h. h, record { functions = c.new.ensures; procs = c.new-2.ensures.items }, ([], ap Some (sym c.new.ensures)))

pub returns-in-None : goal.returns-in-None
returns-in-None c =
    let text = c.args.text.now in
    let limit = c.args.limit in
    let wanted = c.args.wanted.now in
    let i : Instantiated = c.instance-item.result in
    let first : MadeInstances = record { functions = c.new.result; procs = c.new-2.result } in
    let missing : AddsProc text limit c.wanted.made i None =
    subst (AddsProc text limit c.wanted.made i) c.in-None.is (subst (λ (x : Instantiated). AddsProc text limit c.wanted.made x c.in_ok-more.field-0) c.in_ok-copy_of.ensures c.in_ok-more.ensures.adds) in
    record {
      adds = (
        first,
        c.wanted.invariant.1,
        step_missing text limit first c.wanted.made wanted (drop c.wanted.instance-index wanted) i (drop (c.wanted.instance-index + 1) wanted) c.wanted.invariant.0
            (left_from wanted c.wanted.instance-index i c.wanted-test.true c.instance-item.is) missing,
      );
      table = tt;
    }

pub wanted-preserved : goal.wanted-preserved
wanted-preserved c =
    let text = c.args.text.now in
    let limit = c.args.limit in
    let wanted = c.args.wanted.now in
    let i : Instantiated = c.instance-item.result in
    let first : MadeInstances = record { functions = c.new.result; procs = c.new-2.result } in
    let added : AddsProc text limit c.wanted.made i (Some c.in-Some.more) =
    subst (AddsProc text limit c.wanted.made i) c.in-Some.is (subst (λ (x : Instantiated). AddsProc text limit c.wanted.made x c.in_ok-more.field-0) c.in_ok-copy_of.ensures c.in_ok-more.ensures.adds) in (
      step_added text limit first c.wanted.made c.in-Some.more wanted (drop c.wanted.instance-index wanted) i (drop (c.wanted.instance-index + 1) wanted) c.wanted.invariant.0
          (left_from wanted c.wanted.instance-index i c.wanted-test.true c.instance-item.is) added,
      c.wanted.invariant.1,
      subst (KeepsTable text) c.in-Some.is c.in_ok-more.ensures.table,
    )

pub returns : goal.returns
returns c =
    let wanted = c.args.wanted.now in
    let first : MadeInstances = record { functions = c.new.result; procs = c.new-2.result } in
    let past : length wanted ≤ c.wanted.instance-index = omega (arith, c.wanted-test.false) in
    record {
      adds = (first, c.wanted.invariant.1, steps_added c.args.text.now c.args.limit first c.wanted.made wanted (drop c.wanted.instance-index wanted) c.wanted.invariant.0 (drop_of_length-le wanted past));
      table = c.wanted.invariant.2;
    }
