use Rattle.std.proofs.Common.{List, subst}
use Rattle.dslx_meaning.specs.Items.{meanings_of}
use Rattle.dslx_core.specs.Networks.Configs.{ProcInstance}
use Rattle.dslx_core.specs.Networks.Procs.{next_proc}
use Rattle.dslx_core.specs.Machines.Extension.Results.{StableFrom, NoTableGives}
use Rattle.dslx_param.specs.Needed.{AddsNeeded, TableMakes}
use Rattle.dslx_elab.proofs.adding.add_missing.Goals as goal

pub returns-in-None : goal.returns-in-None
returns-in-None c =
    subst (λ (l : List ProcInstance). NoTableGives c.args.text.now c.args.limit (λ t. next_proc c.args.text.now (meanings_of c.args.text.now) t l c.args.wanted)) c.as_slice.ensures.value
    (subst (TableMakes c.args.text.now c.args.limit c.args.made.functions (λ t. next_proc c.args.text.now (meanings_of c.args.text.now) t c.as_slice.result.now c.args.wanted)) c.in-None.is c.in_ok-instance.ensures)

pub returns-in_ok-push-in-Some : goal.returns-in_ok-push-in-Some
returns-in_ok-push-in-Some c = record {
  made = c.in-Some.instance;
  comes =
      subst (λ (l : List ProcInstance). StableFrom c.args.text.now c.args.made.functions c.in-Some.functions (λ t. next_proc c.args.text.now (meanings_of c.args.text.now) t l c.args.wanted) c.in-Some.instance)
      c.as_slice.ensures.value
      (subst (TableMakes c.args.text.now c.args.limit c.args.made.functions (λ t. next_proc c.args.text.now (meanings_of c.args.text.now) t c.as_slice.result.now c.args.wanted)) c.in-Some.is c.in_ok-instance.ensures).0;
  adds =
      subst (λ (l : List ProcInstance). AddsNeeded c.args.text.now c.args.limit c.args.made.functions c.in-Some.functions (λ t. next_proc c.args.text.now (meanings_of c.args.text.now) t l c.args.wanted))
      c.as_slice.ensures.value
      (subst (TableMakes c.args.text.now c.args.limit c.args.made.functions (λ t. next_proc c.args.text.now (meanings_of c.args.text.now) t c.as_slice.result.now c.args.wanted)) c.in-Some.is c.in_ok-instance.ensures).1;
  procs = c.in_ok-push-in-Some.ensures.items;
}
