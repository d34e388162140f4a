use Rattle.std.proofs.Common.{◌≡◌, ◌∙◌, [], List, length, take, arith, sym, ap, subst}
use Rattle.std.specs.Prelude.{slice_get}
use Rattle.std.proofs.lemmas.List.{length-take}
use Rattle.dslx_tree.specs.declared.item.Parametric.{Parametric}
use Rattle.dslx_check_facts.specs.declared.type_env.TypeEnv.{TypeEnv as CodeEnv}
use Rattle.dslx_check_facts.specs.Walks.{shown}
use Rattle.dslx_check_declarations.specs.Names.{AreBefore}
use Rattle.dslx_check_declarations.specs.Scopes.{BindsIf}
use Rattle.dslx_check_declarations.proofs.Lemmas.Listed.{names_behind, names_next, take_all, take_next}
use Rattle.dslx_check_judge.specs.Instances.Inner.Parametrics.{ParametricsWalked}
use Rattle.dslx_check_judge.proofs.OnInstances.OnParametrics.{no_parametrics, parametric_name, parametrics_more}
use Rattle.dslx_check_judge.proofs.instances.parametrics.parametrics_seen.Goals as goal

pub parametrics-init : goal.parametrics-init
parametrics-init c = record {
  walked = λ item is. subst (λ (s : CodeEnv). ParametricsWalked c.args.f.now item s (shown c.args.w.now) (shown c.args.w.now) c.none-faults.result [] c.args.values.now) (sym is) (no_parametrics item c.args.values.now c.none-faults.ensures);
  names = c.new-before.ensures;
}

pub parametrics-preserved : goal.parametrics-preserved
parametrics-preserved c =
    let ps = c.args.parametrics.now in
    let i = c.parametrics.i in
    let p = c.index-parametrics-i.result in
    let before = names_behind parametric_name [] (take i ps) in
    let next = take_next ps i p (omega arith) c.index-parametrics-i.is in
    let long : length (take i ps) ≡ i = omega (arith, length-take i ps) in
    record {
      walked = λ item is. subst (λ (l : List Parametric). ParametricsWalked c.args.f.now item c.bind_if.new.s (shown c.args.w.now) (shown c.bind_if.new.w) c.and-faults.result l c.args.values.now) (sym next)
          (parametrics_more item (take i ps) p c.args.values.now (c.parametrics.invariant.walked item is) (c.in_ok-own.ensures before (c.has-is_before.ensures before c.parametrics.invariant.names)) c.and-faults.ensures
          (subst (BindsIf c.args.f.now c.parametric_seen.new.s c.bind_if.new.s (shown c.parametric_seen.new.w) (shown c.bind_if.new.w) p) (c.value_at-value.ensures ∙ ap (slice_get c.args.values.now) (sym long)) c.in_ok-bind_if.ensures));
      names = subst (AreBefore c.put.new.self) (sym (names_next parametric_name [] (take i ps) p) ∙ ap (names_behind parametric_name []) (sym next)) (c.in_ok-put.ensures before c.parametrics.invariant.names);
    }

pub returns : goal.returns
returns c = λ item is.
    subst (λ (l : List Parametric). ParametricsWalked c.args.f.now item c.parametrics.s (shown c.args.w.now) (shown c.parametrics.w) c.parametrics.faults l c.args.values.now) (take_all c.args.parametrics.now c.parametrics.i (omega arith))
    (c.parametrics.invariant.walked item is)
