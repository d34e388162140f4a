use Rattle.std.proofs.Common.{◌≡◌, ◌≤◌, ◌+◌, ◌∙◌, ◌++◌, ◌∷◌, [], List, Some, None, ap, sym, length, map, arith}
use Rattle.std.proofs.lemmas.List.{length-append}
use Rattle.dslx_meaning.specs.Items.{meanings_of, parametric_args_bound}
use Rattle.dslx_meaning.specs.declared.value.DslxValue.{DslxValue}
use Rattle.dslx_meaning.specs.Environment.{Given}
use Rattle.dslx_values.specs.Inference.Inferences.{inferred}
use Rattle.dslx_scope_names.proofs.Lemmas.Numbers.InOrder.{all_found, given_first, left_behind, next_found, next_missing, too_many, value_there}
use Rattle.dslx_scope_names.proofs.parametric_args.parametric_args.complete.Goals as goal

pub returns-then-parametrics-len : goal.returns-then-parametrics-len
returns-then-parametrics-len c = too_many (meanings_of c.args.text.now) (map inferred c.args.inferences.now) [] c.args.parametrics.now c.args.parametric_args.items (omega arith)

pub parametrics-init : goal.parametrics-init
parametrics-init c =
    let count : length c.args.parametric_args.items ≡ c.len-i.result = omega arith in
    let fits : length c.args.parametric_args.items ≤ length c.args.parametrics.now = omega arith in
    record {
      count = count;
      fits = omega arith;
      left = ap (left_behind (meanings_of c.args.text.now) (map inferred c.args.inferences.now) c.args.parametrics.now c.args.parametric_args.items) (sym count)
          ∙ given_first (meanings_of c.args.text.now) (map inferred c.args.inferences.now) [] c.args.parametrics.now c.args.parametric_args.items fits;
    }

pub returns-in-None : goal.returns-in-None
returns-in-None c =
    let bound : c.in_ok-bound.bound ≡ parametric_args_bound [] c.args.parametrics.now c.parametrics.parametric_args.items = c.in_ok-bound.ensures ∙ ap (parametric_args_bound [] c.args.parametrics.now) c.as_slice.ensures.value in
    let none : None ≡ value_there (meanings_of c.args.text.now) (map inferred c.args.inferences.now) (parametric_args_bound [] c.args.parametrics.now c.parametrics.parametric_args.items) c.index-parametrics-i.result =
    sym c.in-None.is ∙ c.in_ok-number.ensures ∙ ap (λ (g : List Given). value_there (meanings_of c.args.text.now) (map inferred c.args.inferences.now) g c.index-parametrics-i.result) bound in
    next_missing (meanings_of c.args.text.now) (map inferred c.args.inferences.now) c.args.parametrics.now c.parametrics.parametric_args.items c.parametrics.i c.index-parametrics-i.result (omega arith)
    c.index-parametrics-i.is none ∙ c.parametrics.invariant.left

pub parametrics-preserved : goal.parametrics-preserved
parametrics-preserved c =
    let pushed : c.push.new.self.items ≡ c.parametrics.parametric_args.items ++ c.in-Some.number ∷ [] = c.in_ok-push-in-Some.ensures.items in
    let count : length c.push.new.self.items ≡ c.parametrics.i + 1 = omega (arith, ap length pushed, length-append c.parametrics.parametric_args.items (c.in-Some.number ∷ []), c.parametrics.invariant.count) in
    let bound : c.in_ok-bound.bound ≡ parametric_args_bound [] c.args.parametrics.now c.parametrics.parametric_args.items = c.in_ok-bound.ensures ∙ ap (parametric_args_bound [] c.args.parametrics.now) c.as_slice.ensures.value in
    let found : Some c.in-Some.number ≡ value_there (meanings_of c.args.text.now) (map inferred c.args.inferences.now) (parametric_args_bound [] c.args.parametrics.now c.parametrics.parametric_args.items) c.index-parametrics-i.result =
    sym c.in-Some.is ∙ c.in_ok-number.ensures ∙ ap (λ (g : List Given). value_there (meanings_of c.args.text.now) (map inferred c.args.inferences.now) g c.index-parametrics-i.result) bound in
    record {
      count = count;
      fits = omega arith;
      left = ap (λ (vs : List DslxValue). left_behind (meanings_of c.args.text.now) (map inferred c.args.inferences.now) c.args.parametrics.now vs (c.parametrics.i + 1)) pushed
          ∙ next_found (meanings_of c.args.text.now) (map inferred c.args.inferences.now) c.args.parametrics.now c.parametrics.parametric_args.items c.parametrics.i c.index-parametrics-i.result c.in-Some.number
          c.parametrics.invariant.count (omega arith) c.index-parametrics-i.is found
          ∙ c.parametrics.invariant.left;
    }

pub returns : goal.returns
returns c =
    ap Some c.from_vec.ensures
    ∙ all_found (meanings_of c.args.text.now) (map inferred c.args.inferences.now) c.args.parametrics.now c.parametrics.parametric_args.items c.parametrics.i (omega arith) ∙ c.parametrics.invariant.left
