-- Steps one after another.
use Rattle.std.proofs.Common.{◌≡◌, Result, Ok, Err, ℕ, List, [], ◌∷◌, ◌++◌, map, Some, refl, sym, ap, subst, ◌∙◌}
use Rattle.std.specs.Prelude.{OnOk}
use Rattle.std.proofs.lemmas.List.{append_assoc, append-nil}
use Rattle.xb_value.specs.declared.ty.Ty.{Ty}
use Rattle.ir_tree.specs.declared.node.Operand.{Operand}
use Rattle.ir_rebuild.specs.declared.putting.nodes.Nodes.{Nodes}
use Rattle.ir_rebuild.specs.Putting.Types.{ir_type_of}
use Rattle.ir_rebuild.specs.Putting.Given.{OperandsHaveTypes}
use Rattle.dslx_meaning.specs.Lists.{and_then}
use Rattle.dslx_core.specs.CoreValues.{Functions}
use Rattle.dslx_core.specs.Designs.{Behind, do_step, site_of_step, sites_of_steps}
use Rattle.dslx_core.specs.declared.design.Function.{Function}
use Rattle.dslx_core.specs.declared.step.Step.{Step}
use Rattle.dslx_core.specs.Types.Typing.{FunctionTypes}
use Rattle.dslx_core.specs.Types.Designs.{WordTypes}
use Rattle.dslx_core.proofs.Lemmas.Types.{IsThen, then_is}
use Rattle.ir_lower_nodes.specs.Exprs.Calls.{calls_below, types_below}
use Rattle.ir_lower_nodes.specs.Steps.StepTypes.{step_node_binds, steps_node_bind}
use Rattle.ir_lower_nodes.specs.Steps.Steps.{DoLowered, StepLowers, StepsLower}
use Rattle.ir_lower_nodes.specs.Acts.InstanceActivities.{steps_then}
use Rattle.ir_lower_nodes.proofs.OnSteps.OnAlike.{nothing_lowered, lowered_twice}

-- what follows where a call gives something
pub on_ok : {A E : Type 0} (r : Result A E) (P Q : Type 0) → (P → Q) → OnOk r P → OnOk r Q
on_ok (Ok x) P Q f h = f h
on_ok (Err e) P Q f h = tt

same_types : (ts us : List Ty) → Some ts ≡ Some us → ts ≡ us
same_types ts us h = cc

pub steps_none : (fs : List Function) (cs : List ℕ) (before : List Operand) (nodes : Nodes) (from : Operand) → StepsLower fs cs [] before before nodes nodes from from
steps_none fs cs before nodes from signatures n given ir words carry types us built have has binds =
    nothing_lowered ir before nodes from us built (subst (λ ts. OperandsHaveTypes nodes before (map ir_type_of ts)) (same_types types us binds) have) has

bind_split : (calls : FunctionTypes) (words : WordTypes) (ss : List Step) (s : Step) (types us : List Ty) → steps_node_bind calls words (ss ++ s ∷ []) types ≡ Some us → IsThen (steps_node_bind calls words ss types) (step_node_binds calls words s) us
bind_split calls words [] s types us h =
    let found = then_is (step_node_binds calls words s types) (steps_node_bind calls words []) us h in
    record { first = types; is = refl; gives = found.is ∙ found.gives }
bind_split calls words (x ∷ xs) s types us h =
    let found = then_is (step_node_binds calls words x types) (steps_node_bind calls words (xs ++ s ∷ [])) us h in
    let rest = bind_split calls words xs s found.first us found.gives in
    record { first = rest.first; is = ap (λ o. and_then o (steps_node_bind calls words xs)) found.is ∙ rest.is; gives = rest.gives }

sites_split : (cs : List ℕ) (ss : List Step) (s : Step) → sites_of_steps cs (ss ++ s ∷ []) ≡ sites_of_steps cs ss ++ site_of_step cs s
sites_split cs [] s = append-nil (site_of_step cs s)
sites_split cs (x ∷ xs) s = ap (λ ys. site_of_step cs x ++ ys) (sites_split cs xs s) ∙ sym (append_assoc (site_of_step cs x) (sites_of_steps cs xs) (site_of_step cs s))

then_split : (calls : Functions) (ss : List Step) (s : Step) (rest : Behind) → steps_then calls (ss ++ s ∷ []) rest ≡ steps_then calls ss (do_step calls s rest)
then_split calls [] s rest = refl
then_split calls (x ∷ xs) s rest = ap (do_step calls x) (then_split calls xs s rest)

pub steps_more : (fs : List Function) (cs : List ℕ) (ss all : List Step) (s : Step) (before some after : List Operand) (a b c : Nodes) (from mid last : Operand) → all ≡ ss ++ s ∷ [] → StepsLower fs cs ss before some a b from mid → StepLowers fs cs s some after b c mid last → StepsLower fs cs all before after a c from last
steps_more fs cs ss all s before some after a b c from mid last is h k signatures n given ir words carry types us built have has binds =
    subst (λ xs. DoLowered ir (sites_of_steps cs xs) (steps_then (calls_below n fs) xs) before after a c last us) (sym is)
    (subst (λ sites. DoLowered ir sites (steps_then (calls_below n fs) (ss ++ s ∷ [])) before after a c last us) (sym (sites_split cs ss s))
    (subst (λ f. DoLowered ir (sites_of_steps cs ss ++ site_of_step cs s) f before after a c last us) as_one
    (lowered_twice ir (sites_of_steps cs ss) (site_of_step cs s) (steps_then (calls_below n fs) ss) (do_step (calls_below n fs) s) before some after a b c mid last split.first us first second)))
  where
    as_one : (λ rest. steps_then (calls_below n fs) ss (do_step (calls_below n fs) s rest)) ≡ steps_then (calls_below n fs) (ss ++ s ∷ [])
    as_one = λ i rest. sym (then_split (calls_below n fs) ss s rest) i

    split : IsThen (steps_node_bind (types_below n signatures) words ss types) (step_node_binds (types_below n signatures) words s) us
    split = bind_split (types_below n signatures) words ss s types us (ap (λ xs. steps_node_bind (types_below n signatures) words xs types) (sym is) ∙ binds)

    first : DoLowered ir (sites_of_steps cs ss) (steps_then (calls_below n fs) ss) before some a b mid split.first
    first = h signatures n given ir words carry types split.first built have has split.is

    second : DoLowered ir (site_of_step cs s) (do_step (calls_below n fs) s) some after b c last us
    second = k signatures n given ir words carry split.first us first.adds.built first.have first.has split.gives
