-- Steps, one after the other.
use Rattle.std.proofs.Common.{◌≡◌, true, List, ◌∷◌, ◌++◌, Option, Some, None, Result, Ok, Err, sym, ap, subst, ◌∙◌, []}
use Rattle.std.specs.Prelude.{OnOk}
use Rattle.xb_value.specs.declared.ty.Ty.{Ty, Bits}
use Rattle.dslx_meaning.specs.Lists.{and_then}
use Rattle.dslx_core.specs.declared.expr.CoreExpr.{CoreExpr}
use Rattle.dslx_core.specs.declared.expr.Shape.{Shape}
use Rattle.dslx_core.specs.declared.step.Step.{Step}
use Rattle.dslx_core.specs.declared.step.Step.TheVariants as step
use Rattle.dslx_core.specs.declared.step.Receive.{Receive}
use Rattle.dslx_core.specs.declared.step.Send.{Send}
use Rattle.dslx_core.specs.Types.Typing.{FunctionTypes, binds_types, if_alike}
use Rattle.dslx_core.specs.Types.Designs.{WordTypes, token_type}
use Rattle.dslx_core.proofs.Lemmas.Types.{alike_itself}
use Rattle.ir_lower_nodes.specs.Exprs.NodeTypes.{if_node, node_type}
use Rattle.ir_lower_nodes.specs.Procs.Instances.{next_node_type}
use Rattle.ir_lower_nodes.specs.Steps.StepTypes.{node_otherwise, pair_type, step_node_binds, steps_node_bind, under_node_condition}

module _ (calls : FunctionTypes) (words : WordTypes) where
  -- one more step
  pub steps_more : (ss all : List Step) (s : Step) (bound some more : List Ty) → all ≡ ss ++ s ∷ [] → steps_node_bind calls words ss bound ≡ Some some → step_node_binds calls words s some ≡ Some more → steps_node_bind calls words all bound ≡ Some more
  steps_more ss all s bound some more is first last = ap (λ xs. steps_node_bind calls words xs bound) is ∙ behind ss bound first
    where
      last_of : and_then (step_node_binds calls words s some) (steps_node_bind calls words []) ≡ Some more
      last_of = ap (λ o. and_then o (steps_node_bind calls words [])) last

      behind : (xs : List Step) (before : List Ty) → steps_node_bind calls words xs before ≡ Some some → steps_node_bind calls words (xs ++ s ∷ []) before ≡ Some more
      behind [] before h = subst (λ ts. and_then (step_node_binds calls words s ts) (steps_node_bind calls words []) ≡ Some more) (sym (some_same before some h)) last_of
        where
          some_same : (xs ys : List Ty) → Some xs ≡ Some ys → xs ≡ ys
          some_same xs ys e = cc
      behind (x ∷ xs) before h = onward (step_node_binds calls words x before) h (behind xs)
        where
          onward : (o : Option (List Ty)) → and_then o (steps_node_bind calls words xs) ≡ Some some
              → ((ts : List Ty) → steps_node_bind calls words xs ts ≡ Some some → steps_node_bind calls words (xs ++ s ∷ []) ts ≡ Some more) → and_then o (steps_node_bind calls words (xs ++ s ∷ [])) ≡ Some more
          onward None e next = absurd (cc)
          onward (Some ts) e next = next ts e

  pub value_bound : (e : CoreExpr) (shape : Shape) (bound more : List Ty) (t : Ty) → node_type e calls bound ≡ Some t → binds_types true shape t bound ≡ Some more → step_node_binds calls words (step.Bind e shape) bound ≡ Some more
  value_bound e shape bound more t first second = ap (λ o. and_then o (λ u. binds_types true shape u bound)) first ∙ second

  pub receive_bound : (r : Receive) (bound more : List Ty) (own word pair : Ty) → words r.member ≡ Some own → if_alike r.word (Some own) ≡ Some word → node_otherwise calls bound word r.condition ≡ Some word → if_node (Some (pair_type word)) ≡ Some pair
      → binds_types true r.shape pair bound ≡ Some more → step_node_binds calls words (step.Receive r) bound ≡ Some more
  receive_bound r bound more own word pair there alike other both binds =
      ap (λ o. and_then (if_alike r.word o) rest) there
      ∙ (ap (λ o. and_then o rest) alike
      ∙ (ap (λ o. and_then o (λ u. and_then (if_node (Some (pair_type u))) (λ p. binds_types true r.shape p bound))) other
      ∙ (ap (λ o. and_then o (λ p. binds_types true r.shape p bound)) both ∙ binds)))
    where
      rest : Ty → Option (List Ty)
      rest t = and_then (node_otherwise calls bound t r.condition) (λ u. and_then (if_node (Some (pair_type u))) (λ p. binds_types true r.shape p bound))

  pub send_bound : (s : Send) (bound more : List Ty) (own word : Ty) → words s.member ≡ Some own → ((t : Option Ty) → under_node_condition calls bound s.condition t ≡ t) → node_type s.word calls bound ≡ Some word → own ≡ word
      → binds_types true s.shape token_type bound ≡ Some more → step_node_binds calls words (step.Send s) bound ≡ Some more
  send_bound s bound more own word there condition typed same binds =
      ap (λ o. and_then o (λ t. and_then (under_node_condition calls bound s.condition (if_alike t (node_type s.word calls bound))) (λ u. binds_types true s.shape token_type bound))) there
      ∙ (ap (λ o. and_then o (λ u. binds_types true s.shape token_type bound)) (condition (if_alike own (node_type s.word calls bound)) ∙ (ap (if_alike own) (typed ∙ ap Some (sym same)) ∙ alike_itself own)) ∙ binds)

  -- a condition that is a bit
  pub condition_so : (c : CoreExpr) (bound : List Ty) (t : Option Ty) → if_alike (Bits 1) (node_type c calls bound) ≡ Some (Bits 1) → under_node_condition calls bound (Some c) t ≡ t
  condition_so c bound t h = ap (λ o. and_then o (λ b. t)) h

  -- the word where nothing is received
  pub other_so : (c e : CoreExpr) (bound : List Ty) (t u : Ty) → if_alike (Bits 1) (node_type c calls bound) ≡ Some (Bits 1) → node_type e calls bound ≡ Some u → t ≡ u → node_otherwise calls bound t (Some (c, e)) ≡ Some t
  other_so c e bound t u bit typed same = condition_so c bound (if_alike t (node_type e calls bound)) bit ∙ (ap (if_alike t) (typed ∙ ap Some (sym same)) ∙ alike_itself t)

-- what follows where a call gives something
pub on_ok : {A E : Type 0} (r : Result A E) (P Q : Type 0) → (P → Q) → OnOk r P → OnOk r Q
on_ok (Ok x) P Q f h = f h
on_ok (Err e) P Q f h = tt

-- the next state behind steps
pub next_typed : (calls : FunctionTypes) (words : WordTypes) (ss : List Step) (next : CoreExpr) (bound more : List Ty) (state t : Ty) → steps_node_bind calls words ss bound ≡ Some more → node_type next calls more ≡ Some t → t ≡ state → next_node_type calls words ss next bound ≡ Some state
next_typed calls words ss next bound more state t first second same = ap (λ o. and_then o (node_type next calls)) first ∙ (second ∙ ap Some same)
