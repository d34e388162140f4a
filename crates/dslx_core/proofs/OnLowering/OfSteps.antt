-- The steps of `next` do what its statements do.
use Rattle.std.proofs.Common.{◌≡◌, ◌&&◌, ℕ, zero, suc, Bool, true, false, not, if◌then◌else◌, List, [], ◌∷◌, map, Option, Some, None, refl, sym, ap, subst, ◌∙◌}
use mathlib.Core.Bool.{true≢false}
use Rattle.std.specs.Prelude.{nat_le, slice_get}
use Rattle.std.specs.Str.{bytes_eq}
use Rattle.xb_bits.specs.Word.{Word}
use Rattle.xb_value.specs.declared.ty.Ty.{fold-Ty}
use Rattle.xb_value.specs.declared.value.Value.{Value}
use Rattle.xb_value.specs.declared.value.Value as plain
use Rattle.xb_value.specs.Flat.{flat_of}
use Rattle.xb_value.specs.Typing.{fits}
use Rattle.xb_value.specs.Unflat.{unflat_of}
use Rattle.xb_value.specs.Width.{width_of, widths_step}
use Rattle.xb_value.proofs.Lemmas.Flat.{gives_typed}
use Rattle.net_core.specs.Behavior.{Turn, Skip, Receive, Give}
use Rattle.dslx_tree.specs.declared.block.Block.{out-Block}
use Rattle.dslx_tree.specs.declared.block.Let.{out-Let}
use Rattle.dslx_tree.specs.declared.block.Stmt.{Stmt, out-Stmt}
use Rattle.dslx_tree.specs.declared.block.Stmt.TheOpen.{Stmt-F}
use Rattle.dslx_tree.specs.declared.expr.Expr.{Expr}
use Rattle.dslx_tree.specs.declared.process.End.{End}
use Rattle.dslx_tree.specs.declared.process.Proc.{Proc}
use Rattle.dslx_meaning.specs.Lists.{and_then, index_in, where_true, with_both}
use Rattle.dslx_meaning.specs.Types.{plain_type, received}
use Rattle.dslx_meaning.specs.Values.{at_type, bits_of, from_word, plain_value}
use Rattle.dslx_meaning.specs.Operators.{truth, truth_of}
use Rattle.dslx_meaning.specs.Environment.{Given, Env}
use Rattle.dslx_meaning.specs.Items.{parametric_args_bound}
use Rattle.dslx_meaning.specs.Meaning.{fitted, pattern_denotation, value_of, written_type}
use Rattle.dslx_meaning.specs.Activation.{Activity, Binder, Computes, Further, SendsWord, SendsWordIf, SiteAct, SiteEnv, StmtLayer, TakesWord, TakesWordIf, act_of, activation_of, activity_from, at_an_end, do_act, do_stmt, do_stmts, further, if_on, last_value_of, member_type, pair_with, send_word, state_type_of, take_word, then_goes, word_type_at}
use Rattle.dslx_meaning.specs.declared.ty.DslxType.{DslxType}
use Rattle.dslx_meaning.specs.declared.ty.DslxType as ty
use Rattle.dslx_meaning.specs.declared.value.DslxValue.{DslxValue}
use Rattle.dslx_meaning.specs.declared.value.DslxValue as value
use Rattle.dslx_meaning.specs.declared.value.DslxValue.TheViews as views
use Rattle.dslx_core.proofs.Lemmas.Typing.Laws.{and_true}
use Rattle.dslx_core.specs.Typing.Typed.Kinds.{is_of, tuple_of}
use Rattle.dslx_core.proofs.Lemmas.Typing.Typed.{none_some, of_token, of_tuple, same_some}
use Rattle.dslx_core.specs.CoreValues.{Bindings, Functions, core_value, is_one, taken_apart}
use Rattle.dslx_core.specs.Designs.{Behind, CoreActivity, apart_then, condition_at, do_steps, go_behind, on_or_off, receive_on, send_on, token, turn_before, with_token}
use Rattle.dslx_core.specs.declared.expr.Shape.{Shape}
use Rattle.dslx_core.specs.declared.step.Step.{Step}
use Rattle.dslx_core.specs.declared.step.Step.TheVariants as step
use Rattle.dslx_core.specs.Lowering.CoreScopes.{BodyEnv, CoreScope, with_local}
use Rattle.dslx_core.specs.Lowering.EqualTypes.{equal_type}
use Rattle.dslx_core.specs.Lowering.Lowering.{LoweredExpr}
use Rattle.dslx_core.specs.Lowering.Patterns.{LoweredShape, lower_in_scope}
use Rattle.dslx_core.specs.Lowering.Trees.{lower_expression, of_type, lower_type_of_text}
use Rattle.dslx_core.specs.Lowering.Functions.{parametric_args_are_well_typed, outer_scope}
use Rattle.dslx_core.specs.Lowering.Steps.{BindsInScope, CoreMember, LoweredNext, LoweredSteps, StepsLowering, lower_act, binds_nothing, can_travel, fits_word, lower_compute, end_names, is_sized, last_of_steps, member_in, lower_next, lower_pattern_of_text, lower_receive, lower_send, statement_steps, statements_steps, step_then, steps_from}
use Rattle.dslx_core.specs.Lowering.Activities.{DoesTheSame, NextSimulates}
use Rattle.dslx_core.specs.Lowering.Correspondence.{BothFit, FitLowerPreserves, KeepsValue, BodyEnvSimulates, NeitherFits, SimulatesInScope, env_at}
use Rattle.dslx_core.proofs.OnLowering.FromPlain.{from_plain}
use Rattle.dslx_core.proofs.OnLowering.Joined.{expression_means, pattern_of_text_means, type_of_text_means}
use Rattle.dslx_core.proofs.OnLowering.Kept.{from_both, from_then, from_where, operand, operand_word}
use Rattle.dslx_core.proofs.OnLowering.OfAggregates.{of_its_type}
use Rattle.dslx_core.proofs.OnLowering.OfControl.{truth_is, unit_keeps}
use Rattle.dslx_core.proofs.OnLowering.OfPatterns.{ShapeFits, fits_there, wild_fits}
use Rattle.dslx_core.proofs.OnLowering.OneType.{one_by_test}
use Rattle.dslx_core.proofs.OnLowering.Openings.{plain_token, plain_tuple}
use Rattle.dslx_core.proofs.OnLowering.Slots.{named_simulates}

-- ---- activities

-- where the text's activity ends at once there is nothing to show
nothing_done : (t : DslxType) (c : CoreActivity) → DoesTheSame t at_an_end c
nothing_done t c = record { turns = λ i turn e. none_some turn e; last = λ v e. none_some v e }

-- the same turn first
one_turn_more : (t : DslxType) (turn : Turn) (a : Activity) (c : CoreActivity) → DoesTheSame t a c → DoesTheSame t (then_goes turn a) (turn_before turn c)
one_turn_more t turn a c h = record {
  turns = λ i. later i;
  last = λ v e. let q = h.last v e in (q.0, ap (λ ts. turn ∷ ts) q.1, q.2);
}
  where
    later : (i : ℕ) (u : Turn) → slice_get (turn ∷ a.turns) i ≡ Some u → slice_get (turn ∷ c.turns) i ≡ Some u
    later zero u e = e
    later (suc i) u e = h.turns i u e

-- the same from an equal activity
as_other : (t : DslxType) (a : Activity) (c d : CoreActivity) → d ≡ c → DoesTheSame t a c → DoesTheSame t a d
as_other t a c d e h = subst (DoesTheSame t a) (sym e) h

-- ---- what is bound

-- the rest of the steps does what the rest of the statements does
abbrev StepsMean : Functions → StepsLowering → Further → Type 0
StepsMean calls l rest = (scope : CoreScope) (given : List Given) (bound : Bindings) → SimulatesInScope scope calls given bound → (s : LoweredSteps) → l scope ≡ Some s → (words : List Word)
    → DoesTheSame s.next.ty (rest (env_at scope given) words) (do_steps calls s.steps s.next.core bound words)

-- a value is taken apart, and the rest goes on
goes_on : (calls : Functions) (binds : BindsInScope) (fits : DslxValue → Env → Option Env) → ShapeFits binds fits → (l : StepsLowering) (rest : Further) → StepsMean calls l rest
    → (scope : CoreScope) (given : List Given) (bound : Bindings) → SimulatesInScope scope calls given bound → (t : DslxType) (s : LoweredShape) → binds scope t ≡ Some s → (r : LoweredSteps) → l s.scope ≡ Some r
    → (v : DslxValue) → is_of t v ≡ true → (words : List Word)
    → DoesTheSame r.next.ty (further rest (fits v (env_at scope given)) words) (go_behind (do_steps calls r.steps r.next.core) (taken_apart s.shape (plain_value v) bound) words)
goes_on calls binds fits shapes l rest means scope given bound at t s e r k v of words = by_fit (shapes scope t s e calls given bound at v of)
  where
    by_fit : FitLowerPreserves s.scope calls (fits v (env_at scope given)) (taken_apart s.shape (plain_value v) bound)
        → DoesTheSame r.next.ty (further rest (fits v (env_at scope given)) words) (go_behind (do_steps calls r.steps r.next.core) (taken_apart s.shape (plain_value v) bound) words)
    by_fit (BothFit more others x y z) =
        subst (λ o. DoesTheSame r.next.ty (further rest o words) (go_behind (do_steps calls r.steps r.next.core) (taken_apart s.shape (plain_value v) bound) words)) (sym x)
        (subst (λ p. DoesTheSame r.next.ty (rest (env_at s.scope more) words) (go_behind (do_steps calls r.steps r.next.core) p words)) (sym y) (means s.scope more others z r k words))
    by_fit (NeitherFits x y) =
        subst (λ o. DoesTheSame r.next.ty (further rest o words) (go_behind (do_steps calls r.steps r.next.core) (taken_apart s.shape (plain_value v) bound) words)) (sym x) (nothing_done r.next.ty _)

-- a value that may be missing in the text
goes_with : (calls : Functions) (binds : BindsInScope) (fits : DslxValue → Env → Option Env) → ShapeFits binds fits → (l : StepsLowering) (rest : Further) → StepsMean calls l rest
    → (scope : CoreScope) (given : List Given) (bound : Bindings) → SimulatesInScope scope calls given bound → (t : DslxType) (s : LoweredShape) → binds scope t ≡ Some s → (r : LoweredSteps) → l s.scope ≡ Some r
    → (o : Option DslxValue) (p : Option Value) → ((v : DslxValue) → o ≡ Some v → (is_of t v ≡ true) × (p ≡ Some (plain_value v))) → (words : List Word)
    → DoesTheSame r.next.ty (further rest (and_then o (λ v. fits v (env_at scope given))) words) (apart_then s.shape (do_steps calls r.steps r.next.core) bound p words)
goes_with calls binds fits shapes l rest means scope given bound at t s e r k None p there words = nothing_done r.next.ty _
goes_with calls binds fits shapes l rest means scope given bound at t s e r k (Some v) p there words =
    let q = there v refl in
    subst (λ x. DoesTheSame r.next.ty (further rest (fits v (env_at scope given)) words) (apart_then s.shape (do_steps calls r.steps r.next.core) bound x words)) (sym q.1)
    (goes_on calls binds fits shapes l rest means scope given bound at t s e r k v q.0 words)

-- ---- words

token_of : is_of ty.Token value.Token ≡ true
token_of = of_token value.Token ∙ rw views.outs-Token refl

-- a token and a word
pair_of : (t : DslxType) (v : DslxValue) → is_of t v ≡ true → is_of (received t) (pair_with v) ≡ true
pair_of t v of =
    of_tuple (ty.Token ∷ t ∷ []) (pair_with v) ∙ ap (tuple_of (map is_of (ty.Token ∷ t ∷ []))) (views.outs-Tuple (value.Token ∷ v ∷ []))
    ∙ (λ i. token_of i && (of i && true))

plain_pair : (v : DslxValue) → plain_value (pair_with v) ≡ with_token (plain_value v)
plain_pair v = plain_tuple (value.Token ∷ v ∷ []) ∙ (λ i. plain.Tuple (plain_token i ∷ plain_value v ∷ []))

-- a word that was received
word_received : (t : DslxType) → can_travel t ≡ true → (w : Word) → (is_of t (from_word t w) ≡ true) × (plain_value (from_word t w) ≡ unflat_of (plain_type t) w.value)
word_received t h w =
    let q = and_true (is_sized t) (fits_word (plain_type t)) h in
    let widths = and_true (fold-Ty Bool widths_step (plain_type t)) (nat_le 1 (width_of (plain_type t)) && nat_le (width_of (plain_type t)) 128) q.1 in
    from_plain t q.0 (unflat_of (plain_type t) w.value) (gives_typed (plain_type t) widths.0 w.value)

-- whether a condition holds
condition_is : (scope : CoreScope) (calls : Functions) (given : List Given) (bound : Bindings) → SimulatesInScope scope calls given bound → (p : Expr) (c : LoweredExpr) → lower_expression p scope ≡ Some c → (b : Bool)
    → and_then (value_of p (env_at scope given)) truth ≡ Some b → condition_at calls c.core bound ≡ Some b
condition_is scope calls given bound at p c low b e =
    let v = from_then (value_of p (env_at scope given)) truth b e in
    let x = from_then (bits_of v.0) truth_of b v.2 in
    let has = expression_means p scope calls given bound at c low v.0 v.1 in
    ap (λ o. and_then o is_one) (operand_word c calls bound v.0 x.0 has (operand c.ty v.0 x.0 has.of x.1)) ∙ truth_is x.0 b x.2

-- ---- members

record MemberSimulates (outer : CoreScope) (given : List Given) (ends : List End) (name : List ℕ) (m : CoreMember) : Type 0 where
  pub typed : member_type (env_at outer given) ends name ≡ Some m.word
  pub travels : can_travel m.word ≡ true

member_of_ends : (outer : CoreScope) (calls : Functions) (given : List Given) (bound : Bindings) → SimulatesInScope outer calls given bound → (ends : List End) (name : List ℕ) (k : ℕ) (e : End) (t : DslxType)
    → index_in name (end_names ends) ≡ Some k → slice_get ends k ≡ Some e → lower_type_of_text e.word outer ≡ Some t → member_type (env_at outer given) ends name ≡ Some t
member_of_ends outer calls given bound at [] name k e t p s low = none_some k p
member_of_ends outer calls given bound at (x ∷ ends) name k e t p s low = by_name (bytes_eq name x.name.name) p
    (λ j q r. member_of_ends outer calls given bound at ends name j e t q r low)
  where
    found : Some 0 ≡ Some k → lower_type_of_text x.word outer ≡ Some t
    found q = ap (λ (y : End). lower_type_of_text y.word outer) (same_some x e (ap (slice_get (x ∷ ends)) (same_some 0 k q) ∙ s)) ∙ low

    by_rest : (o : Option ℕ) → index_in name (end_names ends) ≡ o → (if false then Some 0 else (elim o as (λ x. Option ℕ) [ None ↦ None | Some j ↦ Some (suc j) ])) ≡ Some k
        → ((j : ℕ) → index_in name (end_names ends) ≡ Some j → slice_get ends j ≡ Some e → member_type (env_at outer given) ends name ≡ Some t) → member_type (env_at outer given) ends name ≡ Some t
    by_rest None q r rest = none_some k r
    by_rest (Some j) q r rest = rest j q (ap (slice_get (x ∷ ends)) (same_some (suc j) k r) ∙ s)

    by_name : (b : Bool) → (if b then Some 0 else (elim (index_in name (end_names ends)) as (λ x. Option ℕ) [ None ↦ None | Some j ↦ Some (suc j) ])) ≡ Some k
        → ((j : ℕ) → index_in name (end_names ends) ≡ Some j → slice_get ends j ≡ Some e → member_type (env_at outer given) ends name ≡ Some t)
        → (if b then written_type x.word (env_at outer given) else member_type (env_at outer given) ends name) ≡ Some t
    by_name true q rest = type_of_text_means x.word outer calls given bound at t (found q)
    by_name false q rest = by_rest (index_in name (end_names ends)) refl q rest

member_stands : (outer : CoreScope) (calls : Functions) (given : List Given) (bound : Bindings) → SimulatesInScope outer calls given bound → (ends : List End) (name : List ℕ) (m : CoreMember) → member_in outer ends name ≡ Some m
    → MemberSimulates outer given ends name m
member_stands outer calls given bound at ends name m e =
    let k = from_then (index_in name (end_names ends)) (λ k. and_then (slice_get ends k) (λ e. and_then (lower_type_of_text e.word outer) (λ t. where_true (can_travel t) (Some (record { number = k; word = t }))))) m e in
    let x = from_then (slice_get ends k.0) (λ e. and_then (lower_type_of_text e.word outer) (λ t. where_true (can_travel t) (Some (record { number = k.0; word = t })))) m k.2 in
    let t = from_then (lower_type_of_text x.0.word outer) (λ t. where_true (can_travel t) (Some (record { number = k.0; word = t }))) m x.2 in
    let w = from_where (can_travel t.0) (Some (record { number = k.0; word = t.0 })) m t.2 in
    subst (MemberSimulates outer given ends name) (same_some (record { number = k.0; word = t.0 }) m w.1)
    (record { typed = member_of_ends outer calls given bound at ends name k.0 x.0 t.0 k.1 x.1 t.1; travels = w.0 })

-- ---- what an expression does as a statement

-- what a step puts before the rest
with_step : (s : Step) (rest : Option LoweredSteps) (r : LoweredSteps) → step_then s rest ≡ Some r → (q : LoweredSteps) × (rest ≡ Some q) × (record { steps = s ∷ q.steps; next = q.next } ≡ r)
with_step s rest r e =
    let q = from_then rest (λ rest. Some (record { steps = s ∷ rest.steps; next = rest.next })) r e in
    (q.0, q.1, same_some (record { steps = s ∷ q.0.steps; next = q.0.next }) r q.2)

-- the steps of a statement, whatever it binds
abbrev ActMeans : Functions → CoreScope → List Given → List End → (BindsInScope → StepsLowering → StepsLowering) → (SiteEnv → Env → Binder → Further → Further) → Type 0
ActMeans calls outer given ends low act = (binds : BindsInScope) (fits : DslxValue → Env → Option Env) → ShapeFits binds fits → (l : StepsLowering) (rest : Further) → StepsMean calls l rest
    → StepsMean calls (low binds l) (λ env words. act (record { members = ends; env = env_at outer given }) env (λ v. fits v env) rest env words)

-- a value alone
computes_mean : (calls : Functions) (outer : CoreScope) (given : List Given) (ends : List End) (e : Expr)
    → ActMeans calls outer given ends (lower_act outer ends Computes e) (λ site env binds rest. do_act site Computes e binds rest)
computes_mean calls outer given ends e binds fits shapes l rest means scope inner bound at r low words =
    let c = from_then (lower_expression e scope) (λ e. lower_compute e binds l scope) r low in
    let s = from_then (binds scope c.0.ty) (λ s. step_then (step.Bind c.0.core s.shape) (l s.scope)) r c.2 in
    let q = with_step (step.Bind c.0.core s.0.shape) (l s.0.scope) r s.2 in
    subst (λ (x : LoweredSteps). DoesTheSame x.next.ty (further rest (and_then (value_of e (env_at scope inner)) (λ v. fits v (env_at scope inner))) words) (do_steps calls x.steps x.next.core bound words)) q.2
    (goes_with calls binds fits shapes l rest means scope inner bound at c.0.ty s.0 s.1 q.0 q.1 (value_of e (env_at scope inner)) (core_value c.0.core calls bound)
    (λ v k. let has = expression_means e scope calls inner bound at c.0 c.1 v k in (has.of, has.core)) words)

-- a receive that is on
takes_mean : (calls : Functions) (outer : CoreScope) (given : List Given) (ends : List End) (name : List ℕ) (m : CoreMember) → MemberSimulates outer given ends name m
    → (binds : BindsInScope) (fits : DslxValue → Env → Option Env) → ShapeFits binds fits → (l : StepsLowering) (rest : Further) → StepsMean calls l rest
    → (scope : CoreScope) (inner : List Given) (bound : Bindings) → SimulatesInScope scope calls inner bound → (s : LoweredShape) → binds scope (received m.word) ≡ Some s → (q : LoweredSteps) → l s.scope ≡ Some q → (words : List Word)
    → DoesTheSame q.next.ty (take_word (word_type_at (record { members = ends; env = env_at outer given }) name) (λ v. fits v (env_at scope inner)) rest words)
    (receive_on (plain_type m.word) s.shape (do_steps calls q.steps q.next.core) bound words)
takes_mean calls outer given ends name m member binds fits shapes l rest means scope inner bound at s e q k words =
    subst (λ o. DoesTheSame q.next.ty (take_word o (λ v. fits v (env_at scope inner)) rest words) (receive_on (plain_type m.word) s.shape (do_steps calls q.steps q.next.core) bound words)) (sym member.typed) (by_words words)
  where
    by_words : (words : List Word) → DoesTheSame q.next.ty (take_word (Some m.word) (λ v. fits v (env_at scope inner)) rest words) (receive_on (plain_type m.word) s.shape (do_steps calls q.steps q.next.core) bound words)
    by_words [] = record { turns = λ i turn h. h; last = λ v h. none_some v h }
    by_words (w ∷ words) =
        let word = word_received m.word member.travels w in
        let pair = pair_with (from_word m.word w) in
        one_turn_more q.next.ty Receive (further rest (fits pair (env_at scope inner)) words) (apart_then s.shape (do_steps calls q.steps q.next.core) bound (Some (with_token (unflat_of (plain_type m.word) w.value))) words)
        (goes_with calls binds fits shapes l rest means scope inner bound at (received m.word) s e q k (Some pair) (Some (with_token (unflat_of (plain_type m.word) w.value)))
        (λ v h. (
          ap (is_of (received m.word)) (sym (same_some pair v h)) ∙ pair_of m.word (from_word m.word w) word.0,
          ap Some (ap with_token (sym word.1) ∙ sym (plain_pair (from_word m.word w)) ∙ ap plain_value (same_some pair v h)),
        )) words)

-- a token, behind a send or where it is off
token_goes_on : (calls : Functions) (binds : BindsInScope) (fits : DslxValue → Env → Option Env) → ShapeFits binds fits → (l : StepsLowering) (rest : Further) → StepsMean calls l rest
    → (scope : CoreScope) (inner : List Given) (bound : Bindings) → SimulatesInScope scope calls inner bound → (s : LoweredShape) → binds scope ty.Token ≡ Some s → (q : LoweredSteps) → l s.scope ≡ Some q → (words : List Word)
    → DoesTheSame q.next.ty (further rest (fits value.Token (env_at scope inner)) words) (apart_then s.shape (do_steps calls q.steps q.next.core) bound (Some token) words)
token_goes_on calls binds fits shapes l rest means scope inner bound at s e q k words =
    goes_with calls binds fits shapes l rest means scope inner bound at ty.Token s e q k (Some value.Token) (Some token)
    (λ v h. (ap (is_of ty.Token) (sym (same_some value.Token v h)) ∙ token_of, ap Some (sym plain_token ∙ ap plain_value (same_some value.Token v h)))) words

-- a send that is on
sends_mean : (calls : Functions) (word : Expr) (c : LoweredExpr) (binds : BindsInScope) (fits : DslxValue → Env → Option Env) → ShapeFits binds fits → (l : StepsLowering) (rest : Further) → StepsMean calls l rest
    → (scope : CoreScope) (inner : List Given) (bound : Bindings) → SimulatesInScope scope calls inner bound → lower_expression word scope ≡ Some c → (s : LoweredShape) → binds scope ty.Token ≡ Some s
    → (q : LoweredSteps) → l s.scope ≡ Some q → (words : List Word)
    → DoesTheSame q.next.ty (send_word (value_of word (env_at scope inner)) (λ v. fits v (env_at scope inner)) rest words)
    (send_on s.shape (do_steps calls q.steps q.next.core) bound (core_value c.core calls bound) words)
sends_mean calls word c binds fits shapes l rest means scope inner bound at low s e q k words = by_value (value_of word (env_at scope inner)) refl
  where
    by_value : (o : Option DslxValue) → value_of word (env_at scope inner) ≡ o
        → DoesTheSame q.next.ty (send_word o (λ v. fits v (env_at scope inner)) rest words) (send_on s.shape (do_steps calls q.steps q.next.core) bound (core_value c.core calls bound) words)
    by_value None h = nothing_done q.next.ty _
    by_value (Some v) h =
        let has = expression_means word scope calls inner bound at c low v h in
        subst (λ x. DoesTheSame q.next.ty (send_word (Some v) (λ v. fits v (env_at scope inner)) rest words) (send_on s.shape (do_steps calls q.steps q.next.core) bound x words)) (sym has.core)
        (one_turn_more q.next.ty (Give (flat_of (plain_value v))) (further rest (fits value.Token (env_at scope inner)) words) (apart_then s.shape (do_steps calls q.steps q.next.core) bound (Some token) words)
        (token_goes_on calls binds fits shapes l rest means scope inner bound at s e q k words))

-- a site that may be off
on_or_off_mean : (t : DslxType) (c : Option Bool) (d : Option Bool) → ((b : Bool) → c ≡ Some b → d ≡ Some b) → (on : Activity) (core_on : CoreActivity) → DoesTheSame t on core_on
    → (default : Option DslxValue) (binds : Binder) (rest : Further) (words : List Word) (s : Shape) (core_rest : Behind) (bound : Bindings) (off : Option Value)
    → DoesTheSame t (further rest (and_then default binds) words) (apart_then s core_rest bound off words)
    → DoesTheSame t (if_on c on default binds rest words) (on_or_off d core_on s core_rest bound off words)
on_or_off_mean t None d same on core_on h default binds rest words s core_rest bound off otherwise = nothing_done t _
on_or_off_mean t (Some true) d same on core_on h default binds rest words s core_rest bound off otherwise =
    as_other t on core_on (on_or_off d core_on s core_rest bound off words) (ap (λ o. on_or_off o core_on s core_rest bound off words) (same true refl)) h
on_or_off_mean t (Some false) d same on core_on h default binds rest words s core_rest bound off otherwise =
    as_other t (then_goes Skip (further rest (and_then default binds) words)) (turn_before Skip (apart_then s core_rest bound off words)) (on_or_off d core_on s core_rest bound off words)
    (ap (λ o. on_or_off o core_on s core_rest bound off words) (same false refl))
    (one_turn_more t Skip (further rest (and_then default binds) words) (apart_then s core_rest bound off words) otherwise)

-- a receive where a condition may fail
takes_if_mean : (calls : Functions) (outer : CoreScope) (given : List Given) (outside : Bindings) → SimulatesInScope outer calls given outside → (ends : List End) (name : List ℕ) (p other e : Expr)
    → ActMeans calls outer given ends (lower_act outer ends (TakesWordIf name p other) e) (λ site env binds rest. do_act site (TakesWordIf name p other) e binds rest)
takes_if_mean calls outer given outside there ends name p other e binds fits shapes l rest means scope inner bound at r low words =
    let m = from_then (member_in outer ends name) (λ m. with_both (lower_expression p scope) (of_type m.word (lower_expression other scope)) (λ p other. lower_receive m (Some (p, other)) binds l scope)) r low in
    let c = from_both (lower_expression p scope) (of_type m.0.word (lower_expression other scope)) (λ p other. lower_receive m.0 (Some (p, other)) binds l scope) r m.2 in
    let d = of_its_type m.0.word (lower_expression other scope) c.1 c.3 in
    let s = from_then (binds scope (received m.0.word)) (λ s. step_then (step.Receive (record { member = m.0.number; word = plain_type m.0.word; condition = Some (c.0.core, c.1.core); shape = s.shape })) (l s.scope)) r c.4 in
    let q = with_step (step.Receive (record { member = m.0.number; word = plain_type m.0.word; condition = Some (c.0.core, c.1.core); shape = s.0.shape })) (l s.0.scope) r s.2 in
    let member = member_stands outer calls given outside there ends name m.0 m.1 in
    subst (λ (x : LoweredSteps). DoesTheSame x.next.ty (do_act (record { members = ends; env = env_at outer given }) (TakesWordIf name p other) e (λ v. fits v (env_at scope inner)) rest (env_at scope inner) words) (do_steps calls x.steps x.next.core bound words)) q.2
    (on_or_off_mean q.0.next.ty (and_then (value_of p (env_at scope inner)) truth) (condition_at calls c.0.core bound) (condition_is scope calls inner bound at p c.0 c.2)
    (take_word (word_type_at (record { members = ends; env = env_at outer given }) name) (λ v. fits v (env_at scope inner)) rest words)
    (receive_on (plain_type m.0.word) s.0.shape (do_steps calls q.0.steps q.0.next.core) bound words)
    (takes_mean calls outer given ends name m.0 member binds fits shapes l rest means scope inner bound at s.0 s.1 q.0 q.1 words)
    (and_then (value_of other (env_at scope inner)) (λ v. Some (pair_with v))) (λ v. fits v (env_at scope inner)) rest words s.0.shape (do_steps calls q.0.steps q.0.next.core) bound
    (and_then (core_value c.1.core calls bound) (λ v. Some (with_token v)))
    (goes_with calls binds fits shapes l rest means scope inner bound at (received m.0.word) s.0 s.1 q.0 q.1 (and_then (value_of other (env_at scope inner)) (λ v. Some (pair_with v)))
    (and_then (core_value c.1.core calls bound) (λ v. Some (with_token v))) (instead m.0.word c.1 d.0 d.1) words))
  where
    instead : (t : DslxType) (c : LoweredExpr) → lower_expression other scope ≡ Some c → t ≡ c.ty → (v : DslxValue) → and_then (value_of other (env_at scope inner)) (λ v. Some (pair_with v)) ≡ Some v
        → (is_of (received t) v ≡ true) × (and_then (core_value c.core calls bound) (λ v. Some (with_token v)) ≡ Some (plain_value v))
    instead t c lc one v h =
        let w = from_then (value_of other (env_at scope inner)) (λ v. Some (pair_with v)) v h in
        let has = expression_means other scope calls inner bound at c lc w.0 w.1 in (
          ap (is_of (received t)) (sym (same_some (pair_with w.0) v w.2)) ∙ pair_of t w.0 (ap (λ u. is_of u w.0) one ∙ has.of),
          ap (λ o. and_then o (λ v. Some (with_token v))) has.core ∙ ap Some (sym (plain_pair w.0) ∙ ap plain_value (same_some (pair_with w.0) v w.2)),
        )

sends_if_mean : (calls : Functions) (outer : CoreScope) (given : List Given) (ends : List End) (name : List ℕ) (p word e : Expr)
    → ActMeans calls outer given ends (lower_act outer ends (SendsWordIf name p word) e) (λ site env binds rest. do_act site (SendsWordIf name p word) e binds rest)
sends_if_mean calls outer given ends name p word e binds fits shapes l rest means scope inner bound at r low words =
    let m = from_then (member_in outer ends name) (λ m. with_both (lower_expression p scope) (of_type m.word (lower_expression word scope)) (λ p word. lower_send m (Some p) word binds l scope)) r low in
    let c = from_both (lower_expression p scope) (of_type m.0.word (lower_expression word scope)) (λ p word. lower_send m.0 (Some p) word binds l scope) r m.2 in
    let d = of_its_type m.0.word (lower_expression word scope) c.1 c.3 in
    let s = from_then (binds scope ty.Token) (λ s. step_then (step.Send (record { member = m.0.number; condition = Some c.0.core; word = c.1.core; shape = s.shape })) (l s.scope)) r c.4 in
    let q = with_step (step.Send (record { member = m.0.number; condition = Some c.0.core; word = c.1.core; shape = s.0.shape })) (l s.0.scope) r s.2 in
    subst (λ (x : LoweredSteps). DoesTheSame x.next.ty (do_act (record { members = ends; env = env_at outer given }) (SendsWordIf name p word) e (λ v. fits v (env_at scope inner)) rest (env_at scope inner) words) (do_steps calls x.steps x.next.core bound words)) q.2
    (on_or_off_mean q.0.next.ty (and_then (value_of p (env_at scope inner)) truth) (condition_at calls c.0.core bound) (condition_is scope calls inner bound at p c.0 c.2)
    (send_word (value_of word (env_at scope inner)) (λ v. fits v (env_at scope inner)) rest words) (send_on s.0.shape (do_steps calls q.0.steps q.0.next.core) bound (core_value c.1.core calls bound) words)
    (sends_mean calls word c.1 binds fits shapes l rest means scope inner bound at d.0 s.0 s.1 q.0 q.1 words)
    (Some value.Token) (λ v. fits v (env_at scope inner)) rest words s.0.shape (do_steps calls q.0.steps q.0.next.core) bound (Some token)
    (token_goes_on calls binds fits shapes l rest means scope inner bound at s.0 s.1 q.0 q.1 words))

act_means : (calls : Functions) (outer : CoreScope) (given : List Given) (outside : Bindings) → SimulatesInScope outer calls given outside → (ends : List End) (act : SiteAct) (e : Expr)
    → ActMeans calls outer given ends (lower_act outer ends act e) (λ site env binds rest. do_act site act e binds rest)
act_means calls outer given outside there ends Computes e = computes_mean calls outer given ends e
act_means calls outer given outside there ends (TakesWordIf name p other) e = takes_if_mean calls outer given outside there ends name p other e
act_means calls outer given outside there ends (SendsWordIf name p word) e = sends_if_mean calls outer given ends name p word e
act_means calls outer given outside there ends (TakesWord name) e = takes
  where
    takes : ActMeans calls outer given ends (lower_act outer ends (TakesWord name) e) (λ site env binds rest. do_act site (TakesWord name) e binds rest)
    takes binds fits shapes l rest means scope inner bound at r low words =
        let m = from_then (member_in outer ends name) (λ m. lower_receive m None binds l scope) r low in
        let s = from_then (binds scope (received m.0.word)) (λ s. step_then (step.Receive (record { member = m.0.number; word = plain_type m.0.word; condition = None; shape = s.shape })) (l s.scope)) r m.2 in
        let q = with_step (step.Receive (record { member = m.0.number; word = plain_type m.0.word; condition = None; shape = s.0.shape })) (l s.0.scope) r s.2 in
        subst (λ (x : LoweredSteps). DoesTheSame x.next.ty (do_act (record { members = ends; env = env_at outer given }) (TakesWord name) e (λ v. fits v (env_at scope inner)) rest (env_at scope inner) words) (do_steps calls x.steps x.next.core bound words)) q.2
        (takes_mean calls outer given ends name m.0 (member_stands outer calls given outside there ends name m.0 m.1) binds fits shapes l rest means scope inner bound at s.0 s.1 q.0 q.1 words)
act_means calls outer given outside there ends (SendsWord name word) e = sends
  where
    sends : ActMeans calls outer given ends (lower_act outer ends (SendsWord name word) e) (λ site env binds rest. do_act site (SendsWord name word) e binds rest)
    sends binds fits shapes l rest means scope inner bound at r low words =
        let m = from_then (member_in outer ends name) (λ m. and_then (of_type m.word (lower_expression word scope)) (λ word. lower_send m None word binds l scope)) r low in
        let c = from_then (of_type m.0.word (lower_expression word scope)) (λ word. lower_send m.0 None word binds l scope) r m.2 in
        let d = of_its_type m.0.word (lower_expression word scope) c.0 c.1 in
        let s = from_then (binds scope ty.Token) (λ s. step_then (step.Send (record { member = m.0.number; condition = None; word = c.0.core; shape = s.shape })) (l s.scope)) r c.2 in
        let q = with_step (step.Send (record { member = m.0.number; condition = None; word = c.0.core; shape = s.0.shape })) (l s.0.scope) r s.2 in
        subst (λ (x : LoweredSteps). DoesTheSame x.next.ty (do_act (record { members = ends; env = env_at outer given }) (SendsWord name word) e (λ v. fits v (env_at scope inner)) rest (env_at scope inner) words) (do_steps calls x.steps x.next.core bound words)) q.2
        (sends_mean calls word c.0 binds fits shapes l rest means scope inner bound at d.0 s.0 s.1 q.0 q.1 words)

-- ---- statements

statement_means : (calls : Functions) (outer : CoreScope) (given : List Given) (outside : Bindings) → SimulatesInScope outer calls given outside → (ends : List End) (s : StmtLayer) (l : StepsLowering) (rest : Further) → StepsMean calls l rest
    → StepsMean calls (statement_steps outer ends s l) (do_stmt (record { members = ends; env = env_at outer given }) s rest)
statement_means calls outer given outside there ends (Stmt-F.Let l) low rest means =
    act_means calls outer given outside there ends (act_of (out-Let l).value) (out-Let l).value (lower_in_scope (lower_pattern_of_text (out-Let l).pattern)) (fitted (out-Let l).pattern)
    (fits_there (lower_pattern_of_text (out-Let l).pattern) (pattern_denotation (out-Let l).pattern) (pattern_of_text_means (out-Let l).pattern)) low rest means
statement_means calls outer given outside there ends (Stmt-F.Bare e) low rest means =
    act_means calls outer given outside there ends (act_of e) e binds_nothing (λ v env. Some env) wild_fits low rest means

last_means : (calls : Functions) (last : Option Expr) (scope : CoreScope) (given : List Given) (bound : Bindings) → SimulatesInScope scope calls given bound → KeepsValue calls bound (last_of_steps last scope) (last_value_of last (env_at scope given))
last_means calls None scope given bound at = unit_keeps calls bound
last_means calls (Some e) scope given bound at = expression_means e scope calls given bound at

statements_mean : (calls : Functions) (outer : CoreScope) (given : List Given) (outside : Bindings) → SimulatesInScope outer calls given outside → (ends : List End) (ss : List Stmt) (last : Option Expr)
    → StepsMean calls (statements_steps outer ends ss last) (do_stmts (record { members = ends; env = env_at outer given }) ss last)
statements_mean calls outer given outside there ends [] last scope inner bound at r low words =
    let e = from_then (last_of_steps last scope) (λ e. Some (record { steps = []; next = e })) r low in
    subst (λ (x : LoweredSteps). DoesTheSame x.next.ty (record { turns = []; last = last_value_of last (env_at scope inner) }) (do_steps calls x.steps x.next.core bound words)) (same_some (record { steps = []; next = e.0 }) r e.2)
    (record {
      turns = λ i turn h. none_some turn h;
      last = λ v h. let has = last_means calls last scope inner bound at e.0 e.1 v h in (has.of, refl, has.core);
    })
statements_mean calls outer given outside there ends (s ∷ ss) last scope inner bound at r low words =
    statement_means calls outer given outside there ends (out-Stmt s) (statements_steps outer ends ss last) (do_stmts (record { members = ends; env = env_at outer given }) ss last)
    (statements_mean calls outer given outside there ends ss last) scope inner bound at r low words

-- ---- an instance of a proc

pub next_simulates : (known : BodyEnv) (calls : Functions) (p : Proc) (parametric_args : List DslxValue) (l : LoweredNext) → BodyEnvSimulates known calls → known.parametric_args ≡ parametric_args_bound [] p.parametrics parametric_args
    → lower_next known p ≡ Some l → NextSimulates known calls p parametric_args l
next_simulates known calls p parametric_args l stands own low state words typed =
    let w = from_where (parametric_args_are_well_typed known.items known.parametric_args && not (known.items.is_constant p.next.state.name))
    (and_then (lower_type_of_text p.next.ty (outer_scope known)) (λ t. where_true (is_sized t) (steps_from (outer_scope known) p t))) l low in
    let t = from_then (lower_type_of_text p.next.ty (outer_scope known)) (λ t. where_true (is_sized t) (steps_from (outer_scope known) p t)) l w.1 in
    let z = from_where (is_sized t.0) (steps_from (outer_scope known) p t.0) l t.2 in
    let s = from_then (statements_steps (outer_scope known) p.members (out-Block p.next.body).statements (out-Block p.next.body).value (with_local p.next.state.name t.0 (outer_scope known)))
    (λ s. where_true (equal_type t.0 s.next.ty) (Some (record { state = t.0; steps = s.steps; next = s.next.core }))) l z.1 in
    let q = from_where (equal_type t.0 s.0.next.ty) (Some (record { state = t.0; steps = s.0.steps; next = s.0.next.core })) l s.2 in
    let is = same_some (record { state = t.0; steps = s.0.steps; next = s.0.next.core }) l q.1 in
    let free = is_free (known.items.is_constant p.next.state.name) (and_true (parametric_args_are_well_typed known.items known.parametric_args) (not (known.items.is_constant p.next.state.name)) w.0).1 in
    let from = from_plain t.0 z.0 state (ap (λ (x : LoweredNext). fits_state x) is ∙ typed) in
    let at = named_simulates (outer_scope known) calls known.parametric_args [] p.next.state.name t.0 (at_type t.0 state) free from.0 outside in
    let goes = statements_mean calls (outer_scope known) known.parametric_args [] outside p.members (out-Block p.next.body).statements (out-Block p.next.body).value
    (with_local p.next.state.name t.0 (outer_scope known)) (record { name = p.next.state.name; value = at_type t.0 state } ∷ known.parametric_args) (plain_value (at_type t.0 state) ∷ []) at s.0 s.1 words in
    subst (λ (x : LoweredNext). DoesTheSame x.state (activation_of known.items p parametric_args state words) (do_steps calls x.steps x.next (state ∷ []) words)) is
    (subst (λ u. DoesTheSame u (activation_of known.items p parametric_args state words) (do_steps calls s.0.steps s.0.next.core (state ∷ []) words)) (sym (one_by_test t.0 s.0.next.ty q.0))
    (subst (λ v. DoesTheSame s.0.next.ty (activation_of known.items p parametric_args state words) (do_steps calls s.0.steps s.0.next.core (v ∷ []) words)) from.1
    (subst (λ a. DoesTheSame s.0.next.ty a (do_steps calls s.0.steps s.0.next.core (plain_value (at_type t.0 state) ∷ []) words)) (sym (activation_is t.0 (type_of_text_means p.next.ty (outer_scope known) calls known.parametric_args [] outside t.0 t.1))) goes)))
  where
    outside : SimulatesInScope (outer_scope known) calls known.parametric_args []
    outside = record { known = stands; count = refl; slots = refl; hides = stands.hides }

    is_free : (b : Bool) → not b ≡ true → b ≡ false
    is_free false e = refl
    is_free true e = absurd (true≢false (sym e))

    fits_state : LoweredNext → Bool
    fits_state x = fits (plain_type x.state) state

    activity_at : DslxType → List Given → Activity
    activity_at t gs =
        do_stmts (record { members = p.members; env = record { items = known.items; bound = gs } }) (out-Block p.next.body).statements (out-Block p.next.body).value
        (record { items = known.items; bound = record { name = p.next.state.name; value = at_type t state } ∷ gs }) words

    activation_is : (t : DslxType) → written_type p.next.ty (record { items = known.items; bound = known.parametric_args }) ≡ Some t → activation_of known.items p parametric_args state words ≡ activity_at t known.parametric_args
    activation_is t e =
        ap (activity_from known.items p parametric_args state words) (ap (λ gs. written_type p.next.ty (record { items = known.items; bound = gs })) (sym own) ∙ e) ∙ ap (activity_at t) (sym own)

-- the type of the states
pub state_simulates : (known : BodyEnv) (calls : Functions) (p : Proc) (parametric_args : List DslxValue) (l : LoweredNext) → BodyEnvSimulates known calls → known.parametric_args ≡ parametric_args_bound [] p.parametrics parametric_args
    → lower_next known p ≡ Some l → state_type_of known.items p parametric_args ≡ Some l.state
state_simulates known calls p parametric_args l stands own low =
    let w = from_where (parametric_args_are_well_typed known.items known.parametric_args && not (known.items.is_constant p.next.state.name))
    (and_then (lower_type_of_text p.next.ty (outer_scope known)) (λ t. where_true (is_sized t) (steps_from (outer_scope known) p t))) l low in
    let t = from_then (lower_type_of_text p.next.ty (outer_scope known)) (λ t. where_true (is_sized t) (steps_from (outer_scope known) p t)) l w.1 in
    let z = from_where (is_sized t.0) (steps_from (outer_scope known) p t.0) l t.2 in
    let s = from_then (statements_steps (outer_scope known) p.members (out-Block p.next.body).statements (out-Block p.next.body).value (with_local p.next.state.name t.0 (outer_scope known)))
    (λ s. where_true (equal_type t.0 s.next.ty) (Some (record { state = t.0; steps = s.steps; next = s.next.core }))) l z.1 in
    let q = from_where (equal_type t.0 s.0.next.ty) (Some (record { state = t.0; steps = s.0.steps; next = s.0.next.core })) l s.2 in
    let is = same_some (record { state = t.0; steps = s.0.steps; next = s.0.next.core }) l q.1 in
    ap (λ gs. written_type p.next.ty (record { items = known.items; bound = gs })) (sym own)
    ∙ type_of_text_means p.next.ty (outer_scope known) calls known.parametric_args [] (record { known = stands; count = refl; slots = refl; hides = stands.hides }) t.0 t.1
    ∙ ap (λ (x : LoweredNext). Some x.state) is
