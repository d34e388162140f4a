-- A step that binds nothing yet has one type by all tables of a text's instances.
use Rattle.std.proofs.Common.{◌≡◌, ◌∙◌, ℕ, List, Option, Some, None, slice_get, ap, sym}
use Rattle.dslx_tree.specs.declared.expr.Expr.{Expr}
use Rattle.dslx_tree.specs.declared.process.End.{End}
use Rattle.dslx_tree.specs.declared.type_expr.TypeExpr.{TypeExpr}
use Rattle.dslx_meaning.specs.Activation.{SiteAct, Computes, SendsWord, SendsWordIf, TakesWord, TakesWordIf}
use Rattle.dslx_meaning.specs.Items.{meanings_of}
use Rattle.dslx_meaning.specs.Lists.{and_then, index_in, where_true}
use Rattle.dslx_meaning.specs.Types.{received}
use Rattle.dslx_meaning.specs.declared.ty.DslxType.{DslxType}
use Rattle.dslx_meaning.specs.declared.ty.DslxType as ty
use Rattle.dslx_core.proofs.Lemmas.Typing.Typed.{same_some}
use Rattle.dslx_core.specs.declared.step.Step.{Step}
use Rattle.dslx_core.specs.Lowering.Functions.{CoreInstance, callee_in}
use Rattle.dslx_core.specs.Lowering.Lowering.{LoweredExpr}
use Rattle.dslx_core.specs.Lowering.Steps.{CoreMember, can_travel, end_names, member_in}
use Rattle.dslx_core.specs.Lowering.Trees.{lower_expression, of_type, lower_type_of_text}
use Rattle.dslx_core.proofs.Lemmas.Lowering.{from_then}
use Rattle.dslx_core.proofs.Lemmas.Machines.Machine.Steady.{type_anywhere}
use Rattle.dslx_instance.specs.declared.tasks.work.BodyWork.{BodyWork}
use Rattle.dslx_param.specs.Needed.{AreOfTable}
use Rattle.dslx_param.proofs.Lemmas.OneType.{ExprsAreMono, one_type_of}
use Rattle.dslx_next.specs.Opening.Opened.{computing, conditional, opened, receiving, sending}
use Rattle.dslx_next.specs.Opening.Works.{opened_at, outer_at, scope_at}
use Rattle.dslx_next.specs.declared.opening.opened.OpenStep.{OpenStep}
use Rattle.dslx_next.specs.declared.opening.work.Conditional.{Conditional}
use Rattle.dslx_next.specs.declared.opening.work.NextScope.{NextScope}

-- the type that a step was opened with
type_of : (s : Step) (t : DslxType) (o : OpenStep) → opened s t ≡ Some o → t ≡ o.ty
type_of s t o e = ap (λ (p : OpenStep). p.ty) (same_some (record { step = s; ty = t }) o e)

module _ (k : NextScope) (w : BodyWork) where
  -- ---- members

  same_word : (t u : List CoreInstance) (word : TypeExpr) → lower_type_of_text word (outer_at k w t) ≡ lower_type_of_text word (outer_at k w u)
  same_word t u word = type_anywhere word (outer_at k w u) (callee_in k.text.now (meanings_of k.text.now) t)

  -- a member by each table
  abbrev member_by : List ℕ → List CoreInstance → Option CoreMember
  member_by c t = member_in (outer_at k w t) k.ends.now c

  same_member : (t u : List CoreInstance) (c : List ℕ) → member_by c t ≡ member_by c u
  same_member t u c =
      λ i. and_then (index_in c (end_names k.ends.now)) (λ n.
      and_then (slice_get k.ends.now n) (λ (e : End).
      and_then (same_word t u e.word i) (λ ty. where_true (can_travel ty) (Some (record { number = n; word = ty })))))

  -- ---- steps

  -- the type of what a step gives that takes a word
  taken_type : (t : List CoreInstance) (c : List ℕ) (f : CoreMember → Option OpenStep) (o : OpenStep) → ((m : CoreMember) → f m ≡ Some o → received m.word ≡ o.ty)
      → and_then (member_by c t) f ≡ Some o → and_then (member_by c t) (λ m. Some (received m.word)) ≡ Some o.ty
  taken_type t c f o is e =
      let m = from_then (member_by c t) f o e in
      ap (λ q. and_then q (λ (m : CoreMember). Some (received m.word))) m.1 ∙ ap Some (is m.0 m.2)

  both_taken : (t u : List CoreInstance) (c : List ℕ) (f g : CoreMember → Option OpenStep) (o q : OpenStep) → ((m : CoreMember) → f m ≡ Some o → received m.word ≡ o.ty)
      → ((m : CoreMember) → g m ≡ Some q → received m.word ≡ q.ty) → and_then (member_by c t) f ≡ Some o → and_then (member_by c u) g ≡ Some q → o.ty ≡ q.ty
  both_taken t u c f g o q is other e h =
      same_some o.ty q.ty (sym (taken_type t c f o is e) ∙ ap (λ p. and_then p (λ (m : CoreMember). Some (received m.word))) (same_member t u c) ∙ taken_type u c g q other h)

  -- what a step gives that takes a word where a condition holds
  takes_if : (m : CoreMember) (b : Option Conditional) (o : OpenStep) → and_then b (λ (b : Conditional). receiving m (Some (b.condition.core, b.value.core))) ≡ Some o → received m.word ≡ o.ty
  takes_if m b o e =
      let x = from_then b (λ (b : Conditional). receiving m (Some (b.condition.core, b.value.core))) o e in
      type_of _ (received m.word) o x.2

  -- what a step gives that sends
  sends : (t : List CoreInstance) (c : List ℕ) (word : CoreMember → Option LoweredExpr) (o : OpenStep) → and_then (member_by c t) (λ m. and_then (word m) (sending m None)) ≡ Some o → ty.Token ≡ o.ty
  sends t c word o e =
      let m = from_then (member_by c t) (λ m. and_then (word m) (sending m None)) o e in
      let x = from_then (word m.0) (sending m.0 None) o m.2 in
      type_of _ ty.Token o x.2

  sends_if : (t : List CoreInstance) (c : List ℕ) (both : CoreMember → Option Conditional) (o : OpenStep)
      → and_then (member_by c t) (λ m. and_then (both m) (λ (b : Conditional). sending m (Some b.condition.core) b.value)) ≡ Some o → ty.Token ≡ o.ty
  sends_if t c both o e =
      let m = from_then (member_by c t) (λ m. and_then (both m) (λ (b : Conditional). sending m (Some b.condition.core) b.value)) o e in
      let x = from_then (both m.0) (λ (b : Conditional). sending m.0 (Some b.condition.core) b.value) o m.2 in
      type_of _ ty.Token o x.2

  -- ---- the whole

  pub opens_one_type : ExprsAreMono → (t u : List CoreInstance) → AreOfTable k.text.now t → AreOfTable k.text.now u → (a : SiteAct) (e : Expr) (o q : OpenStep)
      → opened_at k w a e t ≡ Some o → opened_at k w a e u ≡ Some q → o.ty ≡ q.ty
  opens_one_type mono t u is other Computes e o q at_t at_u =
      let x = from_then (lower_expression e (scope_at k w t)) computing o at_t in
      let y = from_then (lower_expression e (scope_at k w u)) computing q at_u in
      sym (type_of _ x.0.ty o x.2) ∙ one_type_of mono k.text.now t u is other e (scope_at k w t) x.0 y.0 x.1 y.1 ∙ type_of _ y.0.ty q y.2
  opens_one_type mono t u is other (TakesWord c) e o q at_t at_u =
      both_taken t u c (λ m. receiving m None) (λ m. receiving m None) o q (λ m h. type_of _ (received m.word) o h) (λ m h. type_of _ (received m.word) q h) at_t at_u
  opens_one_type mono t u is other (TakesWordIf c p word) e o q at_t at_u =
      both_taken t u c _ _ o q (λ m. takes_if m (conditional m.word p word (scope_at k w t)) o) (λ m. takes_if m (conditional m.word p word (scope_at k w u)) q) at_t at_u
  opens_one_type mono t u is other (SendsWord c word) e o q at_t at_u =
      sym (sends t c (λ m. of_type m.word (lower_expression word (scope_at k w t))) o at_t) ∙ sends u c (λ m. of_type m.word (lower_expression word (scope_at k w u))) q at_u
  opens_one_type mono t u is other (SendsWordIf c p word) e o q at_t at_u =
      sym (sends_if t c (λ m. conditional m.word p word (scope_at k w t)) o at_t) ∙ sends_if u c (λ m. conditional m.word p word (scope_at k w u)) q at_u
