-- What comes of one work behind another.
use Rattle.std.proofs.Common.{◌≡◌, ◌∙◌, Bool, true, false, List, Option, Some, None, reverse, refl, ap, sym}
use Rattle.dslx_tree.specs.declared.expr.Expr.{Expr}
use Rattle.dslx_meaning.specs.Items.{meanings_of}
use Rattle.dslx_meaning.specs.Lists.{and_then, where_true}
use Rattle.dslx_meaning.specs.declared.ty.DslxType.{DslxType}
use Rattle.dslx_core.specs.Lowering.CoreScopes.{CoreScope}
use Rattle.dslx_core.specs.Lowering.EqualTypes.{equal_type}
use Rattle.dslx_core.specs.Lowering.Functions.{CoreInstance, callee_in}
use Rattle.dslx_core.specs.Lowering.Lowering.{LoweredExpr}
use Rattle.dslx_core.specs.Lowering.Steps.{CoreMember}
use Rattle.dslx_core.specs.Lowering.Trees.{lower_expression, of_type}
use Rattle.dslx_core.specs.Machines.Machine.Reached.{IsTable}
use Rattle.dslx_core.proofs.Lemmas.Machines.Machine.Instances.{begins_further, begins_itself}
use Rattle.dslx_core.proofs.Lemmas.Typing.Typed.{none_some}
use Rattle.dslx_instance.specs.declared.tasks.work.BodyWork.{BodyWork}
use Rattle.dslx_core.proofs.Lemmas.Machines.Extension.Coming.{never_as, never_at_once, never_behind, never_then}
use Rattle.dslx_core.proofs.Lemmas.Machines.Extension.Growing.{grows_itself, grows_on}
use Rattle.dslx_core.proofs.Lemmas.Machines.Extension.OneType.{one_type}
use Rattle.dslx_param.specs.Needed.{AddsNeeded}
use Rattle.dslx_param.specs.Works.{IsLowered, IsNone, LowerResult}
use Rattle.dslx_param.proofs.Lemmas.Growing.{NoneOf, adds_for, adds_nothing, adds_then}
use Rattle.dslx_next.specs.Opening.Works.{HasTable, IsThere, BodyMakes, scope_at}
use Rattle.dslx_next.specs.Opening.Opened.{conditional}
use Rattle.dslx_next.specs.declared.opening.opened.OpenStep.{OpenStep}
use Rattle.dslx_next.specs.declared.opening.work.Conditional.{Conditional}
use Rattle.dslx_next.specs.declared.opening.work.NextScope.{NextScope}

-- ---- the same scope

pub there_itself : (w : BodyWork) → IsThere w w
there_itself w = record { parametric_args = refl; locals = refl; count = refl }

pub there_on : (a b c : BodyWork) → IsThere a b → IsThere b c → IsThere a c
there_on a b c first second = record {
  parametric_args = second.parametric_args ∙ first.parametric_args;
  locals = second.locals ∙ first.locals;
  count = second.count ∙ first.count;
}

pub same_scope : (k : NextScope) (w w' : BodyWork) (t : List CoreInstance) → IsThere w w' → scope_at k w' t ≡ scope_at k w t
same_scope k w w' t e = λ i. record {
  known = record { items = meanings_of k.text.now; parametric_args = reverse (e.parametric_args i); callee = callee_in k.text.now (meanings_of k.text.now) t };
  locals = e.locals i;
  count = e.count i;
}

-- ---- one work

pub lower_there : (k : NextScope) (w : BodyWork) (e : Expr) (o : Option (LoweredExpr × BodyWork)) → LowerResult k.text.now k.limit w e o → BodyMakes k w (λ t. lower_expression e (scope_at k w t)) o
lower_there k w e o (IsNone none) = none
lower_there k w e o (IsLowered r after is grown parametric_args locals count some adds) =
    (record { grows = record { is_table = is; begins = grown }; some = some }, record { parametric_args = parametric_args; locals = locals; count = count }, adds)

pub has_still : {A : Type 0} (k : NextScope) (w w' : BodyWork) (f : List CoreInstance → Option A) (a : A) → BodyMakes k w f (Some (a, w')) → HasTable k w'
has_still k w w' f a made = made.0.grows.is_table

pub makes_as : {A : Type 0} (k : NextScope) (w : BodyWork) (f g : List CoreInstance → Option A) (o : Option (A × BodyWork)) → ((t : List CoreInstance) → g t ≡ f t) → BodyMakes k w f o → BodyMakes k w g o
makes_as k w f g None e made = never_as k.text.now k.limit f g e made
makes_as k w f g (Some (a, after)) e made =
    (record { grows = made.0.grows; some = λ t from. e t ∙ made.0.some t from }, made.1, adds_for k.text.now k.limit w.table after.table f g (λ t is none. e t ∙ none) made.2)

-- nothing is added
pub nothing_added : {A : Type 0} (k : NextScope) (w : BodyWork) (f : List CoreInstance → Option A) → AddsNeeded k.text.now k.limit w.table w.table f
nothing_added k w f = adds_nothing k.text.now k.limit w.table f

-- what is there by each table needs no more instances
pub made_at_once : {A : Type 0} (k : NextScope) (w : BodyWork) (f : List CoreInstance → Option A) (a : A) → HasTable k w → ((t : List CoreInstance) → f t ≡ Some a) → BodyMakes k w f (Some (a, w))
made_at_once k w f a has some = (record { grows = grows_itself k.text.now w.table has; some = λ t from. some t }, there_itself w, nothing_added k w f)

-- ---- two

-- a value, and then another one, without which there is nothing
pub makes_then : {A B : Type 0} (k : NextScope) (w w' after : BodyWork) (f : List CoreInstance → Option A) (g : A → List CoreInstance → Option B) (a : A) (b : B)
    → NoneOf k.text.now (g a) (λ t. and_then (f t) (λ a. g a t)) → BodyMakes k w f (Some (a, w')) → BodyMakes k w' (g a) (Some (b, after)) → BodyMakes k w (λ t. and_then (f t) (λ a. g a t)) (Some (b, after))
makes_then k w w' after f g a b none first rest = (
  record {
    grows = grows_on k.text.now w.table w'.table after.table first.0.grows rest.0.grows;
    some = λ t from. ap (λ o. and_then o (λ a. g a t)) (first.0.some t (begins_further w'.table after.table t rest.0.grows.begins from)) ∙ rest.0.some t from;
  },
  there_on w w' after first.1 rest.1,
  adds_then k.text.now k.limit w.table w'.table after.table f (g a) (λ t. and_then (f t) (λ a. g a t)) (λ t is e. ap (λ o. and_then o (λ a. g a t)) e) none first.2 rest.2,
)

-- a value that another one comes of
pub makes_value : {A B : Type 0} (k : NextScope) (w w' : BodyWork) (f : List CoreInstance → Option A) (g : A → Option B) (a : A) (b : B)
    → BodyMakes k w f (Some (a, w')) → g a ≡ Some b → BodyMakes k w (λ t. and_then (f t) g) (Some (b, w'))
makes_value k w w' f g a b first e = (
  record { grows = first.0.grows; some = λ t from. ap (λ o. and_then o g) (first.0.some t from) ∙ e },
  first.1,
  adds_for k.text.now k.limit w.table w'.table f (λ t. and_then (f t) g) (λ t is none. ap (λ o. and_then o g) none) first.2,
)

-- nothing that anything comes of
pub never_made : {A B : Type 0} (k : NextScope) (w : BodyWork) (f : List CoreInstance → Option A) (g : A → Option B) → BodyMakes k w f None → BodyMakes k w (λ t. and_then (f t) g) None
never_made k w f g never = never_then k.text.now k.limit f (λ a t. g a) never

-- ---- types

-- an expression has one type by all tables
pub lowered_types : (k : NextScope) (w w' : BodyWork) (e : Expr) (r s : LoweredExpr) (t : List CoreInstance) → BodyMakes k w (λ t. lower_expression e (scope_at k w t)) (Some (r, w'))
    → IsTable k.text.now (meanings_of k.text.now) t → lower_expression e (scope_at k w t) ≡ Some s → s.ty ≡ r.ty
lowered_types k w w' e r s t made is by_table =
    one_type k.text.now t w'.table is made.0.grows.is_table e (scope_at k w t) s r by_table (made.0.some w'.table (begins_itself w'.table))

-- one of another type is none of this type
of_no_type : (k : NextScope) (w w' : BodyWork) (e : Expr) (ty : DslxType) (r : LoweredExpr) → BodyMakes k w (λ t. lower_expression e (scope_at k w t)) (Some (r, w')) → equal_type ty r.ty ≡ false
    → BodyMakes k w (λ t. of_type ty (lower_expression e (scope_at k w t))) None
of_no_type k w w' e ty r made other =
    never_behind k.text.now k.limit (λ t. lower_expression e (scope_at k w t)) (λ (s : LoweredExpr) t. where_true (equal_type ty s.ty) (Some s))
    (λ t is small s by_table. ap (λ b. where_true b (Some s)) (ap (equal_type ty) (lowered_types k w w' e r s t made is by_table) ∙ other))

-- one whose type was compared
pub of_this_type : (k : NextScope) (w w' : BodyWork) (e : Expr) (ty : DslxType) (r : LoweredExpr) (alike : Bool) → BodyMakes k w (λ t. lower_expression e (scope_at k w t)) (Some (r, w')) → alike ≡ equal_type ty r.ty
    → BodyMakes k w (λ t. of_type ty (lower_expression e (scope_at k w t))) (where_true alike (Some (r, w')))
of_this_type k w w' e ty r true made is =
    makes_value k w w' (λ t. lower_expression e (scope_at k w t)) (λ (s : LoweredExpr). where_true (equal_type ty s.ty) (Some s)) r r made (ap (λ b. where_true b (Some r)) (sym is))
of_this_type k w w' e ty r false made is = of_no_type k w w' e ty r made (sym is)

-- ---- a condition and its value

-- what they are together
abbrev pub paired : LoweredExpr → Option (LoweredExpr × BodyWork) → Option (Conditional × BodyWork)
paired c None = None
paired c (Some (v, after)) = Some (record { condition = c; value = v }, after)

abbrev pub with_condition : Option LoweredExpr → LoweredExpr → Option Conditional
with_condition o c = and_then o (λ v. Some (record { condition = c; value = v }))

-- without a value there is nothing, whatever the condition
without_value : (o q : Option LoweredExpr) (c : LoweredExpr) → with_condition o c ≡ None → and_then q (with_condition o) ≡ None
without_value None None c e = refl
without_value None (Some d) c e = refl
without_value (Some v) q c e = none_some (record { condition = c; value = v }) (sym e)

pub conditional_made : (k : NextScope) (w w' : BodyWork) (ty : DslxType) (c e : Expr) (x : LoweredExpr) (o : Option (LoweredExpr × BodyWork)) → BodyMakes k w (λ t. lower_expression c (scope_at k w t)) (Some (x, w'))
    → BodyMakes k w' (λ t. of_type ty (lower_expression e (scope_at k w' t))) o → BodyMakes k w (λ t. conditional ty c e (scope_at k w t)) (paired x o)
conditional_made k w w' ty c e x o first rest = by o (makes_as k w' (λ t. of_type ty (lower_expression e (scope_at k w' t))) of_this_type o (λ t. ap (λ p. of_type ty (lower_expression e p)) (sym (same_scope k w w' t first.1))) rest)
  where
    of_this_type : List CoreInstance → Option LoweredExpr
    of_this_type t = of_type ty (lower_expression e (scope_at k w t))

    by : (o : Option (LoweredExpr × BodyWork)) → BodyMakes k w' of_this_type o → BodyMakes k w (λ t. conditional ty c e (scope_at k w t)) (paired x o)
    by None never =
        never_behind k.text.now k.limit (λ t. lower_expression c (scope_at k w t)) (λ c t. with_condition (of_this_type t) c)
        (λ t is small a by_table. ap (λ o. with_condition o a) (never t is small))
    by (Some (v, after)) made =
        makes_then k w w' after (λ t. lower_expression c (scope_at k w t)) (λ c t. with_condition (of_this_type t) c) x (record { condition = x; value = v })
        (λ t is e. without_value (of_this_type t) (lower_expression c (scope_at k w t)) x e) first
        (makes_value k w' after of_this_type (λ v. Some (record { condition = x; value = v })) v (record { condition = x; value = v }) made refl)

-- no condition
pub no_condition : (k : NextScope) (w : BodyWork) (ty : DslxType) (c e : Expr) → BodyMakes k w (λ t. lower_expression c (scope_at k w t)) None → BodyMakes k w (λ t. conditional ty c e (scope_at k w t)) None
no_condition k w ty c e never =
    never_then k.text.now k.limit (λ t. lower_expression c (scope_at k w t)) (λ c t. with_condition (of_type ty (lower_expression e (scope_at k w t))) c) never

-- ---- members

pub at_member : {B : Type 0} (k : NextScope) (w : BodyWork) (member : List CoreInstance → Option CoreMember) (m : CoreMember) (f : CoreMember → List CoreInstance → Option B) (o : Option (B × BodyWork))
    → ((t : List CoreInstance) → Some m ≡ member t) → BodyMakes k w (f m) o → BodyMakes k w (λ t. and_then (member t) (λ m. f m t)) o
at_member k w member m f o is made = makes_as k w (f m) (λ t. and_then (member t) (λ m. f m t)) o (λ t. ap (λ o. and_then o (λ m. f m t)) (sym (is t))) made

pub without_member : {B : Type 0} (k : NextScope) (w : BodyWork) (member : List CoreInstance → Option CoreMember) (f : CoreMember → List CoreInstance → Option B)
    → ((t : List CoreInstance) → None ≡ member t) → BodyMakes k w (λ t. and_then (member t) (λ m. f m t)) None
without_member k w member f is = never_at_once k.text.now k.limit (λ t. and_then (member t) (λ m. f m t)) (λ t. ap (λ o. and_then o (λ m. f m t)) (sym (is t)))

-- what comes of a member, a condition and a value of its type
abbrev pub conditional_then : (Conditional → CoreMember → Option OpenStep) → Expr → Expr → CoreScope → CoreMember → Option OpenStep
conditional_then f c e scope m = and_then (conditional m.word c e scope) (λ b. f b m)
