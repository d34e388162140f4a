-- Names, numbers and members mean the same as what stands for them.
use Rattle.std.proofs.Common.{◌≡◌, ℕ, Bool, true, false, List, Option, Some, None, refl, sym, ap, subst, ◌∙◌}
use Rattle.dslx_meaning.specs.Lists.{and_then, or_else}
use Rattle.dslx_meaning.specs.Types.{bits_in}
use Rattle.dslx_meaning.specs.Values.{plain_value, type_of_value, bool_value}
use Rattle.dslx_meaning.specs.Operators.{number_value, number_in, word_in_range}
use Rattle.dslx_meaning.specs.Environment.{Given, given_in, value_of_name}
use Rattle.dslx_meaning.specs.declared.ty.BitKind.{BitKind}
use Rattle.dslx_meaning.specs.declared.ty.DslxType.{DslxType}
use Rattle.dslx_meaning.specs.declared.value.UntypedLiteral.{UntypedLiteral}
use Rattle.dslx_meaning.specs.declared.value.DslxValue.{DslxValue}
use Rattle.dslx_meaning.specs.declared.value.DslxValue as value
use Rattle.dslx_meaning.specs.declared.value.DslxValue.TheOpen.{DslxValue-F}
use Rattle.dslx_meaning.specs.declared.value.DslxValue.TheViews as views
use Rattle.xb_bits.specs.Word.{Word}
use Rattle.dslx_core.specs.Typing.Typed.Kinds.{is_of, lies_in}
use Rattle.dslx_core.proofs.Lemmas.Typing.Typed.{bits_of_width, none_some, number_lies, same_some, typed_level}
use Rattle.dslx_core.specs.CoreValues.{Bindings, Functions}
use Rattle.dslx_core.specs.declared.expr.CoreExpr as core
use Rattle.dslx_core.specs.Lowering.CoreScopes.{BoundSlot, CoreScope, local_in}
use Rattle.dslx_core.specs.Lowering.Lowering.{literal, lower_name, slot_or_literal}
use Rattle.dslx_core.specs.Lowering.Correspondence.{HasPlainValue, IsOwn, KeepsValue, SimulatesInScope, env_at}
use Rattle.dslx_core.proofs.OnLowering.Kept.{from_then, kept_as}
use Rattle.dslx_core.proofs.OnLowering.Openings.{core_literal, core_slot}
use Rattle.dslx_core.proofs.OnLowering.Slots.{local_simulates, other_stands}

-- ---- values that are known

pub literal_keeps : (calls : Functions) (bound : Bindings) (v : DslxValue) → IsOwn v → KeepsValue calls bound (literal v) (Some v)
literal_keeps calls bound v own e h w k =
    subst (λ x. HasPlainValue e calls bound x) (same_some v w k)
    (kept_as calls bound v (record { core = core.Literal (plain_value v); ty = type_of_value v }) e h
    (record { of = own; core = ap (λ f. f calls bound) (core_literal (plain_value v)) }))

-- a value that is there, if it is of its own type
pub globals_keep : (calls : Functions) (bound : Bindings) (o : Option DslxValue) → ((v : DslxValue) → o ≡ Some v → IsOwn v) → KeepsValue calls bound (and_then o literal) o
globals_keep calls bound o own e h v k =
    let w = from_then o literal e h in
    literal_keeps calls bound w.0 (own w.0 w.1) e w.2 v (sym w.1 ∙ k)

-- ---- names

found_first : (o p : Option DslxValue) (v : DslxValue) → or_else o p ≡ Some v → ((v : DslxValue) → o ≡ Some v → IsOwn v) → ((v : DslxValue) → p ≡ Some v → IsOwn v) → IsOwn v
found_first None p v e f g = g v e
found_first (Some a) p v e f g = f v e

pub name_keeps : (scope : CoreScope) (calls : Functions) (given : List Given) (bound : Bindings) → SimulatesInScope scope calls given bound → (name : List ℕ)
    → KeepsValue calls bound (lower_name name scope) (value_of_name name (env_at scope given))
name_keeps scope calls given bound h name e l v k = by_local (local_in name scope.locals) refl l
  where
    by_local : (o : Option BoundSlot) → local_in name scope.locals ≡ o → slot_or_literal scope name o ≡ Some e → HasPlainValue e calls bound v
    by_local None q r =
        let same = ap (λ o. or_else o (scope.known.items.constant name)) (other_stands scope.locals scope.known.parametric_args given bound name h.slots q) in
        globals_keep calls bound (or_else (given_in name scope.known.parametric_args) (scope.known.items.constant name))
        (λ w p. found_first (given_in name scope.known.parametric_args) (scope.known.items.constant name) w p (h.known.parametric_args name) (h.known.constants name)) e r v (sym same ∙ k)
    by_local (Some s) q r =
        let stands = local_simulates scope.locals scope.known.parametric_args given bound name s h.slots q in
        let is : Some stands.value ≡ Some v = sym (ap (λ o. or_else o (scope.known.items.constant name)) stands.is) ∙ k in
        subst (λ x. HasPlainValue e calls bound x) (same_some stands.value v is)
        (kept_as calls bound stands.value (record { core = core.Slot s.slot; ty = s.ty }) e r
        (record { of = stands.of; core = ap (λ f. f calls bound) (core_slot s.slot) ∙ stands.stands }))

-- ---- numbers

own_bits_of : (s : Bool) (w : Word) → lies_in w ≡ true → IsOwn (value.Bits s w)
own_bits_of s w low = ap (λ t. is_of t (value.Bits s w)) (typed_level (value.Bits s w) (DslxValue-F.Bits s w) (views.outs-Bits s w)) ∙ bits_of_width s w w.width refl low

pub number_own : (t : DslxType) (number : UntypedLiteral) (v : DslxValue) → number_value t number ≡ Some v → IsOwn v
number_own t number v e = by_kind (bits_in t) e
  where
    by_kind : (k : Option BitKind) → number_in k number ≡ Some v → IsOwn v
    by_kind None q = none_some v q
    by_kind (Some kind) q =
        let w = from_then (word_in_range kind number) (λ w. Some (value.Bits kind.signed w)) v q in
        subst IsOwn (same_some (value.Bits kind.signed w.0) v w.2) (own_bits_of kind.signed w.0 (number_lies kind number w.0 w.1))

pub bool_own : (b : Bool) → IsOwn (bool_value b)
bool_own true = own_bits_of false _ refl
bool_own false = own_bits_of false _ refl

-- a bool
pub bool_keeps : (calls : Functions) (bound : Bindings) (b : Bool) → KeepsValue calls bound (literal (bool_value b)) (Some (bool_value b))
bool_keeps calls bound b = literal_keeps calls bound (bool_value b) (bool_own b)
