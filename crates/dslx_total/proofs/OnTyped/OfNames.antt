-- Names, members and numbers have types.
use Rattle.std.proofs.Common.{◌≡◌, ◌&&◌, ℕ, Bool, true, false, if◌then◌else◌, List, [], ◌∷◌, Option, Some, None, refl, sym, ap, subst, ◌∙◌}
use Rattle.std.specs.Prelude.{nat_le, nat_lt, slice_get}
use Rattle.std.specs.Str.{bytes_eq}
use Rattle.xb_bits.specs.Word.{Word}
use Rattle.xb_span.specs.declared.span.Span.{Span}
use Rattle.xb_value.specs.declared.ty.Ty.{Ty}
use Rattle.dslx_tree.specs.declared.ident.Ident.{Ident}
use Rattle.dslx_meaning.specs.Environment.{Env, given_in}
use Rattle.dslx_meaning.specs.Lists.{and_then, or_else}
use Rattle.dslx_meaning.specs.Operators.{number_in, number_value, word_in_range}
use Rattle.dslx_meaning.specs.Types.{bits_in, bool_type, plain_type}
use Rattle.dslx_meaning.specs.Values.{bool_value, type_of_value}
use Rattle.dslx_meaning.specs.declared.ty.BitKind.{BitKind}
use Rattle.dslx_meaning.specs.declared.ty.DslxType.{DslxType}
use Rattle.dslx_meaning.specs.declared.ty.DslxType as ty
use Rattle.dslx_meaning.specs.declared.value.DslxValue.{DslxValue}
use Rattle.dslx_meaning.specs.declared.value.DslxValue as value
use Rattle.dslx_meaning.specs.declared.value.UntypedLiteral.{UntypedLiteral}
use Rattle.dslx_meaning.specs.Rules.NameRules.{member_typing, name_typing}
use Rattle.dslx_meaning.specs.Rules.PatternRules.{is_there}
use Rattle.dslx_meaning.specs.Rules.TypeEnvs.{Instance, TypeEnv, limited, settled, type_limits}
use Rattle.dslx_meaning.specs.Rules.Typings.{TypeExprTyping}
use Rattle.dslx_core.proofs.Lemmas.Typing.Sound.{limited_well_typed, none_in}
use Rattle.dslx_core.proofs.Lemmas.Typing.Typed.{bits_of_width, none_some, number_given, number_lies, one_type, same_some}
use Rattle.dslx_core.specs.Lowering.CoreScopes.{BoundSlot, CoreScope, local_in}
use Rattle.dslx_core.specs.Lowering.Lowering.{literal, lower_name, slot_or_literal}
use Rattle.dslx_core.specs.Typing.Typed.Complete.{IsWellTypedPart}
use Rattle.dslx_core.specs.Typing.Typed.Declared.{Declarations, IsDeclared}
use Rattle.dslx_core.specs.Typing.Typed.Kinds.{is_of}
use Rattle.dslx_core.specs.Typing.Typed.WellTyped.{IsWellTypedEnv}
use Rattle.dslx_core.specs.Types.Typing.{FunctionTypes, Typing}
use Rattle.dslx_core.proofs.Lemmas.Types.{type_slot}
use Rattle.dslx_total.proofs.Lemmas.Expressions.{narrow}
use Rattle.dslx_total.specs.Expressions.Beside.{ScopeMatchesEnv}
use Rattle.dslx_total.specs.Expressions.ExprLowering.{reaching}
use Rattle.dslx_total.specs.Typed.Scopes.{IsSoundValue, TypedIfThere, TypedLocals, TypedScope, is_sound_type}
use Rattle.dslx_total.specs.Typed.Claims.{NumberIsTyped, PartIsTyped}
use Rattle.dslx_total.proofs.OnTyped.OnConstructs.{bool_sound, kind_sound, literal_typed}
use Rattle.dslx_total.proofs.OnTyped.OnOperators.{width_is}
use Rattle.dslx_total.proofs.OnTyped.OnOptions.{then_typed}
use Rattle.dslx_total.proofs.OnTyped.OnPatterns.{bool_is, bool_owns, owns_of}

-- ---- names

local_found : (bound : List Ty) (name : List ℕ) (ls : List BoundSlot) (l : BoundSlot) → TypedLocals bound ls → local_in name ls ≡ Some l → (slice_get bound l.slot ≡ Some (plain_type l.ty)) × (is_sound_type l.ty ≡ true)
local_found bound name [] l h e = none_some l e
local_found bound name (k ∷ ls) l h e = by (bytes_eq name k.name) e (λ later. local_found bound name ls l h.2 later)
  where
    by : (b : Bool) → (if b then Some k else local_in name ls) ≡ Some l → (local_in name ls ≡ Some l → (slice_get bound l.slot ≡ Some (plain_type l.ty)) × (is_sound_type l.ty ≡ true)) → (slice_get bound l.slot ≡ Some (plain_type l.ty)) × (is_sound_type l.ty ≡ true)
    by true q rest = subst (λ (x : BoundSlot). (slice_get bound x.slot ≡ Some (plain_type x.ty)) × (is_sound_type x.ty ≡ true)) (same_some k l q) (h.0, h.1)
    by false q rest = rest q

pub name_is_typed : (fs : FunctionTypes) (ts : List Ty) (name : List ℕ) (scope : CoreScope) → TypedScope fs ts scope → TypedIfThere fs ts (lower_name name scope)
name_is_typed fs ts name scope at = by_local (local_in name scope.locals) refl
  where
    by_value : (o p : Option DslxValue) → ((v : DslxValue) → o ≡ Some v → IsSoundValue v) → ((v : DslxValue) → p ≡ Some v → IsSoundValue v) → TypedIfThere fs ts (and_then (or_else o p) literal)
    by_value None p h k = then_typed fs ts p literal (λ v q. literal_typed fs ts v (k v q))
    by_value (Some v) p h k = literal_typed fs ts v (h v refl)

    by_local : (o : Option BoundSlot) → local_in name scope.locals ≡ o → TypedIfThere fs ts (slot_or_literal scope name o)
    by_local None q = by_value (given_in name scope.known.parametric_args) (scope.known.items.constant name) (at.known.parametric_args name) (at.known.constants name)
    by_local (Some l) q =
        let f = local_found ts name scope.locals l at.locals q in
        record { core = ap (λ (q : Typing). q fs ts) (type_slot l.slot) ∙ f.0; sound = f.1 }

pub typed_name : (span : Span) (name : List ℕ) → PartIsTyped (λ context. name_typing span context name) (lower_name name)
typed_name span name here context env scope fs ts h at scoped well_typed = name_is_typed fs ts name scope scoped

pub typed_member : (span : Span) (e a : Ident) → PartIsTyped (λ context. limited span (member_typing context e a)) (λ scope. and_then (scope.known.items.member e.name a.name) literal)
typed_member span e a here context env scope fs ts h at scoped well_typed =
    then_typed fs ts (scope.known.items.member e.name a.name) literal (λ v q. literal_typed fs ts v (scoped.known.members e.name a.name v q))

pub typed_bool : (span : Span) (b : Bool) → PartIsTyped (λ context. settled span (Some bool_type) [] [] (Some 1)) (λ scope. literal (bool_value b))
typed_bool span b here context env scope fs ts h at scoped well_typed =
    literal_typed fs ts (bool_value b) (record { own = bool_owns b; sound = ap is_sound_type (bool_is b) ∙ bool_sound })

-- ---- numbers

-- a number is of its own type
pub number_owns : (t : DslxType) (number : UntypedLiteral) (v : DslxValue) → number_value t number ≡ Some v → is_of (type_of_value v) v ≡ true
number_owns t number v e = by_kind (bits_in t) e
  where
    by_word : (k : BitKind) (o : Option Word) → word_in_range k number ≡ o → and_then o (λ w. Some (value.Bits k.signed w)) ≡ Some v → is_of (type_of_value v) v ≡ true
    by_word k None q f = none_some v f
    by_word k (Some x) q f =
        subst (λ u. is_of (type_of_value u) u ≡ true) (same_some (value.Bits k.signed x) v f)
        (owns_of (ty.Bits k.signed x.width) (value.Bits k.signed x) (bits_of_width k.signed x x.width refl (number_lies k number x q)))

    by_kind : (o : Option BitKind) → number_in o number ≡ Some v → is_of (type_of_value v) v ≡ true
    by_kind None f = none_some v f
    by_kind (Some k) f = by_word k (word_in_range k number) refl f

-- its type is bits
pub number_kind : (t : DslxType) (number : UntypedLiteral) (v : DslxValue) → number_value t number ≡ Some v → (k : BitKind) × (bits_in t ≡ Some k)
number_kind t number v e = by_kind (bits_in t) refl e
  where
    by_kind : (o : Option BitKind) → bits_in t ≡ o → number_in o number ≡ Some v → (k : BitKind) × (bits_in t ≡ Some k)
    by_kind None q f = none_some v f
    by_kind (Some k) q f = (k, q)

pub number_type : (types : Declarations) (t : DslxType) (number : UntypedLiteral) (v : DslxValue) → IsDeclared types t → number_value t number ≡ Some v → type_of_value v ≡ t
number_type types t number v d e =
    let g = number_given types t number (ap is_there e) d in
    one_type t v (subst (λ u. is_of t u ≡ true) (same_some g.value v (sym g.is ∙ e)) g.of)

-- a number that is written with its type: it is of its own type, which is sound where the type keeps the limits
pub record NumberTyped (j : TypeExprTyping) (l : CoreScope → Option DslxValue) : Type 0 where
  pub owns : NumberIsTyped l
  pub sound : (here : Instance → Bool) (context : TypeEnv) (env : Env) (scope : CoreScope) → IsWellTypedEnv context env → ScopeMatchesEnv here context scope → IsWellTypedPart (reaching context.known here) (j context)
      → (end : ℕ) → type_limits end (j context).ty ≡ [] → (v : DslxValue) → l scope ≡ Some v → is_sound_type (type_of_value v) ≡ true

pub typed_number : (span : Span) (j : TypeExprTyping) (l : CoreScope → Option DslxValue) → NumberTyped j l → PartIsTyped (λ context. limited span (j context)) (λ scope. and_then (l scope) literal)
typed_number span j l n here context env scope fs ts h at scoped well_typed =
    then_typed fs ts (l scope) literal
    (λ v q. literal_typed fs ts v (record {
      own = n.owns scope v q;
      sound = n.sound here context env scope h at (limited_well_typed (reaching context.known here) span (j context) well_typed) span.to (none_in (j context).faults (type_limits span.to (j context).ty) well_typed.faults).1 v q;
    }))

-- a number of a type that is bits
pub number_sound : (types : Declarations) (t : DslxType) (number : UntypedLiteral) (v : DslxValue) → IsDeclared types t → ((kind : BitKind) → bits_in t ≡ Some kind → nat_lt 0 kind.width ≡ true) → (end : ℕ) → type_limits end (Some t) ≡ []
    → number_value t number ≡ Some v → is_sound_type (type_of_value v) ≡ true
number_sound types t number v d wide end limits e =
    let k = number_kind t number v e in
    let few = ap (λ w. nat_le w 128) (sym (width_is t k.0 k.1)) ∙ narrow end t limits in
    ap is_sound_type (number_type types t number v d e) ∙ kind_sound t k.0 k.1 (λ i. wide k.0 k.1 i && few i)
