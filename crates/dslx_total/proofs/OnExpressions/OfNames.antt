-- Names, members of enums and numbers become something.
use Rattle.std.proofs.Common.{◌≡◌, ◌++◌, ℕ, Bool, true, false, if◌then◌else◌, List, [], ◌∷◌, Option, Some, None, refl, sym, ap, subst, ◌∙◌}
use mathlib.Core.Bool.{true≢false}
use Rattle.std.specs.Prelude.{option_map}
use Rattle.std.specs.Str.{bytes_eq}
use Rattle.xb_span.specs.declared.span.Span.{Span}
use Rattle.dslx_tree.specs.declared.ident.Ident.{Ident}
use Rattle.dslx_meaning.specs.Lists.{and_then, is_in, or_else}
use Rattle.dslx_meaning.specs.Types.{bool_type}
use Rattle.dslx_meaning.specs.Values.{bool_value, type_of_value}
use Rattle.dslx_meaning.specs.Environment.{Env, Meanings, given_in}
use Rattle.dslx_meaning.specs.Operators.{number_value}
use Rattle.dslx_meaning.specs.declared.ty.DslxType.{DslxType}
use Rattle.dslx_meaning.specs.declared.value.UntypedLiteral.{UntypedLiteral}
use Rattle.dslx_meaning.specs.declared.value.DslxValue.{DslxValue}
use Rattle.dslx_meaning.specs.Rules.AggregateRules.{number_typing, range_faults}
use Rattle.dslx_meaning.specs.Rules.TypeEnvs.{Instance, TypeEnv, breaks, breaks_if, limited, settled, typed_in}
use Rattle.dslx_meaning.specs.Rules.Typings.{TypeExprTyping}
use Rattle.dslx_meaning.specs.Rules.NameRules.{item_value, local_or_other, member_typing, name_typing, parametric_or_item, end_or_other}
use Rattle.dslx_core.specs.Typing.Typed.Complete.{IsWellTypedPart}
use Rattle.dslx_core.specs.Typing.Typed.Given.{GivesOf}
use Rattle.dslx_core.specs.Typing.Typed.Kinds.{is_of}
use Rattle.dslx_core.specs.Typing.Typed.WellTyped.{IsWellTypedEnv, types_at}
use Rattle.dslx_core.proofs.Lemmas.Typing.Typed.{bool_gives, member_gives, number_gives, one_type, same_some}
use Rattle.dslx_core.proofs.Lemmas.Typing.Sound.{limited_well_typed, member_known, none_in, settled_well_typed, some_fault, unlimited_type}
use Rattle.dslx_core.specs.Lowering.CoreScopes.{BoundSlot, local_in}
use Rattle.dslx_core.specs.Lowering.Lowering.{literal, lower_name, slot_or_literal}
use Rattle.dslx_core.specs.Lowering.Trees.{TypeLowering}
use Rattle.dslx_total.specs.Expressions.Beside.{typed_slots}
use Rattle.dslx_total.specs.Expressions.ExprLowering.{NumberLowers, PartLowers, WrittenLowers, reaching, type_of_lowered}
use Rattle.dslx_total.proofs.OnExpressions.Parts.{type_lowers_to}

-- ---- literals

pub literal_typed : (o : Option DslxValue) → type_of_lowered (and_then o literal) ≡ option_map type_of_value o
literal_typed None = refl
literal_typed (Some v) = refl

-- ---- names

abbrev slot_type : Option BoundSlot → Option (Option DslxType)
slot_type None = None
slot_type (Some l) = Some (Some l.ty)

slot_typed : (ls : List BoundSlot) (name : List ℕ) → typed_in name (typed_slots ls) ≡ slot_type (local_in name ls)
slot_typed [] name = refl
slot_typed (l ∷ ls) name = by_name (bytes_eq name l.name) (slot_typed ls name)
  where
    by_name : (b : Bool) → typed_in name (typed_slots ls) ≡ slot_type (local_in name ls)
        → (if b then Some (Some l.ty) else typed_in name (typed_slots ls)) ≡ slot_type (if b then Some l else local_in name ls)
    by_name true rest = refl
    by_name false rest = rest

pub lower_total_name : (span : Span) (name : List ℕ) → PartLowers (λ context. name_typing span context name) (lower_name name)
lower_total_name span name here context env scope h at well_typed =
    by_local (local_in name scope.locals) (subst (λ o. IsWellTypedPart (reaching context.known here) (local_or_other span context name o)) same well_typed)
    ∙ ap (λ o. (local_or_other span context name o).ty) (sym same)
  where
    same : typed_in name context.locals ≡ slot_type (local_in name scope.locals)
    same = ap (typed_in name) (sym at.locals) ∙ slot_typed scope.locals name

    by_item : (b : Bool) → IsWellTypedPart (reaching context.known here) (item_value span context name b) → type_of_lowered (and_then (context.known.items.constant name) literal) ≡ (item_value span context name b).ty
    by_item false f = some_fault (breaks 1 span) [] (settled_well_typed (reaching context.known here) span None (breaks 1 span ∷ []) [] (Some 1) f).faults
    by_item true f =
        literal_typed (context.known.items.constant name)
        ∙ sym (settled_well_typed (reaching context.known here) span (option_map type_of_value (context.known.items.constant name)) (breaks_if (context.known.is_cyclic context.owner name) 3 span) [] (Some 1) f).ty

    by_globals : (b : Bool) → is_in name context.unknown ≡ b → IsWellTypedPart (reaching context.known here) (if b then settled span None [] [] (Some 1) else item_value span context name (context.known.items.is_constant name))
        → type_of_lowered (and_then (context.known.items.constant name) literal) ≡ (if b then settled span None [] [] (Some 1) else item_value span context name (context.known.items.is_constant name)).ty
    by_globals true q f = absurd (true≢false (sym q ∙ ap (is_in name) h.valued))
    by_globals false q f = by_item (context.known.items.is_constant name) f

    by_number : (o : Option DslxValue) → IsWellTypedPart (reaching context.known here) (parametric_or_item span context name o)
        → type_of_lowered (and_then (or_else o (context.known.items.constant name)) literal) ≡ (parametric_or_item span context name o).ty
    by_number None f = by_globals (is_in name context.unknown) refl f
    by_number (Some v) f = refl

    by_end : (b : Bool) → IsWellTypedPart (reaching context.known here) (end_or_other span context name b)
        → type_of_lowered (and_then (or_else (given_in name context.parametric_args) (context.known.items.constant name)) literal) ≡ (end_or_other span context name b).ty
    by_end true f = some_fault (breaks 1 span) [] (settled_well_typed (reaching context.known here) span None (breaks 1 span ∷ []) [] (Some 1) f).faults
    by_end false f = by_number (given_in name context.parametric_args) f

    by_local : (o : Option BoundSlot) → IsWellTypedPart (reaching context.known here) (local_or_other span context name (slot_type o))
        → type_of_lowered (slot_or_literal scope name o) ≡ (local_or_other span context name (slot_type o)).ty
    by_local None f =
        (λ i. type_of_lowered (and_then (or_else (given_in name (at.parametric_args i)) ((at.items i).constant name)) literal))
        ∙ by_end (is_in name context.ends) f
    by_local (Some l) f = refl

-- ---- members

-- the type that a member has, and its value
pub record MemberSimulates (context : TypeEnv) (e a : Ident) : Type 0 where
  pub ty : DslxType
  pub typed : (member_typing context e a).ty ≡ Some ty
  pub gives : GivesOf (types_at context) ty (context.known.items.member e.name a.name)

pub member_stands : (here : Instance → Bool) (context : TypeEnv) (e a : Ident) (env : Env) → IsWellTypedEnv context env → IsWellTypedPart (reaching context.known here) (member_typing context e a) → MemberSimulates context e a
member_stands here context e a env h well_typed =
    let t = member_known context e a env h well_typed.faults in
    record { ty = t.0; typed = t.1; gives = subst (λ (items : Meanings). GivesOf (types_at context) t.0 (items.member e.name a.name)) h.items (member_gives context e a env h t.0 t.1) }

pub lower_total_member : (span : Span) (e a : Ident) → PartLowers (λ context. limited span (member_typing context e a)) (λ scope. and_then (scope.known.items.member e.name a.name) literal)
lower_total_member span e a here context env scope h at well_typed =
    let m = member_stands here context e a env h (limited_well_typed (reaching context.known here) span (member_typing context e a) well_typed) in
    ap (λ (items : Meanings). type_of_lowered (and_then (items.member e.name a.name) literal)) at.items
    ∙ literal_typed (context.known.items.member e.name a.name)
    ∙ ap (option_map type_of_value) m.gives.is ∙ ap Some (one_type m.ty m.gives.value m.gives.of) ∙ sym m.typed

-- ---- `true`, `false` and numbers

pub bool_is : (span : Span) (b : Bool) → type_of_value (bool_value b) ≡ bool_type
bool_is span b = let g = bool_gives (λ name. None) span b bool_type refl in one_type bool_type (bool_value b) (subst (λ v. is_of bool_type v ≡ true) (same_some g.value (bool_value b) (sym g.is)) g.of)

pub lower_total_bool : (span : Span) (b : Bool) → PartLowers (λ context. settled span (Some bool_type) [] [] (Some 1)) (λ scope. literal (bool_value b))
lower_total_bool span b here context env scope h at well_typed = ap Some (bool_is span b)

pub lower_total_number : (span : Span) (j : TypeExprTyping) (l : TypeLowering) (number : UntypedLiteral) → WrittenLowers j l → NumberLowers (λ context. number_typing span (Some (j context)) number) (λ scope. and_then (l scope) (λ t. number_value t number))
lower_total_number span j l number st here context env scope h at well_typed =
    let written = j context in
    let wrong = range_faults span written.ty number in
    let t = type_lowers_to here context env scope j l st h at (record { faults = (none_in written.faults wrong well_typed.faults).0; reached = well_typed.reached }) in
    let own = unlimited_type written.ty (written.faults ++ wrong) written.reached (Some 1) well_typed.faults ∙ t.typed in
    let g = number_gives (types_at context) span written (st.meaning env) number (st.stands.means context env h) t.ty own in
    ap (λ o. option_map type_of_value (and_then o (λ t. number_value t number))) t.is
    ∙ ap (option_map type_of_value) (sym (ap (λ o. and_then o (λ t. number_value t number)) (st.stands.means context env h t.ty t.typed).0) ∙ g.is)
    ∙ ap Some (one_type t.ty g.value g.of) ∙ sym own
