-- Names, members of enums and numbers, where nothing is wrong with them.
use Rattle.std.proofs.Common.{◌≡◌, ◌++◌, ℕ, Bool, true, false, not, if◌then◌else◌, List, [], ◌∷◌, Option, Some, None, refl, sym, ap, ◌∙◌}
use mathlib.Core.Bool.{true≢false}
use Rattle.std.specs.Option.{option_map}
use Rattle.xb_span.specs.declared.span.Span.{Span}
use Rattle.dslx_tree.specs.declared.ident.Ident.{Ident}
use Rattle.dslx_tree.specs.declared.item.Definition.{Definition}
use Rattle.dslx_tree.specs.declared.item.Definition.TheVariants as d
use Rattle.dslx_tree.specs.declared.item.Enum.{Enum}
use Rattle.dslx_meaning.specs.Lists.{and_then, is_in}
use Rattle.dslx_meaning.specs.Types.{bool_type}
use Rattle.dslx_meaning.specs.Values.{bool_value, type_of_value}
use Rattle.dslx_meaning.specs.Operators.{number_value}
use Rattle.dslx_meaning.specs.Environment.{Env, given_in, value_of_name}
use Rattle.dslx_meaning.specs.Items.{as_enum, item_named}
use Rattle.dslx_meaning.specs.Meaning.{TypeDen}
use Rattle.dslx_meaning.specs.declared.ty.DslxType.{DslxType}
use Rattle.dslx_meaning.specs.declared.value.UntypedLiteral.{UntypedLiteral}
use Rattle.dslx_meaning.specs.declared.value.DslxValue.{DslxValue}
use Rattle.dslx_meaning.specs.Rules.AggregateRules.{number_typing, range_faults}
use Rattle.dslx_meaning.specs.Rules.TypeEnvs.{TypeEnv, breaks, breaks_if, settled, size_if_typed, typed_in}
use Rattle.dslx_meaning.specs.Rules.Typings.{TypeExprTyping}
use Rattle.dslx_meaning.specs.Rules.Mentions.{AsType, is_of_use}
use Rattle.dslx_meaning.specs.Rules.NameRules.{has_member, item_value, local_or_other, member_typing, member_of, member_type, name_typing, parametric_or_item, end_or_other}
use Rattle.dslx_core.specs.Typing.Typed.Complete.{IsWellTypedPart}
use Rattle.dslx_core.specs.Typing.Typed.WellTyped.{IsWellTypedEnv, types_at}
use Rattle.dslx_core.proofs.Lemmas.Typing.Typed.{bool_gives, member_gives, name_gives, none_some, number_gives}
use Rattle.dslx_core.specs.Typing.Sound.Sound.{HasTypedValue, PartGives, TypeHasDen}
use Rattle.dslx_core.proofs.OnTyping.OnSound.WellTypedParts.{none_in, passed, settled_well_typed, sized_if, some_fault, unlimited_type}
use Rattle.dslx_core.specs.Typing.Typed.Given.{IsSized}

-- ---- names

name_known : (span : Span) (context : TypeEnv) (name : List ℕ) (env : Env) → IsWellTypedEnv context env → IsWellTypedPart context.known (name_typing span context name) → (t : DslxType) × ((name_typing span context name).ty ≡ Some t)
name_known span context name env h well_typed = by_local (typed_in name context.locals) refl well_typed
  where
    by_item : (b : Bool) → context.known.items.is_constant name ≡ b → IsWellTypedPart context.known (item_value span context name b) → (t : DslxType) × ((item_value span context name b).ty ≡ Some t)
    by_item false q f = some_fault (breaks 1 span) [] (settled_well_typed context.known span None (breaks 1 span ∷ []) [] (Some 1) f).faults
    by_item true q f =
        let v = h.known.constants name q in
        (type_of_value v.0, (settled_well_typed context.known span (option_map type_of_value (context.known.items.constant name)) (breaks_if (context.known.is_cyclic context.owner name) 3 span) [] (Some 1) f).ty ∙ ap (option_map type_of_value) v.1)

    by_globals : (b : Bool) → is_in name context.unknown ≡ b → IsWellTypedPart context.known (if b then settled span None [] [] (Some 1) else item_value span context name (context.known.items.is_constant name))
        → (t : DslxType) × ((if b then settled span None [] [] (Some 1) else item_value span context name (context.known.items.is_constant name)).ty ≡ Some t)
    by_globals true q f = absurd (true≢false (sym q ∙ ap (is_in name) h.valued))
    by_globals false q f = by_item (context.known.items.is_constant name) refl f

    by_number : (o : Option DslxValue) → IsWellTypedPart context.known (parametric_or_item span context name o) → (t : DslxType) × ((parametric_or_item span context name o).ty ≡ Some t)
    by_number None f = by_globals (is_in name context.unknown) refl f
    by_number (Some v) f = (type_of_value v, (settled_well_typed context.known span (Some (type_of_value v)) [] [] (Some 1) f).ty)

    by_end : (b : Bool) → IsWellTypedPart context.known (end_or_other span context name b) → (t : DslxType) × ((end_or_other span context name b).ty ≡ Some t)
    by_end true f = some_fault (breaks 1 span) [] (settled_well_typed context.known span None (breaks 1 span ∷ []) [] (Some 1) f).faults
    by_end false f = by_number (given_in name context.parametric_args) f

    by_local : (o : Option (Option DslxType)) → typed_in name context.locals ≡ o → IsWellTypedPart context.known (local_or_other span context name o) → (t : DslxType) × ((local_or_other span context name o).ty ≡ Some t)
    by_local None q f = by_end (is_in name context.ends) f
    by_local (Some None) q f = absurd (h.typed name q)
    by_local (Some (Some t)) q f = (t, (settled_well_typed context.known span (Some t) [] [] (Some 1) f).ty)

-- what is one part counts 1
one_part : (own : Option DslxType) (t : DslxType) → own ≡ Some t → IsSized (size_if_typed own (Some 1))
one_part own t e = sized_if own t (Some 1) e (1, refl)

name_sized : (span : Span) (context : TypeEnv) (name : List ℕ) (t : DslxType) → (name_typing span context name).ty ≡ Some t → IsSized (name_typing span context name).size
name_sized span context name t e = by_local (typed_in name context.locals) e
  where
    by_item : (b : Bool) → (item_value span context name b).ty ≡ Some t → IsSized (item_value span context name b).size
    by_item true q = one_part _ t q
    by_item false q = one_part _ t q

    by_globals : (b : Bool) → (if b then settled span None [] [] (Some 1) else item_value span context name (context.known.items.is_constant name)).ty ≡ Some t
        → IsSized (if b then settled span None [] [] (Some 1) else item_value span context name (context.known.items.is_constant name)).size
    by_globals true q = one_part _ t q
    by_globals false q = by_item (context.known.items.is_constant name) q

    by_number : (o : Option DslxValue) → (parametric_or_item span context name o).ty ≡ Some t → IsSized (parametric_or_item span context name o).size
    by_number None q = by_globals (is_in name context.unknown) q
    by_number (Some v) q = one_part _ t q

    by_end : (b : Bool) → (end_or_other span context name b).ty ≡ Some t → IsSized (end_or_other span context name b).size
    by_end true q = one_part _ t q
    by_end false q = by_number (given_in name context.parametric_args) q

    by_local : (o : Option (Option DslxType)) → (local_or_other span context name o).ty ≡ Some t → IsSized (local_or_other span context name o).size
    by_local None q = by_end (is_in name context.ends) q
    by_local (Some ty) q = one_part _ t q

pub name_has : (span : Span) (context : TypeEnv) (name : List ℕ) (env : Env) → IsWellTypedEnv context env → IsWellTypedPart context.known (name_typing span context name)
    → HasTypedValue (types_at context) (name_typing span context name) (value_of_name name env)
name_has span context name env h well_typed = let t = name_known span context name env h well_typed in (t.0, t.1, name_gives span context name env h t.0 t.1, name_sized span context name t.0 t.1)

-- ---- members

enum_is_type : (o : Option Definition) (e : Enum) → as_enum o ≡ Some e → is_of_use AsType o ≡ true
enum_is_type None e q = none_some e q
enum_is_type (Some (d.Function f)) e q = none_some e q
enum_is_type (Some (d.Proc p)) e q = none_some e q
enum_is_type (Some (d.Constant c)) e q = none_some e q
enum_is_type (Some (d.Alias a)) e q = none_some e q
enum_is_type (Some (d.Struct s)) e q = none_some e q
enum_is_type (Some (d.Enum x)) e q = refl

-- a member that is declared has a value, and with it its enum's type
member_typed : (context : TypeEnv) (e a : Ident) (env : Env) → IsWellTypedEnv context env → (declared : Enum) → as_enum (item_named e.name context.known.whole.items) ≡ Some declared → has_member declared a.name ≡ true
    → (t : DslxType) × (member_type context e a ≡ Some t)
member_typed context e a env h declared q is =
    let t = h.known.types e.name (enum_is_type (item_named e.name context.known.whole.items) declared q) in
    let g = h.members e.name a.name declared t.0 q is t.1 in
    let v = sym (λ i. (h.items i).member e.name a.name) ∙ g.is in
    (t.0, ap (λ o. and_then o (λ v. types_at context e.name)) v ∙ t.1)

pub member_known : (context : TypeEnv) (e a : Ident) (env : Env) → IsWellTypedEnv context env → (member_typing context e a).faults ≡ [] → (t : DslxType) × ((member_typing context e a).ty ≡ Some t)
member_known context e a env h none = by_enum (as_enum (item_named e.name context.known.whole.items)) refl none
  where
    by_enum : (o : Option Enum) → as_enum (item_named e.name context.known.whole.items) ≡ o → (member_of context e a o).faults ≡ [] → (t : DslxType) × ((member_of context e a o).ty ≡ Some t)
    by_enum None q f = some_fault (breaks 1 e.span) [] f
    by_enum (Some declared) q f =
        let cyclic = breaks_if (context.known.is_cyclic context.owner e.name) 3 e.span in
        let lacks = breaks_if (not (has_member declared a.name)) 1 a.span in
        let t = member_typed context e a env h declared q (passed (has_member declared a.name) 1 a.span (none_in cyclic lacks f).1) in
        (t.0, unlimited_type (member_type context e a) (cyclic ++ lacks) [] (Some 1) f ∙ t.1)

pub member_has : (context : TypeEnv) (e a : Ident) (env : Env) → IsWellTypedEnv context env → IsWellTypedPart context.known (member_typing context e a)
    → HasTypedValue (types_at context) (member_typing context e a) (env.items.member e.name a.name)
member_has context e a env h well_typed = let t = member_known context e a env h well_typed.faults in (t.0, t.1, member_gives context e a env h t.0 t.1, by_enum (as_enum (item_named e.name context.known.whole.items)) t.0 t.1)
  where
    by_enum : (o : Option Enum) (t : DslxType) → (member_of context e a o).ty ≡ Some t → IsSized (member_of context e a o).size
    by_enum None t q = one_part _ t q
    by_enum (Some declared) t q = one_part _ t q

-- ---- `true`, `false` and numbers

pub bool_has : (span : Span) (b : Bool) → PartGives (λ context. settled span (Some bool_type) [] [] (Some 1)) (λ env. Some (bool_value b))
bool_has span b context env h well_typed =
    let own = (settled_well_typed context.known span (Some bool_type) [] [] (Some 1) well_typed).ty in
    (bool_type, own, bool_gives (types_at context) span b bool_type own, one_part _ bool_type own)

pub number_has : (span : Span) (j : TypeExprTyping) (f : TypeDen) (number : UntypedLiteral) → TypeHasDen j f → PartGives (λ context. number_typing span (Some (j context)) number) (λ env. and_then (f env) (λ t. number_value t number))
number_has span j f number st context env h well_typed =
    let written = j context in
    let wrong = range_faults span written.ty number in
    let t = st.known context env h (record { faults = (none_in written.faults wrong well_typed.faults).0; reached = well_typed.reached }) in
    let own = unlimited_type written.ty (written.faults ++ wrong) written.reached (Some 1) well_typed.faults ∙ t.1 in
    (t.0, own, number_gives (types_at context) span written (f env) number (st.means context env h) t.0 own, one_part _ t.0 own)
