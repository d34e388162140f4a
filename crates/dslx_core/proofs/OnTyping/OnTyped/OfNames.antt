-- What names and literals give.
use Rattle.std.proofs.Common.{◌≡◌, ◌++◌, ℕ, Bool, true, false, not, if◌then◌else◌, List, [], ◌∷◌, Option, Some, None, refl, sym, ap, subst, ◌∙◌}
use Rattle.std.specs.Option.{option_map}
use Rattle.xb_bits.specs.Word.{word}
use Rattle.xb_span.specs.declared.span.Span.{Span}
use Rattle.dslx_tree.specs.declared.ident.Ident.{Ident}
use Rattle.dslx_tree.specs.declared.item.Enum.{Enum}
use Rattle.dslx_meaning.specs.Lists.{and_then, or_else, is_in}
use Rattle.dslx_meaning.specs.Types.{bool_type}
use Rattle.dslx_meaning.specs.Values.{type_of_value, bool_value}
use Rattle.dslx_meaning.specs.Operators.{number_value}
use Rattle.dslx_meaning.specs.Environment.{Env, given_in, value_of_name}
use Rattle.dslx_meaning.specs.Items.{item_named, as_enum}
use Rattle.dslx_meaning.specs.declared.ty.DslxType.{DslxType}
use Rattle.dslx_meaning.specs.declared.value.DslxValue.{DslxValue}
use Rattle.dslx_meaning.specs.declared.value.UntypedLiteral.{UntypedLiteral}
use Rattle.dslx_meaning.specs.Rules.TypeEnvs.{TypeEnv, Judgement, breaks, breaks_if, has_broken, settled, typed_in}
use Rattle.dslx_meaning.specs.Rules.PatternRules.{is_there}
use Rattle.dslx_meaning.specs.Rules.AggregateRules.{number_typing, range_faults}
use Rattle.dslx_meaning.specs.Rules.NameRules.{name_typing, local_or_other, parametric_or_item, item_value, has_member, member_of, member_type, member_typing, end_or_other}
use Rattle.dslx_core.specs.Typing.Typed.Kinds.{is_of}
use Rattle.dslx_core.specs.Typing.Typed.Declared.{Declarations, IsDeclared}
use Rattle.dslx_core.specs.Typing.Typed.Given.{GivesOf, GivesItsType}
use Rattle.dslx_core.specs.Typing.Typed.WellTyped.{types_at, IsWellTypedEnv}
use Rattle.dslx_core.proofs.OnTyping.OnTyped.TypingRelations.{none_some, same_some, mapped_from, unbroken_parts, test_holds, settled_type}
use Rattle.dslx_core.proofs.OnTyping.OnTyped.OfTypes.{bits_of_width}
use Rattle.dslx_core.proofs.OnTyping.OnTyped.OfOperators.{bits_declared}
use Rattle.dslx_core.proofs.OnTyping.OnTyped.OfAggregates.{and_then_type}
use Rattle.dslx_core.proofs.OnTyping.OnTyped.OfArrays.{number_given}

-- the same of another type and option that are these
moved : (types : Declarations) (t u : DslxType) (o p : Option DslxValue) → t ≡ u → o ≡ p → GivesOf types t o → GivesOf types u p
moved types t u o p e q g = record { value = g.value; is = sym q ∙ g.is; of = ap (λ x. is_of x g.value) (sym e) ∙ g.of; declared = subst (IsDeclared types) e g.declared }

-- ---- names

pub name_gives : (span : Span) (context : TypeEnv) (name : List ℕ) (env : Env) → IsWellTypedEnv context env → GivesItsType (types_at context) (name_typing span context name) (value_of_name name env)
name_gives span context name env h t e = by_local (typed_in name context.locals) refl e
  where
    by_item : (b : Bool) → typed_in name context.locals ≡ None → given_in name context.parametric_args ≡ None → (item_value span context name b).ty ≡ Some t → GivesOf (types_at context) t (value_of_name name env)
    by_item false q r k = none_some t (settled_type None (breaks 1 span ∷ []) t k).1
    by_item true q r k =
        let s = settled_type (option_map type_of_value (context.known.items.constant name)) (breaks_if (context.known.is_cyclic context.owner name) 3 span) t k in
        let c = mapped_from type_of_value (context.known.items.constant name) t s.1 in
        moved (types_at context) (type_of_value c.0) t _ _ c.2 refl (h.constants name c.0 q r c.1).gives

    by_globals : (b : Bool) → typed_in name context.locals ≡ None → given_in name context.parametric_args ≡ None
        → (if b then settled span None [] [] (Some 1) else item_value span context name (context.known.items.is_constant name)).ty ≡ Some t → GivesOf (types_at context) t (value_of_name name env)
    by_globals true q r k = none_some t (settled_type None [] t k).1
    by_globals false q r k = by_item (context.known.items.is_constant name) q r k

    by_number : (o : Option DslxValue) → given_in name context.parametric_args ≡ o → typed_in name context.locals ≡ None → (parametric_or_item span context name o).ty ≡ Some t → GivesOf (types_at context) t (value_of_name name env)
    by_number None r q k = by_globals (is_in name context.unknown) q r k
    by_number (Some v) r q k =
        let s = settled_type (Some (type_of_value v)) [] t k in
        let known = h.parametric_args name v q r in
        moved (types_at context) (type_of_value v) t _ _ (same_some (type_of_value v) t s.1) (known.is ∙ sym (ap (λ o. or_else o (env.items.constant name)) known.is)) known.gives

    by_end : (b : Bool) → typed_in name context.locals ≡ None → (end_or_other span context name b).ty ≡ Some t → GivesOf (types_at context) t (value_of_name name env)
    by_end true q k = none_some t (settled_type None (breaks 1 span ∷ []) t k).1
    by_end false q k = by_number (given_in name context.parametric_args) refl q k

    by_local : (o : Option (Option DslxType)) → typed_in name context.locals ≡ o → (local_or_other span context name o).ty ≡ Some t → GivesOf (types_at context) t (value_of_name name env)
    by_local None q k = by_end (is_in name context.ends) q k
    by_local (Some ty) q k =
        let s = settled_type ty [] t k in
        let g = h.locals name t (q ∙ ap Some s.1) in
        moved (types_at context) t t _ _ refl (g.is ∙ sym (ap (λ o. or_else o (env.items.constant name)) g.is)) g

pub member_gives : (context : TypeEnv) (e a : Ident) (env : Env) → IsWellTypedEnv context env → GivesItsType (types_at context) (member_typing context e a) (env.items.member e.name a.name)
member_gives context e a env h t k = by_enum (as_enum (item_named e.name context.known.whole.items)) refl k
  where
    by_enum : (o : Option Enum) → as_enum (item_named e.name context.known.whole.items) ≡ o → (member_of context e a o).ty ≡ Some t → GivesOf (types_at context) t (env.items.member e.name a.name)
    by_enum None q r = none_some t (settled_type None (breaks 1 e.span ∷ []) t r).1
    by_enum (Some declared) q r =
        let s = settled_type (member_type context e a)
        (breaks_if (context.known.is_cyclic context.owner e.name) 3 e.span ++ breaks_if (not (has_member declared a.name)) 1 a.span) t r in
        let f = unbroken_parts (breaks_if (context.known.is_cyclic context.owner e.name) 3 e.span) (breaks_if (not (has_member declared a.name)) 1 a.span) s.0 in
        let known = and_then_type (context.known.items.member e.name a.name) (λ v. types_at context e.name) t s.1 in
        h.members e.name a.name declared t q (test_holds (has_member declared a.name) 1 a.span f.1) known.2

-- ---- literals

pub bool_given : (types : Declarations) (b : Bool) → GivesOf types bool_type (Some (bool_value b))
bool_given types true = record { value = bool_value true; is = refl; of = bits_of_width false (word 1 1) 1 refl refl; declared = bits_declared types false 1 }
bool_given types false = record { value = bool_value false; is = refl; of = bits_of_width false (word 1 0) 1 refl refl; declared = bits_declared types false 1 }

pub bool_gives : (types : Declarations) (span : Span) (b : Bool) → GivesItsType types (settled span (Some bool_type) [] [] (Some 1)) (Some (bool_value b))
bool_gives types span b t e = moved types bool_type t _ _ (same_some bool_type t (settled_type (Some bool_type) [] t e).1) refl (bool_given types b)

pub number_gives : (types : Declarations) (span : Span) (tj : Judgement) (w : Option DslxType) (number : UntypedLiteral) → ((t : DslxType) → tj.ty ≡ Some t → (w ≡ Some t) × IsDeclared types t)
    → GivesItsType types (number_typing span (Some tj) number) (and_then w (λ t. number_value t number))
number_gives types span tj w number written t e =
    let s = settled_type tj.ty (tj.faults ++ range_faults span tj.ty number) t e in
    let f = unbroken_parts tj.faults (range_faults span tj.ty number) s.0 in
    let own = written t s.1 in
    let g = number_given types t number (test_holds (is_there (number_value t number)) 6 span (ap (λ o. has_broken (range_faults span o number)) (sym s.1) ∙ f.1)) own.1 in
    moved types t t _ _ refl (sym (ap (λ o. and_then o (λ t. number_value t number)) own.0)) g
