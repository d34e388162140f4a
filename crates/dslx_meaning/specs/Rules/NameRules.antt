-- The rules of names: where they are used, and where they are declared.
use Rattle.std.specs.Prelude.{ℕ, List, [], ◌∷◌, ◌++◌, ◌||◌, map, Bool, true, false, not, Option, Some, None, option_map, if◌then◌else◌}
use Rattle.xb_span.specs.declared.span.Span.{Span}
use Rattle.xb_span.specs.declared.fault.Fault.{Fault}
use Rattle.dslx_tree.specs.declared.ident.Ident.{Ident}
use Rattle.dslx_tree.specs.declared.item.Enum.{Enum}
use Rattle.dslx_tree.specs.declared.item.Member.{Member}
use Rattle.dslx_meaning.specs.Lists.{is_in, and_then}
use Rattle.dslx_meaning.specs.Callees.{is_own_name}
use Rattle.dslx_meaning.specs.Values.{type_of_value}
use Rattle.dslx_meaning.specs.Environment.{given_in}
use Rattle.dslx_meaning.specs.Items.{item_named, as_enum}
use Rattle.dslx_meaning.specs.declared.ty.DslxType.{DslxType}
use Rattle.dslx_meaning.specs.declared.value.DslxValue.{DslxValue}
use Rattle.dslx_meaning.specs.Rules.TypeEnvs.{TypeEnv, Judgement, breaks, breaks_if, unlimited, settled, typed_in, is_item}
use Rattle.dslx_meaning.specs.Rules.RuleNumbers as rule

-- ---- uses

-- a constant of the text, or nothing that has a value
abbrev pub item_value : Span → TypeEnv → List ℕ → Bool → Judgement
item_value span context name false = settled span None (breaks rule.NAME_IS_DECLARED span ∷ []) [] (Some 1)
item_value span context name true =
    settled span (option_map type_of_value (context.known.items.constant name)) (breaks_if (context.known.is_cyclic context.owner name) rule.NO_ITEM_REACHES_ITSELF span) [] (Some 1)

-- a parametric has no type where no value of it is known
abbrev pub parametric_or_item : Span → TypeEnv → List ℕ → Option DslxValue → Judgement
parametric_or_item span context name None =
    if is_in name context.unknown then settled span None [] [] (Some 1)
    else item_value span context name (context.known.items.is_constant name)
parametric_or_item span context name (Some v) = settled span (Some (type_of_value v)) [] [] (Some 1)

-- an end of a `config` is no value, and hides parametrics and items of its name
abbrev pub end_or_other : Span → TypeEnv → List ℕ → Bool → Judgement
end_or_other span context name true = settled span None (breaks rule.NAME_IS_DECLARED span ∷ []) [] (Some 1)
end_or_other span context name false = parametric_or_item span context name (given_in name context.parametric_args)

abbrev pub local_or_other : Span → TypeEnv → List ℕ → Option (Option DslxType) → Judgement
local_or_other span context name None = end_or_other span context name (is_in name context.ends)
local_or_other span context name (Some ty) = settled span ty [] [] (Some 1)

-- a name as a value: a bound name, a parametric or a constant. Rule 1 refuses all else, rule 3 a constant that reaches
-- the item in whose text it is named
abbrev pub name_typing : Span → TypeEnv → List ℕ → Judgement
name_typing span context name = local_or_other span context name (typed_in name context.locals)

abbrev pub has_member : Enum → List ℕ → Bool
has_member e name = is_in name (map (λ (m : Member). m.name.name) e.members)

-- a member without a value has no type
abbrev pub member_type : TypeEnv → Ident → Ident → Option DslxType
member_type context e a = and_then (context.known.items.member e.name a.name) (λ v. context.known.items.type_named e.name)

abbrev pub member_of : TypeEnv → Ident → Ident → Option Enum → Judgement
member_of context e a None = unlimited None (breaks rule.NAME_IS_DECLARED e.span ∷ []) [] (Some 1)
member_of context e a (Some declared) =
    unlimited (member_type context e a)
    (breaks_if (context.known.is_cyclic context.owner e.name) rule.NO_ITEM_REACHES_ITSELF e.span ++ breaks_if (not (has_member declared a.name)) rule.NAME_IS_DECLARED a.span) [] (Some 1)

-- `E::A`
abbrev pub member_typing : TypeEnv → Ident → Ident → Judgement
member_typing context e a = member_of context e a (as_enum (item_named e.name context.known.whole.items))

-- ---- declarations

-- rule 2: a builtin's or an effect's name, or one that its list has before
abbrev pub listed_name : List (List ℕ) → Ident → List Fault
listed_name before ident = breaks_if (is_own_name ident.name || is_in ident.name before) rule.NAME_STANDS_ONCE ident.span

-- the same of a local binding, which has no item's name either
abbrev pub local_name : TypeEnv → List (List ℕ) → Ident → List Fault
local_name context before ident = breaks_if (is_own_name ident.name || is_item context ident.name || is_in ident.name before) rule.NAME_STANDS_ONCE ident.span
