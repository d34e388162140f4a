-- Names as values: what code looks up, step by step, is what the definitions say.
use Rattle.std.proofs.Common.{◌≡◌, ◌∙◌, ◌++◌, ◌∷◌, [], ℕ, Bool, true, false, not, List, map, Option, Some, None, refl, sym, ap, if◌then◌else◌}
use Rattle.std.specs.Option.{option_map}
use Rattle.std.proofs.lemmas.Option.{none-some}
use Rattle.xb_span.specs.declared.fault.Fault.{Fault}
use Rattle.xb_span.specs.declared.span.Span.{Span}
use Rattle.dslx_tree.specs.declared.ident.Ident.{Ident}
use Rattle.dslx_tree.specs.declared.item.Constant.{Constant}
use Rattle.dslx_tree.specs.declared.item.Definition.{Definition}
use Rattle.dslx_tree.specs.declared.item.Definition.TheVariants as d
use Rattle.dslx_tree.specs.declared.item.Enum.{Enum}
use Rattle.dslx_meaning.specs.Environment.{given_in}
use Rattle.dslx_meaning.specs.Items.{as_constant, as_enum, is_constant_item, item_named}
use Rattle.dslx_meaning.specs.Lists.{and_then, is_in}
use Rattle.dslx_meaning.specs.Values.{type_of_value}
use Rattle.dslx_meaning.specs.Rules.NameRules as the
use Rattle.dslx_meaning.specs.Rules.RuleNumbers as rule
use Rattle.dslx_meaning.specs.Rules.TypeEnvs.{GlobalEnv, Judgement, TypeEnv, breaks, breaks_if, settled, unlimited}
use Rattle.dslx_check_rules.specs.declared.faults.Faults.{Faults}
use Rattle.dslx_check_rules.specs.declared.table.row.TypeId.{TypeId}
use Rattle.dslx_check_rules.specs.declared.table.row.TypeRow.{TypeRow}
use Rattle.dslx_check_rules.specs.declared.typing.Typing.{Typing}
use Rattle.dslx_check_rules.specs.Interned.{HasRowIf, type_at, type_if}
use Rattle.dslx_check_rules.specs.Seen.{seen}
use Rattle.dslx_check_rules.proofs.Lemmas.Types.{types_stay}
use Rattle.dslx_check_facts.specs.Bound.{bound_in, bound_names}
use Rattle.dslx_check_facts.specs.Firsts.{IsMeant, meant_by}
use Rattle.dslx_check_facts.specs.Judged.{ComesToTyping, environment}
use Rattle.dslx_check_facts.specs.Known.{FactsHold, HasKnownRows, is_cyclic, item_at, item_names}
use Rattle.dslx_check_facts.specs.TypeEnvs.{IsArg}
use Rattle.dslx_check_facts.specs.Typings.{IsSettled, IsUnlimited}
use Rattle.dslx_check_facts.specs.Walks.{OnlyMisses, WalkShown}
use Rattle.dslx_check_facts.specs.declared.facts.Facts.{Facts}
use Rattle.dslx_check_facts.specs.declared.type_env.ParametricArg.{ParametricArg}
use Rattle.dslx_check_facts.specs.declared.type_env.TypeEnv.{TypeEnv as CodeEnv}
use Rattle.dslx_check_facts.proofs.Lemmas.Envs.{bound_all, given_found, typed_found}
use Rattle.dslx_check_facts.proofs.Lemmas.Items.{cyclic_is, means}
use Rattle.dslx_check_facts.proofs.Lemmas.Judged.{judges_as, settled_leaf, unlimited_leaf}
use Rattle.dslx_check_facts.proofs.Lemmas.Walks.{misses_refl}

-- ---- bound names

pub bound_typing : (f : Facts) (s : CodeEnv) (w : WalkShown) (span : Span) (name : List ℕ) (ty : Option TypeId) (faults : Faults) (typing : Typing)
    → bound_in name s.locals ≡ Some ty → faults ≡ seen [] → IsSettled w span ty faults (Some 1) typing → ComesToTyping f s w w typing (λ context. the.name_typing span context name)
bound_typing f s w span name ty faults typing bound none of =
    settled_leaf f s w w span ty faults typing (λ context. the.name_typing span context name) of (misses_refl w) (λ known later tables agrees rows missing. record {
      type = type_if (item_names f) later.rows ty;
      all = [];
      has_row = bound_all (HasRowIf w.rows) name s.locals ty rows.bound.locals bound;
      of_type = refl;
      of_faults = none;
      is = sym (ap (the.local_or_other span (environment f s known later) name) (typed_found (item_names f) later.rows name s.locals ∙ ap (option_map (type_if (item_names f) later.rows)) bound));
    })

pub other_typing : (f : Facts) (s : CodeEnv) (old new : WalkShown) (span : Span) (name : List ℕ) (typing : Typing) → bound_in name s.locals ≡ None
    → ComesToTyping f s old new typing (λ context. the.end_or_other span context name (is_in name context.ends)) → ComesToTyping f s old new typing (λ context. the.name_typing span context name)
other_typing f s old new span name typing none =
    judges_as f s old new typing (λ context. the.end_or_other span context name (is_in name context.ends)) (λ context. the.name_typing span context name)
    (λ known later agrees. sym (ap (the.local_or_other span (environment f s known later) name) (typed_found (item_names f) later.rows name s.locals ∙ ap (option_map (type_if (item_names f) later.rows)) none)))

-- ---- ends of a `config`

pub end_typing : (f : Facts) (s : CodeEnv) (w : WalkShown) (span : Span) (name : List ℕ) (faults : Faults) (typing : Typing)
    → is_in name (bound_names s.ends) ≡ true → faults ≡ seen (breaks rule.NAME_IS_DECLARED span ∷ []) → IsSettled w span None faults (Some 1) typing
    → ComesToTyping f s w w typing (λ context. the.end_or_other span context name (is_in name context.ends))
end_typing f s w span name faults typing end found of =
    settled_leaf f s w w span None faults typing (λ context. the.end_or_other span context name (is_in name context.ends)) of (misses_refl w) (λ known later tables agrees rows missing. record {
      type = None;
      all = breaks rule.NAME_IS_DECLARED span ∷ [];
      has_row = tt;
      of_type = refl;
      of_faults = found;
      is = sym (ap (the.end_or_other span (environment f s known later) name) end);
    })

pub not_end : (f : Facts) (s : CodeEnv) (old new : WalkShown) (span : Span) (name : List ℕ) (typing : Typing) → is_in name (bound_names s.ends) ≡ false
    → ComesToTyping f s old new typing (λ context. the.parametric_or_item span context name (given_in name context.parametric_args))
    → ComesToTyping f s old new typing (λ context. the.end_or_other span context name (is_in name context.ends))
not_end f s old new span name typing none =
    judges_as f s old new typing (λ context. the.parametric_or_item span context name (given_in name context.parametric_args)) (λ context. the.end_or_other span context name (is_in name context.ends))
    (λ known later agrees. sym (ap (the.end_or_other span (environment f s known later) name) none))

-- ---- parametrics

pub arg_typing : (f : Facts) (s : CodeEnv) (w : WalkShown) (span : Span) (name : List ℕ) (arg : ParametricArg) (faults : Faults) (typing : Typing)
    → bound_in name s.parametric_args ≡ Some arg → faults ≡ seen [] → IsSettled w span (Some arg.ty) faults (Some 1) typing
    → ComesToTyping f s w w typing (λ context. the.parametric_or_item span context name (given_in name context.parametric_args))
arg_typing f s w span name arg faults typing bound none of =
    settled_leaf f s w w span (Some arg.ty) faults typing (λ context. the.parametric_or_item span context name (given_in name context.parametric_args)) of (misses_refl w)
    (λ known later tables agrees rows missing.
    let is : IsArg (item_names f) w.rows arg = bound_all (IsArg (item_names f) w.rows) name s.parametric_args arg rows.bound.parametric_args bound in
    record {
      type = Some (type_of_value arg.value);
      all = [];
      has_row = is.row;
      of_type = ap Some (types_stay (item_names f) w.rows later.rows arg.ty tables.rows is.row ∙ is.ty);
      of_faults = none;
      is = sym (ap (the.parametric_or_item span (environment f s known later) name) (given_found name s.parametric_args ∙ ap (option_map (λ (a : ParametricArg). a.value)) bound));
    })

pub no_arg : (f : Facts) (s : CodeEnv) (old new : WalkShown) (span : Span) (name : List ℕ) (typing : Typing) → bound_in name s.parametric_args ≡ None
    → ComesToTyping f s old new typing (λ context. the.parametric_or_item span context name None)
    → ComesToTyping f s old new typing (λ context. the.parametric_or_item span context name (given_in name context.parametric_args))
no_arg f s old new span name typing none =
    judges_as f s old new typing (λ context. the.parametric_or_item span context name None) (λ context. the.parametric_or_item span context name (given_in name context.parametric_args))
    (λ known later agrees. sym (ap (the.parametric_or_item span (environment f s known later) name) (given_found name s.parametric_args ∙ ap (option_map (λ (a : ParametricArg). a.value)) none)))

-- ---- parametrics of which no value is known

pub unknown_typing : (f : Facts) (s : CodeEnv) (w : WalkShown) (span : Span) (name : List ℕ) (faults : Faults) (typing : Typing)
    → is_in name (bound_names s.unknown) ≡ true → faults ≡ seen [] → IsSettled w span None faults (Some 1) typing → ComesToTyping f s w w typing (λ context. the.parametric_or_item span context name None)
unknown_typing f s w span name faults typing unknown none of =
    settled_leaf f s w w span None faults typing (λ context. the.parametric_or_item span context name None) of (misses_refl w) (λ known later tables agrees rows missing. record {
      type = None;
      all = [];
      has_row = tt;
      of_type = refl;
      of_faults = none;
      is = sym (ap (λ t. if t then settled span None [] [] (Some 1) else the.item_value span (environment f s known later) name (known.items.is_constant name)) unknown);
    })

pub not_unknown : (f : Facts) (s : CodeEnv) (old new : WalkShown) (span : Span) (name : List ℕ) (typing : Typing) → is_in name (bound_names s.unknown) ≡ false
    → ComesToTyping f s old new typing (λ context. the.item_value span context name (context.known.items.is_constant name)) → ComesToTyping f s old new typing (λ context. the.parametric_or_item span context name None)
not_unknown f s old new span name typing none =
    judges_as f s old new typing (λ context. the.item_value span context name (context.known.items.is_constant name)) (λ context. the.parametric_or_item span context name None)
    (λ known later agrees. sym (ap (λ t. if t then settled span None [] [] (Some 1) else the.item_value span (environment f s known later) name (known.items.is_constant name)) none))

-- ---- constants

not_constant_item : (o : Option Definition) → as_constant o ≡ None → is_constant_item o ≡ false
not_constant_item None e = refl
not_constant_item (Some (d.Function x)) e = refl
not_constant_item (Some (d.Proc x)) e = refl
not_constant_item (Some (d.Constant x)) e = absurd (none-some x (sym e))
not_constant_item (Some (d.Alias x)) e = refl
not_constant_item (Some (d.Struct x)) e = refl
not_constant_item (Some (d.Enum x)) e = refl

pub no_item : (f : Facts) (s : CodeEnv) (w : WalkShown) (span : Span) (name : List ℕ) (faults : Faults) (typing : Typing)
    → as_constant (meant_by f name) ≡ None → faults ≡ seen (breaks rule.NAME_IS_DECLARED span ∷ []) → IsSettled w span None faults (Some 1) typing
    → ComesToTyping f s w w typing (λ context. the.item_value span context name (context.known.items.is_constant name))
no_item f s w span name faults typing none found of =
    settled_leaf f s w w span None faults typing (λ context. the.item_value span context name (context.known.items.is_constant name)) of (misses_refl w) (λ known later tables agrees rows missing. record {
      type = None;
      all = breaks rule.NAME_IS_DECLARED span ∷ [];
      has_row = tt;
      of_type = refl;
      of_faults = found;
      is = sym (ap (the.item_value span (environment f s known later) name) (agrees.is_constant name ∙ ap is_constant_item (means f later known name agrees) ∙ not_constant_item (meant_by f name) none));
    })

pub constant_item : (f : Facts) (s : CodeEnv) (old new : WalkShown) (span : Span) (name : List ℕ) (item : ℕ) (c : Constant) (ty : Option TypeId) (cyclic : Bool) (faults : Faults) (typing : Typing)
    → IsMeant f name item (d.Constant c) → OnlyMisses old new → ((rows : List TypeRow) → HasKnownRows rows f → HasRowIf rows ty)
    → ((known : GlobalEnv) (later : WalkShown) → FactsHold f later known → new.missing ≡ [] → type_if (item_names f) later.rows ty ≡ option_map type_of_value (known.items.constant ((item_names f).item item)))
    → cyclic ≡ is_cyclic f s.owner item → faults ≡ seen (breaks_if cyclic rule.NO_ITEM_REACHES_ITSELF span) → IsSettled new span ty faults (Some 1) typing
    → ComesToTyping f s old new typing (λ context. the.item_value span context name (context.known.items.is_constant name))
constant_item f s old new span name item c ty cyclic faults typing meant misses row of_type by_group found of =
    settled_leaf f s old new span ty faults typing (λ context. the.item_value span context name (context.known.items.is_constant name)) of misses (λ known later tables agrees rows missing. record {
      type = option_map type_of_value (known.items.constant name);
      all = breaks_if (known.is_cyclic ((item_names f).item s.owner) name) rule.NO_ITEM_REACHES_ITSELF span;
      has_row = row new.rows rows.known;
      of_type = of_type known later agrees missing ∙ ap (λ n. option_map type_of_value (known.items.constant n)) meant.called;
      of_faults = found ∙ ap (λ b. seen (breaks_if b rule.NO_ITEM_REACHES_ITSELF span)) (by_group ∙ cyclic_is f s later known item name agrees meant.called);
      is = sym (ap (the.item_value span (environment f s known later) name) (agrees.is_constant name ∙ ap is_constant_item (means f later known name agrees ∙ meant.meant)));
    })

-- ---- members of enums

pub no_enum : (f : Facts) (s : CodeEnv) (w : WalkShown) (e a : Ident) (faults : Faults) (typing : Typing)
    → as_enum (meant_by f e.name) ≡ None → faults ≡ seen (breaks rule.NAME_IS_DECLARED e.span ∷ []) → IsUnlimited w None faults (Some 1) typing
    → ComesToTyping f s w w typing (λ context. the.member_typing context e a)
no_enum f s w e a faults typing none found of =
    unlimited_leaf f s w w None faults typing (λ context. the.member_typing context e a) of (misses_refl w) (λ known later tables agrees rows missing. record {
      type = None;
      all = breaks rule.NAME_IS_DECLARED e.span ∷ [];
      has_row = tt;
      of_type = refl;
      of_faults = found;
      is = sym (ap (the.member_of (environment f s known later) e a) (ap as_enum (means f later known e.name agrees) ∙ none));
    })

pub member_of_enum : (f : Facts) (s : CodeEnv) (old new : WalkShown) (e a : Ident) (item : ℕ) (declared : Enum) (ty : Option TypeId) (cyclic lacks : Bool) (faults : Faults) (typing : Typing)
    → IsMeant f e.name item (d.Enum declared) → OnlyMisses old new → ((rows : List TypeRow) → HasKnownRows rows f → HasRowIf rows ty)
    → ((known : GlobalEnv) (later : WalkShown) → FactsHold f later known → new.missing ≡ [] → as_enum (item_at f item) ≡ Some declared
    → type_if (item_names f) later.rows ty
    ≡ and_then (known.items.member ((item_names f).item item) a.name) (λ v. known.items.type_named ((item_names f).item item)))
    → cyclic ≡ is_cyclic f s.owner item → lacks ≡ not (the.has_member declared a.name)
    → faults ≡ seen (breaks_if cyclic rule.NO_ITEM_REACHES_ITSELF e.span ++ breaks_if lacks rule.NAME_IS_DECLARED a.span) → IsUnlimited new ty faults (Some 1) typing
    → ComesToTyping f s old new typing (λ context. the.member_typing context e a)
member_of_enum f s old new e a item declared ty cyclic lacks faults typing meant misses row of_type by_group by_name found of =
    unlimited_leaf f s old new ty faults typing (λ context. the.member_typing context e a) of misses (λ known later tables agrees rows missing. record {
      type = the.member_type (environment f s known later) e a;
      all = breaks_if (known.is_cyclic ((item_names f).item s.owner) e.name) rule.NO_ITEM_REACHES_ITSELF e.span ++ breaks_if (not (the.has_member declared a.name)) rule.NAME_IS_DECLARED a.span;
      has_row = row new.rows rows.known;
      of_type = of_type known later agrees missing (ap as_enum meant.at) ∙ ap (λ n. and_then (known.items.member n a.name) (λ v. known.items.type_named n)) meant.called;
      of_faults = found
          ∙ (λ i. seen (breaks_if ((by_group ∙ cyclic_is f s later known item e.name agrees meant.called) i) rule.NO_ITEM_REACHES_ITSELF e.span ++ breaks_if (by_name i) rule.NAME_IS_DECLARED a.span));
      is = sym (ap (the.member_of (environment f s known later) e a) (ap as_enum (means f later known e.name agrees ∙ meant.meant)));
    })
