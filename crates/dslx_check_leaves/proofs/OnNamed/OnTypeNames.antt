-- Types by their names: what code looks up is what the definitions say.
use Rattle.std.proofs.Common.{◌≡◌, ◌∙◌, ◌∷◌, [], ℕ, Bool, true, false, List, Option, Some, None, refl, sym, ap, subst}
use Rattle.xb_span.specs.declared.span.Span.{Span}
use Rattle.dslx_tree.specs.declared.item.Definition.{Definition}
use Rattle.dslx_tree.specs.declared.item.Definition.TheVariants as d
use Rattle.dslx_meaning.specs.Rules.Mentions.{is_of_use, AsType}
use Rattle.dslx_meaning.specs.Rules.RuleNumbers as rule
use Rattle.dslx_meaning.specs.Rules.TypeEnvs.{GlobalEnv, breaks, breaks_if}
use Rattle.dslx_meaning.specs.Rules.TypeRules.{named_type}
use Rattle.dslx_check_rules.specs.declared.faults.Faults.{Faults}
use Rattle.dslx_check_rules.specs.declared.table.row.TypeId.{TypeId}
use Rattle.dslx_check_rules.specs.declared.table.row.TypeRow.{TypeRow}
use Rattle.dslx_check_rules.specs.declared.typing.Typing.{Typing}
use Rattle.dslx_check_rules.specs.Interned.{HasRowIf, type_if}
use Rattle.dslx_check_rules.specs.Seen.{seen}
use Rattle.dslx_check_facts.specs.Firsts.{IsMeant, meant_by}
use Rattle.dslx_check_facts.specs.Judged.{ComesToTyping, environment}
use Rattle.dslx_check_facts.specs.Known.{FactsHold, HasKnownRows, is_cyclic, item_names, names_type}
use Rattle.dslx_check_facts.specs.Typings.{IsSettled, IsTyping}
use Rattle.dslx_check_facts.specs.Walks.{OnlyMisses, WalkShown}
use Rattle.dslx_check_facts.specs.declared.facts.Facts.{Facts}
use Rattle.dslx_check_facts.specs.declared.type_env.TypeEnv.{TypeEnv as CodeEnv}
use Rattle.dslx_check_facts.proofs.Lemmas.Items.{cyclic_is, means}
use Rattle.dslx_check_facts.proofs.Lemmas.Walks.{misses_grows, reached_none}
use Rattle.dslx_check_facts.proofs.Lemmas.Judged.{rows_stay}
use Rattle.dslx_check_leaves.specs.Named.TypeNames.{IsTypeItem, name_at}

pub no_item_named : (f : Facts) (name : List ℕ) → meant_by f name ≡ None → names_type (meant_by f name) ≡ false
no_item_named f name e = ap names_type e

pub other_item_named : (f : Facts) (name : List ℕ) (i : ℕ) (definition : Definition) → IsMeant f name i definition → names_type (Some definition) ≡ false → names_type (meant_by f name) ≡ false
other_item_named f name i definition meant e = ap names_type meant.meant ∙ e

pub type_item : (f : Facts) (name : List ℕ) (i : ℕ) (definition : Definition) → IsMeant f name i definition → names_type (Some definition) ≡ true → IsTypeItem f name i
type_item f name i definition meant e = record { meant = ap names_type meant.meant ∙ e; called = meant.called }

use_as_type : (o : Option Definition) → is_of_use AsType o ≡ names_type o
use_as_type None = refl
use_as_type (Some (d.Function x)) = refl
use_as_type (Some (d.Proc x)) = refl
use_as_type (Some (d.Constant x)) = refl
use_as_type (Some (d.Alias x)) = refl
use_as_type (Some (d.Struct x)) = refl
use_as_type (Some (d.Enum x)) = refl

-- what the name means by the definitions
use_is : (f : Facts) (later : WalkShown) (known : GlobalEnv) (s : CodeEnv) (span : Span) (name : List ℕ) (b : Bool) → FactsHold f later known → names_type (meant_by f name) ≡ b
    → name_at span name (environment f s known later) ≡ named_type span (environment f s known later) name b
use_is f later known s span name b agrees e = ap (named_type span (environment f s known later) name) (ap (is_of_use AsType) (means f later known name agrees) ∙ use_as_type (meant_by f name) ∙ e)

pub no_type_named : (f : Facts) (s : CodeEnv) (w : WalkShown) (span : Span) (name : List ℕ) (faults : Faults) (typing : Typing)
    → names_type (meant_by f name) ≡ false → faults ≡ seen (breaks rule.NAME_IS_DECLARED span ∷ []) → IsSettled w span None faults (Some 0) typing
    → ComesToTyping f s w w typing (λ context. name_at span name context)
no_type_named f s w span name faults typing none found of = λ known later tables agrees rows missing.
    subst (IsTyping (item_names f) w w later typing) (sym (use_is f later known s span name false agrees none))
    (of (item_names f) w later None (breaks rule.NAME_IS_DECLARED span ∷ []) [] (Some 0) tables tt refl found refl (reached_none (item_names f) later.met w.reached w.reached refl))

pub type_named_typing : (f : Facts) (s : CodeEnv) (old new : WalkShown) (span : Span) (name : List ℕ) (item : ℕ) (ty : Option TypeId) (cyclic : Bool) (faults : Faults) (typing : Typing)
    → IsTypeItem f name item → OnlyMisses old new → ((rows : List TypeRow) → HasKnownRows rows f → HasRowIf rows ty)
    → ((known : GlobalEnv) (later : WalkShown) → FactsHold f later known → new.missing ≡ [] → type_if (item_names f) later.rows ty ≡ known.items.type_named ((item_names f).item item))
    → cyclic ≡ is_cyclic f s.owner item → faults ≡ seen (breaks_if cyclic rule.NO_ITEM_REACHES_ITSELF span) → IsSettled new span ty faults (Some 0) typing
    → ComesToTyping f s old new typing (λ context. name_at span name context)
type_named_typing f s old new span name item ty cyclic faults typing is misses row of_type by_group found of = λ known later tables agrees rows missing.
    subst (IsTyping (item_names f) old new later typing) (sym (use_is f later known s span name true agrees is.meant))
    (of (item_names f) old later (known.items.type_named name) (breaks_if (known.is_cyclic ((item_names f).item s.owner) name) rule.NO_ITEM_REACHES_ITSELF span) [] (Some 0) tables
    (row new.rows (rows_stay f s old new (misses_grows old new misses).tables rows).known)
    (of_type known later agrees missing ∙ ap known.items.type_named is.called)
    (found ∙ ap (λ b. seen (breaks_if b rule.NO_ITEM_REACHES_ITSELF span)) (by_group ∙ cyclic_is f s later known item name agrees is.called))
    refl (reached_none (item_names f) later.met old.reached new.reached misses.reached))
