-- Names of local bindings.
use Rattle.std.proofs.Common.{◌≡◌, ◌∙◌, ◌||◌, ℕ, Bool, List, Option, Some, None, is_some, refl, sym, ap}
use Rattle.dslx_tree.specs.declared.ident.Ident.{Ident}
use Rattle.dslx_tree.specs.declared.item.Definition.{Definition}
use Rattle.dslx_meaning.specs.Callees.{is_own_name}
use Rattle.dslx_meaning.specs.Items.{item_named}
use Rattle.dslx_meaning.specs.Lists.{is_in}
use Rattle.dslx_meaning.specs.Rules.NameRules.{local_name}
use Rattle.dslx_meaning.specs.Rules.PatternRules.{is_there}
use Rattle.dslx_meaning.specs.Rules.RuleNumbers as rule
use Rattle.dslx_meaning.specs.Rules.TypeEnvs.{GlobalEnv, TypeEnv, breaks_if, is_item}
use Rattle.dslx_check_rules.specs.declared.faults.Faults.{Faults}
use Rattle.dslx_check_rules.specs.Seen.{seen}
use Rattle.dslx_check_facts.specs.Firsts.{meant_by}
use Rattle.dslx_check_facts.specs.Known.{FactsHold}
use Rattle.dslx_check_facts.specs.Walks.{WalkShown}
use Rattle.dslx_check_facts.specs.declared.facts.Facts.{Facts}

some_is : (o : Option Definition) → is_there o ≡ is_some o
some_is None = refl
some_is (Some d) = refl

there_is : (context : TypeEnv) (name : List ℕ) → is_item context name ≡ is_there (item_named name context.known.whole.items)
there_is context name = refl

item_by : (context : TypeEnv) (name : List ℕ) (o : Option Definition) → item_named name context.known.whole.items ≡ o → is_item context name ≡ is_some o
item_by context name o e = there_is context name ∙ ap is_there e ∙ some_is o

item_is : (f : Facts) (later : WalkShown) (known : GlobalEnv) (context : TypeEnv) (name : List ℕ) → FactsHold f later known → context.known.whole ≡ known.whole → is_some (meant_by f name) ≡ is_item context name
item_is f later known context name agrees same =
    sym (item_by context name (meant_by f name) (ap (λ m. item_named name m.items) (same ∙ agrees.whole)))

pub taken_name : (f : Facts) (later : WalkShown) (known : GlobalEnv) (context : TypeEnv) (before : List (List ℕ)) (ident : Ident) (is_before taken : Bool) (faults : Faults)
    → FactsHold f later known → context.known.whole ≡ known.whole → is_before ≡ is_in ident.name before → taken ≡ ((is_own_name ident.name || is_some (meant_by f ident.name)) || is_before)
    → faults ≡ seen (breaks_if taken rule.NAME_STANDS_ONCE ident.span) → faults ≡ seen (local_name context before ident)
taken_name f later known context before ident is_before taken faults agrees same is_in_before is found =
    found ∙ ap (λ b. seen (breaks_if b rule.NAME_STANDS_ONCE ident.span))
    (is ∙ (λ i. (is_own_name ident.name || item_is f later known context ident.name agrees same i) || is_in_before i))
