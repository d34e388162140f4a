-- What names of items mean where a global environment says what is known.
use Rattle.std.proofs.Common.{◌≡◌, ◌∙◌, ℕ, List, sym, ap}
use Rattle.dslx_meaning.specs.Items.{item_named}
use Rattle.dslx_meaning.specs.Rules.TypeEnvs.{GlobalEnv}
use Rattle.dslx_check_facts.specs.Firsts.{meant_by}
use Rattle.dslx_check_facts.specs.Known.{FactsHold, is_cyclic, item_names}
use Rattle.dslx_check_facts.specs.Walks.{WalkShown}
use Rattle.dslx_check_facts.specs.declared.facts.Facts.{Facts}
use Rattle.dslx_check_facts.specs.declared.type_env.TypeEnv.{TypeEnv as CodeEnv}

pub means : (f : Facts) (later : WalkShown) (known : GlobalEnv) (name : List ℕ) → FactsHold f later known → item_named name known.whole.items ≡ meant_by f name
means f later known name agrees = ap (λ m. item_named name m.items) agrees.whole

-- what is cyclic by numbers is so by names
pub cyclic_is : (f : Facts) (s : CodeEnv) (later : WalkShown) (known : GlobalEnv) (item : ℕ) (name : List ℕ) → FactsHold f later known → (item_names f).item item ≡ name
    → is_cyclic f s.owner item ≡ known.is_cyclic ((item_names f).item s.owner) name
cyclic_is f s later known item name agrees called = sym (agrees.cyclic s.owner item) ∙ ap (known.is_cyclic ((item_names f).item s.owner)) called
