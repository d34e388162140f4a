-- Items reach one another by their names as they do by their numbers.
use Rattle.std.proofs.Common.{◌≡◌, ◌∙◌, ◌||◌, ℕ, zero, suc, Bool, true, false, List, [], ◌∷◌, Option, Some, None, length, slice_get, refl, sym, ap, subst, if◌then◌else◌}
use mathlib.Core.Bool.{true≢false}
use Rattle.std.specs.List.{list_any}
use Rattle.std.specs.Str.{bytes_eq}
use Rattle.std.proofs.lemmas.Option.{none-some, same_Some}
use Rattle.base.specs.TopoOrder.Needs.{Needs, Reaches, by_way, itself}
use Rattle.dslx_tree.specs.declared.item.Definition.{Definition}
use Rattle.dslx_tree.specs.declared.item.Module.{Module}
use Rattle.dslx_meaning.specs.Items.{item_named}
use Rattle.dslx_meaning.specs.Rules.Mentions.{Mention, definition_mentions, is_of_use, item_reaches, mentions_of, names_mentioned, reaches_within}
use Rattle.dslx_meaning.specs.Rules.Namesakes.{told_apart}
use Rattle.dslx_core.proofs.Lemmas.Typing.Laws.Chains.{or_cases, or_first, or_second, same_name, itself as equals_itself}
use Rattle.dslx_core.proofs.Lemmas.Typing.Laws.Reaching.{reaches_mentioned, reaches_on}
use Rattle.dslx_check_items.specs.Items.{item_number}
use Rattle.dslx_check_items.specs.Reaching.{item_needs, number_and, numbers_named}
use Rattle.dslx_check_rules.specs.Interned.{AreDistinct}
use Rattle.dslx_check_facts.specs.Names.{HasNoMarks, definition_at, names_of}
use Rattle.dslx_check_declarations.specs.Work.Text.{name_in}
use Rattle.dslx_check.specs.Text.ByNames.{ReachAlike}
use Rattle.dslx_check_facts.proofs.Lemmas.Mentioned.{needs_are, number_there}
use Rattle.dslx_check.proofs.OnText.OnFirsts.{first_named, mentions_alike, number_called}

-- what its name mentions, where items of one name are told apart
mentions_are : (text : Module) → HasNoMarks text → AreDistinct (names_of text) → (i : ℕ)
    → mentions_of (told_apart text) (item_named (name_in text i) (told_apart text).items) ≡ mentions_of text (definition_at text.items i)
mentions_are text plain distinct i = ap (mentions_of (told_apart text)) (first_named text distinct i) ∙ mentions_alike text plain i

-- ---- from numbers to names

-- the name of a number is among those that the numbers are of
named_among : (text : Module) (names : List (List ℕ)) (k j : ℕ) → slice_get (numbers_named text.items names) k ≡ Some j → list_any (bytes_eq (name_in text j)) names ≡ true
named_among text [] k j e = absurd (none-some j e)
named_among text (name ∷ names) k j e =
    by k (item_number name text.items) refl e (λ p f. or_second (bytes_eq (name_in text j) name) (list_any (bytes_eq (name_in text j)) names) (named_among text names p j f))
  where
    by : (p : ℕ) (o : Option ℕ) → item_number name text.items ≡ o → slice_get (number_and o (numbers_named text.items names)) p ≡ Some j
        → ((p : ℕ) → slice_get (numbers_named text.items names) p ≡ Some j → list_any (bytes_eq (name_in text j)) (name ∷ names) ≡ true)
        → list_any (bytes_eq (name_in text j)) (name ∷ names) ≡ true
    by p None q f rest = rest p f
    by zero (Some n) q f rest =
        let called : name_in text j ≡ name = ap (name_in text) (sym (same_Some n j f)) ∙ number_called text name n q in
        or_first (bytes_eq (name_in text j) name) (list_any (bytes_eq (name_in text j)) names) (subst (λ z. bytes_eq (name_in text j) z ≡ true) called (equals_itself (name_in text j)))
    by (suc p) (Some n) q f rest = rest p f

need_named : (text : Module) → HasNoMarks text → AreDistinct (names_of text) → (i j : ℕ) → Needs (item_needs text) i j → item_reaches (told_apart text) (name_in text i) (name_in text j) ≡ true
need_named text plain distinct i j need =
    reaches_mentioned (told_apart text) (name_in text i) (name_in text j)
    (subst (λ names. list_any (bytes_eq (name_in text j)) names ≡ true) (sym (mentions_are text plain distinct i))
    (named_among text (mentions_of text (definition_at text.items i)) need.0 j (subst (λ ns. slice_get ns need.0 ≡ Some j) (needs_are text i) need.1)))

reached_named : (text : Module) → HasNoMarks text → AreDistinct (names_of text) → (i j : ℕ) → Reaches (item_needs text) i j → item_reaches (told_apart text) (name_in text i) (name_in text j) ≡ true
reached_named text plain distinct i j (itself _ _ need) = need_named text plain distinct i j need
reached_named text plain distinct i k (by_way _ j _ need on) =
    reaches_on (told_apart text) (name_in text i) (name_in text j) (name_in text k) (need_named text plain distinct i j need) (reached_named text plain distinct j k on)

-- ---- from names to numbers

-- one of the names that are mentioned, of which this is so, with its number
record Met (text : Module) (test : List ℕ → Bool) (names : List (List ℕ)) : Type 0 where
  number : ℕ
  place : ℕ
  at : slice_get (numbers_named text.items names) place ≡ Some number
  holds : test (name_in text number) ≡ true

met_behind : (text : Module) (test : List ℕ → Bool) (name : List ℕ) (names : List (List ℕ)) (o : Option ℕ) → item_number name text.items ≡ o → Met text test names → Met text test (name ∷ names)
met_behind text test name names None q met = record {
  number = met.number;
  place = met.place;
  at = ap (λ o. slice_get (number_and o (numbers_named text.items names)) met.place) q ∙ met.at;
  holds = met.holds;
}
met_behind text test name names (Some n) q met = record {
  number = met.number;
  place = suc met.place;
  at = ap (λ o. slice_get (number_and o (numbers_named text.items names)) (suc met.place)) q ∙ met.at;
  holds = met.holds;
}

met_here : (text : Module) (test : List ℕ → Bool) (m : Mention) (names : List (List ℕ)) (o : Option ℕ) → is_of_use m.use_as (item_named m.name text.items) ≡ true → item_number m.name text.items ≡ o
    → test m.name ≡ true → Met text test (m.name ∷ names)
met_here text test m names None there q holds = absurd (number_there text.items m there q)
met_here text test m names (Some n) there q holds = record {
  number = n;
  place = 0;
  at = ap (λ o. slice_get (number_and o (numbers_named text.items names)) 0) q;
  holds = subst (λ name. test name ≡ true) (sym (number_called text m.name n q)) holds;
}

met_among : (text : Module) (test : List ℕ → Bool) (ms : List Mention) → list_any test (names_mentioned text ms) ≡ true → Met text test (names_mentioned text ms)
met_among text test [] e = absurd (true≢false (sym e))
met_among text test (m ∷ ms) e = by (is_of_use m.use_as (item_named m.name text.items)) refl e (met_among text test ms)
  where
    by : (b : Bool) → is_of_use m.use_as (item_named m.name text.items) ≡ b → list_any test (if b then m.name ∷ names_mentioned text ms else names_mentioned text ms) ≡ true
        → (list_any test (names_mentioned text ms) ≡ true → Met text test (names_mentioned text ms))
        → Met text test (if b then m.name ∷ names_mentioned text ms else names_mentioned text ms)
    by true q f rest =
        or_cases (test m.name) (list_any test (names_mentioned text ms)) f
        (λ h. met_here text test m (names_mentioned text ms) (item_number m.name text.items) q refl h)
        (λ h. met_behind text test m.name (names_mentioned text ms) (item_number m.name text.items) refl (rest h))
    by false q f rest = rest f

met_of : (text : Module) (test : List ℕ → Bool) (o : Option Definition) → list_any test (mentions_of text o) ≡ true → Met text test (mentions_of text o)
met_of text test None e = absurd (true≢false (sym e))
met_of text test (Some x) e = met_among text test (definition_mentions x) e

-- the item of that name is reached
record Numbered (text : Module) (i : ℕ) (name : List ℕ) : Type 0 where
  number : ℕ
  called : name_in text number ≡ name
  reaches : Reaches (item_needs text) i number

numbered : (text : Module) → HasNoMarks text → AreDistinct (names_of text) → (n i : ℕ) (name : List ℕ) → reaches_within (told_apart text) n (name_in text i) name ≡ true → Numbered text i name
numbered text plain distinct zero i name e = absurd (true≢false (sym e))
numbered text plain distinct (suc n) i name e =
    let test : List ℕ → Bool = λ next. bytes_eq next name || reaches_within (told_apart text) n next name in
    let met : Met text test (mentions_of text (definition_at text.items i)) =
    met_of text test (definition_at text.items i) (ap (list_any test) (sym (mentions_are text plain distinct i)) ∙ e) in
    let need : Needs (item_needs text) i met.number = (met.place, ap (λ ns. slice_get ns met.place) (needs_are text i) ∙ met.at) in
    or_cases (bytes_eq (name_in text met.number) name) (reaches_within (told_apart text) n (name_in text met.number) name) met.holds
    (λ h. record { number = met.number; called = same_name (name_in text met.number) name h; reaches = itself i met.number need })
    (λ h.
    let rest : Numbered text met.number name = numbered text plain distinct n met.number name h in
    record { number = rest.number; called = rest.called; reaches = by_way i met.number rest.number need rest.reaches })

named_reached : (text : Module) → HasNoMarks text → AreDistinct (names_of text) → (i j : ℕ) → item_reaches (told_apart text) (name_in text i) (name_in text j) ≡ true → Reaches (item_needs text) i j
named_reached text plain distinct i j e =
    let found : Numbered text i (name_in text j) = numbered text plain distinct (length (told_apart text).items) i (name_in text j) e in
    subst (Reaches (item_needs text) i) (distinct found.number j found.called) found.reaches

pub reach_alike : (text : Module) → HasNoMarks text → AreDistinct (names_of text) → ReachAlike text
reach_alike text plain distinct i j = (named_reached text plain distinct i j, reached_named text plain distinct i j)
