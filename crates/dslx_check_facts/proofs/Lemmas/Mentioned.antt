-- What is mentioned, in a text and where items of one name are told apart, by names and by numbers.
use Rattle.std.proofs.Common.{◌≡◌, ◌∙◌, ◌&&◌, ℕ, zero, suc, Bool, true, false, List, [], ◌∷◌, Option, Some, None, map, slice_get, unwrap_or, refl, sym, ap, subst, if◌then◌else◌}
use mathlib.Core.Bool.{true≢false}
use Rattle.std.specs.List.{AllByRecursion, list_all}
use Rattle.std.proofs.lemmas.Option.{none-some, same_Some}
use Rattle.base.specs.TopoOrder.Needs.{needs_of}
use Rattle.dslx_tree.specs.declared.item.Definition.{Definition}
use Rattle.dslx_tree.specs.declared.item.Item.{Item}
use Rattle.dslx_tree.specs.declared.item.Module.{Module}
use Rattle.dslx_meaning.specs.Items.{item_named}
use Rattle.dslx_meaning.specs.Rules.Mentions.{AsEnum, AsFunction, AsPattern, AsProc, AsStruct, AsType, AsValue, Mention, Use, is_of_use, mentions_of, names_mentioned}
use Rattle.dslx_meaning.specs.Rules.Namesakes.{told_apart}
use Rattle.dslx_check_items.specs.Items.{definition_of, item_number}
use Rattle.dslx_check_items.specs.Reaching.{definition_needs, item_needs, number_and, numbers_named}
use Rattle.dslx_check_facts.specs.Names.{IsPlainItem, MentionNoMark, definition_at}
use Rattle.dslx_check_facts.proofs.Lemmas.Firsts.{not_named, same_meaning}

pub plain_at : (is : List Item) → AllByRecursion (λ (i : Item). IsPlainItem i.definition) is → (i : ℕ) (x : Definition) → definition_at is i ≡ Some x → IsPlainItem x
plain_at [] h i x e = absurd (none-some x e)
plain_at (y ∷ is) h zero x e = subst IsPlainItem (same_Some y.definition x e) h.0
plain_at (y ∷ is) h (suc i) x e = plain_at is h.1 i x e

-- ---- names

pub no_kind : (u : Use) → is_of_use u None ≡ false
no_kind AsValue = refl
no_kind AsPattern = refl
no_kind AsType = refl
no_kind AsFunction = refl
no_kind AsProc = refl
no_kind AsEnum = refl
no_kind AsStruct = refl

-- a name of a kind of items has a number
pub number_there : (is : List Item) (m : Mention) → is_of_use m.use_as (item_named m.name is) ≡ true → item_number m.name is ≡ None → ⊥
number_there is m e q = true≢false (sym e ∙ ap (is_of_use m.use_as) (not_named m.name is q) ∙ no_kind m.use_as)

-- what is mentioned is the same where items of one name are told apart
pub mentioned_alike : (text : Module) (ms : List Mention) → MentionNoMark ms → names_mentioned (told_apart text) ms ≡ names_mentioned text ms
mentioned_alike text [] plain = refl
mentioned_alike text (m ∷ ms) plain =
    λ i. if is_of_use m.use_as (same_meaning m.name [] text.items plain.0 refl i) then m.name ∷ mentioned_alike text ms plain.1 i else mentioned_alike text ms plain.1 i

-- ---- numbers

needs_from : (text : Module) (is : List Item) (i : ℕ) → unwrap_or (slice_get (map (definition_needs text) (map definition_of is)) i) [] ≡ numbers_named text.items (mentions_of text (definition_at is i))
needs_from text [] i = refl
needs_from text (x ∷ is) zero = refl
needs_from text (x ∷ is) (suc i) = needs_from text is i

pub needs_are : (text : Module) (i : ℕ) → needs_of (item_needs text) i ≡ numbers_named text.items (mentions_of text (definition_at text.items i))
needs_are text i = needs_from text text.items i

-- it is so of each name that is mentioned, if it is so of those that have a number that is needed
pub all_mentioned : (text : Module) (test : List ℕ → Bool) (ms : List Mention)
    → ((name : List ℕ) (j k : ℕ) → item_number name text.items ≡ Some j → slice_get (numbers_named text.items (names_mentioned text ms)) k ≡ Some j → test name ≡ true)
    → list_all test (names_mentioned text ms) ≡ true
all_mentioned text test [] h = refl
all_mentioned text test (m ∷ ms) h = by (is_of_use m.use_as (item_named m.name text.items)) refl h (all_mentioned text test ms)
  where
    both : (p q : Bool) → p ≡ true → q ≡ true → (p && q) ≡ true
    both p q e f = ap (λ b. b && q) e ∙ f

    behind : (o : Option ℕ) → item_number m.name text.items ≡ o → (j k : ℕ) → slice_get (numbers_named text.items (names_mentioned text ms)) k ≡ Some j
        → (p : ℕ) × (slice_get (number_and (item_number m.name text.items) (numbers_named text.items (names_mentioned text ms))) p ≡ Some j)
    behind None q j k e = (k, ap (λ o. slice_get (number_and o (numbers_named text.items (names_mentioned text ms))) k) q ∙ e)
    behind (Some n) q j k e = (suc k, ap (λ o. slice_get (number_and o (numbers_named text.items (names_mentioned text ms))) (suc k)) q ∙ e)

    here : (o : Option ℕ) → item_number m.name text.items ≡ o → is_of_use m.use_as (item_named m.name text.items) ≡ true
        → ((name : List ℕ) (j k : ℕ) → item_number name text.items ≡ Some j → slice_get (numbers_named text.items (m.name ∷ names_mentioned text ms)) k ≡ Some j → test name ≡ true) → test m.name ≡ true
    here None q e g = absurd (number_there text.items m e q)
    here (Some n) q e g = g m.name n 0 q (ap (λ o. slice_get (number_and o (numbers_named text.items (names_mentioned text ms))) 0) q)

    by : (b : Bool) → is_of_use m.use_as (item_named m.name text.items) ≡ b
        → ((name : List ℕ) (j k : ℕ) → item_number name text.items ≡ Some j → slice_get (numbers_named text.items (if b then m.name ∷ names_mentioned text ms else names_mentioned text ms)) k ≡ Some j → test name ≡ true)
        → (((name : List ℕ) (j k : ℕ) → item_number name text.items ≡ Some j → slice_get (numbers_named text.items (names_mentioned text ms)) k ≡ Some j → test name ≡ true) → list_all test (names_mentioned text ms) ≡ true)
        → list_all test (if b then m.name ∷ names_mentioned text ms else names_mentioned text ms) ≡ true
    by true e g rest =
        both (test m.name) (list_all test (names_mentioned text ms)) (here (item_number m.name text.items) refl e g)
        (rest (λ name j k q at. let p = behind (item_number m.name text.items) refl j k at in g name j p.0 q p.1))
    by false e g rest = rest g
