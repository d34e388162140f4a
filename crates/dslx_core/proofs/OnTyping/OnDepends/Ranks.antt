-- Ranks as a test: what an item reaches has no higher one, and what stands below it a lower one.
use Rattle.std.proofs.Common.{◌≡◌, ◌&&◌, ◌||◌, ℕ, zero, suc, Bool, true, false, not, List, [], ◌∷◌, length, refl, sym, ap, ◌∙◌}
use mathlib.Core.Bool.{true≢false}
use Rattle.std.specs.Str.{bytes_eq}
use Rattle.std.specs.List.{list_all, list_any}
use Rattle.dslx_tree.specs.declared.item.Module.{Module}
use Rattle.dslx_meaning.specs.Rules.Mentions.{item_reaches}
use Rattle.dslx_core.specs.Typing.Laws.Ranks.{Ranked, is_above}
use Rattle.dslx_core.proofs.Lemmas.Typing.Laws.Chains.{IsIn, item_names, itself, or_cases, or_first, or_second, same_name}
use Rattle.dslx_core.proofs.Lemmas.Typing.Laws.Reaching.{both_of, reached_is_item, reaches_on}

-- ---- tests of lists

pub all_from : (f : List ℕ → Bool) (xs : List (List ℕ)) → ((x : List ℕ) → IsIn x xs → f x ≡ true) → list_all f xs ≡ true
all_from f [] h = refl
all_from f (x ∷ xs) h =
    λ i. h x (or_first (bytes_eq x x) (list_any (bytes_eq x) xs) (itself x)) i && all_from f xs (λ y q. h y (or_second (bytes_eq y x) (list_any (bytes_eq y) xs) q)) i

pub all_at : (f : List ℕ → Bool) (xs : List (List ℕ)) → list_all f xs ≡ true → (x : List ℕ) → IsIn x xs → f x ≡ true
all_at f [] h x i = absurd (true≢false (sym i))
all_at f (y ∷ ys) h x i = by_first (f y) refl h (λ g. all_at f ys g x)
  where
    by_first : (b : Bool) → f y ≡ b → (b && list_all f ys) ≡ true → (list_all f ys ≡ true → IsIn x ys → f x ≡ true) → f x ≡ true
    by_first true q g rest = or_cases (bytes_eq x y) (list_any (bytes_eq x) ys) i (λ s. ap f (same_name x y s) ∙ q) (rest g)
    by_first false q g rest = absurd (true≢false (sym g))

implied : (p q : Bool) → (p ≡ true → q ≡ true) → (not p || q) ≡ true
implied true q h = h refl
implied false q h = refl

used : (p q : Bool) → (not p || q) ≡ true → p ≡ true → q ≡ true
used true q h e = h
used false q h e = absurd (true≢false (sym e))

-- ---- ranks

-- no chain of items from this one, each of which is above the next, has more than so many
abbrev pub ranked : Module → ℕ → List ℕ → Bool
ranked m zero name = false
ranked m (suc k) name = list_all (λ below. not (is_above m name below) || ranked m k below) (item_names m.items)

abbrev below_is : Module → ℕ → List ℕ → List ℕ → Bool
below_is m k name below = not (is_above m name below) || ranked m k below

pub ranked_so : (m : Module) (k : ℕ) (name : List ℕ) → Ranked m k name → ranked m k name ≡ true
ranked_so m zero name h = absurd h
ranked_so m (suc k) name h = all_from (below_is m k name) (item_names m.items) (λ below i. implied (is_above m name below) (ranked m k below) (λ q. ranked_so m k below (h below q)))

-- what stands below has a lower rank
pub ranked_below : (m : Module) (k : ℕ) (name below : List ℕ) → ranked m (suc k) name ≡ true → is_above m name below ≡ true → ranked m k below ≡ true
ranked_below m k name below h e =
    let there = reached_is_item m (length m.items) name below (both_of (item_reaches m name below) (not (item_reaches m below name)) e).0 in
    used (is_above m name below) (ranked m k below) (all_at (below_is m k name) (item_names m.items) h below there) e

pub ranked_longer : (m : Module) (k : ℕ) (name : List ℕ) → ranked m k name ≡ true → ranked m (suc k) name ≡ true
ranked_longer m zero name h = absurd (true≢false (sym h))
ranked_longer m (suc k) name h =
    all_from (below_is m (suc k) name) (item_names m.items) (λ below i. implied (is_above m name below) (ranked m (suc k) below) (λ q. ranked_longer m k below (ranked_below m k name below h q)))

-- what is reached has no higher rank
pub ranked_reached : (m : Module) (k : ℕ) (name x : List ℕ) → ranked m (suc k) name ≡ true → item_reaches m name x ≡ true → ranked m (suc k) x ≡ true
ranked_reached m k name x h e =
    all_from (below_is m k x) (item_names m.items) (λ below i. implied (is_above m x below) (ranked m k below) (λ q. ranked_below m k name below h (above below q)))
  where
    above : (below : List ℕ) → is_above m x below ≡ true → is_above m name below ≡ true
    above below q = by_test (item_reaches m below name) refl
      where
        r : (item_reaches m x below ≡ true) × (not (item_reaches m below x) ≡ true)
        r = both_of (item_reaches m x below) (not (item_reaches m below x)) q

        by_test : (b : Bool) → item_reaches m below name ≡ b → (item_reaches m name below && not (item_reaches m below name)) ≡ true
        by_test false s = λ i. reaches_on m name x below e r.0 i && not (s i)
        by_test true s = absurd (true≢false (sym r.1 ∙ ap not (reaches_on m below name x s e)))
