-- Where each item whose name passes a test mentions such items alone, and none of them reaches itself, chains from them end.
use Rattle.std.proofs.Common.{◌≡◌, ◌&&◌, ℕ, zero, suc, Bool, true, false, not, List, [], ◌∷◌, refl, sym, ◌∙◌}
use mathlib.Core.Bool.{true≢false}
use Rattle.std.specs.List.{list_all, list_any}
use Rattle.std.specs.Str.{bytes_eq}
use Rattle.dslx_tree.specs.declared.item.Module.{Module}
use Rattle.dslx_meaning.specs.Items.{item_named}
use Rattle.dslx_meaning.specs.Rules.Mentions.{item_reaches, mentions_of}
use Rattle.dslx_core.proofs.Lemmas.Typing.Laws.{and_true}
use Rattle.dslx_core.proofs.Lemmas.Typing.Laws.Chains.{itself, or_first, or_second}
use Rattle.dslx_core.specs.Typing.Laws.Ranks.{Ranked, is_above}
use Rattle.dslx_core.specs.Typing.TypingRelations.Closed.{ends_within}
use Rattle.dslx_core.specs.Typing.TypingRelations.Reached.{IsClosed}

-- reaching, as its law says it
abbrev pub ReachesMentioned : Module → Type 0
ReachesMentioned m = (a b : List ℕ) → list_any (bytes_eq b) (mentions_of m (item_named a m.items)) ≡ true → item_reaches m a b ≡ true

abbrev pub ReachesOn : Module → Type 0
ReachesOn m = (a b c : List ℕ) → item_reaches m a b ≡ true → item_reaches m b c ≡ true → item_reaches m a c ≡ true

-- each of a list passes one test where it passes another
pub each_so : (P f : List ℕ → Bool) (xs : List (List ℕ)) → list_all P xs ≡ true → ((x : List ℕ) → list_any (bytes_eq x) xs ≡ true → P x ≡ true → f x ≡ true) → list_all f xs ≡ true
each_so P f [] h k = refl
each_so P f (x ∷ xs) h k =
    let q = and_true (P x) (list_all P xs) h in
    λ t. k x (or_first (bytes_eq x x) (list_any (bytes_eq x) xs) (itself x)) q.0 t && each_so P f xs q.1 (λ y one p. k y (or_second (bytes_eq y x) (list_any (bytes_eq y) xs) one) p) t

-- what doesn't reach itself is above each that it reaches
pub above_reached : (m : Module) → ReachesOn m → (a b : List ℕ) → item_reaches m a a ≡ false → item_reaches m a b ≡ true → is_above m a b ≡ true
above_reached m on a b free r = by_back (item_reaches m b a) refl
  where
    by_back : (t : Bool) → item_reaches m b a ≡ t → (item_reaches m a b && not t) ≡ true
    by_back true q = absurd (true≢false (sym (on a b a r q) ∙ free))
    by_back false q = λ i. r i && true

module _ (m : Module) (P : List ℕ → Bool) (closed : IsClosed P m) (mentioned : ReachesMentioned m) (on : ReachesOn m) (free : (name : List ℕ) → P name ≡ true → item_reaches m name name ≡ false) where
  pub chains_end : (k : ℕ) (name : List ℕ) → Ranked m k name → P name ≡ true → ends_within m k name ≡ true
  chains_end zero name r p = absurd r
  chains_end (suc k) name r p =
      each_so P (ends_within m k) (mentions_of m (item_named name m.items)) (closed name p) (λ x one q. chains_end k x (r x (above_reached m on name x (free name p) (mentioned name x one))) q)
