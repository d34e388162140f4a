-- What is so of each name that was looked at.
use Rattle.std.proofs.Common.{◌≡◌, ◌∙◌, ◌≤◌, ◌<◌, ◌+◌, ℕ, List, [], ◌∷◌, drop, get_or, length, map, sym, ap, subst}
use Rattle.std.specs.List.{AllByRecursion}
use Rattle.std.proofs.lemmas.List.{drop_all, drop_more}
use Rattle.dslx_check_items.specs.Shown.{mention_shown}
use Rattle.dslx_check_items.specs.declared.mention.Mention.{Mention}
use Rattle.dslx_check_facts.specs.Names.{IsUnmarked, MentionNoMark}

-- what is left completes the list: so it is behind one more
pub one_more : {X : Type 0} (P : X → Type 0) (xs : List X) (i : ℕ) (x : X) → i < length xs → x ≡ get_or xs i x → P x
    → (AllByRecursion P (drop i xs) → AllByRecursion P xs) → AllByRecursion P (drop (i + 1) xs) → AllByRecursion P xs
one_more P xs i x within is holds all rest = all (subst (AllByRecursion P) (sym (drop_more xs i x within ∙ ap (λ y. y ∷ drop (i + 1) xs) (sym is))) (holds, rest))

-- and at the end
pub all_seen : {X : Type 0} (P : X → Type 0) (xs : List X) (i : ℕ) → length xs ≤ i → (AllByRecursion P (drop i xs) → AllByRecursion P xs) → AllByRecursion P xs
all_seen P xs i past all = all (subst (AllByRecursion P) (sym (drop_all i xs past)) tt)

abbrev pub NamesNoMark : Mention → Type 0
NamesNoMark m = IsUnmarked m.name.now

pub all_shown : (ms : List Mention) → AllByRecursion NamesNoMark ms → MentionNoMark (map mention_shown ms)
all_shown [] h = tt
all_shown (m ∷ ms) h = (h.0, all_shown ms h.1)
