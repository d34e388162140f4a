-- Lists of numbers and of the instances that they are.
use Rattle.std.proofs.Common.{◌≡◌, ◌∙◌, ◌++◌, ◌≤◌, ◌+◌, ◌||◌, ◌⊎◌, inl, inr, ℕ, zero, suc, Bool, true, false, List, [], ◌∷◌, length, map, take, drop, Some, None, slice_get, refl, sym, ap, subst, arith, append_assoc, if◌then◌else◌, nat_eq}
use mathlib.Core.Bool.{true≢false}
use Rattle.std.specs.List.{list_any}
use Rattle.indexmap.specs.IndexSet.{insert_key}
use Rattle.std.proofs.lemmas.Bool.Decides.{Decides-eqb}
use Rattle.std.proofs.lemmas.List.{append-nil}
use Rattle.std.proofs.lemmas.Option.{none-some, same_Some}
use Rattle.dslx_meaning.specs.Rules.TypeEnvs.{Instance}
use Rattle.dslx_core.specs.Typing.TypingRelations.Closed.{IsOneOf}
use Rattle.dslx_check.specs.Finds.{IsNumberIn, with_new}

-- ---- numbers

number_in_first : (n : ℕ) (xs ys : List ℕ) → IsNumberIn n xs → IsNumberIn n (xs ++ ys)
number_in_first n [] ys h = absurd h
number_in_first n (x ∷ xs) ys (inl e) = inl e
number_in_first n (x ∷ xs) ys (inr h) = inr (number_in_first n xs ys h)

any_in : (n : ℕ) (xs : List ℕ) → list_any (nat_eq n) xs ≡ true → IsNumberIn n xs
any_in n [] e = absurd (true≢false (sym e))
any_in n (x ∷ xs) e = by (nat_eq n x) refl (any_in n xs)
  where
    by : (b : Bool) → nat_eq n x ≡ b → (list_any (nat_eq n) xs ≡ true → IsNumberIn n xs) → (n ≡ x) ⊎ IsNumberIn n xs
    by true q rest = inl ((Decides-eqb n x).0 q)
    by false q rest = inr (rest (sym (ap (λ b. b || list_any (nat_eq n) xs) q) ∙ e))

-- numbers that were there, and more, each of these
pub record IsGrown (old new ns : List ℕ) : Type 0 where
  pub more : List ℕ
  pub is : new ≡ old ++ more
  pub from : (n : ℕ) → IsNumberIn n more → IsNumberIn n ns

pub grown : (old ns : List ℕ) → IsGrown old (with_new old ns) ns
grown old [] = record { more = []; is = sym (append-nil old); from = λ n h. absurd h }
grown old (m ∷ ms) = step (list_any (nat_eq m) old) (grown old ms) (grown (old ++ m ∷ []) ms)
  where
    step : (b : Bool) → IsGrown old (with_new old ms) ms → IsGrown (old ++ m ∷ []) (with_new (old ++ m ∷ []) ms) ms → IsGrown old (with_new (if b then old else old ++ m ∷ []) ms) (m ∷ ms)
    step true g h = record { more = g.more; is = g.is; from = λ n k. inr (g.from n k) }
    step false g h = record {
      more = m ∷ h.more;
      is = h.is ∙ append_assoc old (m ∷ []) h.more;
      from = λ n k. elim k [
        | inl e ↦ inl e
        | inr q ↦ inr (h.from n q)
      ];
    }

pub in_old : (n : ℕ) (old ns : List ℕ) → IsNumberIn n old → IsNumberIn n (with_new old ns)
in_old n old ns h = let g = grown old ns in subst (IsNumberIn n) (sym g.is) (number_in_first n old g.more h)

last_in : (n : ℕ) (xs : List ℕ) → IsNumberIn n (xs ++ n ∷ [])
last_in n [] = inl refl
last_in n (x ∷ xs) = inr (last_in n xs)

pub in_new : (n : ℕ) (old ns : List ℕ) → IsNumberIn n ns → IsNumberIn n (with_new old ns)
in_new n old [] h = absurd h
in_new n old (m ∷ ms) (inl e) = subst (λ k. IsNumberIn k (with_new old (m ∷ ms))) (sym e) (in_old m (if list_any (nat_eq m) old then old else old ++ m ∷ []) ms (by (list_any (nat_eq m) old) refl))
  where
    by : (b : Bool) → list_any (nat_eq m) old ≡ b → IsNumberIn m (if b then old else old ++ m ∷ [])
    by true q = any_in m old q
    by false q = last_in m old
in_new n old (m ∷ ms) (inr h) = in_new n (if list_any (nat_eq m) old then old else old ++ m ∷ []) ms h

-- ---- instances of numbers

pub one_of_map : (f : ℕ → Instance) (n : ℕ) (ns : List ℕ) → IsNumberIn n ns → IsOneOf (f n) (map f ns)
one_of_map f n [] h = absurd h
one_of_map f n (m ∷ ms) (inl e) = inl (ap f e)
one_of_map f n (m ∷ ms) (inr h) = inr (one_of_map f n ms h)

pub record IsOf (f : ℕ → Instance) (ns : List ℕ) (i : Instance) : Type 0 where
  pub number : ℕ
  pub there : IsNumberIn number ns
  pub is : i ≡ f number

pub from_map : (f : ℕ → Instance) (i : Instance) (ns : List ℕ) → IsOneOf i (map f ns) → IsOf f ns i
from_map f i [] h = absurd h
from_map f i (m ∷ ms) (inl e) = record { number = m; there = inl refl; is = e }
from_map f i (m ∷ ms) (inr h) = let o = from_map f i ms h in record { number = o.number; there = inr o.there; is = o.is }

abbrev head_or : Instance → List Instance → Instance
head_or i [] = i
head_or i (x ∷ xs) = x

abbrev tail_of : List Instance → List Instance
tail_of [] = []
tail_of (x ∷ xs) = xs

pub same_on : (f g : ℕ → Instance) (ns : List ℕ) → map f ns ≡ map g ns → (n : ℕ) → IsNumberIn n ns → f n ≡ g n
same_on f g [] e n h = absurd h
same_on f g (m ∷ ms) e n (inl q) = ap f q ∙ ap (head_or (f m)) e ∙ ap g (sym q)
same_on f g (m ∷ ms) e n (inr h) = same_on f g ms (ap tail_of e) n h

pub map_same : (f g : ℕ → Instance) (ns : List ℕ) → ((n : ℕ) → IsNumberIn n ns → f n ≡ g n) → map f ns ≡ map g ns
map_same f g [] h = refl
map_same f g (m ∷ ms) h = λ t. h m (inl refl) t ∷ map_same f g ms (λ n q. h n (inr q)) t

pub got_mapped : (f : ℕ → Instance) (ns : List ℕ) (k n : ℕ) → slice_get ns k ≡ Some n → slice_get (map f ns) k ≡ Some (f n)
got_mapped f [] k n e = absurd (none-some n e)
got_mapped f (m ∷ ms) zero n e = ap (λ x. Some (f x)) (same_Some m n e)
got_mapped f (m ∷ ms) (suc k) n e = got_mapped f ms k n e

-- ---- the first ones

pub one_at : (is : List Instance) (k : ℕ) (i : Instance) → slice_get is k ≡ Some i → IsOneOf i is
one_at [] k i e = absurd (none-some i e)
one_at (x ∷ xs) zero i e = inl (sym (same_Some x i e))
one_at (x ∷ xs) (suc k) i e = inr (one_at xs k i e)

pub take_one : (is ms : List Instance) (k : ℕ) (i : Instance) → slice_get is k ≡ Some i → take (suc k) (is ++ ms) ≡ take k is ++ i ∷ []
take_one [] ms k i e = absurd (none-some i e)
take_one (x ∷ xs) ms zero i e = ap (λ y. y ∷ []) (same_Some x i e)
take_one (x ∷ xs) ms (suc k) i e = ap (λ l. x ∷ l) (take_one xs ms k i e)

pub either : (i : Instance) (xs ys : List Instance) → IsOneOf i (xs ++ ys) → IsOneOf i xs ⊎ IsOneOf i ys
either i [] ys h = inr h
either i (x ∷ xs) ys (inl e) = inl (inl e)
either i (x ∷ xs) ys (inr h) = elim (either i xs ys h) [
  | inl p ↦ inl (inr p)
  | inr q ↦ inr q
]

pub take_past : (is : List Instance) (k : ℕ) → length is ≤ k → take k is ≡ is
take_past [] zero h = refl
take_past [] (suc k) h = refl
take_past (x ∷ xs) zero h = absurd (omega (arith, h))
take_past (x ∷ xs) (suc k) h = ap (λ l. x ∷ l) (take_past xs k (omega (arith, h)))

pub past_end : (ns : List ℕ) (k : ℕ) → slice_get ns k ≡ None → length ns ≤ k
past_end [] k e = omega arith
past_end (n ∷ ns) zero e = absurd (none-some n (sym e))
past_end (n ∷ ns) (suc k) e = let rest : length ns ≤ k = past_end ns k e in omega (arith, rest)

-- ---- one after the other

pub next_is : (n : ℕ) → n + 1 ≡ suc n
next_is n = omega arith

drop_one : (ns : List ℕ) (k n : ℕ) → slice_get ns k ≡ Some n → drop k ns ≡ n ∷ drop (suc k) ns
drop_one [] k n e = absurd (none-some n e)
drop_one (m ∷ ms) zero n e = ap (λ x. x ∷ ms) (same_Some m n e)
drop_one (m ∷ ms) (suc k) n e = drop_one ms k n e

pub one_less : (all more ns : List ℕ) (k n : ℕ) (whole : List ℕ) → slice_get ns k ≡ Some n → more ≡ insert_key nat_eq all n → with_new all (drop k ns) ≡ whole → with_new more (drop (k + 1) ns) ≡ whole
one_less all more ns k n whole at added left =
    (λ i. with_new (added i) (drop (k + 1) ns)) ∙ ap (λ j. with_new (insert_key nat_eq all n) (drop j ns)) (next_is k) ∙ ap (with_new all) (sym (drop_one ns k n at)) ∙ left

drop_past : (ns : List ℕ) (k : ℕ) → length ns ≤ k → drop k ns ≡ []
drop_past [] zero h = refl
drop_past [] (suc k) h = refl
drop_past (n ∷ ns) zero h = absurd (omega (arith, h))
drop_past (n ∷ ns) (suc k) h = drop_past ns k (omega (arith, h))

pub none_left : (all ns whole : List ℕ) (k : ℕ) → length ns ≤ k → with_new all (drop k ns) ≡ whole → all ≡ whole
none_left all ns whole k past left = ap (with_new all) (sym (drop_past ns k past)) ∙ left
