-- An activation that stands past its last site has something for each of its sites, and so comes to its end.
use Rattle.std.proofs.Common.{◌≡◌, ◌≤◌, ◌<◌, ◌+◌, ◌++◌, ℕ, zero, suc, inl, inr, List, [], ◌∷◌, take, length, true, Some, arith, refl, sym, ap, subst, ◌∙◌}
use Rattle.std.specs.Prelude.{slice_get, ◌⊎◌}
use Rattle.std.proofs.lemmas.List.{append-nil, append_assoc, length-append}
use Rattle.std.proofs.lemmas.Option.{slice_get_within}
use Rattle.base.specs.Lists.Prefix.{IsPrefix}
use Rattle.base.proofs.Lemmas.Lists.Prefixes.{IsPrefix-length}
use Rattle.xb_bits.specs.Word.{Word}
use Rattle.xb_value.specs.declared.value.Value.{Value}
use Rattle.net_core.specs.declared.net.Site.{Site}
use Rattle.net_core.specs.Behavior.{Behavior, Turn, Skip, Receive, Give, Takes}
use Rattle.dslx_meaning.specs.Activation.{Activity, turn_at}
use Rattle.dslx_meaning.specs.declared.ty.DslxType.{DslxType}
use Rattle.dslx_meaning.specs.declared.value.DslxValue.{DslxValue}
use Rattle.dslx_core.specs.Typing.Typed.Kinds.{is_of}
use Rattle.dslx_total.proofs.OnNets.Takes.{TakesFirst, to_first}
use Rattle.dslx_core.specs.Typing.Activities.ActivityGoesOn.{ActivityGoesOn, Ends, Waits, words_taken}

-- ---- words that turns take

abbrev one_if : Turn → ℕ
one_if Skip = 0
one_if Receive = 1
one_if (Give w) = 0

taken_first : (t : Turn) (ts : List Turn) → words_taken (t ∷ ts) ≡ one_if t + words_taken ts
taken_first Skip ts = omega arith
taken_first Receive ts = omega arith
taken_first (Give w) ts = omega arith

taken_behind : (xs ys : List Turn) → words_taken (xs ++ ys) ≡ words_taken xs + words_taken ys
taken_behind [] ys = omega arith
taken_behind (x ∷ xs) ys = let a = taken_first x (xs ++ ys) in let b = taken_first x xs in let rest = taken_behind xs ys in omega (arith, a, b, rest)

taken_next : (t : Turn) (ts : List Turn) (i : ℕ) → slice_get ts i ≡ Some t → words_taken (take (suc i) ts) ≡ words_taken (take i ts) + one_if t
taken_next t [] i e = absurd (cc)
taken_next t (x ∷ xs) zero e =
    let same : x ≡ t = cc in
    let a = taken_first x [] in
    let b : one_if x ≡ one_if t = ap one_if same in
    omega (arith, a, b)
taken_next t (x ∷ xs) (suc i) e =
    let a = taken_first x (take (suc i) xs) in
    let b = taken_first x (take i xs) in
    let rest = taken_next t xs i e in
    omega (arith, a, b, rest)

taken_all : (i : ℕ) (ts : List Turn) → length ts ≤ i → take i ts ≡ ts
taken_all zero [] h = refl
taken_all zero (t ∷ ts) h = absurd (omega (arith, h))
taken_all (suc i) [] h = refl
taken_all (suc i) (t ∷ ts) h = ap (λ us. t ∷ us) (taken_all i ts (omega (arith, h)))

taken_of_more : (i : ℕ) (xs ys : List Turn) → IsPrefix xs ys → i ≤ length xs → take i ys ≡ take i xs
taken_of_more zero xs ys f h = refl
taken_of_more (suc i) [] ys f h = absurd (omega (arith, h))
taken_of_more (suc i) (x ∷ xs) [] f h = absurd f
taken_of_more (suc i) (x ∷ xs) (y ∷ ys) f h = let rest = taken_of_more i xs ys f.1 (omega (arith, h)) in let e = f.0 in cc

there_or_past : (ts : List Turn) (i : ℕ) → ((t : Turn) × (slice_get ts i ≡ Some t)) ⊎ (length ts ≤ i)
there_or_past [] i = inr (omega arith)
there_or_past (t ∷ ts) zero = inl (t, refl)
there_or_past (t ∷ ts) (suc i) = elim (there_or_past ts i) [
  | inl h ↦ inl h
  | inr h ↦ inr (omega (arith, h))
]

-- ---- where activations stand

-- past so many turns, with words for just those that receive
pub record StandsPast (ts : List Turn) (got : List Word) (i : ℕ) : Type 0 where
  pub within : i ≤ length ts
  pub taken : words_taken (take i ts) ≡ length got

-- what activations over any words do at so many sites: more over more words
pub record GoesOverAll (t : DslxType) (n : ℕ) (act : List Word → Activity) : Type 0 where
  pub grows : (words more : List Word) → IsPrefix (act words).turns (act (words ++ more)).turns
  pub few : (words : List Word) → length (act words).turns ≤ n
  pub goes : (words : List Word) → ActivityGoesOn t n words (act words)

-- one that waits has taken all words and wants one more
not_waiting : {X : Type 0} (ts front : List Turn) (got : List Word) (i : ℕ) → ts ≡ front ++ Receive ∷ [] → words_taken front ≡ length got → length ts ≤ i → words_taken (take i ts) ≡ length got → X
not_waiting ts front got i e all past taken =
    let whole = ap words_taken (taken_all i ts past) in
    let parts = ap words_taken e in
    let both = taken_behind front (Receive ∷ []) in
    let last = taken_first Receive [] in
    absurd (omega (arith, whole, parts, both, last, all, taken))

module _ (t : DslxType) (n : ℕ) (act : List Word → Activity) (h : GoesOverAll t n act) where
  turn_there : (got : List Word) (i : ℕ) → StandsPast (act got).turns got i → i < n → (u : Turn) × (slice_get (act got).turns i ≡ Some u)
  turn_there got i st less = elim (there_or_past (act got).turns i) [
    | inl found ↦ found
    | inr past ↦ by (h.goes got) past
  ]
    where
      by : ActivityGoesOn t n got (act got) → length (act got).turns ≤ i → (u : Turn) × (slice_get (act got).turns i ≡ Some u)
      by (Ends v e of many) past = absurd (omega (arith, many, past, less))
      by (Waits front e last all) past = not_waiting (act got).turns front got i e all past st.taken

  past_one : (got : List Word) (i : ℕ) (u : Turn) → one_if u ≡ 0 → StandsPast (act got).turns got i → slice_get (act got).turns i ≡ Some u → StandsPast (act got).turns got (suc i)
  past_one got i u none st e =
      let inside = slice_get_within (act got).turns i u e in
      let next = taken_next u (act got).turns i e in
      let before_it = st.taken in
      record { within = omega (arith, inside); taken = omega (arith, next, before_it, none) }

  past_receive : (got : List Word) (w : Word) (i : ℕ) → StandsPast (act got).turns got i → slice_get (act got).turns i ≡ Some Receive → StandsPast (act (got ++ w ∷ [])).turns (got ++ w ∷ []) (suc i)
  past_receive got w i st e =
      let more = h.grows got (w ∷ []) in
      let inside = slice_get_within (act got).turns i Receive e in
      let longer = IsPrefix-length (act got).turns (act (got ++ w ∷ [])).turns more in
      let next = taken_next Receive (act got).turns i e in
      let same = ap words_taken (taken_of_more (suc i) (act got).turns (act (got ++ w ∷ [])).turns more (omega (arith, inside))) in
      let before_it = st.taken in
      let many = length-append got (w ∷ []) in
      record { within = omega (arith, inside, longer); taken = omega (arith, next, same, before_it, many) }

  pub stands_past : (b : Behavior) (s : Value) → ((g : List Word) (i : ℕ) → b.turn s g i ≡ turn_at (slice_get (act g).turns i)) → (sites : List Site) (i : ℕ) (got words : List Word)
      → StandsPast (act got).turns got i → i + length sites ≤ n → Takes b s got i sites words → StandsPast (act (got ++ words)).turns (got ++ words) (i + length sites)
  stands_past b s same [] i got words st few takes =
      let none : got ++ words ≡ got = ap (λ ws. got ++ ws) takes ∙ append-nil got in
      let here : i ≡ i + length {A = Site} [] = omega arith in
      subst (λ k. StandsPast (act (got ++ words)).turns (got ++ words) k) here (subst (λ g. StandsPast (act g).turns g i) (sym none) st)
  stands_past b s same (site ∷ sites) i got words st few takes =
      let u = turn_there got i st (omega (arith, few)) in
      by u.0 u.1 (to_first b s got i site sites words u.0 (same got i ∙ ap turn_at u.1) takes)
      (λ g ws k. stands_past b s same sites (suc i) g ws k (omega (arith, few)))
    where
      count : suc i + length sites ≡ i + length (site ∷ sites)
      count = omega arith

      by : (u : Turn) → slice_get (act got).turns i ≡ Some u → TakesFirst b s got i site sites words u
          → ((g ws : List Word) → StandsPast (act g).turns g (suc i) → Takes b s g (suc i) sites ws → StandsPast (act (g ++ ws)).turns (g ++ ws) (suc i + length sites))
          → StandsPast (act (got ++ words)).turns (got ++ words) (i + length (site ∷ sites))
      by Skip e z again = subst (λ k. StandsPast (act (got ++ words)).turns (got ++ words) k) count (again got words (past_one got i Skip refl st e) z)
      by (Give w) e z again = subst (λ k. StandsPast (act (got ++ words)).turns (got ++ words) k) count (again got words (past_one got i (Give w) refl st e) z)
      by Receive e z again =
          let joined : (got ++ z.0 ∷ []) ++ z.1 ≡ got ++ words = append_assoc got (z.0 ∷ []) z.1 ∙ ap (λ ws. got ++ ws) (sym z.2) in
          subst (λ k. StandsPast (act (got ++ words)).turns (got ++ words) k) count
          (subst (λ ws. StandsPast (act ws).turns ws (suc i + length sites)) joined (again (got ++ z.0 ∷ []) z.1 (past_receive got z.0 i st e) z.4))

  -- past all sites it has come to its end
  pub ends_there : (got : List Word) → StandsPast (act got).turns got n → (v : DslxValue) × ((act got).last ≡ Some v) × (is_of t v ≡ true)
  ends_there got st = by (h.goes got)
    where
      by : ActivityGoesOn t n got (act got) → (v : DslxValue) × ((act got).last ≡ Some v) × (is_of t v ≡ true)
      by (Ends v e of many) = (v, e, of)
      by (Waits front e last all) = not_waiting (act got).turns front got n e all (h.few got) st.taken
