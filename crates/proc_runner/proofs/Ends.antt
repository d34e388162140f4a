-- One end more, or one channel more without an end.
use Rattle.std.proofs.Common.{◌≡◌, ◌≢◌, ℕ, zero, suc, ◌+◌, ◌<◌, ◌≤◌, List, [], ◌∷◌, ◌++◌, length, refl, sym, ap, ◌∙◌, subst, arith, Bool, true, false, Some, inl, inr}
use Rattle.std.specs.Prelude.{slice_get, ◌⊎◌, MatchBool}
use Rattle.std.proofs.lemmas.Bool.{cases_lt, MatchBool-at_true, MatchBool-at_false}
use Rattle.std.proofs.lemmas.List.{length-append}
use Rattle.std.proofs.lemmas.Option.{slice_get_within}
use Rattle.net_core.specs.declared.net.Site.{Site}
use Rattle.proc_task.specs.declared.port.Outlet.{Outlet}
use Rattle.proc_task.specs.declared.port.Inlet.{Inlet}
use Rattle.proc_task.specs.Moving.{HasOutlet, HasInlet}
use Rattle.proc_runner.specs.Inner.Ended.{IsEndAt, HasEndOn, AreEndsOf, HasIndices, out_chan, in_chan}

pub in_prefix : {A : Type 0} (xs ys : List A) (k : ℕ) (y : A) → slice_get xs k ≡ Some y → slice_get (xs ++ ys) k ≡ Some y
in_prefix [] ys k y e = cc
in_prefix (x ∷ xs) ys zero y e = e
in_prefix (x ∷ xs) ys (suc k) y e = in_prefix xs ys k y e

pub last_there : {A : Type 0} (xs : List A) (x : A) (k : ℕ) → length xs ≡ k → slice_get (xs ++ x ∷ []) k ≡ Some x
last_there [] x zero e = refl
last_there [] x (suc k) e = absurd (omega (arith, e))
last_there (y ∷ ys) x zero e = absurd (omega (arith, e))
last_there (y ∷ ys) x (suc k) e = last_there ys x k (omega (arith, e))

-- what stands in a list with one element more
pub at_end : {A : Type 0} (xs : List A) (x : A) (k : ℕ) (y : A) → slice_get (xs ++ x ∷ []) k ≡ Some y → (slice_get xs k ≡ Some y) ⊎ ((k ≡ length xs) × (x ≡ y))
at_end [] x zero y e = let h : x ≡ y = cc in inr (refl, h)
at_end [] x (suc k) y e = cc
at_end (z ∷ zs) x zero y e = inl e
at_end (z ∷ zs) x (suc k) y e = go (at_end zs x k y e)
  where
    go : (slice_get zs k ≡ Some y) ⊎ ((k ≡ length zs) × (x ≡ y)) → (slice_get zs k ≡ Some y) ⊎ ((suc k ≡ suc (length zs)) × (x ≡ y))
    go (inl f) = inl f
    go (inr f) = inr (ap suc f.0, f.1)

module _ {E : Type 0} (chan : E → ℕ) (ours : ℕ → Type 0) (new : E → Type 0) where
  nothing_there : (k : ℕ) (end : E) → slice_get [] k ≡ Some end → ⊥
  nothing_there k end e = cc

  pub ends_none : AreEndsOf chan ours new 0 []
  ends_none = record {
    few = omega arith;
    within = λ k end e. absurd (nothing_there k end e);
    owned = λ k end e. absurd (nothing_there k end e);
    each = λ k end e. absurd (nothing_there k end e);
    one = λ j k a b e f same. absurd (nothing_there j a e);
    all = λ c l own. absurd (omega (arith, l));
  }

  -- the next channel isn't ours
  pub ends_past : (c : ℕ) (ends : List E) → AreEndsOf chan ours new c ends → (ours c → ⊥) → AreEndsOf chan ours new (c + 1) ends
  ends_past c ends are other = record {
    few = omega (arith, are.few);
    within = λ k end e. omega (arith, are.within k end e);
    owned = are.owned;
    each = are.each;
    one = are.one;
    all = λ d l own. go d l own (cases_lt d c);
  }
    where
      go : (d : ℕ) → d < c + 1 → ours d → (d < c) ⊎ (c ≤ d) → HasEndOn chan ends d
      go d l own (inl m) = are.all d m own
      go d l own (inr m) = let here : d ≡ c = omega (arith, l, m) in absurd (other (subst ours here own))

  -- the next channel is ours
  pub ends_more : (c : ℕ) (ends : List E) (end : E) → AreEndsOf chan ours new c ends → chan end ≡ c → ours c → new end → AreEndsOf chan ours new (c + 1) (ends ++ end ∷ [])
  ends_more c ends end are here own fresh = record {
    few = omega (arith, are.few, length-append ends (end ∷ []));
    within = λ k x e. within_at k x (at_end ends end k x e);
    owned = λ k x e. owned_at k x (at_end ends end k x e);
    each = λ k x e. each_at k x (at_end ends end k x e);
    one = λ j k a b e f same. one_at j k a b same (at_end ends end j a e) (at_end ends end k b f);
    all = λ d l mine. all_at d l mine (cases_lt d c);
  }
    where
      within_at : (k : ℕ) (x : E) → (slice_get ends k ≡ Some x) ⊎ ((k ≡ length ends) × (end ≡ x)) → chan x < c + 1
      within_at k x (inl e) = omega (arith, are.within k x e)
      within_at k x (inr e) = omega (arith, here, ap chan e.1)

      owned_at : (k : ℕ) (x : E) → (slice_get ends k ≡ Some x) ⊎ ((k ≡ length ends) × (end ≡ x)) → ours (chan x)
      owned_at k x (inl e) = are.owned k x e
      owned_at k x (inr e) = subst ours (sym here ∙ ap chan e.1) own

      each_at : (k : ℕ) (x : E) → (slice_get ends k ≡ Some x) ⊎ ((k ≡ length ends) × (end ≡ x)) → new x
      each_at k x (inl e) = are.each k x e
      each_at k x (inr e) = subst new e.1 fresh

      one_at : (j k : ℕ) (a b : E) → chan a ≡ chan b → (slice_get ends j ≡ Some a) ⊎ ((j ≡ length ends) × (end ≡ a)) → (slice_get ends k ≡ Some b) ⊎ ((k ≡ length ends) × (end ≡ b)) → j ≡ k
      one_at j k a b same (inl e) (inl f) = are.one j k a b e f same
      one_at j k a b same (inl e) (inr f) = absurd (omega (arith, are.within j a e, here, ap chan f.1, same))
      one_at j k a b same (inr e) (inl f) = absurd (omega (arith, are.within k b f, here, ap chan e.1, same))
      one_at j k a b same (inr e) (inr f) = e.0 ∙ sym f.0

      all_at : (d : ℕ) → d < c + 1 → ours d → (d < c) ⊎ (c ≤ d) → HasEndOn chan (ends ++ end ∷ []) d
      all_at d l mine (inl m) =
          let has = are.all d m mine in
          (has.0, (has.1.0, in_prefix ends (end ∷ []) has.0 has.1.0 has.1.1, has.1.2))
      all_at d l mine (inr m) = let same : c ≡ d = omega (arith, l, m) in (length ends, (end, last_there ends end (length ends) refl, here ∙ same))

-- one place of a site more
module _ {S : Type 0} (sites : List Site) (outlets : List (Outlet S)) (inlets : List (Inlet S)) where
  abbrev pub HaveOutlets : List ℕ → ℕ → Type 0
  HaveOutlets indices k = (i : ℕ) (site : Site) → i < k → slice_get sites i ≡ Some site → site.sends ≡ true → HasOutlet sites indices outlets i site

  abbrev pub HaveInlets : List ℕ → ℕ → Type 0
  HaveInlets indices k = (i : ℕ) (site : Site) → i < k → slice_get sites i ≡ Some site → site.sends ≡ false → HasInlet sites indices inlets i site

  module _ (indices : List ℕ) (k : ℕ) (site : Site) (place : ℕ) (count : length indices ≡ k) (at : slice_get sites k ≡ Some site)
      (end : MatchBool site.sends (IsEndAt out_chan outlets site.chan place) (IsEndAt in_chan inlets site.chan place)) where
    pub outlets_placed : HaveOutlets indices k → HaveOutlets (indices ++ place ∷ []) (k + 1)
    outlets_placed had i other l e s = go (cases_lt i k)
      where
        go : (i < k) ⊎ (k ≤ i) → HasOutlet sites (indices ++ place ∷ []) outlets i other
        go (inl m) =
            let has = had i other m e s in
            record { place = has.place; outlet = has.outlet; place_is = in_prefix indices (place ∷ []) i has.place has.place_is; outlet_is = has.outlet_is; chan_is = has.chan_is }
        go (inr m) =
            let here : k ≡ i = omega (arith, l, m) in
            let there = ap (λ j. slice_get sites j) here ∙ e in
            let same : site ≡ other = cc in
            let is = MatchBool-at_true _ _ (ap (λ (x : Site). x.sends) same ∙ s) end in
            record { place = place; outlet = is.0; place_is = last_there indices place i (count ∙ here); outlet_is = is.1; chan_is = is.2 ∙ ap (λ (x : Site). x.chan) same }

    pub inlets_placed : HaveInlets indices k → HaveInlets (indices ++ place ∷ []) (k + 1)
    inlets_placed had i other l e s = go (cases_lt i k)
      where
        go : (i < k) ⊎ (k ≤ i) → HasInlet sites (indices ++ place ∷ []) inlets i other
        go (inl m) =
            let has = had i other m e s in
            record { place = has.place; inlet = has.inlet; place_is = in_prefix indices (place ∷ []) i has.place has.place_is; inlet_is = has.inlet_is; chan_is = has.chan_is }
        go (inr m) =
            let here : k ≡ i = omega (arith, l, m) in
            let there = ap (λ j. slice_get sites j) here ∙ e in
            let same : site ≡ other = cc in
            let is = MatchBool-at_false _ _ (ap (λ (x : Site). x.sends) same ∙ s) end in
            record { place = place; inlet = is.0; place_is = last_there indices place i (count ∙ here); inlet_is = is.1; chan_is = is.2 ∙ ap (λ (x : Site). x.chan) same }

-- a site has an end, whichever it is
pub site_has : {S : Type 0} (sites : List Site) (outlets : List (Outlet S)) (inlets : List (Inlet S)) → HasIndices sites outlets inlets → (i : ℕ) (site : Site) → slice_get sites i ≡ Some site
    → MatchBool site.sends (HasEndOn out_chan outlets site.chan) (HasEndOn in_chan inlets site.chan)
site_has sites outlets inlets has i site e = go site.sends refl
  where
    go : (b : Bool) → site.sends ≡ b → MatchBool b (HasEndOn out_chan outlets site.chan) (HasEndOn in_chan inlets site.chan)
    go true s = has.sends i site e s
    go false s = has.receives i site e s

-- a search that hasn't found the end of a channel yet
module _ {E : Type 0} (chan : E → ℕ) (ends : List E) (c : ℕ) where
  abbrev pub NoneBelow : ℕ → Type 0
  NoneBelow k = (j : ℕ) (end : E) → j < k → slice_get ends j ≡ Some end → chan end ≢ c

  pub not_here : (k : ℕ) (end : E) → slice_get ends k ≡ Some end → chan end ≢ c → NoneBelow k → NoneBelow (k + 1)
  not_here k end at other none j x l e same = go (cases_lt j k)
    where
      go : (j < k) ⊎ (k ≤ j) → ⊥
      go (inl m) = none j x m e same
      go (inr m) =
          let here : k ≡ j = omega (arith, l, m) in
          let there = ap (λ i. slice_get ends i) here ∙ e in
          let one : end ≡ x = cc in
          other (ap chan one ∙ same)

  pub it_is_there : (k : ℕ) → HasEndOn chan ends c → NoneBelow k → length ends ≤ k → ⊥
  it_is_there k has none l = none has.0 has.1.0 (omega (arith, l, slice_get_within ends has.0 has.1.0 has.1.1)) has.1.1 has.1.2
