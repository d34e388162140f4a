-- The ports of a task, of which one changes.
use Rattle.std.proofs.Common.{◌≡◌, ◌≢◌, ℕ, zero, suc, ◌<◌, List, [], ◌∷◌, length, Option, Some, get_or, sym, ap, ◌∙◌, subst, arith, inl, inr}
use Rattle.std.specs.Prelude.{slice_get, slice_set, option_map, ◌⊎◌}
use Rattle.std.proofs.lemmas.Bool.{cases_eq}
use Rattle.base.proofs.Lemmas.Lists.Indices.{read_is, slice_get-set, slice_get-set_other}
use Rattle.chan_queue.specs.declared.queue.ChanQueue.{ChanQueue}
use Rattle.net_core.specs.declared.net.Site.{Site}
use Rattle.net_core.specs.Cuts.{Run}
use Rattle.proc_task.specs.declared.port.Outlet.{Outlet}
use Rattle.proc_task.specs.declared.port.Inlet.{Inlet}
use Rattle.proc_task.specs.Ports.{IsOutlet, IsInlet}
use Rattle.proc_task.specs.Moving.{HasEnds}

-- what stands at a place of a list in which one place was set
pub at_set : {A : Type 0} (xs : List A) (i : ℕ) (old new : A) (j : ℕ) (x : A) → slice_get xs i ≡ Some old → slice_get (slice_set xs i new) j ≡ Some x
    → ((j ≡ i) × (new ≡ x)) ⊎ ((j ≢ i) × (slice_get xs j ≡ Some x))
at_set xs i old new j x was e = go (cases_eq j i)
  where
    go : (j ≡ i) ⊎ (j ≡ i → ⊥) → ((j ≡ i) × (new ≡ x)) ⊎ ((j ≢ i) × (slice_get xs j ≡ Some x))
    go (inl same) =
        let there = slice_get-set xs i old new was in
        let here = ap (λ k. slice_get (slice_set xs i new) k) (sym same) ∙ e in
        let is : new ≡ x = cc in
        inl (same, is)
    go (inr apart) = inr (apart, sym (slice_get-set_other xs i j new apart) ∙ e)

-- and the other way: what stood there, or the new one
kept : {A : Type 0} (xs : List A) (i : ℕ) (old new : A) (P : A → Type 0) → slice_get xs i ≡ Some old → (P old → P new) → (j : ℕ) (x : A) → slice_get xs j ≡ Some x → P x
    → (y : A) × (slice_get (slice_set xs i new) j ≡ Some y) × P y
kept xs i old new P was step j x e p = go (cases_eq j i)
  where
    go : (j ≡ i) ⊎ (j ≡ i → ⊥) → (y : _) × (slice_get (slice_set xs i new) j ≡ Some y) × P y
    go (inl same) =
        let here : x ≡ old = (let a = ap (λ k. slice_get xs k) same in cc) in
        (new, ap (λ k. slice_get (slice_set xs i new) k) same ∙ slice_get-set xs i old new was, step (subst P here p))
    go (inr apart) = (x, slice_get-set_other xs i j new apart ∙ e, p)

pub told_set : {A B : Type 0} (told : A → B) (xs : List A) (i : ℕ) (old new : A) → slice_get xs i ≡ Some old → told new ≡ told old
    → (k : ℕ) → option_map told (slice_get (slice_set xs i new) k) ≡ option_map told (slice_get xs k)
told_set told xs i old new was same k = go (cases_eq k i)
  where
    go : (k ≡ i) ⊎ (k ≡ i → ⊥) → option_map told (slice_get (slice_set xs i new) k) ≡ option_map told (slice_get xs k)
    go (inl e) =
        ap (λ j. option_map told (slice_get (slice_set xs i new) j)) e
        ∙ (ap (option_map told) (slice_get-set xs i old new was) ∙ (ap Some same ∙ (ap (option_map told) (sym was) ∙ ap (λ j. option_map told (slice_get xs j)) (sym e))))
    go (inr apart) = ap (option_map told) (slice_get-set_other xs i k new apart)

module _ {S : Type 0} (run : Run) (lines : List (Option (ChanQueue S))) (sites : List Site) (indices : List ℕ) (outlets : List (Outlet S)) (inlets : List (Inlet S)) (has : HasEnds run lines sites indices outlets inlets) where
  -- one outlet more was used
  pub with_outlet : (place : ℕ) (old new : Outlet S) → slice_get outlets place ≡ Some old → new.chan ≡ old.chan → IsOutlet run lines new
      → HasEnds run lines sites indices (slice_set outlets place new) inlets
  with_outlet place old new was chan is = record {
    senders = λ i site e s.
        let h = has.senders i site e s in
        let more = kept outlets place old new (λ o. o.chan ≡ site.chan) was (λ c. chan ∙ c) h.place h.outlet h.outlet_is h.chan_is in
        record { place = h.place; outlet = more.0; place_is = h.place_is; outlet_is = more.1; chan_is = more.2 };
    receivers = has.receivers;
    outlet = λ k o e. one k o (at_set outlets place old new k o was e);
    inlet = has.inlet;
    one_outlet = λ j k a b e f same. apart j k a b same (at_set outlets place old new j a was e) (at_set outlets place old new k b was f);
    one_inlet = has.one_inlet;
  }
    where
      one : (k : ℕ) (o : Outlet S) → ((k ≡ place) × (new ≡ o)) ⊎ ((k ≢ place) × (slice_get outlets k ≡ Some o)) → IsOutlet run lines o
      one k o (inl h) = subst (λ x. IsOutlet run lines x) h.1 is
      one k o (inr h) = has.outlet k o h.1

      apart : (j k : ℕ) (a b : Outlet S) → a.chan ≡ b.chan → ((j ≡ place) × (new ≡ a)) ⊎ ((j ≢ place) × (slice_get outlets j ≡ Some a))
          → ((k ≡ place) × (new ≡ b)) ⊎ ((k ≢ place) × (slice_get outlets k ≡ Some b)) → j ≡ k
      apart j k a b same (inl x) (inl y) = x.0 ∙ sym y.0
      apart j k a b same (inl x) (inr y) = x.0 ∙ has.one_outlet place k old b was y.1 (sym chan ∙ (ap (λ (o : Outlet S). o.chan) x.1 ∙ same))
      apart j k a b same (inr x) (inl y) = has.one_outlet j place a old x.1 was (same ∙ (sym (ap (λ (o : Outlet S). o.chan) y.1) ∙ chan)) ∙ sym y.0
      apart j k a b same (inr x) (inr y) = has.one_outlet j k a b x.1 y.1 same

  -- one inlet more was used
  pub with_inlet : (place : ℕ) (old new : Inlet S) → slice_get inlets place ≡ Some old → new.chan ≡ old.chan → IsInlet run lines new
      → HasEnds run lines sites indices outlets (slice_set inlets place new)
  with_inlet place old new was chan is = record {
    senders = has.senders;
    receivers = λ i site e s.
        let h = has.receivers i site e s in
        let more = kept inlets place old new (λ o. o.chan ≡ site.chan) was (λ c. chan ∙ c) h.place h.inlet h.inlet_is h.chan_is in
        record { place = h.place; inlet = more.0; place_is = h.place_is; inlet_is = more.1; chan_is = more.2 };
    outlet = has.outlet;
    inlet = λ k o e. one k o (at_set inlets place old new k o was e);
    one_outlet = has.one_outlet;
    one_inlet = λ j k a b e f same. apart j k a b same (at_set inlets place old new j a was e) (at_set inlets place old new k b was f);
  }
    where
      one : (k : ℕ) (o : Inlet S) → ((k ≡ place) × (new ≡ o)) ⊎ ((k ≢ place) × (slice_get inlets k ≡ Some o)) → IsInlet run lines o
      one k o (inl h) = subst (λ x. IsInlet run lines x) h.1 is
      one k o (inr h) = has.inlet k o h.1

      apart : (j k : ℕ) (a b : Inlet S) → a.chan ≡ b.chan → ((j ≡ place) × (new ≡ a)) ⊎ ((j ≢ place) × (slice_get inlets j ≡ Some a))
          → ((k ≡ place) × (new ≡ b)) ⊎ ((k ≢ place) × (slice_get inlets k ≡ Some b)) → j ≡ k
      apart j k a b same (inl x) (inl y) = x.0 ∙ sym y.0
      apart j k a b same (inl x) (inr y) = x.0 ∙ has.one_inlet place k old b was y.1 (sym chan ∙ (ap (λ (o : Inlet S). o.chan) x.1 ∙ same))
      apart j k a b same (inr x) (inl y) = has.one_inlet j place a old x.1 was (same ∙ (sym (ap (λ (o : Inlet S). o.chan) y.1) ∙ chan)) ∙ sym y.0
      apart j k a b same (inr x) (inr y) = has.one_inlet j k a b x.1 y.1 same

-- what was read at a place stands there
pub found : {A : Type 0} (xs : List A) (i : ℕ) (x y : A) → slice_get xs i ≡ Some y → x ≡ get_or xs i x → slice_get xs i ≡ Some x
found xs i x y e r = e ∙ ap Some (sym (read_is xs i x y e r))

pub place_read : (xs : List ℕ) (i x place : ℕ) → slice_get xs i ≡ Some place → x ≡ get_or xs i x → place ≡ x
place_read xs i x place e r = sym (read_is xs i x place e r)

pub there_found : {A : Type 0} (xs : List A) (i j : ℕ) (x y : A) → slice_get xs i ≡ Some y → i ≡ j → x ≡ get_or xs j x → slice_get xs j ≡ Some x
there_found xs i j x y e at r = found xs j x y (ap (λ k. slice_get xs k) (sym at) ∙ e) r

pub site_read : {A : Type 0} (xs : List A) (i : ℕ) (x : A) → i < length xs → x ≡ get_or xs i x → slice_get xs i ≡ Some x
site_read [] i x l e = absurd (omega (arith, l))
site_read (y ∷ ys) zero x l e = ap Some (sym e)
site_read (y ∷ ys) (suc i) x l e = site_read ys i x (omega (arith, l)) e
