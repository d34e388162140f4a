-- A walk along the sites of a stage none of which is done, case by case.
use Rattle.std.proofs.Common.{◌≡◌, ℕ, zero, suc, ◌+◌, ◌<◌, ◌≤◌, List, [], ◌∷◌, ◌++◌, refl, sym, ap, ◌∙◌, subst, arith, true, false, Bool, eqb, Option, Some, None}
use Rattle.std.specs.List.{list_any}
use Rattle.std.specs.Prelude.{◌⊎◌}
use Rattle.std.proofs.Common.{inl, inr}
use Rattle.xb_bits.specs.Word.{Word}
use Rattle.xb_value.specs.declared.value.Value.{Value}
use Rattle.net_core.specs.declared.event.Event.{Event}
use Rattle.net_core.specs.declared.event.Event.TheVariants.{Recv, Send}
use Rattle.net_core.specs.Behavior.{Behavior, Turn, Skip, Receive, Give, chan_at}
use Rattle.block_stage.specs.Machine.Cycle.{Ports, Transfer, Takes, Gives, Walk, stopped, at_site, walk, is_at}
use Rattle.block_stage.proofs.OnMachine.Choices.{or_false, eq_apart}

-- from place i on, over so many sites, an activation comes to a place, with these words received by then; these words go
-- through ports on the way, and it waits for this or passes
pub data Goes (b : Behavior) (ports : Ports) (s : Value) : List Word → ℕ → ℕ → ℕ → List Word → List Transfer → Option Event → Type 0 where
  ends : {got : List Word} {i : ℕ} → Goes b ports s got i zero i got [] None
  skips : {got got' : List Word} {i n p : ℕ} {transfers : List Transfer} {stall : Option Event} → b.turn s got i ≡ Skip
      → Goes b ports s got (suc i) n p got' transfers stall → Goes b ports s got i (suc n) p got' transfers stall
  takes : {got got' : List Word} {i n p : ℕ} {transfers : List Transfer} {stall : Option Event} (w : Word) → b.turn s got i ≡ Receive → ports.valid_word (chan_at b.sites i) ≡ Some w
      → Goes b ports s (got ++ w ∷ []) (suc i) n p got' transfers stall → Goes b ports s got i (suc n) p got' (Takes i w ∷ transfers) stall
  gives : {got got' : List Word} {i n p : ℕ} {transfers : List Transfer} {stall : Option Event} (w : Word) → b.turn s got i ≡ Give w → ports.room (chan_at b.sites i) ≡ true
      → Goes b ports s got (suc i) n p got' transfers stall → Goes b ports s got i (suc n) p got' (Gives i w ∷ transfers) stall
  no_word : {got : List Word} {i n : ℕ} → b.turn s got i ≡ Receive → ports.valid_word (chan_at b.sites i) ≡ None
      → Goes b ports s got i (suc n) i got [] (Some (Recv i))
  no_room : {got : List Word} {i n : ℕ} (w : Word) → b.turn s got i ≡ Give w → ports.room (chan_at b.sites i) ≡ false
      → Goes b ports s got i (suc n) i got [] (Some (Send i w))

abbrev pub IsGoing : Behavior → Ports → Value → List Word → ℕ → ℕ → Walk → Type 0
IsGoing b ports s got i n w = Goes b ports s got i n w.place w.got w.transfers w.stall

site_goes : (b : Behavior) (ports : Ports) (s : Value) (got : List Word) (i n : ℕ) (kept : Word) (next : List Word → Walk)
    → ((got' : List Word) → IsGoing b ports s got' (suc i) n (next got'))
    → (turn : Turn) → b.turn s got i ≡ turn → (valid_word : Option Word) → ports.valid_word (chan_at b.sites i) ≡ valid_word
    → (room : Bool) → ports.room (chan_at b.sites i) ≡ room
    → IsGoing b ports s got i (suc n) (at_site i got turn false kept valid_word room next)
site_goes b ports s got i n kept next ih Skip t valid_word o room r = skips t (ih got)
site_goes b ports s got i n kept next ih Receive t (Some w) o room r = takes w t o (ih (got ++ w ∷ []))
site_goes b ports s got i n kept next ih Receive t None o room r = no_word t o
site_goes b ports s got i n kept next ih (Give w) t valid_word o true r = gives w t r (ih got)
site_goes b ports s got i n kept next ih (Give w) t valid_word o false r = no_room w t r

pub walk_step : (b : Behavior) (done : ℕ → Bool) (kept : ℕ → Word) (ports : Ports) (s : Value) (got : List Word) (i n : ℕ)
    → walk b done kept ports s got i (suc n)
    ≡ at_site i got (b.turn s got i) (done i) (kept i) (ports.valid_word (chan_at b.sites i)) (ports.room (chan_at b.sites i)) (λ got'. walk b done kept ports s got' (suc i) n)
unfolding walk
walk_step b done kept ports s got i n = refl

pub walk_end : (b : Behavior) (done : ℕ → Bool) (kept : ℕ → Word) (ports : Ports) (s : Value) (got : List Word) (i : ℕ)
    → walk b done kept ports s got i zero ≡ stopped i got None
unfolding walk
walk_end b done kept ports s got i = refl

-- a walk over sites that aren't done
pub walk_goes : (b : Behavior) (done : ℕ → Bool) (kept : ℕ → Word) (ports : Ports) (s : Value) (got : List Word) (i n : ℕ)
    → ((k : ℕ) → i ≤ k → k < i + n → done k ≡ false)
    → IsGoing b ports s got i n (walk b done kept ports s got i n)
walk_goes b done kept ports s got i zero h = subst (IsGoing b ports s got i zero) (sym (walk_end b done kept ports s got i)) ends
walk_goes b done kept ports s got i (suc n) h =
    let ih = λ (got' : List Word). walk_goes b done kept ports s got' (suc i) n (λ k l r. h k (omega arith) (omega arith)) in
    let chan = chan_at b.sites i in
    let next = λ (got' : List Word). walk b done kept ports s got' (suc i) n in
    let here : done i ≡ false = h i (omega arith) (omega arith) in
    subst (IsGoing b ports s got i (suc n)) (sym (walk_step b done kept ports s got i n
    ∙ ap (λ d. at_site i got (b.turn s got i) d (kept i) (ports.valid_word chan) (ports.room chan) next) here))
    (site_goes b ports s got i n (kept i) next ih (b.turn s got i) refl (ports.valid_word chan) refl (ports.room chan) refl)

-- one that waits for nothing has passed all sites
pub passes_all : (b : Behavior) (ports : Ports) (s : Value) (got got' : List Word) (i n p : ℕ) (transfers : List Transfer) (stall : Option Event)
    → Goes b ports s got i n p got' transfers stall → stall ≡ None → p ≡ i + n
passes_all b ports s got got' i n p transfers stall ends e = omega arith
passes_all b ports s got got' i n p transfers stall (skips {n = m} t g) e =
    let ih = passes_all b ports s _ _ (suc i) m _ _ _ g e in omega (arith, ih)
passes_all b ports s got got' i n p transfers stall (takes {n = m} w t o g) e =
    let ih = passes_all b ports s _ _ (suc i) m _ _ _ g e in omega (arith, ih)
passes_all b ports s got got' i n p transfers stall (gives {n = m} w t r g) e =
    let ih = passes_all b ports s _ _ (suc i) m _ _ _ g e in omega (arith, ih)
passes_all b ports s got got' i n p transfers stall (no_word t o) e = cc
passes_all b ports s got got' i n p transfers stall (no_room w t r) e = cc

-- the places of a walk
pub place_range : (b : Behavior) (ports : Ports) (s : Value) (got got' : List Word) (i n p : ℕ) (transfers : List Transfer) (stall : Option Event)
    → Goes b ports s got i n p got' transfers stall → (i ≤ p) × (p ≤ i + n)
place_range b ports s got got' i n p transfers stall ends = (omega arith, omega arith)
place_range b ports s got got' i n p transfers stall (skips {n = m} t g) =
    let ih = place_range b ports s _ _ (suc i) m p _ _ g in let l = ih.0 in let r = ih.1 in (omega arith, omega arith)
place_range b ports s got got' i n p transfers stall (takes {n = m} w t o g) =
    let ih = place_range b ports s _ _ (suc i) m p _ _ g in let l = ih.0 in let r = ih.1 in (omega arith, omega arith)
place_range b ports s got got' i n p transfers stall (gives {n = m} w t r g) =
    let ih = place_range b ports s _ _ (suc i) m p _ _ g in let l = ih.0 in let r = ih.1 in (omega arith, omega arith)
place_range b ports s got got' i n p transfers stall (no_word {n = m} t o) = (omega arith, omega arith)
place_range b ports s got got' i n p transfers stall (no_room {n = m} w t r) = (omega arith, omega arith)

-- what goes through ports stands before the place that is reached, from the first place on
pub nothing_outside : (b : Behavior) (ports : Ports) (s : Value) (got got' : List Word) (i n p : ℕ) (transfers : List Transfer) (stall : Option Event)
    → Goes b ports s got i n p got' transfers stall → (k : ℕ) → (k < i) ⊎ (p ≤ k) → list_any (is_at k) transfers ≡ false
nothing_outside b ports s got got' i n p transfers stall ends k h = refl
nothing_outside b ports s got got' i n p transfers stall (skips {n = m} t g) k h = nothing_outside b ports s _ _ (suc i) m p _ _ g k (outer i k p h)
  where
    outer : (i k p : ℕ) → (k < i) ⊎ (p ≤ k) → (k < suc i) ⊎ (p ≤ k)
    outer i k p (inl l) = inl (omega arith)
    outer i k p (inr l) = inr l
nothing_outside b ports s got got' i n p transfers stall (takes {n = m} w t o g) k h =
    let r = place_range b ports s _ _ (suc i) m p _ _ g in
    or_false (eqb i k) _ (eq_apart i k (apart i k p r.0 h)) (nothing_outside b ports s _ _ (suc i) m p _ _ g k (outer i k p h))
  where
    outer : (i k p : ℕ) → (k < i) ⊎ (p ≤ k) → (k < suc i) ⊎ (p ≤ k)
    outer i k p (inl l) = inl (omega arith)
    outer i k p (inr l) = inr l

    apart : (i k p : ℕ) → suc i ≤ p → (k < i) ⊎ (p ≤ k) → i ≡ k → ⊥
    apart i k p l (inl r) e = omega arith
    apart i k p l (inr r) e = omega arith
nothing_outside b ports s got got' i n p transfers stall (gives {n = m} w t r g) k h =
    let r = place_range b ports s _ _ (suc i) m p _ _ g in
    or_false (eqb i k) _ (eq_apart i k (apart i k p r.0 h)) (nothing_outside b ports s _ _ (suc i) m p _ _ g k (outer i k p h))
  where
    outer : (i k p : ℕ) → (k < i) ⊎ (p ≤ k) → (k < suc i) ⊎ (p ≤ k)
    outer i k p (inl l) = inl (omega arith)
    outer i k p (inr l) = inr l

    apart : (i k p : ℕ) → suc i ≤ p → (k < i) ⊎ (p ≤ k) → i ≡ k → ⊥
    apart i k p l (inl r) e = omega arith
    apart i k p l (inr r) e = omega arith
nothing_outside b ports s got got' i n p transfers stall (no_word t o) k h = refl
nothing_outside b ports s got got' i n p transfers stall (no_room w t r) k h = refl
