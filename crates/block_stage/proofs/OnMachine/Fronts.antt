-- The done sites of a stage: those before a place, behind which none is done.
use Rattle.std.proofs.Common.{◌≡◌, ℕ, zero, suc, ◌+◌, ◌<◌, ◌≤◌, List, [], ◌∷◌, ◌++◌, refl, sym, ◌∙◌, subst, arith, cond, true, false, Bool, eqb, Option}
use Rattle.std.specs.Prelude.{◌||◌}
use Rattle.std.specs.List.{list_any}
use Rattle.xb_bits.specs.Word.{Word}
use Rattle.xb_value.specs.declared.value.Value.{Value}
use Rattle.net_core.specs.declared.event.Event.{Event}
use Rattle.net_core.specs.Behavior.{Behavior, Turn, Skip, Receive, Give, chan_at}
use Rattle.block_stage.specs.Machine.Cycle.{Ports, Transfer, Takes, Gives, at_site, walk, is_at, kept_after}
use Rattle.block_stage.proofs.OnMachine.Choices.{eqb-same, eq_apart}
use Rattle.block_stage.proofs.OnMachine.Walks.{Goes, ends, skips, takes, gives, no_word, no_room, walk_step, place_range}

-- each site from place i to before place p is off or done, and the words kept lead from those received before to these
pub data IsDone (b : Behavior) (done : ℕ → Bool) (kept : ℕ → Word) (s : Value) : List Word → ℕ → List Word → ℕ → Type 0 where
  none : {got : List Word} {i : ℕ} → IsDone b done kept s got i got i
  off : {got got' : List Word} {i p : ℕ} → b.turn s got i ≡ Skip → IsDone b done kept s got (suc i) got' p → IsDone b done kept s got i got' p
  received : {got got' : List Word} {i p : ℕ} → b.turn s got i ≡ Receive → done i ≡ true → IsDone b done kept s (got ++ kept i ∷ []) (suc i) got' p → IsDone b done kept s got i got' p
  sent : {got got' : List Word} {i p : ℕ} (w : Word) → b.turn s got i ≡ Give w → done i ≡ true → IsDone b done kept s got (suc i) got' p → IsDone b done kept s got i got' p

pub done_range : (b : Behavior) (done : ℕ → Bool) (kept : ℕ → Word) (s : Value) (got got' : List Word) (i p : ℕ) → IsDone b done kept s got i got' p → i ≤ p
done_range b done kept s got got' i p none = omega arith
done_range b done kept s got got' i p (off t d) = let ih = done_range b done kept s _ got' (suc i) p d in omega arith
done_range b done kept s got got' i p (received t o d) = let ih = done_range b done kept s _ got' (suc i) p d in omega arith
done_range b done kept s got got' i p (sent w t o d) = let ih = done_range b done kept s _ got' (suc i) p d in omega arith

pub done_then : (b : Behavior) (done : ℕ → Bool) (kept : ℕ → Word) (s : Value) (got g g' : List Word) (i p r : ℕ)
    → IsDone b done kept s got i g p → IsDone b done kept s g p g' r → IsDone b done kept s got i g' r
done_then b done kept s got g g' i p r none e = e
done_then b done kept s got g g' i p r (off t d) e = off t (done_then b done kept s _ g g' (suc i) p r d e)
done_then b done kept s got g g' i p r (received t o d) e = received t o (done_then b done kept s _ g g' (suc i) p r d e)
done_then b done kept s got g g' i p r (sent w t o d) e = sent w t o (done_then b done kept s _ g g' (suc i) p r d e)

-- a walk passes what is done
step_done : (b : Behavior) (done : ℕ → Bool) (kept : ℕ → Word) (ports : Ports) (s : Value) (got : List Word) (i n : ℕ) (turn : Turn) (d : Bool)
    → b.turn s got i ≡ turn → done i ≡ d
    → walk b done kept ports s got i (suc n)
    ≡ at_site i got turn d (kept i) (ports.valid_word (chan_at b.sites i)) (ports.room (chan_at b.sites i)) (λ got'. walk b done kept ports s got' (suc i) n)
step_done b done kept ports s got i n turn d t e = rw (walk_step b done kept ports s got i n, t, e)

pub done_walk : (b : Behavior) (done : ℕ → Bool) (kept : ℕ → Word) (ports : Ports) (s : Value) (got got' : List Word) (i p : ℕ)
    → IsDone b done kept s got i got' p → (n m : ℕ) → i + n ≡ p + m
    → walk b done kept ports s got i n ≡ walk b done kept ports s got' p m
done_walk b done kept ports s got got' i p none n m e = let h : n ≡ m = omega arith in rw h
done_walk b done kept ports s got got' i p (off t d) zero m e =
    let r = done_range b done kept s _ got' (suc i) p d in absurd (omega arith)
done_walk b done kept ports s got got' i p (received t o d) zero m e =
    let r = done_range b done kept s _ got' (suc i) p d in absurd (omega arith)
done_walk b done kept ports s got got' i p (sent w t o d) zero m e =
    let r = done_range b done kept s _ got' (suc i) p d in absurd (omega arith)
done_walk b done kept ports s got got' i p (off t d) (suc n) m e =
    step_done b done kept ports s got i n Skip (done i) t refl ∙ done_walk b done kept ports s got got' (suc i) p d n m (omega arith)
done_walk b done kept ports s got got' i p (received t o d) (suc n) m e =
    step_done b done kept ports s got i n Receive true t o ∙ done_walk b done kept ports s (got ++ kept i ∷ []) got' (suc i) p d n m (omega arith)
done_walk b done kept ports s got got' i p (sent w t o d) (suc n) m e =
    step_done b done kept ports s got i n (Give w) true t o ∙ done_walk b done kept ports s got got' (suc i) p d n m (omega arith)

-- what is done stays done where its bit and its word stay
pub done_stays : (b : Behavior) (done done' : ℕ → Bool) (kept kept' : ℕ → Word) (s : Value) (got got' : List Word) (i p : ℕ)
    → IsDone b done kept s got i got' p
    → ((k : ℕ) → i ≤ k → k < p → done k ≡ true → (done' k ≡ true) × (kept' k ≡ kept k))
    → IsDone b done' kept' s got i got' p
done_stays b done done' kept kept' s got got' i p none h = none
done_stays b done done' kept kept' s got got' i p (off t d) h =
    off t (done_stays b done done' kept kept' s _ got' (suc i) p d (λ k l r. h k (omega arith) r))
done_stays b done done' kept kept' s got got' i p (received t o d) h =
    let r = done_range b done kept s _ got' (suc i) p d in
    let here = h i (omega arith) (omega arith) o in
    received t here.0 (subst (λ w. IsDone b done' kept' s (got ++ w ∷ []) (suc i) got' p) (sym here.1)
    (done_stays b done done' kept kept' s _ got' (suc i) p d (λ k l r. h k (omega arith) r)))
done_stays b done done' kept kept' s got got' i p (sent w t o d) h =
    let r = done_range b done kept s _ got' (suc i) p d in
    let here = h i (omega arith) (omega arith) o in
    sent w t here.0 (done_stays b done done' kept kept' s _ got' (suc i) p d (λ k l r. h k (omega arith) r))

or_true : (x y : Bool) → y ≡ true → (x || y) ≡ true
or_true true y e = refl
or_true false y e = e

or_first : (x y : Bool) → x ≡ true → (x || y) ≡ true
or_first x y e = rw e

-- what a walk makes is done behind it
pub goes_done : (b : Behavior) (ports : Ports) (done : ℕ → Bool) (kept kept' : ℕ → Word) (s : Value) (got got' : List Word) (i n p : ℕ) (transfers : List Transfer) (stall : Option Event)
    → Goes b ports s got i n p got' transfers stall
    → ((k : ℕ) → i ≤ k → k < p → list_any (is_at k) transfers ≡ true → done k ≡ true)
    → ((k : ℕ) → i ≤ k → k < p → kept' k ≡ kept_after (kept k) k transfers)
    → IsDone b done kept' s got i got' p
goes_done b ports done kept kept' s got got' i n p transfers stall ends h e = none
goes_done b ports done kept kept' s got got' i n p transfers stall (skips {n = m} t g) h e =
    off t (goes_done b ports done kept kept' s got got' (suc i) m p transfers stall g (λ k l r. h k (omega arith) r) (λ k l r. e k (omega arith) r))
goes_done b ports done kept kept' s got got' i n p transfers stall (takes {n = m} {transfers = ds} w t o g) h e =
    let r = place_range b ports s _ got' (suc i) m p ds stall g in
    let l : i < p = let x = r.0 in omega arith in
    let word : kept' i ≡ w = e i (omega arith) l ∙ (let q = eqb-same i in rw q) in
    received t (h i (omega arith) l (or_first (eqb i i) _ (eqb-same i)))
    (subst (λ x. IsDone b done kept' s (got ++ x ∷ []) (suc i) got' p) (sym word)
    (goes_done b ports done kept kept' s (got ++ w ∷ []) got' (suc i) m p ds stall g
    (λ k l r x. h k (omega arith) r (or_true (eqb i k) _ x))
    (λ k l r. e k (omega arith) r ∙ (let q = eq_apart i k (λ x. omega arith) in rw q))))
goes_done b ports done kept kept' s got got' i n p transfers stall (gives {n = m} {transfers = ds} w t o g) h e =
    let r = place_range b ports s _ got' (suc i) m p ds stall g in
    let l : i < p = let x = r.0 in omega arith in
    sent w t (h i (omega arith) l (or_first (eqb i i) _ (eqb-same i)))
    (goes_done b ports done kept kept' s got got' (suc i) m p ds stall g
    (λ k l r x. h k (omega arith) r (or_true (eqb i k) _ x))
    (λ k l r. e k (omega arith) r))
goes_done b ports done kept kept' s got got' i n p transfers stall (no_word t o) h e = none
goes_done b ports done kept kept' s got got' i n p transfers stall (no_room w t o) h e = none

-- a word stays kept where no receive of its place goes
pub kept_stays : (kept : Word) (k : ℕ) (transfers : List Transfer) → list_any (is_at k) transfers ≡ false → kept_after kept k transfers ≡ kept
kept_stays kept k [] h = refl
kept_stays kept k (Takes i w ∷ transfers) h = go (eqb i k) h (λ r. kept_stays kept k transfers r)
  where
    go : (t : Bool) → (t || list_any (is_at k) transfers) ≡ false → (list_any (is_at k) transfers ≡ false → kept_after kept k transfers ≡ kept) → cond t w (kept_after kept k transfers) ≡ kept
    go true h ih = cc
    go false h ih = ih h
kept_stays kept k (Gives i w ∷ transfers) h = kept_stays kept k transfers (or_false_right (eqb i k) _ h)
  where
    or_false_right : (x y : Bool) → (x || y) ≡ false → y ≡ false
    or_false_right true y e = cc
    or_false_right false y e = e
