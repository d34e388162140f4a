-- On each end of a channel at most one site is asserted.
use Rattle.std.proofs.Common.{◌≡◌, ℕ, zero, suc, ◌+◌, ◌-◌, ◌<◌, ◌≤◌, List, [], ◌∷◌, ◌++◌, length, map, refl, sym, ap, ◌∙◌, subst, arith, cond, true, false, Bool, eqb, Option, Some}
use Rattle.std.specs.Prelude.{◌⊎◌, ◌&&◌, not, slice_get}
use Rattle.std.proofs.Common.{inl, inr}
use Rattle.xb_bits.specs.Word.{Word}
use Rattle.xb_value.specs.declared.value.Value.{Value}
use Rattle.net_core.specs.declared.net.Site.{Site}
use Rattle.net_core.specs.declared.event.Event.{Event}
use Rattle.net_core.specs.declared.event.Event.TheVariants.{Recv, Send, End}
use Rattle.net_core.specs.Behavior.{Behavior, IsInDirection, chan_at}
use Rattle.net_core.specs.Cuts.{words_sent, count_received}
use Rattle.block_stage.specs.Machine.Pipeline.{Pipeline, IsPipeline, first}
use Rattle.block_stage.specs.Machine.Cycle.{Ports, Registers, Transfer, event_of, in_stage, event_list, asserted_by, asserted_of, asserted_in}
use Rattle.block_stage.specs.Machine.Since.{at_reset, after_cycles}
use Rattle.block_stage.proofs.OnMachine.Choices.{if_plus, eqb-eq}
use Rattle.block_stage.proofs.OnMachine.Walks.{Goes, ends, skips, takes, gives, no_word, no_room}
use Rattle.block_stage.proofs.OnMachine.Rests.{site_at}
use Rattle.block_stage.proofs.OnMachine.Stages.{stage_at, first_grows}
use Rattle.block_stage.proofs.OnMachine.Moves.{idle}
use Rattle.block_stage.proofs.OnMachine.Holding.{Act, IsHeld}
use Rattle.block_stage.proofs.OnMachine.Turns.{HasTurn, cases}
use Rattle.block_stage.proofs.OnMachine.Standing.{goes_on, is_inside}
use Rattle.block_stage.proofs.OnMachine.Offers.{Makes, full_open}
use Rattle.block_stage.proofs.OnMachine.Prefixes.{stands}

-- the site of a place is at this end of the channel: the sending one, or the receiving one
pub record OnEnd (b : Behavior) (c : ℕ) (sending : Bool) (k : ℕ) : Type 0 where
  pub site : Site
  pub here : slice_get b.sites k ≡ Some site
  pub chan : site.chan ≡ c
  pub sends : site.sends ≡ sending

-- an event is at this end
abbrev is_use : List Site → ℕ → Bool → Event → Bool
is_use sites c sending (Recv i) = not sending && eqb (chan_at sites i) c
is_use sites c sending (Send i w) = sending && eqb (chan_at sites i) c
is_use sites c sending (End s) = false

abbrev uses : List Site → ℕ → Bool → List Event → ℕ
uses sites c sending [] = 0
uses sites c sending (e ∷ es) = cond (is_use sites c sending e) (suc (uses sites c sending es)) (uses sites c sending es)

if_length : (t : Bool) (w : Word) (xs : List Word) (n : ℕ) → length xs ≡ n → length (cond t (w ∷ xs) xs) ≡ cond t (suc n) n
if_length true w xs n e = omega arith
if_length false w xs n e = e

sent_uses : (sites : List Site) (c : ℕ) (es : List Event) → length (words_sent sites c es) ≡ uses sites c true es
unfolding words_sent
sent_uses sites c [] = refl
sent_uses sites c (Recv i ∷ es) = sent_uses sites c es
sent_uses sites c (Send i w ∷ es) = if_length (eqb (chan_at sites i) c) w _ _ (sent_uses sites c es)
sent_uses sites c (End s ∷ es) = sent_uses sites c es

received_uses : (sites : List Site) (c : ℕ) (es : List Event) → count_received sites c es ≡ uses sites c false es
unfolding count_received
received_uses sites c [] = refl
received_uses sites c (Recv i ∷ es) = ap (λ x. cond (eqb (chan_at sites i) c) (suc x) x) (received_uses sites c es)
received_uses sites c (Send i w ∷ es) = received_uses sites c es
received_uses sites c (End s ∷ es) = received_uses sites c es

uses-append : (sites : List Site) (c : ℕ) (d : Bool) (xs ys : List Event) → uses sites c d (xs ++ ys) ≡ uses sites c d xs + uses sites c d ys
uses-append sites c d [] ys = omega arith
uses-append sites c d (x ∷ xs) ys = if_plus (is_use sites c d x) _ _ _ (uses-append sites c d xs ys)

-- the site of an event that is at an end is at that end
makes_on : (q : Pipeline) → IsPipeline q → (c : ℕ) (d : Bool) (s : Value) (got : List Word) (i : ℕ) (e : Event) → i < length q.proc.behavior.sites
    → Makes q.proc.behavior s got i e → is_use q.proc.behavior.sites c d e ≡ true → OnEnd q.proc.behavior c d i
makes_on q is c d s got i e l (inl m) u =
    let r = site_at q.proc.behavior.sites i l in
    let t = m.0 in
    let at = m.1 in
    let v = received d (eqb (chan_at q.proc.behavior.sites i) c) (rw at at u) in
    record {
      site = r.0;
      here = r.1.here;
      chan = sym r.1.chan ∙ eqb-eq _ _ v.1;
      sends = subst (IsInDirection r.0) t (is.directions s got i r.0 r.1.here) ∙ sym v.0;
    }
  where
    received : (d t : Bool) → (not d && t) ≡ true → (d ≡ false) × (t ≡ true)
    received true t e = cc
    received false t e = (refl, e)
makes_on q is c d s got i e l (inr m) u =
    let r = site_at q.proc.behavior.sites i l in
    let t = m.1 in
    let at = m.2 in
    let v = sent d (eqb (chan_at q.proc.behavior.sites i) c) (rw at at u) in
    record {
      site = r.0;
      here = r.1.here;
      chan = sym r.1.chan ∙ eqb-eq _ _ v.1;
      sends = subst (IsInDirection r.0) t (is.directions s got i r.0 r.1.here) ∙ sym v.0;
    }
  where
    sent : (d t : Bool) → (d && t) ≡ true → (d ≡ true) × (t ≡ true)
    sent true t e = (refl, e)
    sent false t e = cc

-- of two sites at an end the later stands in a later stage, and where an activation has the turn
ends_apart : (q : Pipeline) → IsPipeline q → (c : ℕ) (d : Bool) (i k : ℕ) → i < k → OnEnd q.proc.behavior c d i → OnEnd q.proc.behavior c d k
    → (q.stage i < q.stage k) × (q.stage k ≤ q.last)
ends_apart q is c d i k l one two =
    is.apart i k one.site two.site l one.here two.here (record { chan = one.chan ∙ sym two.chan; sends = one.sends ∙ sym two.sends })

abbrev all_asserted : List Transfer → Option Event → List Event
all_asserted transfers stall = map event_of transfers ++ event_list stall

no_use : (q : Pipeline) → IsPipeline q → (c : ℕ) (d : Bool) (s : Value) (got : List Word) (i : ℕ) (e : Event) → i < length q.proc.behavior.sites
    → Makes q.proc.behavior s got i e → (OnEnd q.proc.behavior c d i → ⊥) → (n : ℕ) → n ≡ 0 → cond (is_use q.proc.behavior.sites c d e) (suc n) n ≡ 0
no_use q is c d s got i e l m none n h = go (is_use q.proc.behavior.sites c d e) refl
  where
    go : (t : Bool) → is_use q.proc.behavior.sites c d e ≡ t → cond t (suc n) n ≡ 0
    go true u = absurd (none (makes_on q is c d s got i e l m u))
    go false u = h

-- a walk along sites none of which is at an end
uses_none : (q : Pipeline) → IsPipeline q → (c : ℕ) (d : Bool) (ports : Ports) (s : Value) (got got' : List Word) (i n p : ℕ) (transfers : List Transfer) (stall : Option Event)
    → Goes q.proc.behavior ports s got i n p got' transfers stall → i + n ≤ length q.proc.behavior.sites
    → ((k : ℕ) → i ≤ k → k < i + n → OnEnd q.proc.behavior c d k → ⊥)
    → uses q.proc.behavior.sites c d (all_asserted transfers stall) ≡ 0
uses_none q is c d ports s got got' i n p transfers stall ends l none = refl
uses_none q is c d ports s got got' i n p transfers stall (skips {n = m} t g) l none =
    uses_none q is c d ports s _ got' (suc i) m p transfers stall g (omega arith) (λ k x y. none k (omega arith) (omega arith))
uses_none q is c d ports s got got' i n p transfers stall (takes {n = m} {transfers = ds} w t o g) l none =
    no_use q is c d s got i (Recv i) (omega arith) (inl (t, refl)) (none i (omega arith) (omega arith)) _
    (uses_none q is c d ports s _ got' (suc i) m p ds stall g (omega arith) (λ k x y. none k (omega arith) (omega arith)))
uses_none q is c d ports s got got' i n p transfers stall (gives {n = m} {transfers = ds} w t o g) l none =
    no_use q is c d s got i (Send i w) (omega arith) (inr (w, t, refl)) (none i (omega arith) (omega arith)) _
    (uses_none q is c d ports s _ got' (suc i) m p ds stall g (omega arith) (λ k x y. none k (omega arith) (omega arith)))
uses_none q is c d ports s got got' i n p transfers stall (no_word t o) l none =
    no_use q is c d s got i (Recv i) (omega arith) (inl (t, refl)) (none i (omega arith) (omega arith)) 0 refl
uses_none q is c d ports s got got' i n p transfers stall (no_room w t o) l none =
    no_use q is c d s got i (Send i w) (omega arith) (inr (w, t, refl)) (none i (omega arith) (omega arith)) 0 refl

-- one whose sites at an end are never two
use_once : (t : Bool) (n : ℕ) → (t ≡ true → n ≡ 0) → n ≤ 1 → cond t (suc n) n ≤ 1
use_once true n h l = let e = h refl in omega arith
use_once false n h l = l

uses_once : (q : Pipeline) → IsPipeline q → (c : ℕ) (d : Bool) (ports : Ports) (s : Value) (got got' : List Word) (i n p : ℕ) (transfers : List Transfer) (stall : Option Event)
    → Goes q.proc.behavior ports s got i n p got' transfers stall → i + n ≤ length q.proc.behavior.sites
    → ((j k : ℕ) → i ≤ j → j < k → k < i + n → OnEnd q.proc.behavior c d j → OnEnd q.proc.behavior c d k → ⊥)
    → uses q.proc.behavior.sites c d (all_asserted transfers stall) ≤ 1
uses_once q is c d ports s got got' i n p transfers stall ends l apart = omega arith
uses_once q is c d ports s got got' i n p transfers stall (skips {n = m} t g) l apart =
    uses_once q is c d ports s _ got' (suc i) m p transfers stall g (omega arith) (λ j k x y z. apart j k (omega arith) y (omega arith))
uses_once q is c d ports s got got' i n p transfers stall (takes {n = m} {transfers = ds} w t o g) l apart =
    use_once (is_use q.proc.behavior.sites c d (Recv i)) _
    (λ u. uses_none q is c d ports s _ got' (suc i) m p ds stall g (omega arith)
    (λ k x y. apart i k (omega arith) (omega arith) (omega arith) (makes_on q is c d s got i (Recv i) (omega arith) (inl (t, refl)) u)))
    (uses_once q is c d ports s _ got' (suc i) m p ds stall g (omega arith) (λ j k x y z. apart j k (omega arith) y (omega arith)))
uses_once q is c d ports s got got' i n p transfers stall (gives {n = m} {transfers = ds} w t o g) l apart =
    use_once (is_use q.proc.behavior.sites c d (Send i w)) _
    (λ u. uses_none q is c d ports s _ got' (suc i) m p ds stall g (omega arith)
    (λ k x y. apart i k (omega arith) (omega arith) (omega arith) (makes_on q is c d s got i (Send i w) (omega arith) (inr (w, t, refl)) u)))
    (uses_once q is c d ports s _ got' (suc i) m p ds stall g (omega arith) (λ j k x y z. apart j k (omega arith) y (omega arith)))
uses_once q is c d ports s got got' i n p transfers stall (no_word t o) l apart = use_once (is_use q.proc.behavior.sites c d (Recv i)) 0 (λ u. refl) (omega arith)
uses_once q is c d ports s got got' i n p transfers stall (no_room w t o) l apart = use_once (is_use q.proc.behavior.sites c d (Send i w)) 0 (λ u. refl) (omega arith)

-- a site at an end
pub record Found (b : Behavior) (c : ℕ) (d : Bool) (i j : ℕ) : Type 0 where
  pub place : ℕ
  pub from : i ≤ place
  pub until : place < j
  pub on : OnEnd b c d place

further : (b : Behavior) (c : ℕ) (d : Bool) (i n m : ℕ) → n ≡ suc m → Found b c d (suc i) (suc i + m) → Found b c d i (i + n)
further b c d i n m e f = let a = f.from in let u = f.until in record { place = f.place; from = omega arith; until = omega arith; on = f.on }

found_here : (q : Pipeline) → IsPipeline q → (c : ℕ) (d : Bool) (s : Value) (got : List Word) (i n m : ℕ) (e : Event) → n ≡ suc m → i + n ≤ length q.proc.behavior.sites
    → Makes q.proc.behavior s got i e → (u : ℕ) → (u ≡ 0 → ⊥) ⊎ (u ≡ 0) → ((u ≡ 0 → ⊥) → Found q.proc.behavior c d i (i + n))
    → (cond (is_use q.proc.behavior.sites c d e) (suc u) u ≡ 0 → ⊥) → Found q.proc.behavior c d i (i + n)
found_here q is c d s got i n m e len l mk u dec ih h = go (is_use q.proc.behavior.sites c d e) refl h dec
  where
    go : (t : Bool) → is_use q.proc.behavior.sites c d e ≡ t → (cond t (suc u) u ≡ 0 → ⊥) → (u ≡ 0 → ⊥) ⊎ (u ≡ 0) → Found q.proc.behavior c d i (i + n)
    go true x y z = record { place = i; from = omega arith; until = omega arith; on = makes_on q is c d s got i e (omega arith) mk x }
    go false x y z = ih y

zero_or_not : (u : ℕ) → (u ≡ 0 → ⊥) ⊎ (u ≡ 0)
zero_or_not zero = inr refl
zero_or_not (suc u) = inl (λ e. omega arith)

-- where a walk asks something at an end, there is one
uses_found : (q : Pipeline) → IsPipeline q → (c : ℕ) (d : Bool) (ports : Ports) (s : Value) (got got' : List Word) (i n p : ℕ) (transfers : List Transfer) (stall : Option Event)
    → Goes q.proc.behavior ports s got i n p got' transfers stall → i + n ≤ length q.proc.behavior.sites
    → (uses q.proc.behavior.sites c d (all_asserted transfers stall) ≡ 0 → ⊥) → Found q.proc.behavior c d i (i + n)
uses_found q is c d ports s got got' i n p transfers stall ends l h = absurd (h refl)
uses_found q is c d ports s got got' i n p transfers stall (skips {n = m} t g) l h =
    further q.proc.behavior c d i (suc m) m refl (uses_found q is c d ports s _ got' (suc i) m p transfers stall g (omega arith) h)
uses_found q is c d ports s got got' i n p transfers stall (takes {n = m} {transfers = ds} w t o g) l h =
    found_here q is c d s got i (suc m) m (Recv i) refl l (inl (t, refl)) _ (zero_or_not _)
    (λ x. further q.proc.behavior c d i (suc m) m refl (uses_found q is c d ports s _ got' (suc i) m p ds stall g (omega arith) x)) h
uses_found q is c d ports s got got' i n p transfers stall (gives {n = m} {transfers = ds} w t o g) l h =
    found_here q is c d s got i (suc m) m (Send i w) refl l (inr (w, t, refl)) _ (zero_or_not _)
    (λ x. further q.proc.behavior c d i (suc m) m refl (uses_found q is c d ports s _ got' (suc i) m p ds stall g (omega arith) x)) h
uses_found q is c d ports s got got' i n p transfers stall (no_word {n = m} t o) l h =
    found_here q is c d s got i (suc m) m (Recv i) refl l (inl (t, refl)) 0 (zero_or_not 0) (λ x. absurd (x refl)) h
uses_found q is c d ports s got got' i n p transfers stall (no_room {n = m} w t o) l h =
    found_here q is c d s got i (suc m) m (Send i w) refl l (inr (w, t, refl)) 0 (zero_or_not 0) (λ x. absurd (x refl)) h

-- a stage
abbrev stage_uses : Pipeline → Registers → Ports → ℕ → Bool → ℕ → ℕ
stage_uses q c ports ch d j = uses q.proc.behavior.sites ch d (asserted_by (in_stage q c ports j))

stage_once : (q : Pipeline) → IsPipeline q → (c : Registers) (ports : Ports) (acts : ℕ → Act) (ch : ℕ) (d : Bool) (j : ℕ) → IsHeld q c j (acts j) → stage_uses q c ports ch d j ≤ 1
stage_once q is c ports acts ch d j stage_regs = go (cases (c.full j))
  where
    go : (c.full j ≡ true) ⊎ (c.full j ≡ false) → uses q.proc.behavior.sites ch d (asserted_by (in_stage q c ports j)) ≤ 1
    go (inr f) = let e = idle q c ports j f in rw e (omega arith)
    go (inl f) =
        let w = in_stage q c ports j in
        let at = is_inside q c acts j stage_regs f in
        let a = at.from in let u = at.until in let z = at.all in
        uses_once q is ch d ports (acts j).state (acts j).got w.got (acts j).place (first q (suc j) - (acts j).place) w.place w.transfers w.stall (goes_on q c ports acts j stage_regs f) (omega arith)
        (λ i k x y v one two.
        let apart = (ends_apart q is ch d i k y one two).0 in
        let e = stage_at q is i j (omega arith) (omega arith) in
        let h = stage_at q is k j (omega arith) (omega arith) in
        omega arith)

-- and the stage that it stands in
record InStage (q : Pipeline) (c : Registers) (ch : ℕ) (d : Bool) (j : ℕ) : Type 0 where
  place : ℕ
  from : first q j ≤ place
  until : place < first q (suc j)
  stage : q.stage place ≡ j
  full : c.full j ≡ true
  on : OnEnd q.proc.behavior ch d place

stage_found : (q : Pipeline) → IsPipeline q → (c : Registers) (ports : Ports) (acts : ℕ → Act) (ch : ℕ) (d : Bool) (j : ℕ) → IsHeld q c j (acts j)
    → (stage_uses q c ports ch d j ≡ 0 → ⊥) → InStage q c ch d j
stage_found q is c ports acts ch d j stage_regs h = go (cases (c.full j))
  where
    go : (c.full j ≡ true) ⊎ (c.full j ≡ false) → InStage q c ch d j
    go (inr f) = absurd (h (let e = idle q c ports j f in rw e refl))
    go (inl f) =
        let w = in_stage q c ports j in
        let at = is_inside q c acts j stage_regs f in
        let a = at.from in let u = at.until in let z = at.all in
        let r = uses_found q is ch d ports (acts j).state (acts j).got w.got (acts j).place (first q (suc j) - (acts j).place) w.place w.transfers w.stall (goes_on q c ports acts j stage_regs f) (omega arith) h in
        let x = r.from in let y = r.until in
        let from : first q j ≤ r.place = omega arith in
        let until : r.place < first q (suc j) = omega arith in
        record { place = r.place; from = from; until = until; stage = stage_at q is r.place j from until; full = f; on = r.on }

-- two stages aren't both asked at an end
not_two : (q : Pipeline) → IsPipeline q → (c : Registers) (o ch : ℕ) (d : Bool) → HasTurn q c o → (j k : ℕ) → j < k → InStage q c ch d j → InStage q c ch d k → ⊥
not_two q is c o ch d turn j k l one two =
    let grows = first_grows q is (suc j) k l in
    let a = one.until in let b = two.from in
    let apart = (ends_apart q is ch d one.place two.place (omega arith) one.on two.on).1 in
    let e = two.stage in
    let f = full_open q c o turn j (omega arith) one.full in
    let g = full_open q c o turn k (omega arith) two.full in
    omega arith

rest_unused : (q : Pipeline) (c : Registers) (ports : Ports) (ch : ℕ) (d : Bool) (n k : ℕ) → ((j : ℕ) → k ≤ j → j < k + n → stage_uses q c ports ch d j ≡ 0)
    → uses q.proc.behavior.sites ch d (asserted_of q c ports k n) ≡ 0
rest_unused q c ports ch d zero k h = refl
rest_unused q c ports ch d (suc n) k h =
    let here = h k (omega arith) (omega arith) in
    let more = rest_unused q c ports ch d n (suc k) (λ j x y. h j (omega arith) (omega arith)) in
    let sum = uses-append q.proc.behavior.sites ch d (asserted_by (in_stage q c ports k)) (asserted_of q c ports (suc k) n) in
    omega (arith, here, more, sum)

uses_total : (q : Pipeline) → IsPipeline q → (c : Registers) (ports : Ports) (acts : ℕ → Act) (o ch : ℕ) (d : Bool) → HasTurn q c o → ((j : ℕ) → j < q.stages → IsHeld q c j (acts j))
    → (n k : ℕ) → k + n ≤ q.stages → uses q.proc.behavior.sites ch d (asserted_of q c ports k n) ≤ 1
uses_total q is c ports acts o ch d turn stage_regs zero k l = omega arith
uses_total q is c ports acts o ch d turn stage_regs (suc n) k l =
    let once = stage_once q is c ports acts ch d k (stage_regs k (omega arith)) in
    let more = uses_total q is c ports acts o ch d turn stage_regs n (suc k) (omega arith) in
    let sum = uses-append q.proc.behavior.sites ch d (asserted_by (in_stage q c ports k)) (asserted_of q c ports (suc k) n) in
    go once more sum (zero_or_not (stage_uses q c ports ch d k))
  where
    others : InStage q c ch d k → (j : ℕ) → suc k ≤ j → j < suc k + n → stage_uses q c ports ch d j ≡ 0
    others one j x y = pick (zero_or_not (stage_uses q c ports ch d j))
      where
        pick : (stage_uses q c ports ch d j ≡ 0 → ⊥) ⊎ (stage_uses q c ports ch d j ≡ 0) → stage_uses q c ports ch d j ≡ 0
        pick (inr e) = e
        pick (inl h) = absurd (not_two q is c o ch d turn k j x one (stage_found q is c ports acts ch d j (stage_regs j (omega arith)) h))

    go : stage_uses q c ports ch d k ≤ 1 → uses q.proc.behavior.sites ch d (asserted_of q c ports (suc k) n) ≤ 1
        → uses q.proc.behavior.sites ch d (asserted_of q c ports k (suc n)) ≡ stage_uses q c ports ch d k + uses q.proc.behavior.sites ch d (asserted_of q c ports (suc k) n)
        → (stage_uses q c ports ch d k ≡ 0 → ⊥) ⊎ (stage_uses q c ports ch d k ≡ 0)
        → uses q.proc.behavior.sites ch d (asserted_of q c ports k (suc n)) ≤ 1
    go once more sum (inr e) = omega (arith, once, more, sum, e)
    go once more sum (inl h) =
        let one = stage_found q is c ports acts ch d k (stage_regs k (omega arith)) h in
        let none = rest_unused q c ports ch d n (suc k) (others one) in
        omega (arith, once, none, sum)

-- at most one site of each end is asked
pub one_sends : (q : Pipeline) → IsPipeline q → (c : Registers) (ports : Ports) (acts : ℕ → Act) (o ch : ℕ) → HasTurn q c o → ((j : ℕ) → j < q.stages → IsHeld q c j (acts j))
    → length (words_sent q.proc.behavior.sites ch (asserted_in q c ports)) ≤ 1
unfolding asserted_in
one_sends q is c ports acts o ch turn stage_regs =
    let a = uses_total q is c ports acts o ch true turn stage_regs q.stages 0 (omega arith) in
    let b = sent_uses q.proc.behavior.sites ch (asserted_of q c ports 0 q.stages) in
    omega (arith, a, b)

pub one_receives : (q : Pipeline) → IsPipeline q → (c : Registers) (ports : Ports) (acts : ℕ → Act) (o ch : ℕ) → HasTurn q c o → ((j : ℕ) → j < q.stages → IsHeld q c j (acts j))
    → count_received q.proc.behavior.sites ch (asserted_in q c ports) ≤ 1
unfolding asserted_in
one_receives q is c ports acts o ch turn stage_regs =
    let a = uses_total q is c ports acts o ch false turn stage_regs q.stages 0 (omega arith) in
    let b = received_uses q.proc.behavior.sites ch (asserted_of q c ports 0 q.stages) in
    omega (arith, a, b)

pub one_site_asserts_valid : (q : Pipeline) → IsPipeline q → (cycles : List Ports) (ports : Ports) (chan : ℕ)
    → length (words_sent q.proc.behavior.sites chan (asserted_in q (after_cycles q (at_reset q) cycles).contents ports)) ≤ 1
one_site_asserts_valid q is cycles ports chan =
    let s = stands q is cycles in
    one_sends q is (after_cycles q (at_reset q) cycles).contents ports s.0.acts s.0.open_stage chan s.1.turn s.1.stage_regs

pub one_site_asserts_ready : (q : Pipeline) → IsPipeline q → (cycles : List Ports) (ports : Ports) (chan : ℕ)
    → count_received q.proc.behavior.sites chan (asserted_in q (after_cycles q (at_reset q) cycles).contents ports) ≤ 1
one_site_asserts_ready q is cycles ports chan =
    let s = stands q is cycles in
    one_receives q is (after_cycles q (at_reset q) cycles).contents ports s.0.acts s.0.open_stage chan s.1.turn s.1.stage_regs
