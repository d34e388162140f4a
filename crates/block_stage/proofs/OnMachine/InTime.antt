-- An activation comes to its next event in time.
use Rattle.std.proofs.Common.{◌≡◌, ℕ, zero, suc, ◌+◌, ◌-◌, ◌<◌, ◌≤◌, List, [], ◌∷◌, ◌++◌, length, map, refl, sym, ◌∙◌, subst, arith, true, false, Bool, Option, None}
use Rattle.std.specs.Prelude.{◌⊎◌, ◌||◌, ◌&&◌, not}
use Rattle.std.proofs.Common.{inl, inr}
use Rattle.std.proofs.lemmas.Bool.{cases_lt}
use Rattle.xb_bits.specs.Word.{Word}
use Rattle.xb_value.specs.declared.value.Value.{Value}
use Rattle.net_core.specs.declared.event.Event.{Event}
use Rattle.net_core.specs.Behavior.{Behavior, Turn, Skip, Receive, Give}
use Rattle.block_stage.specs.Machine.Pipeline.{Pipeline, IsPipeline, first}
use Rattle.block_stage.specs.Machine.Cycle.{Ports, Registers, brought, Transfer, event_of, in_stage, moves, event_list, asserted_by, after_cycle}
use Rattle.block_stage.specs.Machine.Since.{Since, at_reset, one_more, after_cycles}
use Rattle.block_stage.specs.Machine.Next.{closed_ports, IsEventOf, IsSpent, IsNextEvent}
use Rattle.block_stage.proofs.OnMachine.Walks.{Goes, ends, skips, takes, gives, no_word, no_room, place_range}
use Rattle.block_stage.proofs.OnMachine.Stages.{stands_before, stands_behind}
use Rattle.block_stage.proofs.OnMachine.Moves.{moving}
use Rattle.block_stage.proofs.OnMachine.Holding.{Act, IsHeld, walked}
use Rattle.block_stage.proofs.OnMachine.Turns.{HasTurn, acts_after, open_after, full_suc, held_next, turn_next}
use Rattle.block_stage.proofs.OnMachine.Standing.{goes_on, is_inside, walks_through}
use Rattle.block_stage.proofs.OnMachine.Meeting.{passing_moves, a_moved_activation_stands_in_the_next_stage}
use Rattle.block_stage.proofs.OnMachine.Offers.{Makes, asserts_first}
use Rattle.block_stage.proofs.OnMachine.Prefixes.{stands}

off_from : (b : Behavior) (s : Value) (got : List Word) (i p : ℕ) → b.turn s got i ≡ Skip → ((k : ℕ) → suc i ≤ k → k < p → b.turn s got k ≡ Skip)
    → (k : ℕ) → i ≤ k → k < p → b.turn s got k ≡ Skip
off_from b s got i p t h k l r = go (cases_lt i k)
  where
    go : (i < k) ⊎ (k ≤ i) → b.turn s got k ≡ Skip
    go (inl x) = h k x r
    go (inr x) = let e : i ≡ k = omega (arith, l, x) in subst (λ j. b.turn s got j ≡ Skip) e t

-- over closed ports a walk goes past sites that are off alone
past_off : (b : Behavior) (s : Value) (got got' : List Word) (i n p : ℕ) (transfers : List Transfer) (stall : Option Event)
    → Goes b closed_ports s got i n p got' transfers stall → (got' ≡ got) × ((k : ℕ) → i ≤ k → k < p → b.turn s got k ≡ Skip)
past_off b s got got' i n p transfers stall ends = (refl, λ k l r. absurd (omega (arith, l, r)))
past_off b s got got' i n p transfers stall (skips {n = m} t g) =
    let ih = past_off b s got got' (suc i) m p transfers stall g in
    (ih.0, off_from b s got i p t ih.1)
past_off b s got got' i n p transfers stall (takes w t o g) = absurd (cc)
past_off b s got got' i n p transfers stall (gives w t o g) = absurd (cc)
past_off b s got got' i n p transfers stall (no_word t o) = (refl, λ k l r. absurd (omega (arith, l, r)))
past_off b s got got' i n p transfers stall (no_room w t o) = (refl, λ k l r. absurd (omega (arith, l, r)))

-- over sites that are all off it stalls nowhere, and receives nothing
all_off : (b : Behavior) (ports : Ports) (s : Value) (got got' : List Word) (i n p : ℕ) (transfers : List Transfer) (stall : Option Event)
    → Goes b ports s got i n p got' transfers stall → ((k : ℕ) → i ≤ k → k < i + n → b.turn s got k ≡ Skip) → (stall ≡ None) × (got' ≡ got)
all_off b ports s got got' i n p transfers stall ends h = (refl, refl)
all_off b ports s got got' i n p transfers stall (skips {n = m} t g) h =
    all_off b ports s got got' (suc i) m p transfers stall g (λ k l r. h k (omega (arith, l)) (omega (arith, r)))
all_off b ports s got got' i n p transfers stall (takes {n = m} w t o g) h = absurd (let x = h i (omega arith) (omega arith) in cc)
all_off b ports s got got' i n p transfers stall (gives {n = m} w t o g) h = absurd (let x = h i (omega arith) (omega arith) in cc)
all_off b ports s got got' i n p transfers stall (no_word {n = m} t o) h = absurd (let x = h i (omega arith) (omega arith) in cc)
all_off b ports s got got' i n p transfers stall (no_room {n = m} w t o) h = absurd (let x = h i (omega arith) (omega arith) in cc)

-- behind sites that are off, the first one that is on is asserted first
asserts_next : (b : Behavior) (ports : Ports) (s : Value) (got got' : List Word) (i n p : ℕ) (transfers : List Transfer) (stall : Option Event)
    → Goes b ports s got i n p got' transfers stall → (e : ℕ) (event : Event) → i ≤ e → e < i + n → ((k : ℕ) → i ≤ k → k < e → b.turn s got k ≡ Skip) → Makes b s got e event
    → (i < e) ⊎ (e ≤ i) → (others : List Event) × (map event_of transfers ++ event_list stall ≡ event ∷ others)
asserts_next b ports s got got' i n p transfers stall g e event l r off on (inr x) =
    let same : e ≡ i = omega (arith, l, x) in
    asserts_first b ports s got got' i n p transfers stall g (omega (arith, r, x)) event (subst (λ k. Makes b s got k event) same on)
asserts_next b ports s got got' i n p transfers stall ends e event l r off on (inl x) = absurd (omega (arith, r, x))
asserts_next b ports s got got' i n p transfers stall (skips {n = m} t g) e event l r off on (inl x) =
    asserts_next b ports s got got' (suc i) m p transfers stall g e event x (omega (arith, r)) (λ k y z. off k (omega (arith, y)) z) on (cases_lt (suc i) e)
asserts_next b ports s got got' i n p transfers stall (takes w t o g) e event l r off on (inl x) = absurd (let y = off i (omega arith) x in cc)
asserts_next b ports s got got' i n p transfers stall (gives w t o g) e event l r off on (inl x) = absurd (let y = off i (omega arith) x in cc)
asserts_next b ports s got got' i n p transfers stall (no_word t o) e event l r off on (inl x) = absurd (let y = off i (omega arith) x in cc)
asserts_next b ports s got got' i n p transfers stall (no_room w t o) e event l r off on (inl x) = absurd (let y = off i (omega arith) x in cc)

-- ---- by where activations stand

abbrev ActSpent : Behavior → Act → Type 0
ActSpent b act = (i : ℕ) → act.place ≤ i → i < length b.sites → b.turn act.state act.got i ≡ Skip

record ActNext (b : Behavior) (act : Act) (i : ℕ) (event : Event) : Type 0 where
  from : act.place ≤ i
  within : i < length b.sites
  off : (k : ℕ) → act.place ≤ k → k < i → b.turn act.state act.got k ≡ Skip
  on : Makes b act.state act.got i event

-- the activation of stage j has this event next, and none is left to those in later stages
record IsNear (q : Pipeline) (c : Registers) (acts : ℕ → Act) (j i : ℕ) (event : Event) : Type 0 where
  within : j < q.stages
  full : c.full j ≡ true
  next : ActNext q.proc.behavior (acts j) i event
  spent : (k : ℕ) → j < k → k < q.stages → c.full k ≡ true → ActSpent q.proc.behavior (acts k)

-- a stage whose sites behind its activation are off passes, and the words received stay
off_passes : (q : Pipeline) (c : Registers) (ports : Ports) (acts : ℕ → Act) (j : ℕ) → IsHeld q c j (acts j) → c.full j ≡ true
    → ((k : ℕ) → (acts j).place ≤ k → k < first q (suc j) → q.proc.behavior.turn (acts j).state (acts j).got k ≡ Skip)
    → ((in_stage q c ports j).stall ≡ None) × ((in_stage q c ports j).got ≡ (acts j).got)
off_passes q c ports acts j held f off =
    let at = is_inside q c acts j held f in
    let u = at.until in
    let w = in_stage q c ports j in
    all_off q.proc.behavior ports (acts j).state (acts j).got w.got (acts j).place (first q (suc j) - (acts j).place) w.place w.transfers w.stall (goes_on q c ports acts j held f)
    (λ k l r. off k l (omega (arith, r, l, u)))

-- in a cycle in which the activation's next event is in a later stage, it and all in later stages move
near_off : (q : Pipeline) → IsPipeline q → (c : Registers) (acts : ℕ → Act) (j i : ℕ) (event : Event) → ((k : ℕ) → k < q.stages → IsHeld q c k (acts k)) → IsNear q c acts j i event → j < q.stage i
    → (k : ℕ) → j ≤ k → k < q.stages → c.full k ≡ true → (m : ℕ) → (acts k).place ≤ m → m < first q (suc k) → q.proc.behavior.turn (acts k).state (acts k).got m ≡ Skip
near_off q is c acts j i event held near later k from within f m l r = go (cases_lt j k)
  where
    go : (j < k) ⊎ (k ≤ j) → q.proc.behavior.turn (acts k).state (acts k).got m ≡ Skip
    go (inl x) = let all = (is_inside q c acts k (held k within) f).all in near.spent k x within f m l (omega (arith, r, all))
    go (inr x) =
        let same : j ≡ k = omega (arith, from, x) in
        let until = stands_behind q is i (suc j) near.next.within later in
        subst (λ n. (acts n).place ≤ m → m < first q (suc n) → q.proc.behavior.turn (acts n).state (acts n).got m ≡ Skip) same
        (λ y z. near.next.off m y (omega (arith, z, until))) l r

near_moves : (q : Pipeline) → IsPipeline q → (c : Registers) (ports : Ports) (acts : ℕ → Act) (j i : ℕ) (event : Event) → ((k : ℕ) → k < q.stages → IsHeld q c k (acts k)) → IsNear q c acts j i event
    → j < q.stage i → (n k : ℕ) → k + suc n ≡ q.stages → j ≤ k → c.full k ≡ true → moves q c ports k ≡ true
near_moves q is c ports acts j i event held near later zero k e from f =
    passing_moves q c ports k (omega (arith, e)) f
    (off_passes q c ports acts k (held k (omega (arith, e))) f (near_off q is c acts j i event held near later k from (omega (arith, e)) f)).0
    (λ l g. absurd (omega (arith, e, l)))
near_moves q is c ports acts j i event held near later (suc n) k e from f =
    passing_moves q c ports k (omega (arith, e)) f
    (off_passes q c ports acts k (held k (omega (arith, e))) f (near_off q is c acts j i event held near later k from (omega (arith, e)) f)).0
    (λ l g. near_moves q is c ports acts j i event held near later n (suc k) (omega (arith, e)) (omega (arith, from)) g)

moves_near : (q : Pipeline) → IsPipeline q → (c : Registers) (ports : Ports) (acts : ℕ → Act) (j i : ℕ) (event : Event) → ((k : ℕ) → k < q.stages → IsHeld q c k (acts k)) → IsNear q c acts j i event
    → j < q.stage i → (k : ℕ) → j ≤ k → k < q.stages → c.full k ≡ true → moves q c ports k ≡ true
moves_near q is c ports acts j i event held near later k from within f =
    near_moves q is c ports acts j i event held near later (q.stages - suc k) k (omega (arith, within)) from f

-- an activation that moved past sites that are off
moved_act : (q : Pipeline) (c : Registers) (ports : Ports) (acts : ℕ → Act) (j : ℕ) → moves q c ports j ≡ true → acts_after q c ports acts (suc j) ≡ walked (acts j) (in_stage q c ports j)
moved_act q c ports acts j m = rw m refl

nearer : (q : Pipeline) → IsPipeline q → (c : Registers) (ports : Ports) (acts : ℕ → Act) (j i : ℕ) (event : Event) → ((k : ℕ) → k < q.stages → IsHeld q c k (acts k)) → IsNear q c acts j i event
    → j < q.stage i → IsNear q (after_cycle q c ports) (acts_after q c ports acts) (suc j) i event
nearer q is c ports acts j i event held near later = record { within = within; full = full; next = next; spent = spent }
  where
    b : Behavior
    b = q.proc.behavior

    within : suc j < q.stages
    within = let l = is.within i near.next.within in omega (arith, l, later)

    moved : (k : ℕ) → j ≤ k → k < q.stages → c.full k ≡ true → moves q c ports k ≡ true
    moved = moves_near q is c ports acts j i event held near later

    off : (k : ℕ) → j ≤ k → k < q.stages → c.full k ≡ true → (m : ℕ) → (acts k).place ≤ m → m < first q (suc k) → b.turn (acts k).state (acts k).got m ≡ Skip
    off = near_off q is c acts j i event held near later

    full : (after_cycle q c ports).full (suc j) ≡ true
    full = a_moved_activation_stands_in_the_next_stage q c ports j (moved j (omega arith) near.within near.full)

    -- what an activation that moved has still to do
    goes : (k : ℕ) → j ≤ k → (l : k < q.stages) → (f : c.full k ≡ true) → ((in_stage q c ports k).place ≡ first q (suc k)) × ((in_stage q c ports k).got ≡ (acts k).got)
    goes k from l f = (walks_through q c ports acts k (held k l) (moved k from l f), (off_passes q c ports acts k (held k l) f (off k from l f)).1)

    still_next : ActNext b (walked (acts j) (in_stage q c ports j)) i event
    still_next =
        let g = goes j (omega arith) near.within near.full in
        let at = (is_inside q c acts j (held j near.within) near.full).until in
        let until = stands_behind q is i (suc j) near.next.within later in
        let p = g.0 in
        record {
          from = omega (arith, p, until);
          within = near.next.within;
          off = λ k x y. subst (λ words. b.turn (acts j).state words k ≡ Skip) (sym g.1) (near.next.off k (omega (arith, p, at, x)) y);
          on = subst (λ words. Makes b (acts j).state words i event) (sym g.1) near.next.on;
        }

    next : ActNext b (acts_after q c ports acts (suc j)) i event
    next = subst (λ act. ActNext b act i event) (sym (moved_act q c ports acts j (moved j (omega arith) near.within near.full))) still_next

    still_spent : (k : ℕ) → j < k → (l : k < q.stages) → (f : c.full k ≡ true) → ActSpent b (walked (acts k) (in_stage q c ports k))
    still_spent k from l f m x y =
        let g = goes k (omega (arith, from)) l f in
        let at = (is_inside q c acts k (held k l) f).until in
        let p = g.0 in
        subst (λ words. b.turn (acts k).state words m ≡ Skip) (sym g.1) (near.spent k from l f m (omega (arith, p, at, x)) y)

    -- a later stage holds what moved into it
    came : (x y z : Bool) → (x || (y && not z)) ≡ true → (y ≡ true → z ≡ true) → x ≡ true
    came true y z e h = refl
    came false true true e h = cc
    came false true false e h = let w = h refl in cc
    came false false z e h = cc

    spent : (k : ℕ) → suc j < k → k < q.stages → (after_cycle q c ports).full k ≡ true → ActSpent b (acts_after q c ports acts k)
    spent zero from l f = absurd (omega (arith, from))
    spent (suc k) from l f =
        let m = came (moves q c ports k) (c.full (suc k)) (moves q c ports (suc k)) (sym (full_suc q c ports k) ∙ f) (λ g. moved (suc k) (omega (arith, from)) l g) in
        let full_before = (moving q c ports k m).full in
        subst (ActSpent b) (sym (moved_act q c ports acts k m)) (still_spent k (omega (arith, from)) (omega (arith, l)) full_before)

-- it's asserted in its stage
near_asserts : (q : Pipeline) → IsPipeline q → (c : Registers) (ports : Ports) (acts : ℕ → Act) (j i : ℕ) (event : Event) → ((k : ℕ) → k < q.stages → IsHeld q c k (acts k)) → IsNear q c acts j i event
    → j ≡ q.stage i → (others : List Event) × (asserted_by (in_stage q c ports j) ≡ event ∷ others)
near_asserts q is c ports acts j i event held near here =
    let at = is_inside q c acts j (held j near.within) near.full in
    let u = at.until in
    let before = stands_before q is i (suc j) near.next.within (omega (arith, here)) in
    let w = in_stage q c ports j in
    let from = near.next.from in
    asserts_next q.proc.behavior ports (acts j).state (acts j).got w.got (acts j).place (first q (suc j) - (acts j).place) w.place w.transfers w.stall
    (goes_on q c ports acts j (held j near.within) near.full) i event from (omega (arith, before, u)) near.next.off near.next.on (cases_lt (acts j).place i)

comes_near : (q : Pipeline) → IsPipeline q → (cycles : List Ports) (ports : Ports) (since : Since) (acts : ℕ → Act) (o j i : ℕ) (event : Event) → HasTurn q since.contents o
    → ((k : ℕ) → k < q.stages → IsHeld q since.contents k (acts k)) → IsNear q since.contents acts j i event → j + length cycles ≡ q.stage i
    → (others : List Event) × (asserted_by (in_stage q (after_cycles q since cycles).contents ports (q.stage i)) ≡ event ∷ others)
comes_near q is [] ports since acts o j i event turn held near e =
    let here : j ≡ q.stage i = let z : length {A = Ports} [] ≡ 0 = refl in omega (arith, e, z) in
    subst (λ k. (others : List Event) × (asserted_by (in_stage q since.contents ports k) ≡ event ∷ others)) here
    (near_asserts q is since.contents ports acts j i event held near here)
comes_near q is (now ∷ more) ports since acts o j i event turn held near e =
    let n : length (now ∷ more) ≡ suc (length more) = refl in
    let later : j < q.stage i = omega (arith, e, n) in
    comes_near q is more ports (one_more q since now) (acts_after q since.contents now acts) (open_after q since.contents now o) (suc j) i event
    (turn_next q since.contents now o turn) (held_next q is since.contents now acts o turn held) (nearer q is since.contents now acts j i event held near later) (omega (arith, e, n))

-- ---- by what a walk over closed ports says

makes : (b : Behavior) (s : Value) (got : List Word) (i : ℕ) (event : Event) (turn : Turn) → b.turn s got i ≡ turn → IsEventOf turn i event → Makes b s got i event
makes b s got i event Skip t h = absurd h
makes b s got i event Receive t h = inl (t, h)
makes b s got i event (Give w) t h = inr (w, t, h)

-- where an activation stands
record Shows (q : Pipeline) (c : Registers) (acts : ℕ → Act) (j : ℕ) : Type 0 where
  state : (brought c j).state ≡ (acts j).state
  got : (in_stage q c closed_ports j).got ≡ (acts j).got
  off : (k : ℕ) → (acts j).place ≤ k → k < (in_stage q c closed_ports j).place → q.proc.behavior.turn (acts j).state (acts j).got k ≡ Skip

shows : (q : Pipeline) (c : Registers) (acts : ℕ → Act) (j : ℕ) → IsHeld q c j (acts j) → c.full j ≡ true → Shows q c acts j
shows q c acts j held f =
    let w = in_stage q c closed_ports j in
    let h = past_off q.proc.behavior (acts j).state (acts j).got w.got (acts j).place (first q (suc j) - (acts j).place) w.place w.transfers w.stall (goes_on q c closed_ports acts j held f) in
    record { state = (held.full f).state; got = h.0; off = h.1 }

spent_act : (q : Pipeline) (c : Registers) (acts : ℕ → Act) (j : ℕ) → IsHeld q c j (acts j) → c.full j ≡ true → IsSpent q.proc.behavior (brought c j).state (in_stage q c closed_ports j)
    → ActSpent q.proc.behavior (acts j)
spent_act q c acts j held f h i l r = go (cases_lt i (in_stage q c closed_ports j).place)
  where
    s : Shows q c acts j
    s = shows q c acts j held f

    go : (i < (in_stage q c closed_ports j).place) ⊎ ((in_stage q c closed_ports j).place ≤ i) → q.proc.behavior.turn (acts j).state (acts j).got i ≡ Skip
    go (inl x) = s.off i l x
    go (inr x) =
        subst (λ st. q.proc.behavior.turn st (acts j).got i ≡ Skip) s.state
        (subst (λ words. q.proc.behavior.turn (brought c j).state words i ≡ Skip) s.got (h i x r))

next_act : (q : Pipeline) (c : Registers) (acts : ℕ → Act) (j i : ℕ) (event : Event) → IsHeld q c j (acts j) → c.full j ≡ true
    → IsNextEvent q.proc.behavior (brought c j).state (in_stage q c closed_ports j) i event → (acts j).place ≤ (in_stage q c closed_ports j).place → ActNext q.proc.behavior (acts j) i event
next_act q c acts j i event held f h before = record { from = let x = h.from in omega (arith, x, before); within = h.within; off = off; on = on }
  where
    b : Behavior
    b = q.proc.behavior

    s : Shows q c acts j
    s = shows q c acts j held f

    off : (k : ℕ) → (acts j).place ≤ k → k < i → b.turn (acts j).state (acts j).got k ≡ Skip
    off k l r = go (cases_lt k (in_stage q c closed_ports j).place)
      where
        go : (k < (in_stage q c closed_ports j).place) ⊎ ((in_stage q c closed_ports j).place ≤ k) → b.turn (acts j).state (acts j).got k ≡ Skip
        go (inl x) = s.off k l x
        go (inr x) =
            subst (λ st. b.turn st (acts j).got k ≡ Skip) s.state
            (subst (λ words. b.turn (brought c j).state words k ≡ Skip) s.got (h.off k x r))

    on : Makes b (acts j).state (acts j).got i event
    on =
        subst (λ st. Makes b st (acts j).got i event) s.state
        (subst (λ words. Makes b (brought c j).state words i event) s.got (makes b (brought c j).state (in_stage q c closed_ports j).got i event (b.turn (brought c j).state (in_stage q c closed_ports j).got i) refl h.on))

pub the_next_event_is_asserted_in_time : (q : Pipeline) → IsPipeline q → (past cycles : List Ports) (ports : Ports) (j i : ℕ) (event : Event) → j < q.stages
    → (after_cycles q (at_reset q) past).contents.full j ≡ true
    → IsNextEvent q.proc.behavior (brought (after_cycles q (at_reset q) past).contents j).state (in_stage q (after_cycles q (at_reset q) past).contents closed_ports j) i event
    → ((k : ℕ) → j < k → k < q.stages → (after_cycles q (at_reset q) past).contents.full k ≡ true
    → IsSpent q.proc.behavior (brought (after_cycles q (at_reset q) past).contents k).state (in_stage q (after_cycles q (at_reset q) past).contents closed_ports k))
    → j + length cycles ≡ q.stage i
    → (others : List Event) × (asserted_by (in_stage q (after_cycles q (after_cycles q (at_reset q) past) cycles).contents ports (q.stage i)) ≡ event ∷ others)
the_next_event_is_asserted_in_time q is past cycles ports j i event l f next spent e =
    let s = stands q is past in
    let since = after_cycles q (at_reset q) past in
    let w = in_stage q since.contents closed_ports j in
    let held = s.1.stage_regs in
    let before = (place_range q.proc.behavior closed_ports (s.0.acts j).state (s.0.acts j).got w.got (s.0.acts j).place (first q (suc j) - (s.0.acts j).place) w.place w.transfers w.stall
    (goes_on q since.contents closed_ports s.0.acts j (held j l) f)).0 in
    comes_near q is cycles ports since s.0.acts s.0.open_stage j i event s.1.turn held
    (record {
      within = l;
      full = f;
      next = next_act q since.contents s.0.acts j i event (held j l) f next before;
      spent = λ k x y g. spent_act q since.contents s.0.acts k (held k y) g (spent k x y g);
    })
    e
