-- What waits stands.
use Rattle.std.proofs.Common.{◌≡◌, ℕ, zero, suc, ◌+◌, ◌-◌, ◌<◌, ◌≤◌, List, [], ◌∷◌, ◌++◌, map, refl, ◌∙◌, subst, arith, true, false, Option, Some}
use Rattle.std.specs.Prelude.{◌⊎◌}
use Rattle.std.proofs.Common.{inl, inr}
use Rattle.xb_bits.specs.Word.{Word}
use Rattle.xb_value.specs.declared.value.Value.{Value}
use Rattle.net_core.specs.declared.event.Event.{Event}
use Rattle.net_core.specs.declared.event.Event.TheVariants.{Recv, Send}
use Rattle.net_core.specs.Behavior.{Behavior, Receive, Give}
use Rattle.block_stage.specs.Machine.Pipeline.{Pipeline, IsPipeline, first}
use Rattle.block_stage.specs.Machine.Cycle.{Ports, Registers, Transfer, event_of, in_stage, moves, event_list, asserted_by, after_cycle}
use Rattle.block_stage.specs.Machine.Since.{at_reset, after_cycles}
use Rattle.block_stage.proofs.OnMachine.Choices.{or_kept}
use Rattle.block_stage.proofs.OnMachine.Walks.{Goes, ends, skips, takes, gives, no_word, no_room}
use Rattle.block_stage.proofs.OnMachine.Moves.{moving, idle, next_is_free}
use Rattle.block_stage.proofs.OnMachine.Holding.{Act, IsHeld, walked}
use Rattle.block_stage.proofs.OnMachine.Turns.{HasTurn, acts_after, cases, held_next, full_suc, full_zero, moves_alone, same_number}
use Rattle.block_stage.proofs.OnMachine.Standing.{goes_on, is_inside}
use Rattle.block_stage.proofs.OnMachine.Prefixes.{stands}

-- the event that a proc makes at a site that is on
abbrev pub Makes : Behavior → Value → List Word → ℕ → Event → Type 0
Makes b s got i e = ((b.turn s got i ≡ Receive) × (e ≡ Recv i)) ⊎ ((w : Word) × (b.turn s got i ≡ Give w) × (e ≡ Send i w))

-- what a walk waits for is the event of the place that it has come to, which is no end
pub stall_at : (b : Behavior) (ports : Ports) (s : Value) (got got' : List Word) (i n p : ℕ) (transfers : List Transfer) (stall : Option Event)
    → Goes b ports s got i n p got' transfers stall → (e : Event) → stall ≡ Some e → (p < i + n) × Makes b s got' p e
stall_at b ports s got got' i n p transfers stall ends e h = cc
stall_at b ports s got got' i n p transfers stall (skips {n = m} t g) e h =
    let r = stall_at b ports s _ got' (suc i) m p transfers stall g e h in let l = r.0 in (omega arith, r.1)
stall_at b ports s got got' i n p transfers stall (takes {n = m} {transfers = ds} w t o g) e h =
    let r = stall_at b ports s _ got' (suc i) m p ds stall g e h in let l = r.0 in (omega arith, r.1)
stall_at b ports s got got' i n p transfers stall (gives {n = m} {transfers = ds} w t o g) e h =
    let r = stall_at b ports s _ got' (suc i) m p ds stall g e h in let l = r.0 in (omega arith, r.1)
stall_at b ports s got got' i n p transfers stall (no_word t o) e h = (omega arith, inl (t, cc))
stall_at b ports s got got' i n p transfers stall (no_room w t o) e h = (omega arith, inr (w, t, cc))

-- a walk that begins at a site that is on asks it first
pub asserts_first : (b : Behavior) (ports : Ports) (s : Value) (got got' : List Word) (i n p : ℕ) (transfers : List Transfer) (stall : Option Event)
    → Goes b ports s got i n p got' transfers stall → 0 < n → (e : Event) → Makes b s got i e
    → (others : List Event) × (map event_of transfers ++ event_list stall ≡ e ∷ others)
asserts_first b ports s got got' i n p transfers stall ends l e m = absurd (omega (arith, l))
asserts_first b ports s got got' i n p transfers stall (skips t g) l e (inl m) = absurd (let x = m.0 in cc)
asserts_first b ports s got got' i n p transfers stall (skips t g) l e (inr m) = absurd (let x = m.1 in cc)
asserts_first b ports s got got' i n p transfers stall (takes {transfers = ds} w t o g) l e (inl m) = (map event_of ds ++ event_list stall, let x = m.1 in rw x refl)
asserts_first b ports s got got' i n p transfers stall (takes w t o g) l e (inr m) = absurd (let x = m.1 in cc)
asserts_first b ports s got got' i n p transfers stall (gives w t o g) l e (inl m) = absurd (let x = m.0 in cc)
asserts_first b ports s got got' i n p transfers stall (gives {transfers = ds} w t o g) l e (inr m) =
    (map event_of ds ++ event_list stall, let y = m.1 in let v : w ≡ m.0 = cc in let x = m.2 in rw (x, v) refl)
asserts_first b ports s got got' i n p transfers stall (no_word t o) l e (inl m) = ([], let x = m.1 in rw x refl)
asserts_first b ports s got got' i n p transfers stall (no_word t o) l e (inr m) = absurd (let x = m.1 in cc)
asserts_first b ports s got got' i n p transfers stall (no_room w t o) l e (inl m) = absurd (let x = m.0 in cc)
asserts_first b ports s got got' i n p transfers stall (no_room w t o) l e (inr m) = ([], let y = m.1 in let v : w ≡ m.0 = cc in let x = m.2 in rw (x, v) refl)

-- a stage that waits holds an activation, and keeps it
stall_full : (q : Pipeline) (c : Registers) (ports : Ports) (j : ℕ) (e : Event) → (in_stage q c ports j).stall ≡ Some e → c.full j ≡ true
stall_full q c ports j e w = go (cases (c.full j))
  where
    go : (c.full j ≡ true) ⊎ (c.full j ≡ false) → c.full j ≡ true
    go (inl f) = f
    go (inr f) = absurd (let i = idle q c ports j f in let x = rw i at w in cc)

stall_still : (q : Pipeline) (c : Registers) (ports : Ports) (j : ℕ) (e : Event) → (in_stage q c ports j).stall ≡ Some e → moves q c ports j ≡ false
stall_still q c ports j e w = go (cases (moves q c ports j))
  where
    go : (moves q c ports j ≡ true) ⊎ (moves q c ports j ≡ false) → moves q c ports j ≡ false
    go (inl m) = absurd (let x = (moving q c ports j m).stall in cc)
    go (inr m) = m

stays_full : (q : Pipeline) (c : Registers) (ports : Ports) (j : ℕ) → c.full j ≡ true → moves q c ports j ≡ false → (after_cycle q c ports).full j ≡ true
stays_full q c ports zero f m = full_zero q c ports ∙ or_kept _ _ _ f m
stays_full q c ports (suc j) f m = full_suc q c ports j ∙ or_kept _ _ _ f m

-- a stage of the turn that holds an activation is the one that has it
pub full_open : (q : Pipeline) (c : Registers) (o : ℕ) → HasTurn q c o → (j : ℕ) → j ≤ q.last → c.full j ≡ true → j ≡ o
full_open q c o turn j l f = go (same_number j o)
  where
    go : (j ≡ o) ⊎ (j ≡ o → ⊥) → j ≡ o
    go (inl e) = e
    go (inr ne) = absurd (let x = turn.alone j l ne in cc)

-- and nothing comes into it
act_stays : (q : Pipeline) (c : Registers) (ports : Ports) (acts : ℕ → Act) (o : ℕ) → HasTurn q c o → (j : ℕ) → j < q.stages → c.full j ≡ true → moves q c ports j ≡ false
    → acts_after q c ports acts j ≡ walked (acts j) (in_stage q c ports j)
act_stays q c ports acts o turn zero l f m = let e = none_begins (cases (moves q c ports q.last)) in rw e refl
  where
    none_begins : (moves q c ports q.last ≡ true) ⊎ (moves q c ports q.last ≡ false) → moves q c ports q.last ≡ false
    none_begins (inr x) = x
    none_begins (inl x) = absurd (
        let last = moves_alone q c ports o turn q.last (omega arith) x in
        let zero_open = full_open q c o turn 0 (omega arith) f in
        let e : q.last ≡ 0 = omega (arith, last, zero_open) in
        let y = subst (λ k. moves q c ports k ≡ true) e x in cc)
act_stays q c ports acts o turn (suc j) l f m = let e = none_comes (cases (moves q c ports j)) in rw e refl
  where
    none_comes : (moves q c ports j ≡ true) ⊎ (moves q c ports j ≡ false) → moves q c ports j ≡ false
    none_comes (inr x) = x
    none_comes (inl x) = absurd (let y = next_is_free q c ports j l x f in cc)

-- what stalls in a stage is the first that it asks in the next cycle
pub stalling_stands : (q : Pipeline) → IsPipeline q → (c : Registers) (ports next : Ports) (acts : ℕ → Act) (o : ℕ) → HasTurn q c o → ((j : ℕ) → j < q.stages → IsHeld q c j (acts j))
    → (j : ℕ) (event : Event) → j < q.stages → (in_stage q c ports j).stall ≡ Some event
    → (others : List Event) × (asserted_by (in_stage q (after_cycle q c ports) next j) ≡ event ∷ others)
stalling_stands q is c ports next acts o turn stage_regs j event l w =
    let f = stall_full q c ports j event w in
    let m = stall_still q c ports j event w in
    let s = in_stage q c ports j in
    let same = act_stays q c ports acts o turn j l f m in
    let g = goes_on q c ports acts j (stage_regs j l) f in
    let at = is_inside q c acts j (stage_regs j l) f in
    let u = at.until in
    let here = stall_at q.proc.behavior ports (acts j).state (acts j).got s.got (acts j).place (first q (suc j) - (acts j).place) s.place s.transfers s.stall g event w in
    let inside = here.0 in
    let later = subst (IsHeld q (after_cycle q c ports) j) same (held_next q is c ports acts o turn stage_regs j l) in
    let s' = in_stage q (after_cycle q c ports) next j in
    let g' = goes_on q (after_cycle q c ports) next (λ k. walked (acts j) s) j later (stays_full q c ports j f m) in
    asserts_first q.proc.behavior next (acts j).state s.got s'.got s.place (first q (suc j) - s.place) s'.place s'.transfers s'.stall g' (omega arith) event here.1

pub what_stalls_stays_asserted : (q : Pipeline) → IsPipeline q → (cycles : List Ports) (ports next : Ports) (j : ℕ) (event : Event) → j < q.stages
    → (in_stage q (after_cycles q (at_reset q) cycles).contents ports j).stall ≡ Some event
    → (others : List Event) × (asserted_by (in_stage q (after_cycle q (after_cycles q (at_reset q) cycles).contents ports) next j) ≡ event ∷ others)
what_stalls_stays_asserted q is cycles ports next j event l w =
    let s = stands q is cycles in
    stalling_stands q is (after_cycles q (at_reset q) cycles).contents ports next s.0.acts s.0.open_stage s.1.turn s.1.stage_regs j event l w
