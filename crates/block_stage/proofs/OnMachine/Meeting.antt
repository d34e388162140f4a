-- A stage moves where the partners of its sites are there and the next stage lets it, and what stands where it moved.
use Rattle.std.proofs.Common.{◌≡◌, ℕ, zero, suc, ◌+◌, ◌-◌, ◌<◌, ◌≤◌, List, [], ◌∷◌, ◌++◌, refl, sym, ap, ◌∙◌, arith, true, false, Bool, Option, Some, None}
use Rattle.std.specs.Prelude.{◌⊎◌, is_some}
use Rattle.std.proofs.Common.{inl, inr}
use Rattle.xb_bits.specs.Word.{Word}
use Rattle.xb_value.specs.declared.value.Value.{Value}
use Rattle.net_core.specs.declared.net.Site.{Site}
use Rattle.net_core.specs.Behavior.{Behavior, Turn, Skip, Receive, Give, IsInDirection, chan_at}
use Rattle.block_stage.specs.Machine.Pipeline.{Pipeline, IsPipeline, first}
use Rattle.block_stage.specs.Machine.Cycle.{Ports, Registers, brought, Walk, at_site, walk, in_stage, leaves, moves_on, moves_before, moves, after_cycle, asserted_of, asserted_in}
use Rattle.block_stage.specs.Machine.Steady.{IsMet, IsStageMet}
use Rattle.block_stage.proofs.OnMachine.Walks.{walk_step, walk_end}
use Rattle.block_stage.proofs.OnMachine.Rests.{site_at}
use Rattle.block_stage.proofs.OnMachine.Stages.{stage_at, first_within}
use Rattle.block_stage.proofs.OnMachine.Moves.{idle}
use Rattle.block_stage.proofs.OnMachine.Holding.{stage_walk}
use Rattle.block_stage.proofs.OnMachine.Turns.{cases, full_zero, full_suc}

-- what a turn needs is there
abbrev MeetsTurn : Option Word → Bool → Turn → Type 0
MeetsTurn valid_word room Skip = Unit {0}
MeetsTurn valid_word room Receive = (w : Word) × (valid_word ≡ Some w)
MeetsTurn valid_word room (Give w) = room ≡ true

site_meets : (i : ℕ) (got : List Word) (turn : Turn) (done : Bool) (kept : Word) (valid_word : Option Word) (room : Bool) (next : List Word → Walk)
    → MeetsTurn valid_word room turn → ((got' : List Word) → (next got').stall ≡ None) → (at_site i got turn done kept valid_word room next).stall ≡ None
site_meets i got Skip done kept valid_word room next met ih = ih got
site_meets i got Receive true kept valid_word room next met ih = ih (got ++ kept ∷ [])
site_meets i got Receive false kept (Some w) room next met ih = ih (got ++ w ∷ [])
site_meets i got Receive false kept None room next met ih = absurd (let e = met.1 in cc)
site_meets i got (Give w) true kept valid_word room next met ih = ih got
site_meets i got (Give w) false kept valid_word true next met ih = ih got
site_meets i got (Give w) false kept valid_word false next met ih = absurd (let e = met in cc)

-- a walk waits nowhere where all its turns are met
walk_meets : (b : Behavior) (done : ℕ → Bool) (kept : ℕ → Word) (ports : Ports) (s : Value) (got : List Word) (i n : ℕ)
    → ((k : ℕ) → i ≤ k → k < i + n → (got' : List Word) → MeetsTurn (ports.valid_word (chan_at b.sites k)) (ports.room (chan_at b.sites k)) (b.turn s got' k))
    → (walk b done kept ports s got i n).stall ≡ None
walk_meets b done kept ports s got i zero met = ap (λ (w : Walk). w.stall) (walk_end b done kept ports s got i)
walk_meets b done kept ports s got i (suc n) met =
    ap (λ (w : Walk). w.stall) (walk_step b done kept ports s got i n)
    ∙ site_meets i got (b.turn s got i) (done i) (kept i) (ports.valid_word (chan_at b.sites i)) (ports.room (chan_at b.sites i)) (λ got'. walk b done kept ports s got' (suc i) n)
    (met i (omega arith) (omega arith) got)
    (λ got'. walk_meets b done kept ports s got' (suc i) n (λ k l r. met k (omega arith) (omega arith)))

turn_is_met : (site : Site) (ports : Ports) (chan : ℕ) → chan ≡ site.chan → IsMet site ports → (turn : Turn) → IsInDirection site turn → MeetsTurn (ports.valid_word chan) (ports.room chan) turn
turn_is_met site ports chan e met Skip d = tt
turn_is_met site ports chan e met Receive d = let w = met.word d in (w.0, ap ports.valid_word e ∙ w.1)
turn_is_met site ports chan e met (Give w) d = ap ports.room e ∙ met.room d

-- a stage whose sites' partners are there waits for nothing
pub stage_meets : (q : Pipeline) → IsPipeline q → (c : Registers) (ports : Ports) (j : ℕ) → IsStageMet q j ports → (in_stage q c ports j).stall ≡ None
stage_meets q is c ports j met = go (cases (c.full j))
  where
    turns : (k : ℕ) → first q j ≤ k → k < first q j + (first q (suc j) - first q j) → (got : List Word)
        → MeetsTurn (ports.valid_word (chan_at q.proc.behavior.sites k)) (ports.room (chan_at q.proc.behavior.sites k)) (q.proc.behavior.turn (brought c j).state got k)
    turns k l r got =
        let within = first_within q (suc j) in
        let at = site_at q.proc.behavior.sites k (omega arith) in
        turn_is_met at.0 ports (chan_at q.proc.behavior.sites k) at.1.chan (met k at.0 at.1.here (stage_at q is k j l (omega arith)))
        (q.proc.behavior.turn (brought c j).state got k) (is.directions (brought c j).state got k at.0 at.1.here)

    go : (c.full j ≡ true) ⊎ (c.full j ≡ false) → (in_stage q c ports j).stall ≡ None
    go (inr f) = ap (λ (w : Walk). w.stall) (idle q c ports j f)
    go (inl f) = ap (λ (w : Walk). w.stall) (stage_walk q c ports j f)
        ∙ walk_meets q.proc.behavior c.done c.kept ports (brought c j).state (brought c j).got (first q j) (first q (suc j) - first q j) turns

free_or_moves : (full stall next_full next_moves : Bool) → full ≡ true → stall ≡ false → (next_full ≡ true → next_moves ≡ true) → moves_on full stall next_full next_moves ≡ true
free_or_moves true false true next_moves f w h = h refl
free_or_moves true false false next_moves f w h = refl
free_or_moves true true next_full next_moves f w h = cc
free_or_moves false stall next_full next_moves f w h = cc

leaves_full : (full stall : Bool) → full ≡ true → stall ≡ false → leaves full stall ≡ true
leaves_full true false f w = refl
leaves_full true true f w = cc
leaves_full false stall f w = cc

-- one that stalls nowhere moves where the next stage is free or moves
pub passing_moves : (q : Pipeline) (c : Registers) (ports : Ports) (j : ℕ) → j < q.stages → c.full j ≡ true → (in_stage q c ports j).stall ≡ None
    → (suc j < q.stages → c.full (suc j) ≡ true → moves q c ports (suc j) ≡ true) → moves q c ports j ≡ true
passing_moves q c ports j l f stall next = go (q.stages - suc j) refl
  where
    passes : is_some (in_stage q c ports j).stall ≡ false
    passes = ap is_some stall

    here : moves q c ports j ≡ moves_before q c ports (q.stages - suc j) j
    here = unfold moves in refl

    behind : moves q c ports (suc j) ≡ moves_before q c ports (q.stages - suc (suc j)) (suc j)
    behind = unfold moves in refl

    go : (n : ℕ) → q.stages - suc j ≡ n → moves q c ports j ≡ true
    go zero e = here ∙ ap (λ k. moves_before q c ports k j) e ∙ leaves_full (c.full j) (is_some (in_stage q c ports j).stall) f passes
    go (suc n) e =
        let more : q.stages - suc (suc j) ≡ n = omega arith in
        here ∙ ap (λ k. moves_before q c ports k j) e
        ∙ free_or_moves (c.full j) (is_some (in_stage q c ports j).stall) (c.full (suc j)) (moves_before q c ports n (suc j)) f passes
        (λ g. sym (ap (λ k. moves_before q c ports k (suc j)) more) ∙ sym behind ∙ next (omega arith) g)

pub a_stage_moves_where_it_can : (q : Pipeline) → IsPipeline q → (c : Registers) (ports : Ports) (j : ℕ) → j < q.stages → c.full j ≡ true → IsStageMet q j ports
    → (suc j < q.stages → c.full (suc j) ≡ true → moves q c ports (suc j) ≡ true) → moves q c ports j ≡ true
a_stage_moves_where_it_can q is c ports j l f met next = passing_moves q c ports j l f (stage_meets q is c ports j met) next

-- an activation that moves stands in the next stage
pub a_moved_activation_stands_in_the_next_stage : (q : Pipeline) (c : Registers) (ports : Ports) (j : ℕ) → moves q c ports j ≡ true → (after_cycle q c ports).full (suc j) ≡ true
a_moved_activation_stands_in_the_next_stage q c ports j m = full_suc q c ports j ∙ (rw m refl)

-- where one leaves the stage in which it gives the turn back, the next may begin
pub the_turn_comes_back : (q : Pipeline) (c : Registers) (ports : Ports) → moves q c ports q.last ≡ true → (after_cycle q c ports).full 0 ≡ true
the_turn_comes_back q c ports m = full_zero q c ports ∙ (rw m refl)

-- a pipeline without an activation asks nothing
nothing_asked_of : (q : Pipeline) (c : Registers) (ports : Ports) → ((j : ℕ) → c.full j ≡ false) → (n k : ℕ) → asserted_of q c ports k n ≡ []
nothing_asked_of q c ports h zero k = refl
nothing_asked_of q c ports h (suc n) k =
    let i = idle q c ports k (h k) in
    let ih = nothing_asked_of q c ports h n (suc k) in
    rw (i, ih) refl

pub nothing_is_asked_without_an_activation : (q : Pipeline) (c : Registers) (ports : Ports) → ((j : ℕ) → c.full j ≡ false) → asserted_in q c ports ≡ []
unfolding asserted_in
nothing_is_asked_without_an_activation q c ports h = nothing_asked_of q c ports h q.stages 0
