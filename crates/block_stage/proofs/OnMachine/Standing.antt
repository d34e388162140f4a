-- Where a pipeline stands after some cycles: the invariant, and that a cycle keeps it.
use Rattle.std.proofs.Common.{◌≡◌, ℕ, zero, suc, ◌+◌, ◌-◌, ◌<◌, ◌≤◌, List, [], ◌∷◌, ◌++◌, length, map, refl, sym, ap, ◌∙◌, subst, arith, cond, true, false}
use Rattle.std.specs.Prelude.{◌⊎◌}
use Rattle.std.proofs.Common.{inl, inr}
use Rattle.std.proofs.lemmas.Bool.{cases_lt}
use Rattle.xb_bits.specs.Word.{Word}
use Rattle.net_core.specs.declared.event.Event.{Event}
use Rattle.net_core.specs.declared.event.Event.TheVariants.{End}
use Rattle.net_core.specs.Behavior.{Behavior, IsInDirection}
use Rattle.net_core.specs.Trace.{Histories, trace}
use Rattle.net_core.specs.Cuts.{words_sent, count_received}
use Rattle.block_stage.specs.Machine.Pipeline.{Pipeline, IsPipeline, IsSameEnd, first}
use Rattle.block_stage.specs.Machine.Cycle.{Ports, StageEntry, Registers, brought, event_of, in_stage, moves, transfers_of, transfers_in}
use Rattle.block_stage.specs.Machine.Since.{took, gave, Since}
use Rattle.block_stage.proofs.OnMachine.Walks.{IsGoing, passes_all, place_range}
use Rattle.block_stage.proofs.OnMachine.Fronts.{done_range}
use Rattle.block_stage.proofs.OnMachine.Rests.{rest, site_at}
use Rattle.block_stage.proofs.OnMachine.Stages.{no_receive, first_within, first_grows, stage_from}
use Rattle.block_stage.proofs.OnMachine.Lefts.{left, takes_nothing, took-append, gave-append, IsSilent, silent_gives, silent_left, SendsAt, sends_at}
use Rattle.block_stage.proofs.OnMachine.Moves.{moving, idle}
use Rattle.block_stage.proofs.OnMachine.Holding.{Act, IsHeld, stage_goes, walked}
use Rattle.block_stage.proofs.OnMachine.Turns.{HasTurn, beginning, acts_after, open_after, cases}
use Rattle.block_stage.proofs.OnMachine.Gathering.{gather, all_of, all_only, all_split}

-- what has happened since reset, known to the proof alone: where the activation of each stage stands, the stage of the
-- one that has the turn, the front of the trace that is made or owed, the activations that gave the turn on, by the
-- state in which each began and the words that it received, and those of them that have left the final stage
pub record Past : Type 0 where
  pub acts : ℕ → Act
  pub open_stage : ℕ
  pub events : List Event
  pub ends : ℕ
  pub ended : List StageEntry
  pub gone : List StageEntry

-- what an activation still sends
abbrev pub left_of : Pipeline → Act → List Event
left_of q act = left q.proc.behavior act.state act.got act.place (length q.proc.behavior.sites - act.place)

abbrev pub stage_entry_of : Act → List StageEntry
stage_entry_of act = record { state = act.state; got = act.got } ∷ []

-- how many stages stand behind the turn's last one
abbrev pub stages_past : Pipeline → ℕ
stages_past q = q.stages - suc q.last

-- what the stages past the turn's last one still owe, and the activations that they hold, the oldest first
abbrev pub owed : Pipeline → Registers → (ℕ → Act) → List Event
owed q c acts = gather (λ j. left_of q (acts j)) c.full (suc q.last) (stages_past q)

abbrev pub inside : Pipeline → Registers → (ℕ → Act) → List StageEntry
inside q c acts = gather (λ j. stage_entry_of (acts j)) c.full (suc q.last) (stages_past q)

-- so many activations more, of which one stands here
unfoldable pub trace_on : Behavior → ℕ → Act → Histories → List Event
trace_on b zero act words = []
trace_on b (suc k) act words = rest b (trace b k) act.state act.got words act.place

pub record Stands (q : Pipeline) (since : Since) (cycles : ℕ) (past : Past) : Type 0 where
  -- the registers hold the activations
  pub stage_regs : (j : ℕ) → j < q.stages → IsHeld q since.contents j (past.acts j)
  -- one has the turn
  pub turn : HasTurn q since.contents past.open_stage
  -- whatever words come further, the trace goes on from where that one stands
  pub traces : (n k : ℕ) → cycles ≤ n → n ≡ past.ends + k → (more : Histories)
      → trace q.proc.behavior n q.proc.opening (λ c. since.received c ++ more c) ≡ past.events ++ trace_on q.proc.behavior k (past.acts past.open_stage) more
  -- what was sent is what the events send, but for what is owed
  pub owes : (c : ℕ) → words_sent q.proc.behavior.sites c past.events ≡ since.sent c ++ words_sent q.proc.behavior.sites c (owed q since.contents past.acts)
  -- what was received is what the events receive
  pub receives : (c : ℕ) → count_received q.proc.behavior.sites c past.events ≡ length (since.received c)
  -- each activation took a cycle
  pub few : past.ends ≤ cycles
  -- the stages past the turn's last one hold the activations that gave the turn on latest, older ones further on
  pub older : past.ended ≡ past.gone ++ inside q since.contents past.acts
  pub counted : length past.ended ≡ past.ends

-- what the activation that has the turn adds to the events in a cycle
abbrev pub made_in : Pipeline → Registers → Ports → Past → List Event
made_in q c ports past =
    map event_of (in_stage q c ports past.open_stage).transfers
    ++ cond (moves q c ports q.last) (left_of q (walked (past.acts q.last) (in_stage q c ports q.last)) ++ End (beginning q c ports).state ∷ []) []

-- the final stage
abbrev pub top : Pipeline → ℕ
top q = q.stages - 1

abbrev pub past_after : Pipeline → Registers → Ports → Past → Past
past_after q c ports past = record {
  acts = acts_after q c ports past.acts;
  open_stage = open_after q c ports past.open_stage;
  events = past.events ++ made_in q c ports past;
  ends = cond (moves q c ports q.last) (suc past.ends) past.ends;
  ended = past.ended ++ cond (moves q c ports q.last) (stage_entry_of (walked (past.acts q.last) (in_stage q c ports q.last))) [];
  gone = past.gone ++ cond (moves q c ports (top q)) (stage_entry_of (walked (past.acts (top q)) (in_stage q c ports (top q)))) [];
}

-- the walk of a stage that holds an activation
pub goes_on : (q : Pipeline) (c : Registers) (ports : Ports) (acts : ℕ → Act) (j : ℕ) → IsHeld q c j (acts j) → c.full j ≡ true
    → IsGoing q.proc.behavior ports (acts j).state (acts j).got (acts j).place (first q (suc j) - (acts j).place) (in_stage q c ports j)
goes_on q c ports acts j stage_regs f = stage_goes q c ports j (acts j) f (stage_regs.full f)

-- the places of a stage's activation
pub record IsInside (q : Pipeline) (j : ℕ) (act : Act) : Type 0 where
  pub from : first q j ≤ act.place
  pub until : act.place ≤ first q (suc j)
  pub all : first q (suc j) ≤ length q.proc.behavior.sites

pub is_inside : (q : Pipeline) (c : Registers) (acts : ℕ → Act) (j : ℕ) → IsHeld q c j (acts j) → c.full j ≡ true → IsInside q j (acts j)
is_inside q c acts j stage_regs f =
    let h = stage_regs.full f in
    record {
      from = done_range q.proc.behavior c.done c.kept (acts j).state (brought c j).got (acts j).got (first q j) (acts j).place h.done;
      until = h.until;
      all = first_within q (suc j);
    }

-- where its walk leaves it
pub walks_within : (q : Pipeline) (c : Registers) (ports : Ports) (acts : ℕ → Act) (j : ℕ) → IsHeld q c j (acts j) → c.full j ≡ true → IsInside q j (walked (acts j) (in_stage q c ports j))
walks_within q c ports acts j stage_regs f =
    let at = is_inside q c acts j stage_regs f in
    let w = in_stage q c ports j in
    let r = place_range q.proc.behavior ports (acts j).state (acts j).got w.got (acts j).place (first q (suc j) - (acts j).place) w.place w.transfers w.stall (goes_on q c ports acts j stage_regs f) in
    let a = at.from in let b = at.until in let x = r.0 in let y = r.1 in
    record { from = omega arith; until = omega arith; all = at.all }

pub walks_through : (q : Pipeline) (c : Registers) (ports : Ports) (acts : ℕ → Act) (j : ℕ) → IsHeld q c j (acts j) → moves q c ports j ≡ true
    → (in_stage q c ports j).place ≡ first q (suc j)
walks_through q c ports acts j stage_regs m =
    let mv = moving q c ports j m in
    let at = is_inside q c acts j stage_regs mv.full in
    let w = in_stage q c ports j in
    let e = passes_all q.proc.behavior ports (acts j).state (acts j).got w.got (acts j).place (first q (suc j) - (acts j).place) w.place w.transfers w.stall (goes_on q c ports acts j stage_regs mv.full) mv.stall in
    let b = at.until in
    omega arith

-- what goes through the ports of a channel at each stage
pub given_of : (q : Pipeline) (c : Registers) (ports : Ports) (chan n k : ℕ)
    → gave q.proc.behavior.sites chan (transfers_of q c ports k n) ≡ all_of (λ j. gave q.proc.behavior.sites chan (in_stage q c ports j).transfers) k n
given_of q c ports chan zero k = unfold words_sent in refl
given_of q c ports chan (suc n) k =
    gave-append q.proc.behavior.sites chan (in_stage q c ports k).transfers (transfers_of q c ports (suc k) n)
    ∙ ap (λ x. gave q.proc.behavior.sites chan (in_stage q c ports k).transfers ++ x) (given_of q c ports chan n (suc k))

pub taken_of : (q : Pipeline) (c : Registers) (ports : Ports) (chan n k : ℕ)
    → took q.proc.behavior.sites chan (transfers_of q c ports k n) ≡ all_of (λ j. took q.proc.behavior.sites chan (in_stage q c ports j).transfers) k n
taken_of q c ports chan zero k = refl
taken_of q c ports chan (suc n) k =
    took-append q.proc.behavior.sites chan (in_stage q c ports k).transfers (transfers_of q c ports (suc k) n)
    ∙ ap (λ x. took q.proc.behavior.sites chan (in_stage q c ports k).transfers ++ x) (taken_of q c ports chan n (suc k))

pub idle_gives : (q : Pipeline) (c : Registers) (ports : Ports) (chan j : ℕ) → c.full j ≡ false → gave q.proc.behavior.sites chan (in_stage q c ports j).transfers ≡ []
unfolding words_sent
idle_gives q c ports chan j f = let e = idle q c ports j f in rw e refl

pub idle_takes : (q : Pipeline) (c : Registers) (ports : Ports) (chan j : ℕ) → c.full j ≡ false → took q.proc.behavior.sites chan (in_stage q c ports j).transfers ≡ []
idle_takes q c ports chan j f = let e = idle q c ports j f in rw e refl

pub past_takes : (q : Pipeline) → IsPipeline q → (c : Registers) (ports : Ports) (acts : ℕ → Act) (chan j : ℕ) → q.last < j → IsHeld q c j (acts j)
    → took q.proc.behavior.sites chan (in_stage q c ports j).transfers ≡ []
past_takes q is c ports acts chan j l stage_regs = go (cases (c.full j))
  where
    go : (c.full j ≡ true) ⊎ (c.full j ≡ false) → took q.proc.behavior.sites chan (in_stage q c ports j).transfers ≡ []
    go (inr f) = idle_takes q c ports chan j f
    go (inl f) =
        let w = in_stage q c ports j in
        let at = is_inside q c acts j stage_regs f in
        let a = at.from in let u = at.until in let z = at.all in
        let grows = first_grows q is (suc q.last) j l in
        takes_nothing q.proc.behavior (first q (suc q.last)) (no_receive q is) chan ports (acts j).state (acts j).got w.got (acts j).place (first q (suc j) - (acts j).place) w.place w.transfers w.stall
        (goes_on q c ports acts j stage_regs f) (omega arith) (omega arith)

-- only the activation that has the turn receives
pub taken_in : (q : Pipeline) → IsPipeline q → (c : Registers) (ports : Ports) (acts : ℕ → Act) (o chan : ℕ) → HasTurn q c o → ((j : ℕ) → j < q.stages → IsHeld q c j (acts j))
    → took q.proc.behavior.sites chan (transfers_in q c ports) ≡ took q.proc.behavior.sites chan (in_stage q c ports o).transfers
unfolding transfers_in
taken_in q is c ports acts o chan turn stage_regs =
    taken_of q c ports chan q.stages 0
    ∙ all_only (λ j. took q.proc.behavior.sites chan (in_stage q c ports j).transfers) o q.stages 0 (omega arith) (let w = turn.within in let l = is.last in omega arith)
    (λ j l r ne. other j (omega arith) ne (cases_lt q.last j))
  where
    other : (j : ℕ) → j < q.stages → (j ≡ o → ⊥) → (q.last < j) ⊎ (j ≤ q.last) → took q.proc.behavior.sites chan (in_stage q c ports j).transfers ≡ []
    other j l ne (inl x) = past_takes q is c ports acts chan j x (stage_regs j l)
    other j l ne (inr x) = idle_takes q c ports chan j (turn.alone j x ne)

-- of those that have not given the turn on it alone sends
pub given_in : (q : Pipeline) → IsPipeline q → (c : Registers) (ports : Ports) (o chan : ℕ) → HasTurn q c o
    → gave q.proc.behavior.sites chan (transfers_in q c ports)
    ≡ gave q.proc.behavior.sites chan (in_stage q c ports o).transfers ++ all_of (λ j. gave q.proc.behavior.sites chan (in_stage q c ports j).transfers) (suc q.last) (stages_past q)
unfolding transfers_in
given_in q is c ports o chan turn =
    let l = is.last in
    let n : q.stages ≡ suc q.last + stages_past q = omega arith in
    given_of q c ports chan q.stages 0
    ∙ ap (λ x. all_of (λ j. gave q.proc.behavior.sites chan (in_stage q c ports j).transfers) 0 x) n
    ∙ all_split (λ j. gave q.proc.behavior.sites chan (in_stage q c ports j).transfers) (suc q.last) (stages_past q) 0 (suc q.last) (omega arith)
    ∙ ap (λ x. x ++ all_of (λ j. gave q.proc.behavior.sites chan (in_stage q c ports j).transfers) (suc q.last) (stages_past q))
    (all_only (λ j. gave q.proc.behavior.sites chan (in_stage q c ports j).transfers) o (suc q.last) 0 (omega arith) (let w = turn.within in omega arith)
    (λ j a b ne. idle_gives q c ports chan j (turn.alone j (omega arith) ne)))

-- a channel on which a site sends is silent behind it and the turn's last stage
pub silent_behind : (q : Pipeline) → IsPipeline q → (chan i j a : ℕ) → SendsAt q.proc.behavior chan i j → j ≤ a → first q (suc q.last) ≤ a → IsSilent q.proc.behavior chan a
silent_behind q is chan i j a at l h k from len e s got w t =
    let u = at.until in
    let one = site_at q.proc.behavior.sites at.place (omega arith) in
    let two = site_at q.proc.behavior.sites k len in
    let end : IsSameEnd one.0 two.0 = record {
      chan = sym one.1.chan ∙ at.chan ∙ sym e ∙ two.1.chan;
      sends = subst (IsInDirection one.0) at.turn (is.directions at.state at.got at.place one.0 one.1.here) ∙ sym (subst (IsInDirection two.0) t (is.directions s got k two.0 two.1.here));
    } in
    let early = (is.apart at.place k one.0 two.0 (omega arith) one.1.here two.1.here end).1 in
    let late = stage_from q is k (suc q.last) len (omega arith) in
    omega arith

-- a stage further on has nothing for a silent channel
pub silent_stage : (q : Pipeline) → IsPipeline q → (c : Registers) (ports : Ports) (acts : ℕ → Act) (chan i : ℕ) → IsHeld q c i (acts i) → IsSilent q.proc.behavior chan (first q i)
    → (gave q.proc.behavior.sites chan (in_stage q c ports i).transfers ≡ []) × (c.full i ≡ true → words_sent q.proc.behavior.sites chan (left_of q (walked (acts i) (in_stage q c ports i))) ≡ [])
silent_stage q is c ports acts chan i stage_regs silent = (go (cases (c.full i)), λ f. left_silent f)
  where
    go : (c.full i ≡ true) ⊎ (c.full i ≡ false) → gave q.proc.behavior.sites chan (in_stage q c ports i).transfers ≡ []
    go (inr f) = idle_gives q c ports chan i f
    go (inl f) =
        let w = in_stage q c ports i in
        let at = is_inside q c acts i stage_regs f in
        let a = at.from in let u = at.until in let z = at.all in
        silent_gives q.proc.behavior chan (first q i) silent ports (acts i).state (acts i).got w.got (acts i).place (first q (suc i) - (acts i).place) w.place w.transfers w.stall
        (goes_on q c ports acts i stage_regs f) a (omega arith)

    left_silent : c.full i ≡ true → words_sent q.proc.behavior.sites chan (left_of q (walked (acts i) (in_stage q c ports i))) ≡ []
    left_silent f =
        let w = in_stage q c ports i in
        let at = walks_within q c ports acts i stage_regs f in
        let a = at.from in let u = at.until in let z = at.all in
        silent_left q.proc.behavior chan (first q i) silent (acts i).state w.got (length q.proc.behavior.sites - w.place) w.place a (omega arith)

-- where a stage sends a word on a channel, those further on have none for it
pub apart_stages : (q : Pipeline) → IsPipeline q → (c : Registers) (ports : Ports) (acts : ℕ → Act) → ((j : ℕ) → j < q.stages → IsHeld q c j (acts j)) → (chan j : ℕ) → j < q.stages
    → (gave q.proc.behavior.sites chan (in_stage q c ports j).transfers ≡ [])
    ⊎ ((i : ℕ) → j < i → q.last < i → i < q.stages
    → (gave q.proc.behavior.sites chan (in_stage q c ports i).transfers ≡ []) × (c.full i ≡ true → words_sent q.proc.behavior.sites chan (left_of q (walked (acts i) (in_stage q c ports i))) ≡ []))
apart_stages q is c ports acts stage_regs chan j l = go (gave q.proc.behavior.sites chan (in_stage q c ports j).transfers) refl (cases (c.full j))
  where
    go : (words : List Word) → gave q.proc.behavior.sites chan (in_stage q c ports j).transfers ≡ words → (c.full j ≡ true) ⊎ (c.full j ≡ false)
        → (gave q.proc.behavior.sites chan (in_stage q c ports j).transfers ≡ [])
        ⊎ ((i : ℕ) → j < i → q.last < i → i < q.stages
        → (gave q.proc.behavior.sites chan (in_stage q c ports i).transfers ≡ []) × (c.full i ≡ true → words_sent q.proc.behavior.sites chan (left_of q (walked (acts i) (in_stage q c ports i))) ≡ []))
    go [] e f = inl e
    go (v ∷ vs) e (inr f) = inl (idle_gives q c ports chan j f)
    go (v ∷ vs) e (inl f) =
        let w = in_stage q c ports j in
        let at = is_inside q c acts j (stage_regs j l) f in
        let a = at.from in let u = at.until in
        let site = sends_at q.proc.behavior chan ports (acts j).state (acts j).got w.got (acts j).place (first q (suc j) - (acts j).place) w.place w.transfers w.stall
        (goes_on q c ports acts j (stage_regs j l) f) v vs e in
        let until : (acts j).place + (first q (suc j) - (acts j).place) ≡ first q (suc j) = omega arith in
        inr (λ i x y z. silent_stage q is c ports acts chan i (stage_regs i z)
        (silent_behind q is chan (acts j).place ((acts j).place + (first q (suc j) - (acts j).place)) (first q i) site (let g = first_grows q is (suc j) i x in omega arith) (first_grows q is (suc q.last) i y)))
