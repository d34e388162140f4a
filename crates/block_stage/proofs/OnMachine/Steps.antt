-- A cycle keeps the invariant.
use Rattle.std.proofs.Common.{◌≡◌, ℕ, zero, suc, ◌+◌, ◌-◌, ◌<◌, ◌≤◌, List, [], ◌∷◌, ◌++◌, length, map, refl, sym, ap, ◌∙◌, subst, arith, cond, true, false, Bool, append_assoc}
use Rattle.std.specs.Prelude.{◌⊎◌}
use Rattle.std.proofs.Common.{inl, inr}
use Rattle.std.proofs.Math.Path.{fun_ext}
use Rattle.std.proofs.lemmas.List.{append-nil, length-append}
use Rattle.xb_bits.specs.Word.{Word}
use Rattle.xb_value.specs.declared.value.Value.{Value}
use Rattle.net_core.specs.declared.net.Site.{Site}
use Rattle.net_core.specs.declared.event.Event.{Event}
use Rattle.net_core.specs.declared.event.Event.TheVariants.{End}
use Rattle.net_core.specs.Behavior.{Behavior}
use Rattle.net_core.specs.Trace.{Histories, trace}
use Rattle.net_core.specs.Cuts.{words_sent, count_received}
use Rattle.block_stage.specs.Machine.Pipeline.{Pipeline, IsPipeline, first}
use Rattle.block_stage.specs.Machine.Cycle.{Ports, StageEntry, Registers, event_of, Walk, in_stage, moves, after_cycle, transfers_in}
use Rattle.block_stage.specs.Machine.Since.{took, gave, Since, one_more}
use Rattle.block_stage.proofs.OnMachine.Rests.{rest, walk_traces}
use Rattle.block_stage.proofs.OnMachine.Stages.{no_receive, first_all, first_grows}
use Rattle.block_stage.proofs.OnMachine.Lefts.{left, rest_left, goes_left, got_stays, words_sent-append, count_received-append, count_taken, count_left}
use Rattle.block_stage.proofs.OnMachine.Moves.{moving, next_is_free}
use Rattle.block_stage.proofs.OnMachine.Holding.{Act, IsHeld, walked}
use Rattle.block_stage.proofs.OnMachine.Turns.{beginning, acts_after, open_after, cases, moves_alone, held_next, turn_next, act_next, full_suc}
use Rattle.block_stage.proofs.OnMachine.Gathering.{gather, order_kept, all_of, all_none, gather_none, gather_same, all_pass, cond_ap}
use Rattle.block_stage.proofs.OnMachine.Standing.{Past, Stands, left_of, stage_entry_of, stages_past, owed, inside, trace_on, made_in, top, past_after, goes_on, is_inside, walks_within, walks_through, taken_in, given_in, idle_gives, apart_stages}

pub trace_begins : (b : Behavior) (k : ℕ) (s : Value) (words : Histories) → trace b k s words ≡ trace_on b k (record { state = s; got = []; place = 0 }) words
unfolding trace trace_on rest
trace_begins b zero s words = refl
trace_begins b (suc k) s words = refl

on_suc : (b : Behavior) (k : ℕ) (act : Act) (words : Histories) → trace_on b (suc k) act words ≡ rest b (trace b k) act.state act.got words act.place
unfolding trace_on
on_suc b k act words = refl

-- the activation that has the turn, and what it makes
walk_on : (q : Pipeline) (c : Registers) (ports : Ports) (acts : ℕ → Act) (o k : ℕ) → IsHeld q c o (acts o) → c.full o ≡ true → (more : Histories)
    → trace_on q.proc.behavior (suc k) (acts o) (λ ch. took q.proc.behavior.sites ch (in_stage q c ports o).transfers ++ more ch)
    ≡ map event_of (in_stage q c ports o).transfers ++ trace_on q.proc.behavior (suc k) (walked (acts o) (in_stage q c ports o)) more
walk_on q c ports acts o k stage_regs f more =
    let w = in_stage q c ports o in
    let at = is_inside q c acts o stage_regs f in
    let u = at.until in let z = at.all in
    on_suc q.proc.behavior k (acts o) (λ ch. took q.proc.behavior.sites ch w.transfers ++ more ch)
    ∙ walk_traces q.proc.behavior (trace q.proc.behavior k) ports (acts o).state (acts o).got w.got (acts o).place (first q (suc o) - (acts o).place) w.place w.transfers w.stall
    (goes_on q c ports acts o stage_regs f) (omega arith) (λ ch. took q.proc.behavior.sites ch w.transfers ++ more ch) more (λ ch. refl)
    ∙ ap (λ es. map event_of w.transfers ++ es) (sym (on_suc q.proc.behavior k (walked (acts o) w) more))

-- at the end of the turn's last stage only sends are left, and then the end
ends_turn : (q : Pipeline) → IsPipeline q → (c : Registers) (ports : Ports) (acts : ℕ → Act) (k : ℕ) → IsHeld q c q.last (acts q.last) → moves q c ports q.last ≡ true → (more : Histories)
    → trace_on q.proc.behavior (suc k) (walked (acts q.last) (in_stage q c ports q.last)) more
    ≡ (left_of q (walked (acts q.last) (in_stage q c ports q.last)) ++ End (beginning q c ports).state ∷ []) ++ trace_on q.proc.behavior k (beginning q c ports) more
ends_turn q is c ports acts k stage_regs m more =
    let w = in_stage q c ports q.last in
    let act = walked (acts q.last) w in
    let f = (moving q c ports q.last m).full in
    let at = walks_within q c ports acts q.last stage_regs f in
    let u = at.until in let z = at.all in
    let here = walks_through q c ports acts q.last stage_regs m in
    let s : q.proc.behavior.next_state act.state act.got ≡ (beginning q c ports).state = ap (λ x. q.proc.behavior.next_state x w.got) (sym (stage_regs.full f).state) in
    on_suc q.proc.behavior k act more
    ∙ rest_left q.proc.behavior (trace q.proc.behavior k) (first q (suc q.last)) (no_receive q is) act.state act.got more (length q.proc.behavior.sites - act.place) act.place (omega arith) (omega arith)
    ∙ ap (λ x. left_of q act ++ End x ∷ trace q.proc.behavior k x more) s
    ∙ ap (λ es. left_of q act ++ End (beginning q c ports).state ∷ es) (trace_begins q.proc.behavior k (beginning q c ports).state more)
    ∙ sym (append_assoc (left_of q act) (End (beginning q c ports).state ∷ []) (trace_on q.proc.behavior k (beginning q c ports) more))

traces_next : (q : Pipeline) → IsPipeline q → (since : Since) (cycles : ℕ) (past : Past) → Stands q since cycles past → (ports : Ports)
    → (n k : ℕ) → suc cycles ≤ n → n ≡ cond (moves q since.contents ports q.last) (suc past.ends) past.ends + k → (more : Histories)
    → trace q.proc.behavior n q.proc.opening (λ ch. (one_more q since ports).received ch ++ more ch)
    ≡ (past.events ++ made_in q since.contents ports past) ++ trace_on q.proc.behavior k (acts_after q since.contents ports past.acts (open_after q since.contents ports past.open_stage)) more
traces_next q is since cycles past st ports n k l e more = go (cases (moves q c ports q.last))
  where
    c : Registers
    c = since.contents

    o : ℕ
    o = past.open_stage

    act_held : IsHeld q c o (past.acts o)
    act_held = st.stage_regs o (let w = st.turn.within in let x = is.last in omega arith)

    arrived : Histories
    arrived = λ ch. took q.proc.behavior.sites ch (in_stage q c ports o).transfers ++ more ch

    same : ◌≡◌ {A = Histories} (λ ch. (since.received ch ++ took q.proc.behavior.sites ch (transfers_in q c ports)) ++ more ch) (λ ch. since.received ch ++ arrived ch)
    same = fun_ext (λ ch. ap (λ x. (since.received ch ++ x) ++ more ch) (taken_in q is c ports past.acts o ch st.turn st.stage_regs)
        ∙ append_assoc (since.received ch) (took q.proc.behavior.sites ch (in_stage q c ports o).transfers) (more ch))

    before : (k' : ℕ) → n ≡ past.ends + suc k'
        → trace q.proc.behavior n q.proc.opening (λ ch. (since.received ch ++ took q.proc.behavior.sites ch (transfers_in q c ports)) ++ more ch)
        ≡ past.events ++ (map event_of (in_stage q c ports o).transfers ++ trace_on q.proc.behavior (suc k') (walked (past.acts o) (in_stage q c ports o)) more)
    before k' h =
        ap (trace q.proc.behavior n q.proc.opening) same
        ∙ st.traces n (suc k') (omega arith) h arrived
        ∙ ap (λ es. past.events ++ es) (walk_on q c ports past.acts o k' act_held st.turn.here more)

    next : acts_after q c ports past.acts (open_after q c ports o) ≡ cond (moves q c ports q.last) (beginning q c ports) (walked (past.acts o) (in_stage q c ports o))
    next = act_next q c ports past.acts o st.turn

    goal_at : Bool → Type 0
    goal_at t = trace q.proc.behavior n q.proc.opening (λ ch. (since.received ch ++ took q.proc.behavior.sites ch (transfers_in q c ports)) ++ more ch)
        ≡ (past.events ++ (map event_of (in_stage q c ports o).transfers
        ++ cond t (left_of q (walked (past.acts q.last) (in_stage q c ports q.last)) ++ End (beginning q c ports).state ∷ []) []))
        ++ trace_on q.proc.behavior k (cond t (beginning q c ports) (walked (past.acts o) (in_stage q c ports o))) more

    ended : moves q c ports q.last ≡ true → goal_at true
    ended m =
        let last = moves_alone q c ports o st.turn q.last (omega arith) m in
        let h = rw m at e in
        before k (omega (arith, h))
        ∙ ap (λ x. past.events ++ (map event_of (in_stage q c ports o).transfers ++ trace_on q.proc.behavior (suc k) (walked (past.acts x) (in_stage q c ports x)) more)) (sym last)
        ∙ ap (λ es. past.events ++ (map event_of (in_stage q c ports o).transfers ++ es)) (ends_turn q is c ports past.acts k (st.stage_regs q.last is.last) m more)
        ∙ ap (λ es. past.events ++ es) (sym (append_assoc (map event_of (in_stage q c ports o).transfers) _ _))
        ∙ sym (append_assoc past.events _ _)

    kept : moves q c ports q.last ≡ false → goal_at false
    kept m =
        let h = rw m at e in
        let few = st.few in
        let j : k ≡ suc (k - 1) = omega (arith, h) in
        before (k - 1) (omega (arith, h))
        ∙ ap (λ x. past.events ++ (map event_of (in_stage q c ports o).transfers ++ trace_on q.proc.behavior x (walked (past.acts o) (in_stage q c ports o)) more)) (sym j)
        ∙ ap (λ x. past.events ++ (x ++ trace_on q.proc.behavior k (walked (past.acts o) (in_stage q c ports o)) more)) (sym (append-nil (map event_of (in_stage q c ports o).transfers)))
        ∙ sym (append_assoc past.events _ _)

    go : (moves q c ports q.last ≡ true) ⊎ (moves q c ports q.last ≡ false) →
        trace q.proc.behavior n q.proc.opening (λ ch. (one_more q since ports).received ch ++ more ch)
        ≡ (past.events ++ made_in q c ports past) ++ trace_on q.proc.behavior k (acts_after q c ports past.acts (open_after q c ports o)) more
    go (inl m) = subst (λ a. trace q.proc.behavior n q.proc.opening (λ ch. (one_more q since ports).received ch ++ more ch) ≡ (past.events ++ made_in q c ports past) ++ trace_on q.proc.behavior k a more) (sym next) (subst goal_at (sym m) (ended m))
    go (inr m) = subst (λ a. trace q.proc.behavior n q.proc.opening (λ ch. (one_more q since ports).received ch ++ more ch) ≡ (past.events ++ made_in q c ports past) ++ trace_on q.proc.behavior k a more) (sym next) (subst goal_at (sym m) (kept m))

-- sums over what stages hold
words_gather : (sites : List Site) (ch : ℕ) (f : ℕ → List Event) (full : ℕ → Bool) (n k : ℕ)
    → words_sent sites ch (gather f full k n) ≡ gather (λ j. words_sent sites ch (f j)) full k n
words_gather sites ch f full zero k = unfold words_sent in refl
words_gather sites ch f full (suc n) k =
    words_sent-append sites ch (gather f full (suc k) n) (cond (full k) (f k) [])
    ∙ ap (λ x. x ++ words_sent sites ch (cond (full k) (f k) [])) (words_gather sites ch f full n (suc k))
    ∙ ap (λ x. gather (λ j. words_sent sites ch (f j)) full (suc k) n ++ x) (words_if sites ch (full k) (f k))
  where
    words_if : (sites : List Site) (ch : ℕ) (t : Bool) (es : List Event) → words_sent sites ch (cond t es []) ≡ cond t (words_sent sites ch es) []
    words_if sites ch true es = refl
    words_if sites ch false es = unfold words_sent in refl

words_end : (sites : List Site) (ch : ℕ) (t : Bool) (es : List Event) (s : Value) → words_sent sites ch (cond t (es ++ End s ∷ []) []) ≡ words_sent sites ch (cond t es [])
words_end sites ch true es s = words_sent-append sites ch es (End s ∷ []) ∙ (unfold words_sent in append-nil _)
words_end sites ch false es s = refl

-- what the stages past the turn's last one owe, before and after they move
walked_left : Pipeline → Registers → Ports → (ℕ → Act) → ℕ → List Event
walked_left q c ports acts j = left_of q (walked (acts j) (in_stage q c ports j))

owed_split : (q : Pipeline) → IsPipeline q → (c : Registers) (ports : Ports) (acts : ℕ → Act) → ((j : ℕ) → j < q.stages → IsHeld q c j (acts j)) → (ch : ℕ)
    → words_sent q.proc.behavior.sites ch (owed q c acts)
    ≡ all_of (λ j. gave q.proc.behavior.sites ch (in_stage q c ports j).transfers) (suc q.last) (stages_past q)
    ++ gather (λ j. words_sent q.proc.behavior.sites ch (walked_left q c ports acts j)) c.full (suc q.last) (stages_past q)
unfolding walked_left
owed_split q is c ports acts stage_regs ch =
    let l = is.last in
    words_gather q.proc.behavior.sites ch (λ j. left_of q (acts j)) c.full (stages_past q) (suc q.last)
    ∙ all_pass (λ j. words_sent q.proc.behavior.sites ch (left_of q (acts j))) (λ j. gave q.proc.behavior.sites ch (in_stage q c ports j).transfers)
    (λ j. words_sent q.proc.behavior.sites ch (left_of q (walked (acts j) (in_stage q c ports j)))) c.full (suc q.last) q.stages
    (λ j a z f. split j a z f)
    (λ j f. idle_gives q c ports ch j f)
    (λ j a z. only j a (apart_stages q is c ports acts stage_regs ch j z))
    (stages_past q) (suc q.last) (omega arith) (omega arith)
  where
    split : (j : ℕ) → suc q.last ≤ j → j < q.stages → c.full j ≡ true
        → words_sent q.proc.behavior.sites ch (left_of q (acts j)) ≡ gave q.proc.behavior.sites ch (in_stage q c ports j).transfers ++ words_sent q.proc.behavior.sites ch (left_of q (walked (acts j) (in_stage q c ports j)))
    split j a z f =
        let w = in_stage q c ports j in
        let at = is_inside q c acts j (stage_regs j z) f in
        let to = walks_within q c ports acts j (stage_regs j z) f in
        let x = at.from in let u = at.until in let v = at.all in let y = to.until in
        let grows = first_grows q is (suc q.last) j a in
        ap (words_sent q.proc.behavior.sites ch) (goes_left q.proc.behavior (first q (suc q.last)) (no_receive q is) ports (acts j).state (acts j).got w.got (acts j).place (first q (suc j) - (acts j).place) w.place w.transfers w.stall
        (goes_on q c ports acts j (stage_regs j z) f) (omega arith) (omega arith) (length q.proc.behavior.sites - (acts j).place) (length q.proc.behavior.sites - w.place) (omega arith) (omega arith))
        ∙ words_sent-append q.proc.behavior.sites ch (map event_of w.transfers) (left_of q (walked (acts j) w))

    only : (j : ℕ) → suc q.last ≤ j
        → (gave q.proc.behavior.sites ch (in_stage q c ports j).transfers ≡ [])
        ⊎ ((i : ℕ) → j < i → q.last < i → i < q.stages
        → (gave q.proc.behavior.sites ch (in_stage q c ports i).transfers ≡ []) × (c.full i ≡ true → words_sent q.proc.behavior.sites ch (left_of q (walked (acts i) (in_stage q c ports i))) ≡ []))
        → (gave q.proc.behavior.sites ch (in_stage q c ports j).transfers ≡ [])
        ⊎ ((i : ℕ) → j < i → i < q.stages
        → (gave q.proc.behavior.sites ch (in_stage q c ports i).transfers ≡ []) × (c.full i ≡ true → words_sent q.proc.behavior.sites ch (left_of q (walked (acts i) (in_stage q c ports i))) ≡ []))
    only j a (inl x) = inl x
    only j a (inr h) = inr (λ i x y. h i x (omega arith) y)

-- moving keeps what is gathered in order
moved_on : {A : Type 0} (q : Pipeline) → IsPipeline q → (c : Registers) (ports : Ports) (acts : ℕ → Act) (f : Act → List A)
    → cond (moves q c ports (top q)) (f (walked (acts (top q)) (in_stage q c ports (top q)))) []
    ++ gather (λ j. f (acts_after q c ports acts j)) (after_cycle q c ports).full (suc q.last) (stages_past q)
    ≡ gather (λ j. f (walked (acts j) (in_stage q c ports j))) c.full (suc q.last) (stages_past q)
    ++ cond (moves q c ports q.last) (f (walked (acts q.last) (in_stage q c ports q.last))) []
moved_on q is c ports acts f =
    let l = is.last in
    order_kept (λ j. f (walked (acts j) (in_stage q c ports j))) (λ j. f (acts_after q c ports acts j)) c.full (after_cycle q c ports).full (moves q c ports) (top q)
    (λ j x m g. next_is_free q c ports j (omega arith) m g)
    (λ j m. (moving q c ports j m).full)
    (λ j. full_suc q c ports j)
    (λ j. cond_ap f (moves q c ports j) (walked (acts j) (in_stage q c ports j)) (walked (acts (suc j)) (in_stage q c ports (suc j))))
    (stages_past q) q.last (omega arith)

-- what leaves the final stage owes nothing
leaves_clear : (q : Pipeline) → IsPipeline q → (c : Registers) (ports : Ports) (acts : ℕ → Act) → IsHeld q c (top q) (acts (top q))
    → cond (moves q c ports (top q)) (left_of q (walked (acts (top q)) (in_stage q c ports (top q)))) [] ≡ []
leaves_clear q is c ports acts stage_regs = go (cases (moves q c ports (top q)))
  where
    all_left : (n : ℕ) (act : Act) → n ≡ 0 → left q.proc.behavior act.state act.got act.place n ≡ []
    all_left n act e = rw e refl

    go : (moves q c ports (top q) ≡ true) ⊎ (moves q c ports (top q) ≡ false) → cond (moves q c ports (top q)) (left_of q (walked (acts (top q)) (in_stage q c ports (top q)))) [] ≡ []
    go (inr m) = rw m refl
    go (inl m) =
        let l = is.last in
        let e : suc (top q) ≡ q.stages = omega arith in
        let here = walks_through q c ports acts (top q) stage_regs m ∙ ap (first q) e ∙ first_all q is in
        rw m (all_left (length q.proc.behavior.sites - (in_stage q c ports (top q)).place) (walked (acts (top q)) (in_stage q c ports (top q))) (omega (arith, here)))

sums : (sent s r g x : List Word) → (g ≡ []) ⊎ ((s ≡ []) × (r ≡ [])) → (sent ++ (s ++ r)) ++ (g ++ x) ≡ (sent ++ (g ++ s)) ++ (r ++ x)
sums sent s r g x (inl e) = rw e (simp append_assoc)
sums sent s r g x (inr e) = let a = e.0 in let b = e.1 in rw (a, b) (simp (append_assoc, append-nil {A = Word}))

owes_next : (q : Pipeline) → IsPipeline q → (since : Since) (cycles : ℕ) (past : Past) → Stands q since cycles past → (ports : Ports) → (ch : ℕ)
    → words_sent q.proc.behavior.sites ch (past.events ++ made_in q since.contents ports past)
    ≡ (one_more q since ports).sent ch ++ words_sent q.proc.behavior.sites ch (owed q (after_cycle q since.contents ports) (acts_after q since.contents ports past.acts))
owes_next q is since cycles past st ports ch =
    words_sent-append q.proc.behavior.sites ch past.events (made_in q c ports past)
    ∙ ap (λ x. x ++ words_sent q.proc.behavior.sites ch (made_in q c ports past)) (st.owes ch ∙ ap (λ x. since.sent ch ++ x) (owed_split q is c ports past.acts st.stage_regs ch))
    ∙ ap (λ x. (since.sent ch ++ (given ++ still_owed)) ++ x) made
    ∙ sums (since.sent ch) given still_owed here new (apart (apart_stages q is c ports past.acts st.stage_regs ch o (let w = st.turn.within in let x = is.last in omega arith)))
    ∙ ap (λ x. (since.sent ch ++ x) ++ (still_owed ++ new)) (sym (given_in q is c ports o ch st.turn))
    ∙ ap (λ x. (since.sent ch ++ gave q.proc.behavior.sites ch (transfers_in q c ports)) ++ x) (sym after)
  where
    c : Registers
    c = since.contents

    o : ℕ
    o = past.open_stage

    given : List Word
    given = all_of (λ j. gave q.proc.behavior.sites ch (in_stage q c ports j).transfers) (suc q.last) (stages_past q)

    still_owed : List Word
    still_owed = gather (λ j. words_sent q.proc.behavior.sites ch (walked_left q c ports past.acts j)) c.full (suc q.last) (stages_past q)

    here : List Word
    here = gave q.proc.behavior.sites ch (in_stage q c ports o).transfers

    new : List Word
    new = words_sent q.proc.behavior.sites ch (cond (moves q c ports q.last) (left_of q (walked (past.acts q.last) (in_stage q c ports q.last))) [])

    made : words_sent q.proc.behavior.sites ch (made_in q c ports past) ≡ here ++ new
    made = words_sent-append q.proc.behavior.sites ch (map event_of (in_stage q c ports o).transfers) _
        ∙ ap (λ x. here ++ x) (words_end q.proc.behavior.sites ch (moves q c ports q.last) (left_of q (walked (past.acts q.last) (in_stage q c ports q.last))) (beginning q c ports).state)

    apart : (here ≡ [])
        ⊎ ((i : ℕ) → o < i → q.last < i → i < q.stages
        → (gave q.proc.behavior.sites ch (in_stage q c ports i).transfers ≡ []) × (c.full i ≡ true → words_sent q.proc.behavior.sites ch (left_of q (walked (past.acts i) (in_stage q c ports i))) ≡ []))
        → (here ≡ []) ⊎ ((given ≡ []) × (still_owed ≡ []))
    apart (inl e) = inl e
    apart (inr h) = inr (
      all_none _ (stages_past q) (suc q.last) (λ j a z. (h j (let w = st.turn.within in omega arith) a (omega arith)).0),
      gather_none _ c.full (stages_past q) (suc q.last) (λ j a z f. unfold walked_left in (h j (let w = st.turn.within in omega arith) a (omega arith)).1 f),
    )

    after : words_sent q.proc.behavior.sites ch (owed q (after_cycle q c ports) (acts_after q c ports past.acts)) ≡ still_owed ++ new
    after =
        let moved = moved_on q is c ports past.acts (left_of q) in
        let clear = leaves_clear q is c ports past.acts (st.stage_regs (top q) (let l = is.last in omega arith)) in
        let now = rw clear at moved in
        ap (words_sent q.proc.behavior.sites ch) now
        ∙ words_sent-append q.proc.behavior.sites ch (gather (λ j. left_of q (walked (past.acts j) (in_stage q c ports j))) c.full (suc q.last) (stages_past q)) _
        ∙ ap (λ x. x ++ new) (unfold walked_left in words_gather q.proc.behavior.sites ch (λ j. left_of q (walked (past.acts j) (in_stage q c ports j))) c.full (stages_past q) (suc q.last))

count_end : (sites : List Site) (ch : ℕ) (t : Bool) (es : List Event) (s : Value) → count_received sites ch es ≡ 0 → count_received sites ch (cond t (es ++ End s ∷ []) []) ≡ 0
count_end sites ch true es s h = count_received-append sites ch es (End s ∷ []) ∙ (unfold count_received in omega (arith, h))
count_end sites ch false es s h = unfold count_received in refl

receives_next : (q : Pipeline) → IsPipeline q → (since : Since) (cycles : ℕ) (past : Past) → Stands q since cycles past → (ports : Ports) → (ch : ℕ)
    → count_received q.proc.behavior.sites ch (past.events ++ made_in q since.contents ports past) ≡ length ((one_more q since ports).received ch)
receives_next q is since cycles past st ports ch =
    let c = since.contents in
    let o = past.open_stage in
    let before = st.receives ch in
    let act = walked (past.acts q.last) (in_stage q c ports q.last) in
    let none = count_end q.proc.behavior.sites ch (moves q c ports q.last) (left_of q act) (beginning q c ports).state
    (count_left q.proc.behavior ch act.state act.got (length q.proc.behavior.sites - act.place) act.place) in
    let made = count_received-append q.proc.behavior.sites ch (map event_of (in_stage q c ports o).transfers)
    (cond (moves q c ports q.last) (left_of q act ++ End (beginning q c ports).state ∷ []) []) in
    let taken = count_taken q.proc.behavior.sites ch (in_stage q c ports o).transfers in
    let all = count_received-append q.proc.behavior.sites ch past.events (made_in q c ports past) in
    let words = ap length (taken_in q is c ports past.acts o ch st.turn st.stage_regs) in
    let long = length-append (since.received ch) (took q.proc.behavior.sites ch (transfers_in q c ports)) in
    omega (arith, before, none, made, taken, all, words, long)

stage_entry_same : (act : Act) (w : Walk) → w.got ≡ act.got → stage_entry_of act ≡ stage_entry_of (walked act w)
stage_entry_same act w e = ap (λ (g : List Word). stage_entry_of (record { state = act.state; got = g; place = 0 })) (sym e)

older_next : (q : Pipeline) → IsPipeline q → (since : Since) (cycles : ℕ) (past : Past) → Stands q since cycles past → (ports : Ports)
    → (past_after q since.contents ports past).ended ≡ (past_after q since.contents ports past).gone ++ inside q (after_cycle q since.contents ports) (acts_after q since.contents ports past.acts)
older_next q is since cycles past st ports =
    ap (λ x. x ++ ended) (st.older ∙ ap (λ x. past.gone ++ x) same)
    ∙ append_assoc past.gone _ ended
    ∙ ap (λ x. past.gone ++ x) (sym (moved_on q is c ports past.acts stage_entry_of))
    ∙ sym (append_assoc past.gone _ _)
  where
    c : Registers
    c = since.contents

    ended : List StageEntry
    ended = cond (moves q c ports q.last) (stage_entry_of (walked (past.acts q.last) (in_stage q c ports q.last))) []

    same : inside q c past.acts ≡ gather (λ j. stage_entry_of (walked (past.acts j) (in_stage q c ports j))) c.full (suc q.last) (stages_past q)
    same = gather_same (λ j. stage_entry_of (past.acts j)) (λ j. stage_entry_of (walked (past.acts j) (in_stage q c ports j))) c.full (stages_past q) (suc q.last)
        (λ j a z f.
        let w = in_stage q c ports j in
        let l = is.last in
        let stage_regs = st.stage_regs j (omega arith) in
        let at = is_inside q c past.acts j stage_regs f in
        let x = at.from in let u = at.until in let v = at.all in
        let grows = first_grows q is (suc q.last) j a in
        let stays = got_stays q.proc.behavior (first q (suc q.last)) (no_receive q is) ports (past.acts j).state (past.acts j).got w.got (past.acts j).place (first q (suc j) - (past.acts j).place) w.place w.transfers w.stall
        (goes_on q c ports past.acts j stage_regs f) (omega arith) (omega arith) in
        stage_entry_same (past.acts j) w stays)

few_next : (t : Bool) (ends cycles : ℕ) → ends ≤ cycles → cond t (suc ends) ends ≤ suc cycles
few_next true ends cycles h = omega arith
few_next false ends cycles h = omega arith

counted_next : (t : Bool) (xs : List StageEntry) (act : Act) (ends : ℕ) → length xs ≡ ends → length (xs ++ cond t (stage_entry_of act) []) ≡ cond t (suc ends) ends
counted_next true xs act ends h = length-append xs (stage_entry_of act) ∙ omega (arith, h)
counted_next false xs act ends h = ap length (append-nil xs) ∙ h

-- one cycle more
pub stands_next : (q : Pipeline) → IsPipeline q → (since : Since) (cycles : ℕ) (past : Past) → Stands q since cycles past → (ports : Ports)
    → Stands q (one_more q since ports) (suc cycles) (past_after q since.contents ports past)
stands_next q is since cycles past st ports = record {
  stage_regs = held_next q is since.contents ports past.acts past.open_stage st.turn st.stage_regs;
  turn = turn_next q since.contents ports past.open_stage st.turn;
  traces = traces_next q is since cycles past st ports;
  owes = owes_next q is since cycles past st ports;
  receives = receives_next q is since cycles past st ports;
  few = few_next (moves q since.contents ports q.last) past.ends cycles st.few;
  older = older_next q is since cycles past st ports;
  counted = counted_next (moves q since.contents ports q.last) past.ended (walked (past.acts q.last) (in_stage q since.contents ports q.last)) past.ends st.counted;
}
