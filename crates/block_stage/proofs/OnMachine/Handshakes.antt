-- A word goes through a port in the cycles in which both sides are ready, and at no other site than the channel's.
use Rattle.std.proofs.Common.{◌≡◌, ℕ, zero, suc, ◌+◌, ◌-◌, ◌<◌, ◌≤◌, List, [], ◌∷◌, ◌++◌, length, map, refl, sym, ap, ◌∙◌, subst, arith, cond, true, false, Bool, eqb, Option, Some, None}
use Rattle.std.specs.Prelude.{◌⊎◌, option_to_list}
use Rattle.std.proofs.Common.{inl, inr}
use Rattle.std.proofs.lemmas.List.{length-append}
use Rattle.xb_bits.specs.Word.{Word}
use Rattle.xb_value.specs.declared.value.Value.{Value}
use Rattle.net_core.specs.declared.event.Event.{Event}
use Rattle.net_core.specs.Behavior.{Behavior, IsInDirection, chan_at}
use Rattle.net_core.specs.Cuts.{words_sent, count_received}
use Rattle.block_stage.specs.Machine.Pipeline.{Pipeline, IsPipeline, ReceivesNowhere, first}
use Rattle.block_stage.specs.Machine.Cycle.{Ports, Registers, Transfer, event_of, in_stage, event_list, asserted_by, asserted_of, asserted_in, transfers_of, transfers_in}
use Rattle.block_stage.specs.Machine.Since.{took, gave, Since, at_reset, one_more, after_cycles}
use Rattle.block_stage.proofs.OnMachine.Choices.{eqb-eq, if_none}
use Rattle.block_stage.proofs.OnMachine.Walks.{Goes, ends, skips, takes, gives, no_word, no_room}
use Rattle.block_stage.proofs.OnMachine.Rests.{site_at}
use Rattle.block_stage.proofs.OnMachine.Lefts.{words_sent-append, count_received-append, count_taken, took-append, gave-append}
use Rattle.block_stage.proofs.OnMachine.Moves.{idle}
use Rattle.block_stage.proofs.OnMachine.Holding.{Act, IsHeld}
use Rattle.block_stage.proofs.OnMachine.Turns.{cases}
use Rattle.block_stage.proofs.OnMachine.Standing.{Past, Stands, goes_on, is_inside, idle_gives, idle_takes}
use Rattle.block_stage.proofs.OnMachine.Steps.{stands_next}
use Rattle.block_stage.proofs.OnMachine.Prefixes.{past_at_reset, stands_at_reset, stands}
use Rattle.block_stage.proofs.OnMachine.Offered.{none_sent}
use Rattle.block_stage.proofs.OnMachine.Asserts.{one_receives}

transfers_are : (q : Pipeline) (c : Registers) (ports : Ports) → transfers_in q c ports ≡ transfers_of q c ports 0 q.stages
unfolding transfers_in
transfers_are q c ports = refl

asserts_are : (q : Pipeline) (c : Registers) (ports : Ports) → asserted_in q c ports ≡ asserted_of q c ports 0 q.stages
unfolding asserted_in
asserts_are q c ports = refl

-- where a channel has room, nothing waits to be sent on it
none_stalls : (b : Behavior) (ch : ℕ) (ports : Ports) → ports.room ch ≡ true → (s : Value) (got got' : List Word) (i n p : ℕ) (transfers : List Transfer) (stall : Option Event)
    → Goes b ports s got i n p got' transfers stall → words_sent b.sites ch (event_list stall) ≡ []
unfolding words_sent
none_stalls b ch ports free s got got' i n p transfers stall ends = refl
none_stalls b ch ports free s got got' i n p transfers stall (skips {n = m} t g) = none_stalls b ch ports free s _ got' (suc i) m p transfers stall g
none_stalls b ch ports free s got got' i n p transfers stall (takes {n = m} {transfers = ds} w t o g) = none_stalls b ch ports free s _ got' (suc i) m p ds stall g
none_stalls b ch ports free s got got' i n p transfers stall (gives {n = m} {transfers = ds} w t o g) = none_stalls b ch ports free s _ got' (suc i) m p ds stall g
none_stalls b ch ports free s got got' i n p transfers stall (no_word t o) = refl
none_stalls b ch ports free s got got' i n p transfers stall (no_room w t o) =
    if_none (eqb (chan_at b.sites i) ch) w [] (λ x. let e = eqb-eq _ _ x in let y = rw e at o in cc) refl

stage_sends : (q : Pipeline) (c : Registers) (ports : Ports) (acts : ℕ → Act) (ch j : ℕ) → IsHeld q c j (acts j) → ports.room ch ≡ true
    → words_sent q.proc.behavior.sites ch (asserted_by (in_stage q c ports j)) ≡ gave q.proc.behavior.sites ch (in_stage q c ports j).transfers
stage_sends q c ports acts ch j stage_regs free = go (cases (c.full j))
  where
    append_none : (xs ys : List Word) → ys ≡ [] → xs ++ ys ≡ xs
    append_none [] ys e = e
    append_none (x ∷ xs) ys e = ap (λ z. x ∷ z) (append_none xs ys e)

    go : (c.full j ≡ true) ⊎ (c.full j ≡ false) → words_sent q.proc.behavior.sites ch (asserted_by (in_stage q c ports j)) ≡ gave q.proc.behavior.sites ch (in_stage q c ports j).transfers
    go (inr f) = let e = idle q c ports j f in rw e refl
    go (inl f) =
        let s = in_stage q c ports j in
        words_sent-append q.proc.behavior.sites ch (map event_of s.transfers) (event_list s.stall)
        ∙ append_none _ _ (none_stalls q.proc.behavior ch ports free (acts j).state (acts j).got s.got (acts j).place (first q (suc j) - (acts j).place) s.place s.transfers s.stall (goes_on q c ports acts j stage_regs f))

all_sends : (q : Pipeline) (c : Registers) (ports : Ports) (acts : ℕ → Act) (ch : ℕ) → ((j : ℕ) → j < q.stages → IsHeld q c j (acts j)) → ports.room ch ≡ true
    → (n k : ℕ) → k + n ≤ q.stages → words_sent q.proc.behavior.sites ch (asserted_of q c ports k n) ≡ gave q.proc.behavior.sites ch (transfers_of q c ports k n)
all_sends q c ports acts ch stage_regs free zero k l = refl
all_sends q c ports acts ch stage_regs free (suc n) k l =
    words_sent-append q.proc.behavior.sites ch (asserted_by (in_stage q c ports k)) (asserted_of q c ports (suc k) n)
    ∙ ap (λ x. x ++ words_sent q.proc.behavior.sites ch (asserted_of q c ports (suc k) n)) (stage_sends q c ports acts ch k (stage_regs k (omega arith)) free)
    ∙ ap (λ x. gave q.proc.behavior.sites ch (in_stage q c ports k).transfers ++ x) (all_sends q c ports acts ch stage_regs free n (suc k) (omega arith))
    ∙ sym (gave-append q.proc.behavior.sites ch (in_stage q c ports k).transfers (transfers_of q c ports (suc k) n))

stage_blocked : (q : Pipeline) (c : Registers) (ports : Ports) (acts : ℕ → Act) (ch j : ℕ) → IsHeld q c j (acts j) → ports.room ch ≡ false
    → gave q.proc.behavior.sites ch (in_stage q c ports j).transfers ≡ []
stage_blocked q c ports acts ch j stage_regs full = go (cases (c.full j))
  where
    go : (c.full j ≡ true) ⊎ (c.full j ≡ false) → gave q.proc.behavior.sites ch (in_stage q c ports j).transfers ≡ []
    go (inr f) = idle_gives q c ports ch j f
    go (inl f) =
        let s = in_stage q c ports j in
        none_sent q.proc.behavior ch ports full (acts j).state (acts j).got s.got (acts j).place (first q (suc j) - (acts j).place) s.place s.transfers s.stall (goes_on q c ports acts j stage_regs f)

all_blocked : (q : Pipeline) (c : Registers) (ports : Ports) (acts : ℕ → Act) (ch : ℕ) → ((j : ℕ) → j < q.stages → IsHeld q c j (acts j)) → ports.room ch ≡ false
    → (n k : ℕ) → k + n ≤ q.stages → gave q.proc.behavior.sites ch (transfers_of q c ports k n) ≡ []
all_blocked q c ports acts ch stage_regs full zero k l = unfold words_sent in refl
all_blocked q c ports acts ch stage_regs full (suc n) k l =
    let here = stage_blocked q c ports acts ch k (stage_regs k (omega arith)) full in
    let more = all_blocked q c ports acts ch stage_regs full n (suc k) (omega arith) in
    gave-append q.proc.behavior.sites ch (in_stage q c ports k).transfers (transfers_of q c ports (suc k) n) ∙ (rw (here, more) refl)

pub sent_words_go_where_there_is_room : (q : Pipeline) → IsPipeline q → (cycles : List Ports) (ports : Ports) (chan : ℕ)
    → gave q.proc.behavior.sites chan (transfers_in q (after_cycles q (at_reset q) cycles).contents ports)
    ≡ cond (ports.room chan) (words_sent q.proc.behavior.sites chan (asserted_in q (after_cycles q (at_reset q) cycles).contents ports)) []
unfolding transfers_in asserted_in
sent_words_go_where_there_is_room q is cycles ports chan = go (cases (ports.room chan))
  where
    c : Registers
    c = (after_cycles q (at_reset q) cycles).contents

    go : (ports.room chan ≡ true) ⊎ (ports.room chan ≡ false)
        → gave q.proc.behavior.sites chan (transfers_of q c ports 0 q.stages) ≡ cond (ports.room chan) (words_sent q.proc.behavior.sites chan (asserted_of q c ports 0 q.stages)) []
    go (inl free) = let s = stands q is cycles in rw free (sym (all_sends q c ports s.0.acts chan s.1.stage_regs free q.stages 0 (omega arith)))
    go (inr full) = let s = stands q is cycles in rw full (all_blocked q c ports s.0.acts chan s.1.stage_regs full q.stages 0 (omega arith))

-- all of these are one word
abbrev AreAll : Word → List Word → Type 0
AreAll w [] = Unit {0}
AreAll w (x ∷ xs) = (x ≡ w) × AreAll w xs

all-append : (w : Word) (xs ys : List Word) → AreAll w xs → AreAll w ys → AreAll w (xs ++ ys)
all-append w [] ys a b = b
all-append w (x ∷ xs) ys a b = (a.0, all-append w xs ys a.1 b)

if_all : (t : Bool) (v w : Word) (xs : List Word) → (t ≡ true → v ≡ w) → AreAll w xs → AreAll w (cond t (v ∷ xs) xs)
if_all true v w xs h a = (h refl, a)
if_all false v w xs h a = a

-- where a word is there, it is the one taken, and nothing waits for it
takes_word : (b : Behavior) (ch : ℕ) (ports : Ports) (w : Word) → ports.valid_word ch ≡ Some w → (s : Value) (got got' : List Word) (i n p : ℕ) (transfers : List Transfer) (stall : Option Event)
    → Goes b ports s got i n p got' transfers stall → AreAll w (took b.sites ch transfers) × (count_received b.sites ch (event_list stall) ≡ 0)
unfolding count_received
takes_word b ch ports w there s got got' i n p transfers stall ends = (tt, refl)
takes_word b ch ports w there s got got' i n p transfers stall (skips {n = m} t g) = takes_word b ch ports w there s _ got' (suc i) m p transfers stall g
takes_word b ch ports w there s got got' i n p transfers stall (takes {n = m} {transfers = ds} v t o g) =
    let ih = takes_word b ch ports w there s _ got' (suc i) m p ds stall g in
    (if_all (eqb (chan_at b.sites i) ch) v w _ (λ x. let e = eqb-eq _ _ x in let y = rw e at o in let z : ◌≡◌ {A = Option Word} (Some v) (Some w) = sym y ∙ there in cc) ih.0, ih.1)
takes_word b ch ports w there s got got' i n p transfers stall (gives {n = m} {transfers = ds} v t o g) = takes_word b ch ports w there s _ got' (suc i) m p ds stall g
takes_word b ch ports w there s got got' i n p transfers stall (no_word t o) =
    (tt, none (eqb (chan_at b.sites i) ch) (λ x. let e = eqb-eq _ _ x in let y = rw e at o in let z : ◌≡◌ {A = Option Word} (Some w) None = sym there ∙ y in cc))
  where
    none : (t : Bool) → (t ≡ true → ⊥) → ◌≡◌ {A = ℕ} (cond t 1 0) 0
    none true h = absurd (h refl)
    none false h = refl
takes_word b ch ports w there s got got' i n p transfers stall (no_room v t o) = (tt, refl)

-- where none is there, none is taken
takes_none : (b : Behavior) (ch : ℕ) (ports : Ports) → ports.valid_word ch ≡ None → (s : Value) (got got' : List Word) (i n p : ℕ) (transfers : List Transfer) (stall : Option Event)
    → Goes b ports s got i n p got' transfers stall → took b.sites ch transfers ≡ []
takes_none b ch ports there s got got' i n p transfers stall ends = refl
takes_none b ch ports there s got got' i n p transfers stall (skips {n = m} t g) = takes_none b ch ports there s _ got' (suc i) m p transfers stall g
takes_none b ch ports there s got got' i n p transfers stall (takes {n = m} {transfers = ds} v t o g) =
    if_none (eqb (chan_at b.sites i) ch) v _ (λ x. let e = eqb-eq _ _ x in let y = rw e at o in let z : ◌≡◌ {A = Option Word} (Some v) None = sym y ∙ there in cc)
    (takes_none b ch ports there s _ got' (suc i) m p ds stall g)
takes_none b ch ports there s got got' i n p transfers stall (gives {n = m} {transfers = ds} v t o g) = takes_none b ch ports there s _ got' (suc i) m p ds stall g
takes_none b ch ports there s got got' i n p transfers stall (no_word t o) = refl
takes_none b ch ports there s got got' i n p transfers stall (no_room v t o) = refl

stage_takes : (q : Pipeline) (c : Registers) (ports : Ports) (acts : ℕ → Act) (ch j : ℕ) (w : Word) → IsHeld q c j (acts j) → ports.valid_word ch ≡ Some w
    → AreAll w (took q.proc.behavior.sites ch (in_stage q c ports j).transfers)
    × (count_received q.proc.behavior.sites ch (asserted_by (in_stage q c ports j)) ≡ length (took q.proc.behavior.sites ch (in_stage q c ports j).transfers))
stage_takes q c ports acts ch j w stage_regs there = go (cases (c.full j))
  where
    go : (c.full j ≡ true) ⊎ (c.full j ≡ false)
        → AreAll w (took q.proc.behavior.sites ch (in_stage q c ports j).transfers)
        × (count_received q.proc.behavior.sites ch (asserted_by (in_stage q c ports j)) ≡ length (took q.proc.behavior.sites ch (in_stage q c ports j).transfers))
    go (inr f) = let e = idle q c ports j f in rw e (tt, unfold count_received in refl)
    go (inl f) =
        let s = in_stage q c ports j in
        let r = takes_word q.proc.behavior ch ports w there (acts j).state (acts j).got s.got (acts j).place (first q (suc j) - (acts j).place) s.place s.transfers s.stall (goes_on q c ports acts j stage_regs f) in
        let sum = count_received-append q.proc.behavior.sites ch (map event_of s.transfers) (event_list s.stall) in
        let taken = count_taken q.proc.behavior.sites ch s.transfers in
        let none = r.1 in
        (r.0, omega (arith, sum, taken, none))

all_take : (q : Pipeline) (c : Registers) (ports : Ports) (acts : ℕ → Act) (ch : ℕ) (w : Word) → ((j : ℕ) → j < q.stages → IsHeld q c j (acts j)) → ports.valid_word ch ≡ Some w
    → (n k : ℕ) → k + n ≤ q.stages
    → AreAll w (took q.proc.behavior.sites ch (transfers_of q c ports k n))
    × (count_received q.proc.behavior.sites ch (asserted_of q c ports k n) ≡ length (took q.proc.behavior.sites ch (transfers_of q c ports k n)))
all_take q c ports acts ch w stage_regs there zero k l = (tt, unfold count_received in refl)
all_take q c ports acts ch w stage_regs there (suc n) k l =
    let here = stage_takes q c ports acts ch k w (stage_regs k (omega arith)) there in
    let more = all_take q c ports acts ch w stage_regs there n (suc k) (omega arith) in
    let split = took-append q.proc.behavior.sites ch (in_stage q c ports k).transfers (transfers_of q c ports (suc k) n) in
    let sum = count_received-append q.proc.behavior.sites ch (asserted_by (in_stage q c ports k)) (asserted_of q c ports (suc k) n) in
    let long = ap length split ∙ length-append (took q.proc.behavior.sites ch (in_stage q c ports k).transfers) (took q.proc.behavior.sites ch (transfers_of q c ports (suc k) n)) in
    let a = here.1 in
    let b = more.1 in
    (subst (AreAll w) (sym split) (all-append w _ _ here.0 more.0), omega (arith, sum, long, a, b))

stage_takes_none : (q : Pipeline) (c : Registers) (ports : Ports) (acts : ℕ → Act) (ch j : ℕ) → IsHeld q c j (acts j) → ports.valid_word ch ≡ None
    → took q.proc.behavior.sites ch (in_stage q c ports j).transfers ≡ []
stage_takes_none q c ports acts ch j stage_regs there = go (cases (c.full j))
  where
    go : (c.full j ≡ true) ⊎ (c.full j ≡ false) → took q.proc.behavior.sites ch (in_stage q c ports j).transfers ≡ []
    go (inr f) = idle_takes q c ports ch j f
    go (inl f) =
        let s = in_stage q c ports j in
        takes_none q.proc.behavior ch ports there (acts j).state (acts j).got s.got (acts j).place (first q (suc j) - (acts j).place) s.place s.transfers s.stall (goes_on q c ports acts j stage_regs f)

each_takes_none : (q : Pipeline) (c : Registers) (ports : Ports) (ch : ℕ) → ((j : ℕ) → j < q.stages → took q.proc.behavior.sites ch (in_stage q c ports j).transfers ≡ [])
    → (n k : ℕ) → k + n ≤ q.stages → took q.proc.behavior.sites ch (transfers_of q c ports k n) ≡ []
each_takes_none q c ports ch each zero k l = refl
each_takes_none q c ports ch each (suc n) k l =
    let here = each k (omega arith) in
    let more = each_takes_none q c ports ch each n (suc k) (omega arith) in
    took-append q.proc.behavior.sites ch (in_stage q c ports k).transfers (transfers_of q c ports (suc k) n) ∙ (rw (here, more) refl)

one_word : (w : Word) (xs : List Word) (n : ℕ) → AreAll w xs → n ≡ length xs → n ≤ 1 → xs ≡ cond (eqb n 0) [] (w ∷ [])
one_word w [] n a e l = rw e refl
one_word w (x ∷ []) n a e l =
    let h : n ≡ 1 = omega (arith, e) in
    rw h (let y = a.0 in ap (λ z. z ∷ []) y)
one_word w (x ∷ y ∷ xs) n a e l = absurd (omega (arith, e, l))

pub received_words_go_where_ready : (q : Pipeline) → IsPipeline q → (cycles : List Ports) (ports : Ports) (chan : ℕ)
    → took q.proc.behavior.sites chan (transfers_in q (after_cycles q (at_reset q) cycles).contents ports)
    ≡ cond (eqb (count_received q.proc.behavior.sites chan (asserted_in q (after_cycles q (at_reset q) cycles).contents ports)) 0) [] (option_to_list (ports.valid_word chan))
received_words_go_where_ready q is cycles ports chan = go (ports.valid_word chan) refl
  where
    c : Registers
    c = (after_cycles q (at_reset q) cycles).contents

    opened_transfers : transfers_in q c ports ≡ transfers_of q c ports 0 q.stages
    opened_transfers = transfers_are q c ports

    opened_asserts : asserted_in q c ports ≡ asserted_of q c ports 0 q.stages
    opened_asserts = asserts_are q c ports

    cond_none : (t : Bool) → ◌≡◌ {A = List Word} [] (cond t [] [])
    cond_none true = refl
    cond_none false = refl

    go : (valid_word : Option Word) → ports.valid_word chan ≡ valid_word
        → took q.proc.behavior.sites chan (transfers_in q c ports) ≡ cond (eqb (count_received q.proc.behavior.sites chan (asserted_in q c ports)) 0) [] (option_to_list valid_word)
    go None e =
        let s = stands q is cycles in
        ap (took q.proc.behavior.sites chan) opened_transfers
        ∙ each_takes_none q c ports chan (λ j l. stage_takes_none q c ports s.0.acts chan j (s.1.stage_regs j l) e) q.stages 0 (omega arith)
        ∙ cond_none _
    go (Some w) e =
        let s = stands q is cycles in
        let r = all_take q c ports s.0.acts chan w s.1.stage_regs e q.stages 0 (omega arith) in
        let once = one_receives q is c ports s.0.acts s.0.open_stage chan s.1.turn s.1.stage_regs in
        one_word w _ _ (subst (λ d. AreAll w (took q.proc.behavior.sites chan d)) (sym opened_transfers) r.0)
        (ap (count_received q.proc.behavior.sites chan) opened_asserts ∙ r.1 ∙ ap (λ d. length (took q.proc.behavior.sites chan d)) (sym opened_transfers)) once

-- nothing is received where no site does
takes_nowhere : (q : Pipeline) → IsPipeline q → (ch : ℕ) → ReceivesNowhere q ch → (ports : Ports) (s : Value) (got got' : List Word) (i n p : ℕ) (transfers : List Transfer) (stall : Option Event)
    → Goes q.proc.behavior ports s got i n p got' transfers stall → i + n ≤ length q.proc.behavior.sites → took q.proc.behavior.sites ch transfers ≡ []
takes_nowhere q is ch nowhere ports s got got' i n p transfers stall ends l = refl
takes_nowhere q is ch nowhere ports s got got' i n p transfers stall (skips {n = m} t g) l = takes_nowhere q is ch nowhere ports s _ got' (suc i) m p transfers stall g (omega arith)
takes_nowhere q is ch nowhere ports s got got' i n p transfers stall (takes {n = m} {transfers = ds} v t o g) l =
    if_none (eqb (chan_at q.proc.behavior.sites i) ch) v _
    (λ x. let r = site_at q.proc.behavior.sites i (omega arith) in
    nowhere i r.0 r.1.here (subst (IsInDirection r.0) t (is.directions s got i r.0 r.1.here)) (sym r.1.chan ∙ eqb-eq _ _ x))
    (takes_nowhere q is ch nowhere ports s _ got' (suc i) m p ds stall g (omega arith))
takes_nowhere q is ch nowhere ports s got got' i n p transfers stall (gives {n = m} {transfers = ds} v t o g) l = takes_nowhere q is ch nowhere ports s _ got' (suc i) m p ds stall g (omega arith)
takes_nowhere q is ch nowhere ports s got got' i n p transfers stall (no_word t o) l = refl
takes_nowhere q is ch nowhere ports s got got' i n p transfers stall (no_room v t o) l = refl

stage_nowhere : (q : Pipeline) → IsPipeline q → (ch : ℕ) → ReceivesNowhere q ch → (c : Registers) (ports : Ports) (acts : ℕ → Act) (j : ℕ) → IsHeld q c j (acts j)
    → took q.proc.behavior.sites ch (in_stage q c ports j).transfers ≡ []
stage_nowhere q is ch nowhere c ports acts j stage_regs = go (cases (c.full j))
  where
    go : (c.full j ≡ true) ⊎ (c.full j ≡ false) → took q.proc.behavior.sites ch (in_stage q c ports j).transfers ≡ []
    go (inr f) = idle_takes q c ports ch j f
    go (inl f) =
        let s = in_stage q c ports j in
        let at = is_inside q c acts j stage_regs f in
        let u = at.until in let z = at.all in
        takes_nowhere q is ch nowhere ports (acts j).state (acts j).got s.got (acts j).place (first q (suc j) - (acts j).place) s.place s.transfers s.stall (goes_on q c ports acts j stage_regs f) (omega arith)

nowhere_from : (q : Pipeline) → IsPipeline q → (ch : ℕ) → ReceivesNowhere q ch → (cycles : List Ports) (since : Since) (k : ℕ) (past : Past) → Stands q since k past → since.received ch ≡ []
    → (after_cycles q since cycles).received ch ≡ []
nowhere_from q is ch nowhere [] since k past st e = e
nowhere_from q is ch nowhere (ports ∷ more) since k past st e =
    let none = each_takes_none q since.contents ports ch (λ j l. stage_nowhere q is ch nowhere since.contents ports past.acts j (st.stage_regs j l)) q.stages 0 (omega arith) in
    let opened_transfers : transfers_in q since.contents ports ≡ transfers_of q since.contents ports 0 q.stages = transfers_are q since.contents ports in
    nowhere_from q is ch nowhere more (one_more q since ports) (suc k) _ (stands_next q is since k past st ports)
    (ap (λ d. since.received ch ++ took q.proc.behavior.sites ch d) opened_transfers ∙ (rw (e, none) refl))

pub nothing_is_received_without_a_site : (q : Pipeline) → IsPipeline q → (cycles : List Ports) (chan : ℕ) → ReceivesNowhere q chan → (after_cycles q (at_reset q) cycles).received chan ≡ []
nothing_is_received_without_a_site q is cycles chan nowhere = nowhere_from q is chan nowhere cycles (at_reset q) 0 (past_at_reset q) (stands_at_reset q is) refl
