-- One activation has the turn, and where the activations stand after a cycle.
use Rattle.std.proofs.Common.{◌≡◌, ℕ, zero, suc, ◌<◌, ◌≤◌, [], refl, sym, ap, ◌∙◌, subst, arith, cond, true, false, Bool}
use Rattle.std.specs.Prelude.{◌||◌, ◌&&◌, not, ◌⊎◌}
use Rattle.std.proofs.Common.{inl, inr}
use Rattle.std.proofs.lemmas.Bool.{cases_lt}
use Rattle.block_stage.specs.Machine.Pipeline.{Pipeline, IsPipeline}
use Rattle.block_stage.specs.Machine.Cycle.{Ports, Registers, brought, in_stage, moves, after_cycle}
use Rattle.block_stage.proofs.OnMachine.Choices.{or_false, or_kept}
use Rattle.block_stage.proofs.OnMachine.Moves.{moving, next_is_free, still}
use Rattle.block_stage.proofs.OnMachine.Holding.{Act, IsHeld, IsClean, walked, holds_on, comes_in, begins, cleared_by_moving, clean_stays}

-- of the stages in which an activation has the turn, one holds an activation
pub record HasTurn (q : Pipeline) (c : Registers) (open_stage : ℕ) : Type 0 where
  pub within : open_stage ≤ q.last
  pub here : c.full open_stage ≡ true
  pub alone : (j : ℕ) → j ≤ q.last → (j ≡ open_stage → ⊥) → c.full j ≡ false

-- the activation that begins when the turn comes back
abbrev pub beginning : Pipeline → Registers → Ports → Act
beginning q c ports = record { state = q.proc.behavior.next_state (brought c q.last).state (in_stage q c ports q.last).got; got = []; place = 0 }

abbrev pub acts_after : Pipeline → Registers → Ports → (ℕ → Act) → ℕ → Act
acts_after q c ports acts zero = cond (moves q c ports q.last) (beginning q c ports) (walked (acts 0) (in_stage q c ports 0))
acts_after q c ports acts (suc j) = cond (moves q c ports j) (walked (acts j) (in_stage q c ports j)) (walked (acts (suc j)) (in_stage q c ports (suc j)))

-- the stage in which an activation has the turn after a cycle
abbrev pub open_after : Pipeline → Registers → Ports → ℕ → ℕ
open_after q c ports o = cond (moves q c ports q.last) 0 (cond (moves q c ports o) (suc o) o)

pub full_zero : (q : Pipeline) (c : Registers) (ports : Ports) → (after_cycle q c ports).full 0 ≡ (moves q c ports q.last || (c.full 0 && not (moves q c ports 0)))
unfolding after_cycle
full_zero q c ports = refl

pub full_suc : (q : Pipeline) (c : Registers) (ports : Ports) (j : ℕ) → (after_cycle q c ports).full (suc j) ≡ (moves q c ports j || (c.full (suc j) && not (moves q c ports (suc j))))
unfolding after_cycle
full_suc q c ports j = refl

same_zero : (q : Pipeline) (c : Registers) (ports : Ports) → moves q c ports q.last ≡ false → brought (after_cycle q c ports) 0 ≡ brought c 0
unfolding after_cycle
same_zero q c ports e = rw e

same_suc : (q : Pipeline) (c : Registers) (ports : Ports) (j : ℕ) → moves q c ports j ≡ false → brought (after_cycle q c ports) (suc j) ≡ brought c (suc j)
unfolding after_cycle
same_suc q c ports j e = rw e

next_begins : (q : Pipeline) (c : Registers) (ports : Ports) → moves q c ports q.last ≡ true
    → (after_cycle q c ports).state ≡ q.proc.behavior.next_state (brought c q.last).state (in_stage q c ports q.last).got
unfolding after_cycle
next_begins q c ports e = rw e

pub cases : (x : Bool) → (x ≡ true) ⊎ (x ≡ false)
cases true = inl refl
cases false = inr refl

-- a stage into which nothing moves
settles : (q : Pipeline) → IsPipeline q → (c : Registers) (ports : Ports) (j : ℕ) (act : Act) → IsHeld q c j act
    → (after_cycle q c ports).full j ≡ (c.full j && not (moves q c ports j)) → brought (after_cycle q c ports) j ≡ brought c j
    → IsHeld q (after_cycle q c ports) j (walked act (in_stage q c ports j))
settles q is c ports j act stage_regs e same = go (cases (c.full j)) (cases (moves q c ports j))
  where
    go : ((c.full j ≡ true) ⊎ (c.full j ≡ false)) → ((moves q c ports j ≡ true) ⊎ (moves q c ports j ≡ false)) → IsHeld q (after_cycle q c ports) j (walked act (in_stage q c ports j))
    go (inr f) m = record { full = λ t. absurd (let x = rw f at e in cc); free = λ t. clean_stays q is c ports j f (stage_regs.free f) }
    go (inl f) (inl m) = record { full = λ t. absurd (let x = rw (f, m) at e in cc); free = λ t. cleared_by_moving q is c ports j m }
    go (inl f) (inr m) = record { full = λ t. holds_on q is c ports j act f (stage_regs.full f) m same; free = λ t. absurd (let x = rw (f, m) at e in cc) }

-- the stage in which an activation has the turn moves alone
pub moves_alone : (q : Pipeline) (c : Registers) (ports : Ports) (o : ℕ) → HasTurn q c o → (j : ℕ) → j ≤ q.last → moves q c ports j ≡ true → j ≡ o
moves_alone q c ports o turn j l m = go (nat_eq_cases j o)
  where
    nat_eq_cases : (j o : ℕ) → (j ≡ o) ⊎ (j ≡ o → ⊥)
    nat_eq_cases j o = split (cases_lt j o) (cases_lt o j)
      where
        split : ((j < o) ⊎ (o ≤ j)) → ((o < j) ⊎ (j ≤ o)) → (j ≡ o) ⊎ (j ≡ o → ⊥)
        split (inl a) b = inr (λ e. omega arith)
        split (inr a) (inl b) = inr (λ e. omega arith)
        split (inr a) (inr b) = inl (omega arith)

    go : (j ≡ o) ⊎ (j ≡ o → ⊥) → j ≡ o
    go (inl e) = e
    go (inr ne) = absurd (let f = turn.alone j l ne in let g = (moving q c ports j m).full in cc)

pub same_number : (j o : ℕ) → (j ≡ o) ⊎ (j ≡ o → ⊥)
same_number j o = split (cases_lt j o) (cases_lt o j)
  where
    split : ((j < o) ⊎ (o ≤ j)) → ((o < j) ⊎ (j ≤ o)) → (j ≡ o) ⊎ (j ≡ o → ⊥)
    split (inl a) b = inr (λ e. omega arith)
    split (inr a) (inl b) = inr (λ e. omega arith)
    split (inr a) (inr b) = inl (omega arith)

clean_zero : (q : Pipeline) → IsPipeline q → (c : Registers) (ports : Ports) (o : ℕ) (act : Act) → HasTurn q c o → IsHeld q c 0 act → moves q c ports q.last ≡ true
    → IsClean q (after_cycle q c ports) 0
clean_zero q is c ports o act turn stage_regs m = go (same_number 0 o)
  where
    last : q.last ≡ o
    last = moves_alone q c ports o turn q.last (omega arith) m

    go : (0 ≡ o) ⊎ (0 ≡ o → ⊥) → IsClean q (after_cycle q c ports) 0
    go (inl e) = cleared_by_moving q is c ports 0 (subst (λ x. moves q c ports x ≡ true) (omega (arith, last)) m)
    go (inr ne) = let f = turn.alone 0 (omega arith) ne in clean_stays q is c ports 0 f (stage_regs.free f)

held_zero : (q : Pipeline) → IsPipeline q → (c : Registers) (ports : Ports) (acts : ℕ → Act) (o : ℕ) → HasTurn q c o → IsHeld q c 0 (acts 0)
    → IsHeld q (after_cycle q c ports) 0 (acts_after q c ports acts 0)
held_zero q is c ports acts o turn stage_regs = go (cases (moves q c ports q.last))
  where
    go : (moves q c ports q.last ≡ true) ⊎ (moves q c ports q.last ≡ false) → IsHeld q (after_cycle q c ports) 0 (acts_after q c ports acts 0)
    go (inl m) = subst (λ x. IsHeld q (after_cycle q c ports) 0 (cond x (beginning q c ports) (walked (acts 0) (in_stage q c ports 0)))) (sym m) (record {
      full = λ t. begins q is (after_cycle q c ports) (q.proc.behavior.next_state (brought c q.last).state (in_stage q c ports q.last).got) (next_begins q c ports m) (clean_zero q is c ports o (acts 0) turn stage_regs m);
      free = λ t. absurd (let x = full_zero q c ports in let y = rw m at x in cc);
    })
    go (inr m) = subst (λ x. IsHeld q (after_cycle q c ports) 0 (cond x (beginning q c ports) (walked (acts 0) (in_stage q c ports 0)))) (sym m)
        (settles q is c ports 0 (acts 0) stage_regs (full_zero q c ports ∙ (rw m refl)) (same_zero q c ports m))

clean_suc : (q : Pipeline) → IsPipeline q → (c : Registers) (ports : Ports) (j : ℕ) (act : Act) → IsHeld q c (suc j) act → suc j < q.stages → moves q c ports j ≡ true
    → IsClean q (after_cycle q c ports) (suc j)
clean_suc q is c ports j act stage_regs l m = go (cases (c.full (suc j)))
  where
    go : (c.full (suc j) ≡ true) ⊎ (c.full (suc j) ≡ false) → IsClean q (after_cycle q c ports) (suc j)
    go (inl f) = cleared_by_moving q is c ports (suc j) (next_is_free q c ports j l m f)
    go (inr f) = clean_stays q is c ports (suc j) f (stage_regs.free f)

held_suc : (q : Pipeline) → IsPipeline q → (c : Registers) (ports : Ports) (acts : ℕ → Act) (j : ℕ) → suc j < q.stages → IsHeld q c j (acts j) → IsHeld q c (suc j) (acts (suc j))
    → IsHeld q (after_cycle q c ports) (suc j) (acts_after q c ports acts (suc j))
held_suc q is c ports acts j l before stage_regs = go (cases (moves q c ports j))
  where
    go : (moves q c ports j ≡ true) ⊎ (moves q c ports j ≡ false) → IsHeld q (after_cycle q c ports) (suc j) (acts_after q c ports acts (suc j))
    go (inl m) = subst (λ x. IsHeld q (after_cycle q c ports) (suc j) (cond x (walked (acts j) (in_stage q c ports j)) (walked (acts (suc j)) (in_stage q c ports (suc j))))) (sym m) (record {
      full = λ t. comes_in q is c ports j (acts j) m (before.full (moving q c ports j m).full) (clean_suc q is c ports j (acts (suc j)) stage_regs l m);
      free = λ t. absurd (let x = full_suc q c ports j in let y = rw m at x in cc);
    })
    go (inr m) = subst (λ x. IsHeld q (after_cycle q c ports) (suc j) (cond x (walked (acts j) (in_stage q c ports j)) (walked (acts (suc j)) (in_stage q c ports (suc j))))) (sym m)
        (settles q is c ports (suc j) (acts (suc j)) stage_regs (full_suc q c ports j ∙ (rw m refl)) (same_suc q c ports j m))

-- the registers hold the activations after a cycle too
pub held_next : (q : Pipeline) → IsPipeline q → (c : Registers) (ports : Ports) (acts : ℕ → Act) (o : ℕ) → HasTurn q c o → ((j : ℕ) → j < q.stages → IsHeld q c j (acts j))
    → (j : ℕ) → j < q.stages → IsHeld q (after_cycle q c ports) j (acts_after q c ports acts j)
held_next q is c ports acts o turn stage_regs zero l = held_zero q is c ports acts o turn (stage_regs 0 l)
held_next q is c ports acts o turn stage_regs (suc j) l = held_suc q is c ports acts j l (stage_regs j (omega arith)) (stage_regs (suc j) l)

-- a stage of the turn into which nothing moves is free afterwards, unless it keeps its activation
empties : (q : Pipeline) (c : Registers) (ports : Ports) (o : ℕ) → HasTurn q c o → (j : ℕ) → j ≤ q.last → (j ≡ o → moves q c ports j ≡ true) → (c.full j && not (moves q c ports j)) ≡ false
empties q c ports o turn j l h = go (same_number j o)
  where
    and_not : (x y : Bool) → y ≡ true → (x && not y) ≡ false
    and_not true y e = rw e
    and_not false y e = refl

    go : (j ≡ o) ⊎ (j ≡ o → ⊥) → (c.full j && not (moves q c ports j)) ≡ false
    go (inl e) = and_not (c.full j) _ (h e)
    go (inr ne) = let f = turn.alone j l ne in rw f

keeps_still : (q : Pipeline) (c : Registers) (ports : Ports) (o : ℕ) → HasTurn q c o → (j : ℕ) → j ≤ q.last → (j ≡ o → ⊥) → moves q c ports j ≡ false
keeps_still q c ports o turn j l ne = still q c ports j (turn.alone j l ne)

turn_back : (q : Pipeline) (c : Registers) (ports : Ports) (o : ℕ) → HasTurn q c o → moves q c ports q.last ≡ true → HasTurn q (after_cycle q c ports) 0
turn_back q c ports o turn m = record { within = omega arith; here = full_zero q c ports ∙ (rw m refl); alone = alone }
  where
    last : q.last ≡ o
    last = moves_alone q c ports o turn q.last (omega arith) m

    alone : (j : ℕ) → j ≤ q.last → (j ≡ 0 → ⊥) → (after_cycle q c ports).full j ≡ false
    alone zero l ne = absurd (ne refl)
    alone (suc k) l ne = full_suc q c ports k ∙ or_false _ _ (keeps_still q c ports o turn k (omega arith) (λ e. omega (arith, last)))
        (empties q c ports o turn (suc k) l (λ e. subst (λ x. moves q c ports x ≡ true) (omega (arith, last)) m))

turn_on : (q : Pipeline) (c : Registers) (ports : Ports) (o : ℕ) → HasTurn q c o → moves q c ports q.last ≡ false → moves q c ports o ≡ true → HasTurn q (after_cycle q c ports) (suc o)
turn_on q c ports o turn m mo = record { within = within (same_number o q.last); here = full_suc q c ports o ∙ (rw mo refl); alone = alone }
  where
    within : (o ≡ q.last) ⊎ (o ≡ q.last → ⊥) → suc o ≤ q.last
    within (inl e) = absurd (let x = rw e at mo in cc)
    within (inr ne) = let w = turn.within in omega arith

    alone : (j : ℕ) → j ≤ q.last → (j ≡ suc o → ⊥) → (after_cycle q c ports).full j ≡ false
    alone zero l ne = full_zero q c ports ∙ or_false _ _ m (empties q c ports o turn 0 l (λ e. rw (sym e) at mo))
    alone (suc k) l ne = full_suc q c ports k ∙ or_false _ _ (keeps_still q c ports o turn k (omega arith) (λ e. ne (ap suc e)))
        (empties q c ports o turn (suc k) l (λ e. rw (sym e) at mo))

turn_stays : (q : Pipeline) (c : Registers) (ports : Ports) (o : ℕ) → HasTurn q c o → moves q c ports q.last ≡ false → moves q c ports o ≡ false → HasTurn q (after_cycle q c ports) o
turn_stays q c ports o turn m mo = record { within = turn.within; here = here o refl; alone = alone }
  where
    here : (j : ℕ) → o ≡ j → (after_cycle q c ports).full j ≡ true
    here zero e = full_zero q c ports ∙ or_kept _ _ _ (rw e at turn.here) (rw e at mo)
    here (suc k) e = full_suc q c ports k ∙ or_kept _ _ _ (rw e at turn.here) (rw e at mo)

    stopped : (k : ℕ) → k ≤ q.last → (k ≡ o) ⊎ (k ≡ o → ⊥) → moves q c ports k ≡ false
    stopped k l (inl e) = rw (sym e) at mo
    stopped k l (inr ne) = keeps_still q c ports o turn k l ne

    alone : (j : ℕ) → j ≤ q.last → (j ≡ o → ⊥) → (after_cycle q c ports).full j ≡ false
    alone zero l ne = full_zero q c ports ∙ or_false _ _ m (empties q c ports o turn 0 l (λ e. absurd (ne e)))
    alone (suc k) l ne = full_suc q c ports k ∙ or_false _ _ (stopped k (omega arith) (same_number k o)) (empties q c ports o turn (suc k) l (λ e. absurd (ne e)))

-- one activation has the turn after a cycle too
pub turn_next : (q : Pipeline) (c : Registers) (ports : Ports) (o : ℕ) → HasTurn q c o → HasTurn q (after_cycle q c ports) (open_after q c ports o)
turn_next q c ports o turn = go (cases (moves q c ports q.last)) (cases (moves q c ports o))
  where
    go : (moves q c ports q.last ≡ true) ⊎ (moves q c ports q.last ≡ false) → (moves q c ports o ≡ true) ⊎ (moves q c ports o ≡ false) → HasTurn q (after_cycle q c ports) (open_after q c ports o)
    go (inl m) mo = subst (λ x. HasTurn q (after_cycle q c ports) (cond x 0 (cond (moves q c ports o) (suc o) o))) (sym m) (turn_back q c ports o turn m)
    go (inr m) (inl mo) = subst (λ x. HasTurn q (after_cycle q c ports) (cond x 0 (cond (moves q c ports o) (suc o) o))) (sym m)
        (subst (λ x. HasTurn q (after_cycle q c ports) (cond x (suc o) o)) (sym mo) (turn_on q c ports o turn m mo))
    go (inr m) (inr mo) = subst (λ x. HasTurn q (after_cycle q c ports) (cond x 0 (cond (moves q c ports o) (suc o) o))) (sym m)
        (subst (λ x. HasTurn q (after_cycle q c ports) (cond x (suc o) o)) (sym mo) (turn_stays q c ports o turn m mo))

-- and this is it
pub act_next : (q : Pipeline) (c : Registers) (ports : Ports) (acts : ℕ → Act) (o : ℕ) → HasTurn q c o
    → acts_after q c ports acts (open_after q c ports o) ≡ cond (moves q c ports q.last) (beginning q c ports) (walked (acts o) (in_stage q c ports o))
act_next q c ports acts o turn = go (cases (moves q c ports q.last)) (cases (moves q c ports o))
  where
    stays : (k : ℕ) → o ≡ suc k → moves q c ports k ≡ false
    stays k e = let w = turn.within in keeps_still q c ports o turn k (omega arith) (λ x. omega arith)

    kept : (j : ℕ) → o ≡ j → moves q c ports q.last ≡ false → acts_after q c ports acts j ≡ walked (acts j) (in_stage q c ports j)
    kept zero e m = rw m refl
    kept (suc k) e m = let s = stays k e in rw s refl

    go : (moves q c ports q.last ≡ true) ⊎ (moves q c ports q.last ≡ false) → (moves q c ports o ≡ true) ⊎ (moves q c ports o ≡ false)
        → acts_after q c ports acts (open_after q c ports o) ≡ cond (moves q c ports q.last) (beginning q c ports) (walked (acts o) (in_stage q c ports o))
    go (inl m) mo = rw m (rw m refl)
    go (inr m) (inl mo) = rw (m, mo) (rw mo refl)
    go (inr m) (inr mo) = rw (m, mo) (kept o refl m)
