-- Where the activation of each stage stands, and that the registers hold it from cycle to cycle.
use Rattle.std.proofs.Common.{◌≡◌, ℕ, suc, ◌-◌, ◌<◌, ◌≤◌, List, [], refl, sym, ap, ◌∙◌, subst, arith, true, false, Bool}
use Rattle.std.specs.Prelude.{◌||◌, ◌&&◌, not}
use Rattle.std.proofs.Common.{inl, inr}
use Rattle.std.specs.List.{list_any}
use Rattle.xb_bits.specs.Word.{Word}
use Rattle.xb_value.specs.declared.value.Value.{Value}
use Rattle.block_stage.specs.Machine.Pipeline.{Pipeline, IsPipeline, first}
use Rattle.block_stage.specs.Machine.Cycle.{Ports, StageEntry, Registers, brought, Walk, walk, in_stage, moves, is_at, kept_after, after_cycle}
use Rattle.block_stage.proofs.OnMachine.Walks.{IsGoing, walk_goes, passes_all, place_range, nothing_outside}
use Rattle.block_stage.proofs.OnMachine.Fronts.{IsDone, none, done_range, done_then, done_walk, done_stays, goes_done, kept_stays}
use Rattle.block_stage.proofs.OnMachine.Stages.{stage_at, first_grows, first_zero}
use Rattle.block_stage.proofs.OnMachine.Moves.{moving, idle}

-- an activation in a stage: the state in which it began, the words received by now, and the next site
pub record Act : Type 0 where
  pub state : Value
  pub got : List Word
  pub place : ℕ

-- it stands behind the stage's done sites
pub record Holds (q : Pipeline) (c : Registers) (j : ℕ) (act : Act) : Type 0 where
  pub state : (brought c j).state ≡ act.state
  pub done : IsDone q.proc.behavior c.done c.kept act.state (brought c j).got (first q j) act.got act.place
  pub until : act.place ≤ first q (suc j)
  pub undone : (k : ℕ) → act.place ≤ k → k < first q (suc j) → c.done k ≡ false

-- no site of a stage is done
abbrev pub IsClean : Pipeline → Registers → ℕ → Type 0
IsClean q c j = (k : ℕ) → first q j ≤ k → k < first q (suc j) → c.done k ≡ false

pub record IsHeld (q : Pipeline) (c : Registers) (j : ℕ) (act : Act) : Type 0 where
  pub full : c.full j ≡ true → Holds q c j act
  pub free : c.full j ≡ false → IsClean q c j

pub stage_walk : (q : Pipeline) (c : Registers) (ports : Ports) (j : ℕ) → c.full j ≡ true
    → in_stage q c ports j ≡ walk q.proc.behavior c.done c.kept ports (brought c j).state (brought c j).got (first q j) (first q (suc j) - first q j)
unfolding in_stage
stage_walk q c ports j f = rw f

-- the walk of a stage goes on from where its activation stands
pub stage_goes : (q : Pipeline) (c : Registers) (ports : Ports) (j : ℕ) (act : Act) → c.full j ≡ true → Holds q c j act
    → IsGoing q.proc.behavior ports act.state act.got act.place (first q (suc j) - act.place) (in_stage q c ports j)
stage_goes q c ports j act f h =
    let e = h.state in
    let u = h.until in
    let r = done_range q.proc.behavior c.done c.kept act.state (brought c j).got act.got (first q j) act.place h.done in
    let on = done_walk q.proc.behavior c.done c.kept ports act.state (brought c j).got act.got (first q j) act.place h.done (first q (suc j) - first q j) (first q (suc j) - act.place) (omega arith) in
    let is : in_stage q c ports j ≡ walk q.proc.behavior c.done c.kept ports act.state act.got act.place (first q (suc j) - act.place) =
    stage_walk q c ports j f ∙ ap (λ s. walk q.proc.behavior c.done c.kept ports s (brought c j).got (first q j) (first q (suc j) - first q j)) e ∙ on in
    subst (IsGoing q.proc.behavior ports act.state act.got act.place (first q (suc j) - act.place)) (sym is)
    (walk_goes q.proc.behavior c.done c.kept ports act.state act.got act.place (first q (suc j) - act.place) (λ k l r. h.undone k l (omega arith)))

-- where the walk of a stage has left its activation
abbrev pub walked : Act → Walk → Act
walked act w = record { state = act.state; got = w.got; place = w.place }

and_false : (x : Bool) → (x && false) ≡ false
and_false true = refl
and_false false = refl

-- the done bit of a site after a cycle
done_after : (q : Pipeline) → IsPipeline q → (c : Registers) (ports : Ports) (j k : ℕ) → first q j ≤ k → k < first q (suc j)
    → (after_cycle q c ports).done k ≡ ((c.done k || list_any (is_at k) (in_stage q c ports j).transfers) && not (moves q c ports j))
unfolding after_cycle
done_after q is c ports j k l r = ap (λ s. (c.done k || list_any (is_at k) (in_stage q c ports s).transfers) && not (moves q c ports s)) (stage_at q is k j l r)

word_after : (q : Pipeline) → IsPipeline q → (c : Registers) (ports : Ports) (j k : ℕ) → first q j ≤ k → k < first q (suc j)
    → (after_cycle q c ports).kept k ≡ kept_after (c.kept k) k (in_stage q c ports j).transfers
unfolding after_cycle
word_after q is c ports j k l r = ap (λ s. kept_after (c.kept k) k (in_stage q c ports s).transfers) (stage_at q is k j l r)

-- a stage that moved has no done site
pub cleared_by_moving : (q : Pipeline) → IsPipeline q → (c : Registers) (ports : Ports) (j : ℕ) → moves q c ports j ≡ true → IsClean q (after_cycle q c ports) j
cleared_by_moving q is c ports j m k l r =
    done_after q is c ports j k l r ∙ (rw m (and_false (c.done k || list_any (is_at k) (in_stage q c ports j).transfers)))

-- nor has one that held no activation
pub clean_stays : (q : Pipeline) → IsPipeline q → (c : Registers) (ports : Ports) (j : ℕ) → c.full j ≡ false → IsClean q c j → IsClean q (after_cycle q c ports) j
clean_stays q is c ports j f clean k l r =
    let e = idle q c ports j f in
    let d = clean k l r in
    done_after q is c ports j k l r ∙ rw (e, d)

-- a stage keeps its activation
pub holds_on : (q : Pipeline) → IsPipeline q → (c : Registers) (ports : Ports) (j : ℕ) (act : Act) → c.full j ≡ true → Holds q c j act → moves q c ports j ≡ false
    → brought (after_cycle q c ports) j ≡ brought c j
    → Holds q (after_cycle q c ports) j (walked act (in_stage q c ports j))
holds_on q is c ports j act f h m same =
    let w = in_stage q c ports j in
    let n = first q (suc j) - act.place in
    let u = h.until in
    let go = stage_goes q c ports j act f h in
    let range = place_range q.proc.behavior ports act.state act.got w.got act.place n w.place w.transfers w.stall go in
    let from = done_range q.proc.behavior c.done c.kept act.state (brought c j).got act.got (first q j) act.place h.done in
    let a = range.0 in
    let z : w.place ≤ first q (suc j) = let y = range.1 in omega arith in
    record {
      state = ap (λ (x : StageEntry). x.state) same ∙ h.state;
      done = subst (λ x. IsDone q.proc.behavior (after_cycle q c ports).done (after_cycle q c ports).kept act.state x (first q j) w.got w.place) (sym (ap (λ (x : StageEntry). x.got) same))
          (done_then q.proc.behavior (after_cycle q c ports).done (after_cycle q c ports).kept act.state (brought c j).got act.got w.got (first q j) act.place w.place
          (done_stays q.proc.behavior c.done (after_cycle q c ports).done c.kept (after_cycle q c ports).kept act.state (brought c j).got act.got (first q j) act.place h.done
          (λ k l r d. (
            done_after q is c ports j k l (omega arith) ∙ rw (m, d),
            word_after q is c ports j k l (omega arith) ∙ kept_stays (c.kept k) k w.transfers
                (nothing_outside q.proc.behavior ports act.state act.got w.got act.place n w.place w.transfers w.stall go k (inl r)),
          )))
          (goes_done q.proc.behavior ports (after_cycle q c ports).done c.kept (after_cycle q c ports).kept act.state act.got w.got act.place n w.place w.transfers w.stall go
          (λ k l r d. done_after q is c ports j k (omega arith) (omega arith) ∙ both (c.done k) _ _ d m)
          (λ k l r. word_after q is c ports j k (omega arith) (omega arith))));
      until = z;
      undone = λ k l r. done_after q is c ports j k (omega arith) r ∙ none_of (c.done k) _ _ (h.undone k (omega arith) r) (nothing_outside q.proc.behavior ports act.state act.got w.got act.place n w.place w.transfers w.stall go k (inr l));
    }
  where
    both : (x y z : Bool) → y ≡ true → z ≡ false → ((x || y) && not z) ≡ true
    both true y z e f = rw f
    both false y z e f = rw (e, f)

    none_of : (x y z : Bool) → x ≡ false → y ≡ false → ((x || y) && not z) ≡ false
    none_of x y z e f = rw (e, f)

brought_in : (q : Pipeline) (c : Registers) (ports : Ports) (j : ℕ) → moves q c ports j ≡ true
    → brought (after_cycle q c ports) (suc j) ≡ record { state = (brought c j).state; got = (in_stage q c ports j).got }
unfolding after_cycle
brought_in q c ports j m = rw m

-- the activation that comes into a stage
pub comes_in : (q : Pipeline) → IsPipeline q → (c : Registers) (ports : Ports) (j : ℕ) (act : Act) → moves q c ports j ≡ true → Holds q c j act
    → IsClean q (after_cycle q c ports) (suc j)
    → Holds q (after_cycle q c ports) (suc j) (walked act (in_stage q c ports j))
comes_in q is c ports j act m h clean =
    let w = in_stage q c ports j in
    let n = first q (suc j) - act.place in
    let u = h.until in
    let mv = moving q c ports j m in
    let go = stage_goes q c ports j act mv.full h in
    let all : w.place ≡ first q (suc j) = let y = passes_all q.proc.behavior ports act.state act.got w.got act.place n w.place w.transfers w.stall go mv.stall in omega arith in
    let is_brought = brought_in q c ports j m in
    record {
      state = ap (λ (x : StageEntry). x.state) is_brought ∙ h.state;
      done = subst (λ x. IsDone q.proc.behavior (after_cycle q c ports).done (after_cycle q c ports).kept act.state x (first q (suc j)) w.got w.place) (sym (ap (λ (x : StageEntry). x.got) is_brought))
          (subst (λ x. IsDone q.proc.behavior (after_cycle q c ports).done (after_cycle q c ports).kept act.state w.got (first q (suc j)) w.got x) (sym all) none);
      until = let g = first_grows q is (suc j) (suc (suc j)) (omega arith) in omega arith;
      undone = λ k l r. clean k (omega arith) r;
    }

-- an activation begins in stage 0
pub begins : (q : Pipeline) → IsPipeline q → (c : Registers) (s : Value) → c.state ≡ s → IsClean q c 0 → Holds q c 0 (record { state = s; got = []; place = 0 })
begins q is c s e clean =
    let z = first_zero q is in
    record {
      state = e;
      done = subst (λ x. IsDone q.proc.behavior c.done c.kept s [] x [] 0) (sym z) none;
      until = omega arith;
      undone = λ k l r. clean k (omega arith) r;
    }
