-- Several steps of the machine, and one more.
use Rattle.std.proofs.Common.{◌≡◌, ℕ, zero, suc, Bool, true, false, Option, Some, None, refl, sym, ap, ◌∙◌}
use Rattle.dslx_meaning.specs.Lists.{and_then, where_true}
use Rattle.dslx_core.specs.Machines.Machine.Machines.{after_steps, machine_stepped}
use Rattle.dslx_core.specs.Machines.Machine.Tasks.{InstanceMachine}
use Rattle.dslx_core.specs.Machines.Machine.Reached.{HasEnded}
use Rattle.dslx_core.proofs.Lemmas.Typing.Typed.{none_some}
use Rattle.dslx_param.specs.Run.Runs.{MachineRuns, Ends, Lacks}

-- where it stands after so many steps
abbrev pub Reaches : InstanceMachine → InstanceMachine → Type 0
Reaches start m = (n : ℕ) × (after_steps n start ≡ Some m)

one_more : (n : ℕ) (start m r : InstanceMachine) → after_steps n start ≡ Some m → machine_stepped m ≡ Some r → after_steps (suc n) start ≡ Some r
one_more zero start m r h e = same_end (machine_stepped start) (ap (λ o. and_then o machine_stepped) h ∙ e)
  where
    same_end : (o : Option InstanceMachine) → o ≡ Some r → and_then o (λ s. Some s) ≡ Some r
    same_end None k = k
    same_end (Some s) k = k
one_more (suc n) start m r h e = by (λ s k. one_more n s m r k e) (machine_stepped start) h
  where
    by : ((s : InstanceMachine) → after_steps n s ≡ Some m → after_steps (suc n) s ≡ Some r) → (o : Option InstanceMachine)
        → and_then o (after_steps n) ≡ Some m → and_then o (after_steps (suc n)) ≡ Some r
    by go None h = none_some m h
    by go (Some s) h = go s h

-- one more
pub further : (start m r : InstanceMachine) → Reaches start m → machine_stepped m ≡ Some r → Reaches start r
further start m r h e = (suc h.0, one_more h.0 start m r h.1 e)

-- none
pub at_first : (start : InstanceMachine) → Reaches start start
at_first start = (zero, refl)

-- ---- as code has it

pub goes_on : (start m r : InstanceMachine) (is : Bool) → Reaches start m → where_true is (Some r) ≡ machine_stepped m → is ≡ true → Reaches start r
goes_on start m r is h e there = further start m r h (sym e ∙ ap (λ b. where_true b (Some r)) there)

pub ends : (start end : InstanceMachine) → Reaches start end → HasEnded end → MachineRuns start end true
ends start end h done = Ends h.0 h.1 done

pub lacks : (start m r end : InstanceMachine) (is : Bool) → Reaches start m → where_true is (Some r) ≡ machine_stepped m → is ≡ false → MachineRuns start end false
lacks start m r end is h e none = Lacks h.0 m h.1 (sym e ∙ ap (λ b. where_true b (Some r)) none)
