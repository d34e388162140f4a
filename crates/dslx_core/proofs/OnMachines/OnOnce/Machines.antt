-- Each step of the machine keeps that each instance of its table stands once.
use Rattle.std.proofs.Common.{◌≡◌, ℕ, zero, suc, true, not, List, [], ◌∷◌, length, Option, Some, None, refl, sym, subst}
use Rattle.std.specs.Prelude.{nat_lt}
use Rattle.std.specs.Option.{is_some}
use mathlib.Core.Bool.{true≢false}
use Rattle.dslx_meaning.specs.Lists.{and_then}
use Rattle.dslx_core.proofs.Lemmas.Typing.Typed.{same_some}
use Rattle.dslx_core.specs.Lowering.Functions.{Instantiated}
use Rattle.dslx_core.specs.Machines.Machine.Tasks.{LowerTask, OpenBody, OpenInstance, InstanceMachine, InstanceEnv}
use Rattle.dslx_core.specs.Machines.Machine.Bodies.{behind}
use Rattle.dslx_core.specs.Machines.Machine.Machines.{after_steps, by_opened, closes, in_instance, in_root, instance_done, instance_open, instance_stepped, is_done, last_made, machine_at, machine_stepped, missing_for, opens, root_stepped, with_done}
use Rattle.dslx_core.specs.Machines.Machine.Steps.{instance_of, stepped}
use Rattle.dslx_core.proofs.Lemmas.Machines.Machine.Options.{from_then, from_where}
use Rattle.dslx_core.specs.Machines.Once.Once.{OccursOnce}
use Rattle.dslx_core.proofs.OnMachines.OnOnce.Tables.{one_more}

abbrev EachOnce : InstanceMachine → Type 0
EachOnce m = OccursOnce m.context.table

as_machine : (m r : InstanceMachine) → Some m ≡ Some r → EachOnce m → EachOnce r
as_machine m r e once = subst EachOnce (same_some m r e) once

opens_once : (i : Instantiated) (m r : InstanceMachine) → EachOnce m → opens i m ≡ Some r → EachOnce r
opens_once i m r once e =
    let next : OpenInstance → InstanceMachine = λ o. record { context = m.context; limit = m.limit; root = m.root; opened = o ∷ m.opened } in
    let a = from_where (nat_lt (length m.opened) m.limit) (and_then (instance_open m.context i) (λ o. Some (next o))) r e in
    let o = from_then (instance_open m.context i) (λ o. Some (next o)) r a.1 in
    as_machine (next o.0) r o.2 once

-- none of this name and these parametric arguments is there
isnt_done : (context : InstanceEnv) (i : Instantiated) → not (is_done context i) ≡ true → instance_of context i ≡ None
isnt_done context i e = by (instance_of context i) e
  where
    by : {A : Type 0} (o : Option A) → not (is_some o) ≡ true → o ≡ None
    by None e = refl
    by (Some a) e = absurd (true≢false (sym e))

closes_once : (o : OpenInstance) (rest : List OpenInstance) (m r : InstanceMachine) → EachOnce m → closes o rest m ≡ Some r → EachOnce r
closes_once o rest m r once h =
    let next : InstanceEnv → InstanceMachine = λ context. record { context = context; limit = m.limit; root = m.root; opened = rest } in
    let made = from_where (not (is_done m.context o.instance)) (and_then (last_made o.body.made) (λ e. Some (next (with_done m.context (instance_done o e))))) r h in
    let e = from_then (last_made o.body.made) (λ e. Some (next (with_done m.context (instance_done o e)))) r made.1 in
    as_machine (next (with_done m.context (instance_done o e.0))) r e.2 (one_more m.context.table (instance_done o e.0) once (isnt_done m.context o.instance made.0))

in_root_once : (i : Option Instantiated) (d : LowerTask) (todo : List LowerTask) (m r : InstanceMachine) → EachOnce m → in_root i d todo m ≡ Some r → EachOnce r
in_root_once (Some i) d todo m r once e = opens_once i m r once e
in_root_once None d todo m r once e =
    let next : OpenBody → InstanceMachine = λ body. record { context = m.context; limit = m.limit; root = body; opened = m.opened } in
    let b = from_then (stepped d m.context (behind todo m.root)) (λ body. Some (next body)) r e in
    as_machine (next b.0) r b.2 once

root_once : (todo : List LowerTask) (m r : InstanceMachine) → EachOnce m → root_stepped todo m ≡ Some r → EachOnce r
root_once [] m r once e = as_machine m r e once
root_once (d ∷ todo) m r once e = in_root_once (missing_for d m.context) d todo m r once e

in_instance_once : (i : Option Instantiated) (d : LowerTask) (todo : List LowerTask) (o : OpenInstance) (rest : List OpenInstance) (m r : InstanceMachine)
    → EachOnce m → in_instance i d todo o rest m ≡ Some r → EachOnce r
in_instance_once (Some i) d todo o rest m r once e = opens_once i m r once e
in_instance_once None d todo o rest m r once e =
    let next : OpenBody → InstanceMachine =
    λ body. record { context = m.context; limit = m.limit; root = m.root; opened = record { instance = o.instance; arguments = o.arguments; body = body } ∷ rest } in
    let b = from_then (stepped d m.context (behind todo o.body)) (λ body. Some (next body)) r e in
    as_machine (next b.0) r b.2 once

instance_once : (todo : List LowerTask) (o : OpenInstance) (rest : List OpenInstance) (m r : InstanceMachine) → EachOnce m → instance_stepped todo o rest m ≡ Some r → EachOnce r
instance_once [] o rest m r once e = closes_once o rest m r once e
instance_once (d ∷ todo) o rest m r once e = in_instance_once (missing_for d m.context) d todo o rest m r once e

opened_once : (opened : List OpenInstance) (m r : InstanceMachine) → EachOnce m → by_opened opened m ≡ Some r → EachOnce r
opened_once [] m r once e = root_once m.root.todo m r once e
opened_once (o ∷ rest) m r once e = instance_once o.body.todo o rest m r once e

steps_once : (n : ℕ) (m r : InstanceMachine) → EachOnce m → after_steps n m ≡ Some r → EachOnce r
steps_once zero m r once e = as_machine m r e once
steps_once (suc n) m r once e =
    let next = from_then (machine_stepped m) (after_steps n) r e in
    steps_once n next.0 r (opened_once m.opened m next.0 once next.1) next.2

pub machine_once : (context : InstanceEnv) → OccursOnce context.table → (limit n : ℕ) (root : OpenBody) (m : InstanceMachine) → after_steps n (machine_at context limit root) ≡ Some m → OccursOnce m.context.table
machine_once context once limit n root m e = steps_once n (machine_at context limit root) m once e
