-- How an instance is closed.
use Rattle.std.proofs.Common.{◌≡◌, Bool, true, false, not, List, [], ◌∷◌, ◌++◌, Option, Some, None, if◌then◌else◌, refl, sym, ap, ◌∙◌}
use Rattle.std.specs.Prelude.{is_some}
use Rattle.dslx_meaning.specs.Lists.{and_then, where_true}
use Rattle.dslx_core.specs.Lowering.Functions.{CoreInstance, instance_in}
use Rattle.dslx_core.specs.Lowering.Lowering.{LoweredExpr}
use Rattle.dslx_core.proofs.Lemmas.Typing.Typed.{none_some, same_some}
use Rattle.dslx_core.specs.Machines.Machine.Machines.{closes, instance_done, is_done, last_made}
use Rattle.dslx_core.specs.Machines.Machine.Tasks.{InstanceMachine, InstanceEnv, OpenInstance}

-- a machine with another table and these instances open
abbrev pub moved_on : List CoreInstance → List OpenInstance → InstanceMachine → InstanceMachine
moved_on table rest m = record { context = record { text = m.context.text; items = m.context.items; table = table }; limit = m.limit; root = m.root; opened = rest }

nothing : {A : Type 0} (b : Bool) → where_true {A = A} b None ≡ None
nothing true = refl
nothing false = refl

-- nothing was made of its body
pub closes_without : (o : OpenInstance) (rest : List OpenInstance) (m : InstanceMachine)
    → None ≡ and_then (last_made o.body.made) (λ e. Some (instance_done o e)) → None ≡ closes o rest m
closes_without o rest m h = by (last_made o.body.made) h
  where
    by : (l : Option LoweredExpr) → None ≡ and_then l (λ e. Some (instance_done o e))
        → None ≡ where_true (not (is_done m.context o.instance)) (and_then l (λ e. Some (moved_on (m.context.table ++ instance_done o e ∷ []) rest m)))
    by None h = sym (nothing (not (is_done m.context o.instance)))
    by (Some e) h = none_some (instance_done o e) h

-- this was made of it, and it is put into the table where it isn't there
pub closes_with : (o : OpenInstance) (rest : List OpenInstance) (m : InstanceMachine) (c : CoreInstance) (new : Bool) (table : List CoreInstance)
    → Some c ≡ and_then (last_made o.body.made) (λ e. Some (instance_done o e)) → new ≡ not (is_some (instance_in c.name c.parametric_args 0 m.context.table))
    → table ≡ (if new then m.context.table ++ c ∷ [] else m.context.table) → where_true new (Some (moved_on table rest m)) ≡ closes o rest m
closes_with o rest m c new table h is put = by (last_made o.body.made) h
  where
    placed : (e : LoweredExpr) (b : Bool) (t : List CoreInstance) → b ≡ not (is_done m.context o.instance) → t ≡ (if b then m.context.table ++ instance_done o e ∷ [] else m.context.table)
        → where_true b (Some (moved_on t rest m)) ≡ where_true (not (is_done m.context o.instance)) (Some (moved_on (m.context.table ++ instance_done o e ∷ []) rest m))
    placed e true t b k = ap (λ x. where_true x (Some (moved_on t rest m))) b ∙ ap (λ x. where_true (not (is_done m.context o.instance)) (Some (moved_on x rest m))) k
    placed e false t b k = ap (λ x. where_true x (Some (moved_on (m.context.table ++ instance_done o e ∷ []) rest m))) b

    by : (l : Option LoweredExpr) → Some c ≡ and_then l (λ e. Some (instance_done o e))
        → where_true new (Some (moved_on table rest m)) ≡ where_true (not (is_done m.context o.instance)) (and_then l (λ e. Some (moved_on (m.context.table ++ instance_done o e ∷ []) rest m)))
    by None h = none_some c (sym h)
    by (Some e) h =
        let same = same_some c (instance_done o e) h in
        placed e new table (is ∙ ap (λ (i : CoreInstance). not (is_some (instance_in i.name i.parametric_args 0 m.context.table))) same)
        (put ∙ ap (λ (i : CoreInstance). if new then m.context.table ++ i ∷ [] else m.context.table) same)
