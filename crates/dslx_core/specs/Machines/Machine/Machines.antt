-- What each step of the machine does: it goes on in the instance that was opened last, closes it where nothing is left to be
-- done in it, or opens one that is needed first.
use Rattle.std.specs.Prelude.{ℕ, zero, suc, nat_lt, List, [], ◌∷◌, ◌++◌, length, Bool, not, is_some, Option, Some, None}
use Rattle.dslx_tree.specs.declared.item.Function.{Function}
use Rattle.dslx_meaning.specs.Items.{as_function, item_named, parametric_args_bound}
use Rattle.dslx_meaning.specs.Lists.{and_then, where_true}
use Rattle.dslx_core.specs.Lowering.CoreScopes.{BodyEnv, CoreScope}
use Rattle.dslx_core.specs.Lowering.Functions.{CoreInstance, Instantiated, argument_types, arguments_in_scope, instance_globals, parametric_args_are_well_typed, outer_scope}
use Rattle.dslx_core.specs.Lowering.Lowering.{LoweredExpr}
use Rattle.dslx_core.specs.Machines.Machine.Tasks as task
use Rattle.dslx_core.specs.Machines.Machine.Tasks.{LowerTask, OpenBody, OpenInstance, InstanceEnv, InstanceMachine}
use Rattle.dslx_core.specs.Machines.Machine.Bodies.{behind}
use Rattle.dslx_core.specs.Machines.Machine.Steps.{instance_of, stepped}

-- ---- an instance is opened

abbrev pub globals_of : InstanceEnv → Function → Instantiated → BodyEnv
globals_of context f i = instance_globals context.text context.items context.table f i.parametric_args

-- its body in a scope where its arguments are bound
abbrev pub body_open : Function → Instantiated → CoreScope → OpenBody
body_open f i scope = record {
  given = parametric_args_bound [] f.parametrics i.parametric_args;
  todo = task.LowersBlock f.body ∷ [];
  made = [];
  locals = scope.locals;
  count = scope.count;
}

abbrev pub function_open : BodyEnv → Function → Instantiated → Option OpenInstance
function_open known f i =
    where_true (parametric_args_are_well_typed known.items known.parametric_args)
    (and_then (argument_types known f.arguments) (λ ts.
    and_then (arguments_in_scope f.arguments ts (outer_scope known)) (λ scope. Some (record { instance = i; arguments = ts; body = body_open f i scope }))))

abbrev pub instance_open : InstanceEnv → Instantiated → Option OpenInstance
instance_open context i = and_then (as_function (item_named i.name context.text.items)) (λ f. function_open (globals_of context f i) f i)

abbrev pub opens : Instantiated → InstanceMachine → Option InstanceMachine
opens i m =
    where_true (nat_lt (length m.opened) m.limit) (and_then (instance_open m.context i) (λ o. Some (record { context = m.context; limit = m.limit; root = m.root; opened = o ∷ m.opened })))

-- ---- an instance is closed

abbrev pub last_made : List LoweredExpr → Option LoweredExpr
last_made [] = None
last_made (e ∷ made) = Some e

abbrev pub instance_done : OpenInstance → LoweredExpr → CoreInstance
instance_done o e = record { name = o.instance.name; parametric_args = o.instance.parametric_args; function = record { arguments = o.arguments; result = e.ty; body = e.core } }

-- one more instance is done
abbrev pub with_done : InstanceEnv → CoreInstance → InstanceEnv
with_done context c = record { text = context.text; items = context.items; table = context.table ++ c ∷ [] }

-- whether it is done
abbrev pub is_done : InstanceEnv → Instantiated → Bool
is_done context i = is_some (instance_of context i)

-- it goes to the end of the table, unless it is there: so the table has one instance for each name and parametric arguments
abbrev pub closes : OpenInstance → List OpenInstance → InstanceMachine → Option InstanceMachine
closes o rest m =
    where_true (not (is_done m.context o.instance))
    (and_then (last_made o.body.made) (λ e. Some (record { context = with_done m.context (instance_done o e); limit = m.limit; root = m.root; opened = rest })))

-- ---- one step

-- the instance that a task needs
abbrev pub needed_for : LowerTask → Option Instantiated
needed_for (task.NeedsInstance i) = Some i
needed_for (task.CallsInstance i es) = Some i
needed_for _ = None

abbrev pub unless_done : {A : Type 0} → Option A → Instantiated → Option Instantiated
unless_done None i = Some i
unless_done (Some p) i = None

-- the instance that a task needs and that isn't done
abbrev pub missing_for : LowerTask → InstanceEnv → Option Instantiated
missing_for d context = and_then (needed_for d) (λ i. unless_done (instance_of context i) i)

abbrev pub in_instance : Option Instantiated → LowerTask → List LowerTask → OpenInstance → List OpenInstance → InstanceMachine → Option InstanceMachine
in_instance (Some i) d todo o rest m = opens i m
in_instance None d todo o rest m =
    and_then (stepped d m.context (behind todo o.body)) (λ body.
    Some (record { context = m.context; limit = m.limit; root = m.root; opened = record { instance = o.instance; arguments = o.arguments; body = body } ∷ rest }))

abbrev pub instance_stepped : List LowerTask → OpenInstance → List OpenInstance → InstanceMachine → Option InstanceMachine
instance_stepped [] o rest m = closes o rest m
instance_stepped (d ∷ todo) o rest m = in_instance (missing_for d m.context) d todo o rest m

abbrev pub in_root : Option Instantiated → LowerTask → List LowerTask → InstanceMachine → Option InstanceMachine
in_root (Some i) d todo m = opens i m
in_root None d todo m = and_then (stepped d m.context (behind todo m.root)) (λ body. Some (record { context = m.context; limit = m.limit; root = body; opened = m.opened }))

abbrev pub root_stepped : List LowerTask → InstanceMachine → Option InstanceMachine
root_stepped [] m = Some m
root_stepped (d ∷ todo) m = in_root (missing_for d m.context) d todo m

abbrev pub by_opened : List OpenInstance → InstanceMachine → Option InstanceMachine
by_opened [] m = root_stepped m.root.todo m
by_opened (o ∷ rest) m = instance_stepped o.body.todo o rest m

abbrev pub machine_stepped : InstanceMachine → Option InstanceMachine
machine_stepped m = by_opened m.opened m

-- ---- several steps

-- where the machine stands after so many steps
abbrev pub after_steps : ℕ → InstanceMachine → Option InstanceMachine
after_steps zero m = Some m
after_steps (suc n) m = and_then (machine_stepped m) (after_steps n)

-- the machine that is to do this in a body, where so many instances may be open at once
abbrev pub machine_at : InstanceEnv → ℕ → OpenBody → InstanceMachine
machine_at context limit root = record { context = context; limit = limit; root = root; opened = [] }

-- the body in which an instance is needed, and nothing else
abbrev pub needing : Instantiated → OpenBody
needing i = record { given = []; todo = task.NeedsInstance i ∷ []; made = []; locals = []; count = 0 }
