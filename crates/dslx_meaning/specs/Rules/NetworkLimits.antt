-- How many procs and channels a network has, and the limits on both.
--
-- They are counted by instance, each from the counts of those that it spawns: no network is laid out.
use Rattle.std.specs.Prelude.{ℕ, zero, suc, List, [], ◌∷◌, ◌++◌, ◌+◌, nat_lt, map, Option, Some, None, length, if◌then◌else◌}
use Rattle.xb_span.specs.declared.fault.Fault.{Fault}
use Rattle.xb_span.specs.declared.fault.Fault.TheVariants.{Whole}
use Rattle.xb_span.specs.declared.limit.What.{What}
use Rattle.xb_span.specs.declared.limit.What.TheVariants as what
use Rattle.xb_span.specs.Fault.{first_of}
use Rattle.dslx_tree.specs.declared.item.Module.{Module}
use Rattle.dslx_tree.specs.declared.process.Proc.{Proc}
use Rattle.dslx_tree.specs.declared.process.Spawn.{Spawn}
use Rattle.dslx_tree.specs.declared.process.ConfigStatement.{ConfigStatement}
use Rattle.dslx_tree.specs.declared.process.ConfigStatement.TheVariants as config_statement
use Rattle.dslx_meaning.specs.Lists.{or_else}
use Rattle.dslx_meaning.specs.Environment.{Meanings, Env}
use Rattle.dslx_meaning.specs.Items.{item_named, instance_env, meanings_of}
use Rattle.dslx_meaning.specs.Network.{as_proc, spawn_parametric_args, top_parametric_args, top_proc}
use Rattle.dslx_meaning.specs.declared.value.DslxValue.{DslxValue}
use Rattle.dslx_meaning.specs.Rules.TypeEnvs.{Instance, same_instance}
use Rattle.dslx_meaning.specs.Rules.ModuleRules.{instances_of, first_fault}

-- how many procs and channels
pub record Count : Type 0 where
  pub procs : ℕ
  pub channels : ℕ

abbrev pub nobody : Count
nobody = record { procs = 0; channels = 0 }

abbrev pub one_channel : Count
one_channel = record { procs = 0; channels = 1 }

abbrev pub and_count : Count → Count → Count
and_count a b = record { procs = a.procs + b.procs; channels = a.channels + b.channels }

-- an instance of a proc, and how many it brings, itself and what it makes and spawns
pub record Counted : Type 0 where
  pub instance : Instance
  pub count : Count

abbrev pub count_in : List Counted → Instance → Count
count_in [] i = nobody
count_in (c ∷ cs) i = if same_instance c.instance i then c.count else count_in cs i

abbrev pub count_of_parametric_args : List Counted → Proc → Option (List DslxValue) → Count
count_of_parametric_args counted p None = nobody
count_of_parametric_args counted p (Some parametric_args) = count_in counted (record { name = p.name.name; parametric_args = parametric_args })

abbrev pub spawn_count : Meanings → List Counted → Env → Spawn → Option Proc → Count
spawn_count items counted env s None = nobody
spawn_count items counted env s (Some target) = count_of_parametric_args counted target (spawn_parametric_args items env target s.arguments)

abbrev pub config_statements_count : Module → Meanings → List Counted → Env → List ConfigStatement → Count
config_statements_count m items counted env [] = nobody
config_statements_count m items counted env (config_statement.Channel c ∷ ms) = and_count one_channel (config_statements_count m items counted env ms)
config_statements_count m items counted env (config_statement.Spawn s ∷ ms) =
    and_count (spawn_count items counted env s (as_proc (item_named s.target.name m.items))) (config_statements_count m items counted env ms)

-- a proc with these parametric arguments, by the counts of those that it spawns
abbrev pub proc_count : Module → Meanings → List Counted → Proc → List DslxValue → Count
proc_count m items counted p parametric_args =
    and_count (record { procs = 1; channels = 0 }) (config_statements_count m items counted (instance_env items p.parametrics parametric_args) p.config.config_statements)

abbrev pub count_of_proc : Module → Meanings → List Counted → List DslxValue → Option Proc → Count
count_of_proc m items counted parametric_args None = nobody
count_of_proc m items counted parametric_args (Some p) = proc_count m items counted p parametric_args

abbrev pub instance_count : Module → Meanings → List Counted → Instance → Count
instance_count m items counted i = count_of_proc m items counted i.parametric_args (as_proc (item_named i.name m.items))

-- these instances, by chains of at most so many spawns
abbrev pub counted_within : Module → Meanings → List Instance → ℕ → List Counted
counted_within m items is zero = []
counted_within m items is (suc n) =
    let before = counted_within m items is n in map (λ (i : Instance). record { instance = i; count = instance_count m items before i }) is

-- the network of a top proc: outer channels count too
abbrev pub network_count : Module → Option (List ℕ) → Proc → Count
network_count m top p =
    let items = meanings_of m in
    and_count (record { procs = 0; channels = length p.config.ends })
    (count_in (counted_within m items (instances_of m top) (length m.items)) (record { name = p.name.name; parametric_args = top_parametric_args items p }))

-- ---- limits

-- counted one by one, and named as one more than there may be
abbrev pub whole_count : What → ℕ → ℕ → List Fault
whole_count what most n = if nat_lt most n then Whole (record { what = what; found = most + 1; most = most }) ∷ [] else []

-- a network has at most 256 procs and 1,024 channels; procs come first
abbrev pub network_faults : Module → Option (List ℕ) → Option Proc → List Fault
network_faults m top None = []
network_faults m top (Some p) = let n = network_count m top p in whole_count what.Procs 256 n.procs ++ whole_count what.Channels 1024 n.channels

-- what a text is refused for: its first fault, or else a limit on its network
abbrev pub refusal_of : Module → Option (List ℕ) → Option Fault
refusal_of m top = or_else (first_fault m top) (first_of (network_faults m top (top_proc m top)))
