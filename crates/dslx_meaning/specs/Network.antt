-- The network of a module: its top proc's instance and those that it spawns, with their channels.
use Rattle.std.specs.Prelude.{ℕ, zero, suc, List, [], ◌∷◌, ◌++◌, ◌+◌, map, Option, Some, None, length, slice_get, unwrap_or, codes, decimal, if◌then◌else◌}
use Rattle.std.specs.Str.{bytes_eq}
use Rattle.xb_value.specs.declared.ty.Ty.{Ty}
use Rattle.xb_value.specs.declared.ty.Ty as plain
use Rattle.xb_value.specs.Width.{width_of}
use Rattle.net_core.specs.declared.net.Net.{Net}
use Rattle.net_core.specs.declared.net.ProcHead.{ProcHead}
use Rattle.net_core.specs.declared.net.Chan.{Chan}
use Rattle.net_core.specs.declared.net.Site.{Site}
use Rattle.net_core.specs.declared.net.Kind.{Kind}
use Rattle.net_core.specs.declared.net.Kind.TheVariants as kind
use Rattle.net_core.specs.Behavior.{Behavior}
use Rattle.dslx_tree.specs.declared.ident.Ident.{Ident}
use Rattle.dslx_tree.specs.declared.expr.Arg.{Arg}
use Rattle.dslx_tree.specs.declared.item.Module.{Module}
use Rattle.dslx_tree.specs.declared.item.Item.{Item}
use Rattle.dslx_tree.specs.declared.item.Definition.{Definition}
use Rattle.dslx_tree.specs.declared.item.Definition.TheVariants as d
use Rattle.dslx_tree.specs.declared.process.Proc.{Proc}
use Rattle.dslx_tree.specs.declared.process.End.{End}
use Rattle.dslx_tree.specs.declared.process.Channel.{Channel}
use Rattle.dslx_tree.specs.declared.process.Spawn.{Spawn}
use Rattle.dslx_tree.specs.declared.process.ConfigStatement.{ConfigStatement}
use Rattle.dslx_tree.specs.declared.process.ConfigStatement.TheVariants as config_statement
use Rattle.dslx_tree.specs.declared.process.Direction.{Direction}
use Rattle.dslx_tree.specs.declared.process.Direction.TheVariants.{In, Out}
use Rattle.dslx_meaning.specs.Lists.{and_then, beside}
use Rattle.dslx_meaning.specs.Types.{plain_type}
use Rattle.dslx_meaning.specs.Environment.{Meanings, Env}
use Rattle.dslx_meaning.specs.Meaning.{arg_denotation, size_of, written_type, values_of}
use Rattle.dslx_meaning.specs.Items.{item_named, all_parametric_args, instance_env, meanings_of}
use Rattle.dslx_meaning.specs.Activation.{SiteName, site_names, state_type_of, opening_state, activation_of, turn_at, state_of}
use Rattle.dslx_meaning.specs.declared.ty.DslxType.{DslxType}
use Rattle.dslx_meaning.specs.declared.value.DslxValue.{DslxValue}

-- an end in a `config`: its name, and the number of its channel
pub record Held : Type 0 where
  pub name : List ℕ
  pub channel : ℕ

abbrev pub channel_held : List ℕ → List Held → ℕ
channel_held name [] = 0
channel_held name (h ∷ hs) = if bytes_eq name h.name then h.channel else channel_held name hs

-- a proc of the network: its path, its declaration, its parametric arguments, and the channel of each member
pub record Elaborated : Type 0 where
  pub path : List ℕ
  pub proc : Proc
  pub parametric_args : List DslxValue
  pub channels : List ℕ

-- a proc with all that it spawns, itself first, and the channels that they make
pub record Family : Type 0 where
  pub procs : List Elaborated
  pub chans : List Chan

abbrev pub no_family : Family
no_family = record { procs = []; chans = [] }

abbrev pub and_family : Family → Family → Family
and_family a b = record { procs = a.procs ++ b.procs; chans = a.chans ++ b.chans }

-- the type of a channel's words
abbrev pub plain_or_unit : Option DslxType → Ty
plain_or_unit None = plain.Tuple []
plain_or_unit (Some t) = plain_type t

-- ---- the channels that a `config` makes, by its text

abbrev pub depth_of : Env → Option Arg → ℕ
depth_of env None = 1
depth_of env (Some a) = unwrap_or (size_of (arg_denotation a) env) 1

abbrev pub made_chan : List ℕ → Env → Channel → Chan
made_chan path env c = record {
  name = path ++ codes "/" ++ c.name.name;
  ty = plain_or_unit (written_type c.word env);
  kind = kind.Inner;
  depth = depth_of env c.depth;
}

abbrev pub made_chans : List ℕ → Env → List ConfigStatement → List Chan
made_chans path env [] = []
made_chans path env (config_statement.Channel c ∷ ms) = made_chan path env c ∷ made_chans path env ms
made_chans path env (config_statement.Spawn s ∷ ms) = made_chans path env ms

-- both ends of each, where the first channel has this number
abbrev pub made_ends : ℕ → List ConfigStatement → List Held
made_ends number [] = []
made_ends number (config_statement.Channel c ∷ ms) =
    record { name = c.sender.name; channel = number } ∷ record { name = c.receiver.name; channel = number } ∷ made_ends (suc number) ms
made_ends number (config_statement.Spawn s ∷ ms) = made_ends number ms

-- ---- spawned procs

abbrev pub as_proc : Option Definition → Option Proc
as_proc (Some (d.Proc p)) = Some p
as_proc _ = None

-- the ends of a spawned proc's `config`, at the channels that are handed over
abbrev pub handed_over : List End → List ℕ → List Held
handed_over [] channels = []
handed_over (e ∷ es) [] = []
handed_over (e ∷ es) (c ∷ cs) = record { name = e.name.name; channel = c } ∷ handed_over es cs

abbrev pub channels_of_ends : List Held → List Ident → List ℕ
channels_of_ends held idents = map (λ (i : Ident). channel_held i.name held) idents

-- the path of the child of a number
abbrev pub child_path : List ℕ → ℕ → List ℕ
child_path path k = path ++ codes "." ++ decimal k

-- a family, by its path, its first proc, that one's parametric arguments and ends, and the number of the next channel
abbrev pub Elaboration : Type 0
Elaboration = List ℕ → Proc → List DslxValue → List Held → ℕ → Family

-- the parametric arguments that a spawn gives
abbrev pub spawn_parametric_args : Meanings → Env → Proc → List Arg → Option (List DslxValue)
spawn_parametric_args items env target arguments = and_then (values_of (map arg_denotation arguments) env) (all_parametric_args items [] [] target.parametrics)

abbrev pub spawned_at : Elaboration → List ℕ → List Held → Spawn → ℕ → Option Proc → Option (List DslxValue) → Family
spawned_at family path held s number (Some target) (Some parametric_args) = family path target parametric_args (handed_over target.config.ends (channels_of_ends held s.ends)) number
spawned_at family path held s number _ _ = no_family

abbrev pub spawned : Module → Meanings → Elaboration → List ℕ → Env → List Held → Spawn → ℕ → Family
spawned m items family path env held s number =
    let target = as_proc (item_named s.target.name m.items) in
    spawned_at family path held s number target (and_then target (λ p. spawn_parametric_args items env p s.arguments))

-- the children in the order of the text, from the child of this number on
abbrev pub children : Module → Meanings → Elaboration → List ℕ → Env → List Held → List ConfigStatement → ℕ → ℕ → Family
children m items family path env held [] k number = no_family
children m items family path env held (config_statement.Channel c ∷ ms) k number = children m items family path env held ms k number
children m items family path env held (config_statement.Spawn s ∷ ms) k number =
    let first = spawned m items family (child_path path k) env held s number in
    and_family first (children m items family path env held ms (suc k) (number + length first.chans))

-- a proc's own channels have the first numbers, then those of its children's families, in order
abbrev pub elaborate_over : Module → Meanings → Elaboration → Elaboration
elaborate_over m items family path p parametric_args ends number =
    let env = instance_env items p.parametrics parametric_args in
    let own = made_chans path env p.config.config_statements in
    let held = ends ++ made_ends number p.config.config_statements in
    and_family
    (record { procs = record { path = path; proc = p; parametric_args = parametric_args; channels = channels_of_ends held p.config.result } ∷ []; chans = own })
    (children m items family path env held p.config.config_statements 0 (number + length own))

-- a chain of spawns is no longer than the list of items
abbrev pub elaborate_within : Module → Meanings → ℕ → Elaboration
elaborate_within m items zero path p parametric_args ends number = no_family
elaborate_within m items (suc n) path p parametric_args ends number = elaborate_over m items (elaborate_within m items n) path p parametric_args ends number

-- ---- the network of a top proc

abbrev pub kind_of_end : Direction → Kind
kind_of_end In = kind.Input
kind_of_end Out = kind.Output

abbrev pub outer_chan : Env → End → Chan
outer_chan env e = record { name = e.name.name; ty = plain_or_unit (written_type e.word env); kind = kind_of_end e.direction; depth = 1 }

abbrev pub outer_ends : ℕ → List End → List Held
outer_ends number [] = []
outer_ends number (e ∷ es) = record { name = e.name.name; channel = number } ∷ outer_ends (suc number) es

-- the last proc of a text
abbrev pub last_proc_of : List Item → Option Proc → Option Proc
last_proc_of [] found = found
last_proc_of (i ∷ is) found = last_proc_of is (later found i.definition)
  where
    later : Option Proc → Definition → Option Proc
    later found (d.Proc p) = Some p
    later found _ = found

-- the top proc: the one of this name, the last one by default
abbrev pub top_proc : Module → Option (List ℕ) → Option Proc
top_proc m None = last_proc_of m.items None
top_proc m (Some name) = as_proc (item_named name m.items)

-- the parametric arguments of the top: its defaults
abbrev pub top_parametric_args : Meanings → Proc → List DslxValue
top_parametric_args items p = unwrap_or (all_parametric_args items [] [] p.parametrics []) []

abbrev pub family_of : Module → Proc → Family
family_of m top =
    let items = meanings_of m in
    elaborate_within m items (length m.items) top.name.name top (top_parametric_args items top) (outer_ends 0 top.config.ends) (length top.config.ends)

abbrev pub site_at : Elaborated → SiteName → Site
site_at elaborated site = record {
  chan = unwrap_or (beside site.member (map (λ (e : End). e.name.name) elaborated.proc.members) elaborated.channels) 0;
  sends = site.sends;
}

abbrev pub sites_of_elaborated : Elaborated → List Site
sites_of_elaborated elaborated = map (site_at elaborated) (site_names elaborated.proc)

abbrev pub state_at : Meanings → Elaborated → Ty
state_at items elaborated = plain_or_unit (state_type_of items elaborated.proc elaborated.parametric_args)

abbrev pub head_at : Meanings → Elaborated → ProcHead
head_at items elaborated = record {
  path = elaborated.path;
  state = state_at items elaborated;
  init = state_of (opening_state items elaborated.proc elaborated.parametric_args);
  sites = sites_of_elaborated elaborated;
}

-- outer channels first, in the order of the ends of `config`
abbrev pub chans_of_top : Module → Proc → List Chan
chans_of_top m top =
    map (outer_chan (instance_env (meanings_of m) top.parametrics (top_parametric_args (meanings_of m) top))) top.config.ends ++ (family_of m top).chans

abbrev pub net_of_top : Module → Proc → Net
net_of_top m top = record {
  name = top.name.name;
  procs = map (head_at (meanings_of m)) (family_of m top).procs;
  chans = chans_of_top m top;
}

abbrev pub width_of_chan : List Chan → ℕ → ℕ
width_of_chan chans c = width_at (slice_get chans c)
  where
    width_at : Option Chan → ℕ
    width_at None = 0
    width_at (Some chan) = width_of chan.ty

-- what a proc of the network does
abbrev pub behavior_at : Meanings → List Chan → Elaborated → Behavior
behavior_at items chans elaborated = record {
  state = state_at items elaborated;
  sites = sites_of_elaborated elaborated;
  width = width_of_chan chans;
  turn = λ state words i. turn_at (slice_get (activation_of items elaborated.proc elaborated.parametric_args state words).turns i);
  next_state = λ state words. state_of (activation_of items elaborated.proc elaborated.parametric_args state words).last;
}

abbrev pub net_if : Module → Option Proc → Net
net_if m None = record { name = []; procs = []; chans = [] }
net_if m (Some top) = net_of_top m top

abbrev pub behaviors_if : Module → Option Proc → List Behavior
behaviors_if m None = []
behaviors_if m (Some top) = map (behavior_at (meanings_of m) (chans_of_top m top)) (family_of m top).procs

-- the network that a text means, and what its procs do
abbrev pub network_of : Module → Option (List ℕ) → Net
network_of m top = net_if m (top_proc m top)

abbrev pub behaviors_of : Module → Option (List ℕ) → List Behavior
behaviors_of m top = behaviors_if m (top_proc m top)
