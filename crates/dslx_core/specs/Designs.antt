-- What a checked text means: its functions, what its procs do, and its network.
use Rattle.std.specs.Prelude.{ℕ, suc, List, [], ◌∷◌, ◌++◌, ◌+◌, ◌-◌, ◌==◌, map, Bool, true, false, Option, Some, None, length, slice_get, get_or, unwrap_or, if◌then◌else◌}
use Rattle.xb_bits.specs.Word.{Word}
use Rattle.xb_value.specs.declared.ty.Ty.{Ty}
use Rattle.xb_value.specs.declared.value.Value.{Value, Tuple}
use Rattle.xb_value.specs.Flat.{flat_of}
use Rattle.xb_value.specs.Unflat.{unflat_of}
use Rattle.net_core.specs.declared.net.Net.{Net}
use Rattle.net_core.specs.declared.net.ProcHead.{ProcHead}
use Rattle.net_core.specs.declared.net.Chan.{Chan}
use Rattle.net_core.specs.declared.net.Site.{Site}
use Rattle.net_core.specs.declared.net.Kind.TheVariants as kind
use Rattle.net_core.specs.Behavior.{Behavior, Turn, Skip, Receive, Give}
use Rattle.std.specs.Prelude.{codes}
use Rattle.dslx_meaning.specs.Lists.{and_then}
use Rattle.dslx_meaning.specs.Activation.{turn_at}
use Rattle.dslx_meaning.specs.Network.{child_path, width_of_chan}
use Rattle.dslx_core.specs.CoreValues.{Bindings, Functions, core_value, taken_apart, word_in, is_one}
use Rattle.dslx_core.specs.declared.expr.CoreExpr.{CoreExpr}
use Rattle.dslx_core.specs.declared.expr.Shape.{Shape}
use Rattle.dslx_core.specs.declared.step.Step.{Step}
use Rattle.dslx_core.specs.declared.step.Step.TheVariants as step
use Rattle.dslx_core.specs.declared.design.Design.{Design}
use Rattle.dslx_core.specs.declared.design.Function.{Function}
use Rattle.dslx_core.specs.declared.design.Instance.{Instance}
use Rattle.dslx_core.specs.declared.design.MadeChannel.{MadeChannel}
use Rattle.dslx_core.specs.declared.design.Child.{Child}
use Rattle.dslx_core.specs.declared.design.Outer.{Outer}

-- ---- functions

abbrev pub no_function : Functions
no_function f vs = None

-- the first functions, and one more, which calls only those
abbrev pub and_function : ℕ → Function → Functions → Functions
and_function n function before f vs = if f == n then (if length vs == function.arity then core_value function.body before vs else None) else before f vs

abbrev pub functions_from : ℕ → List Function → Functions → Functions
functions_from n [] before = before
functions_from n (f ∷ fs) before = functions_from (suc n) fs (and_function n f before)

-- what the functions of a checked text give
abbrev pub functions_of : Design → Functions
functions_of design = functions_from 0 design.functions no_function

-- ---- activations

-- what it does at its sites, in their order, and the value that it ends with. Where a value or a word is missing, both end
pub record CoreActivity : Type 0 where
  pub turns : List Turn
  pub last : Option Value

abbrev pub no_activity : CoreActivity
no_activity = record { turns = []; last = None }

abbrev pub turn_before : Turn → CoreActivity → CoreActivity
turn_before turn rest = record { turns = turn ∷ rest.turns; last = rest.last }

-- the rest of the steps, from what is bound and the words that will be received
abbrev pub Behind : Type 0
Behind = Bindings → List Word → CoreActivity

abbrev pub go_behind : Behind → Option Bindings → List Word → CoreActivity
go_behind rest None words = no_activity
go_behind rest (Some bound) words = rest bound words

-- a value is taken apart, and the rest goes on
abbrev pub apart_then : Shape → Behind → Bindings → Option Value → List Word → CoreActivity
apart_then shape rest bound None words = no_activity
apart_then shape rest bound (Some v) words = go_behind rest (taken_apart shape v bound) words

abbrev pub token : Value
token = Tuple []

abbrev pub with_token : Value → Value
with_token v = Tuple (token ∷ v ∷ [])

abbrev pub receive_on : Ty → Shape → Behind → Bindings → List Word → CoreActivity
receive_on t shape rest bound [] = record { turns = Receive ∷ []; last = None }
receive_on t shape rest bound (w ∷ words) = turn_before Receive (apart_then shape rest bound (Some (with_token (unflat_of t w.value))) words)

abbrev pub send_on : Shape → Behind → Bindings → Option Value → List Word → CoreActivity
send_on shape rest bound None words = no_activity
send_on shape rest bound (Some v) words = turn_before (Give (flat_of v)) (apart_then shape rest bound (Some token) words)

abbrev pub on_or_off : Option Bool → CoreActivity → Shape → Behind → Bindings → Option Value → List Word → CoreActivity
on_or_off None on shape rest bound off words = no_activity
on_or_off (Some true) on shape rest bound off words = on
on_or_off (Some false) on shape rest bound off words = turn_before Skip (apart_then shape rest bound off words)

abbrev pub condition_at : Functions → CoreExpr → Bindings → Option Bool
condition_at calls e bound = and_then (word_in (core_value e) calls bound) is_one

abbrev pub receive_if : Functions → Ty → Option (CoreExpr × CoreExpr) → Shape → Behind → Behind
receive_if calls t None shape rest bound words = receive_on t shape rest bound words
receive_if calls t (Some both) shape rest bound words =
    on_or_off (condition_at calls both.0 bound) (receive_on t shape rest bound words) shape rest bound
    (and_then (core_value both.1 calls bound) (λ v. Some (with_token v))) words

abbrev pub send_if : Functions → CoreExpr → Option CoreExpr → Shape → Behind → Behind
send_if calls e None shape rest bound words = send_on shape rest bound (core_value e calls bound) words
send_if calls e (Some condition) shape rest bound words =
    on_or_off (condition_at calls condition bound) (send_on shape rest bound (core_value e calls bound) words) shape rest bound (Some token) words

abbrev pub do_step : Functions → Step → Behind → Behind
do_step calls (step.Bind e shape) rest bound words = apart_then shape rest bound (core_value e calls bound) words
do_step calls (step.Receive r) rest bound words = receive_if calls r.word r.condition r.shape rest bound words
do_step calls (step.Send s) rest bound words = send_if calls s.word s.condition s.shape rest bound words

abbrev pub do_steps : Functions → List Step → CoreExpr → Behind
do_steps calls [] next bound words = record { turns = []; last = core_value next calls bound }
do_steps calls (s ∷ ss) next bound words = do_step calls s (do_steps calls ss next) bound words

-- an activation of an instance, from a state over the words that it receives
abbrev pub core_activation : Functions → Instance → Value → List Word → CoreActivity
core_activation calls i state words = do_steps calls i.steps i.next (state ∷ []) words

-- ---- networks

-- a proc of the network: its path, its instance, and the channel of each member
pub record CoreElaborated : Type 0 where
  pub path : List ℕ
  pub instance : Instance
  pub channels : List ℕ

pub record CoreFamily : Type 0 where
  pub procs : List CoreElaborated
  pub chans : List Chan

abbrev pub no_core_family : CoreFamily
no_core_family = record { procs = []; chans = [] }

abbrev pub and_core_family : CoreFamily → CoreFamily → CoreFamily
and_core_family a c = record { procs = a.procs ++ c.procs; chans = a.chans ++ c.chans }

-- the channel of an end by its index: one of the arguments, or behind them a channel that is made; the first of those has this number
abbrev pub channel_of_end : List ℕ → ℕ → ℕ → ℕ
channel_of_end given number end = get_or given end (number + (end - length given))

abbrev pub made_of : List ℕ → MadeChannel → Chan
made_of path c = record { name = path ++ codes "/" ++ c.name; ty = c.ty; kind = kind.Inner; depth = c.depth }

-- a family, by its path, its first proc, the channels of its ends and the number of the next channel
abbrev pub CoreElaboration : Type 0
CoreElaboration = List ℕ → ℕ → List ℕ → ℕ → CoreFamily

abbrev pub core_children : CoreElaboration → List ℕ → List ℕ → ℕ → List Child → ℕ → ℕ → CoreFamily
core_children family path given number [] k next = no_core_family
core_children family path given number (c ∷ cs) k next =
    let first = family (child_path path k) c.instance (map (channel_of_end given number) c.ends) next in
    and_core_family first (core_children family path given number cs (suc k) (next + length first.chans))

abbrev pub core_elaborate : CoreElaboration → Instance → List ℕ → List ℕ → ℕ → CoreFamily
core_elaborate family i path given number =
    let own = map (made_of path) i.made in
    and_core_family
    (record { procs = record { path = path; instance = i; channels = map (channel_of_end given number) i.members } ∷ []; chans = own })
    (core_children family path given number i.children 0 (number + length own))

abbrev pub no_elaboration : CoreElaboration
no_elaboration path i given number = no_core_family

-- the first instances, and one more, which spawns only those
abbrev pub and_instance : ℕ → Instance → CoreElaboration → CoreElaboration
and_instance n instance before path i given number = if i == n then core_elaborate before instance path given number else before path i given number

abbrev pub elaborations_from : ℕ → List Instance → CoreElaboration → CoreElaboration
elaborations_from n [] before = before
elaborations_from n (i ∷ is) before = elaborations_from (suc n) is (and_instance n i before)

-- 0, 1, .. below a number, from one on
abbrev pub numbers_from : ℕ → List Outer → List ℕ
numbers_from n [] = []
numbers_from n (o ∷ os) = n ∷ numbers_from (suc n) os

abbrev pub last_index : List Instance → ℕ
last_index is = length is - 1

abbrev pub core_family : Design → CoreFamily
core_family design = elaborations_from 0 design.procs no_elaboration design.name (last_index design.procs) (numbers_from 0 design.outer) (length design.outer)

abbrev pub site_of_step : List ℕ → Step → List Site
site_of_step channels (step.Bind e shape) = []
site_of_step channels (step.Receive r) = record { chan = get_or channels r.member 0; sends = false } ∷ []
site_of_step channels (step.Send s) = record { chan = get_or channels s.member 0; sends = true } ∷ []

abbrev pub sites_of_steps : List ℕ → List Step → List Site
sites_of_steps channels [] = []
sites_of_steps channels (s ∷ ss) = site_of_step channels s ++ sites_of_steps channels ss

abbrev pub core_head : CoreElaborated → ProcHead
core_head p = record { path = p.path; state = p.instance.state; init = p.instance.opening; sites = sites_of_steps p.channels p.instance.steps }

abbrev pub chan_of_outer : Outer → Chan
chan_of_outer o = record { name = o.name; ty = o.ty; kind = o.kind; depth = 1 }

abbrev pub core_chans : Design → List Chan
core_chans design = map chan_of_outer design.outer ++ (core_family design).chans

-- the network of a checked text
abbrev pub core_network : Design → Net
core_network design = record { name = design.name; procs = map core_head (core_family design).procs; chans = core_chans design }

abbrev pub core_behavior : Design → CoreElaborated → Behavior
core_behavior design p = record {
  state = p.instance.state;
  sites = sites_of_steps p.channels p.instance.steps;
  width = width_of_chan (core_chans design);
  turn = λ state words i. turn_at (slice_get (core_activation (functions_of design) p.instance state words).turns i);
  next_state = λ state words. unwrap_or (core_activation (functions_of design) p.instance state words).last token;
}

-- what its procs do
abbrev pub core_behaviors : Design → List Behavior
core_behaviors design = map (core_behavior design) (core_family design).procs
