-- Procs that are still to be elaborated.
use Rattle.std.specs.Prelude.{◌≡◌, ℕ, suc, ◌+◌, nat_lt, List, [], ◌∷◌, ◌++◌, map, length, slice_get, Option, Some, if◌then◌else◌}
use Rattle.net_core.specs.declared.net.Chan.{Chan}
use Rattle.net_core.specs.declared.net.ProcHead.{ProcHead}
use Rattle.dslx_meaning.specs.Network.{child_path}
use Rattle.dslx_core.specs.Designs.{CoreFamily, CoreElaboration, no_core_family, and_core_family, channel_of_end, core_head, last_index, no_elaboration, numbers_from, elaborations_from}
use Rattle.dslx_core.specs.declared.design.Child.{Child}
use Rattle.dslx_core.specs.declared.design.Design.{Design}
use Rattle.dslx_core.specs.declared.design.Instance.{Instance}
use Rattle.dslx_interp.specs.declared.network.family.Family.{Family}
use Rattle.dslx_interp.specs.declared.network.family.Pending.{Pending}
use Rattle.dslx_interp.specs.Network.Bodies.{own_instance}
use Rattle.dslx_interp.specs.Network.Linked.{AllBelow}

-- the families of all instances
abbrev pub placing : List Instance → CoreElaboration
placing is = elaborations_from 0 is no_elaboration

-- the families of those that are pending, where the next channel has this number
abbrev pub pending_family : List Instance → List Pending → ℕ → CoreFamily
pending_family is [] number = no_core_family
pending_family is (p ∷ ps) number =
    let first = placing is p.path p.instance p.given number in
    and_core_family first (pending_family is ps (number + length first.chans))

-- what is elaborated, and what is pending
abbrev pub all_procs : List Instance → Family → List Pending → List ProcHead
all_procs is family ps = family.procs.items ++ map core_head (pending_family is ps (length family.chans.items)).procs

abbrev pub all_chans : List Instance → Family → List Pending → List Chan
all_chans is family ps = family.chans.items ++ (pending_family is ps (length family.chans.items)).chans

-- the instances of all procs, by the numbers of those that are elaborated
abbrev pub all_instances : List Instance → Family → List Pending → List (Option Instance)
all_instances is family ps = map (slice_get is) family.instances.items ++ map own_instance (pending_family is ps (length family.chans.items)).procs

abbrev pub child_pending : List ℕ → List ℕ → ℕ → ℕ → Child → Pending
child_pending path given number n c = record { path = child_path path n; instance = c.instance; given = map (channel_of_end given number) c.ends }

-- the procs that an instance starts, as pending: those of instances before it
abbrev pub children_pending : List ℕ → ℕ → List ℕ → ℕ → ℕ → List Child → List Pending
children_pending path k given number n [] = []
children_pending path k given number n (c ∷ cs) =
    if nat_lt c.instance k
    then child_pending path given number n c ∷ children_pending path k given number (suc n) cs
    else children_pending path k given number (suc n) cs

-- an instance that is there, given as many ends as it takes, of channels that are there
pub record IsPending (is : List Instance) (chans : ℕ) (p : Pending) : Type 0 where
  pub instance : Instance
  pub there : slice_get is p.instance ≡ Some instance
  pub given : length p.given ≡ instance.ends
  pub below : AllBelow chans p.given

abbrev pub ArePending : List Instance → ℕ → List Pending → Type 0
ArePending is chans [] = Unit {0}
ArePending is chans (p ∷ ps) = IsPending is chans p × ArePending is chans ps

-- the top of a text whose procs are these, where there is one
abbrev pub top_of : Design → List Instance → List Pending
top_of design [] = []
top_of design (i ∷ is) = record { path = design.name; instance = last_index design.procs; given = numbers_from 0 design.outer } ∷ []

abbrev pub first_pending : Design → List Pending
first_pending design = top_of design design.procs

-- what the network knows of a proc that is pending, where the first channel that it makes has this number
abbrev pub own_head : Pending → Instance → ℕ → ProcHead
own_head p i number = core_head (record { path = p.path; instance = i; channels = map (channel_of_end p.given number) i.members })
