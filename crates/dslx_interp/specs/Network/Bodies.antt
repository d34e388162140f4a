-- Procs of checked texts of which there can be bodies.
use Rattle.std.specs.Prelude.{◌≡◌, ℕ, [], get_or, Bool, true, IsTrue, Option, Some, slice_get}
use Rattle.std.specs.List.{list_all}
use Rattle.net_core.specs.Behavior.{Behavior}
use Rattle.dslx_core.specs.Designs.{CoreElaborated, core_behavior, core_family}
use Rattle.dslx_core.specs.declared.design.Design.{Design}
use Rattle.dslx_core.specs.declared.design.Instance.{Instance}
use Rattle.dslx_core.specs.declared.step.Step.{Step}
use Rattle.dslx_core.specs.declared.step.Step.TheVariants as step
use Rattle.dslx_core.specs.Lowering.Steps.{fits_word}

-- a word holds a value of the type that is received
abbrev pub receives_word : Step → Bool
receives_word (step.Bind e shape) = true
receives_word (step.Receive r) = fits_word r.word
receives_word (step.Send s) = true

-- so it is with all steps of a checked text
abbrev pub ReceivesWords : Design → Type 0
ReceivesWords design = (k : ℕ) (i : Instance) → slice_get design.procs k ≡ Some i → IsTrue (list_all receives_word i.steps)

-- the instance of a proc, as one among those of the text
abbrev pub own_instance : CoreElaborated → Option Instance
own_instance p = Some p.instance

-- the proc of this number in the network; past the last one, one of this instance without channels
abbrev pub proc_at : Design → ℕ → Instance → CoreElaborated
proc_at design number i = get_or (core_family design).procs number (record { path = []; instance = i; channels = [] })

-- what it does
abbrev pub behavior_at : Design → ℕ → Instance → Behavior
behavior_at design number i = core_behavior design (proc_at design number i)
