-- What is kept of an activation that is open.
use Rattle.std.specs.Prelude.{List, [], ◌≡◌, ℕ, slice_get, Some, None}
use Rattle.xb_bits.specs.Word.{Word}
use Rattle.xb_value.specs.declared.value.Value.{Value}
use Rattle.net_core.specs.declared.activation.Activation.{Activation}
use Rattle.net_core.specs.declared.config.Config.{Config}
use Rattle.net_core.specs.declared.progress.Progress.{Progress}

-- nothing is worked out
pub record IsNothing (kept : Activation) : Type 0 where
  pub values : kept.values.items ≡ []
  pub steps : kept.steps ≡ 0
  pub sites : kept.sites ≡ 0
  pub words : kept.words ≡ 0
  pub sent : kept.sent ≡ None

-- what is kept is right for the activation in which proc p stands: for its state, the words that it received, and how many
-- of its sites are past
abbrev pub KeepsFor : (Value → List Word → ℕ → Type 0) → Config → ℕ → Type 0
KeepsFor keeps config p = (progress : Progress) → slice_get config.procs.items p ≡ Some progress → keeps progress.state progress.got progress.done
