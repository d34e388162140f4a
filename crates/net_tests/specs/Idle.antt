-- A proc without sites, whose state stays: what the tests run.
use Rattle.std.specs.Prelude.{[], ◌∷◌}
use Rattle.xb_bits.specs.Word.{word}
use Rattle.xb_value.specs.declared.ty.Ty as ty
use Rattle.xb_value.specs.declared.value.Value as value
use Rattle.net_core.specs.Behavior.{Behavior, Skip}
use Rattle.net_core.specs.Cuts.{Run}

abbrev pub idle : Behavior
idle = record { state = ty.Bits 8; sites = []; width = λ c. 8; turn = λ s got i. Skip; next_state = λ s got. s }

abbrev pub idle_run : Run
idle_run = record { procs = record { opening = value.Bits (word 8 5); behavior = idle } ∷ []; chans = []; inputs = []; activations = 3; depths = [] }
