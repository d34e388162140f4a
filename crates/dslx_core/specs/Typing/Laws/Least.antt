-- The least of several faults.
use Rattle.std.specs.Prelude.{◌≡◌, ◌⊎◌, List, [], ◌∷◌, false}
use Rattle.xb_span.specs.Fault.{precedes}
use Rattle.xb_span.specs.declared.fault.Fault.{Fault}

-- the fault is one of these
abbrev pub IsAmong : Fault → List Fault → Type 0
IsAmong f [] = ⊥
IsAmong f (g ∷ gs) = (f ≡ g) ⊎ IsAmong f gs

-- it is one of these, and none of them precedes it
pub record IsLeastOf (fs : List Fault) (f : Fault) : Type 0 where
  pub among : IsAmong f fs
  pub least : (g : Fault) → IsAmong g fs → precedes g f ≡ false

-- the faults of each are among those of the other
pub record HaveSameFaults (fs gs : List Fault) : Type 0 where
  pub there : (f : Fault) → IsAmong f fs → IsAmong f gs
  pub back : (g : Fault) → IsAmong g gs → IsAmong g fs
