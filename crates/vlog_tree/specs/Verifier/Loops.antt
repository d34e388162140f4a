-- Which wires depend on themselves, with no register between. What the outside gives, and what a register holds, depends on
-- nothing.
use Rattle.std.specs.Prelude.{◌≡◌, ℕ, slice_get, Some}
use Rattle.vlog_tree.specs.declared.module.VModule.{VModule}
use Rattle.vlog_tree.specs.declared.module.Assignment.{Assignment}
use Rattle.vlog_tree.specs.declared.signal.Role.TheVariants.{WireSignal}
use Rattle.vlog_tree.specs.Signals.{Declared, IsSignal}
use Rattle.vlog_tree.specs.Forms.{reads}

-- signal s is a wire or an output
abbrev pub IsWire : VModule → ℕ → Type 0
IsWire m s = (d : Declared) × IsSignal m s d × (d.role ≡ WireSignal)

-- an assignment to the wire t mentions the wire s
pub record ReadsWire (m : VModule) (t s : ℕ) : Type 0 where
  pub at : ℕ
  pub k : ℕ
  pub assignment : Assignment
  pub stands : slice_get m.assignments at ≡ Some assignment
  pub target : assignment.target.0 ≡ t
  pub read : slice_get (reads assignment.value) k ≡ Some s
  pub reader : IsWire m t
  pub wire : IsWire m s

-- the wire t depends on the wire s, itself or by way of others
pub data Depends (m : VModule) : ℕ → ℕ → Type 0 where
  direct : (t s : ℕ) → ReadsWire m t s → Depends m t s
  by_way : (t u s : ℕ) → ReadsWire m t u → Depends m u s → Depends m t s
