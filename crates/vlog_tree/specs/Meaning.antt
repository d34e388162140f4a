-- What a module does in a cycle: the values of its signals, and what the registers hold next.
use Rattle.std.specs.Prelude.{◌≡◌, ℕ, List, [], ◌∷◌, ◌==◌, if◌then◌else◌}
use Rattle.std.specs.List.{AllByRecursion}
use Rattle.xb_bits.specs.Word.{Word, word}
use Rattle.vlog_tree.specs.declared.module.VModule.{VModule}
use Rattle.vlog_tree.specs.declared.module.Assignment.{Assignment}
use Rattle.vlog_tree.specs.declared.module.Set.{Set}
use Rattle.vlog_tree.specs.Signals.{Declared, IsSignal}
use Rattle.vlog_tree.specs.declared.signal.Role.TheVariants.{InputSignal, RegisterSignal}
use Rattle.vlog_tree.specs.Value.{Values, atom_value, expr_value}

-- each target has its driver's value
abbrev pub AreDriven : Values → List Assignment → Type 0
AreDriven values assignments = AllByRecursion (λ a. values a.target.0 ≡ expr_value values a.value) assignments

-- the signals have these values in a cycle: an input that of `given`, a register that of `held`, a wire its driver's value.
-- Where no wire depends on itself there is exactly one such assignment of values; no order of evaluation is spoken of
pub record IsNow (m : VModule) (held given values : Values) : Type 0 where
  pub inputs : (s : ℕ) (d : Declared) → IsSignal m s d → d.role ≡ InputSignal → values s ≡ given s
  pub registers : (s : ℕ) (d : Declared) → IsSignal m s d → d.role ≡ RegisterSignal → values s ≡ held s
  pub wires : AreDriven values m.assignments

-- what signals hold after these sets, of which the last for a signal counts: without one it keeps what it holds
abbrev pub taken_by : List Set → Values → Values → Values
taken_by [] values held s = held s
taken_by (set ∷ sets) values held s =
    taken_by sets values (λ r. if set.target.0 == r then atom_value values set.value else held r) s

-- the index of the port `rst`
abbrev pub reset_port : ℕ
reset_port = 1

-- what the registers hold in the next cycle: all of them take their values at once, from the values of this cycle
abbrev pub registers_next : VModule → Values → Values → Values
registers_next m values held = taken_by (if (values reset_port).value == 0 then m.at_clock else m.at_reset) values held
