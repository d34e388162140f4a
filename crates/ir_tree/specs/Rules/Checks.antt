-- Checks in their order, and the fault that is named.
use Rattle.std.specs.Prelude.{ℕ, ◌^◌, ◌-◌, min, nat_lt, Bool, true, false, List, [], ◌∷◌, Option}
use Rattle.xb_span.specs.declared.fault.Fault.{Fault}
use Rattle.xb_span.specs.declared.fault.Fault.TheVariants.{Broken, Passed}
use Rattle.xb_span.specs.declared.limit.What.{What}
use Rattle.xb_span.specs.declared.span.Span.{Span}
use Rattle.xb_span.specs.Fault.{earlier}

-- a fault that is there or not
pub record Check : Type 0 where
  pub broken : Bool
  pub fault : Fault

-- the rule of this number at a line
abbrev pub rule_at : Span → ℕ → Bool → Check
rule_at span number broken = record { broken = broken; fault = Broken (record { 0 = number }) span }

-- a number as limits name it
abbrev pub bounded : ℕ → ℕ
bounded n = min n (2 ^ 64 - 1)

-- the limit on a quantity, at the end of a line
abbrev pub limit_at : ℕ → What → ℕ → ℕ → Check
limit_at end what found most =
    record { broken = nat_lt most (bounded found); fault = Passed end (record { what = what; found = bounded found; most = most }) }

-- of the fault that was found before, if any, and that of the check, if it is there, the one that is named
abbrev pub note : Bool → Fault → Option Fault → Option Fault
note true fault held = earlier held fault
note false fault held = held

-- the same with a list of checks
abbrev pub noted : Option Fault → List Check → Option Fault
noted held [] = held
noted held (c ∷ cs) = noted (note c.broken c.fault held) cs
