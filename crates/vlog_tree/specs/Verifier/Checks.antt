-- Checks in their order, and the fault that is named.
use Rattle.std.specs.Prelude.{ℕ, suc, nat_lt, Bool, true, false, List, [], ◌∷◌, ◌++◌, Option}
use Rattle.xb_span.specs.declared.fault.Fault.{Fault}
use Rattle.xb_span.specs.declared.fault.Fault.TheVariants.{Broken, Passed}
use Rattle.xb_span.specs.declared.limit.What.TheVariants.{Width}
use Rattle.xb_span.specs.declared.span.Span.{Span}
use Rattle.xb_span.specs.Fault.{earlier}

-- a fault that is there or not
pub record PartCheck : Type 0 where
  pub broken : Bool
  pub fault : Fault

-- the rule of this number at a part
abbrev pub rule_at : Span → ℕ → Bool → PartCheck
rule_at span number broken = record { broken = broken; fault = Broken (record { 0 = number }) span }

-- the limit on a width, at the end of a part
abbrev pub width_at : ℕ → ℕ → PartCheck
width_at end width = record { broken = nat_lt 128 width; fault = Passed end (record { what = Width; found = width; most = 128 }) }

-- of the fault that was found before, if any, and that of the check, if it is there, the one that is named
abbrev pub note : Bool → Fault → Option Fault → Option Fault
note true fault held = earlier held fault
note false fault held = held

-- the same with a list of checks
abbrev pub noted : Option Fault → List PartCheck → Option Fault
noted held [] = held
noted held (c ∷ cs) = noted (note c.broken c.fault held) cs

-- the checks of each part of a list in turn. What was seen before a part, and its index, may matter to it
abbrev pub walk : {S A : Type 0} → (S → ℕ → A → List PartCheck) → (S → A → S) → S → ℕ → List A → List PartCheck
walk checks see seen i [] = []
walk checks see seen i (x ∷ xs) = checks seen i x ++ walk checks see (see seen x) (suc i) xs

-- what was seen behind a list
abbrev pub seen_after : {S A : Type 0} → (S → A → S) → S → List A → S
seen_after see seen [] = seen
seen_after see seen (x ∷ xs) = seen_after see (see seen x) xs
