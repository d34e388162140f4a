-- Answers that may differ in what is given alone.
use Rattle.std.specs.Prelude.{◌≡◌, Result, Ok, Err}
use Rattle.xls_cmd.specs.Shared.Fault.{Fault}

-- two things, or one fault
abbrev pub AreAlike : {A : Type 0} → Result A Fault → Result A Fault → Type 0
AreAlike (Ok a) (Ok b) = Unit {0}
AreAlike (Ok a) (Err f) = ⊥
AreAlike (Err f) (Ok b) = ⊥
AreAlike (Err f) (Err g) = f ≡ g

-- whatever the step gives, it gives something, or it gives one fault
abbrev pub Agrees : {A : Type 0} → (Result A Fault → Type 0) → Type 0
Agrees {A} step = (a b : Result A Fault) → step a → step b → AreAlike a b
