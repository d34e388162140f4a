-- The steps of a command. Each gives something or a fault; the order of the steps is the order of the causes.
use Rattle.std.specs.Prelude.{◌≡◌, Option, IfSome, Result, Ok, Err}
use Rattle.xb_io.specs.Contents.{Contents}
use Rattle.xls_cmd.specs.declared.shared.fault.Fault.TheVariants.{Usage}
use Rattle.xls_cmd.specs.Shared.Fault.{Fault}

-- what a step may give
abbrev pub Step : Type 0 → Type 1
Step A = Result A Fault → Type 0

-- it gives this, and nothing else
abbrev pub Gives : {A : Type 0} → Result A Fault → Step A
Gives wanted given = given ≡ wanted

-- The first step gives x, and the next one goes on from there; or the first gives a fault, and that is the result.
pub data Then {A B : Type 0} (first : Result A Fault → Type 0) (next : A → Result B Fault → Type 0) : Result B Fault → Type 0 where
  goes_on : (x : A) (given : Result B Fault) → first (Ok x) → next x given → Then first next given
  stops : (fault : Fault) → first (Err fault) → Then first next (Err fault)

-- it gives one thing at most
abbrev pub IsOne : {A : Type 0} → (Result A Fault → Type 0) → Type 0
IsOne {A} step = (a b : Result A Fault) → step a → step b → a ≡ b

-- a fault of a command, which the words say
abbrev pub IsOfCommand : Fault → Type 0
IsOfCommand Usage = ⊥
IsOfCommand _ = Unit {0}

abbrev pub IsGivenByCommand : {A : Type 0} → Result A Fault → Type 0
IsGivenByCommand (Ok x) = Unit {0}
IsGivenByCommand (Err fault) = IsOfCommand fault

-- What is expected of a command by the contents of the files, where these are known. No command refuses its words.
abbrev pub ExpectedBy : {A : Type 0} → Option Contents → (Contents → Result A Fault → Type 0) → Result A Fault → Type 0
ExpectedBy known_contents command given = IsGivenByCommand given × IfSome known_contents (λ holds. command holds given)
