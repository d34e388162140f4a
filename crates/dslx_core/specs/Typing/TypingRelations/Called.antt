-- Functions and procs that a part of a text mentions, and names as values.
use Rattle.std.specs.Prelude.{ℕ, List, Bool, true, false, not}
use Rattle.dslx_meaning.specs.Rules.Mentions.{Use, AsFunction, AsProc, AsValue}

-- a name passes the first test where it is used as a function's or a proc's, and not the second one where it is used as a value
abbrev pub named : (List ℕ → Bool) → (List ℕ → Bool) → Use → List ℕ → Bool
named P U AsFunction name = P name
named P U AsProc name = P name
named P U AsValue name = not (U name)
named P U _ name = true

-- functions and procs alone
abbrev pub called : (List ℕ → Bool) → Use → List ℕ → Bool
called P = named P (λ name. false)
