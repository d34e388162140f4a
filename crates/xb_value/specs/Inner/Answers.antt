-- What the reader of a value's numbers and brackets answers.
use Rattle.std.specs.Prelude.{◌≡◌, ℕ, List, ◌∷◌, ◌≢◌, Result, Ok, Err}
use Rattle.xb_value.specs.declared.reader.ValueError.{ValueError}
use Rattle.xb_value.specs.declared.reader.ValueError.TheVariants.{Syntax, Shape, OutOfMemory}
use Rattle.xb_value.specs.declared.token.Bracket.{Bracket}
use Rattle.xb_value.specs.declared.token.Token.{Token}
use Rattle.xb_value.specs.declared.token.Token.TheVariants.{Number, Open, Close}
use Rattle.xb_value.specs.declared.value.Value.{Value}

-- the answer to a text that says this at the type
abbrev pub IsAnswer : Result Value ValueError → Result Value ℕ → Type 0
IsAnswer (Ok v) (Ok w) = v ≡ w
IsAnswer (Err (Shape p)) (Err q) = p ≡ q
IsAnswer (Err OutOfMemory) r = Unit {0}
IsAnswer _ _ = ⊥

-- an error that the numbers and brackets give, or want of memory
abbrev pub IsFaultOrNoMemory : {A : Type 0} → ValueError → Result A ℕ → Type 0
IsFaultOrNoMemory (Syntax at) r = ⊥
IsFaultOrNoMemory (Shape at) r = r ≡ Err at
IsFaultOrNoMemory OutOfMemory r = Unit {0}

-- the position to name where no such bracket opens
abbrev pub IsNoBracket : List Token → Bracket → ValueError → Type 0
IsNoBracket (Number at n ∷ ts) b e = e ≡ Shape at
IsNoBracket (Open at k ∷ ts) b e = (e ≡ Shape at) × (k ≢ b)
IsNoBracket _ b e = e ≡ Shape 0

-- the position to name where no bracket closes
abbrev pub IsUnclosed : ValueError → ℕ → List Token → Type 0
IsUnclosed e at (Close ∷ ts) = ⊥
IsUnclosed e at _ = e ≡ Shape at
