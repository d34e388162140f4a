-- The numbers and brackets of a value, and those of a text without their positions.
use Rattle.std.specs.Prelude.{◌≡◌, List, [], ◌∷◌, ◌++◌, map}
use Rattle.xb_value.specs.declared.token.Bracket.TheVariants.{Round, Square}
use Rattle.xb_value.specs.declared.token.Token.{Token}
use Rattle.xb_value.specs.declared.token.Token.TheVariants.{Number, Open, Close}
use Rattle.xb_value.specs.declared.value.Value.{Value, fold-Value}
use Rattle.xb_value.specs.declared.value.Value.TheOpen.{Value-F}

abbrev pub unplaced : Token → Token
unplaced (Number at n) = Number 0 n
unplaced (Open at b) = Open 0 b
unplaced Close = Close

abbrev pub all_of : List (List Token) → List Token
all_of [] = []
all_of (ts ∷ tss) = ts ++ all_of tss

abbrev pub shape_step : Value-F (List Token) → List Token
shape_step (Value-F.Bits x) = Number 0 x.value ∷ []
shape_step (Value-F.Tuple ss) = Open 0 Round ∷ (all_of ss ++ Close ∷ [])
shape_step (Value-F.Array ss) = Open 0 Square ∷ (all_of ss ++ Close ∷ [])

-- each number and bracket of the value in its order
abbrev pub shape_of : Value → List Token
shape_of = fold-Value (List Token) shape_step

-- the numbers and brackets are those of the value
abbrev pub Says : List Token → Value → Type 0
Says ts v = map unplaced ts ≡ shape_of v
