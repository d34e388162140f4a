-- The order of faults, and which of them is named.
use Rattle.std.specs.Prelude.{ℕ, List, [], ◌∷◌, Bool, Option, Some, None, if◌then◌else◌}
use Rattle.std.specs.Ordering.{is_lt, nat_cmp}
use Rattle.std.specs.Cmp.Lexicographic.{slice_cmp}
use Rattle.xb_span.specs.Limit.{index_of}
use Rattle.xb_span.specs.declared.fault.Fault.{Fault}
use Rattle.xb_span.specs.declared.fault.Fault.TheVariants.{Whole, Broken, Passed}
use Rattle.xb_span.specs.declared.read_error.ReadError.{ReadError}
use Rattle.xb_span.specs.declared.read_error.ReadError.TheVariants as error

-- what decides a fault's place in the order: limits on the whole come first, then the end of the part; at one end rules
-- before limits, rules by their number and limits by their index; then the start, or what was found
abbrev pub key_of : Fault → List ℕ
key_of (Whole l) = 0 ∷ 0 ∷ 0 ∷ index_of l.what ∷ l.found ∷ l.most ∷ []
key_of (Broken rule span) = 1 ∷ span.to ∷ 0 ∷ rule.0 ∷ span.from ∷ 0 ∷ []
key_of (Passed end l) = 1 ∷ end ∷ 1 ∷ index_of l.what ∷ l.found ∷ l.most ∷ []

-- the one fault is named before the other
unfoldable pub precedes : Fault → Fault → Bool
precedes a b = is_lt (slice_cmp nat_cmp (key_of a) (key_of b))

-- of a fault that was found before, if any, and one more, the one that is named
abbrev pub earlier : Option Fault → Fault → Option Fault
earlier None g = Some g
earlier (Some f) g = if precedes g f then Some g else Some f

-- the same with a list of faults more
abbrev pub first_from : Option Fault → List Fault → Option Fault
first_from held [] = held
first_from held (f ∷ fs) = first_from (earlier held f) fs

-- the fault that is named of all these
abbrev pub first_of : List Fault → Option Fault
first_of faults = first_from None faults

-- the refusal that names a fault
abbrev pub error_of : Fault → ReadError
error_of (Whole l) = error.Over l
error_of (Broken rule span) = error.Broken rule span
error_of (Passed end l) = error.Over l
