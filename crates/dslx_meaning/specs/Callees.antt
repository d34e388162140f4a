-- What a called name stands for.
use Rattle.std.specs.Prelude.{ℕ, List, codes, Bool, true, false, if◌then◌else◌}
use Rattle.std.specs.Str.{bytes_eq}

-- a called name: an effect or a builtin, whose names no text may declare, or a function of the text
pub data CallKind : Type 0 where
  Joins Receives ReceivesIf Sends SendsIf : CallKind
  CountsLeading CountsTrailing Reverses AllOnes SomeOne Parity Updates : CallKind
  Calls : CallKind

abbrev pub kind_of_call : List ℕ → CallKind
kind_of_call name =
    if bytes_eq name (codes "join") then Joins
    else if bytes_eq name (codes "recv") then Receives
    else if bytes_eq name (codes "recv_if") then ReceivesIf
    else if bytes_eq name (codes "send") then Sends
    else if bytes_eq name (codes "send_if") then SendsIf
    else if bytes_eq name (codes "clz") then CountsLeading
    else if bytes_eq name (codes "ctz") then CountsTrailing
    else if bytes_eq name (codes "rev") then Reverses
    else if bytes_eq name (codes "and_reduce") then AllOnes
    else if bytes_eq name (codes "or_reduce") then SomeOne
    else if bytes_eq name (codes "xor_reduce") then Parity
    else if bytes_eq name (codes "update") then Updates
    else Calls

abbrev pub is_text_function : CallKind → Bool
is_text_function Calls = true
is_text_function _ = false

-- the name is a builtin's or an effect's
abbrev pub is_own_name : List ℕ → Bool
is_own_name name = is_other (kind_of_call name)
  where
    is_other : CallKind → Bool
    is_other Calls = false
    is_other _ = true
