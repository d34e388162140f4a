-- What a parsed text is made of while it is read: names with their spans, widths, literals, and signals by name.
use Rattle.std.specs.Prelude.{ℕ, suc, ◌+◌, ◌≤◌, ◌^◌, ◌&&◌, nat_le, nat_lt, min, max, if◌then◌else◌, List, [], ◌∷◌, Option, None, Some, unwrap_or}
use Rattle.std.specs.Str.{bytes_eq, is_utf8}
use Rattle.std.proofs.Common.{arith}
use Rattle.xb_span.specs.declared.span.Span.{Span}
use Rattle.vlog_tree.specs.declared.expression.Literal.{Literal}
use Rattle.vlog_text.specs.Token.TokenPrefixes.{width_said, value_said}
use Rattle.vlog_text.specs.Builder.Inner.Literals.{literal_some, literal_fits}

-- a name in a text
pub record Named : Type 0 where
  pub span : Span
  pub name : List ℕ

-- the bytes of a name, which are ASCII
abbrev pub name_text : List ℕ → List ℕ
name_text bytes = if is_utf8 bytes then bytes else []

-- ---- numbers

-- numbers past 2^64 - 1 count as that one
abbrev pub most : ℕ
most = 18446744073709551615

-- the width of a range `[N:0]`, and without one
abbrev pub range_width : Option ℕ → ℕ
range_width None = 1
range_width (Some high) = min (high + 1) most

pub range_some : (range : Option ℕ) → 1 ≤ range_width range
range_some None = omega arith
range_some (Some high) = omega arith

-- a literal `N'dV`, of which no value is kept where N is past 128
abbrev pub literal_width : ℕ → ℕ
literal_width width = max 1 width

abbrev pub literal_value : ℕ → ℕ → ℕ
literal_value width value = if nat_le width 128 && nat_lt value (2 ^ width) then value else 0

abbrev pub literal_said : ℕ → ℕ → Literal
literal_said width value =
    record { width = literal_width width; value = literal_value width value; some_width = literal_some width; in_range = literal_fits width value }

abbrev pub literal_of : List ℕ → Literal
literal_of bytes = literal_said (min (width_said bytes) most) (value_said bytes)

-- ---- signals

-- the number of what has no port and no declaration: past all others
abbrev pub undeclared : ℕ
undeclared = 4294967295

-- the index of the first of these names that is q, where the first one has index i
abbrev pub index_from : ℕ → List (List ℕ) → List ℕ → Option ℕ
index_from i [] q = None
index_from i (name ∷ names) q = if bytes_eq q name then Some (min i undeclared) else index_from (suc i) names q

-- the signal of a name, where the ports and declarations have these names
abbrev pub signal_of : List (List ℕ) → List ℕ → ℕ
signal_of names q = unwrap_or (index_from 0 names q) undeclared
