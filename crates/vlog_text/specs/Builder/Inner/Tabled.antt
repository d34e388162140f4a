-- A table that has the index of each name.
use Rattle.std.specs.Prelude.{◌≡◌, ℕ, List, Option}
use Rattle.std.specs.Str.{bytes_eq}
use Rattle.std.specs.HashMap.{HashMap, get_by}
use denote.Ref.{Bor}
use Rattle.vlog_text.specs.Builder.Parts.{index_from}

-- what the table has for a name
abbrev pub placed : {S : Type 0} → HashMap (Bor (List ℕ)) ℕ S → List ℕ → Option ℕ
placed table q = get_by (λ k. bytes_eq q k.now) table

abbrev pub AreTabled : {S : Type 0} → List (List ℕ) → HashMap (Bor (List ℕ)) ℕ S → Type 0
AreTabled names table = (q : List ℕ) → placed table q ≡ index_from 0 names q
