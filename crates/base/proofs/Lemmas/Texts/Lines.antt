-- The lines of a text lie within it.
use Rattle.std.proofs.Common.{◌≡◌, ◌==◌, ℕ, suc, ◌+◌, ◌≤◌, List, [], ◌∷◌, length, Bool, true, false, if◌then◌else◌, subst, arith}
use Rattle.base.specs.Texts.Lines.{lines_of, positioned, before_lines}

-- each line ends at this place or before
abbrev pub EndWithin : ℕ → List (ℕ × List ℕ) → Type 0
EndWithin end [] = Unit {0}
EndWithin end (line ∷ lines) = (line.0 + length line.1 ≤ end) × EndWithin end lines

within_more : (at end c : ℕ) (lines : List (List ℕ)) → at + 1 ≤ end → EndWithin end (positioned (at + 1) lines) → EndWithin end (positioned at (before_lines c lines))
within_more at end c [] room all = (omega arith, tt)
within_more at end c (line ∷ lines) room all =
    let next : at + 1 + length line + 1 ≡ at + suc (length line) + 1 = omega arith in
    let first = all.0 in
    (omega arith, subst (λ k. EndWithin end (positioned k lines)) next all.1)

pub lines-within : (at end : ℕ) (text : List ℕ) → at + length text ≤ end → EndWithin end (positioned at (lines_of text))
lines-within at end [] room = tt
lines-within at end (c ∷ cs) room = by_case (c == 10) (lines-within (at + 1) end cs (omega arith))
  where
    by_case : (t : Bool) → EndWithin end (positioned (at + 1) (lines_of cs)) → EndWithin end (positioned at (if t then ([] ∷ lines_of cs) else (before_lines c (lines_of cs))))
    by_case true all =
        let next : at + 1 ≡ at + 0 + 1 = omega arith in
        (omega arith, subst (λ k. EndWithin end (positioned k (lines_of cs))) next all)
    by_case false all = within_more at end c (lines_of cs) (omega arith) all
