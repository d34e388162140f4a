-- Literals of a netlist: those of numbers of so many bits.
use Rattle.std.specs.Prelude.{◌≡◌, ℕ, ◌<◌, ◌≤◌, ◌^◌, nat_lt, max, min, if◌then◌else◌, true}
use Rattle.std.proofs.Common.{arith, subst}
use Rattle.std.proofs.lemmas.Bool.{cond_both}
use Rattle.std.proofs.lemmas.Bool.Decides.{nat_tests}
use Rattle.std.proofs.lemmas.Nat.{pow_pos}
use Rattle.vlog_tree.specs.declared.expression.Atom.{Atom}
use Rattle.vlog_tree.specs.declared.expression.Atom.TheVariants as atom
use Rattle.vlog_tree.specs.declared.expression.Literal.{Literal}

-- the number, or 0 where it doesn't fit so many bits
abbrev pub number_in : ℕ → ℕ → ℕ
number_in w n = if nat_lt n (2 ^ min w 128) then n else 0

pub number_some : (w : ℕ) → 1 ≤ max 1 w
number_some w = omega arith

below_wide : (m n : ℕ) → nat_lt n m ≡ true → n < m
below_wide m n h = grind (arith, nat_tests)

pub number_fits : (w n : ℕ) → w ≤ 128 → number_in w n < 2 ^ w
number_fits w n small =
    let e : w ≡ min w 128 = omega (arith, small) in
    subst (λ k. (if nat_lt n (2 ^ k) then n else 0) < 2 ^ w) e
    (cond_both (nat_lt n (2 ^ w)) n 0 (λ v. v < 2 ^ w) (λ h. below_wide (2 ^ w) n h) (λ h. pow_pos w))

-- the literal of a number, of one bit at least
abbrev pub literal_of : ℕ → ℕ → Literal
literal_of w n = record { width = max 1 w; value = number_in (max 1 w) n; some_width = number_some w; in_range = number_fits (max 1 w) n }

abbrev pub literal_atom : ℕ → ℕ → Atom
literal_atom w n = atom.Literal (literal_of w n)
