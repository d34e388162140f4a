-- Numbers side by side inside 128 bits.
use Rattle.std.proofs.Common.{◌≡◌, ℕ, ◌+◌, ◌*◌, ◌%◌, ◌^◌, ◌<◌, ◌≤◌, ap, subst, sym, ◌∙◌, arith, bit_or}
use Rattle.std.proofs.lemmas.Nat.{pow-add, shl_whole, or_shifted}

pub or_joined_128 : (p q a b : ℕ) → a < 2 ^ p → b < 2 ^ q → p + q ≤ 128 → bit_or ((a * 2 ^ q) % 2 ^ 128) b ≡ a * 2 ^ q + b
or_joined_128 p q a b high low h = ap (λ n. bit_or n b) (shl_whole a p q 128 high h) ∙ or_shifted a q b low

-- a row of `n` places and a place in the next
place_below : (a b n m : ℕ) → a < m → b < n → a * n + b < m * n
place_below a b n m h k = grind arith

pub joined_below : (p q a b : ℕ) → a < 2 ^ p → b < 2 ^ q → a * 2 ^ q + b < 2 ^ (p + q)
joined_below p q a b high low = subst (λ n. a * 2 ^ q + b < n) (sym (pow-add 2 p q)) (place_below a b (2 ^ q) (2 ^ p) high low)
