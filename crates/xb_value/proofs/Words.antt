-- Flat words of lists of values, one value at a time.
use Rattle.std.proofs.Common.{◌≡◌, ℕ, suc, ◌+◌, ◌*◌, ◌^◌, ◌<◌, List, ◌∷◌, map, drop, length, get_or, ap, sym, ◌∙◌, arith, add-one, drop-cons}
use Rattle.std.proofs.lemmas.Nat.{pow-add}
use Rattle.xb_value.specs.declared.value.Value.{Value}
use Rattle.xb_value.specs.Flat.{flat_of, joined}

-- the words from a place on are the word there and the words behind it
pub joined-drop : (vs : List Value) (i : ℕ) (v : Value) → i < length vs → v ≡ get_or vs i v
    → joined (map flat_of (drop i vs)) ≡ joined (flat_of v ∷ map flat_of (drop (i + 1) vs))
joined-drop vs i v h is =
    ap (λ us. joined (map flat_of us)) (drop-cons vs i v h)
    ∙ ap (λ u. joined (flat_of u ∷ map flat_of (drop (suc i) vs))) (sym is)
    ∙ ap (λ k. joined (flat_of v ∷ map flat_of (drop k vs))) (sym (add-one i))

-- a number, a word below it, and another below that
pub beside-beside : (p w v lw lv : ℕ) → (p * 2 ^ w + v) * 2 ^ lw + lv ≡ p * 2 ^ (w + lw) + (v * 2 ^ lw + lv)
beside-beside p w v lw lv = rw (pow-add 2 w lw) (omega arith)
