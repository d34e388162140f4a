-- The parts of an item are no longer than the item.
use Rattle.std.proofs.Common.{◌≡◌, ◌≤◌, ℕ, zero, suc, Bool, true, false, List, [], ◌∷◌, take, drop, length, refl, sym, ap, ◌∙◌, subst, arith}
use Rattle.std.specs.Prelude.{if◌then◌else◌, ◌==◌, bytes_eq, codes}
use Rattle.base.specs.Texts.Words.{is_word}
use Rattle.cycle_sim.specs.Rows.Forms.{ItemForm, form_behind, item_form, name_len, no_item, offers, readies}

-- the text of a form is no longer than this
IsShort : ℕ → ItemForm → Type 0
IsShort n (offers name text) = length text ≤ n
IsShort n (readies name) = Unit {0}
IsShort n no_item = Unit {0}

short_behind : (n : ℕ) (name behind : List ℕ) → length behind ≤ n → IsShort n (form_behind name behind)
unfolding IsShort
short_behind n name [] h = tt
short_behind n name (c ∷ cs) h = go (c == 61) (bytes_eq (c ∷ cs) (codes "!"))
  where
    go : (a b : Bool) → IsShort n (if a then offers name cs else if b then readies name else no_item)
    go true b = omega (arith, h)
    go false true = tt
    go false false = tt

drop_short : (k : ℕ) (xs : List ℕ) → length (drop k xs) ≤ length xs
drop_short zero xs = omega arith
drop_short (suc k) [] = omega arith
drop_short (suc k) (x ∷ xs) = omega (arith, drop_short k xs)

item_short : (piece : List ℕ) → IsShort (length piece) (item_form piece)
unfolding IsShort
item_short piece = go (is_word (take (name_len piece) piece))
  where
    go : (b : Bool) → IsShort (length piece) (if b then form_behind (take (name_len piece) piece) (drop (name_len piece) piece) else no_item)
    go true = short_behind (length piece) (take (name_len piece) piece) (drop (name_len piece) piece) (drop_short (name_len piece) piece)
    go false = tt

pub text_short : (piece name text : List ℕ) → item_form piece ≡ offers name text → length text ≤ length piece
unfolding IsShort
text_short piece name text e = subst (IsShort (length piece)) e (item_short piece)
