-- The slots of a row up to its count.
use Rattle.std.proofs.Common.{◌≡◌, ℕ, ◌+◌, ◌<◌, ◌≤◌, List, [], ◌∷◌, ◌++◌, length, take, refl, sym, ap, ◌∙◌, arith, false, Some, set}
use Rattle.std.specs.Prelude.{nat_lt}
use Rattle.std.proofs.lemmas.Bool.Decides.{nat_tests}
use Rattle.std.proofs.lemmas.List.{take_more_set, length-take, append-nil}
use Rattle.block_stage.specs.Fifo.Fifo.{after_cycle}
use Rattle.block_stage.proofs.OnFifo.Lists.{lt_true}

not_less : (a b : ℕ) → b ≤ a → nat_lt a b ≡ false
not_less a b h = grind (arith, nat_tests)

pub one_behind : {A : Type 0} (depth n : ℕ) (slots words : List A) (w : A) → length slots ≡ depth → n < depth → take n slots ≡ words
    → take (n + 1) (set slots n w) ≡ after_cycle depth words false (Some w)
one_behind depth n slots words w l h e =
    let len = ap length (sym e) ∙ length-take n slots in
    let room = lt_true (length words) depth (omega (arith, len)) in
    take_more_set slots n w (omega arith) ∙ ap (λ z. z ++ w ∷ []) e ∙ (rw room refl)

pub none_behind : {A : Type 0} (depth n : ℕ) (slots words : List A) (w : A) → length slots ≡ depth → depth ≤ n → take n slots ≡ words
    → words ≡ after_cycle depth words false (Some w)
none_behind depth n slots words w l h e =
    let len = ap length (sym e) ∙ length-take n slots in
    let full = not_less (length words) depth (omega (arith, len)) in
    rw full (sym (append-nil words))
