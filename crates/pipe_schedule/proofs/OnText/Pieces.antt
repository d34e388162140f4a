-- A text to which pieces are appended.
use Rattle.std.proofs.Common.{◌≡◌, ℕ, List, ◌++◌, append_assoc, ap, ◌∙◌}

pub three_pieces : (a b c d x y z : List ℕ) → b ≡ a ++ x → c ≡ b ++ y → d ≡ c ++ z → d ≡ a ++ (x ++ (y ++ z))
three_pieces a b c d x y z e f g =
    let regroup : ((a ++ x) ++ y) ++ z ≡ a ++ (x ++ (y ++ z)) = simp append_assoc in
    g ∙ ap (λ (t : List ℕ). t ++ z) f ∙ ap (λ (t : List ℕ). (t ++ y) ++ z) e ∙ regroup
