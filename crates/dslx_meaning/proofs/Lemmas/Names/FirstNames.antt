-- Names that were bound first, behind others.
use Rattle.std.proofs.Common.{◌≡◌, ◌-◌, ℕ, List, [], ◌∷◌, ◌++◌, drop, length, refl, ap, ◌∙◌, arith}
use Rattle.std.proofs.lemmas.List.{length-append}
use Rattle.dslx_meaning.specs.Names.FirstNames.{first_names}

pub drop_prefix : {T : Type 0} (a b : List T) → drop (length a) (a ++ b) ≡ b
drop_prefix [] b = refl
drop_prefix (x ∷ xs) b = drop_prefix xs b

-- behind names that were bound last
pub back_to : (names bound : List (List ℕ)) → first_names (length bound) (names ++ bound) ≡ bound
back_to names bound =
    let more : length (names ++ bound) - length bound ≡ length names = omega (arith, length-append names bound) in
    ap (λ (m : ℕ). drop m (names ++ bound)) more ∙ drop_prefix names bound
