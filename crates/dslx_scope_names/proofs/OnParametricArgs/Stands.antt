-- Parametrics that stand, in either order.
use Rattle.std.proofs.Common.{◌≡◌, ◌∙◌, ◌&&◌, Bool, true, false, not, List, [], ◌∷◌, reverse, refl, sym, ap}
use Rattle.std.specs.List.{list_all}
use Rattle.std.proofs.lemmas.List.{reverse-append}
use Rattle.std.proofs.lemmas.List.Folds.{list_all-append}
use Rattle.dslx_meaning.specs.Environment.{Given, Meanings}
use Rattle.dslx_meaning.specs.Values.{type_of_value}
use Rattle.dslx_core.specs.Typing.Typed.Kinds.{is_of}

-- it has no constant's name, and a value of its own type
abbrev pub stands : Meanings → Given → Bool
stands items g = not (items.is_constant g.name) && is_of (type_of_value g.value) g.value

swapped : (a b : Bool) → (a && b) ≡ (b && (a && true))
swapped true true = refl
swapped true false = refl
swapped false true = refl
swapped false false = refl

pub all_reversed : {A : Type 0} (test : A → Bool) (xs : List A) → list_all test xs ≡ list_all test (reverse xs)
all_reversed test [] = refl
all_reversed test (x ∷ xs) =
    ap (λ b. test x && b) (all_reversed test xs) ∙ swapped (test x) (list_all test (reverse xs)) ∙ sym (list_all-append test (reverse xs) (x ∷ []))
    ∙ ap (list_all test) (sym (reverse-append (x ∷ []) xs))
