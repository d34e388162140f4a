-- The bytes of a text are no marks.
use Rattle.std.proofs.Common.{◌≡◌, ◌<◌, ◌&&◌, ◌+◌, ◌*◌, ◌/◌, ◌%◌, ℕ, Bool, true, false, List, [], ◌∷◌, ◌++◌, refl, subst, arith}
use Rattle.std.specs.List.{AllByRecursion}
use Rattle.std.specs.Str.{IsUtf8}
use Rattle.std.specs.Cmp.{first_so, second_so}
use Rattle.std.proofs.lemmas.Bool.{ltb-true}
use lib.Utf8.{scalar, scalars, encode, encodes, next, scalar_cases}
use lib.Dec.{ltb}
use mathlib.Core.Bool.{cond}
use mathlib.Core.Logic.{⊎_elim}
use Rattle.dslx_check_facts.specs.Names.{IsUnmarked}

low : (c : ℕ) → scalar c ≡ true → c < 1114112
low c e = ⊎_elim (λ h. omega (arith, h)) (λ h. h.1) (scalar_cases c e)

continuation : (c : ℕ) → next c < 256
continuation c = omega arith

of_four : (c : ℕ) → c < 1114112 → IsUnmarked ((240 + c / 262144) ∷ next (c / 4096) ∷ next (c / 64) ∷ next c ∷ [])
of_four c h = (omega (arith, h), (continuation (c / 4096), (continuation (c / 64), (continuation c, tt))))

of_three : (b : Bool) (c : ℕ) → c < 1114112 → ltb c 65536 ≡ b
    → IsUnmarked (cond b ((224 + c / 4096) ∷ next (c / 64) ∷ next c ∷ []) ((240 + c / 262144) ∷ next (c / 4096) ∷ next (c / 64) ∷ next c ∷ []))
of_three true c h e = let l = ltb-true c 65536 e in (omega (arith, l), (continuation (c / 64), (continuation c, tt)))
of_three false c h e = of_four c h

of_two : (b : Bool) (c : ℕ) → c < 1114112 → ltb c 2048 ≡ b
    → IsUnmarked (cond b ((192 + c / 64) ∷ next c ∷ []) (cond (ltb c 65536) ((224 + c / 4096) ∷ next (c / 64) ∷ next c ∷ []) ((240 + c / 262144) ∷ next (c / 4096) ∷ next (c / 64) ∷ next c ∷ [])))
of_two true c h e = let l = ltb-true c 2048 e in (omega (arith, l), (continuation c, tt))
of_two false c h e = of_three (ltb c 65536) c h refl

of_one : (b : Bool) (c : ℕ) → c < 1114112 → ltb c 128 ≡ b
    → IsUnmarked (cond b (c ∷ []) (cond (ltb c 2048) ((192 + c / 64) ∷ next c ∷ []) (cond (ltb c 65536) ((224 + c / 4096) ∷ next (c / 64) ∷ next c ∷ []) ((240 + c / 262144) ∷ next (c / 4096) ∷ next (c / 64) ∷ next c ∷ []))))
of_one true c h e = let l = ltb-true c 128 e in (omega (arith, l), tt)
of_one false c h e = of_two (ltb c 2048) c h refl

of_char : (c : ℕ) → c < 1114112 → IsUnmarked (encode c)
unfolding encode
of_char c h = of_one (ltb c 128) c h refl

appended : (xs ys : List ℕ) → IsUnmarked xs → IsUnmarked ys → IsUnmarked (xs ++ ys)
appended [] ys h k = k
appended (x ∷ xs) ys h k = (h.0, appended xs ys h.1 k)

of_all : (cs : List ℕ) → scalars cs ≡ true → IsUnmarked (encodes cs)
of_all [] e = tt
of_all (c ∷ cs) e = appended (encode c) (encodes cs) (of_char c (low c (first_so (scalar c) (scalars cs) e))) (of_all cs (second_so (scalar c) (scalars cs) e))

pub unmarked_text : (bs : List ℕ) → IsUtf8 bs → IsUnmarked bs
unmarked_text bs u = subst IsUnmarked u.1.1 (of_all u.0 u.1.0)
