-- How many items a list has, by its last ones.
use Rattle.std.proofs.Common.{◌≡◌, ◌≢◌, ◌+◌, ℕ, zero, suc, List, [], ◌∷◌, ◌++◌, length, refl, sym, ap, ◌∙◌, arith}
use Rattle.std.proofs.lemmas.List.{length-append}

behind : {A : Type 0} (items rest : List A) (a : A) → items ≡ rest ++ a ∷ [] → length items ≡ length rest + 1
behind items rest a h = ap length h ∙ length-append rest (a ∷ [])

-- ---- one

pub one_is : {A : Type 0} (items rest : List A) (one : A) → items ≡ rest ++ one ∷ [] → length rest ≡ 0 → items ≡ one ∷ []
one_is items [] one h none = h
one_is items (a ∷ rest) one h none = absurd (omega (arith, none))

pub none_is_one : {A : Type 0} (items : List A) → items ≡ [] → length items ≢ 1
none_is_one items h one = let n = ap length h in omega (arith, n, one)

pub more_than_one : {A : Type 0} (items rest : List A) (one : A) → items ≡ rest ++ one ∷ [] → length rest ≢ 0 → length items ≢ 1
more_than_one items rest last h some one = let n = behind items rest last h in some (omega (arith, n, one))

-- ---- three

pub three_are : {A : Type 0} (items two one : List A) (first second third : A) → items ≡ two ++ third ∷ [] → two ≡ one ++ second ∷ [] → one ≡ first ∷ [] → items ≡ first ∷ second ∷ third ∷ []
three_are items two one first second third h i j = h ∙ ap (λ xs. xs ++ third ∷ []) (i ∙ ap (λ xs. xs ++ second ∷ []) j)

pub none_are_three : {A : Type 0} (items : List A) → items ≡ [] → length items ≢ 3
none_are_three items h three = let n = ap length h in omega (arith, n, three)

pub one_is_not_three : {A : Type 0} (items two : List A) (third : A) → items ≡ two ++ third ∷ [] → two ≡ [] → length items ≢ 3
one_is_not_three items two third h i three = let n = behind items two third h in let m = ap length i in omega (arith, n, m, three)

pub others_are_not_three : {A : Type 0} (items two one : List A) (second third : A) → items ≡ two ++ third ∷ [] → two ≡ one ++ second ∷ [] → length one ≢ 1 → length items ≢ 3
others_are_not_three items two one second third h i other three =
    let n = behind items two third h in let m = behind two one second i in other (omega (arith, n, m, three))
