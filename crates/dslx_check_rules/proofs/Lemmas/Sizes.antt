-- Capped sizes add and multiply as sizes do.
use Rattle.std.proofs.Common.{◌≡◌, ◌≤◌, ◌+◌, ◌*◌, ⊎_elim, ℕ, zero, suc, min, refl, ap, ◌∙◌, arith}
use Rattle.std.specs.Prelude.{Option, Some, None}
use Rattle.std.proofs.lemmas.Bool.{cases_lt}
use Rattle.std.proofs.Math.Nat.{mul-le-mul_right, mul_comm}
use Rattle.dslx_meaning.specs.Rules.TypeEnvs.{plus_size, one_and}
use Rattle.dslx_meaning.specs.Rules.ControlRules.{times_size}
use Rattle.dslx_check_rules.specs.Seen.{capped, most_counted}

min-plus : (c a b : ℕ) → min c (min c a + min c b) ≡ min c (a + b)
min-plus c a b = omega arith

-- past the cap, what isn't nothing is past it
past-times : (c a b : ℕ) → c ≤ a → min c (c * b) ≡ min c (a * b)
past-times c a zero h = omega arith
past-times c a (suc b) h = omega (arith, mul-le-mul_right (suc b) h)

pub min-times_left : (c a b : ℕ) → min c (min c a * b) ≡ min c (a * b)
min-times_left c a b = ⊎_elim
    (λ below. let is : min c a ≡ a = omega (arith, below) in ap (λ x. min c (x * b)) is)
    (λ above. let is : min c a ≡ c = omega (arith, above) in ap (λ x. min c (x * b)) is ∙ past-times c a b above)
    (cases_lt a c)

min-times : (c a b : ℕ) → min c (min c a * min c b) ≡ min c (a * b)
min-times c a b =
    min-times_left c a (min c b) ∙ ap (min c) (mul_comm a (min c b)) ∙ min-times_left c b a ∙ ap (min c) (mul_comm b a)

plus-capped : (x y : Option ℕ) → capped (plus_size (capped x) (capped y)) ≡ capped (plus_size x y)
plus-capped None y = refl
plus-capped (Some n) None = refl
plus-capped (Some n) (Some k) = ap Some (min-plus most_counted n k)

pub sum_capped : (a b x y : Option ℕ) → a ≡ capped x → b ≡ capped y → capped (plus_size a b) ≡ capped (plus_size x y)
sum_capped a b x y p q = (λ i. capped (plus_size (p i) (q i))) ∙ plus-capped x y

pub one_more : (x : Option ℕ) → plus_size (Some 1) x ≡ one_and x
one_more None = refl
one_more (Some n) = refl

times-capped : (x y : Option ℕ) → capped (times_size (capped x) (capped y)) ≡ capped (times_size x y)
times-capped None y = refl
times-capped (Some n) None = refl
times-capped (Some n) (Some k) = ap Some (min-times most_counted n k)

pub product_capped : (a b x y : Option ℕ) → capped a ≡ capped x → b ≡ capped y → capped (times_size (capped a) b) ≡ capped (times_size x y)
product_capped a b x y p q = (λ i. capped (times_size (p i) (q i))) ∙ times-capped x y
