-- Instances among others, and those that pass a test: how many they are.
use Rattle.std.proofs.Common.{◌≡◌, ◌≤◌, ◌||◌, suc, inl, inr, length, Bool, true, false, if◌then◌else◌, List, [], ◌∷◌, arith, refl, sym, ap, subst, ◌∙◌}
use mathlib.Core.Bool.{true≢false}
use Rattle.dslx_meaning.specs.Rules.TypeEnvs.{Instance, same_instance}
use Rattle.dslx_meaning.specs.Rules.ModuleRules.{is_reached}
use Rattle.dslx_core.specs.Typing.TypingRelations.Closed.{IsOneOf}
use Rattle.dslx_total.proofs.OnTables.Lists.{as_named, chosen, equal_itself, no_more, or_second}

pub or_first : (p q : Bool) → p ≡ true → (p || q) ≡ true
or_first true q e = refl
or_first false q e = absurd (true≢false (sym e))

-- one of these is found among them
pub reached_there : (i : Instance) (is : List Instance) → IsOneOf i is → is_reached i is ≡ true
reached_there i [] h = absurd h
reached_there i (x ∷ xs) (inl one) = or_first (same_instance i x) (is_reached i xs) (subst (λ z. same_instance i z ≡ true) one (equal_itself i))
reached_there i (x ∷ xs) (inr more) = or_second (same_instance i x) (is_reached i xs) (reached_there i xs more)

-- where one of them doesn't pass, they are fewer
pub fewer : (q : Instance → Bool) (i : Instance) (is : List Instance) → IsOneOf i is → q i ≡ false → suc (length (chosen q is)) ≤ length is
fewer q i [] h e = absurd h
fewer q i (x ∷ xs) h e = by_kind (q x) refl h (no_more q xs) (λ more. fewer q i xs more e)
  where
    by_kind : (b : Bool) → q x ≡ b → IsOneOf i (x ∷ xs) → length (chosen q xs) ≤ length xs → (IsOneOf i xs → suc (length (chosen q xs)) ≤ length xs) → suc (length (if b then as_named x ∷ chosen q xs else chosen q xs)) ≤ suc (length xs)
    by_kind true p (inl one) n rest = absurd (true≢false (sym p ∙ ap q (sym one) ∙ e))
    by_kind true p (inr more) n rest = let few = rest more in omega (arith, few)
    by_kind false p h n rest = omega (arith, n)
