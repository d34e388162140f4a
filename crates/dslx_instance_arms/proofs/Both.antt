-- The bounds of a loop, and what is made of both.
use Rattle.std.proofs.Common.{◌≡◌, Option, Some, None, refl, sym, ap}
use Rattle.dslx_core.proofs.Lemmas.Typing.Typed.{none_some, same_some}
use Rattle.dslx_meaning.specs.Lists.{with_both}
use Rattle.dslx_meaning.specs.declared.value.SignedWord.{SignedWord}
use Rattle.dslx_core.specs.Machines.Machine.Tasks.{OpenBody}

abbrev pair_of : SignedWord → SignedWord → Option (SignedWord × SignedWord)
pair_of a b = Some (a, b)

-- both are there
pub both_there : (l r : Option SignedWord) (f : SignedWord → SignedWord → Option OpenBody) (a b : SignedWord) → Some (a, b) ≡ with_both l r pair_of → f a b ≡ with_both l r f
both_there (Some x) (Some y) f a b h = ap (λ (p : SignedWord × SignedWord). f p.0 p.1) (same_some (a, b) (x, y) h)
both_there (Some x) None f a b h = none_some (a, b) (sym h)
both_there None r f a b h = none_some (a, b) (sym h)

-- one is missing
pub both_missing : (l r : Option SignedWord) (f : SignedWord → SignedWord → Option OpenBody) → None ≡ with_both l r pair_of → None ≡ with_both l r f
both_missing (Some x) (Some y) f h = none_some (x, y) h
both_missing (Some x) None f h = refl
both_missing None r f h = refl
