-- Lists of what each part makes, one after another.
use Rattle.std.proofs.Common.{◌≡◌, ◌∙◌, ◌<◌, ◌≤◌, ◌+◌, ℕ, suc, List, [], ◌∷◌, ◌++◌, Option, Some, None, drop, length, get_or, map, refl, sym, ap, arith}
use Rattle.std.proofs.Math.ListN.{drop_of_length-le}
use Rattle.std.proofs.Math.Seq.{drop-cons}
use Rattle.dslx_meaning.specs.Items.{put_first}
use Rattle.dslx_meaning.specs.Lists.{all_some, with_both}
use Rattle.dslx_scope_names.proofs.Lemmas.Numbers.InOrder.{behind, behind_all, behind_more, behind_none}

-- what all of some parts make
module _ {A B : Type 0} (all : List A → Option (List B)) (xs : List A) (i : ℕ) where
  opened : (x : A) → i < length xs → x ≡ get_or xs i x → all (drop i xs) ≡ all (x ∷ drop (suc i) xs)
  opened x within at = ap all (drop-cons xs i x within ∙ ap (λ (y : A). y ∷ drop (suc i) xs) (sym at))

  -- those that are left, where the next one is done
  left : (bs : List B) → behind bs (all (drop (i + 1) xs)) ≡ behind bs (all (drop (suc i) xs))
  left bs = let next : i + 1 ≡ suc i = omega arith in ap (λ (n : ℕ). behind bs (all (drop n xs))) next

  -- the next one makes something
  pub next_made : (x : A) (bs : List B) (b : B) → i < length xs → x ≡ get_or xs i x → ((rest : List A) → all (x ∷ rest) ≡ put_first b (all rest))
      → behind (bs ++ b ∷ []) (all (drop (i + 1) xs)) ≡ behind bs (all (drop i xs))
  next_made x bs b within at makes =
      left (bs ++ b ∷ []) ∙ behind_more bs b (all (drop (suc i) xs))
      ∙ ap (behind bs) (sym (makes (drop (suc i) xs)) ∙ sym (opened x within at))

  -- the next one makes nothing, and is none of those that have to
  pub next_passed : (x : A) (bs : List B) → i < length xs → x ≡ get_or xs i x → ((rest : List A) → all (x ∷ rest) ≡ all rest)
      → behind bs (all (drop (i + 1) xs)) ≡ behind bs (all (drop i xs))
  next_passed x bs within at passes = left bs ∙ ap (behind bs) (sym (passes (drop (suc i) xs)) ∙ sym (opened x within at))

  -- the next one makes nothing, but has to
  pub next_missing : (x : A) (bs : List B) → i < length xs → x ≡ get_or xs i x → ((rest : List A) → all (x ∷ rest) ≡ None) → None ≡ behind bs (all (drop i xs))
  next_missing x bs within at none = sym (behind_none bs) ∙ ap (behind bs) (sym (none (drop (suc i) xs)) ∙ sym (opened x within at))

  -- none is left
  pub all_made : (bs : List B) → length xs ≤ i → all [] ≡ Some [] → Some bs ≡ behind bs (all (drop i xs))
  all_made bs past none = sym (behind_all bs) ∙ ap (behind bs) (sym none ∙ ap all (sym (drop_of_length-le xs past)))

-- ---- what each part makes of itself

module _ {A B : Type 0} (f : A → Option B) where
  pub some_first : (x : A) (b : B) → f x ≡ Some b → (rest : List A) → all_some (map f (x ∷ rest)) ≡ put_first b (all_some (map f rest))
  some_first x b is rest = ap (λ (o : Option B). all_some (o ∷ map f rest)) is

  pub none_first : (x : A) → f x ≡ None → (rest : List A) → all_some (map f (x ∷ rest)) ≡ None
  none_first x is rest = ap (λ (o : Option B). all_some (o ∷ map f rest)) is

-- what a part makes, before what the others make
abbrev pub with_rest : {A : Type 0} → Option A → Option (List A) → Option (List A)
with_rest o rest = with_both o rest (λ b bs. Some (b ∷ bs))

some_with_rest : {A : Type 0} (b : A) (rest : Option (List A)) → with_rest (Some b) rest ≡ put_first b rest
some_with_rest b None = refl
some_with_rest b (Some bs) = refl

pub made_first : {A : Type 0} (o : Option A) (b : A) (rest : Option (List A)) → o ≡ Some b → with_rest o rest ≡ put_first b rest
made_first o b rest is = ap (λ p. with_rest p rest) is ∙ some_with_rest b rest

pub missing_first : {A : Type 0} (o : Option A) (rest : Option (List A)) → o ≡ None → with_rest o rest ≡ None
missing_first o rest is = ap (λ p. with_rest p rest) is
