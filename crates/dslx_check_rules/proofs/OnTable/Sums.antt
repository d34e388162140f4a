-- The measures of all parts, one after another.
use Rattle.std.proofs.Common.{◌≡◌, ◌<◌, ◌≤◌, ◌+◌, ℕ, false, List, [], ◌∷◌, length, map, drop, get_or, slice_get, Some, None, refl, sym, ap, subst, ◌∙◌}
use Rattle.std.specs.List.{All, fold}
use Rattle.std.proofs.lemmas.List.{drop_all, drop_more}
use Rattle.std.proofs.lemmas.List.Elements.{All-from_recursion}
use Rattle.std.proofs.lemmas.Option.{none-some, same_Some}
use Rattle.dslx_check_rules.specs.declared.table.measures.TypeMeasures.{TypeMeasures}
use Rattle.dslx_check_rules.specs.declared.table.row.TypeId.{TypeId}
use Rattle.dslx_check_rules.specs.declared.table.row.TypeRow.{TypeRow}
use Rattle.dslx_check_rules.specs.Inner.Measured.{begins_with_token, joined, of_parts}
use Rattle.dslx_check_rules.specs.Interned.{HasRow}

module _ (f : TypeId → TypeMeasures) (ts : List TypeId) where
  pub one_more : (i : ℕ) (d : TypeId) (all own : TypeMeasures) → i < length ts → own ≡ f (get_or ts i d)
      → fold joined all (map f (drop i ts)) ≡ of_parts (map f ts) → fold joined (joined all own) (map f (drop (i + 1) ts)) ≡ of_parts (map f ts)
  one_more i d all own h is so_far =
      ap (λ m. fold joined (joined all m) (map f (drop (i + 1) ts))) is
      ∙ sym (ap (λ us. fold joined all (map f us)) (drop_more ts i d h)) ∙ so_far

  pub at_end : (i : ℕ) (all : TypeMeasures) → length ts ≤ i → fold joined all (map f (drop i ts)) ≡ of_parts (map f ts) → all ≡ of_parts (map f ts)
  at_end i all h before = sym (ap (λ us. fold joined all (map f us)) (drop_all i ts h)) ∙ before

pub begins_so : (f : TypeId → TypeMeasures) (ts : List TypeId) (t : TypeId) → Some t ≡ slice_get ts 0 → (f t).is_token ≡ begins_with_token (map f ts)
begins_so f [] t e = absurd (none-some t (sym e))
begins_so f (u ∷ us) t e = ap (λ x. (f x).is_token) (same_Some t u e)

pub begins_not : (f : TypeId → TypeMeasures) (ts : List TypeId) → None ≡ slice_get ts 0 → false ≡ begins_with_token (map f ts)
begins_not f [] e = refl
begins_not f (u ∷ us) e = absurd (none-some u e)

pub both_there : (rows : List TypeRow) (t u : TypeId) (ts : List TypeId) → ts ≡ t ∷ u ∷ [] → HasRow rows t → HasRow rows u → All (HasRow rows) ts
both_there rows t u ts e ht hu = subst (All (HasRow rows)) (sym e) (All-from_recursion (HasRow rows) (t ∷ u ∷ []) (ht, (hu, tt)))
