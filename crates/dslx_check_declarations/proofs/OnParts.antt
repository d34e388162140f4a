-- The values of prefixes.
use Rattle.std.proofs.Common.{◌≡◌, ◌∙◌, ◌++◌, ◌∷◌, ◌<◌, ◌-◌, ◌+◌, ℕ, List, [], Option, Some, None, length, take, reverse, get_or, slice_get, append_assoc, arith, refl, sym, ap, subst}
use Rattle.std.proofs.lemmas.List.{append-nil, get_or-reverse, length-reverse}
use Rattle.dslx_meaning.specs.declared.value.DslxValue.{DslxValue}
use Rattle.dslx_check_facts.specs.Keys.{list_or_none, values_or_none}
use Rattle.dslx_check_declarations.proofs.Lemmas.Listed.{take_next}

pub longer_list : (lists : List (List (Option DslxValue))) (values pushed : List (Option DslxValue)) (n before : ℕ) (last : Option DslxValue) (whole : List (Option DslxValue)) → slice_get lists n ≡ Some (last ∷ list_or_none lists before)
    → pushed ≡ values ++ last ∷ [] → values ++ list_or_none lists n ≡ whole → pushed ++ list_or_none lists before ≡ whole
longer_list lists values pushed n before last whole at push so_far =
    ap (λ l. l ++ list_or_none lists before) push ∙ append_assoc values (last ∷ []) (list_or_none lists before) ∙ ap (λ o. values ++ values_or_none o) (sym at) ∙ so_far

pub whole_list : (lists : List (List (Option DslxValue))) (values whole : List (Option DslxValue)) (n : ℕ) → slice_get lists n ≡ Some [] → values ++ list_or_none lists n ≡ whole → values ≡ whole
whole_list lists values whole n none so_far = sym (append-nil values) ∙ ap (λ o. values ++ values_or_none o) (sym none) ∙ so_far

-- the next one of a list from its end
pub next_reversed : {A : Type 0} (xs : List A) (count i m : ℕ) (x : A) → count ≡ length xs → i < count → m ≡ count - 1 - i → x ≡ get_or xs m x → take (i + 1) (reverse xs) ≡ take i (reverse xs) ++ x ∷ []
next_reversed xs count i m x long within at is =
    take_next (reverse xs) i x (omega (arith, long, within, length-reverse xs))
    (is ∙ ap (λ k. get_or xs k x) (let same : m ≡ length xs - 1 - i = omega (arith, long, at) in same) ∙ sym (get_or-reverse xs i x (omega (arith, long, within))))
