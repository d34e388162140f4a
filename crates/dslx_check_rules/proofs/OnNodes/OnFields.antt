-- Names of fields, one after another.
use Rattle.std.proofs.Common.{◌≡◌, ◌∙◌, ◌++◌, ◌∷◌, ◌||◌, [], List, ℕ, Bool, true, false, not, Option, Some, None, is_some, refl, sym, ap, append_assoc}
use Rattle.std.specs.Prelude.{if◌then◌else◌}
use Rattle.std.specs.Cmp.{both_ways}
use Rattle.std.specs.List.{list_any}
use Rattle.std.specs.Str.{bytes_eq}
use Rattle.std.proofs.lemmas.List.{append-nil}
use Rattle.std.proofs.lemmas.Slice.Eq.{bytes_eq-Decides}
use Rattle.base.specs.NameTable.Found.{or_else}
use Rattle.dslx_tree.specs.declared.ident.Ident.{Ident}
use Rattle.dslx_meaning.specs.Lists.{is_in}
use Rattle.dslx_meaning.specs.Rules.TypeEnvs.{breaks_if}
use Rattle.dslx_meaning.specs.Rules.AggregateRules.{has_twice}
use Rattle.dslx_meaning.specs.Rules.RuleNumbers as rule
use Rattle.dslx_check_rules.specs.Nodes.Nodes.Structs.{unknown_idents}

pub seen_next : (o : Option Bool) (b v : Bool) → is_some (or_else o (if b then Some v else None)) ≡ (is_some o || b)
seen_next None true v = refl
seen_next None false v = refl
seen_next (Some w) b v = refl

or_grouped : (a b c : Bool) → (a || (b || c)) ≡ ((a || b) || c)
or_grouped true b c = refl
or_grouped false b c = refl

or_false : (a : Bool) → (a || false) ≡ a
or_false true = refl
or_false false = refl

if_or : (b c : Bool) → (if b then true else c) ≡ (b || c)
if_or true c = refl
if_or false c = refl

or_swapped : (a b c d : Bool) → ((a || b) || (c || d)) ≡ ((a || c) || (b || d))
or_swapped true b c d = refl
or_swapped false true true d = refl
or_swapped false true false d = refl
or_swapped false false c d = refl

pub is_in_next : (name : List ℕ) (ns : List (List ℕ)) (n : List ℕ) → is_in name (ns ++ n ∷ []) ≡ (is_in name ns || bytes_eq name n)
is_in_next name [] n = if_or (bytes_eq name n) false ∙ or_false (bytes_eq name n)
is_in_next name (m ∷ ns) n =
    if_or (bytes_eq name m) (is_in name (ns ++ n ∷ [])) ∙ ap (λ b. bytes_eq name m || b) (is_in_next name ns n)
    ∙ or_grouped (bytes_eq name m) (is_in name ns) (bytes_eq name n) ∙ ap (λ b. b || bytes_eq name n) (sym (if_or (bytes_eq name m) (is_in name ns)))

same_back : (m n : List ℕ) → bytes_eq m n ≡ bytes_eq n m
same_back m n = both_ways (bytes_eq m n) (bytes_eq n m)
    (λ e. (bytes_eq-Decides n m).1 (sym ((bytes_eq-Decides m n).0 e))) (λ e. (bytes_eq-Decides m n).1 (sym ((bytes_eq-Decides n m).0 e)))

pub twice_next : (ns : List (List ℕ)) (n : List ℕ) → has_twice (ns ++ n ∷ []) ≡ (has_twice ns || is_in n ns)
twice_next [] n = refl
twice_next (m ∷ ns) n =
    (λ i. is_in_next m ns n i || twice_next ns n i) ∙ or_swapped (is_in m ns) (bytes_eq m n) (has_twice ns) (is_in n ns)
    ∙ ap (λ b. (is_in m ns || has_twice ns) || (b || is_in n ns)) (same_back m n) ∙ ap (λ b. (is_in m ns || has_twice ns) || b) (sym (if_or (bytes_eq n m) (is_in n ns)))

pub unknown_next : (declared : List (List ℕ)) (is : List Ident) (i : Ident)
    → unknown_idents declared (is ++ i ∷ []) ≡ unknown_idents declared is ++ breaks_if (not (is_in i.name declared)) rule.NAME_IS_DECLARED i.span
unknown_next declared [] i = append-nil (breaks_if (not (is_in i.name declared)) rule.NAME_IS_DECLARED i.span)
unknown_next declared (j ∷ is) i =
    ap (λ fs. breaks_if (not (is_in j.name declared)) rule.NAME_IS_DECLARED j.span ++ fs) (unknown_next declared is i)
    ∙ sym (append_assoc (breaks_if (not (is_in j.name declared)) rule.NAME_IS_DECLARED j.span) (unknown_idents declared is) (breaks_if (not (is_in i.name declared)) rule.NAME_IS_DECLARED i.span))

pub any_next : {A : Type 0} (f : A → Bool) (as' : List A) (a : A) → list_any f (as' ++ a ∷ []) ≡ (list_any f as' || f a)
any_next f [] a = or_false (f a)
any_next f (b ∷ as') a = ap (λ x. f b || x) (any_next f as' a) ∙ or_grouped (f b) (list_any f as') (f a)
