-- Types that code found to be the same.
use Rattle.std.proofs.Common.{◌≡◌, ℕ, ◌+◌, ◌<◌, ◌≤◌, ◌&&◌, Bool, true, false, List, ◌∷◌, length, get_or, drop, map, Option, Some, None, Result, Ok, Err, OnOk, refl, sym, ap, ap₂, subst, ◌∙◌}
use Rattle.std.specs.Prelude.{MatchBool, IfSome}
use Rattle.std.proofs.lemmas.List.{drop_more, at_drop_all}
use Rattle.xb_value.specs.declared.ty.Ty.{Ty}
use Rattle.dslx_core.specs.Types.Typing.{all_alike, if_alike, is_type}
use Rattle.dslx_core.proofs.Lemmas.Types.{alike_itself, type_itself}
use Rattle.dslx_meaning.specs.Lists.{pairwise}
use Rattle.ir_lower.proofs.OnTypes.OnLiterals.{AlikeLeft, alike_first}

pub same_alike : (t u : Ty) → t ≡ u → if_alike t (Some u) ≡ Some t
same_alike t u e = subst (λ x. if_alike t (Some x) ≡ Some t) e (alike_itself t)

-- a test that is so only where a claim is
pub match_true : (b : Bool) (P : Type 0) → (b ≡ true → P) → MatchBool b P (Unit {0})
match_true true P f = f refl
match_true false P f = tt

pub on_ok_both : {A E : Type 0} (r : Result A E) (P Q R : Type 0) → (P → Q → R) → OnOk r P → OnOk r Q → OnOk r R
on_ok_both (Ok x) P Q R f p q = f p q
on_ok_both (Err e) P Q R f p q = tt

pub some_weaker : {A : Type 0} (o : Option A) (P Q : A → Type 0) → ((a : A) → P a → Q a) → IfSome o P → IfSome o Q
some_weaker None P Q f h = h
some_weaker (Some a) P Q f h = f a h

-- one more of a list is the same
pub alike_next : (t u : Ty) (us : List Ty) (i : ℕ) → i < length us → u ≡ get_or us i u → t ≡ u → AlikeLeft t us i → AlikeLeft t us (i + 1)
alike_next t u us i lt at same left =
    sym (alike_first t u (drop (i + 1) us) same) ∙ (ap (λ xs. all_alike t (map Some xs)) (ap (λ x. x ∷ drop (i + 1) us) at ∙ sym (drop_more us i u lt)) ∙ left)

pub alike_whole : (t : Ty) (us : List Ty) (i : ℕ) → length us ≤ i → AlikeLeft t us i → all_alike t (map Some us) ≡ Some t
alike_whole t us i most left = sym left ∙ at_drop_all (λ xs. all_alike t (map Some xs)) us i most

pub pairs_next : (xs ys : List Ty) (i : ℕ) (x y : Ty) → i < length xs → i < length ys → x ≡ get_or xs i x → y ≡ get_or ys i y → x ≡ y
    → pairwise is_type (drop (i + 1) xs) (drop (i + 1) ys) ≡ pairwise is_type (drop i xs) (drop i ys)
pairs_next xs ys i x y first second at also same =
    ap (λ b. b && pairwise is_type (drop (i + 1) xs) (drop (i + 1) ys)) (sym (ap (is_type x) (sym same) ∙ type_itself x))
    ∙ ap₂ (pairwise is_type) (ap (λ z. z ∷ drop (i + 1) xs) at ∙ sym (drop_more xs i x first)) (ap (λ z. z ∷ drop (i + 1) ys) also ∙ sym (drop_more ys i y second))
