-- Sets of the names that a text declares.
use Rattle.std.proofs.Common.{◌≡◌, ◌<◌, ◌≤◌, ◌+◌, ℕ, suc, Bool, true, false, ◌||◌, ◌&&◌, cond, List, ◌∷◌, drop, length, get_or, refl, ap, sym, ◌∙◌, add-one, bytes_eq}
use Rattle.std.proofs.Math.Seq.{drop-cons}
use Rattle.std.proofs.Math.ListN.{drop_of_length-le}
use Rattle.dslx_token.specs.declared.rules.generated.kind.TheConstants.{END}
use Rattle.dslx_token.specs.Kinds.{declares}
use Rattle.dslx_token.specs.Lexeme.{Lexeme}

pub cond_is_or : (a b : Bool) → cond a true b ≡ (a || b)
cond_is_or true b = refl
cond_is_or false b = refl

moved : (had passes later : Bool) → ((passes || had) || later) ≡ (had || (passes || later))
moved true true later = refl
moved true false later = refl
moved false true later = refl
moved false false later = refl

or_false : (b : Bool) → (b || false) ≡ b
or_false true = refl
or_false false = refl

-- a token more is noted
pub one_noted : (heads : ℕ → Bool) (before kind i : ℕ) (all : List Lexeme) (l : Lexeme) (name q : List ℕ) (had has : Bool) → i < length all → l ≡ get_or all i l → kind ≡ l.kind → name ≡ l.bytes → has ≡ ((heads before && bytes_eq name q) || had) → (had || declares heads before (drop i all) q) ≡ declares heads END all q → (has || declares heads kind (drop (i + 1) all) q) ≡ declares heads END all q
one_noted heads before kind i all l name q had has within item kind_is name_is noted so_far =
    let split : drop i all ≡ l ∷ drop (suc i) all = drop-cons all i l within ∙ ap (λ x. x ∷ drop (suc i) all) (sym item) in
    ap (λ b. b || declares heads kind (drop (i + 1) all) q) (noted ∙ ap (λ n. (heads before && bytes_eq n q) || had) name_is)
    ∙ ap (λ k. ((heads before && bytes_eq l.bytes q) || had) || declares heads k (drop (i + 1) all) q) kind_is
    ∙ ap (λ j. ((heads before && bytes_eq l.bytes q) || had) || declares heads l.kind (drop j all) q) (add-one i)
    ∙ moved had (heads before && bytes_eq l.bytes q) (declares heads l.kind (drop (suc i) all) q)
    ∙ ap (λ t. had || declares heads before t q) (sym split)
    ∙ so_far

-- all of them are
pub all_noted : (heads : ℕ → Bool) (before i : ℕ) (all : List Lexeme) (q : List ℕ) (had : Bool) → length all ≤ i → (had || declares heads before (drop i all) q) ≡ declares heads END all q → had ≡ declares heads END all q
all_noted heads before i all q had past so_far =
    sym (or_false had) ∙ ap (λ t. had || declares heads before t q) (sym (drop_of_length-le all past)) ∙ so_far
