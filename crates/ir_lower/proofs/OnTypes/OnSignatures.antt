-- What functions give, by signatures in a list.
use Rattle.std.proofs.Common.{◌≡◌, ℕ, zero, suc, ◌+◌, ◌<◌, ◌==◌, true, false, ◌&&◌, List, ◌∷◌, length, drop, get_or, Some, refl, sym, ap, ap₂, subst, ◌∙◌, arith, if◌then◌else◌, []}
use Rattle.std.specs.Prelude.{slice_get}
use Rattle.std.proofs.lemmas.Bool.Decides.{nat_tests}
use Rattle.std.proofs.lemmas.Option.{slice_get-get_or}
use Rattle.xb_value.specs.declared.ty.Ty.{Ty}
use Rattle.dslx_meaning.specs.Lists.{where_true, pairwise}
use Rattle.dslx_core.specs.Types.Typing.{FunctionTypes, is_type}
use Rattle.dslx_core.specs.Types.Designs.{FunctionSignature, and_signature, no_types, types_from}
use Rattle.dslx_core.proofs.Lemmas.Types.{type_itself, where_so}
use Rattle.ir_lower.specs.declared.types.signature.Signature.{Signature}
use Rattle.ir_lower.specs.Types.Signatures.{call_types, signature_of, signatures_of}

some_same : {A : Type 0} (x y : A) → Some x ≡ Some y → x ≡ y
some_same x y h = cc

not_same : (f n : ℕ) → f < n → (f == n) ≡ false
not_same f n h = grind (arith, nat_tests, h)

is_same : (f n : ℕ) → f ≡ n → (f == n) ≡ true
is_same f n h = grind (arith, nat_tests, h)

-- functions from a number on change nothing below it
below : (n : ℕ) (ss : List FunctionSignature) (before : FunctionTypes) (f : ℕ) (ts : List Ty) → f < n → types_from n ss before f ts ≡ before f ts
below n [] before f ts h = refl
below n (s ∷ ss) before f ts h =
    below (suc n) ss (and_signature n s before) f ts (omega (arith, h))
    ∙ ap (λ b. if b then where_true (pairwise is_type s.arguments ts) (Some s.result) else before f ts) (not_same f n h)

here : (n f : ℕ) (s : FunctionSignature) (before : FunctionTypes) (ts : List Ty) → f ≡ n → pairwise is_type s.arguments ts ≡ true → and_signature n s before f ts ≡ Some s.result
here n f s before ts same h =
    ap (λ b. if b then where_true (pairwise is_type s.arguments ts) (Some s.result) else before f ts) (is_same f n same)
    ∙ where_so (pairwise is_type s.arguments ts) (Some s.result) h

at : (n f : ℕ) (ss : List FunctionSignature) (before : FunctionTypes) (k : ℕ) (s : FunctionSignature) (ts : List Ty) → f ≡ n + k → slice_get ss k ≡ Some s → pairwise is_type s.arguments ts ≡ true → types_from n ss before f ts ≡ Some s.result
at n f [] before k s ts is there h = absurd (cc)
at n f (x ∷ ss) before zero s ts is there h =
    below (suc n) ss (and_signature n x before) f ts (omega (arith, is))
    ∙ here n f x before ts (omega (arith, is)) (subst (λ (y : FunctionSignature). pairwise is_type y.arguments ts ≡ true) (sym (some_same x s there)) h)
    ∙ ap (λ (y : FunctionSignature). Some y.result) (some_same x s there)
at n f (x ∷ ss) before (suc k) s ts is there h = at (suc n) f ss (and_signature n x before) k s ts (omega (arith, is)) there h

map_at : (ss : List Signature) (k : ℕ) (s : Signature) → slice_get ss k ≡ Some s → slice_get (signatures_of ss) k ≡ Some (signature_of s)
map_at [] k s there = absurd (cc)
map_at (x ∷ ss) zero s there = ap (λ y. Some (signature_of y)) (some_same x s there)
map_at (x ∷ ss) (suc k) s there = map_at ss k s there

-- the function of a signature gives its result for operands of its types
pub call_gives : (ss : List Signature) (k : ℕ) (s : Signature) (ts : List Ty) → slice_get ss k ≡ Some s → pairwise is_type s.arguments ts ≡ true → call_types ss k ts ≡ Some s.result
call_gives ss k s ts there h = at 0 k (signatures_of ss) no_types k (signature_of s) ts (omega arith) (map_at ss k s there) h

-- the type at an index that is there
pub at_index : {A : Type 0} (xs : List A) (i : ℕ) (x : A) → i < length xs → x ≡ get_or xs i x → slice_get xs i ≡ Some x
at_index xs i x h e = slice_get-get_or xs i x h ∙ ap Some (sym e)

-- operands of the same types
pub alike_more : (xs ys : List Ty) (i : ℕ) (x y : Ty) → drop i xs ≡ x ∷ drop (suc i) xs → drop i ys ≡ y ∷ drop (suc i) ys → x ≡ y → pairwise is_type (drop (suc i) xs) (drop (suc i) ys) ≡ pairwise is_type (drop i xs) (drop i ys)
alike_more xs ys i x y first second same =
    ap (λ b. b && pairwise is_type (drop (suc i) xs) (drop (suc i) ys)) (sym (ap (is_type x) (sym same) ∙ type_itself x)) ∙ sym (ap₂ (pairwise is_type) first second)
