-- What functions give by their signatures.
use Rattle.std.proofs.Common.{◌≡◌, ◌==◌, ◌+◌, ◌<◌, ◌++◌, ◌&&◌, ℕ, zero, suc, Bool, true, false, if◌then◌else◌, List, [], ◌∷◌, map, length, Some, refl, sym, ap, ◌∙◌, arith}
use Rattle.std.specs.Prelude.{slice_get}
use Rattle.std.specs.List.{list_all}
use Rattle.std.proofs.lemmas.Bool.Decides.{nat_tests}
use Rattle.xb_value.specs.declared.ty.Ty.{Ty}
use Rattle.xb_value.proofs.Lemmas.Types.{EachHas}
use Rattle.xb_value.proofs.Lemmas.Types as types
use Rattle.dslx_meaning.specs.Lists.{pairwise, where_true}
use Rattle.dslx_meaning.specs.Types.{plain_type}
use Rattle.dslx_meaning.specs.declared.ty.DslxType.{DslxType}
use Rattle.dslx_core.proofs.Lemmas.Typing.Laws.{and_true}
use Rattle.dslx_core.proofs.Lemmas.Typing.Typed.{none_some, same_some, type_induction}
use Rattle.dslx_core.specs.Types.Designs.{FunctionSignature, and_signature, is_sound, sound_step, types_from}
use Rattle.dslx_core.specs.Types.Typing.{FunctionTypes, is_type}
use Rattle.dslx_core.proofs.Lemmas.Types.{type_itself}
use Rattle.dslx_total.specs.Typed.Scopes.{is_sound_type}
use Rattle.dslx_total.proofs.OnTyped.OnTypes.{plain_array, plain_bits, plain_enum, plain_struct, plain_token, plain_tuple, positive, sound_array, sound_bits, sound_enum, sound_struct, sound_tuple}

-- ---- by their numbers

-- one below these numbers
below_them : (n : ℕ) (ss : List FunctionSignature) (before : FunctionTypes) (f : ℕ) (ts : List Ty) → f < n → types_from n ss before f ts ≡ before f ts
below_them n [] before f ts less = refl
below_them n (s ∷ ss) before f ts less =
    let more : f < suc n = omega (arith, less) in
    let other : (f == n) ≡ false = grind (arith, nat_tests, less) in
    below_them (suc n) ss (and_signature n s before) f ts more ∙ ap (λ b. if b then where_true (pairwise is_type s.arguments ts) (Some s.result) else before f ts) other

-- one of them
pub one_of_them : (n : ℕ) (ss : List FunctionSignature) (before : FunctionTypes) (j : ℕ) (s : FunctionSignature) (ts : List Ty) → slice_get ss j ≡ Some s → types_from n ss before (n + j) ts ≡ where_true (pairwise is_type s.arguments ts) (Some s.result)
one_of_them n [] before j s ts e = none_some s e
one_of_them n (r ∷ ss) before zero s ts e =
    let less : n + 0 < suc n = omega arith in
    let own : (n + 0 == n) ≡ true = grind (arith, nat_tests) in
    below_them (suc n) ss (and_signature n r before) (n + 0) ts less
    ∙ ap (λ b. if b then where_true (pairwise is_type r.arguments ts) (Some r.result) else before (n + 0) ts) own
    ∙ ap (λ (x : FunctionSignature). where_true (pairwise is_type x.arguments ts) (Some x.result)) (same_some r s e)
one_of_them n (r ∷ ss) before (suc j) s ts e = ap (λ k. types_from (suc n) ss (and_signature n r before) k ts) (omega arith) ∙ one_of_them (suc n) ss (and_signature n r before) j s ts e

-- one more behind them
pub one_signature_more : (n : ℕ) (ss : List FunctionSignature) (s : FunctionSignature) (before : FunctionTypes) → types_from n (ss ++ s ∷ []) before ≡ and_signature (n + length ss) s (types_from n ss before)
one_signature_more n [] s before = ap (λ k. and_signature k s before) (omega arith)
one_signature_more n (r ∷ ss) s before = one_signature_more (suc n) ss s (and_signature n r before) ∙ ap (λ k. and_signature k s (types_from (suc n) ss (and_signature n r before))) (omega arith)

pub own_operands : (ts : List Ty) → pairwise is_type ts ts ≡ true
own_operands [] = refl
own_operands (t ∷ ts) = λ i. type_itself t i && own_operands ts i

-- ---- sound types

abbrev IsPlainSound : DslxType → Type 0
IsPlainSound t = is_sound_type t ≡ true → is_sound (plain_type t) ≡ true

each_plain : (ts : List DslxType) → EachHas IsPlainSound ts → list_all (λ b. b) (map is_sound_type ts) ≡ true → list_all (λ b. b) (map is_sound (map plain_type ts)) ≡ true
each_plain [] h e = refl
each_plain (t ∷ ts) h e =
    let q = and_true (is_sound_type t) (list_all (λ b. b) (map is_sound_type ts)) e in
    λ i. h.0 q.0 i && each_plain ts h.1 q.1 i

pub plain_sound : (t : DslxType) → IsPlainSound t
plain_sound = type_induction IsPlainSound
    (λ s w e. ap is_sound (plain_bits s w) ∙ types.fold-Bits Bool sound_step w ∙ sym (sound_bits s w) ∙ e)
    (λ ts h e. ap is_sound (plain_tuple ts) ∙ types.fold-Tuple Bool sound_step (map plain_type ts) ∙ each_plain ts h (sym (sound_tuple ts) ∙ e))
    (λ t n h e.
    let q = and_true _ (is_sound_type t) (sym (sound_array t n) ∙ e) in
    ap is_sound (plain_array t n) ∙ types.fold-Array Bool sound_step (plain_type t) n ∙ (λ i. positive n q.0 i && h q.1 i))
    (λ name fields ts h e. ap is_sound (plain_struct name fields ts) ∙ types.fold-Tuple Bool sound_step (map plain_type ts) ∙ each_plain ts h (sym (sound_struct name fields ts) ∙ e))
    (λ name s w e. ap is_sound (plain_enum name s w) ∙ types.fold-Bits Bool sound_step w ∙ sym (sound_enum name s w) ∙ e)
    (λ e. ap is_sound plain_token ∙ types.fold-Tuple Bool sound_step [])

pub all_plain_sound : (ts : List DslxType) → list_all is_sound_type ts ≡ true → list_all is_sound (map plain_type ts) ≡ true
all_plain_sound [] e = refl
all_plain_sound (t ∷ ts) e =
    let q = and_true (is_sound_type t) (list_all is_sound_type ts) e in
    λ i. plain_sound t q.0 i && all_plain_sound ts q.1 i
