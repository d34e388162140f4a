-- Each function and its signature.
use Rattle.std.proofs.Common.{◌≡◌, ℕ, zero, suc, ◌<◌, Bool, true, false, List, ◌∷◌, length, take, Some, refl, sym, ap, subst, ◌∙◌, arith, []}
use Rattle.std.specs.Prelude.{nat_lt, slice_get}
use Rattle.std.proofs.lemmas.Bool.Decides.{nat_tests}
use Rattle.dslx_core.specs.declared.design.Function.{Function}
use Rattle.dslx_core.specs.Types.Designs.{FunctionSignature, no_types, types_from}
use Rattle.ir_lower_nodes.specs.Exprs.NodeTypes.{node_type}
use Rattle.ir_lower_nodes.specs.Exprs.Calls.{AreNodeFunctions, types_below}
use Rattle.ir_lower.specs.declared.types.signature.Signature.{Signature}
use Rattle.ir_lower.specs.Types.Signatures.{signature_of, signatures_of}
use Rattle.ir_lower.specs.Types.Typed.{IsSigned}

some_same : {A : Type 0} (x y : A) → Some x ≡ Some y → x ≡ y
some_same x y h = cc

-- what holds below a number and at it
pub below_more : (P : ℕ → Type 0) (n : ℕ) → ((j : ℕ) → j < n → P j) → P n → (j : ℕ) → j < suc n → P j
below_more P n each here j less = pick (nat_lt j n) refl
  where
    same : nat_lt j n ≡ false → n ≡ j
    same e = grind (arith, nat_tests, e, less)

    pick : (b : Bool) → nat_lt j n ≡ b → P j
    pick true e = each j (grind (arith, nat_tests, e))
    pick false e = subst P (same e) here

record IsOwn (ss : List Signature) (k : ℕ) (s : FunctionSignature) : Type 0 where
  own : Signature
  there : slice_get ss k ≡ Some own
  is : signature_of own ≡ s
  within : k < length ss

own_at : (ss : List Signature) (k : ℕ) (s : FunctionSignature) → slice_get (signatures_of ss) k ≡ Some s → IsOwn ss k s
own_at [] k s h = absurd (cc)
own_at (x ∷ ss) zero s h = record { own = x; there = refl; is = some_same (signature_of x) s h; within = omega arith }
own_at (x ∷ ss) (suc k) s h = let found = own_at ss k s h in record { own = found.own; there = found.there; is = found.is; within = omega (arith, found.within) }

take_signatures : (k : ℕ) (ss : List Signature) → signatures_of (take k ss) ≡ take k (signatures_of ss)
take_signatures zero ss = refl
take_signatures (suc k) [] = refl
take_signatures (suc k) (s ∷ ss) = ap (λ xs. signature_of s ∷ xs) (take_signatures k ss)

pub all_signed : (ss : List Signature) (fs : List Function) → ((k : ℕ) → k < length ss → IsSigned ss fs k) → AreNodeFunctions (signatures_of ss) fs
all_signed ss fs each k s h =
    let found = own_at ss k s h in
    let own = each k found.within in
    let same : own.signature ≡ found.own = some_same own.signature found.own (sym own.own ∙ found.there) in
    let is : signature_of own.signature ≡ s = ap signature_of same ∙ found.is in
    record {
      function = own.function;
      there = own.there;
      arity = ap (λ (x : FunctionSignature). length x.arguments) (sym is) ∙ own.arity;
      body =
          ap (λ (x : FunctionSignature). node_type own.function.body (types_below k (signatures_of ss)) x.arguments) (sym is)
          ∙ (ap (λ xs. node_type own.function.body (types_from 0 xs no_types) own.signature.arguments) (sym (take_signatures k ss))
          ∙ (own.body ∙ ap (λ (x : FunctionSignature). Some x.result) is));
    }
