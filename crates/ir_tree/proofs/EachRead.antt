-- Where constants or types have run out, nothing more is read.
use Rattle.std.proofs.Common.{◌≡◌, ℕ, zero, suc, ◌≤◌, min, List, [], ◌∷◌, map, drop, length, refl, arith}
use Rattle.xb_value.specs.declared.value.Value.{Value}
use Rattle.ir_tree.specs.declared.constant.Constant.{Constant}
use Rattle.ir_tree.specs.Constants.{each_read}

no_constants : {T : Type 0} (f : T → Constant → Value) (us : List T) → each_read (map f us) [] ≡ []
no_constants f [] = refl
no_constants f (u ∷ us) = refl

pub none_left : {T : Type 0} (f : T → Constant → Value) (ts : List T) (cs : List Constant) (i : ℕ) → min (length ts) (length cs) ≤ i → each_read (map f (drop i ts)) (drop i cs) ≡ []
none_left f [] cs zero h = refl
none_left f [] cs (suc i) h = refl
none_left f (t ∷ ts) [] zero h = refl
none_left f (t ∷ ts) [] (suc i) h = no_constants f (drop i ts)
none_left f (t ∷ ts) (c ∷ cs) zero h = absurd (omega arith)
none_left f (t ∷ ts) (c ∷ cs) (suc i) h = none_left f ts cs i (omega arith)
