-- The first places, one more.
use Rattle.std.proofs.Common.{◌≡◌, ℕ, zero, suc, ◌+◌, [], ◌∷◌, ◌++◌, ap, ◌∙◌, arith}
use Rattle.ir_tree.specs.declared.node.Operand.TheVariants as operand
use Rattle.pass_fold.specs.Folds.{places_from, places_to}

from_more : (k n p : ℕ) → p ≡ k + n → places_from k n ++ operand.Node p ∷ [] ≡ places_from k (suc n)
from_more k zero p e = ap (λ i. operand.Node i ∷ []) (let same : p ≡ k = omega (arith, e) in same)
from_more k (suc n) p e = ap (λ os. operand.Node k ∷ os) (from_more (suc k) n p (omega (arith, e)))

pub places_more : (n : ℕ) → places_to n ++ operand.Node n ∷ [] ≡ places_to (n + 1)
places_more n = from_more 0 n n (omega arith) ∙ ap places_to (let one : suc n ≡ n + 1 = omega arith in one)
