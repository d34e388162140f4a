-- What narrowing answers, once it is appended, in what calls answer.
use Rattle.std.proofs.Common.{◌≡◌, List, [], ◌∷◌, ◌++◌, ℕ, length, Result, Ok, Err, IfOk, refl, sym, ap, ap₂, subst, ◌∙◌}
use Rattle.delay_model.specs.declared.op.Extend.TheVariants as extend
use Rattle.ir_tree.specs.declared.ir_type.IrType.{IrType}
use Rattle.ir_tree.specs.declared.node.Operand.{Operand}
use Rattle.ir_tree.specs.declared.node.Operand.TheVariants as operand
use Rattle.ir_tree.specs.declared.node.Node.{Node}
use Rattle.ir_rebuild.specs.Built.{numbered}
use Rattle.pass_narrow.specs.declared.rewritten_node.RewrittenNode.{RewrittenNode}
use Rattle.pass_narrow.specs.declared.rewritten_node.RewrittenNode.TheVariants as rewritten_node
use Rattle.pass_narrow.specs.Narrowing.{Narrows}
use Rattle.pass_narrow.specs.Nodes.{extension_node}
use Rattle.pass_narrow.specs.KeepsNormal.{KeepsNormal}
use Rattle.pass_narrow.specs.Narrowings.{and_node, narrowing_of, IsNarrowing}
use Rattle.pass_narrow.specs.Narrowed.{IsNarrowed, IsPut}

put : (state : IrType) (old mid new : List Node) (n : Node) (o : Operand) (x y : RewrittenNode) → Narrows state old mid n x → KeepsNormal state old mid n x → IsNarrowing mid x (narrowing_of state old n) → x ≡ y → IsPut mid y new o → IsNarrowed state old new n o
put state old mid new n o x y narrows normal is e p = record {
  put = subst (λ ns. IsPut ns (narrowing_of state old n).answer new o) is.0 (subst (λ z. IsPut mid z new o) (sym e ∙ is.1) p);
  narrows = subst (λ ns. Narrows state old ns n (narrowing_of state old n).answer) is.0 (subst (Narrows state old mid n) is.1 narrows);
  normal = subst (λ ns. KeepsNormal state old ns n (narrowing_of state old n).answer) is.0 (subst (KeepsNormal state old mid n) is.1 normal);
}

pub operand_put : (state : IrType) (old mid : List Node) (n : Node) (o : Operand) (x : RewrittenNode) → Narrows state old mid n x → KeepsNormal state old mid n x → IsNarrowing mid x (narrowing_of state old n) → x ≡ rewritten_node.Operand o → IsNarrowed state old mid n o
operand_put state old mid n o x narrows normal is e = put state old mid mid n o x (rewritten_node.Operand o) narrows normal is e (refl, refl)

pub node_put : {E : Type 0} (r : Result Operand E) (state : IrType) (old mid new : List Node) (n m : Node) (x : RewrittenNode) → Narrows state old mid n x → KeepsNormal state old mid n x → IsNarrowing mid x (narrowing_of state old n) → x ≡ rewritten_node.Node m → IfOk r (λ o. new ≡ mid ++ numbered (length mid) m ∷ []) → IfOk r (λ o. o ≡ operand.Node (length mid)) → IfOk r (λ o. IsNarrowed state old new n o)
node_put (Ok o) state old mid new n m x narrows normal is e f g = put state old mid new n o x (rewritten_node.Node m) narrows normal is e (f, g)
node_put (Err y) state old mid new n m x narrows normal is e f g = tt

pub extended_put : {E : Type 0} (r : Result Operand E) (state : IrType) (old mid new newer : List Node) (n m longer : Node) (w : ℕ) (o : Operand) (x : RewrittenNode) → Narrows state old mid n x → KeepsNormal state old mid n x → IsNarrowing mid x (narrowing_of state old n) → x ≡ rewritten_node.Extended m w → new ≡ mid ++ numbered (length mid) m ∷ [] → o ≡ operand.Node (length mid) → longer ≡ extension_node extend.Zero o w → IfOk r (λ p. newer ≡ new ++ numbered (length new) longer ∷ []) → IfOk r (λ p. p ≡ operand.Node (length new)) → IfOk r (λ p. IsNarrowed state old newer n p)
extended_put (Ok p) state old mid new newer n m longer w o x narrows normal is e f g l i j =
    put state old mid newer n p x (rewritten_node.Extended m w) narrows normal is e
    (i ∙ ap₂ and_node f (l ∙ ap (λ q. extension_node extend.Zero q w) g), j ∙ ap (λ (ns : List Node). operand.Node (length ns)) f)
extended_put (Err y) state old mid new newer n m longer w o x narrows normal is e f g l i j = tt
