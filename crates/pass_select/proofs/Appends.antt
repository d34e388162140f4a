-- A node that is appended stands for itself, in what a call answers.
use Rattle.std.proofs.Common.{◌≡◌, List, [], ◌∷◌, ◌++◌, length, true, subst, sym, Result, Ok, Err, IfOk, None, inr}
use Rattle.ir_tree.specs.declared.ir_type.IrType.{IrType}
use Rattle.ir_tree.specs.declared.node.Operand.{Operand}
use Rattle.ir_tree.specs.declared.node.Operand.TheVariants as operand
use Rattle.ir_tree.specs.declared.node.Node.{Node}
use Rattle.ir_rebuild.specs.Built.{FitsAt, AreBuilt, Rewrites, is_plain_op, numbered}
use Rattle.ir_rebuild.proofs.Lemmas.{appended}
use Rattle.pass_select.specs.Choices.{choice_of}
use Rattle.pass_select.specs.Selected.{IsSelected}

pub appended_if : {E : Type 0} (r : Result Operand E) (state : IrType) (old new : List Node) (n : Node) → AreBuilt state old → FitsAt state old (length old) n → is_plain_op n.op ≡ true → IfOk r (λ o. new ≡ old ++ numbered (length old) n ∷ []) → IfOk r (λ o. o ≡ operand.Node (length old)) → IfOk r (λ o. Rewrites state old new n o)
appended_if (Ok o) state old new n built fits_at plain e f =
    subst (λ ns. Rewrites state old ns n o) (sym e) (subst (Rewrites state old (old ++ numbered (length old) n ∷ []) n) (sym f) (appended state old n built fits_at plain))
appended_if (Err x) state old new n built fits_at plain e f = tt

pub selected_if : {E : Type 0} (r : Result Operand E) (state : IrType) (old new : List Node) (n : Node) → choice_of old n ≡ None → IfOk r (λ o. new ≡ old ++ numbered (length old) n ∷ []) → IfOk r (λ o. o ≡ operand.Node (length old)) → IfOk r (λ o. IsSelected state old new n o)
selected_if (Ok o) state old new n none e f = inr (none, e, f)
selected_if (Err x) state old new n none e f = tt
