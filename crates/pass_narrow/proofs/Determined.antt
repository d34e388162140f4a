-- What stands for a node is determined: by the calls that make it, step by step.
use Rattle.std.proofs.Common.{◌≡◌, ℕ, zero, suc, ◌≤◌, ◌<◌, List, [], ◌∷◌, ◌++◌, length, Bool, true, false, Option, Some, None, Result, Ok, Err, IfOk, refl, sym, ap, ap₂, ◌∙◌, arith}
use Rattle.std.specs.Prelude.{nat_eq, if◌then◌else◌}
use Rattle.std.proofs.lemmas.Bool.Decides.{nat_tests}
use Rattle.delay_model.specs.declared.op.Binary.{Binary}
use Rattle.delay_model.specs.declared.op.Compare.{Compare}
use Rattle.delay_model.specs.declared.op.Extend.TheVariants as extend
use Rattle.ir_tree.specs.declared.ir_type.IrType.{IrType}
use Rattle.ir_tree.specs.declared.node.Operand.{Operand}
use Rattle.ir_tree.specs.declared.node.Operand.TheVariants as operand
use Rattle.ir_tree.specs.declared.node.Node.{Node}
use Rattle.ir_rebuild.specs.Built.{AreBuilt, numbered}
use Rattle.pass_narrow.specs.declared.node_pattern.NodeReplacement.{NodeReplacement}
use Rattle.pass_narrow.specs.declared.node_pattern.NodeReplacement.TheVariants as right
use Rattle.pass_narrow.specs.declared.rewritten_node.LongSlice.{LongSlice}
use Rattle.pass_narrow.specs.declared.rewritten_node.RewrittenNode.{RewrittenNode}
use Rattle.pass_narrow.specs.declared.rewritten_node.RewrittenNode.TheVariants as rewritten_node
use Rattle.pass_narrow.specs.Nodes.{extension_node, operation_node, comparison_node}
use Rattle.pass_narrow.specs.Views.{width_in}
use Rattle.pass_narrow.specs.Replacements.{slice_of}
use Rattle.pass_narrow.specs.Slices.{inner_by, inner_of, inside, depth, innermost_in, innermost, last_slice, narrowed_slice}
use Rattle.pass_narrow.specs.Narrowings.{Grown, made_longer, IsMadeLonger, made_of, IsNarrowing, and_node}
use Rattle.pass_narrow.proofs.Views.{none_some}
use Rattle.pass_narrow.proofs.Standing.{is_before}

-- ---- operands made longer

equal_width : (m n : ℕ) → m ≡ n → nat_eq m n ≡ true
equal_width m n e = grind (arith, nat_tests, e)

other_width : (m n : ℕ) → (m ≡ n → ⊥) → nat_eq m n ≡ false
other_width m n h = grind (arith, nat_tests, h)

abbrev longer_if : List Node → Operand → ℕ → Bool → Grown
longer_if nodes o w b = if b then (record { nodes = nodes; operand = o }) else (record { nodes = and_node nodes (extension_node extend.Zero o w); operand = operand.Node (length nodes) })

pub as_long : (state : IrType) (nodes : List Node) (o : Operand) (w : ℕ) → width_in state nodes o ≡ w → IsMadeLonger state nodes nodes o w o
as_long state nodes o w e =
    let test = sym (equal_width (width_in state nodes o) w e) in
    (ap (λ b. (longer_if nodes o w b).nodes) test, ap (λ b. (longer_if nodes o w b).operand) test)

pub longer : {E : Type 0} (r : Result Operand E) (state : IrType) (old new : List Node) (o : Operand) (w : ℕ) (n : Node) → (width_in state old o ≡ w → ⊥) → n ≡ extension_node extend.Zero o w → IfOk r (λ p. new ≡ old ++ numbered (length old) n ∷ []) → IfOk r (λ p. p ≡ operand.Node (length old)) → IfOk r (IsMadeLonger state old new o w)
longer (Ok p) state old new o w n other m e f =
    let test = sym (other_width (width_in state old o) w other) in
    (e ∙ ap (and_node old) m ∙ ap (λ b. (longer_if old o w b).nodes) test, f ∙ ap (λ b. (longer_if old o w b).operand) test)
longer (Err x) state old new o w n other m e f = tt

-- ---- operations and comparisons

pub operation_made : (state : IrType) (old mid new : List Node) (m : Node) (o : Binary) (a b x y : Operand) (least total : ℕ) → IsMadeLonger state old mid a least x → IsMadeLonger state mid new b least y → m ≡ operation_node o x y least → IsNarrowing new (rewritten_node.Extended m total) (made_of state old total (right.Operation o a b least))
operation_made state old mid new m o a b x y least total first second is = (
  second.0 ∙ ap (λ ns. (made_longer state ns b least).nodes) first.0,
  ap (λ n. rewritten_node.Extended n total) (is ∙ ap₂ (λ p q. operation_node o p q least) first.1 (second.1 ∙ ap (λ ns. (made_longer state ns b least).operand) first.0)),
)

pub comparison_made : (state : IrType) (old mid new : List Node) (m : Node) (o : Compare) (a b x y : Operand) (least total : ℕ) → IsMadeLonger state old mid a least x → IsMadeLonger state mid new b least y → m ≡ comparison_node o x y → IsNarrowing new (rewritten_node.Node m) (made_of state old total (right.Comparison o a b least))
comparison_made state old mid new m o a b x y least total first second is = (
  second.0 ∙ ap (λ ns. (made_longer state ns b least).nodes) first.0,
  ap rewritten_node.Node (is ∙ ap₂ (comparison_node o) first.1 (second.1 ∙ ap (λ ns. (made_longer state ns b least).operand) first.0)),
)

-- ---- slices

-- the slice inside stands before
inner_first : (state : IrType) (nodes : List Node) (part inner : LongSlice) → AreBuilt state nodes → inner_of state nodes part ≡ Some inner → depth inner.operand < depth part.operand
inner_first state nodes part inner built e = by (slice_of state nodes part.start part.width part.operand) refl e
  where
    by : (q : Option NodeReplacement) → slice_of state nodes part.start part.width part.operand ≡ q → inner_by part q ≡ Some inner → depth inner.operand < depth part.operand
    by None f k = none_some _ inner k
    by (Some r) f k = is_before state nodes part r (Some inner) built (sym f) (sym k)

-- none is inside what is no node
at_start : (state : IrType) (nodes : List Node) (further : LongSlice → LongSlice) (part : LongSlice) → AreBuilt state nodes → depth part.operand ≤ 0 → part ≡ inside further part (inner_of state nodes part)
at_start state nodes further part built h = by (inner_of state nodes part) refl
  where
    by : (q : Option LongSlice) → inner_of state nodes part ≡ q → part ≡ inside further part q
    by None e = refl
    by (Some inner) e = let less = inner_first state nodes part inner built e in absurd (omega (arith, h, less))

-- more steps than there are nodes before change nothing
by_inner : (state : IrType) (nodes : List Node) (k m : ℕ) (part : LongSlice) → AreBuilt state nodes → depth part.operand ≤ suc k → depth part.operand ≤ suc m → ((inner : LongSlice) → depth inner.operand ≤ k → depth inner.operand ≤ m → innermost_in k state nodes inner ≡ innermost_in m state nodes inner) → (q : Option LongSlice) → inner_of state nodes part ≡ q → inside (innermost_in k state nodes) part q ≡ inside (innermost_in m state nodes) part q
by_inner state nodes k m part built h g rest None e = refl
by_inner state nodes k m part built h g rest (Some inner) e =
    let less = inner_first state nodes part inner built e in
    rest inner (omega (arith, h, less)) (omega (arith, g, less))

same_inside : (state : IrType) (nodes : List Node) → AreBuilt state nodes → (k m : ℕ) (part : LongSlice) → depth part.operand ≤ k → depth part.operand ≤ m → innermost_in k state nodes part ≡ innermost_in m state nodes part
same_inside state nodes built zero zero part h g = refl
same_inside state nodes built zero (suc m) part h g = at_start state nodes (innermost_in m state nodes) part built h
same_inside state nodes built (suc k) zero part h g = sym (at_start state nodes (innermost_in k state nodes) part built g)
same_inside state nodes built (suc k) (suc m) part h g = by_inner state nodes k m part built h g (same_inside state nodes built k m) (inner_of state nodes part) refl

-- one step more
one_more : (state : IrType) (nodes : List Node) (part : LongSlice) → AreBuilt state nodes → innermost state nodes part ≡ inside (innermost_in (depth part.operand) state nodes) part (inner_of state nodes part)
one_more state nodes part built = same_inside state nodes built (depth part.operand) (suc (depth part.operand)) part (omega arith) (omega arith)

pub further_in : (state : IrType) (nodes : List Node) (part inner : LongSlice) → AreBuilt state nodes → Some inner ≡ inner_of state nodes part → innermost state nodes inner ≡ innermost state nodes part
further_in state nodes part inner built e =
    let less = inner_first state nodes part inner built (sym e) in
    same_inside state nodes built (depth inner.operand) (depth part.operand) inner (omega arith) (omega (arith, less))
    ∙ ap (inside (innermost_in (depth part.operand) state nodes) part) e
    ∙ sym (one_more state nodes part built)

pub none_inside : (state : IrType) (nodes : List Node) (part : LongSlice) → AreBuilt state nodes → None ≡ inner_of state nodes part → part ≡ innermost state nodes part
none_inside state nodes part built e = ap (inside (innermost_in (depth part.operand) state nodes) part) e ∙ sym (one_more state nodes part built)

-- the last slice of one that the loop came to
pub slice_narrowed : {E : Type 0} (r : Result RewrittenNode E) (state : IrType) (nodes : List Node) (part within : LongSlice) → AreBuilt state nodes → innermost state nodes within ≡ innermost state nodes part → None ≡ inner_of state nodes within → IfOk r (λ x. x ≡ last_slice state nodes within) → IfOk r (λ x. x ≡ narrowed_slice state nodes part)
slice_narrowed (Ok x) state nodes part within built same none e = e ∙ ap (last_slice state nodes) (none_inside state nodes within built none ∙ same)
slice_narrowed (Err x) state nodes part within built same none e = tt
