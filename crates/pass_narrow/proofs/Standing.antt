-- What stands for a node, in what calls answer.
use Rattle.std.proofs.Common.{◌≡◌, ℕ, ◌<◌, ◌≤◌, ◌≢◌, List, [], ◌∷◌, ◌++◌, length, true, Option, Some, Result, Ok, Err, IfOk, refl, sym, ap, ap₂, subst, ◌∙◌, arith}
use Rattle.std.specs.Prelude.{IfSome}
use Rattle.xb_bits.specs.Parts.{slice_bits}
use Rattle.xb_value.specs.declared.value.Value.{Value}
use Rattle.delay_model.specs.declared.op.Binary.{Binary}
use Rattle.delay_model.specs.declared.op.Compare.{Compare}
use Rattle.delay_model.specs.declared.op.Extend.{Extend}
use Rattle.delay_model.specs.declared.op.Extend.TheVariants as extend
use Rattle.ir_tree.specs.declared.ir_type.IrType.{IrType}
use Rattle.ir_tree.specs.declared.node.Operand.{Operand}
use Rattle.ir_tree.specs.declared.node.Operand.TheVariants as operand
use Rattle.ir_tree.specs.declared.node.Node.{Node}
use Rattle.ir_tree.specs.NodeTypes.Types.{bits_width}
use Rattle.ir_rebuild.specs.Built.{AreBuilt, AreValues, FitsAt, OperandSimulates, Extends, is_plain_op, numbered}
use Rattle.pass_narrow.specs.declared.node_pattern.NodeReplacement.{NodeReplacement}
use Rattle.pass_narrow.specs.declared.node_pattern.NodeReplacement.TheVariants as right
use Rattle.pass_narrow.specs.declared.rewritten_node.RewrittenNode.{RewrittenNode}
use Rattle.pass_narrow.specs.declared.rewritten_node.RewrittenNode.TheVariants as rewritten_node
use Rattle.pass_narrow.specs.declared.rewritten_node.LongSlice.{LongSlice}
use Rattle.pass_narrow.specs.Numbers.{number, IsNumber}
use Rattle.pass_narrow.specs.Narrowing.{IsLike, IsLikeLonger, IsRewrittenNode, Narrows}
use Rattle.pass_narrow.specs.Views.{width_in, extended}
use Rattle.pass_narrow.specs.Replacements.{slice_of, replacement_of}
use Rattle.pass_narrow.specs.Nodes.{extension_node, slice_node, operation_node, comparison_node, zero_node}
use Rattle.pass_narrow.specs.Inner.Meant.{IsResult, SaysOfSlice, GivesNumber, HasLonger, IsExtension, IsOperation, IsComparison, IsZero, IsSliceOf, IsWhole, IsReplacement, binary_number, compare_number, extend_number}
use Rattle.pass_narrow.specs.Slices.{inner_part, depth}
use Rattle.pass_narrow.proofs.Numbers.{IsMade, number_width, number_later, values_earlier, extends_none, extends_twice, gives, gives_itself, like_of, like_longer, stands_of, result_as}
use Rattle.pass_narrow.proofs.Made.{made_extension, made_slice, made_operation, made_comparison, made_zero}
use Rattle.pass_narrow.proofs.Views.{shows_extension}
use Rattle.pass_narrow.proofs.Rules.{same_number, StandsBefore, slice_says}
use Rattle.pass_narrow.proofs.Right.{right_says}

-- ---- operands that are made longer

pub longer_itself : (state : IrType) (nodes : List Node) (a : Operand) (w : ℕ) → width_in state nodes a ≡ w → AreBuilt state nodes → HasLonger state nodes a w → GivesNumber state nodes nodes a w (λ s values. number s values a)
longer_itself state nodes a w e built h =
    let same : h.own ≡ w = sym (number_width state nodes a h.own h.is) ∙ e in
    gives_itself state nodes a w built (subst (IsNumber state nodes a) same h.is)

pub longer_made : {E : Type 0} (r : Result Operand E) (state : IrType) (old new : List Node) (a : Operand) (w : ℕ) (n : Node) → n ≡ extension_node extend.Zero a w → IfOk r (λ o. new ≡ old ++ numbered (length old) n ∷ []) → IfOk r (λ o. o ≡ operand.Node (length old)) → IfOk r (λ o. AreBuilt state old → HasLonger state old a w → GivesNumber state old new o w (λ s values. number s values a))
longer_made (Ok o) state old new a w n m e f = λ built h.
    subst (λ ns. GivesNumber state old ns o w (λ s values. number s values a)) (sym e)
    (subst (λ x. GivesNumber state old (old ++ numbered (length old) n ∷ []) x w (λ s values. number s values a)) (sym f)
    (subst (λ x. GivesNumber state old (old ++ numbered (length old) x ∷ []) (operand.Node (length old)) w (λ s values. number s values a)) (sym m)
    (gives state old (extension_node extend.Zero a w) w (λ s values. number s values a) built (made_extension state old extend.Zero a h.own w built h.is h.longer h.most))))
longer_made (Err x) state old new a w n m e f = tt

pub longer_later : (state : IrType) (old new : List Node) (o : Operand) (w : ℕ) → Extends old new → HasLonger state old o w → HasLonger state new o w
longer_later state old new o w e h = record { own = h.own; is = number_later state old new o h.own e h.is; longer = h.longer; most = h.most }

made_as : (state : IrType) (nodes : List Node) (n : Node) (w : ℕ) (f g : Value → List Value → ℕ) → ((s : Value) (values : List Value) → AreValues state nodes s values → f s values ≡ g s values) → IsMade state nodes n w f → IsMade state nodes n w g
made_as state nodes n w f g h m = record { fits_at = m.fits_at; plain = m.plain; result = result_as state nodes n w f g h m.result }

-- ---- operations and comparisons

pub operation_stands : (state : IrType) (old mid new : List Node) (n m : Node) (o : Binary) (a b x y : Operand) (least total : ℕ) → AreBuilt state old → (AreBuilt state old → HasLonger state old a least → GivesNumber state old mid x least (λ s values. number s values a)) → (AreBuilt state mid → HasLonger state mid b least → GivesNumber state mid new y least (λ s values. number s values b)) → m ≡ operation_node o x y least → IsOperation state old n o a b least total → Narrows state old new n (rewritten_node.Extended m total)
operation_stands state old mid new n m o a b x y least total built first second e h =
    let f = first built h.first in
    let g = second f.built (longer_later state old mid b least f.extends h.second) in
    let both = extends_twice old mid new f.extends g.extends in
    let most = h.most in
    let fewer = h.fewer in
    let within : least ≤ 128 = omega (arith, most, fewer) in
    let made = made_operation state new o x y least g.built (number_later state mid new x least g.extends f.is) g.is within in
    let same = made_as state new (operation_node o x y least) least (λ s values. binary_number o least (number s values x) (number s values y)) (λ s values. binary_number o least (number s values a) (number s values b)) (λ s values v. ap₂ (binary_number o least) (f.value s values (values_earlier state mid new s values g.extends v)) (g.value s values v)) made in
    record {
      built = g.built;
      extends = both;
      stands = subst (λ z. IsLikeLonger state new n z total) (sym e) (like_longer state old new n (operation_node o x y least) least total (λ s values. binary_number o least (number s values a) (number s values b)) both h.fewer h.most h.result same);
    }

pub comparison_stands : (state : IrType) (old mid new : List Node) (n m : Node) (o : Compare) (a b x y : Operand) (least : ℕ) → AreBuilt state old → (AreBuilt state old → HasLonger state old a least → GivesNumber state old mid x least (λ s values. number s values a)) → (AreBuilt state mid → HasLonger state mid b least → GivesNumber state mid new y least (λ s values. number s values b)) → m ≡ comparison_node o x y → IsComparison state old n o a b least → Narrows state old new n (rewritten_node.Node m)
comparison_stands state old mid new n m o a b x y least built first second e h =
    let f = first built h.first in
    let g = second f.built (longer_later state old mid b least f.extends h.second) in
    let both = extends_twice old mid new f.extends g.extends in
    let made = made_comparison state new o x y least (number_later state mid new x least g.extends f.is) g.is in
    let same = made_as state new (comparison_node o x y) 1 (λ s values. compare_number o least (number s values x) (number s values y)) (λ s values. compare_number o least (number s values a) (number s values b)) (λ s values v. ap₂ (compare_number o least) (f.value s values (values_earlier state mid new s values g.extends v)) (g.value s values v)) made in
    record {
      built = g.built;
      extends = both;
      stands = subst (λ z. IsLike state new n z) (sym e) (like_of state old new n (comparison_node o x y) 1 (λ s values. compare_number o least (number s values a) (number s values b)) both h.result same);
    }

-- ---- slices

slice_made : (state : IrType) (nodes : List Node) (n : Node) (part : LongSlice) → IsSliceOf state nodes n part → IsMade state nodes (slice_node part.operand part.start part.width) part.width (λ s values. slice_bits (number s values part.operand) part.start part.width)
slice_made state nodes n part h =
    let longer = h.longer in
    let most = h.most in
    made_slice state nodes part.operand h.own part.start part.width h.is h.within h.some (omega (arith, longer, most))

pub slice_stands : (state : IrType) (nodes : List Node) (n m : Node) (part : LongSlice) → m ≡ slice_node part.operand part.start part.width → part.width ≡ part.total → IsSliceOf state nodes n part → IsLike state nodes n m
slice_stands state nodes n m part e same h =
    let f = λ (s : Value) (values : List Value). slice_bits (number s values part.operand) part.start part.width in
    subst (IsLike state nodes n) (sym e)
    (like_of state nodes nodes n (slice_node part.operand part.start part.width) part.width f (extends_none nodes) (subst (λ k. IsResult state nodes n k f) (sym same) h.result) (slice_made state nodes n part h))

pub long_slice_stands : (state : IrType) (nodes : List Node) (n m : Node) (part : LongSlice) → m ≡ slice_node part.operand part.start part.width → part.width ≢ part.total → IsSliceOf state nodes n part → IsLikeLonger state nodes n m part.total
long_slice_stands state nodes n m part e other h =
    let f = λ (s : Value) (values : List Value). slice_bits (number s values part.operand) part.start part.width in
    let longer = h.longer in
    let fewer : part.width < part.total = omega (arith, other, longer) in
    subst (λ z. IsLikeLonger state nodes n z part.total) (sym e)
    (like_longer state nodes nodes n (slice_node part.operand part.start part.width) part.width part.total f (extends_none nodes) fewer h.most h.result (slice_made state nodes n part h))

pub whole_stands : (state : IrType) (nodes : List Node) (n : Node) (o : Operand) (width total : ℕ) → width ≡ total → IsWhole state nodes n o width total → OperandSimulates state nodes n o
whole_stands state nodes n o width total e h = stands_of state nodes n o total (subst (IsNumber state nodes o) e h.is) h.result

pub whole_extended : {E : Type 0} (r : Result RewrittenNode E) (nodes : List Node) (o : Operand) (width total : ℕ) → IfOk r (λ x. x ≡ rewritten_node.Node (extension_node extend.Zero o total)) → IfOk r (λ x. (state : IrType) (n : Node) → AreBuilt state nodes → IsWhole state nodes n o width total → IsRewrittenNode state nodes n x)
whole_extended (Ok x) nodes o width total e = λ state n built h.
    subst (IsRewrittenNode state nodes n) (sym e)
    (like_of state nodes nodes n (extension_node extend.Zero o total) total (λ s values. number s values o) (extends_none nodes) h.result (made_extension state nodes extend.Zero o width total built h.is h.longer h.most))
whole_extended (Err x) nodes o width total e = tt

pub whole_merged : {E : Type 0} (r : Result RewrittenNode E) (nodes : List Node) (o a : Operand) (width total : ℕ) → Some a ≡ extended nodes extend.Zero o → IfOk r (λ x. x ≡ rewritten_node.Node (extension_node extend.Zero a total)) → IfOk r (λ x. (state : IrType) (n : Node) → AreBuilt state nodes → IsWhole state nodes n o width total → IsRewrittenNode state nodes n x)
whole_merged (Ok x) nodes o a width total f e = λ state n built h.
    let shown = shows_extension state nodes extend.Zero o a built (sym f) in
    let same = same_number state nodes o shown.width width shown.outer h.is in
    let inner = shown.longer in
    let outer = h.longer in
    let result = result_as state nodes n total (λ s values. number s values o) (λ s values. number s values a) (λ s values v. shown.value s values v) h.result in
    subst (IsRewrittenNode state nodes n) (sym e)
    (like_of state nodes nodes n (extension_node extend.Zero a total) total (λ s values. number s values a) (extends_none nodes) result (made_extension state nodes extend.Zero a shown.own total built shown.inner (omega (arith, same, inner, outer)) h.most))
whole_merged (Err x) nodes o a width total f e = tt

pub last_whole : {E : Type 0} (r : Result RewrittenNode E) (state : IrType) (nodes : List Node) (part : LongSlice) (o : Operand) → AreBuilt state nodes → Some (right.Operand o) ≡ slice_of state nodes part.start part.width part.operand → IfOk r (λ x. (state : IrType) (n : Node) → AreBuilt state nodes → IsWhole state nodes n part.operand part.width part.total → IsRewrittenNode state nodes n x) → IfOk r (λ x. (n : Node) → IsSliceOf state nodes n part → IsRewrittenNode state nodes n x)
last_whole (Ok x) state nodes part o built e f = λ n h.
    let says = (slice_says state nodes part (right.Operand o) built (sym e)).1 n h in
    f state n built (record { is = says.0; longer = h.longer; most = h.most; result = says.1 })
last_whole (Err x) state nodes part o built e f = tt

pub last_zero : {E : Type 0} (r : Result RewrittenNode E) (state : IrType) (nodes : List Node) (part : LongSlice) → AreBuilt state nodes → Some right.Zero ≡ slice_of state nodes part.start part.width part.operand → IfOk r (λ x. x ≡ rewritten_node.Node (zero_node part.total)) → IfOk r (λ x. (n : Node) → IsSliceOf state nodes n part → IsRewrittenNode state nodes n x)
last_zero (Ok x) state nodes part built e f = λ n h.
    let some = h.some in
    let longer = h.longer in
    subst (IsRewrittenNode state nodes n) (sym f)
    (like_of state nodes nodes n (zero_node part.total) part.total (λ s values. 0) (extends_none nodes) ((slice_says state nodes part right.Zero built (sym e)).1 n h) (made_zero state nodes part.total (omega (arith, some, longer)) h.most))
last_zero (Err x) state nodes part built e f = tt

-- ---- the slice inside a slice

inner_before : (part : LongSlice) (r : NodeReplacement) → StandsBefore part.operand r → IfSome (inner_part r part) (λ (inner : LongSlice). depth inner.operand < depth part.operand)
inner_before part (right.Operand o) h = tt
inner_before part right.Zero h = tt
inner_before part (right.Extension kind a) h = tt
inner_before part (right.Slice x start) h = h
inner_before part (right.LongerSlice x start width) h = h
inner_before part (right.Operation o a b m) h = tt
inner_before part (right.Comparison o a b m) h = tt

inner_within : (state : IrType) (nodes : List Node) (part : LongSlice) (r : NodeReplacement) → ((n : Node) → IsSliceOf state nodes n part → SaysOfSlice state nodes n part r) → IfSome (inner_part r part) (λ inner. (n : Node) → IsSliceOf state nodes n part → IsSliceOf state nodes n inner)
inner_within state nodes part (right.Operand o) h = tt
inner_within state nodes part right.Zero h = tt
inner_within state nodes part (right.Extension kind a) h = tt
inner_within state nodes part (right.Slice x start) h = h
inner_within state nodes part (right.LongerSlice x start width) h = h
inner_within state nodes part (right.Operation o a b m) h = tt
inner_within state nodes part (right.Comparison o a b m) h = tt

pub is_before : (state : IrType) (nodes : List Node) (part : LongSlice) (r : NodeReplacement) (q : Option LongSlice) → AreBuilt state nodes → Some r ≡ slice_of state nodes part.start part.width part.operand → q ≡ inner_part r part → IfSome q (λ (inner : LongSlice). depth inner.operand < depth part.operand)
is_before state nodes part r q built e f = subst (λ p. IfSome p (λ (inner : LongSlice). depth inner.operand < depth part.operand)) (sym f) (inner_before part r (slice_says state nodes part r built (sym e)).0)

pub is_within : (state : IrType) (nodes : List Node) (part : LongSlice) (r : NodeReplacement) (q : Option LongSlice) → AreBuilt state nodes → Some r ≡ slice_of state nodes part.start part.width part.operand → q ≡ inner_part r part → IfSome q (λ inner. (n : Node) → IsSliceOf state nodes n part → IsSliceOf state nodes n inner)
is_within state nodes part r q built e f = subst (λ p. IfSome p (λ inner. (n : Node) → IsSliceOf state nodes n part → IsSliceOf state nodes n inner)) (sym f) (inner_within state nodes part r (slice_says state nodes part r built (sym e)).1)

-- ---- any replacement

pub same_list : (state : IrType) (nodes : List Node) (n : Node) (x : RewrittenNode) → AreBuilt state nodes → IsRewrittenNode state nodes n x → Narrows state nodes nodes n x
same_list state nodes n x built h = record { built = built; extends = extends_none nodes; stands = h }

pub zero_stands : {E : Type 0} (r : Result RewrittenNode E) (state : IrType) (nodes : List Node) (total : ℕ) → AreBuilt state nodes → IfOk r (λ x. x ≡ rewritten_node.Node (zero_node total)) → IfOk r (λ x. (n : Node) → IsZero state nodes n total → Narrows state nodes nodes n x)
zero_stands (Ok x) state nodes total built e = λ n h.
    subst (Narrows state nodes nodes n) (sym e)
    (same_list state nodes n (rewritten_node.Node (zero_node total)) built
    (like_of state nodes nodes n (zero_node total) total (λ s values. 0) (extends_none nodes) h.result (made_zero state nodes total h.some h.most)))
zero_stands (Err x) state nodes total built e = tt

pub extension_stands : {E : Type 0} (r : Result RewrittenNode E) (state : IrType) (nodes : List Node) (kind : Extend) (a : Operand) (total : ℕ) → AreBuilt state nodes → IfOk r (λ x. x ≡ rewritten_node.Node (extension_node kind a total)) → IfOk r (λ x. (n : Node) → IsExtension state nodes n kind a total → Narrows state nodes nodes n x)
extension_stands (Ok x) state nodes kind a total built e = λ n h.
    subst (Narrows state nodes nodes n) (sym e)
    (same_list state nodes n (rewritten_node.Node (extension_node kind a total)) built
    (like_of state nodes nodes n (extension_node kind a total) total (λ s values. extend_number kind h.own total (number s values a)) (extends_none nodes) h.result (made_extension state nodes kind a h.own total built h.is h.longer h.most)))
extension_stands (Err x) state nodes kind a total built e = tt

pub slice_narrows : {E : Type 0} (r : Result RewrittenNode E) (state : IrType) (nodes : List Node) (part : LongSlice) → AreBuilt state nodes → IfOk r (λ x. (n : Node) → IsSliceOf state nodes n part → IsRewrittenNode state nodes n x) → IfOk r (λ x. (n : Node) → IsSliceOf state nodes n part → Narrows state nodes nodes n x)
slice_narrows (Ok x) state nodes part built f = λ n h. same_list state nodes n x built (f n h)
slice_narrows (Err x) state nodes part built f = tt

-- a node that stays
pub node_stays : (state : IrType) (nodes : List Node) (n : Node) → AreBuilt state nodes → FitsAt state nodes (length nodes) n → is_plain_op n.op ≡ true → Narrows state nodes nodes n (rewritten_node.Node n)
node_stays state nodes n built fits_at plain = same_list state nodes n (rewritten_node.Node n) built (record { fits_at = fits_at; plain = plain; ty = refl; value = λ s values v. refl })

pub right_narrows : {E : Type 0} (r : Result RewrittenNode E) (state : IrType) (old new seen : List Node) (n : Node) (side : NodeReplacement) (total : ℕ) → seen ≡ old → total ≡ bits_width n.ty → AreBuilt state old → FitsAt state old (length old) n → Some side ≡ replacement_of state seen n → IfOk r (λ x. (n : Node) → IsReplacement state old n total side → Narrows state old new n x) → IfOk r (λ x. Narrows state old new n x)
right_narrows (Ok x) state old new seen n side total e t built fits_at h f =
    f n (subst (λ k. IsReplacement state old n k side) (sym t) (right_says state old n side built fits_at (ap (λ ns. replacement_of state ns n) (sym e) ∙ sym h)))
right_narrows (Err x) state old new seen n side total e t built fits_at h f = tt

pub zero_part : {E : Type 0} (r : Result RewrittenNode E) (nodes : List Node) (side : NodeReplacement) (part : LongSlice) → side ≡ right.Zero → IfOk r (λ x. x ≡ rewritten_node.Node (zero_node part.total)) → IfOk r (λ x. (state : IrType) (n : Node) → AreBuilt state nodes → IsSliceOf state nodes n part → SaysOfSlice state nodes n part side → IsRewrittenNode state nodes n x)
zero_part (Ok x) nodes side part e f = λ state n built h says.
    let some = h.some in
    let longer = h.longer in
    let result : IsResult state nodes n part.total (λ s values. 0) = subst (SaysOfSlice state nodes n part) e says in
    subst (IsRewrittenNode state nodes n) (sym f)
    (like_of state nodes nodes n (zero_node part.total) part.total (λ s values. 0) (extends_none nodes) result (made_zero state nodes part.total (omega (arith, some, longer)) h.most))
zero_part (Err x) nodes side part e f = tt

pub some_part : {E : Type 0} (r : Result RewrittenNode E) (state : IrType) (nodes : List Node) (side : NodeReplacement) (part : LongSlice) → AreBuilt state nodes → Some side ≡ slice_of state nodes part.start part.width part.operand → IfOk r (λ x. (state : IrType) (n : Node) → AreBuilt state nodes → IsSliceOf state nodes n part → SaysOfSlice state nodes n part side → IsRewrittenNode state nodes n x) → IfOk r (λ x. (n : Node) → IsSliceOf state nodes n part → IsRewrittenNode state nodes n x)
some_part (Ok x) state nodes side part built e f = λ n h. f state n built h ((slice_says state nodes part side built (sym e)).1 n h)
some_part (Err x) state nodes side part built e f = tt
