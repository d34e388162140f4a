-- What stands for a node that is appended, or folded.
use Rattle.std.specs.Prelude.{not, if◌then◌else◌}
use Rattle.std.proofs.Common.{◌≡◌, List, [], ◌∷◌, ◌++◌, length, Bool, true, false, ◌&&◌, refl, sym, ap, subst, ◌∙◌, Result, Ok, Err, IfOk}
use Rattle.ir_tree.specs.declared.ir_type.IrType.{IrType}
use Rattle.ir_tree.specs.declared.constant.Constant.{Constant}
use Rattle.ir_tree.specs.declared.node.Operand.{Operand}
use Rattle.ir_tree.specs.declared.node.Operand.TheVariants as operand
use Rattle.ir_tree.specs.declared.node.Node.{Node}
use Rattle.ir_tree.specs.NodeTypes.Types.{marks_of}
use Rattle.ir_tree.specs.Rules.Lines.{is_literal_of}
use Rattle.ir_rebuild.specs.Built.{FitsAt, AreBuilt, Rewrites, is_plain_op, numbered}
use Rattle.ir_rebuild.proofs.Lemmas.{appended, values_before}
use Rattle.ir_tree.specs.Types.{ty_of}
use Rattle.ir_tree.specs.Constants.{constant_value}
use Rattle.ir_tree.specs.Rules.Lines.{is_value_of}
use Rattle.pass_fold.specs.Constants.{constant_of}
use Rattle.pass_fold.specs.Folds.{is_foldable, folded_value}
use Rattle.pass_fold.specs.Settled.{IsFolded, IsAppended, literal_node, settled_node}
use Rattle.pass_fold.proofs.Values.{value_folded}
use Rattle.pass_fold.proofs.Written.{is_written}
use Rattle.pass_fold.proofs.Typed.{typed_value}
use Rattle.pass_fold.proofs.NoToken.{no_token}

both : (a b : Bool) → a && b ≡ true → (a ≡ true) × (b ≡ true)
both true true h = (refl, refl)
both true false h = absurd (cc)
both false b h = absurd (cc)

and_both : (a b : Bool) → a ≡ true → b ≡ true → a && b ≡ true
and_both true b h k = k
and_both false b h k = absurd (cc)

-- the constant writes the value of the node
record IsConstantOf (nodes : List Node) (n : Node) (c : Constant) : Type 0 where
  foldable : is_foldable nodes n ≡ true
  typed : is_value_of n.ty c ≡ true
  value : constant_value (ty_of n.ty) c ≡ folded_value nodes n

constant_is : (state : IrType) (nodes : List Node) (n : Node) → AreBuilt state nodes → FitsAt state nodes (length nodes) n → is_plain_op n.op ≡ true → is_foldable nodes n ≡ true → IsConstantOf nodes n (constant_of (folded_value nodes n))
constant_is state nodes n built fits_at plain h =
    let written = is_written (ty_of n.ty) (folded_value nodes n) (typed_value state nodes n built fits_at h) in
    record { foldable = h; typed = and_both _ _ (ap not (no_token state nodes n built fits_at plain h)) written.own; value = written.back }

literal_placed : (state : IrType) (nodes : List Node) (n : Node) (c : Constant) → FitsAt state nodes (length nodes) n → IsConstantOf nodes n c → FitsAt state nodes (length nodes) (literal_node n.ty c)
literal_placed state nodes n c fits_at is = record {
  operands = refl;
  attributes = refl;
  fits = refl;
  typed = and_both (marks_of n.ty).sound _ (both (marks_of n.ty).sound (is_literal_of n.ty n.attributes) fits_at.typed).0 is.typed;
  limits = fits_at.limits;
}

folded : (state : IrType) (nodes : List Node) (n : Node) (c : Constant) → AreBuilt state nodes → FitsAt state nodes (length nodes) n → IsConstantOf nodes n c → Rewrites state nodes (nodes ++ numbered (length nodes) (literal_node n.ty c) ∷ []) n (operand.Node (length nodes))
folded state nodes n c built fits_at is =
    let one = appended state nodes (literal_node n.ty c) built (literal_placed state nodes n c fits_at is) refl in
    record {
      built = one.built;
      extends = one.extends;
      stands = record {
        there = one.stands.there;
        ty = one.stands.ty;
        value = λ s values v.
            one.stands.value s values v ∙ is.value
            ∙ value_folded state nodes s values built (values_before state nodes (numbered (length nodes) (literal_node n.ty c) ∷ []) s values v) n is.foldable;
      };
    }

abbrev pub RewritesAt : List Node → List Node → Node → Operand → Type 0
RewritesAt old new n o = (state : IrType) → AreBuilt state old → FitsAt state old (length old) n → is_plain_op n.op ≡ true → Rewrites state old new n o

moved_to : (state : IrType) (old new : List Node) (n m : Node) (o : Operand) → IsAppended old new m o → Rewrites state old (old ++ numbered (length old) m ∷ []) n (operand.Node (length old)) → Rewrites state old new n o
moved_to state old new n m o is r =
    subst (λ ns. Rewrites state old ns n o) (sym is.0) (subst (Rewrites state old (old ++ numbered (length old) m ∷ []) n) (sym is.1) r)

pub kept_if : {E : Type 0} (r : Result Operand E) (old new : List Node) (n : Node) → IfOk r (λ o. new ≡ old ++ numbered (length old) n ∷ []) → IfOk r (λ o. o ≡ operand.Node (length old)) → IfOk r (RewritesAt old new n)
kept_if (Ok o) old new n e f = λ state built fits_at plain. moved_to state old new n n o (e, f) (appended state old n built fits_at plain)
kept_if (Err x) old new n e f = tt

itself : (old : List Node) (n : Node) → is_foldable old n ≡ false → n ≡ settled_node old n
itself old n free = sym (ap (λ b. if b then literal_node n.ty (constant_of (folded_value old n)) else n) free)

its_literal : (old : List Node) (n : Node) → is_foldable old n ≡ true → literal_node n.ty (constant_of (folded_value old n)) ≡ settled_node old n
its_literal old n h = sym (ap (λ b. if b then literal_node n.ty (constant_of (folded_value old n)) else n) h)

pub kept_folds : {E : Type 0} (r : Result Operand E) (old new : List Node) (n : Node) → is_foldable old n ≡ false → IfOk r (λ o. new ≡ old ++ numbered (length old) n ∷ []) → IfOk r (λ o. o ≡ operand.Node (length old)) → IfOk r (IsFolded old new n)
kept_folds (Ok o) old new n free e f = subst (λ m. IsAppended old new m o) (itself old n free) (e, f)
kept_folds (Err x) old new n free e f = tt

pub folded_if : {E : Type 0} (r : Result Operand E) (old new : List Node) (n : Node) (c : Constant) → is_foldable old n ≡ true → c ≡ constant_of (folded_value old n) → IfOk r (λ o. new ≡ old ++ numbered (length old) (literal_node n.ty c) ∷ []) → IfOk r (λ o. o ≡ operand.Node (length old)) → IfOk r (RewritesAt old new n)
folded_if (Ok o) old new n c h is e f = λ state built fits_at plain.
    moved_to state old new n (literal_node n.ty c) o (e, f) (folded state old n c built fits_at (subst (IsConstantOf old n) (sym is) (constant_is state old n built fits_at plain h)))
folded_if (Err x) old new n c h is e f = tt

pub folded_folds : {E : Type 0} (r : Result Operand E) (old new : List Node) (n : Node) (c : Constant) → is_foldable old n ≡ true → c ≡ constant_of (folded_value old n) → IfOk r (λ o. new ≡ old ++ numbered (length old) (literal_node n.ty c) ∷ []) → IfOk r (λ o. o ≡ operand.Node (length old)) → IfOk r (IsFolded old new n)
folded_folds (Ok o) old new n c h is e f = subst (λ m. IsAppended old new m o) (ap (literal_node n.ty) is ∙ its_literal old n h) (e, f)
folded_folds (Err x) old new n c h is e f = tt
