-- What stands for a node once what narrowing says is appended.
use Rattle.std.proofs.Common.{◌≡◌, ℕ, List, [], ◌∷◌, ◌++◌, length, true, false, None, Result, Ok, Err, IfOk, refl, sym, ap, subst, ◌∙◌, arith}
use Rattle.delay_model.specs.declared.op.Extend.TheVariants as extend
use Rattle.ir_tree.specs.declared.ir_type.IrType.{IrType}
use Rattle.ir_tree.specs.declared.node.Operand.{Operand}
use Rattle.ir_tree.specs.declared.node.Operand.TheVariants as operand
use Rattle.ir_tree.specs.declared.node.Node.{Node}
use Rattle.ir_tree.specs.Operations.{on_word, extend_value}
use Rattle.ir_rebuild.specs.Built.{AreBuilt, FitsAt, Rewrites, is_plain_op, numbered}
use Rattle.ir_rebuild.proofs.Lemmas.{appended}
use Rattle.ir_rebuild.specs.Normal.Patterns.{has_pattern}
use Rattle.pass_narrow.specs.declared.rewritten_node.RewrittenNode.{RewrittenNode}
use Rattle.pass_narrow.specs.declared.rewritten_node.RewrittenNode.TheVariants as rewritten_node
use Rattle.pass_narrow.specs.Numbers.{number, IsNumber}
use Rattle.pass_narrow.specs.Narrowing.{Narrows}
use Rattle.pass_narrow.specs.Nodes.{extension_node}
use Rattle.pass_narrow.specs.Replacements.{replacement_of}
use Rattle.pass_narrow.proofs.HasSide as sides
use Rattle.pass_narrow.proofs.Numbers.{IsMade, values_earlier, extends_twice}
use Rattle.pass_narrow.proofs.Made.{made_extension}

-- an operand that stands for the node
pub operand_follows : (state : IrType) (old new : List Node) (n : Node) (o : Operand) → Narrows state old new n (rewritten_node.Operand o) → Rewrites state old new n o
operand_follows state old new n o h = record { built = h.built; extends = h.extends; stands = h.stands }

-- what stands for the node that stands for it
pub node_follows : (state : IrType) (old mid new : List Node) (n m : Node) (o : Operand) → Narrows state old mid n (rewritten_node.Node m) → Rewrites state mid new m o → Rewrites state old new n o
node_follows state old mid new n m o h r = record {
  built = r.built;
  extends = extends_twice old mid new h.extends r.extends;
  stands = record {
    there = r.stands.there;
    ty = r.stands.ty ∙ h.stands.ty;
    value = λ s values v. r.stands.value s values v ∙ h.stands.value s values (values_earlier state mid new s values r.extends v);
  };
}

inside_number : (state : IrType) (old mid new : List Node) (n m : Node) (w : ℕ) (o : Operand) → (h : Narrows state old mid n (rewritten_node.Extended m w)) → Rewrites state mid new m o → IsNumber state new o h.stands.own
inside_number state old mid new n m w o h r = record { there = r.stands.there; ty = r.stands.ty ∙ h.stands.own_ty }

extension_made : (state : IrType) (old mid new : List Node) (n m : Node) (w : ℕ) (o : Operand) → (h : Narrows state old mid n (rewritten_node.Extended m w)) → Rewrites state mid new m o → IsMade state new (extension_node extend.Zero o w) w (λ s values. number s values o)
extension_made state old mid new n m w o h r =
    let fewer = h.stands.fewer in
    made_extension state new extend.Zero o h.stands.own w r.built (inside_number state old mid new n m w o h r) (omega (arith, fewer)) h.stands.most

-- an extension of what stands for the node inside can be appended
pub extension_placed : (state : IrType) (old mid new : List Node) (n m : Node) (w : ℕ) (o : Operand) → Narrows state old mid n (rewritten_node.Extended m w) → Rewrites state mid new m o → FitsAt state new (length new) (extension_node extend.Zero o w)
extension_placed state old mid new n m w o h r = (extension_made state old mid new n m w o h r).fits_at

-- and what stands for that extension stands for the node
pub extension_follows : (state : IrType) (old mid new newer : List Node) (n m : Node) (w : ℕ) (o p : Operand) → Narrows state old mid n (rewritten_node.Extended m w) → Rewrites state mid new m o → Rewrites state new newer (extension_node extend.Zero o w) p → Rewrites state old newer n p
extension_follows state old mid new newer n m w o p h r q = record {
  built = q.built;
  extends = extends_twice old mid newer h.extends (extends_twice mid new newer r.extends q.extends);
  stands = record {
    there = q.stands.there;
    ty = q.stands.ty ∙ sym h.stands.ty;
    value = λ s values v.
        let before = values_earlier state new newer s values q.extends v in
        let first = values_earlier state mid new s values r.extends before in
        q.stands.value s values v
        ∙ ap (on_word (extend_value extend.Zero w)) (r.stands.value s values before)
        ∙ h.stands.value s values first;
  };
}

-- ---- in what calls answer

appended_as : (state : IrType) (nodes new : List Node) (m : Node) (o : Operand) → AreBuilt state nodes → FitsAt state nodes (length nodes) m → is_plain_op m.op ≡ true → new ≡ nodes ++ numbered (length nodes) m ∷ [] → o ≡ operand.Node (length nodes) → Rewrites state nodes new m o
appended_as state nodes new m o built fits_at plain e f =
    subst (λ ns. Rewrites state nodes ns m o) (sym e) (subst (Rewrites state nodes (nodes ++ numbered (length nodes) m ∷ []) m) (sym f) (appended state nodes m built fits_at plain))

pub node_rewrites : {E : Type 0} (r : Result Operand E) (state : IrType) (old mid new : List Node) (n m : Node) (x : RewrittenNode) → Narrows state old mid n x → x ≡ rewritten_node.Node m → IfOk r (λ o. new ≡ mid ++ numbered (length mid) m ∷ []) → IfOk r (λ o. o ≡ operand.Node (length mid)) → IfOk r (λ o. Rewrites state old new n o)
node_rewrites (Ok o) state old mid new n m x h e f g =
    let k = subst (Narrows state old mid n) e h in
    node_follows state old mid new n m o k (appended_as state mid new m o k.built k.stands.fits_at k.stands.plain f g)
node_rewrites (Err y) state old mid new n m x h e f g = tt

pub extended_rewrites : {E : Type 0} (r : Result Operand E) (state : IrType) (old mid new newer : List Node) (n m longer : Node) (w : ℕ) (o : Operand) (x : RewrittenNode) → Narrows state old mid n x → x ≡ rewritten_node.Extended m w → new ≡ mid ++ numbered (length mid) m ∷ [] → o ≡ operand.Node (length mid) → longer ≡ extension_node extend.Zero o w → IfOk r (λ p. newer ≡ new ++ numbered (length new) longer ∷ []) → IfOk r (λ p. p ≡ operand.Node (length new)) → IfOk r (λ p. Rewrites state old newer n p)
extended_rewrites (Ok p) state old mid new newer n m longer w o x h e f g l i j =
    let k = subst (Narrows state old mid n) e h in
    let first = appended_as state mid new m o k.built k.stands.fits_at k.stands.plain f g in
    let second = appended_as state new newer (extension_node extend.Zero o w) p first.built (extension_placed state old mid new n m w o k first) refl (i ∙ ap (λ z. new ++ numbered (length new) z ∷ []) l) j in
    extension_follows state old mid new newer n m w o p k first second
extended_rewrites (Err y) state old mid new newer n m longer w o x h e f g l i j = tt

-- a node without a pattern has no replacement
pub no_right_side : (state : IrType) (nodes : List Node) (n : Node) → AreBuilt state nodes → FitsAt state nodes (length nodes) n → has_pattern state nodes n ≡ false → replacement_of state nodes n ≡ None
no_right_side = sides.no_right_side
