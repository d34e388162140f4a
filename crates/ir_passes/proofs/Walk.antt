-- Where the rules were tried at each node, all are normal, and they are few.
use Rattle.std.proofs.Common.{◌≡◌, ℕ, ◌*◌, ◌≤◌, List, [], ◌∷◌, ◌++◌, length, Bool, true, false, ◌&&◌, Option, Some, None, refl, sym, ap, subst, arith, length-append}
use Rattle.std.specs.Prelude.{not, ◌||◌}
use Rattle.delay_model.specs.declared.op.Op.{Op}
use Rattle.delay_model.specs.declared.op.Op.TheVariants as op
use Rattle.ir_tree.specs.declared.ir_type.IrType.{IrType}
use Rattle.ir_tree.specs.declared.node.Operand.{Operand}
use Rattle.ir_tree.specs.declared.node.Node.{Node}
use Rattle.ir_tree.specs.declared.node.Attributes.{Attributes}
use Rattle.ir_tree.specs.declared.node.Attributes.TheVariants as attributes
use Rattle.delay_model.specs.Signatures.{is_met, count_of}
use Rattle.ir_tree.specs.Rules.Fitting.{types_behind, types_fit, is_tuple_index, tuple_index_fits}
use Rattle.ir_rebuild.specs.Operands.{node_of}
use Rattle.ir_rebuild.specs.Moves.{moved, moved_node}
use Rattle.ir_rebuild.specs.Built.{AreBuilt, is_plain_op, numbered}
use Rattle.ir_rebuild.specs.Fixed.{is_receive_op, is_receive, is_one_receive, is_part_of_receive, is_fixed}
use Rattle.ir_rebuild.specs.Walks.{RebuildsTo, none_read, dropped, copied, rewritten}
use Rattle.ir_rebuild.proofs.Lemmas.{before_more, last_there}
use Rattle.ir_rebuild.specs.Normal.Origins.{made_by}
use Rattle.ir_rebuild.specs.Normal.Patterns.{is_literal_op, is_tuple_op, is_made}
use Rattle.ir_rebuild.specs.Normal.Normal.{is_literal_node, IsNormalNode, AreNormal}
use Rattle.ir_rebuild.proofs.Lemmas.Normal.{normal_more}
use Rattle.pass_narrow.specs.Replacements.{replacement_of}
use Rattle.pass_select.specs.Choices.{choice_of}
use Rattle.ir_passes.specs.Simplifies.{Simplifies}
use Rattle.ir_passes.proofs.Exact.{at_most_four}

both : (a b : Bool) → a && b ≡ true → (a ≡ true) × (b ≡ true)
both true true h = (refl, refl)
both true false h = absurd (cc)
both false b h = absurd (cc)

-- ---- the parts of what a receive gives

no_literal : (o : Op) → is_receive_op o ≡ true → is_literal_op o ≡ false
no_literal op.Receive h = refl
no_literal o h = absurd (cc)

no_tuple : (o : Op) → is_receive_op o ≡ true → is_tuple_op o ≡ false
no_tuple op.Receive h = refl
no_tuple o h = absurd (cc)

receive_no_literal : (x : Option Node) → is_receive x ≡ true → is_literal_node x ≡ false
receive_no_literal None h = absurd (cc)
receive_no_literal (Some n) h = no_literal n.op h

receive_no_tuple : (state : IrType) (nodes : List Node) (x : Option Node) → is_receive x ≡ true → is_made is_tuple_op (made_by state nodes x) ≡ false
receive_no_tuple state nodes None h = absurd (cc)
receive_no_tuple state nodes (Some n) h = no_tuple n.op h

-- such a part, as a node
abbrev part : ℕ → IrType → Op → Operand → ℕ → Node
part id ty o x i = record { id = id; ty = ty; op = o; operands = x ∷ []; attributes = attributes.Index i }

part_normal : (state : IrType) (nodes : List Node) (id : ℕ) (ty : IrType) (o : Op) (x : Operand) (i : ℕ) → is_tuple_index o ≡ true → is_receive (node_of nodes x) ≡ true → IsNormalNode state nodes (part id ty o x i)
part_normal state nodes id ty op.TupleIndex x i h r = record {
  folded = ap (λ b. b && true) (receive_no_literal (node_of nodes x) r);
  chosen = refl;
  narrowed = receive_no_tuple state nodes (node_of nodes x) r;
}
part_normal state nodes id ty o x i h r = absurd (cc)

-- a node whose attributes and operands are these
one_normal : (state : IrType) (nodes : List Node) (n : Node) (i : ℕ) (os : List Operand) → n.attributes ≡ attributes.Index i → n.operands ≡ os → is_tuple_index n.op ≡ true → is_one_receive nodes os ≡ true → IsNormalNode state nodes n
one_normal state nodes n i [] e f h r = absurd (cc)
one_normal state nodes n i (x ∷ []) e f h r =
    let same : part n.id n.ty n.op x i ≡ n = λ k. record { id = n.id; ty = n.ty; op = n.op; operands = (sym f) k; attributes = (sym e) k } in
    subst (IsNormalNode state nodes) same (part_normal state nodes n.id n.ty n.op x i h r)
one_normal state nodes n i (x ∷ y ∷ os) e f h r = absurd (cc)

by_attributes : (state : IrType) (nodes longer : List Node) (n : Node) (a : Attributes) → n.attributes ≡ a → types_fit [] (types_behind state longer) n a ≡ true → is_part_of_receive nodes a n.operands ≡ true → IsNormalNode state nodes n
by_attributes state nodes longer n attributes.None e h r = absurd (cc)
by_attributes state nodes longer n (attributes.StartAndWidth start width) e h r = absurd (cc)
by_attributes state nodes longer n (attributes.Width width) e h r = absurd (cc)
by_attributes state nodes longer n (attributes.NewBitCount width) e h r = absurd (cc)
by_attributes state nodes longer n (attributes.Cases cases default) e h r = absurd (cc)
by_attributes state nodes longer n (attributes.Index i) e h r =
    one_normal state nodes n i n.operands e refl (both (is_tuple_index n.op) (tuple_index_fits i (types_behind state longer) n.operands n.ty) h).0 r
by_attributes state nodes longer n (attributes.Indices i) e h r = absurd (cc)
by_attributes state nodes longer n (attributes.Value c) e h r = absurd (cc)
by_attributes state nodes longer n (attributes.Channel predicate c) e h r = absurd (cc)

is_part : (a b : Bool) → a ≡ true → not a || b ≡ true → b ≡ true
is_part true b h k = k
is_part false b h k = absurd (cc)

-- a plain node that every pass leaves as it is
fixed_normal : (state : IrType) (new : List Node) (n : Node) → AreBuilt state (new ++ numbered (length new) n ∷ []) → is_fixed new n ≡ true → is_plain_op n.op ≡ true → IsNormalNode state new n
fixed_normal state new n built fixed plain =
    let x = numbered (length new) n in
    let fits_at = built.fits_at (length new) x (last_there new x) plain in
    let fits = (both (is_met (count_of n.op) (length n.operands)) (types_fit [] (types_behind state (new ++ x ∷ [])) x n.attributes) fits_at.fits).1 in
    by_attributes state new (new ++ x ∷ []) n n.attributes refl fits (is_part (is_plain_op n.op) (is_part_of_receive new n.attributes n.operands) plain fixed)

-- ---- the walk

pub walk_normal : (state : IrType) (kept : List Bool) (old new : List Node) (places : List Operand) → RebuildsTo state Simplifies kept old new places → AreNormal state new
walk_normal state kept _ _ _ none_read = record { each = λ i n e. absurd (cc) }
walk_normal state kept _ _ _ (dropped old new places n w unmarked) = walk_normal state kept old new places w
walk_normal state kept _ _ _ (copied old new places n w marked fixed built) =
    let x = moved_node (moved places) n in
    normal_more state new x (λ j m e. built.before j m (before_more new (numbered (length new) x ∷ []) j m e)) (walk_normal state kept old new places w)
    (built.before (length new) (numbered (length new) x) (last_there new (numbered (length new) x))) (λ plain. fixed_normal state new x built fixed plain)
walk_normal state kept _ _ _ (rewritten old new all places n o w marked free behind fits_at rewrites given) = given.normal (walk_normal state kept old new places w)

pub walk_few : (state : IrType) (kept : List Bool) (old new : List Node) (places : List Operand) → RebuildsTo state Simplifies kept old new places → length new ≤ 4 * length old
walk_few state kept _ _ _ none_read = omega arith
walk_few state kept _ _ _ (dropped old new places n w unmarked) =
    let before = walk_few state kept old new places w in
    omega (arith, before, length-append old (n ∷ []))
walk_few state kept _ _ _ (copied old new places n w marked fixed built) =
    let before = walk_few state kept old new places w in
    omega (arith, before, length-append old (n ∷ []), length-append new (numbered (length new) (moved_node (moved places) n) ∷ []))
walk_few state kept _ _ _ (rewritten old new all places n o w marked free behind fits_at rewrites given) =
    let before = walk_few state kept old new places w in
    let m = moved_node (moved places) n in
    let more = given.few in
    let most = at_most_four (choice_of new m) (replacement_of state new m) in
    omega (arith, before, more, most, length-append old (n ∷ []))
