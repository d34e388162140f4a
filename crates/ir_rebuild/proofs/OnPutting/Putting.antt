-- One plain node that is put behind others.
use Rattle.std.proofs.Common.{◌≡◌, ℕ, List, ◌∷◌, ◌++◌, length, Bool, true, ◌&&◌, IsTrue, refl, sym, ap, subst, ◌∙◌, ◌==◌, arith, Result, Ok, Err, IfOk, []}
use Rattle.std.proofs.lemmas.Bool.Decides.{nat_tests}
use Rattle.xb_bits.specs.Word.{Word}
use Rattle.xb_value.specs.declared.value.Value.{Value}
use Rattle.net_core.specs.Behavior.{IsWordOf}
use Rattle.delay_model.specs.declared.op.Op.{Op}
use Rattle.ir_tree.specs.declared.ir_type.IrType.{IrType, Bits}
use Rattle.ir_tree.specs.declared.node.Operand.{Operand}
use Rattle.ir_tree.specs.declared.node.Operand.TheVariants as operands
use Rattle.ir_tree.specs.declared.node.Attributes.{Attributes}
use Rattle.ir_tree.specs.declared.node.Node.{Node}
use Rattle.ir_tree.specs.NodeTypes.Types.{marks_of, is_bits_where}
use Rattle.ir_tree.specs.NodeValues.{pure_value}
use Rattle.ir_tree.specs.Operations.{on_word, on_words}
use Rattle.ir_tree.specs.Rules.Fitting.{types_behind, node_fits}
use Rattle.ir_tree.specs.Rules.Lines.{are_there, is_there, attributes_there, is_literal_of}
use Rattle.ir_tree.proofs.Lemmas.Rules.Typed.Checked.{and_true}
use Rattle.ir_tree.proofs.Lemmas.Rules.Typed.Scopes.{HasWord, on_word-Bits, on_words-Bits}
use Rattle.ir_rebuild.specs.Built.{AreBuilt, AreValues, Extends, FitsAt, OperandSimulates, Rewrites, is_plain_op, numbered}
use Rattle.ir_rebuild.proofs.Lemmas.{appended}
use Rattle.ir_rebuild.specs.declared.putting.nodes.Nodes.{Nodes}
use Rattle.ir_rebuild.specs.Putting.Words.{Reading}
use Rattle.ir_rebuild.specs.Putting.Given.{IsNodeType, IsBuilt, type_at, HasType, node_with, PutsNode, GivesValue}
use Rattle.ir_rebuild.proofs.OnPutting.TypesOf.{bits_test}
use Rattle.ir_rebuild.proofs.Lemmas.Putting.{values_earlier}

-- a node that was appended
pub puts : {E : Type 0} (r : Result Operand E) (old new : Nodes) (t : IrType) (k : Op) (os us : List Operand) (a : Attributes) → us ≡ os → new.state ≡ old.state
    → IfOk r (λ o. new.list.items ≡ old.list.items ++ numbered (length old.list.items) (node_with t k us a) ∷ []) → IfOk r (λ o. o ≡ operands.Node (length old.list.items)) → IfOk r (λ o. PutsNode old new (node_with t k os a) o)
puts (Ok o) old new t k os us a e state list is = record { state = state; list = list ∙ ap (λ xs. old.list.items ++ numbered (length old.list.items) (node_with t k xs a) ∷ []) e; is = is }
puts (Err x) old new t k os us a e state list is = tt

-- the node is built where it stands, and its operand has the value of its operation
append_plain : (old new : Nodes) (n : Node) (o : Operand) → IsBuilt old → IsNodeType n.ty → FitsAt old.state old.list.items (length old.list.items) n → is_plain_op n.op ≡ true → PutsNode old new n o → GivesValue old new o n.ty (pure_value n)
append_plain old new n o built within fits plain p = record {
  grows = record {
    state = p.state;
    built = subst (λ t. AreBuilt t new.list.items) (sym p.state) (subst (AreBuilt old.state) (sym p.list) r.built);
    extends = subst (Extends old.list.items) (sym p.list) r.extends;
  };
  has = record { there = stands.there; ty = stands.ty; within = within };
  value = stands.value;
}
  where
    r : Rewrites old.state old.list.items (old.list.items ++ numbered (length old.list.items) n ∷ []) n (operands.Node (length old.list.items))
    r = appended old.state old.list.items n built fits plain

    stands : OperandSimulates new.state new.list.items n o
    stands =
        subst (OperandSimulates new.state new.list.items n) (sym p.is)
        (subst (λ t. OperandSimulates t new.list.items n (operands.Node (length old.list.items))) (sym p.state)
        (subst (λ ns. OperandSimulates old.state ns n (operands.Node (length old.list.items))) (sym p.list) r.stands))

-- a node of a type that fits, whose operation gives this
pub put_gives : (old new : Nodes) (t : IrType) (k : Op) (os : List Operand) (a : Attributes) (o : Operand) (f : Reading) → IsBuilt old → IsNodeType t
    → IsTrue (are_there (length old.list.items) os) → IsTrue (attributes_there (length old.list.items) a) → IsTrue (is_literal_of t a) → IsTrue (node_fits [] (types_behind old.state old.list.items) (node_with t k os a)) → is_plain_op k ≡ true
    → ((s : Value) (values : List Value) → AreValues old.state old.list.items s values → pure_value (node_with t k os a) s values ≡ f s values)
    → PutsNode old new (node_with t k os a) o → GivesValue old new o t f
put_gives old new t k os a o f built within there attributes literal fits plain value p = record {
  grows = g.grows;
  has = g.has;
  value = λ s values v. g.value s values v ∙ value s values (values_earlier old new g.grows s values v);
}
  where
    fits_at : FitsAt old.state old.list.items (length old.list.items) (node_with t k os a)
    fits_at = record {
      operands = there;
      attributes = attributes;
      fits = fits;
      typed = and_true (marks_of t).sound (is_literal_of t a) within.sound literal;
      limits = within.limits;
    }

    g : GivesValue old new o t (pure_value (node_with t k os a))
    g = append_plain old new (node_with t k os a) o built within fits_at plain p

-- ---- operands that are numbers

pub number_test : (nodes : Nodes) (o : Operand) (w : ℕ) (p : ℕ → Bool) → HasType nodes o (Bits w []) → IsTrue (p w) → IsTrue (is_bits_where p (type_at nodes o))
number_test nodes o w p h k = ap (is_bits_where p) h.ty ∙ (bits_test p w ∙ k)

pub one_there : (k : ℕ) (x : Operand) → IsTrue (is_there k x) → IsTrue (are_there k (x ∷ []))
one_there k x h = and_true (is_there k x) true h refl

pub both_there : (k : ℕ) (x y : Operand) → IsTrue (is_there k x) → IsTrue (is_there k y) → IsTrue (are_there k (x ∷ y ∷ []))
both_there k x y h l = and_true (is_there k x) (is_there k y && true) h (one_there k y l)

-- two operations that agree on words of so many bits agree on values that are such words
pub word_same : (f g : Word → Value) (w : ℕ) (v : Value) → HasWord w v → ((x : Word) → IsWordOf w x → f x ≡ g x) → on_word f v ≡ on_word g v
word_same f g w v h e = on_word-Bits f v h.word h.is ∙ (e h.word h.of ∙ sym (on_word-Bits g v h.word h.is))

pub words_same : (f g : Word → Word → Value) (w k : ℕ) (u v : Value) → HasWord w u → HasWord k v → ((x y : Word) → IsWordOf w x → IsWordOf k y → f x y ≡ g x y) → on_words f u v ≡ on_words g u v
words_same f g w k u v h l e = on_words-Bits f u v h.word l.word h.is l.is ∙ (e h.word l.word h.of l.of ∙ sym (on_words-Bits g u v h.word l.word h.is l.is))

pub same_width : (w : ℕ) (x y : Word) → IsWordOf w x → IsWordOf w y → IsTrue (x.width == y.width)
same_width w x y h k = let e : x.width ≡ y.width = h.fits ∙ sym k.fits in grind (arith, nat_tests)
