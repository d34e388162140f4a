-- Lists of nodes that grow, and the types and values of their operands.
-- types of values, and of nodes
pub mod Types
-- bits that say what holds of values
pub mod Tests
use Rattle.std.proofs.Common.{◌≡◌, ℕ, ◌≤◌, List, ◌∷◌, ◌++◌, length, refl, sym, ap, subst, ◌∙◌, arith, length-append, []}
use Rattle.std.proofs.lemmas.List.{append_assoc, append-nil}
use Rattle.std.proofs.lemmas.List.Folds.{list_all-append}
use Rattle.xb_value.specs.declared.value.Value.{Value}
use Rattle.xb_value.specs.Typing.{IsOfType}
use Rattle.ir_tree.specs.declared.ir_type.IrType.{IrType, Bits}
use Rattle.ir_tree.specs.declared.node.Operand.{Operand}
use Rattle.ir_tree.specs.declared.node.Node.{Node}
use Rattle.ir_tree.specs.Types.{ty_of}
use Rattle.ir_tree.specs.NodeValues.{operand_value}
use Rattle.ir_tree.specs.Rules.Fitting.{type_in, types_behind}
use Rattle.ir_tree.proofs.Lemmas.Rules.Typed.Checked.{and_true}
use Rattle.ir_tree.proofs.Lemmas.Rules.Typed.Scopes.{HasWord, word_there}
use Rattle.ir_rebuild.specs.Built.{AreValues, is_plain_op}
use Rattle.ir_rebuild.proofs.Lemmas.{has_type, there_more, type_more, values_before}
use Rattle.ir_rebuild.specs.declared.putting.nodes.Nodes.{Nodes}
use Rattle.ir_rebuild.specs.Putting.Words.{Reading, value_at}
use Rattle.ir_rebuild.specs.Putting.Given.{IsBuilt, HasType, OperandsHaveTypes, OperandsHaveType, GrowsTo, HasValue, GivesValue}

-- ---- growing

pub grows_none : (nodes : Nodes) → IsBuilt nodes → GrowsTo nodes nodes
grows_none nodes h = record { state = refl; built = h; extends = record { more = []; are = sym (append-nil nodes.list.items); plain = refl } }

pub grows_twice : (a b c : Nodes) → GrowsTo a b → GrowsTo b c → GrowsTo a c
grows_twice a b c g h = record {
  state = h.state ∙ g.state;
  built = h.built;
  extends = record {
    more = g.extends.more ++ h.extends.more;
    are = h.extends.are ∙ ap (λ ns. ns ++ h.extends.more) g.extends.are ∙ append_assoc a.list.items g.extends.more h.extends.more;
    plain = list_all-append (λ (n : Node). is_plain_op n.op) g.extends.more h.extends.more ∙ and_true _ _ g.extends.plain h.extends.plain;
  };
}

-- values of the longer list are values of the shorter one
pub values_earlier : (old new : Nodes) → GrowsTo old new → (s : Value) (values : List Value) → AreValues new.state new.list.items s values → AreValues old.state old.list.items s values
values_earlier old new g s values v =
    subst (λ t. AreValues t old.list.items s values) g.state
    (values_before new.state old.list.items g.extends.more s values (subst (λ ns. AreValues new.state ns s values) g.extends.are v))

longer : (old new : Nodes) → GrowsTo old new → length old.list.items ≤ length new.list.items
longer old new g =
    let both : length old.list.items ≤ length (old.list.items ++ g.extends.more) = omega (arith, length-append old.list.items g.extends.more) in
    subst (λ ns. length old.list.items ≤ length ns) (sym g.extends.are) both

-- what an operand was in the shorter list it is in the longer one
pub has_later : (old new : Nodes) (o : Operand) (t : IrType) → GrowsTo old new → HasType old o t → HasType new o t
has_later old new o t g h = record {
  there = there_more (length old.list.items) (length new.list.items) (longer old new g) o h.there;
  ty = ap (λ state. type_in (types_behind state new.list.items) o) g.state
      ∙ (ap (λ ns. type_in (types_behind old.state ns) o) g.extends.are ∙ (type_more old.state old.list.items g.extends.more o h.there ∙ h.ty));
  within = h.within;
}

pub have_later : (old new : Nodes) (os : List Operand) (ts : List IrType) → GrowsTo old new → OperandsHaveTypes old os ts → OperandsHaveTypes new os ts
have_later old new [] [] g h = tt
have_later old new [] (t ∷ ts) g h = h
have_later old new (o ∷ os) [] g h = h
have_later old new (o ∷ os) (t ∷ ts) g h = (has_later old new o t g h.0, have_later old new os ts g h.1)

pub all_have_later : (old new : Nodes) (os : List Operand) (t : IrType) → GrowsTo old new → OperandsHaveType old os t → OperandsHaveType new os t
all_have_later old new [] t g h = tt
all_have_later old new (o ∷ os) t g h = (has_later old new o t g h.0, all_have_later old new os t g h.1)

pub value_later : (old new : Nodes) (o : Operand) (f : Reading) → GrowsTo old new → HasValue old o f → HasValue new o f
value_later old new o f g h s values v = h s values (values_earlier old new g s values v)

-- ---- what is given

-- an operand that is there gives its own value
pub gives_itself : (nodes : Nodes) (o : Operand) (t : IrType) → IsBuilt nodes → HasType nodes o t → GivesValue nodes nodes o t (value_at o)
gives_itself nodes o t built h = record { grows = grows_none nodes built; has = h; value = λ s values v. refl }

-- the same value said otherwise
pub gives_as : (old new : Nodes) (o : Operand) (t : IrType) (f g : Reading) → ((s : Value) (values : List Value) → AreValues old.state old.list.items s values → f s values ≡ g s values) → GivesValue old new o t f → GivesValue old new o t g
gives_as old new o t f g e h = record {
  grows = h.grows;
  has = h.has;
  value = λ s values v. h.value s values v ∙ e s values (values_earlier old new h.grows s values v);
}

-- one that is put behind others
pub gives_behind : (a b c : Nodes) (o : Operand) (t : IrType) (f : Reading) → GrowsTo a b → GivesValue b c o t f → GivesValue a c o t f
gives_behind a b c o t f g h = record { grows = grows_twice a b c g h.grows; has = h.has; value = h.value }

-- ---- values

-- the value of an operand is of its type
pub value_typed : (nodes : Nodes) (o : Operand) (t : IrType) → HasType nodes o t → (s : Value) (values : List Value) → AreValues nodes.state nodes.list.items s values → IsOfType (ty_of t) (operand_value s values o)
value_typed nodes o t h s values v = subst (λ u. IsOfType (ty_of u) (operand_value s values o)) h.ty (has_type nodes.state nodes.list.items s values v o h.there)

-- that of a number is a word of as many bits
pub operand_word : (nodes : Nodes) (o : Operand) (w : ℕ) → HasType nodes o (Bits w []) → (s : Value) (values : List Value) → AreValues nodes.state nodes.list.items s values → HasWord w (operand_value s values o)
operand_word nodes o w h s values v = word_there w (operand_value s values o) (value_typed nodes o (Bits w []) h s values v)
