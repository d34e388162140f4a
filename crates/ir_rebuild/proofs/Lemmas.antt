-- What passes know: nodes that are appended, operands that are answered, and the values of operands.
-- the normal form
pub mod Normal
-- putting the nodes of a proc
pub mod Putting
use Rattle.std.proofs.Common.{◌≡◌, ℕ, zero, suc, ◌<◌, ◌≤◌, List, [], ◌∷◌, ◌++◌, map, length, get_or, Bool, true, Some, refl, sym, subst, arith}
use Rattle.std.specs.Prelude.{slice_get}
use Rattle.std.specs.List.{list_all}
use Rattle.std.proofs.lemmas.List.{append-nil}
use Rattle.xb_value.specs.declared.value.Value.{Value}
use Rattle.xb_value.specs.Typing.{IsOfType}
use Rattle.ir_tree.specs.declared.ir_type.IrType.{IrType, Token}
use Rattle.ir_tree.specs.declared.node.Operand.{Operand}
use Rattle.ir_tree.specs.declared.node.Operand.TheVariants as operand
use Rattle.ir_tree.specs.declared.node.Node.{Node}
use Rattle.ir_tree.specs.Types.{ty_of}
use Rattle.ir_tree.specs.Constants.{no_value}
use Rattle.ir_tree.specs.declared.package.Channel.{Channel}
use Rattle.ir_tree.specs.NodeValues.{operand_value, pure_value}
use Rattle.ir_tree.specs.Rules.Fitting.{Types, type_in, type_or, types_behind, node_fits}
use Rattle.ir_tree.specs.Rules.Lines.{is_there, are_there, attributes_there}
use Rattle.ir_rebuild.specs.Operands.{operands_in}
use Rattle.ir_rebuild.specs.Built.{FitsAt, AreBuilt, AreValues, OperandSimulates, Rewrites, is_plain_op, numbered}
use Rattle.ir_rebuild.specs.Moves.{moved, moved_node, moved_attributes}
use Rattle.ir_rebuild.specs.Operands.{attribute_operands}
use Rattle.ir_tree.specs.declared.node.Attributes.{Attributes}
use Rattle.ir_rebuild.proofs.Building as building
use Rattle.ir_rebuild.proofs.Moving as moving
use Rattle.ir_rebuild.proofs.Moving.{SameTypes, SameValues}
use Rattle.ir_rebuild.proofs.Standing as standing

-- a plain node that is appended stands for itself
pub appended : (state : IrType) (nodes : List Node) (n : Node) → AreBuilt state nodes → FitsAt state nodes (length nodes) n → is_plain_op n.op ≡ true → Rewrites state nodes (nodes ++ numbered (length nodes) n ∷ []) n (operand.Node (length nodes))
appended = building.appended

-- an operand that stands for the node is answered, and nothing is appended
pub answered : (state : IrType) (nodes : List Node) (n : Node) (o : Operand) → AreBuilt state nodes → OperandSimulates state nodes n o → Rewrites state nodes nodes n o
answered state nodes n o h k = record {
  built = h;
  extends = record { more = []; are = sym (append-nil nodes); plain = refl };
  stands = k;
}

there_is : (xs : List Node) (i : ℕ) → i < length xs → (n : Node) × (slice_get xs i ≡ Some n)
there_is [] i h = absurd (omega arith)
there_is (x ∷ xs) zero h = (x, refl)
there_is (x ∷ xs) (suc i) h = there_is xs i (omega arith)

-- the node of an operand that is there
pub node_there : (nodes : List Node) (i : ℕ) → is_there (length nodes) (operand.Node i) ≡ true → (n : Node) × (slice_get nodes i ≡ Some n)
node_there nodes i h = there_is nodes i (building.below i (length nodes) h)

-- the value of an operand is of its type
pub has_type : (state : IrType) (nodes : List Node) (s : Value) (values : List Value) → AreValues state nodes s values → (o : Operand) → is_there (length nodes) o ≡ true → IsOfType (ty_of (type_in (types_behind state nodes) o)) (operand_value s values o)
has_type state nodes s values v operand.State h = v.opened
has_type state nodes s values v (operand.Node i) h =
    let there = node_there nodes i h in
    subst (λ x. IsOfType (ty_of (type_or (Token []) x)) (get_or values i no_value)) (sym there.1) (v.typed i there.0 there.1)

pub all_there : (k : ℕ) (n : Node) → are_there k n.operands ≡ true → attributes_there k n.attributes ≡ true → list_all (is_there k) (operands_in n) ≡ true
all_there = building.all_there

-- ---- lists that grow

pub there_more : (k m : ℕ) → k ≤ m → (o : Operand) → is_there k o ≡ true → is_there m o ≡ true
there_more = building.there_more

pub all_weaker : (p q : Operand → Bool) → ((o : Operand) → p o ≡ true → q o ≡ true) → (os : List Operand) → list_all p os ≡ true → list_all q os ≡ true
all_weaker = building.all_weaker

pub all_parts : (p : Operand → Bool) (xs ys : List Operand) → list_all p (xs ++ ys) ≡ true → (list_all p xs ≡ true) × (list_all p ys ≡ true)
all_parts = moving.all_parts

-- the type of an operand that is there, with more nodes
pub type_more : (state : IrType) (xs ys : List Node) (o : Operand) → is_there (length xs) o ≡ true → type_in (types_behind state (xs ++ ys)) o ≡ type_in (types_behind state xs) o
type_more = building.type_more

-- what stands at a place stands before, or is the last
pub at_place : {A : Type 0} (P : Type 0) (xs : List A) (x : A) (j : ℕ) (y : A) → slice_get (xs ++ x ∷ []) j ≡ Some y → (j < length xs → slice_get xs j ≡ Some y → P) → (building.IsLast xs x j y → P) → P
at_place = building.at_place

pub before_more : {A : Type 0} (xs ys : List A) (j : ℕ) (x : A) → slice_get xs j ≡ Some x → slice_get (xs ++ ys) j ≡ Some x
before_more = building.before_more

pub last_there : {A : Type 0} (xs : List A) (x : A) → slice_get (xs ++ x ∷ []) (length xs) ≡ Some x
last_there = building.last_there

-- what stood for a node stands for it with more nodes, and values of more nodes are values of these
pub stands_more : (state : IrType) (xs ys : List Node) (n : Node) (o : Operand) → OperandSimulates state xs n o → OperandSimulates state (xs ++ ys) n o
stands_more = building.stands_more

pub values_before : (state : IrType) (xs ys : List Node) (s : Value) (values : List Value) → AreValues state (xs ++ ys) s values → AreValues state xs s values
values_before = building.values_before

pub placed_more : (state : IrType) (xs ys : List Node) (place : ℕ) (n : Node) → place ≤ length xs → FitsAt state xs place n → FitsAt state (xs ++ ys) place n
placed_more = building.placed_more

-- ---- nodes whose operands stand elsewhere

pub moved_two : (p : Operand → Bool) (f g : Operand → Operand) → ((o : Operand) → p o ≡ true → f o ≡ g o) → (n : Node) → list_all p (operands_in n) ≡ true → moved_node f n ≡ moved_node g n
moved_two = moving.moved_two

pub moved_longer : (places : List Operand) (x o : Operand) → is_there (length places) o ≡ true → moved (places ++ x ∷ []) o ≡ moved places o
moved_longer = standing.moved_longer

pub map_moved : {A : Type 0} (p : Operand → Bool) (f : Operand → Operand) (g k : Operand → A) → ((o : Operand) → p o ≡ true → g (f o) ≡ k o) → (os : List Operand) → list_all p os ≡ true → map g (map f os) ≡ map k os
map_moved = moving.map_moved

pub attributes_map : (f : Operand → Operand) (a : Attributes) → attribute_operands (moved_attributes f a) ≡ map f (attribute_operands a)
attributes_map = standing.attributes_map

-- ---- nodes over operands that have the same types and values

pub fits_still : (p : Operand → Bool) (old new : Types) → SameTypes p (λ o. o) old new → (channels : List Channel) (n : Node) → list_all p (operands_in n) ≡ true → node_fits channels new n ≡ node_fits channels old n
fits_still = moving.fits_still

pub pure_still : (p : Operand → Bool) (s : Value) (old new : List Value) → SameValues p (λ o. o) s old new → (n : Node) → list_all p (operands_in n) ≡ true → pure_value n s new ≡ pure_value n s old
pure_still = moving.pure_still

pub fits_moved : (p : Operand → Bool) (f : Operand → Operand) (old new : Types) → SameTypes p f old new → (channels : List Channel) (n : Node) → list_all p (operands_in n) ≡ true → node_fits channels new (moved_node f n) ≡ node_fits channels old n
fits_moved = moving.fits_moved
