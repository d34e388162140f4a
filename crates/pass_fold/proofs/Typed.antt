-- The value of a node over literals is of the node's type.
use Rattle.std.proofs.Common.{◌≡◌, ℕ, zero, suc, ◌+◌, ◌<◌, ◌≤◌, List, [], ◌∷◌, ◌++◌, map, length, get_or, Bool, true, false, ◌&&◌, Option, Some, None, refl, sym, ap, ap₂, subst, ◌∙◌, arith, length-append}
use Rattle.std.specs.Prelude.{slice_get, nat_lt}
use Rattle.std.specs.List.{list_all}
use Rattle.std.proofs.lemmas.List.{append_assoc}
use Rattle.std.proofs.lemmas.Bool.Decides.{nat_tests}
use Rattle.std.proofs.lemmas.List.Folds.{list_all-append}
use Rattle.xb_bits.specs.Word.{word}
use Rattle.xb_value.specs.declared.value.Value.{Value}
use Rattle.xb_value.specs.Typing.{IsOfType}
use Rattle.delay_model.specs.declared.op.Op.{Op}
use Rattle.delay_model.specs.declared.op.Op.TheVariants as op
use Rattle.delay_model.specs.Signatures.{is_met, count_of}
use Rattle.ir_tree.specs.declared.ir_type.IrType.{IrType, Token}
use Rattle.ir_tree.specs.declared.node.Operand.{Operand}
use Rattle.ir_tree.specs.declared.node.Operand.TheVariants as operand
use Rattle.ir_tree.specs.declared.node.Node.{Node}
use Rattle.ir_tree.specs.declared.node.Attributes.{Attributes}
use Rattle.ir_tree.specs.declared.node.Attributes.TheVariants as attributes
use Rattle.ir_tree.specs.declared.node.Role.TheVariants as role
use Rattle.ir_tree.specs.Constants.{no_value}
use Rattle.ir_tree.specs.Types.{ty_of}
use Rattle.ir_tree.specs.NodeValues.{Setting, pure_value, role_of, role_by, role_value}
use Rattle.ir_tree.specs.NodeTypes.Types.{marks_of}
use Rattle.ir_tree.specs.Rules.Fitting.{Types, type_in, type_or, types_behind, types_fit, node_fits}
use Rattle.ir_tree.specs.Rules.Lines.{is_literal_of}
use Rattle.ir_tree.proofs.Lemmas.Rules.Typed.Tests.{limited}
use Rattle.ir_tree.proofs.Lemmas.Rules.Typed.Scopes.{IsTyped, AreTyped, none_typed, token_value, operands_typed}
use Rattle.ir_tree.proofs.Lemmas.Rules.Typed.Nodes.{HasChannel, HasNoFault, node_typed}
use Rattle.ir_rebuild.specs.Operands.{node_of, attribute_operands}
use Rattle.ir_rebuild.specs.Moves.{moved, moved_attributes, moved_node}
use Rattle.ir_rebuild.specs.Built.{FitsAt, AreBuilt, is_plain_op}
use Rattle.ir_rebuild.proofs.Lemmas.{fits_moved}
use Rattle.ir_rebuild.proofs.Lemmas.Normal.{op_is_literal, constant_there}
use Rattle.pass_fold.specs.Folds.{is_literal_op, is_literal_node, is_literal, is_foldable, is_foldable_by, value_by as literal_by, value_at_op, value_in, value_there, literal_value, places_from, places_to, shown_attributes, index_values, shown_values, folded_value}
use Rattle.pass_fold.proofs.Values.{same_op, folded_all}

both : (a b : Bool) → a && b ≡ true → (a ≡ true) × (b ≡ true)
both true true h = (refl, refl)
both true false h = absurd (cc)
both false b h = absurd (cc)

and_both : (a b : Bool) → a ≡ true → b ≡ true → a && b ≡ true
and_both true b h k = k
and_both false b h k = absurd (cc)

-- an activation without channels
abbrev setting : Setting
setting = record { channels = []; state = no_value; words = λ i. word 0 0 }

-- ---- literals

-- a literal that is placed has a value of its type
literal_typed : (state : IrType) (nodes : List Node) (i : ℕ) (m : Node) → AreBuilt state nodes → slice_get nodes i ≡ Some m → is_literal_op m.op ≡ true → IsTyped m (value_in m)
literal_typed state nodes i m built e h = record { value = value; sound = built.types i m e }
  where
    literal : m.op ≡ op.Literal
    literal = op_is_literal m.op (same_op m.op h)

    fits_at : FitsAt state nodes i m
    fits_at = built.fits_at i m e (ap is_plain_op literal)

    written : (c : _) × (m.attributes ≡ attributes.Value c)
    written = constant_there (types_behind state nodes) m m.attributes literal (both (is_met (count_of m.op) (length m.operands)) (types_fit [] (types_behind state nodes) m m.attributes) fits_at.fits).1

    x : Node
    x = record { id = 0; ty = m.ty; op = op.Literal; operands = []; attributes = attributes.Value written.0 }

    fault : HasNoFault [] (types_behind (Token []) []) x
    fault = record {
      fits = refl;
      literal = ap (is_literal_of m.ty) (sym written.1) ∙ (both (marks_of m.ty).sound (is_literal_of m.ty m.attributes) fits_at.typed).1;
      limits = limited 0 m.ty 0 (built.types i m e) fits_at.limits;
      channel = tt;
    }

    value : IsOfType (ty_of m.ty) (value_in m)
    value =
        subst (IsOfType (ty_of m.ty)) (sym (ap (value_at_op m.ty m.attributes) literal ∙ ap (literal_by m.ty) written.1))
        (node_typed setting (types_behind (Token []) []) [] 0 (operands_typed (Token []) no_value [] [] token_value none_typed) (λ c channel k. absurd (cc)) x fault)

-- the nodes that operands name
abbrev cons_if : Option Node → List Node → List Node
cons_if None ns = ns
cons_if (Some n) ns = n ∷ ns

abbrev named : List Node → List Operand → List Node
named nodes [] = []
named nodes (o ∷ os) = cons_if (node_of nodes o) (named nodes os)

record IsNamed (nodes : List Node) (o : Operand) : Type 0 where
  place : ℕ
  node : Node
  is : o ≡ operand.Node place
  there : slice_get nodes place ≡ Some node
  literal : is_literal_op node.op ≡ true

named_is : (nodes : List Node) (o : Operand) → is_literal nodes o ≡ true → IsNamed nodes o
named_is nodes operand.State h = absurd (cc)
named_is nodes (operand.Node i) h = by (slice_get nodes i) refl h
  where
    by : (x : Option Node) → slice_get nodes i ≡ x → is_literal_node x ≡ true → IsNamed nodes (operand.Node i)
    by None e k = absurd (cc)
    by (Some n) e k = record { place = i; node = n; is = refl; there = e; literal = k }

named_first : (nodes : List Node) (o : Operand) (os : List Operand) (h : IsNamed nodes o) → named nodes (o ∷ os) ≡ h.node ∷ named nodes os
named_first nodes o os h = ap (λ x. cons_if (node_of nodes x) (named nodes os)) h.is ∙ ap (λ x. cons_if x (named nodes os)) h.there

value_first : (nodes : List Node) (o : Operand) (h : IsNamed nodes o) → literal_value nodes o ≡ value_in h.node
value_first nodes o h = ap (literal_value nodes) h.is ∙ ap value_there h.there

all_typed : (state : IrType) (nodes : List Node) → AreBuilt state nodes → (os : List Operand) → list_all (is_literal nodes) os ≡ true → AreTyped (named nodes os) (map (literal_value nodes) os)
all_typed state nodes built [] h = none_typed
all_typed state nodes built (o ∷ os) h =
    let parts = both (is_literal nodes o) (list_all (is_literal nodes) os) h in
    let one = named_is nodes o parts.0 in
    let rest = all_typed state nodes built os parts.1 in
    subst (λ ns. AreTyped ns (literal_value nodes o ∷ map (literal_value nodes) os)) (sym (named_first nodes o os one))
    (subst (λ v. AreTyped (one.node ∷ named nodes os) (v ∷ map (literal_value nodes) os)) (sym (value_first nodes o one))
    (front one.node (value_in one.node) (named nodes os) (map (literal_value nodes) os) (literal_typed state nodes one.place one.node built one.there one.literal) rest))
  where
    front : (n : Node) (v : Value) (ns : List Node) (vs : List Value) → IsTyped n v → AreTyped ns vs → AreTyped (n ∷ ns) (v ∷ vs)
    front n v ns vs t r = record { count = ap suc r.count; each = each }
      where
        each : (i : ℕ) (m : Node) → slice_get (n ∷ ns) i ≡ Some m → IsTyped m (get_or (v ∷ vs) i no_value)
        each zero m e = let same : n ≡ m = cc in subst (λ y. IsTyped y v) same t
        each (suc i) m e = r.each i m e

-- ---- the types at the first places

abbrev is_place : ℕ → Operand → Bool
is_place k operand.State = false
is_place k (operand.Node i) = nat_lt i k

below : (i n : ℕ) → nat_lt i n ≡ true → i < n
below i n h = grind (arith, nat_tests, h)

type_at : (state : IrType) (nodes : List Node) (os : List Operand) (i : ℕ) → list_all (is_literal nodes) os ≡ true → i < length os → type_in (types_behind state nodes) (get_or os i operand.State) ≡ type_or (Token []) (slice_get (named nodes os) i)
type_at state nodes [] i h less = absurd (omega (arith, less))
type_at state nodes (o ∷ os) zero h less =
    let one = named_is nodes o (both (is_literal nodes o) (list_all (is_literal nodes) os) h).0 in
    ap (type_in (types_behind state nodes)) one.is ∙ ap (type_or (Token [])) one.there ∙ sym (ap (λ ns. type_or (Token []) (slice_get ns 0)) (named_first nodes o os one))
type_at state nodes (o ∷ os) (suc i) h less =
    let parts = both (is_literal nodes o) (list_all (is_literal nodes) os) h in
    let one = named_is nodes o parts.0 in
    type_at state nodes os i parts.1 (omega (arith, less)) ∙ sym (ap (λ ns. type_or (Token []) (slice_get ns (suc i))) (named_first nodes o os one))

types_same : (state : IrType) (nodes : List Node) (os : List Operand) → list_all (is_literal nodes) os ≡ true → (o : Operand) → is_place (length os) o ≡ true → type_in (types_behind state nodes) (moved os o) ≡ type_in (types_behind (Token []) (named nodes os)) o
types_same state nodes os h operand.State k = absurd (cc)
types_same state nodes os h (operand.Node i) k = type_at state nodes os i h (below i (length os) k)

-- ---- the operands at the first places

place_operand : (front rest : List Operand) (x : Operand) (k : ℕ) → k ≡ length front → get_or (front ++ x ∷ rest) k operand.State ≡ x
place_operand [] rest x zero e = refl
place_operand [] rest x (suc k) e = absurd (omega (arith, e))
place_operand (y ∷ ys) rest x zero e = absurd (omega (arith, e))
place_operand (y ∷ ys) rest x (suc k) e = place_operand ys rest x k (omega (arith, e))

places_moved : (front xs more : List Operand) (k : ℕ) → k ≡ length front → map (moved (front ++ (xs ++ more))) (places_from k (length xs)) ≡ xs
places_moved front [] more k e = refl
places_moved front (x ∷ xs) more k e =
    ap₂ (λ y ys. y ∷ ys) (place_operand front (xs ++ more) x k e)
    (ap (λ os. map (moved os) (places_from (suc k) (length xs))) (sym (append_assoc front (x ∷ []) (xs ++ more)))
    ∙ places_moved (front ++ x ∷ []) xs more (suc k) (omega (arith, e, length-append front (x ∷ []))))

places_below : (k n m : ℕ) → k + n ≤ m → list_all (is_place m) (places_from k n) ≡ true
places_below k zero m h = refl
places_below k (suc n) m h =
    let less : k < m = omega (arith, h) in
    and_both (nat_lt k m) _ (grind (arith, nat_tests, less)) (places_below (suc k) n m (omega (arith, h)))

-- ---- the node over the first places

-- it has the node's type here
abbrev typed_node : Node → Node
typed_node n = record { id = 0; ty = n.ty; op = n.op; operands = places_to (length n.operands); attributes = shown_attributes (length n.operands) n.attributes }

attributes_moved : (os more : List Operand) (a : Attributes) (nodes : List Node) → is_foldable_by nodes os a ≡ true → more ≡ attribute_operands a → moved_attributes (moved (os ++ more)) (shown_attributes (length os) a) ≡ a
attributes_moved os more attributes.None nodes h e = refl
attributes_moved os more (attributes.StartAndWidth start width) nodes h e = refl
attributes_moved os more (attributes.Width width) nodes h e = refl
attributes_moved os more (attributes.NewBitCount width) nodes h e = refl
attributes_moved os more (attributes.Cases cases default) nodes h e = absurd (cc)
attributes_moved os more (attributes.Index i) nodes h e = refl
attributes_moved os more (attributes.Indices i) nodes h e = ap attributes.Indices (ap (λ ms. get_or (os ++ ms) (length os) operand.State) e ∙ place_operand os [] i (length os) refl)
attributes_moved os more (attributes.Value c) nodes h e = absurd (cc)
attributes_moved os more (attributes.Channel predicate c) nodes h e = absurd (cc)

shown_places : (os : List Operand) (a : Attributes) (nodes : List Node) → is_foldable_by nodes os a ≡ true → list_all (is_place (length (os ++ attribute_operands a))) (places_to (length os) ++ attribute_operands (shown_attributes (length os) a)) ≡ true
shown_places os a nodes h =
    list_all-append (is_place (length (os ++ attribute_operands a))) (places_to (length os)) (attribute_operands (shown_attributes (length os) a))
    ∙ and_both _ _ (places_below 0 (length os) (length (os ++ attribute_operands a)) (omega (arith, length-append os (attribute_operands a)))) (rest a h)
  where
    rest : (a : Attributes) → is_foldable_by nodes os a ≡ true → list_all (is_place (length (os ++ attribute_operands a))) (attribute_operands (shown_attributes (length os) a)) ≡ true
    rest attributes.None h = refl
    rest (attributes.StartAndWidth start width) h = refl
    rest (attributes.Width width) h = refl
    rest (attributes.NewBitCount width) h = refl
    rest (attributes.Cases cases default) h = absurd (cc)
    rest (attributes.Index i) h = refl
    rest (attributes.Indices i) h =
        let less : length os < length (os ++ i ∷ []) = omega (arith, length-append os (i ∷ [])) in
        and_both (nat_lt (length os) (length (os ++ i ∷ []))) true (grind (arith, nat_tests, less)) refl
    rest (attributes.Value c) h = absurd (cc)
    rest (attributes.Channel predicate c) h = absurd (cc)

-- all operands are literals
pub all_literals : (nodes : List Node) (os : List Operand) (a : Attributes) → is_foldable_by nodes os a ≡ true → list_all (is_literal nodes) (os ++ attribute_operands a) ≡ true
all_literals nodes os a h = list_all-append (is_literal nodes) os (attribute_operands a) ∙ by a h
  where
    by : (a : Attributes) → is_foldable_by nodes os a ≡ true → list_all (is_literal nodes) os && list_all (is_literal nodes) (attribute_operands a) ≡ true
    by attributes.None h = and_both _ true (folded_all nodes os h) refl
    by (attributes.StartAndWidth start width) h = and_both _ true (folded_all nodes os h) refl
    by (attributes.Width width) h = and_both _ true (folded_all nodes os h) refl
    by (attributes.NewBitCount width) h = and_both _ true (folded_all nodes os h) refl
    by (attributes.Cases cases default) h = absurd (cc)
    by (attributes.Index i) h = and_both _ true (folded_all nodes os h) refl
    by (attributes.Indices i) h =
        let parts = both (is_literal nodes i) (list_all (is_literal nodes) os) h in
        and_both _ _ parts.1 (and_both (is_literal nodes i) true parts.0 refl)
    by (attributes.Value c) h = absurd (cc)
    by (attributes.Channel predicate c) h = absurd (cc)

values_shown : (nodes : List Node) (os : List Operand) (a : Attributes) → is_foldable_by nodes os a ≡ true → map (literal_value nodes) (os ++ attribute_operands a) ≡ map (literal_value nodes) os ++ index_values nodes a
values_shown nodes os a h = map_append os (attribute_operands a) ∙ ap (λ vs. map (literal_value nodes) os ++ vs) (by a h)
  where
    map_append : (xs ys : List Operand) → map (literal_value nodes) (xs ++ ys) ≡ map (literal_value nodes) xs ++ map (literal_value nodes) ys
    map_append [] ys = refl
    map_append (x ∷ xs) ys = ap (λ vs. literal_value nodes x ∷ vs) (map_append xs ys)

    by : (a : Attributes) → is_foldable_by nodes os a ≡ true → map (literal_value nodes) (attribute_operands a) ≡ index_values nodes a
    by attributes.None h = refl
    by (attributes.StartAndWidth start width) h = refl
    by (attributes.Width width) h = refl
    by (attributes.NewBitCount width) h = refl
    by (attributes.Cases cases default) h = absurd (cc)
    by (attributes.Index i) h = refl
    by (attributes.Indices i) h = refl
    by (attributes.Value c) h = absurd (cc)
    by (attributes.Channel predicate c) h = absurd (cc)

no_literal : (t : IrType) (k : ℕ) (a : Attributes) (nodes : List Node) (os : List Operand) → is_foldable_by nodes os a ≡ true → is_literal_of t (shown_attributes k a) ≡ true
no_literal t k attributes.None nodes os h = refl
no_literal t k (attributes.StartAndWidth start width) nodes os h = refl
no_literal t k (attributes.Width width) nodes os h = refl
no_literal t k (attributes.NewBitCount width) nodes os h = refl
no_literal t k (attributes.Cases cases default) nodes os h = absurd (cc)
no_literal t k (attributes.Index i) nodes os h = refl
no_literal t k (attributes.Indices i) nodes os h = refl
no_literal t k (attributes.Value c) nodes os h = absurd (cc)
no_literal t k (attributes.Channel predicate c) nodes os h = absurd (cc)

pure_role : (o : Op) (k : ℕ) (a : Attributes) → role_by o (shown_attributes k a) ≡ role.Pure
pure_role o k attributes.None = refl
pure_role o k (attributes.StartAndWidth start width) = refl
pure_role o k (attributes.Width width) = refl
pure_role o k (attributes.NewBitCount width) = refl
pure_role o k (attributes.Cases cases default) = refl
pure_role o k (attributes.Index i) = refl
pure_role o k (attributes.Indices i) = refl
pure_role o k (attributes.Value c) = refl
pure_role o k (attributes.Channel predicate c) = refl

-- its type plays no part in its value
type_free : (t u : IrType) (o : Op) (os : List Operand) (k : ℕ) (a : Attributes) (values : List Value) → pure_value (record { id = 0; ty = t; op = o; operands = os; attributes = shown_attributes k a }) no_value values ≡ pure_value (record { id = 0; ty = u; op = o; operands = os; attributes = shown_attributes k a }) no_value values
type_free t u o os k attributes.None values = refl
type_free t u o os k (attributes.StartAndWidth start width) values = refl
type_free t u o os k (attributes.Width width) values = refl
type_free t u o os k (attributes.NewBitCount width) values = refl
type_free t u o os k (attributes.Cases cases default) values = refl
type_free t u o os k (attributes.Index i) values = refl
type_free t u o os k (attributes.Indices i) values = refl
type_free t u o os k (attributes.Value c) values = refl
type_free t u o os k (attributes.Channel predicate c) values = refl

pub typed_value : (state : IrType) (nodes : List Node) (n : Node) → AreBuilt state nodes → FitsAt state nodes (length nodes) n → is_foldable nodes n ≡ true → IsOfType (ty_of n.ty) (folded_value nodes n)
typed_value state nodes n built fits_at h =
    subst (IsOfType (ty_of n.ty)) (ap (role_value setting values 0 x) pure ∙ ap (pure_value x no_value) (values_shown nodes n.operands n.attributes h)
    ∙ type_free n.ty (Token []) n.op (places_to (length n.operands)) (length n.operands) n.attributes (shown_values nodes n))
    (node_typed setting scope values 0 (operands_typed (Token []) no_value (named nodes os) values token_value (all_typed state nodes built os (all_literals nodes n.operands n.attributes h))) (λ c channel k. absurd (cc)) x fault)
  where
    os : List Operand
    os = n.operands ++ attribute_operands n.attributes

    values : List Value
    values = map (literal_value nodes) (n.operands ++ attribute_operands n.attributes)

    scope : Types
    scope = types_behind (Token []) (named nodes (n.operands ++ attribute_operands n.attributes))

    x : Node
    x = typed_node n

    pure : role_of (typed_node n) ≡ role.Pure
    pure = pure_role n.op (length n.operands) n.attributes

    same : moved_node (moved (n.operands ++ attribute_operands n.attributes)) (typed_node n) ≡ record { id = 0; ty = n.ty; op = n.op; operands = n.operands; attributes = n.attributes }
    same = λ i. record {
      id = 0;
      ty = n.ty;
      op = n.op;
      operands = places_moved [] n.operands (attribute_operands n.attributes) 0 refl i;
      attributes = attributes_moved n.operands (attribute_operands n.attributes) n.attributes nodes h refl i;
    }

    fits : node_fits [] (types_behind (Token []) (named nodes (n.operands ++ attribute_operands n.attributes))) (typed_node n) ≡ true
    fits =
        sym (fits_moved (is_place (length (n.operands ++ attribute_operands n.attributes))) (moved (n.operands ++ attribute_operands n.attributes)) (types_behind (Token []) (named nodes (n.operands ++ attribute_operands n.attributes))) (types_behind state nodes)
        (types_same state nodes (n.operands ++ attribute_operands n.attributes) (all_literals nodes n.operands n.attributes h)) [] (typed_node n) (shown_places n.operands n.attributes nodes h))
        ∙ ap (node_fits [] (types_behind state nodes)) same ∙ fits_at.fits

    fault : HasNoFault [] (types_behind (Token []) (named nodes (n.operands ++ attribute_operands n.attributes))) (typed_node n)
    fault = record {
      fits = fits;
      literal = no_literal n.ty (length n.operands) n.attributes nodes n.operands h;
      limits = limited 0 n.ty 0 (both (marks_of n.ty).sound (is_literal_of n.ty n.attributes) fits_at.typed).0 fits_at.limits;
      channel = subst (HasChannel []) (sym pure) tt;
    }
