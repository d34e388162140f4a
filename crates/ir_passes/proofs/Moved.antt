-- Nodes that were normal are normal where they stand after dead nodes were dropped, and what was needed is.
use Rattle.std.proofs.Common.{◌≡◌, ◌⊎◌, inl, inr, ⊎_elim, ℕ, zero, suc, ◌<◌, List, [], ◌∷◌, ◌++◌, map, length, get_or, Bool, true, false, ◌&&◌, Some, refl, sym, ap, ap₂, subst, ◌∙◌, arith}
use Rattle.std.specs.Prelude.{slice_get, nat_lt, nat_eq, option_map, ◌||◌}
use Rattle.std.specs.List.{list_all}
use Rattle.std.proofs.lemmas.Bool.Decides.{nat_tests}
use Rattle.std.proofs.lemmas.Option.{slice_get_within}
use Rattle.delay_model.specs.declared.op.Op.{Op}
use Rattle.delay_model.specs.declared.op.Op.TheVariants as op
use Rattle.ir_tree.specs.declared.ir_type.IrType.{IrType, Token}
use Rattle.ir_tree.specs.declared.node.Operand.{Operand}
use Rattle.ir_tree.specs.declared.node.Operand.TheVariants as operand
use Rattle.ir_tree.specs.declared.node.Node.{Node}
use Rattle.ir_tree.specs.declared.node.Attributes.{Attributes}
use Rattle.ir_tree.specs.declared.node.Attributes.TheVariants as attributes
use Rattle.ir_tree.specs.declared.package.Proc.{Proc}
use Rattle.ir_tree.specs.NodeValues.{role_by, role_at}
use Rattle.ir_tree.specs.Rules.Fitting.{type_in, type_or, types_behind}
use Rattle.ir_tree.specs.Rules.Lines.{is_there}
use Rattle.ir_tree.specs.NodeTypes.Types.{bits_width}
use Rattle.ir_rebuild.specs.Operands.{operands_in, attribute_operands, optional_operand, node_of}
use Rattle.ir_rebuild.specs.Moves.{moved, moved_attributes, moved_node}
use Rattle.ir_rebuild.specs.Kept.{is_kept, is_site}
use Rattle.ir_rebuild.specs.Built.{is_plain_op, numbered}
use Rattle.ir_rebuild.specs.Walks.{ProcRebuildsTo}
use Rattle.ir_rebuild.proofs.Lemmas.{all_parts, all_weaker, there_more, map_moved, attributes_map}
use Rattle.ir_rebuild.specs.Normal.Origins.{made_by, origin}
use Rattle.ir_rebuild.specs.Normal.Patterns.{node_pattern, first_bit}
use Rattle.ir_rebuild.specs.Normal.Normal.{IsReached, by_next, as_site, by_node, AreLive, is_literal_node, names_literal, all_literals, same_operand, are_one, chooses_one, IsNormalNode, AreNormal, IsNormalProc}
use Rattle.ir_rebuild.proofs.Lemmas.Normal.{renumbered}
use Rattle.pass_dead.specs.Stays.{Stays}
use Rattle.ir_passes.proofs.Kept.{IsImage, AreKeptAs, kept_as}

both : (a b : Bool) → a && b ≡ true → (a ≡ true) × (b ≡ true)
both true true h = (refl, refl)
both true false h = absurd (cc)
both false b h = absurd (cc)

and_both : (a b : Bool) → a ≡ true → b ≡ true → a && b ≡ true
and_both true b h k = k
and_both false b h k = absurd (cc)

below : (i n : ℕ) → nat_lt i n ≡ true → i < n
below i n h = grind (arith, nat_tests, h)

-- an operand that stands before a place and was kept
abbrev pub is_ready : ℕ → List Bool → Operand → Bool
is_ready k kept o = is_there k o && is_kept kept o

pub all_ready : (k : ℕ) (kept : List Bool) (os : List Operand) → list_all (is_there k) os ≡ true → list_all (is_kept kept) os ≡ true → list_all (is_ready k kept) os ≡ true
all_ready k kept [] h c = refl
all_ready k kept (o ∷ os) h c =
    let a = both (is_there k o) (list_all (is_there k) os) h in
    let b = both (is_kept kept o) (list_all (is_kept kept) os) c in
    and_both _ _ (and_both _ _ a.0 b.0) (all_ready k kept os a.1 b.1)

-- the nodes of a proc, those that were kept, and where they stand
pub record IsDropped (state : IrType) (kept : List Bool) (old new : List Node) (places : List Operand) : Type 0 where
  pub stand : AreKeptAs kept old new places
  pub ordered : (j : ℕ) (n : Node) → slice_get old j ≡ Some n → list_all (is_there j) (operands_in n) ≡ true
  pub closed : (j : ℕ) (n : Node) → slice_get old j ≡ Some n → get_or kept j false ≡ true → list_all (is_kept kept) (operands_in n) ≡ true

module _ (state : IrType) (kept : List Bool) (old new : List Node) (places : List Operand) (h : IsDropped state kept old new places) where
  -- the operands of a node that was kept
  ready_of : (j : ℕ) (n : Node) → slice_get old j ≡ Some n → get_or kept j false ≡ true → list_all (is_ready (length old) kept) (operands_in n) ≡ true
  ready_of j n e k =
      let less = slice_get_within old j n e in
      all_ready (length old) kept (operands_in n) (all_weaker (is_there j) (is_there (length old)) (λ o there. there_more j (length old) (omega (arith, less)) o there) (operands_in n) (h.ordered j n e)) (h.closed j n e k)

  there_is : (i : ℕ) → is_there (length old) (operand.Node i) ≡ true → (n : Node) × (slice_get old i ≡ Some n)
  there_is i there = item old i (below i (length old) there)
    where
      item : (xs : List Node) (i : ℕ) → i < length xs → (n : Node) × (slice_get xs i ≡ Some n)
      item [] i less = absurd (omega (arith, less))
      item (x ∷ xs) zero less = (x, refl)
      item (x ∷ xs) (suc i) less = item xs i (omega (arith, less))

  -- the node of an operand that is ready, and its image
  record IsNode (i : ℕ) : Type 0 where
    node : Node
    there : slice_get old i ≡ Some node
    marked : get_or kept i false ≡ true
    image : IsImage new places i node

  node_is : (i : ℕ) → is_ready (length old) kept (operand.Node i) ≡ true → IsNode i
  node_is i ready =
      let parts = both (is_there (length old) (operand.Node i)) (is_kept kept (operand.Node i)) ready in
      let n = there_is i parts.0 in
      record { node = n.0; there = n.1; marked = parts.1; image = h.stand.image i n.0 n.1 parts.1 }

  -- ---- what the table sees

  type_same : (o : Operand) → is_ready (length old) kept o ≡ true → type_in (types_behind state new) (moved places o) ≡ type_in (types_behind state old) o
  type_same operand.State ready = refl
  type_same (operand.Node i) ready =
      let is = node_is i ready in
      ap (type_in (types_behind state new)) is.image.is ∙ ap (type_or (Token [])) is.image.there ∙ sym (ap (type_or (Token [])) is.there)

  made_same : (i at : ℕ) (n : Node) → slice_get old i ≡ Some n → get_or kept i false ≡ true → made_by state new (Some (numbered at (moved_node (moved places) n))) ≡ made_by state old (Some n)
  made_same i at n e k =
      let own = (all_parts (is_ready (length old) kept) n.operands (attribute_operands n.attributes) (ready_of i n e k)).0 in
      let types = map_moved (is_ready (length old) kept) (moved places) (type_in (types_behind state new)) (type_in (types_behind state old)) type_same n.operands own in
      λ j. Some (record { op = n.op; types = types j })

  origin_same : (o : Operand) → is_ready (length old) kept o ≡ true → origin state new (moved places o) ≡ origin state old o
  origin_same operand.State ready = refl
  origin_same (operand.Node i) ready =
      let is = node_is i ready in
      let made : made_by state new (node_of new (moved places (operand.Node i))) ≡ made_by state old (slice_get old i) =
      ap (λ o. made_by state new (node_of new o)) is.image.is
      ∙ (ap (made_by state new) is.image.there
      ∙ (made_same i is.image.at is.node is.there is.marked
      ∙ sym (ap (made_by state old) is.there))) in
      let typed = type_same (operand.Node i) ready in
      λ j. record { ty = typed j; made = made j }

  -- ---- literals and selects

  literal_same : (o : Operand) → is_ready (length old) kept o ≡ true → names_literal new (moved places o) ≡ names_literal old o
  literal_same operand.State ready = refl
  literal_same (operand.Node i) ready =
      let is = node_is i ready in
      ap (names_literal new) is.image.is ∙ ap is_literal_node is.image.there ∙ sym (ap is_literal_node is.there)

  all_same : (p q : Operand → Bool) → ((o : Operand) → is_ready (length old) kept o ≡ true → p (moved places o) ≡ q o) → (os : List Operand) → list_all (is_ready (length old) kept) os ≡ true → list_all p (map (moved places) os) ≡ list_all q os
  all_same p q each [] ready = refl
  all_same p q each (o ∷ os) ready =
      let parts = both (is_ready (length old) kept o) (list_all (is_ready (length old) kept) os) ready in
      ap₂ (λ a b. a && b) (each o parts.0) (all_same p q each os parts.1)

  literals_same : (os : List Operand) → list_all (is_ready (length old) kept) os ≡ true → all_literals new (map (moved places) os) ≡ all_literals old os
  literals_same [] ready = refl
  literals_same (o ∷ os) ready = all_same (names_literal new) (names_literal old) literal_same (o ∷ os) ready

  equal_number : (n : ℕ) → nat_eq n n ≡ true
  equal_number n = grind (arith, nat_tests)

  apart_number : (i j : ℕ) → (i ≡ j → ⊥) → nat_eq i j ≡ false
  apart_number i j h = grind (arith, nat_tests, h)

  by_number : (b : Bool) (i j : ℕ) → nat_eq i j ≡ b → (i ≡ j → ⊥) ⊎ (i ≡ j)
  by_number true i j e = inr (grind (arith, nat_tests, e))
  by_number false i j e = inl (λ same. let is : nat_eq i j ≡ true = grind (arith, nat_tests, same) in let never : true ≡ false = sym is ∙ e in absurd (cc))

  numbers_same : (i j : ℕ) (a : IsNode i) (b : IsNode j) → nat_eq a.image.at b.image.at ≡ nat_eq i j
  numbers_same i j a b =
      ⊎_elim
      (λ apart.
      let other : a.image.at ≡ b.image.at → ⊥ = λ same.
      apart (h.stand.apart i j a.image.at (slice_get_within old i a.node a.there) (slice_get_within old j b.node b.there) a.marked b.marked a.image.is (b.image.is ∙ ap operand.Node (sym same))) in
      apart_number a.image.at b.image.at other ∙ sym (apart_number i j apart))
      (λ same.
      let one : operand.Node a.image.at ≡ operand.Node b.image.at = sym a.image.is ∙ ap (λ k. get_or places k operand.State) same ∙ b.image.is in
      let at : a.image.at ≡ b.image.at = cc in
      ap (λ k. nat_eq a.image.at k) (sym at) ∙ equal_number a.image.at ∙ sym (ap (λ k. nat_eq i k) (sym same) ∙ equal_number i))
      (by_number (nat_eq i j) i j refl)

  operand_same : (x y : Operand) → is_ready (length old) kept x ≡ true → is_ready (length old) kept y ≡ true → same_operand (moved places x) (moved places y) ≡ same_operand x y
  operand_same operand.State operand.State hx hy = refl
  operand_same operand.State (operand.Node j) hx hy = ap (same_operand operand.State) (node_is j hy).image.is
  operand_same (operand.Node i) operand.State hx hy = ap (λ o. same_operand o operand.State) (node_is i hx).image.is
  operand_same (operand.Node i) (operand.Node j) hx hy =
      let a = node_is i hx in
      let b = node_is j hy in
      ap₂ same_operand a.image.is b.image.is ∙ numbers_same i j a b

  one_same : (os : List Operand) → list_all (is_ready (length old) kept) os ≡ true → are_one (map (moved places) os) ≡ are_one os
  one_same [] ready = refl
  one_same (o ∷ os) ready =
      let parts = both (is_ready (length old) kept o) (list_all (is_ready (length old) kept) os) ready in
      all_same (same_operand (moved places o)) (same_operand o) (λ q k. operand_same o q parts.0 k) os parts.1

  chooses_same : (os : List Operand) (a : Attributes) → list_all (is_ready (length old) kept) os ≡ true → list_all (is_ready (length old) kept) (attribute_operands a) ≡ true → chooses_one new (map (moved places) os) (moved_attributes (moved places) a) ≡ chooses_one old os a
  chooses_same os attributes.None r s = refl
  chooses_same os (attributes.StartAndWidth start width) r s = refl
  chooses_same os (attributes.Width width) r s = refl
  chooses_same os (attributes.NewBitCount width) r s = refl
  chooses_same os (attributes.Cases cases default) r s =
      ap₂ (λ a b. a || b) (literals_same os r) (ap are_one (attributes_map (moved places) (attributes.Cases cases default)) ∙ one_same (cases ++ optional_operand default) s)
  chooses_same os (attributes.Index i) r s = refl
  chooses_same os (attributes.Indices i) r s = refl
  chooses_same os (attributes.Value c) r s = refl
  chooses_same os (attributes.Channel predicate c) r s = refl

  bit_same : (a : Attributes) → first_bit (moved_attributes (moved places) a) ≡ first_bit a
  bit_same attributes.None = refl
  bit_same (attributes.StartAndWidth start width) = refl
  bit_same (attributes.Width width) = refl
  bit_same (attributes.NewBitCount width) = refl
  bit_same (attributes.Cases cases default) = refl
  bit_same (attributes.Index i) = refl
  bit_same (attributes.Indices i) = refl
  bit_same (attributes.Value c) = refl
  bit_same (attributes.Channel predicate c) = refl

  map_append : (xs ys : List Operand) → map (moved places) xs ++ map (moved places) ys ≡ map (moved places) (xs ++ ys)
  map_append [] ys = refl
  map_append (x ∷ xs) ys = ap (λ zs. moved places x ∷ zs) (map_append xs ys)

  operands_moved : (n : Node) → operands_in (moved_node (moved places) n) ≡ map (moved places) (operands_in n)
  operands_moved n = ap (λ os. map (moved places) n.operands ++ os) (attributes_map (moved places) n.attributes) ∙ map_append n.operands (attribute_operands n.attributes)

  -- a node over operands that were kept is normal over what stands for them
  pub normal_over : (n : Node) → list_all (is_ready (length old) kept) (operands_in n) ≡ true → IsNormalNode state old n → IsNormalNode state new (moved_node (moved places) n)
  normal_over n ready is =
      let parts = all_parts (is_ready (length old) kept) n.operands (attribute_operands n.attributes) ready in
      record {
        folded = ap (all_literals new) (operands_moved n) ∙ literals_same (operands_in n) ready ∙ is.folded;
        chosen = chooses_same n.operands n.attributes parts.0 parts.1 ∙ is.chosen;
        narrowed =
            ap₂ (node_pattern n.op (bits_width n.ty)) (bit_same n.attributes) (map_moved (is_ready (length old) kept) (moved places) (origin state new) (origin state old) origin_same n.operands parts.0)
            ∙ is.narrowed;
      }

  -- a normal node that was kept is normal where it stands
  normal_there : (j : ℕ) (n : Node) → slice_get old j ≡ Some n → get_or kept j false ≡ true → IsNormalNode state old n → IsNormalNode state new (moved_node (moved places) n)
  normal_there j n e k = normal_over n (ready_of j n e k)

  pub all_normal : AreNormal state old → AreNormal state new
  all_normal normal = record { each = each }
    where
      each : (i : ℕ) (m : Node) → slice_get new i ≡ Some m → is_plain_op m.op ≡ true → IsNormalNode state new m
      each i m e plain =
          let s = h.stand.source i m e in
          let image = h.stand.image s.from s.node s.there s.marked in
          let one : operand.Node image.at ≡ operand.Node i = sym image.is ∙ s.is in
          let at : image.at ≡ i = cc in
          let here : Some m ≡ Some (numbered image.at (moved_node (moved places) s.node)) = sym e ∙ ap (slice_get new) (sym at) ∙ image.there in
          let same : m ≡ numbered image.at (moved_node (moved places) s.node) = cc in
          let own : is_plain_op s.node.op ≡ true = sym (ap (λ (x : Node). is_plain_op x.op) same) ∙ plain in
          subst (IsNormalNode state new) (sym same) (renumbered state new (moved_node (moved places) s.node) image.at (normal_there s.from s.node s.there s.marked (normal.each s.from s.node s.there own)))

-- ---- what is needed

record IsReachedAs (p q : Proc) (kept : List Bool) (places : List Operand) (j : ℕ) : Type 0 where
  marked : get_or kept j false ≡ true
  reached : (i : ℕ) → get_or places j operand.State ≡ operand.Node i → IsReached q i

site_same : (f : Operand → Operand) (o : Op) (a : Attributes) → is_site (role_by o (moved_attributes f a)) ≡ is_site (role_by o a)
site_same f o attributes.None = refl
site_same f o (attributes.StartAndWidth start width) = refl
site_same f o (attributes.Width width) = refl
site_same f o (attributes.NewBitCount width) = refl
site_same f o (attributes.Cases cases default) = refl
site_same f o (attributes.Index i) = refl
site_same f o (attributes.Indices i) = refl
site_same f o (attributes.Value c) = refl
site_same f o (attributes.Channel predicate c) = by_op o
  where
    by_op : (o : Op) → is_site (role_at o (option_map f predicate) c) ≡ is_site (role_at o predicate c)
    by_op op.Receive = refl
    by_op op.Send = refl
    by_op _ = refl

pub operand_there : (p : Operand → Bool) (os : List Operand) (k : ℕ) (o : Operand) → list_all p os ≡ true → slice_get os k ≡ Some o → p o ≡ true
operand_there p [] k o h e = absurd (cc)
operand_there p (x ∷ xs) zero o h e = let same : x ≡ o = cc in subst (λ y. p y ≡ true) same (both (p x) (list_all p xs) h).0
operand_there p (x ∷ xs) (suc k) o h e = operand_there p xs k o (both (p x) (list_all p xs) h).1 e

map_there : (f : Operand → Operand) (os : List Operand) (k : ℕ) (o : Operand) → slice_get os k ≡ Some o → slice_get (map f os) k ≡ Some (f o)
map_there f [] k o e = absurd (cc)
map_there f (x ∷ xs) zero o e = let same : x ≡ o = cc in ap (λ y. Some (f y)) same
map_there f (x ∷ xs) (suc k) o e = map_there f xs k o e

module _ (p q : Proc) (b : ProcRebuildsTo AreLive Stays p q) where
  dropped_as : IsDropped p.state b.kept p.nodes q.nodes b.places
  dropped_as = record {
    stand = kept_as p.state b.kept p.nodes q.nodes b.places b.walks b.before.operands;
    ordered = b.before.operands;
    closed = b.are_kept.operands;
  }

  reached_as : (j : ℕ) → IsReached p j → IsReachedAs p q b.kept b.places j
  reached_as j (by_next _ e) = record {
    marked = subst (λ o. is_kept b.kept o ≡ true) e b.are_kept.next;
    reached = λ i at. by_next i (b.next ∙ ap (moved b.places) e ∙ at);
  }
  reached_as j (as_site _ n there site) =
      let marked = b.are_kept.sites j n there site in
      let image = dropped_as.stand.image j n there marked in
      record {
        marked = marked;
        reached = λ i at.
            let one : operand.Node image.at ≡ operand.Node i = sym image.is ∙ at in
            let same : image.at ≡ i = cc in
            subst (IsReached q) same (as_site image.at _ image.there (site_same (moved b.places) n.op n.attributes ∙ site));
      }
  reached_as j (by_node _ k l n above there named) =
      let up = reached_as k above in
      let image = dropped_as.stand.image k n there up.marked in
      record {
        marked = operand_there (is_kept b.kept) (operands_in n) l (operand.Node j) (b.are_kept.operands k n there up.marked) named;
        reached = λ i at.
            by_node i image.at l _ (up.reached image.at image.is) image.there
            (ap (λ os. slice_get os l) (operands_moved p.state b.kept p.nodes q.nodes b.places dropped_as n)
            ∙ map_there (moved b.places) (operands_in n) l (operand.Node j) named ∙ ap Some at);
      }

  -- a proc whose nodes are normal is normal once its dead nodes were dropped
  pub normal_proc : AreNormal p.state p.nodes → IsNormalProc q
  normal_proc normal = record {
    nodes = subst (λ s. AreNormal s q.nodes) (sym b.state) (all_normal p.state b.kept p.nodes q.nodes b.places dropped_as normal);
    live = λ i m e.
        let s = dropped_as.stand.source i m e in
        (reached_as s.from (b.marked s.from s.marked)).reached i s.is;
  }
