-- What stands for the nodes that were read among those that were built.
use Rattle.std.proofs.Common.{◌≡◌, ℕ, suc, ◌-◌, ◌<◌, ◌≤◌, List, [], ◌∷◌, ◌++◌, map, length, get_or, Bool, true, false, ◌&&◌, Option, Some, None, refl, sym, ap, subst, ◌∙◌, arith, length-append}
use Rattle.std.specs.Prelude.{slice_get, nat_lt, option_map}
use Rattle.std.specs.List.{list_all}
use Rattle.std.proofs.lemmas.List.{get_or_append_left, get_or-append_right}
use Rattle.std.proofs.lemmas.Option.{slice_get_within, slice_get-get_or}
use Rattle.xb_value.specs.declared.value.Value.{Value}
use Rattle.delay_model.specs.declared.op.Op.{Op}
use Rattle.delay_model.specs.declared.op.Op.TheVariants as op
use Rattle.ir_tree.specs.declared.ir_type.IrType.{IrType, Token}
use Rattle.ir_tree.specs.declared.node.Operand.{Operand}
use Rattle.ir_tree.specs.declared.node.Operand.TheVariants as operand
use Rattle.ir_tree.specs.declared.node.Node.{Node}
use Rattle.ir_tree.specs.declared.node.Role.{Role}
use Rattle.ir_tree.specs.declared.node.Role.TheVariants as role
use Rattle.ir_tree.specs.declared.node.Attributes.{Attributes}
use Rattle.ir_tree.specs.declared.node.Attributes.TheVariants as attributes
use Rattle.ir_tree.specs.declared.package.Channel.{Channel}
use Rattle.ir_tree.specs.Constants.{no_value}
use Rattle.ir_tree.specs.NodeValues.{operand_value, role_of, role_by, role_at}
use Rattle.ir_tree.specs.Activations.{sites_of}
use Rattle.ir_tree.specs.Rules.Fitting.{type_in, type_or, types_behind, node_fits}
use Rattle.ir_tree.specs.Rules.Lines.{Seen, is_there, are_there, attributes_there, is_id_after, is_literal_of, is_typed, own_levels, type_limits}
use Rattle.ir_tree.specs.NodeTypes.Types.{marks_of}
use Rattle.ir_tree.specs.Rules.Typed.Typed.{none_broken}
use Rattle.ir_rebuild.specs.Operands.{optional_operand, attribute_operands, operands_in}
use Rattle.ir_rebuild.specs.Moves.{moved, moved_attributes, moved_node}
use Rattle.ir_rebuild.specs.Kept.{is_kept}
use Rattle.ir_rebuild.specs.Built.{FitsAt, AreBuilt, is_plain_op, numbered}
use Rattle.ir_rebuild.specs.Fixed.{is_fixed}
use Rattle.ir_rebuild.proofs.Moving.{both, and_both, all_parts, SameTypes, SameValues, fits_moved, moved_two}
use Rattle.ir_rebuild.proofs.Building.{below, is_below, there_more, all_there, all_attributes, type_more, at_place, IsLast, before_more, one_longer}
use Rattle.ir_rebuild.proofs.NodeChecks.{IsChecked, plain_role, fits_nowhere}

-- the operand has the type of a node
pub record IsPlace (state : IrType) (new : List Node) (n : Node) (o : Operand) : Type 0 where
  pub there : is_there (length new) o ≡ true
  pub ty : type_in (types_behind state new) o ≡ n.ty

-- the operand names a copy of a node
pub record IsCopy (new : List Node) (places : List Operand) (n : Node) (o : Operand) : Type 0 where
  pub at : ℕ
  pub is : o ≡ operand.Node at
  pub node : slice_get new at ≡ Some (numbered at (moved_node (moved places) n))

-- of the nodes `all` those in `old` were read
pub record Stand (state : IrType) (kept : List Bool) (all old new : List Node) (places : List Operand) : Type 0 where
  pub count : length places ≡ length old
  pub built : AreBuilt state new
  pub place : (j : ℕ) (n : Node) → slice_get old j ≡ Some n → get_or kept j false ≡ true → IsPlace state new n (get_or places j operand.State)
  pub copy : (j : ℕ) (n : Node) → slice_get old j ≡ Some n → get_or kept j false ≡ true → is_fixed all n ≡ true → IsCopy new places n (get_or places j operand.State)
  pub operands : (j : ℕ) (n : Node) → slice_get old j ≡ Some n → list_all (is_there j) (operands_in n) ≡ true
  pub sites : sites_of new ≡ sites_of old

pub none_stand : (state : IrType) (kept : List Bool) (all : List Node) → AreBuilt state [] → Stand state kept all [] [] []
none_stand state kept all h = record {
  count = refl;
  built = h;
  place = λ j n e k. absurd (cc);
  copy = λ j n e k f. absurd (cc);
  operands = λ j n e. absurd (cc);
  sites = refl;
}

-- ---- operands that are there and kept

abbrev pub is_ready : ℕ → List Bool → Operand → Bool
is_ready k kept o = is_there k o && is_kept kept o

pub all_ready : (k : ℕ) (kept : List Bool) (os : List Operand) → list_all (is_there k) os ≡ true → list_all (is_kept kept) os ≡ true → list_all (is_ready k kept) os ≡ true
all_ready k kept [] h e = refl
all_ready k kept (o ∷ os) h e =
    let a = both (is_there k o) (list_all (is_there k) os) h in
    let b = both (is_kept kept o) (list_all (is_kept kept) os) e in
    and_both _ _ (and_both _ _ a.0 b.0) (all_ready k kept os a.1 b.1)

pub ready_type : (state : IrType) (kept : List Bool) (all old new : List Node) (places : List Operand) (d : Node) → Stand state kept all old new places → SameTypes (is_ready (length old) kept) (moved places) (types_behind state old) (types_behind state new)
ready_type state kept all old new places d h operand.State e = refl
ready_type state kept all old new places d h (operand.Node i) e =
    let parts = both (nat_lt i (length old)) (get_or kept i false) e in
    let here = slice_get-get_or old i d (below i (length old) parts.0) in
    (h.place i (get_or old i d) here parts.1).ty ∙ sym (ap (type_or (Token [])) here)

pub ready_there : (state : IrType) (kept : List Bool) (all old new : List Node) (places : List Operand) (d : Node) → Stand state kept all old new places → (o : Operand) → is_ready (length old) kept o ≡ true → is_there (length new) (moved places o) ≡ true
ready_there state kept all old new places d h operand.State e = refl
ready_there state kept all old new places d h (operand.Node i) e =
    let parts = both (nat_lt i (length old)) (get_or kept i false) e in
    (h.place i (get_or old i d) (slice_get-get_or old i d (below i (length old) parts.0)) parts.1).there

-- the values of kept nodes are those of what stands for them
abbrev pub AlikeValues : List Bool → List Operand → Value → List Value → List Value → Type 0
AlikeValues kept places s old new = (j : ℕ) → j < length places → get_or kept j false ≡ true → operand_value s new (get_or places j operand.State) ≡ get_or old j no_value

pub ready_value : (kept : List Bool) (places : List Operand) (s : Value) (a b : List Value) (k : ℕ) → length places ≡ k → AlikeValues kept places s a b → SameValues (is_ready k kept) (moved places) s a b
ready_value kept places s a b k e h operand.State p = refl
ready_value kept places s a b k e h (operand.Node i) p =
    let parts = both (nat_lt i k) (get_or kept i false) p in
    let less = below i k parts.0 in
    h i (omega arith) parts.1

pub last_item : {A : Type 0} (xs : List A) (x d : A) (k : ℕ) → k ≡ length xs → get_or (xs ++ x ∷ []) k d ≡ x
last_item xs x d k e =
    let within : length xs ≤ k = omega (arith, e) in
    let none : k - length xs ≡ 0 = omega (arith, e) in
    get_or-append_right xs (x ∷ []) (length xs) k d refl within ∙ ap (λ j. get_or (x ∷ []) j d) none

pub moved_longer : (places : List Operand) (x o : Operand) → is_there (length places) o ≡ true → moved (places ++ x ∷ []) o ≡ moved places o
moved_longer places x operand.State h = refl
moved_longer places x (operand.Node i) h = get_or_append_left places (x ∷ []) operand.State i (below i (length places) h)

-- ---- one node more was read

place_more : (state : IrType) (new more : List Node) (n : Node) (o : Operand) → IsPlace state new n o → IsPlace state (new ++ more) n o
place_more state new more n o h = record {
  there = there_more (length new) (length (new ++ more)) (omega (arith, length-append new more)) o h.there;
  ty = type_more state new more o h.there ∙ h.ty;
}

copy_more : (new more : List Node) (places : List Operand) (x : Operand) (n : Node) (o : Operand) (j : ℕ) → j ≤ length places → list_all (is_there j) (operands_in n) ≡ true → IsCopy new places n o → IsCopy (new ++ more) (places ++ x ∷ []) n o
copy_more new more places x n o j within there h = record {
  at = h.at;
  is = h.is;
  node = before_more new more h.at (numbered h.at (moved_node (moved places) n)) h.node
      ∙ ap (λ m. Some (numbered h.at m)) (sym (moved_two (is_there j) (moved (places ++ x ∷ [])) (moved places) (λ q e. moved_longer places x q (there_more j (length places) within q e)) n there));
}

pub stand_more : (state : IrType) (kept : List Bool) (all old new more : List Node) (places : List Operand) (n : Node) (o : Operand) → Stand state kept all old new places → AreBuilt state (new ++ more) → (get_or kept (length old) false ≡ true → IsPlace state (new ++ more) n o) → (get_or kept (length old) false ≡ true → is_fixed all n ≡ true → IsCopy (new ++ more) (places ++ o ∷ []) n o) → list_all (is_there (length old)) (operands_in n) ≡ true → sites_of (new ++ more) ≡ sites_of (old ++ n ∷ []) → Stand state kept all (old ++ n ∷ []) (new ++ more) (places ++ o ∷ [])
stand_more state kept all old new more places n o h built place copy there sites = record {
  count = (let same = h.count in omega (arith, one_longer places o, one_longer old n));
  built = built;
  place = λ j m e k.
      at_place (IsPlace state (new ++ more) m (get_or (places ++ o ∷ []) j operand.State)) old n j m e
      (λ less here. subst (IsPlace state (new ++ more) m) (sym (stays j less)) (place_more state new more m (get_or places j operand.State) (h.place j m here k)))
      (λ l. subst (IsPlace state (new ++ more) m) (sym (last j m l)) (subst (λ y. IsPlace state (new ++ more) y o) l.item (place (subst (λ i. get_or kept i false ≡ true) l.place k))));
  copy = λ j m e k f.
      at_place (IsCopy (new ++ more) (places ++ o ∷ []) m (get_or (places ++ o ∷ []) j operand.State)) old n j m e
      (λ less here. subst (IsCopy (new ++ more) (places ++ o ∷ []) m) (sym (stays j less)) (copy_more new more places o m (get_or places j operand.State) j (within j less) (h.operands j m here) (h.copy j m here k f)))
      (λ l. subst (IsCopy (new ++ more) (places ++ o ∷ []) m) (sym (last j m l)) (subst (λ y. IsCopy (new ++ more) (places ++ o ∷ []) y o) l.item (copy (subst (λ i. get_or kept i false ≡ true) l.place k) (subst (λ y. is_fixed all y ≡ true) (sym l.item) f))));
  operands = λ j m e.
      at_place (list_all (is_there j) (operands_in m) ≡ true) old n j m e
      (λ less here. h.operands j m here)
      (λ l. subst (λ i. list_all (is_there i) (operands_in m) ≡ true) (sym l.place) (subst (λ y. list_all (is_there (length old)) (operands_in y) ≡ true) l.item there));
  sites = sites;
}
  where
    within : (j : ℕ) → j < length old → j ≤ length places
    within j less = let same = h.count in omega arith

    stays : (j : ℕ) → j < length old → get_or (places ++ o ∷ []) j operand.State ≡ get_or places j operand.State
    stays j less = get_or_append_left places (o ∷ []) operand.State j (let same = h.count in omega arith)

    last : (j : ℕ) (m : Node) → IsLast old n j m → get_or (places ++ o ∷ []) j operand.State ≡ o
    last j m l = last_item places o operand.State j (l.place ∙ sym h.count)

-- ---- a node over what stands for its operands

all_map : (p q : Operand → Bool) (f : Operand → Operand) → ((o : Operand) → p o ≡ true → q (f o) ≡ true) → (os : List Operand) → list_all p os ≡ true → list_all q (map f os) ≡ true
all_map p q f h [] k = refl
all_map p q f h (o ∷ os) k =
    let parts = both (p o) (list_all p os) k in
    and_both _ _ (h o parts.0) (all_map p q f h os parts.1)

map_join : (f : Operand → Operand) (xs : List Operand) (d : Option Operand) → map f xs ++ optional_operand (option_map f d) ≡ map f (xs ++ optional_operand d)
map_join f [] None = refl
map_join f [] (Some d) = refl
map_join f (x ∷ xs) d = ap (λ ys. f x ∷ ys) (map_join f xs d)

optional_map : (f : Operand → Operand) (d : Option Operand) → optional_operand (option_map f d) ≡ map f (optional_operand d)
optional_map f None = refl
optional_map f (Some d) = refl

pub attributes_map : (f : Operand → Operand) (a : Attributes) → attribute_operands (moved_attributes f a) ≡ map f (attribute_operands a)
attributes_map f attributes.None = refl
attributes_map f (attributes.StartAndWidth start width) = refl
attributes_map f (attributes.Width width) = refl
attributes_map f (attributes.NewBitCount width) = refl
attributes_map f (attributes.Cases cases default) = map_join f cases default
attributes_map f (attributes.Index i) = refl
attributes_map f (attributes.Indices i) = refl
attributes_map f (attributes.Value c) = refl
attributes_map f (attributes.Channel predicate c) = optional_map f predicate

literal_moved : (f : Operand → Operand) (t : IrType) (a : Attributes) → is_literal_of t (moved_attributes f a) ≡ is_literal_of t a
literal_moved f t attributes.None = refl
literal_moved f t (attributes.StartAndWidth start width) = refl
literal_moved f t (attributes.Width width) = refl
literal_moved f t (attributes.NewBitCount width) = refl
literal_moved f t (attributes.Cases cases default) = refl
literal_moved f t (attributes.Index i) = refl
literal_moved f t (attributes.Indices i) = refl
literal_moved f t (attributes.Value c) = refl
literal_moved f t (attributes.Channel predicate c) = refl

abbrev pub moved_role : (Operand → Operand) → Role → Role
moved_role f role.Pure = role.Pure
moved_role f (role.Receive predicate c) = role.Receive (option_map f predicate) c
moved_role f (role.Send predicate c) = role.Send (option_map f predicate) c

role_at_moved : (f : Operand → Operand) (o : Op) (predicate : Option Operand) (c : ℕ) → role_at o (option_map f predicate) c ≡ moved_role f (role_at o predicate c)
role_at_moved f op.Receive predicate c = refl
role_at_moved f op.Send predicate c = refl
role_at_moved f o predicate c = refl

pub role_moved : (f : Operand → Operand) (o : Op) (a : Attributes) → role_by o (moved_attributes f a) ≡ moved_role f (role_by o a)
role_moved f o attributes.None = refl
role_moved f o (attributes.StartAndWidth start width) = refl
role_moved f o (attributes.Width width) = refl
role_moved f o (attributes.NewBitCount width) = refl
role_moved f o (attributes.Cases cases default) = refl
role_moved f o (attributes.Index i) = refl
role_moved f o (attributes.Indices i) = refl
role_moved f o (attributes.Value c) = refl
role_moved f o (attributes.Channel predicate c) = role_at_moved f o predicate c

own_moved : (f : Operand → Operand) (r : Role) → own_levels (moved_role f r) ≡ own_levels r
own_moved f role.Pure = refl
own_moved f (role.Receive predicate c) = refl
own_moved f (role.Send predicate c) = refl

-- its operands stand there, and it fits, as it did
pub record IsMoved (channels : List Channel) (state : IrType) (new : List Node) (f : Operand → Operand) (n : Node) : Type 0 where
  pub operands : are_there (length new) (map f n.operands) ≡ true
  pub attributes : attributes_there (length new) (moved_attributes f n.attributes) ≡ true
  pub fits : node_fits channels (types_behind state new) (moved_node f n) ≡ true
  pub typed : is_typed (moved_node f n) ≡ true
  pub limits : none_broken (type_limits 0 n.ty (own_levels (moved_role f (role_of n)))) ≡ true

pub is_moved : (channels : List Channel) (state : IrType) (kept : List Bool) (all old new : List Node) (places : List Operand) (seen : Seen) (n : Node) → Stand state kept all old new places → IsChecked channels state old (length old) seen n → list_all (is_kept kept) (operands_in n) ≡ true → IsMoved channels state new (moved places) n
is_moved channels state kept all old new places seen n h k closed =
    let ready = all_ready (length old) kept (operands_in n) (all_there (length old) n k.operands k.attributes) closed in
    let parts = all_parts (is_ready (length old) kept) n.operands (attribute_operands n.attributes) ready in
    let there = ready_there state kept all old new places n h in
    record {
      operands = all_map (is_ready (length old) kept) (is_there (length new)) (moved places) there n.operands parts.0;
      attributes = all_attributes (length new) (moved_attributes (moved places) n.attributes)
          (ap (list_all (is_there (length new))) (attributes_map (moved places) n.attributes)
          ∙ all_map (is_ready (length old) kept) (is_there (length new)) (moved places) there (attribute_operands n.attributes) parts.1);
      fits = fits_moved (is_ready (length old) kept) (moved places) (types_behind state old) (types_behind state new) (ready_type state kept all old new places n h) channels n ready ∙ k.fits;
      typed = ap (λ b. (marks_of n.ty).sound && b) (literal_moved (moved places) n.ty n.attributes) ∙ k.typed;
      limits = ap (λ l. none_broken (type_limits 0 n.ty l)) (own_moved (moved places) (role_of n)) ∙ k.limits;
    }

-- a plain node can stand there
pub is_placed : (channels : List Channel) (state : IrType) (new : List Node) (f : Operand → Operand) (n : Node) → IsMoved channels state new f n → is_plain_op n.op ≡ true → FitsAt state new (length new) (moved_node f n)
is_placed channels state new f n h plain = record {
  operands = h.operands;
  attributes = h.attributes;
  fits = fits_nowhere channels (types_behind state new) (moved_node f n) plain h.fits;
  typed = h.typed;
  limits = ap (λ r. none_broken (type_limits 0 n.ty (own_levels (moved_role f r)))) (sym (plain_role n.op n.attributes plain)) ∙ h.limits;
}

-- ---- the next id

pub next_id : (new : List Node) → ((j : ℕ) (n : Node) → slice_get new j ≡ Some n → n.id ≡ suc j) → is_id_after (slice_get new (length new - 1)) (suc (length new)) ≡ true
next_id new h = by (slice_get new (length new - 1)) refl
  where
    by : (o : Option Node) → slice_get new (length new - 1) ≡ o → is_id_after o (suc (length new)) ≡ true
    by None e = refl
    by (Some q) e =
        let id : q.id ≡ suc (length new - 1) = h (length new - 1) q e in
        let within : length new - 1 < length new = slice_get_within new (length new - 1) q e in
        is_below q.id (suc (length new)) (omega (arith, id, within))
