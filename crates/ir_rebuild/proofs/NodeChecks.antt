-- The checks of a node, one by one, and of nodes one after the other.
use Rattle.std.proofs.Common.{◌≡◌, ℕ, suc, ◌+◌, ◌-◌, List, [], ◌∷◌, ◌++◌, length, Bool, true, false, ◌&&◌, None, refl, sym, ap, ◌∙◌, arith}
use Rattle.std.specs.Prelude.{slice_get, not, ◌||◌}
use Rattle.std.proofs.lemmas.List.{append-nil, append_assoc}
use Rattle.std.proofs.lemmas.List.Folds.{list_all-append}
use Rattle.xb_span.specs.declared.fault.Fault.{Fault}
use Rattle.xb_span.specs.Spans.{nowhere}
use Rattle.delay_model.specs.declared.op.Op.{Op}
use Rattle.delay_model.specs.declared.op.Op.TheVariants as op
use Rattle.delay_model.specs.Signatures.{is_met, count_of}
use Rattle.ir_tree.specs.declared.ir_type.IrType.{IrType}
use Rattle.ir_tree.specs.declared.node.Operand.{Operand}
use Rattle.ir_tree.specs.declared.node.Node.{Node}
use Rattle.ir_tree.specs.declared.node.Role.TheVariants as role
use Rattle.ir_tree.specs.declared.node.Attributes.{Attributes}
use Rattle.ir_tree.specs.declared.node.Attributes.TheVariants as attributes
use Rattle.ir_tree.specs.declared.package.Channel.{Channel}
use Rattle.ir_tree.specs.NodeValues.{role_of, role_by, channel_type}
use Rattle.ir_tree.specs.Rules.Checks.{Check, note, noted}
use Rattle.ir_tree.specs.Rules.Fitting.{Types, types_behind, node_fits, types_fit, predicate_fits, first_is_token, site_fits}
use Rattle.ir_tree.specs.Rules.Lines.{Seen, see, see_op, is_after_all, is_id_after, is_named, are_there, attributes_there, is_chained, is_chained_role, see_role, is_at_end, is_typed, own_levels, type_limits, node_checks}
use Rattle.ir_tree.specs.Rules.Verified.{nodes_checks, seen_after}
use Rattle.ir_tree.specs.Rules.Typed.Typed.{none_broken}
use Rattle.ir_rebuild.specs.Built.{FitsAt, is_plain_op}
use Rattle.ir_rebuild.proofs.Moving.{both, and_both}

twice : (b : Bool) → not (not b) ≡ true → b ≡ true
twice true h = refl
twice false h = absurd (cc)

not_twice : (b : Bool) → b ≡ true → not (not b) ≡ true
not_twice b h = ap (λ x. not (not x)) h

-- ---- one node

-- the node of place i, behind those before, breaks no rule and passes no limit
pub record IsChecked (channels : List Channel) (state : IrType) (before : List Node) (i : ℕ) (seen : Seen) (n : Node) : Type 0 where
  pub id : is_id_after (slice_get before (i - 1)) n.id ≡ true
  pub operands : are_there i n.operands ≡ true
  pub attributes : attributes_there i n.attributes ≡ true
  pub fits : node_fits channels (types_behind state before) n ≡ true
  pub chained : is_chained before seen n ≡ true
  pub at_end : is_at_end channels seen (role_of n) ≡ true
  pub typed : is_typed n ≡ true
  pub limits : none_broken (type_limits 0 n.ty (own_levels (role_of n))) ≡ true

pub node_says : (channels : List Channel) (state : IrType) (before : List Node) (i : ℕ) (seen : Seen) (n : Node) → none_broken (node_checks channels state before nowhere i seen n) ≡ true → IsChecked channels state before i seen n
node_says channels state before i seen n h =
    let a = both (not (not (is_named (slice_get before (i - 1)) i n))) _ h in
    let named = both (is_id_after (slice_get before (i - 1)) n.id) (are_there i n.operands && attributes_there i n.attributes) (twice _ a.0) in
    let there = both (are_there i n.operands) (attributes_there i n.attributes) named.1 in
    let b = both (not (not (node_fits channels (types_behind state before) n))) _ a.1 in
    let c = both (not (not (is_chained before seen n))) _ b.1 in
    let d = both (not (not (is_at_end channels seen (role_of n)))) _ c.1 in
    let e = both (not (not (is_typed n))) _ d.1 in
    record {
      id = named.0;
      operands = there.0;
      attributes = there.1;
      fits = twice _ b.0;
      chained = twice _ c.0;
      at_end = twice _ d.0;
      typed = twice _ e.0;
      limits = e.1;
    }

pub says_node : (channels : List Channel) (state : IrType) (before : List Node) (i : ℕ) (seen : Seen) (n : Node) → IsChecked channels state before i seen n → none_broken (node_checks channels state before nowhere i seen n) ≡ true
says_node channels state before i seen n h =
    and_both _ _ (not_twice _ (and_both _ _ h.id (and_both _ _ h.operands h.attributes)))
    (and_both _ _ (not_twice _ h.fits)
    (and_both _ _ (not_twice _ h.chained)
    (and_both _ _ (not_twice _ h.at_end)
    (and_both _ _ (not_twice _ h.typed) h.limits))))

-- ---- plain nodes

pub plain_role : (o : Op) (a : Attributes) → is_plain_op o ≡ true → role_by o a ≡ role.Pure
plain_role op.Receive a h = absurd (cc)
plain_role op.Send a h = absurd (cc)
plain_role o attributes.None h = refl
plain_role o (attributes.StartAndWidth start width) h = refl
plain_role o (attributes.Width width) h = refl
plain_role o (attributes.NewBitCount width) h = refl
plain_role o (attributes.Cases cases default) h = refl
plain_role o (attributes.Index i) h = refl
plain_role o (attributes.Indices i) h = refl
plain_role o (attributes.Value c) h = refl
plain_role o (attributes.Channel predicate c) h = refl

pub plain_no_start : (o : Op) → is_plain_op o ≡ true → is_after_all o ≡ false
plain_no_start op.AfterAll h = absurd (cc)
plain_no_start o h = refl

no_site : (o : Op) (scope : Types) (os : List Operand) (t : IrType) → is_plain_op o ≡ true → site_fits o None scope os t ≡ false
no_site op.Receive scope os t h = absurd (cc)
no_site op.Send scope os t h = absurd (cc)
no_site o scope os t h = refl

not_and : (a b : Bool) → b ≡ false → a && b ≡ true → ⊥
not_and true b e h = absurd (cc)
not_and false b e h = absurd (cc)

and_false : (a b : Bool) → b ≡ false → a && b ≡ false
and_false true b e = e
and_false false b e = refl

types_anywhere : (channels : List Channel) (scope : Types) (n : Node) (a : Attributes) → is_plain_op n.op ≡ true → types_fit [] scope n a ≡ true → types_fit channels scope n a ≡ true
types_anywhere channels scope n attributes.None plain h = h
types_anywhere channels scope n (attributes.StartAndWidth start width) plain h = h
types_anywhere channels scope n (attributes.Width width) plain h = h
types_anywhere channels scope n (attributes.NewBitCount width) plain h = h
types_anywhere channels scope n (attributes.Cases cases default) plain h = h
types_anywhere channels scope n (attributes.Index i) plain h = h
types_anywhere channels scope n (attributes.Indices i) plain h = h
types_anywhere channels scope n (attributes.Value c) plain h = h
types_anywhere channels scope n (attributes.Channel predicate c) plain h =
    absurd (not_and (predicate_fits scope predicate) _ (and_false (first_is_token scope n.operands) _ (no_site n.op scope n.operands n.ty plain)) h)

no_types_anywhere : (channels : List Channel) (scope : Types) (n : Node) (a : Attributes) → is_plain_op n.op ≡ true → types_fit channels scope n a ≡ true → types_fit [] scope n a ≡ true
no_types_anywhere channels scope n attributes.None plain h = h
no_types_anywhere channels scope n (attributes.StartAndWidth start width) plain h = h
no_types_anywhere channels scope n (attributes.Width width) plain h = h
no_types_anywhere channels scope n (attributes.NewBitCount width) plain h = h
no_types_anywhere channels scope n (attributes.Cases cases default) plain h = h
no_types_anywhere channels scope n (attributes.Index i) plain h = h
no_types_anywhere channels scope n (attributes.Indices i) plain h = h
no_types_anywhere channels scope n (attributes.Value c) plain h = h
no_types_anywhere channels scope n (attributes.Channel predicate c) plain h =
    absurd (not_and (predicate_fits scope predicate) _ (and_false (first_is_token scope n.operands) _ (other_site n.op plain)) h)
  where
    other_site : (o : Op) → is_plain_op o ≡ true → site_fits o (channel_type channels c) scope n.operands n.ty ≡ false
    other_site op.Receive e = absurd (cc)
    other_site op.Send e = absurd (cc)
    other_site o e = refl

-- whether a plain node fits doesn't depend on the channels
pub fits_anywhere : (channels : List Channel) (scope : Types) (n : Node) → is_plain_op n.op ≡ true → node_fits [] scope n ≡ true → node_fits channels scope n ≡ true
fits_anywhere channels scope n plain h =
    let parts = both (is_met (count_of n.op) (length n.operands)) (types_fit [] scope n n.attributes) h in
    and_both _ _ parts.0 (types_anywhere channels scope n n.attributes plain parts.1)

pub fits_nowhere : (channels : List Channel) (scope : Types) (n : Node) → is_plain_op n.op ≡ true → node_fits channels scope n ≡ true → node_fits [] scope n ≡ true
fits_nowhere channels scope n plain h =
    let parts = both (is_met (count_of n.op) (length n.operands)) (types_fit channels scope n n.attributes) h in
    and_both _ _ parts.0 (no_types_anywhere channels scope n n.attributes plain parts.1)

-- a plain node that can stand there is checked
pub plain_checked : (channels : List Channel) (state : IrType) (before : List Node) (seen : Seen) (n : Node) → is_plain_op n.op ≡ true → is_id_after (slice_get before (length before - 1)) n.id ≡ true → FitsAt state before (length before) n → IsChecked channels state before (length before) seen n
plain_checked channels state before seen n plain id h =
    let r = plain_role n.op n.attributes plain in
    record {
      id = id;
      operands = h.operands;
      attributes = h.attributes;
      fits = fits_anywhere channels (types_behind state before) n plain h.fits;
      chained = and_both _ _ (ap (λ b. not (b && seen.after_all)) (plain_no_start n.op plain)) (ap (is_chained_role before seen.site n.operands) r);
      at_end = ap (is_at_end channels seen) r;
      typed = h.typed;
      limits = ap (λ q. none_broken (type_limits 0 n.ty (own_levels q))) r ∙ h.limits;
    }

-- a plain node leaves nothing behind
pub plain_unseen : (i : ℕ) (n : Node) (seen : Seen) → is_plain_op n.op ≡ true → see i n seen ≡ seen
plain_unseen i n seen plain =
    ap (λ r. see_op n.op (see_role i r seen)) (plain_role n.op n.attributes plain)
    ∙ (λ k. record { after_all = or_false (is_after_all n.op) seen.after_all (plain_no_start n.op plain) k; site = seen.site; received = seen.received; sent = seen.sent })
  where
    or_false : (a b : Bool) → a ≡ false → (a || b) ≡ b
    or_false true b e = absurd (cc)
    or_false false b e = refl

-- ---- nodes one after the other

-- all nodes are checked, in a list that begins with `before`
abbrev pub AreChecked : List Channel → IrType → List Node → ℕ → Seen → List Node → Type 0
AreChecked channels state before i seen nodes = none_broken (nodes_checks channels state [] before i seen nodes) ≡ true

quiet_append : (xs ys : List Check) → none_broken (xs ++ ys) ≡ (none_broken xs && none_broken ys)
quiet_append xs ys = list_all-append (λ (c : Check). not c.broken) xs ys

pub quiet_parts : (xs ys : List Check) → none_broken (xs ++ ys) ≡ true → (none_broken xs ≡ true) × (none_broken ys ≡ true)
quiet_parts xs ys h = both _ _ (sym (quiet_append xs ys) ∙ h)

pub quiet_join : (xs ys : List Check) → none_broken xs ≡ true → none_broken ys ≡ true → none_broken (xs ++ ys) ≡ true
quiet_join xs ys h k = quiet_append xs ys ∙ and_both _ _ h k

nodes_append : (channels : List Channel) (state : IrType) (before : List Node) (i : ℕ) (seen : Seen) (xs ys : List Node) → nodes_checks channels state [] before i seen (xs ++ ys) ≡ nodes_checks channels state [] before i seen xs ++ nodes_checks channels state [] (before ++ xs) (length xs + i) (seen_after i seen xs) ys
nodes_append channels state before i seen [] ys = λ k. nodes_checks channels state [] (sym (append-nil before) k) (zero_left k) seen ys
  where
    zero_left : i ≡ 0 + i
    zero_left = omega arith
nodes_append channels state before i seen (x ∷ xs) ys =
    ap (λ cs. node_checks channels state before nowhere i seen x ++ cs)
    (nodes_append channels state (before ++ x ∷ []) (suc i) (see i x seen) xs ys
    ∙ ap (λ cs. nodes_checks channels state [] (before ++ x ∷ []) (suc i) (see i x seen) xs ++ cs)
    (λ k. nodes_checks channels state [] (append_assoc before (x ∷ []) xs k) (place k) (seen_after (suc i) (see i x seen) xs) ys))
    ∙ sym (append_assoc (node_checks channels state before nowhere i seen x) (nodes_checks channels state [] (before ++ x ∷ []) (suc i) (see i x seen) xs) _)
  where
    place : length xs + suc i ≡ length (x ∷ xs) + i
    place = omega arith

pub seen_append : (i : ℕ) (seen : Seen) (xs ys : List Node) → seen_after i seen (xs ++ ys) ≡ seen_after (length xs + i) (seen_after i seen xs) ys
seen_append i seen [] ys = λ k. seen_after (zero_left k) seen ys
  where
    zero_left : i ≡ 0 + i
    zero_left = omega arith
seen_append i seen (x ∷ xs) ys = seen_append (suc i) (see i x seen) xs ys ∙ (λ k. seen_after (place k) (seen_after (suc i) (see i x seen) xs) ys)
  where
    place : length xs + suc i ≡ length (x ∷ xs) + i
    place = omega arith

from_none : (xs : List Node) → length xs + 0 ≡ length xs
from_none xs = omega arith

-- one node more
pub seen_one : (seen : Seen) (xs : List Node) (n : Node) → seen_after 0 seen (xs ++ n ∷ []) ≡ see (length xs) n (seen_after 0 seen xs)
seen_one seen xs n = seen_append 0 seen xs (n ∷ []) ∙ (λ k. see (from_none xs k) n (seen_after 0 seen xs))

nodes_one : (channels : List Channel) (state : IrType) (seen : Seen) (xs : List Node) (n : Node) → nodes_checks channels state [] [] 0 seen (xs ++ n ∷ []) ≡ nodes_checks channels state [] [] 0 seen xs ++ node_checks channels state xs nowhere (length xs) (seen_after 0 seen xs) n
nodes_one channels state seen xs n =
    nodes_append channels state [] 0 seen xs (n ∷ [])
    ∙ ap (λ cs. nodes_checks channels state [] [] 0 seen xs ++ cs)
    ((λ k. nodes_checks channels state [] xs (from_none xs k) (seen_after 0 seen xs) (n ∷ [])) ∙ append-nil (node_checks channels state xs nowhere (length xs) (seen_after 0 seen xs) n))

pub more_checked : (channels : List Channel) (state : IrType) (seen : Seen) (xs : List Node) (n : Node) → AreChecked channels state [] 0 seen xs → IsChecked channels state xs (length xs) (seen_after 0 seen xs) n → AreChecked channels state [] 0 seen (xs ++ n ∷ [])
more_checked channels state seen xs n h k =
    ap none_broken (nodes_one channels state seen xs n)
    ∙ quiet_join (nodes_checks channels state [] [] 0 seen xs) (node_checks channels state xs nowhere (length xs) (seen_after 0 seen xs) n) h (says_node channels state xs (length xs) (seen_after 0 seen xs) n k)

pub fewer_checked : (channels : List Channel) (state : IrType) (seen : Seen) (xs : List Node) (n : Node) → AreChecked channels state [] 0 seen (xs ++ n ∷ []) → AreChecked channels state [] 0 seen xs × IsChecked channels state xs (length xs) (seen_after 0 seen xs) n
fewer_checked channels state seen xs n h =
    let parts = quiet_parts (nodes_checks channels state [] [] 0 seen xs) (node_checks channels state xs nowhere (length xs) (seen_after 0 seen xs) n) (sym (ap none_broken (nodes_one channels state seen xs n)) ∙ h) in
    (parts.0, node_says channels state xs (length xs) (seen_after 0 seen xs) n parts.1)

-- the front of a checked list is checked
pub prefix_checked : (channels : List Channel) (state : IrType) (seen : Seen) (xs ys : List Node) → AreChecked channels state [] 0 seen (xs ++ ys) → AreChecked channels state [] 0 seen xs
prefix_checked channels state seen xs ys h =
    (quiet_parts (nodes_checks channels state [] [] 0 seen xs) _ (sym (ap none_broken (nodes_append channels state [] 0 seen xs ys)) ∙ h)).0

-- ---- no fault is named

note_none : (b : Bool) (f : Fault) (cs : List Check) → b ≡ false → noted (note b f None) cs ≡ noted None cs
note_none true f cs e = absurd (cc)
note_none false f cs e = refl

not_false : (b : Bool) → not b ≡ true → b ≡ false
not_false true h = absurd (cc)
not_false false h = refl

pub none_named : (cs : List Check) → none_broken cs ≡ true → noted None cs ≡ None
none_named [] h = refl
none_named (c ∷ cs) h =
    let parts = both (not c.broken) (none_broken cs) h in
    note_none c.broken c.fault cs (not_false c.broken parts.0) ∙ none_named cs parts.1
