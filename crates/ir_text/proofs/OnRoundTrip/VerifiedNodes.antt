-- The nodes of a verified proc can be read behind one another.
use Rattle.std.proofs.Common.{◌≡◌, ◌<◌, ◌≤◌, ℕ, suc, ◌-◌, ◌^◌, Bool, true, false, ◌&&◌, ⊎_elim, List, [], ◌∷◌, ◌++◌, map, length, IsTrue, Option, Some, None, refl, sym, ap, subst, ◌∙◌, arith, append_assoc, append-nil}
use Rattle.std.specs.Prelude.{nat_lt, not, slice_get, get_or}
use Rattle.std.specs.List.{list_all}
use Rattle.std.proofs.lemmas.Bool.{and_parts}
use Rattle.std.proofs.lemmas.Bool.Decides.{nat_tests}
use Rattle.std.proofs.lemmas.List.{map-append}
use Rattle.base.proofs.Lemmas.Lists.Indices.{slice_get-append_left}
use Rattle.xb_span.specs.declared.span.Span.{Span}
use Rattle.xb_span.specs.Spans.{nowhere}
use Rattle.delay_model.specs.declared.op.Op.{Op}
use Rattle.delay_model.specs.declared.op.Op.TheVariants as op
use Rattle.delay_model.specs.Signatures.{count_of, is_met}
use Rattle.ir_tree.specs.declared.ir_type.IrType.{IrType}
use Rattle.ir_tree.specs.declared.node.Attributes.{Attributes}
use Rattle.ir_tree.specs.declared.node.Attributes.TheVariants as attributes
use Rattle.ir_tree.specs.declared.node.Node.{Node}
use Rattle.ir_tree.specs.declared.node.Operand.{Operand}
use Rattle.ir_tree.specs.declared.node.Operand.TheVariants as operands
use Rattle.ir_tree.specs.declared.node.Role.{Role}
use Rattle.ir_tree.specs.declared.node.Role.TheVariants as role
use Rattle.ir_tree.specs.declared.package.Channel.{Channel}
use Rattle.ir_tree.specs.NodeValues.{channel_type, role_by, role_of}
use Rattle.ir_tree.specs.Types.{ty_of}
use Rattle.ir_tree.specs.NodeTypes.Constants.{constant_fits}
use Rattle.ir_tree.specs.Rules.Fitting.{Types, first_is_token, node_fits, predicate_fits, site_fits, types_behind, types_fit}
use Rattle.ir_tree.specs.Rules.Lines.{Seen, are_there, attributes_there, is_at_end, is_chained, is_free, is_id_after, is_literal_of, is_named, is_there, is_there_if, is_typed, may_receive, may_send, node_checks, own_levels, see, type_limits}
use Rattle.ir_tree.specs.NodeTypes.Types.{levels_of, marks_of}
use Rattle.ir_tree.specs.Rules.Verified.{nodes_checks}
use Rattle.ir_tree.specs.Rules.Typed.Typed.{none_broken}
use Rattle.ir_tree.proofs.Lemmas.Rules.Typed.Checked.{both_true, not_not_true, parts_not}
use Rattle.ir_text.specs.Printer.Parts.{node_name}
use Rattle.ir_builder.specs.Named.{index_in}
use Rattle.ir_text.proofs.OnRoundTrip.Held.{attributes_held, is_short, node_held, type_held}
use Rattle.ir_text.proofs.OnRoundTrip.Lists.{onto}
use Rattle.ir_text.proofs.OnRoundTrip.OpWords.{ids_same}
use Rattle.ir_text.proofs.OnRoundTrip.TypeTexts.{short_below}
use Rattle.ir_text.proofs.OnRoundTrip.Operands.{AreSaid, IsNamed, IsSaid, IsSaidIf}
use Rattle.ir_text.proofs.OnRoundTrip.Calls.{AttributesSaid, IsChannelNamed, attributes_nesting}
use Rattle.ir_text.proofs.OnRoundTrip.NodeTexts.{AreNodesSaid, IsNodeSaid}
use Rattle.ir_text.proofs.OnRoundTrip.Depths.{constant_flat, few_levels, type_flat}
use Rattle.ir_text.proofs.OnRoundTrip.LineSpans.{below_there, last_or, last_there, length_more, map_at, map_from, onto_more, spanned, there_below}
use Rattle.ir_text.proofs.OnRoundTrip.Classes.{class_fits}

-- ---- ids rise

-- what is known of the nodes before
record AreBehind (before : List Node) : Type 0 where
  small : (j : ℕ) (m : Node) → slice_get before j ≡ Some m → m.id < 2 ^ 32
  rising : (j k : ℕ) (m n : Node) → slice_get before j ≡ Some m → slice_get before k ≡ Some n → j < k → m.id < n.id
  below : (id : ℕ) → IsTrue (is_id_after (slice_get before (length before - 1)) id) → (j : ℕ) (m : Node) → slice_get before j ≡ Some m → m.id < id
  least : (j : ℕ) (m : Node) → slice_get before j ≡ Some m → j ≤ m.id
  reach : (id : ℕ) → IsTrue (is_id_after (slice_get before (length before - 1)) id) → length before ≤ id

none_behind : AreBehind []
none_behind = record {
  small = λ j m e. absurd (cc);
  rising = λ j k m n e f less. absurd (cc);
  below = λ id h j m e. absurd (cc);
  least = λ j m e. absurd (cc);
  reach = λ id h. omega arith;
}

after_last : (before : List Node) (n : Node) (id : ℕ) → IsTrue (is_id_after (slice_get (before ++ n ∷ []) (length (before ++ n ∷ []) - 1)) id) → n.id < id
after_last before n id h =
    let count = length_more before n in
    let place : length (before ++ n ∷ []) - 1 ≡ length before = omega (arith, count) in
    let last : slice_get (before ++ n ∷ []) (length (before ++ n ∷ []) - 1) ≡ Some n = ap (slice_get (before ++ n ∷ [])) place ∙ last_there before n in
    let less : nat_lt n.id id ≡ true = subst (λ o. IsTrue (is_id_after o id)) last h in
    grind (arith, nat_tests)

one_behind : (before : List Node) (n : Node) → AreBehind before → n.id < 2 ^ 32 → IsTrue (is_id_after (slice_get before (length before - 1)) n.id) → AreBehind (before ++ n ∷ [])
one_behind before n b small h = record {
  small = λ j m e. ⊎_elim (λ old. b.small j m old) (λ new. subst (λ (x : Node). x.id < 2 ^ 32) new.1 small) (last_or before n j m e);
  rising = λ j k m o e f less. ⊎_elim
      (λ old. ⊎_elim
      (λ also. b.rising j k m o old also less)
      (λ new. subst (λ (x : Node). m.id < x.id) new.1 (b.below n.id h j m old))
      (last_or before n k o f))
      (λ new. absurd (let within = below_there (before ++ n ∷ []) k o f in let count = length_more before n in let here = new.0 in omega (arith, within, count, here, less)))
      (last_or before n j m e);
  below = λ id after j m e.
      let less = after_last before n id after in
      ⊎_elim
      (λ old. let lower = b.below n.id h j m old in omega (arith, lower, less))
      (λ new. subst (λ (x : Node). x.id < id) new.1 less)
      (last_or before n j m e);
  least = λ j m e. ⊎_elim (λ old. b.least j m old) (λ new. subst (λ (x : Node). j ≤ x.id) new.1 (let count = b.reach n.id h in let here = new.0 in omega (arith, count, here))) (last_or before n j m e);
  reach = λ id after. let less = after_last before n id after in let count = b.reach n.id h in let more = length_more before n in omega (arith, less, count, more);
}

-- ---- operands

-- all nodes, those before, and the names of these on a stack
record AreNamed (nodes before rest : List Node) (names : List (List ℕ)) : Type 0 where
  all : nodes ≡ before ++ rest
  stack : names ≡ onto (map node_name before) []
  behind : AreBehind before

node_named : (nodes before rest : List Node) (names : List (List ℕ)) → AreNamed nodes before rest names → (place : ℕ) → place < length before → IsNamed nodes names place
node_named nodes before rest names a place less =
    let there = there_below before place less in
    let n = there.0 in
    let b = a.behind in
    let low = b.least place n there.1 in
    let id = b.small place n there.1 in
    record {
      node = n;
      there = ap (λ ns. slice_get ns place) a.all ∙ slice_get-append_left before rest place less ∙ there.1;
      named = ap (λ x. index_in x (node_name n)) a.stack ∙ spanned (map node_name before) [] place (node_name n) (map_at node_name before place n there.1) (only b n there.1) ∙ ap Some (omega arith);
      small = omega (arith, low, id);
      id = id;
    }
  where
    only : AreBehind before → (n : Node) → slice_get before place ≡ Some n → (j : ℕ) → place < j → slice_get (map node_name before) j ≡ Some (node_name n) → ⊥
    only b n here j later e =
        let other = map_from node_name before j (node_name n) e in
        let m = other.0 in
        let same : m.id ≡ n.id = ids_same m.op n.op m.id n.id (b.small j m other.1) (b.small place n here) other.2 in
        let rises = b.rising place j n m here other.1 later in
        omega (arith, same, rises)

operand_said : (nodes before rest : List Node) (names : List (List ℕ)) → AreNamed nodes before rest names → (o : Operand) → IsTrue (is_there (length before) o) → IsSaid nodes names o
operand_said nodes before rest names a operands.State h = tt
operand_said nodes before rest names a (operands.Node place) h = node_named nodes before rest names a place (below place (length before) h)
  where
    below : (i n : ℕ) → IsTrue (nat_lt i n) → i < n
    below i n h = grind (arith, nat_tests)

operands_said : (nodes before rest : List Node) (names : List (List ℕ)) → AreNamed nodes before rest names → (os : List Operand) → IsTrue (are_there (length before) os) → AreSaid nodes names os
operands_said nodes before rest names a [] h = tt
operands_said nodes before rest names a (o ∷ os) h =
    let parts = both_true (is_there (length before) o) (are_there (length before) os) h in
    (operand_said nodes before rest names a o parts.0, operands_said nodes before rest names a os parts.1)

option_said : (nodes before rest : List Node) (names : List (List ℕ)) → AreNamed nodes before rest names → (o : Option Operand) → IsTrue (is_there_if (length before) o) → IsSaidIf nodes names o
option_said nodes before rest names a None h = tt
option_said nodes before rest names a (Some o) h = operand_said nodes before rest names a o h

-- ---- attributes

-- each channel is the last one of its name
abbrev pub AreChannelsNamed : List Channel → List (List ℕ) → Type 0
AreChannelsNamed channels channel_names = (place : ℕ) (ch : Channel) → slice_get channels place ≡ Some ch → IsChannelNamed channels channel_names place

some_channel : (channels : List Channel) (channel_names : List (List ℕ)) (place : ℕ) (test : Option Channel → Bool) → test None ≡ false → AreChannelsNamed channels channel_names → (o : Option Channel) → slice_get channels place ≡ o → IsTrue (test o) → IsChannelNamed channels channel_names place
some_channel channels channel_names place test none named None e h = absurd (cc)
some_channel channels channel_names place test none named (Some ch) e h = named place ch e

site_channel : (channels : List Channel) (channel_names : List (List ℕ)) (seen : Seen) (o : Op) (predicate : Option Operand) (place : ℕ) (scope : Types) (os : List Operand) (t : IrType) → AreChannelsNamed channels channel_names → IsTrue (site_fits o (channel_type channels place) scope os t) → IsTrue (is_at_end channels seen (role_by o (attributes.Channel predicate place))) → IsChannelNamed channels channel_names place
site_channel channels channel_names seen op.Receive predicate place scope os t named fit h =
    some_channel channels channel_names place may_receive refl named (slice_get channels place) refl (both_true (may_receive (slice_get channels place)) (is_free seen.received place) h).0
site_channel channels channel_names seen op.Send predicate place scope os t named fit h =
    some_channel channels channel_names place may_send refl named (slice_get channels place) refl (both_true (may_send (slice_get channels place)) (is_free seen.sent place) h).0
site_channel channels channel_names seen _ predicate place scope os t named fit h = absurd (cc)

-- what is known of a node's attributes
attributes_said : (channels : List Channel) (channel_names : List (List ℕ)) (nodes before rest : List Node) (names : List (List ℕ)) (scope : Types) (seen : Seen) (n : Node) → AreChannelsNamed channels channel_names → AreNamed nodes before rest names → (x : Attributes) → IsTrue (attributes_there (length before) x) → IsTrue (types_fit channels scope n x) → IsTrue (is_at_end channels seen (role_by n.op x)) → AttributesSaid channels channel_names nodes names x
attributes_said channels channel_names nodes before rest names scope seen n named a attributes.None there fit end = tt
attributes_said channels channel_names nodes before rest names scope seen n named a (attributes.StartAndWidth start width) there fit end = tt
attributes_said channels channel_names nodes before rest names scope seen n named a (attributes.Width width) there fit end = tt
attributes_said channels channel_names nodes before rest names scope seen n named a (attributes.NewBitCount width) there fit end = tt
attributes_said channels channel_names nodes before rest names scope seen n named a (attributes.Cases cases default) there fit end =
    let parts = both_true (are_there (length before) cases) (is_there_if (length before) default) there in
    (operands_said nodes before rest names a cases parts.0, option_said nodes before rest names a default parts.1)
attributes_said channels channel_names nodes before rest names scope seen n named a (attributes.Index i) there fit end = tt
attributes_said channels channel_names nodes before rest names scope seen n named a (attributes.Indices o) there fit end = operand_said nodes before rest names a o there
attributes_said channels channel_names nodes before rest names scope seen n named a (attributes.Value c) there fit end = tt
attributes_said channels channel_names nodes before rest names scope seen n named a (attributes.Channel predicate place) there fit end =
    let parts = both_true (predicate_fits scope predicate) (first_is_token scope n.operands && site_fits n.op (channel_type channels place) scope n.operands n.ty) fit in
    let inner = both_true (first_is_token scope n.operands) (site_fits n.op (channel_type channels place) scope n.operands n.ty) parts.1 in
    (option_said nodes before rest names a predicate there, site_channel channels channel_names seen n.op predicate place scope n.operands n.ty named inner.1 end)

shallow_attributes : (t : IrType) (x : Attributes) → levels_of t ≤ 65 → IsTrue (is_literal_of t x) → attributes_nesting x ≤ 126
shallow_attributes t attributes.None few h = omega arith
shallow_attributes t (attributes.StartAndWidth start width) few h = omega arith
shallow_attributes t (attributes.Width width) few h = omega arith
shallow_attributes t (attributes.NewBitCount width) few h = omega arith
shallow_attributes t (attributes.Cases cases default) few h = omega arith
shallow_attributes t (attributes.Index i) few h = omega arith
shallow_attributes t (attributes.Indices o) few h = omega arith
shallow_attributes t (attributes.Value c) few h =
    let fit = both_true (not (marks_of t).token) (constant_fits (ty_of t) c) h in
    let flat = constant_flat t c fit.1 in
    omega (arith, flat, few)
shallow_attributes t (attributes.Channel predicate c) few h = omega arith

-- ---- a node

own_small : (r : Role) → own_levels r ≤ 1
own_small role.Pure = omega arith
own_small (role.Receive predicate c) = omega arith
own_small (role.Send predicate c) = omega arith

-- what a node's checks say
record IsNodeChecked (channels : List Channel) (scope : Types) (before : List Node) (seen : Seen) (n : Node) : Type 0 where
  after : IsTrue (is_id_after (slice_get before (length before - 1)) n.id)
  operands : IsTrue (are_there (length before) n.operands)
  attributes : IsTrue (attributes_there (length before) n.attributes)
  types : IsTrue (types_fit channels scope n n.attributes)
  end : IsTrue (is_at_end channels seen (role_of n))
  literal : IsTrue (is_literal_of n.ty n.attributes)
  levels : levels_of n.ty ≤ 65

node_checked : (channels : List Channel) (state : IrType) (before : List Node) (span : Span) (place : ℕ) (seen : Seen) (n : Node) → place ≡ length before → IsTrue (none_broken (node_checks channels state before span place seen n)) → IsNodeChecked channels (types_behind state before) before seen n
node_checked channels state before span place seen n at h =
    let scope = types_behind state before in
    let a = both_true (not (not (is_named (slice_get before (place - 1)) place n))) _ h in
    let b = both_true (not (not (node_fits channels scope n))) _ a.1 in
    let c = both_true (not (not (is_chained before seen n))) _ b.1 in
    let d = both_true (not (not (is_at_end channels seen (role_of n)))) _ c.1 in
    let e = both_true (not (not (is_typed n))) (none_broken (type_limits span.to n.ty (own_levels (role_of n)))) d.1 in
    let named = subst (λ i. IsTrue (is_named (slice_get before (i - 1)) i n)) at (not_not_true _ a.0) in
    let name = both_true (is_id_after (slice_get before (length before - 1)) n.id) (are_there (length before) n.operands && attributes_there (length before) n.attributes) named in
    let there = both_true (are_there (length before) n.operands) (attributes_there (length before) n.attributes) name.1 in
    let fit = both_true (is_met (count_of n.op) (length n.operands)) (types_fit channels scope n n.attributes) (not_not_true (node_fits channels scope n) b.0) in
    let typed = both_true (marks_of n.ty).sound (is_literal_of n.ty n.attributes) (not_not_true (is_typed n) e.0) in
    record {
      after = name.0;
      operands = there.0;
      attributes = there.1;
      types = fit.1;
      end = not_not_true (is_at_end channels seen (role_of n)) d.0;
      literal = typed.1;
      levels = few_levels span.to n.ty (own_levels (role_of n)) (own_small (role_of n)) e.1;
    }

node_said : (channels : List Channel) (channel_names : List (List ℕ)) (nodes before rest : List Node) (names : List (List ℕ)) (scope : Types) (seen : Seen) (n : Node) → AreChannelsNamed channels channel_names → AreNamed nodes before rest names → IsNodeChecked channels scope before seen n → node_held n ≡ true → IsNodeSaid channels channel_names nodes names 126 n
node_said channels channel_names nodes before rest names scope seen n named a c held =
    let first = and_parts (nat_lt n.id (2 ^ 32) && type_held n.ty) (is_short n.operands && attributes_held n.attributes) held in
    let one = and_parts (nat_lt n.id (2 ^ 32)) (type_held n.ty) first.0 in
    let two = and_parts (is_short n.operands) (attributes_held n.attributes) first.1 in
    let flat = type_flat n.ty in
    let levels = c.levels in
    record {
      id = below n.id one.0;
      ty = one.1;
      ty_nesting = omega (arith, flat, levels);
      class = class_fits channels scope n n.attributes c.types;
      operands = operands_said nodes before rest names a n.operands c.operands;
      few = short_below n.operands two.0;
      attributes = attributes_said channels channel_names nodes before rest names scope seen n named a n.attributes c.attributes c.types c.end;
      numbers = two.1;
      nesting = shallow_attributes n.ty n.attributes levels c.literal;
    }
  where
    below : (id : ℕ) → nat_lt id (2 ^ 32) ≡ true → id < 2 ^ 32
    below id h = grind (arith, nat_tests)

-- ---- all nodes

-- all can be read, and then each operand
pub record AreRead (channels : List Channel) (channel_names names : List (List ℕ)) (nodes rest : List Node) : Type 0 where
  pub said : AreNodesSaid channels channel_names nodes 126 names rest
  pub operand : (o : Operand) → IsTrue (is_there (length nodes) o) → IsSaid nodes (onto (map node_name nodes) []) o

all_read : (channels : List Channel) (channel_names : List (List ℕ)) (nodes : List Node) → (before : List Node) (names : List (List ℕ)) → AreNamed nodes before [] names → AreRead channels channel_names names nodes []
all_read channels channel_names nodes before names a =
    let whole : nodes ≡ before = a.all ∙ append-nil before in
    record {
      said = tt;
      operand = λ o h. operand_said nodes nodes [] (onto (map node_name nodes) []) (record { all = sym (append-nil nodes); stack = refl; behind = subst AreBehind (sym whole) a.behind }) o h;
    }

nodes_said : (channels : List Channel) (channel_names : List (List ℕ)) (state : IrType) (spans : List Span) (nodes : List Node) → AreChannelsNamed channels channel_names → (rest before : List Node) (names : List (List ℕ)) (place : ℕ) (seen : Seen) → place ≡ length before → AreNamed nodes before rest names → IsTrue (none_broken (nodes_checks channels state spans before place seen rest)) → list_all node_held rest ≡ true → AreRead channels channel_names names nodes rest
nodes_said channels channel_names state spans nodes named [] before names place seen at a h held = all_read channels channel_names nodes before names a
nodes_said channels channel_names state spans nodes named (n ∷ ns) before names place seen at a h held =
    let parts = parts_not (node_checks channels state before (get_or spans place nowhere) place seen n) (nodes_checks channels state spans (before ++ n ∷ []) (suc place) (see place n seen) ns) h in
    let c = node_checked channels state before (get_or spans place nowhere) place seen n at parts.0 in
    let held_parts = and_parts (node_held n) (list_all node_held ns) held in
    let said = node_said channels channel_names nodes before (n ∷ ns) names (types_behind state before) seen n named a c held_parts.0 in
    let next : AreNamed nodes (before ++ n ∷ []) ns (node_name n ∷ names) = record {
      all = a.all ∙ sym (append_assoc before (n ∷ []) ns);
      stack = ap (λ x. node_name n ∷ x) a.stack ∙ sym (ap (λ x. onto x []) (map-append node_name before (n ∷ [])) ∙ onto_more (map node_name before) [] (node_name n));
      behind = one_behind before n a.behind said.id c.after;
    } in
    let more = nodes_said channels channel_names state spans nodes named ns (before ++ n ∷ []) (node_name n ∷ names) (suc place) (see place n seen) (ap suc at ∙ sym (length_more before n)) next parts.1 held_parts.1 in
    record { said = (said, more.said); operand = more.operand }

-- the nodes of a proc
pub proc_nodes : (channels : List Channel) (channel_names : List (List ℕ)) (state : IrType) (spans : List Span) (nodes : List Node) (seen : Seen) → AreChannelsNamed channels channel_names → IsTrue (none_broken (nodes_checks channels state spans [] 0 seen nodes)) → list_all node_held nodes ≡ true → AreRead channels channel_names [] nodes nodes
proc_nodes channels channel_names state spans nodes seen named h held =
    nodes_said channels channel_names state spans nodes named nodes [] [] 0 seen refl (record { all = refl; stack = refl; behind = none_behind }) h held
