-- A node that breaks no rule has a value of its type, and sends words as wide as its channel's.
use Rattle.std.proofs.Common.{◌≡◌, ℕ, ◌-◌, ◌≤◌, List, [], ◌∷◌, map, length, Bool, true, false, ◌&&◌, IsTrue, Option, Some, None, refl, sym, ap, subst, ◌∙◌, arith}
use Rattle.std.specs.Prelude.{slice_get, nat_le, ◌==◌, if◌then◌else◌, option_map, not}
use Rattle.std.specs.List.{list_all}
use Rattle.std.proofs.lemmas.Bool.Decides.{nat_tests}
use Rattle.xb_bits.specs.Word.{Word}
use Rattle.xb_span.specs.declared.span.Span.{Span}
use Rattle.xb_value.specs.declared.value.Value.{Value}
use Rattle.xb_value.specs.declared.value.Value as value
use Rattle.xb_value.specs.declared.value.Value.TheViews.{outs-Tuple}
use Rattle.xb_value.specs.Flat.{flat_of}
use Rattle.xb_value.specs.Typing.{IsOfType, fits, tuple_fits}
use Rattle.xb_value.specs.Width.{width_of, HasWidths}
use Rattle.xb_value.proofs.Lemmas.Typing.{fits-Tuple}
use Rattle.xb_value.proofs.Lemmas.Flat.{as_wide, gives_typed, in_range}
use Rattle.net_core.specs.Behavior.{IsWordOf}
use Rattle.delay_model.specs.declared.op.Op.{Op}
use Rattle.delay_model.specs.declared.op.Op.TheVariants as op
use Rattle.delay_model.specs.Signatures.{is_met, count_of}
use Rattle.ir_tree.specs.declared.ir_type.IrType.{IrType, Token, Tuple}
use Rattle.ir_tree.specs.declared.node.Operand.{Operand}
use Rattle.ir_tree.specs.declared.node.Node.{Node}
use Rattle.ir_tree.specs.declared.node.Role.{Role}
use Rattle.ir_tree.specs.declared.node.Role.TheVariants as role
use Rattle.ir_tree.specs.declared.node.Attributes.{Attributes}
use Rattle.ir_tree.specs.declared.node.Attributes.TheVariants as attributes
use Rattle.ir_tree.specs.declared.package.Channel.{Channel}
use Rattle.ir_tree.specs.Types.{ty_of}
use Rattle.ir_tree.specs.Constants.{no_value}
use Rattle.ir_tree.specs.NodeValues.{operand_value, optional_value, role_of, role_by, role_at, Setting, is_on, no_word, channel_type, heard, received, value_by}
use Rattle.ir_tree.specs.Operations.{plain_value, of_one, of_two, on_word, on_words, on_tuple, slice_value, dyn_slice_value, chosen, element_at, index_value, longer_value}
use Rattle.ir_tree.specs.Activations.{word_where, sent, sent_by, width_at}
use Rattle.ir_tree.specs.NodeTypes.Types.{is_token, is_tuple_where, same_type, marks_of}
use Rattle.ir_tree.specs.NodeTypes.Constants.{constant_fits}
use Rattle.ir_tree.specs.Rules.Fitting.{Types, type_in, types_behind, plain_fits, slice_fits, dynamic_fits, extend_fits, sel_fits, tuple_index_fits, index_fits, is_bit_slice, is_dynamic_bit_slice, is_extend, is_sel, is_tuple_index, predicate_fits, first_is_token, rest_of, is_pair_of, sends_type, site_fits, node_fits}
use Rattle.ir_tree.specs.Rules.Lines.{Seen, may_receive, may_send, is_free, is_at_end, is_literal_of, is_typed, is_named, is_chained, own_levels, node_checks}
use Rattle.ir_tree.proofs.Lemmas.NodeTypes.IrTypes.{ty_of-Tuple}
use Rattle.ir_tree.specs.Rules.Typed.Typed.{none_broken, AreChannels, IsWordType}
use Rattle.ir_tree.proofs.Lemmas.Rules.Typed.Checked.{both_true, and_true, not_not_true}
use Rattle.ir_tree.proofs.Lemmas.Rules.Typed.Tests.{IsLimited, limited, same_is, token_is, tuple_is, limited_widths}
use Rattle.ir_tree.proofs.Lemmas.Rules.Typed.Scopes.{AreOperands, token_value}
use Rattle.ir_tree.proofs.OnRules.OnTyped.Operations.{one_of, two_of, binary_typed, unary_typed, compare_typed, shift_typed, reduce_typed, concat_typed, tuple_typed, array_typed, slice_typed, dynamic_typed, extend_typed, sel_typed, tuple_index_typed, array_index_typed, array_update_typed, constant_typed}

-- ---- nodes that are no sites, by their attributes

plain_is : (scope : Types) (s : Value) (values : List Value) (k : AreOperands scope s values) (o : Op) (os : List Operand) (t : IrType) → IsLimited t → IsTrue (is_met (count_of o) (length os)) → IsTrue (plain_fits o scope os t) → IsOfType (ty_of t) (plain_value o (map (operand_value s values) os))
plain_is scope s values k (op.Binary o) os t l met h =
    let two = two_of os met in
    subst (λ us. IsOfType (ty_of t) (plain_value (op.Binary o) (map (operand_value s values) us))) (sym two.are)
    (binary_typed scope s values k o two.first two.second t (subst (λ us. IsTrue (plain_fits (op.Binary o) scope us t)) two.are h))
plain_is scope s values k (op.Unary o) os t l met h =
    let one = one_of os met in
    subst (λ us. IsOfType (ty_of t) (plain_value (op.Unary o) (map (operand_value s values) us))) (sym one.1)
    (unary_typed scope s values k o one.0 t (subst (λ us. IsTrue (plain_fits (op.Unary o) scope us t)) one.1 h))
plain_is scope s values k (op.Compare o) os t l met h =
    let two = two_of os met in
    subst (λ us. IsOfType (ty_of t) (plain_value (op.Compare o) (map (operand_value s values) us))) (sym two.are)
    (compare_typed scope s values k o two.first two.second t (subst (λ us. IsTrue (plain_fits (op.Compare o) scope us t)) two.are h))
plain_is scope s values k (op.Shift o) os t l met h =
    let two = two_of os met in
    subst (λ us. IsOfType (ty_of t) (plain_value (op.Shift o) (map (operand_value s values) us))) (sym two.are)
    (shift_typed scope s values k o two.first two.second t (subst (λ us. IsTrue (plain_fits (op.Shift o) scope us t)) two.are h))
plain_is scope s values k (op.Reduce o) os t l met h =
    let one = one_of os met in
    subst (λ us. IsOfType (ty_of t) (plain_value (op.Reduce o) (map (operand_value s values) us))) (sym one.1)
    (reduce_typed scope s values k o one.0 t (subst (λ us. IsTrue (plain_fits (op.Reduce o) scope us t)) one.1 h))
plain_is scope s values k (op.Extend o) os t l met h = absurd (cc)
plain_is scope s values k op.Concat os t l met h = concat_typed scope s values k os t l h
plain_is scope s values k op.BitSlice os t l met h = absurd (cc)
plain_is scope s values k op.DynamicBitSlice os t l met h = absurd (cc)
plain_is scope s values k op.Sel os t l met h = absurd (cc)
plain_is scope s values k op.Tuple os t l met h = tuple_typed scope s values k os t h
plain_is scope s values k op.Array os t l met h = array_typed scope s values k os t l met h
plain_is scope s values k op.TupleIndex os t l met h = absurd (cc)
plain_is scope s values k op.ArrayIndex os t l met h = absurd (cc)
plain_is scope s values k op.ArrayUpdate os t l met h = absurd (cc)
plain_is scope s values k op.Literal os t l met h = absurd (cc)
plain_is scope s values k op.AfterAll os t l met h = subst (λ u. IsOfType (ty_of u) no_value) (sym (token_is t h)) token_value.value
plain_is scope s values k op.Receive os t l met h = absurd (cc)
plain_is scope s values k op.Send os t l met h = absurd (cc)

slice_is : (scope : Types) (s : Value) (values : List Value) (k : AreOperands scope s values) (o : Op) (start : ℕ) (width : ℕ) (os : List Operand) (t : IrType) → IsLimited t → IsTrue (is_met (count_of o) (length os)) → IsTrue (is_bit_slice o && slice_fits start width scope os t) → IsOfType (ty_of t) (of_one (on_word (slice_value start width)) (map (operand_value s values) os))
slice_is scope s values k (op.Binary o) start width os t l met h = absurd (cc)
slice_is scope s values k (op.Unary o) start width os t l met h = absurd (cc)
slice_is scope s values k (op.Compare o) start width os t l met h = absurd (cc)
slice_is scope s values k (op.Shift o) start width os t l met h = absurd (cc)
slice_is scope s values k (op.Reduce o) start width os t l met h = absurd (cc)
slice_is scope s values k (op.Extend o) start width os t l met h = absurd (cc)
slice_is scope s values k op.Concat start width os t l met h = absurd (cc)
slice_is scope s values k op.BitSlice start width os t l met h =
    let one = one_of os met in
    subst (λ us. IsOfType (ty_of t) (of_one (on_word (slice_value start width)) (map (operand_value s values) us))) (sym one.1)
    (slice_typed scope s values k start width one.0 t l (subst (λ us. IsTrue (slice_fits start width scope us t)) one.1 h))
slice_is scope s values k op.DynamicBitSlice start width os t l met h = absurd (cc)
slice_is scope s values k op.Sel start width os t l met h = absurd (cc)
slice_is scope s values k op.Tuple start width os t l met h = absurd (cc)
slice_is scope s values k op.Array start width os t l met h = absurd (cc)
slice_is scope s values k op.TupleIndex start width os t l met h = absurd (cc)
slice_is scope s values k op.ArrayIndex start width os t l met h = absurd (cc)
slice_is scope s values k op.ArrayUpdate start width os t l met h = absurd (cc)
slice_is scope s values k op.Literal start width os t l met h = absurd (cc)
slice_is scope s values k op.AfterAll start width os t l met h = absurd (cc)
slice_is scope s values k op.Receive start width os t l met h = absurd (cc)
slice_is scope s values k op.Send start width os t l met h = absurd (cc)

dynamic_is : (scope : Types) (s : Value) (values : List Value) (k : AreOperands scope s values) (o : Op) (width : ℕ) (os : List Operand) (t : IrType) → IsLimited t → IsTrue (is_met (count_of o) (length os)) → IsTrue (is_dynamic_bit_slice o && dynamic_fits width scope os t) → IsOfType (ty_of t) (of_two (on_words (dyn_slice_value width)) (map (operand_value s values) os))
dynamic_is scope s values k (op.Binary o) width os t l met h = absurd (cc)
dynamic_is scope s values k (op.Unary o) width os t l met h = absurd (cc)
dynamic_is scope s values k (op.Compare o) width os t l met h = absurd (cc)
dynamic_is scope s values k (op.Shift o) width os t l met h = absurd (cc)
dynamic_is scope s values k (op.Reduce o) width os t l met h = absurd (cc)
dynamic_is scope s values k (op.Extend o) width os t l met h = absurd (cc)
dynamic_is scope s values k op.Concat width os t l met h = absurd (cc)
dynamic_is scope s values k op.BitSlice width os t l met h = absurd (cc)
dynamic_is scope s values k op.DynamicBitSlice width os t l met h =
    let two = two_of os met in
    subst (λ us. IsOfType (ty_of t) (of_two (on_words (dyn_slice_value width)) (map (operand_value s values) us))) (sym two.are)
    (dynamic_typed scope s values k width two.first two.second t l (subst (λ us. IsTrue (dynamic_fits width scope us t)) two.are h))
dynamic_is scope s values k op.Sel width os t l met h = absurd (cc)
dynamic_is scope s values k op.Tuple width os t l met h = absurd (cc)
dynamic_is scope s values k op.Array width os t l met h = absurd (cc)
dynamic_is scope s values k op.TupleIndex width os t l met h = absurd (cc)
dynamic_is scope s values k op.ArrayIndex width os t l met h = absurd (cc)
dynamic_is scope s values k op.ArrayUpdate width os t l met h = absurd (cc)
dynamic_is scope s values k op.Literal width os t l met h = absurd (cc)
dynamic_is scope s values k op.AfterAll width os t l met h = absurd (cc)
dynamic_is scope s values k op.Receive width os t l met h = absurd (cc)
dynamic_is scope s values k op.Send width os t l met h = absurd (cc)

extend_is : (scope : Types) (s : Value) (values : List Value) (k : AreOperands scope s values) (o : Op) (width : ℕ) (os : List Operand) (t : IrType) → IsLimited t → IsTrue (is_met (count_of o) (length os)) → IsTrue (is_extend o && extend_fits width scope os t) → IsOfType (ty_of t) (longer_value o width (map (operand_value s values) os))
extend_is scope s values k (op.Binary o) width os t l met h = absurd (cc)
extend_is scope s values k (op.Unary o) width os t l met h = absurd (cc)
extend_is scope s values k (op.Compare o) width os t l met h = absurd (cc)
extend_is scope s values k (op.Shift o) width os t l met h = absurd (cc)
extend_is scope s values k (op.Reduce o) width os t l met h = absurd (cc)
extend_is scope s values k (op.Extend o) width os t l met h =
    let one = one_of os met in
    subst (λ us. IsOfType (ty_of t) (longer_value (op.Extend o) width (map (operand_value s values) us))) (sym one.1)
    (extend_typed scope s values k o width one.0 t l (subst (λ us. IsTrue (extend_fits width scope us t)) one.1 h))
extend_is scope s values k op.Concat width os t l met h = absurd (cc)
extend_is scope s values k op.BitSlice width os t l met h = absurd (cc)
extend_is scope s values k op.DynamicBitSlice width os t l met h = absurd (cc)
extend_is scope s values k op.Sel width os t l met h = absurd (cc)
extend_is scope s values k op.Tuple width os t l met h = absurd (cc)
extend_is scope s values k op.Array width os t l met h = absurd (cc)
extend_is scope s values k op.TupleIndex width os t l met h = absurd (cc)
extend_is scope s values k op.ArrayIndex width os t l met h = absurd (cc)
extend_is scope s values k op.ArrayUpdate width os t l met h = absurd (cc)
extend_is scope s values k op.Literal width os t l met h = absurd (cc)
extend_is scope s values k op.AfterAll width os t l met h = absurd (cc)
extend_is scope s values k op.Receive width os t l met h = absurd (cc)
extend_is scope s values k op.Send width os t l met h = absurd (cc)

sel_is : (scope : Types) (s : Value) (values : List Value) (k : AreOperands scope s values) (o : Op) (cases : List Operand) (default : Option Operand) (os : List Operand) (t : IrType) → IsLimited t → IsTrue (is_met (count_of o) (length os)) → IsTrue (is_sel o && sel_fits cases default scope os t) → IsOfType (ty_of t) (of_one (on_word (λ x. optional_value s values (chosen cases default x.value))) (map (operand_value s values) os))
sel_is scope s values k (op.Binary o) cases default os t l met h = absurd (cc)
sel_is scope s values k (op.Unary o) cases default os t l met h = absurd (cc)
sel_is scope s values k (op.Compare o) cases default os t l met h = absurd (cc)
sel_is scope s values k (op.Shift o) cases default os t l met h = absurd (cc)
sel_is scope s values k (op.Reduce o) cases default os t l met h = absurd (cc)
sel_is scope s values k (op.Extend o) cases default os t l met h = absurd (cc)
sel_is scope s values k op.Concat cases default os t l met h = absurd (cc)
sel_is scope s values k op.BitSlice cases default os t l met h = absurd (cc)
sel_is scope s values k op.DynamicBitSlice cases default os t l met h = absurd (cc)
sel_is scope s values k op.Sel cases default os t l met h =
    let one = one_of os met in
    subst (λ us. IsOfType (ty_of t) (of_one (on_word (λ x. optional_value s values (chosen cases default x.value))) (map (operand_value s values) us))) (sym one.1)
    (sel_typed scope s values k cases default one.0 t (subst (λ us. IsTrue (sel_fits cases default scope us t)) one.1 h))
sel_is scope s values k op.Tuple cases default os t l met h = absurd (cc)
sel_is scope s values k op.Array cases default os t l met h = absurd (cc)
sel_is scope s values k op.TupleIndex cases default os t l met h = absurd (cc)
sel_is scope s values k op.ArrayIndex cases default os t l met h = absurd (cc)
sel_is scope s values k op.ArrayUpdate cases default os t l met h = absurd (cc)
sel_is scope s values k op.Literal cases default os t l met h = absurd (cc)
sel_is scope s values k op.AfterAll cases default os t l met h = absurd (cc)
sel_is scope s values k op.Receive cases default os t l met h = absurd (cc)
sel_is scope s values k op.Send cases default os t l met h = absurd (cc)

tuple_index_is : (scope : Types) (s : Value) (values : List Value) (k : AreOperands scope s values) (o : Op) (i : ℕ) (os : List Operand) (t : IrType) → IsLimited t → IsTrue (is_met (count_of o) (length os)) → IsTrue (is_tuple_index o && tuple_index_fits i scope os t) → IsOfType (ty_of t) (of_one (on_tuple (element_at i)) (map (operand_value s values) os))
tuple_index_is scope s values k (op.Binary o) i os t l met h = absurd (cc)
tuple_index_is scope s values k (op.Unary o) i os t l met h = absurd (cc)
tuple_index_is scope s values k (op.Compare o) i os t l met h = absurd (cc)
tuple_index_is scope s values k (op.Shift o) i os t l met h = absurd (cc)
tuple_index_is scope s values k (op.Reduce o) i os t l met h = absurd (cc)
tuple_index_is scope s values k (op.Extend o) i os t l met h = absurd (cc)
tuple_index_is scope s values k op.Concat i os t l met h = absurd (cc)
tuple_index_is scope s values k op.BitSlice i os t l met h = absurd (cc)
tuple_index_is scope s values k op.DynamicBitSlice i os t l met h = absurd (cc)
tuple_index_is scope s values k op.Sel i os t l met h = absurd (cc)
tuple_index_is scope s values k op.Tuple i os t l met h = absurd (cc)
tuple_index_is scope s values k op.Array i os t l met h = absurd (cc)
tuple_index_is scope s values k op.TupleIndex i os t l met h =
    let one = one_of os met in
    subst (λ us. IsOfType (ty_of t) (of_one (on_tuple (element_at i)) (map (operand_value s values) us))) (sym one.1)
    (tuple_index_typed scope s values k i one.0 t (subst (λ us. IsTrue (tuple_index_fits i scope us t)) one.1 h))
tuple_index_is scope s values k op.ArrayIndex i os t l met h = absurd (cc)
tuple_index_is scope s values k op.ArrayUpdate i os t l met h = absurd (cc)
tuple_index_is scope s values k op.Literal i os t l met h = absurd (cc)
tuple_index_is scope s values k op.AfterAll i os t l met h = absurd (cc)
tuple_index_is scope s values k op.Receive i os t l met h = absurd (cc)
tuple_index_is scope s values k op.Send i os t l met h = absurd (cc)

index_is : (scope : Types) (s : Value) (values : List Value) (k : AreOperands scope s values) (o : Op) (i : Operand) (os : List Operand) (t : IrType) → IsLimited t → IsTrue (is_met (count_of o) (length os)) → IsTrue (index_fits o i scope os t) → IsOfType (ty_of t) (index_value o (operand_value s values i) (map (operand_value s values) os))
index_is scope s values k (op.Binary o) i os t l met h = absurd (cc)
index_is scope s values k (op.Unary o) i os t l met h = absurd (cc)
index_is scope s values k (op.Compare o) i os t l met h = absurd (cc)
index_is scope s values k (op.Shift o) i os t l met h = absurd (cc)
index_is scope s values k (op.Reduce o) i os t l met h = absurd (cc)
index_is scope s values k (op.Extend o) i os t l met h = absurd (cc)
index_is scope s values k op.Concat i os t l met h = absurd (cc)
index_is scope s values k op.BitSlice i os t l met h = absurd (cc)
index_is scope s values k op.DynamicBitSlice i os t l met h = absurd (cc)
index_is scope s values k op.Sel i os t l met h = absurd (cc)
index_is scope s values k op.Tuple i os t l met h = absurd (cc)
index_is scope s values k op.Array i os t l met h = absurd (cc)
index_is scope s values k op.TupleIndex i os t l met h = absurd (cc)
index_is scope s values k op.ArrayIndex i os t l met h =
    let one = one_of os met in
    subst (λ us. IsOfType (ty_of t) (index_value op.ArrayIndex (operand_value s values i) (map (operand_value s values) us))) (sym one.1)
    (array_index_typed scope s values k i one.0 t (subst (λ us. IsTrue (index_fits op.ArrayIndex i scope us t)) one.1 h))
index_is scope s values k op.ArrayUpdate i os t l met h =
    let two = two_of os met in
    subst (λ us. IsOfType (ty_of t) (index_value op.ArrayUpdate (operand_value s values i) (map (operand_value s values) us))) (sym two.are)
    (array_update_typed scope s values k i two.first two.second t (subst (λ us. IsTrue (index_fits op.ArrayUpdate i scope us t)) two.are h))
index_is scope s values k op.Literal i os t l met h = absurd (cc)
index_is scope s values k op.AfterAll i os t l met h = absurd (cc)
index_is scope s values k op.Receive i os t l met h = absurd (cc)
index_is scope s values k op.Send i os t l met h = absurd (cc)

-- ---- sites

-- the channel of a site is there
abbrev pub HasChannel : List Channel → Role → Type 0
HasChannel channels role.Pure = Unit {0}
HasChannel channels (role.Receive predicate c) = (channel : Channel) × (slice_get channels c ≡ Some channel)
HasChannel channels (role.Send predicate c) = (channel : Channel) × (slice_get channels c ≡ Some channel)

may_receive_some : (o : Option Channel) → IsTrue (may_receive o) → (channel : Channel) × (o ≡ Some channel)
may_receive_some None h = absurd (cc)
may_receive_some (Some c) h = (c, refl)

may_send_some : (o : Option Channel) → IsTrue (may_send o) → (channel : Channel) × (o ≡ Some channel)
may_send_some None h = absurd (cc)
may_send_some (Some c) h = (c, refl)

has_channel : (channels : List Channel) (seen : Seen) (r : Role) → IsTrue (is_at_end channels seen r) → HasChannel channels r
has_channel channels seen role.Pure h = tt
has_channel channels seen (role.Receive predicate c) h = may_receive_some (slice_get channels c) (both_true (may_receive (slice_get channels c)) (is_free seen.received c) h).0
has_channel channels seen (role.Send predicate c) h = may_send_some (slice_get channels c) (both_true (may_send (slice_get channels c)) (is_free seen.sent c) h).0

pair_by : (p : List IrType → Bool) (t u : IrType) → p [] ≡ false → ((a : IrType) → p (a ∷ []) ≡ false) → ((a b : IrType) → p (a ∷ b ∷ []) ≡ (is_token a && same_type t b)) → ((a b c : IrType) (ts : List IrType) → p (a ∷ b ∷ c ∷ ts) ≡ false) → IsTrue (is_tuple_where p u) → u ≡ Tuple (Token [] ∷ t ∷ []) []
pair_by p t u none one two more h =
    let r = tuple_is p u h in
    r.is ∙ ap (λ ts. Tuple ts []) (parts r.parts r.test)
  where
    parts : (ts : List IrType) → IsTrue (p ts) → ts ≡ Token [] ∷ t ∷ []
    parts [] h = let never : false ≡ true = sym none ∙ h in absurd (cc)
    parts (a ∷ []) h = let never : false ≡ true = sym (one a) ∙ h in absurd (cc)
    parts (a ∷ b ∷ []) h =
        let both = both_true (is_token a) (same_type t b) (sym (two a b) ∙ h) in
        ap (λ x. x ∷ b ∷ []) (token_is a both.0) ∙ ap (λ x. Token [] ∷ x ∷ []) (sym (same_is t b both.1))
    parts (a ∷ b ∷ c ∷ ts) h = let never : false ≡ true = sym (more a b c ts) ∙ h in absurd (cc)

pair_is : (t u : IrType) → IsTrue (is_pair_of (Some t) u) → u ≡ Tuple (Token [] ∷ t ∷ []) []
pair_is t u h = pair_by _ t u refl (λ a. refl) (λ a b. refl) (λ a b c ts. refl) h

channel_is : (channels : List Channel) (c : ℕ) (channel : Channel) → slice_get channels c ≡ Some channel → channel_type channels c ≡ Some channel.ty
channel_is channels c channel e = ap (option_map (λ (channel : Channel). channel.ty)) e

received_typed : (t : IrType) (x : Word) → HasWidths (ty_of t) → IsOfType (ty_of (Tuple (Token [] ∷ t ∷ []) [])) (value.Tuple (no_value ∷ heard (Some t) x ∷ []))
received_typed t x widths =
    let ts = ty_of (Token []) ∷ ty_of t ∷ [] in
    let vs = no_value ∷ heard (Some t) x ∷ [] in
    let there : IsOfType (ty_of t) (heard (Some t) x) = gives_typed (ty_of t) widths (if x.width == width_of (ty_of t) then x.value else 0) in
    subst (λ u. IsOfType u (value.Tuple vs)) (sym (ty_of-Tuple (Token [] ∷ t ∷ []) []))
    (fits-Tuple ts (value.Tuple vs) ∙ ap (tuple_fits (map fits ts)) (outs-Tuple vs) ∙ and_true _ _ token_value.value (and_true _ _ there refl))

receive_is : (channels : List Channel) (c : ℕ) (channel : Channel) (t : IrType) (on : Bool) (x : Word) → slice_get channels c ≡ Some channel → IsWordType (ty_of channel.ty) → IsTrue (is_pair_of (channel_type channels c) t) → IsOfType (ty_of t) (received channels c on x)
receive_is channels c channel t on x e w h =
    let there = channel_is channels c channel e in
    let pair = pair_is channel.ty t (subst (λ o. IsTrue (is_pair_of o t)) there h) in
    subst (λ u. IsOfType (ty_of u) (received channels c on x)) (sym pair)
    (subst (λ o. IsOfType (ty_of (Tuple (Token [] ∷ channel.ty ∷ []) [])) (value.Tuple (no_value ∷ heard o (if on then x else no_word) ∷ []))) (sym there)
    (received_typed channel.ty (if on then x else no_word) w.widths))

send_is : (channels : List Channel) (scope : Types) (c : ℕ) (channel : Channel) (os : List Operand) (t : IrType) → slice_get channels c ≡ Some channel → IsTrue (sends_type (channel_type channels c) scope os t) → IsOfType (ty_of t) no_value
send_is channels scope c channel os t e h =
    let there = subst (λ o. IsTrue (sends_type o scope os t)) (channel_is channels c channel e) h in
    let both = both_true (is_token t) (list_all (λ o. same_type channel.ty (type_in scope o)) os) there in
    subst (λ u. IsOfType (ty_of u) no_value) (sym (token_is t both.0)) token_value.value

site_is : (m : Setting) (scope : Types) (values : List Value) (i : ℕ) (word_types : AreChannels m.channels) (id : ℕ) (t : IrType) (o : Op) (os : List Operand) (predicate : Option Operand) (c : ℕ) → HasChannel m.channels (role_at o predicate c) → IsTrue (site_fits o (channel_type m.channels c) scope os t) → IsOfType (ty_of t) (value_by m values i (record { id = id; ty = t; op = o; operands = os; attributes = attributes.Channel predicate c }))
site_is m scope values i w id t (op.Binary o) os predicate c there h = absurd (cc)
site_is m scope values i w id t (op.Unary o) os predicate c there h = absurd (cc)
site_is m scope values i w id t (op.Compare o) os predicate c there h = absurd (cc)
site_is m scope values i w id t (op.Shift o) os predicate c there h = absurd (cc)
site_is m scope values i w id t (op.Reduce o) os predicate c there h = absurd (cc)
site_is m scope values i w id t (op.Extend o) os predicate c there h = absurd (cc)
site_is m scope values i w id t op.Concat os predicate c there h = absurd (cc)
site_is m scope values i w id t op.BitSlice os predicate c there h = absurd (cc)
site_is m scope values i w id t op.DynamicBitSlice os predicate c there h = absurd (cc)
site_is m scope values i w id t op.Sel os predicate c there h = absurd (cc)
site_is m scope values i w id t op.Tuple os predicate c there h = absurd (cc)
site_is m scope values i w id t op.Array os predicate c there h = absurd (cc)
site_is m scope values i w id t op.TupleIndex os predicate c there h = absurd (cc)
site_is m scope values i w id t op.ArrayIndex os predicate c there h = absurd (cc)
site_is m scope values i w id t op.ArrayUpdate os predicate c there h = absurd (cc)
site_is m scope values i w id t op.Literal os predicate c there h = absurd (cc)
site_is m scope values i w id t op.AfterAll os predicate c there h = absurd (cc)
site_is m scope values i w id t op.Receive os predicate c there h = receive_is m.channels c there.0 t (is_on m.state values predicate) (m.words i) there.1 (w c there.0 there.1) h
site_is m scope values i w id t op.Send os predicate c there h = send_is m.channels scope c there.0 (rest_of os) t there.1 h

-- ---- any node

-- what rules and limits say of a node
pub record HasNoFault (channels : List Channel) (scope : Types) (n : Node) : Type 0 where
  pub fits : IsTrue (node_fits channels scope n)
  pub literal : IsTrue (is_literal_of n.ty n.attributes)
  pub limits : IsLimited n.ty
  pub channel : HasChannel channels (role_of n)

pub no_fault : (channels : List Channel) (state : IrType) (before : List Node) (span : Span) (i : ℕ) (seen : Seen) (n : Node) → IsTrue (none_broken (node_checks channels state before span i seen n)) → HasNoFault channels (types_behind state before) n
no_fault channels state before span i seen n h =
    let a = both_true (not (not (is_named (slice_get before (i - 1)) i n))) _ h in
    let b = both_true (not (not (node_fits channels (types_behind state before) n))) _ a.1 in
    let c = both_true (not (not (is_chained before seen n))) _ b.1 in
    let d = both_true (not (not (is_at_end channels seen (role_of n)))) _ c.1 in
    let e = both_true (not (not (is_typed n))) _ d.1 in
    let typed = both_true (marks_of n.ty).sound (is_literal_of n.ty n.attributes) (not_not_true (is_typed n) e.0) in
    record {
      fits = not_not_true (node_fits channels (types_behind state before) n) b.0;
      literal = typed.1;
      limits = limited span.to n.ty (own_levels (role_of n)) typed.0 e.1;
      channel = has_channel channels seen (role_of n) (not_not_true (is_at_end channels seen (role_of n)) d.0);
    }

value_of : (m : Setting) (scope : Types) (values : List Value) (i : ℕ) (k : AreOperands scope m.state values) (word_types : AreChannels m.channels) (id : ℕ) (t : IrType) (o : Op) (os : List Operand) (a : Attributes) → HasNoFault m.channels scope (record { id = id; ty = t; op = o; operands = os; attributes = a }) → IsOfType (ty_of t) (value_by m values i (record { id = id; ty = t; op = o; operands = os; attributes = a }))
value_of m scope values i k w id t o os attributes.None f =
    let both = both_true (is_met (count_of o) (length os)) (plain_fits o scope os t) f.fits in
    plain_is scope m.state values k o os t f.limits both.0 both.1
value_of m scope values i k w id t o os (attributes.StartAndWidth start width) f =
    let both = both_true (is_met (count_of o) (length os)) (is_bit_slice o && slice_fits start width scope os t) f.fits in
    slice_is scope m.state values k o start width os t f.limits both.0 both.1
value_of m scope values i k w id t o os (attributes.Width width) f =
    let both = both_true (is_met (count_of o) (length os)) (is_dynamic_bit_slice o && dynamic_fits width scope os t) f.fits in
    dynamic_is scope m.state values k o width os t f.limits both.0 both.1
value_of m scope values i k w id t o os (attributes.NewBitCount width) f =
    let both = both_true (is_met (count_of o) (length os)) (is_extend o && extend_fits width scope os t) f.fits in
    extend_is scope m.state values k o width os t f.limits both.0 both.1
value_of m scope values i k w id t o os (attributes.Cases cases default) f =
    let both = both_true (is_met (count_of o) (length os)) (is_sel o && sel_fits cases default scope os t) f.fits in
    sel_is scope m.state values k o cases default os t f.limits both.0 both.1
value_of m scope values i k w id t o os (attributes.Index j) f =
    let both = both_true (is_met (count_of o) (length os)) (is_tuple_index o && tuple_index_fits j scope os t) f.fits in
    tuple_index_is scope m.state values k o j os t f.limits both.0 both.1
value_of m scope values i k w id t o os (attributes.Indices j) f =
    let both = both_true (is_met (count_of o) (length os)) (index_fits o j scope os t) f.fits in
    index_is scope m.state values k o j os t f.limits both.0 both.1
value_of m scope values i k w id t o os (attributes.Value c) f =
    let both = both_true (not (marks_of t).token) (constant_fits (ty_of t) c) f.literal in
    constant_typed (ty_of t) (limited_widths t f.limits) c both.1
value_of m scope values i k w id t o os (attributes.Channel predicate c) f =
    let both = both_true (is_met (count_of o) (length os)) (predicate_fits scope predicate && (first_is_token scope os && site_fits o (channel_type m.channels c) scope os t)) f.fits in
    let rest = both_true (predicate_fits scope predicate) (first_is_token scope os && site_fits o (channel_type m.channels c) scope os t) both.1 in
    site_is m scope values i w id t o os predicate c f.channel (both_true (first_is_token scope os) (site_fits o (channel_type m.channels c) scope os t) rest.1).1

pub node_typed : (m : Setting) (scope : Types) (values : List Value) (i : ℕ) (k : AreOperands scope m.state values) (word_types : AreChannels m.channels) (n : Node) → HasNoFault m.channels scope n → IsOfType (ty_of n.ty) (value_by m values i n)
node_typed m scope values i k w n f = value_of m scope values i k w n.id n.ty n.op n.operands n.attributes f

-- ---- what is sent

where_true : (b : Bool) (x : Word) → IsTrue b → word_where b x ≡ x
where_true true x h = refl
where_true false x h = absurd (cc)

sent_word : (t : IrType) (v : Value) → IsWordType (ty_of t) → IsOfType (ty_of t) v → IsWordOf (width_of (ty_of t)) (sent v)
sent_word t v w typed =
    let x = flat_of v in
    let width : x.width ≡ width_of (ty_of t) = as_wide (ty_of t) v typed in
    let some = w.some_width in
    let most = w.most_width in
    let least : 1 ≤ x.width = omega arith in
    let greatest : x.width ≤ 128 = omega arith in
    let first : IsTrue (nat_le 1 x.width) = grind (arith, nat_tests, least) in
    let second : IsTrue (nat_le x.width 128) = grind (arith, nat_tests, greatest) in
    subst (IsWordOf (width_of (ty_of t))) (sym (where_true (nat_le 1 x.width && nat_le x.width 128) x (and_true _ _ first second)))
    (record { word = record { some_width = least; most_width = greatest; in_range = in_range (ty_of t) v typed }; fits = width })

sent_second : (channels : List Channel) (scope : Types) (s : Value) (values : List Value) (k : AreOperands scope s values) (word_types : AreChannels channels) (c : ℕ) (channel : Channel) (os : List Operand) (t : IrType) → slice_get channels c ≡ Some channel → IsTrue (is_met (count_of op.Send) (length os)) → IsTrue (sends_type (channel_type channels c) scope (rest_of os) t) → IsWordOf (width_at (channel_type channels c)) (sent (optional_value s values (slice_get os 1)))
sent_second channels scope s values k w c channel os t e met h =
    let there = channel_is channels c channel e in
    let two = two_of os met in
    let types : IsTrue (sends_type (Some channel.ty) scope (two.second ∷ []) t) = subst (λ o. IsTrue (sends_type o scope (two.second ∷ []) t)) there (subst (λ us. IsTrue (sends_type (channel_type channels c) scope (rest_of us) t)) two.are h) in
    let both = both_true (is_token t) (list_all (λ o. same_type channel.ty (type_in scope o)) (two.second ∷ [])) types in
    let same = same_is channel.ty (type_in scope two.second) (both_true (same_type channel.ty (type_in scope two.second)) true both.1).0 in
    subst (λ o. IsWordOf (width_at o) (sent (optional_value s values (slice_get os 1)))) (sym there)
    (subst (λ us. IsWordOf (width_of (ty_of channel.ty)) (sent (optional_value s values (slice_get us 1)))) (sym two.are)
    (sent_word channel.ty (operand_value s values two.second) (w c channel e) (subst (λ u. IsOfType (ty_of u) (operand_value s values two.second)) (sym same) (k two.second).value)))

send_by_op : (channels : List Channel) (scope : Types) (s : Value) (values : List Value) (k : AreOperands scope s values) (word_types : AreChannels channels) (t : IrType) (o : Op) (os : List Operand) (p : Option Operand) (c : ℕ) (predicate : Option Operand) (d : ℕ) → role_at o p c ≡ role.Send predicate d → HasChannel channels (role_at o p c) → IsTrue (is_met (count_of o) (length os)) → IsTrue (site_fits o (channel_type channels c) scope os t) → IsWordOf (width_at (channel_type channels d)) (sent (optional_value s values (slice_get os 1)))
send_by_op channels scope s values k w t (op.Binary o) os p c predicate d e there met h = absurd (cc)
send_by_op channels scope s values k w t (op.Unary o) os p c predicate d e there met h = absurd (cc)
send_by_op channels scope s values k w t (op.Compare o) os p c predicate d e there met h = absurd (cc)
send_by_op channels scope s values k w t (op.Shift o) os p c predicate d e there met h = absurd (cc)
send_by_op channels scope s values k w t (op.Reduce o) os p c predicate d e there met h = absurd (cc)
send_by_op channels scope s values k w t (op.Extend o) os p c predicate d e there met h = absurd (cc)
send_by_op channels scope s values k w t op.Concat os p c predicate d e there met h = absurd (cc)
send_by_op channels scope s values k w t op.BitSlice os p c predicate d e there met h = absurd (cc)
send_by_op channels scope s values k w t op.DynamicBitSlice os p c predicate d e there met h = absurd (cc)
send_by_op channels scope s values k w t op.Sel os p c predicate d e there met h = absurd (cc)
send_by_op channels scope s values k w t op.Tuple os p c predicate d e there met h = absurd (cc)
send_by_op channels scope s values k w t op.Array os p c predicate d e there met h = absurd (cc)
send_by_op channels scope s values k w t op.TupleIndex os p c predicate d e there met h = absurd (cc)
send_by_op channels scope s values k w t op.ArrayIndex os p c predicate d e there met h = absurd (cc)
send_by_op channels scope s values k w t op.ArrayUpdate os p c predicate d e there met h = absurd (cc)
send_by_op channels scope s values k w t op.Literal os p c predicate d e there met h = absurd (cc)
send_by_op channels scope s values k w t op.AfterAll os p c predicate d e there met h = absurd (cc)
send_by_op channels scope s values k w t op.Receive os p c predicate d e there met h = absurd (cc)
send_by_op channels scope s values k w t op.Send os p c predicate d e there met h =
    let same : c ≡ d = cc in
    subst (λ x. IsWordOf (width_at (channel_type channels x)) (sent (optional_value s values (slice_get os 1)))) same
    (sent_second channels scope s values k w c there.0 os t there.1 met h)

send_by : (channels : List Channel) (scope : Types) (s : Value) (values : List Value) (k : AreOperands scope s values) (word_types : AreChannels channels) (id : ℕ) (t : IrType) (o : Op) (os : List Operand) (a : Attributes) (predicate : Option Operand) (d : ℕ) → role_by o a ≡ role.Send predicate d → HasNoFault channels scope (record { id = id; ty = t; op = o; operands = os; attributes = a }) → IsWordOf (width_at (channel_type channels d)) (sent (optional_value s values (slice_get os 1)))
send_by channels scope s values k w id t o os attributes.None predicate d e f = absurd (cc)
send_by channels scope s values k w id t o os (attributes.StartAndWidth start width) predicate d e f = absurd (cc)
send_by channels scope s values k w id t o os (attributes.Width width) predicate d e f = absurd (cc)
send_by channels scope s values k w id t o os (attributes.NewBitCount width) predicate d e f = absurd (cc)
send_by channels scope s values k w id t o os (attributes.Cases cases default) predicate d e f = absurd (cc)
send_by channels scope s values k w id t o os (attributes.Index j) predicate d e f = absurd (cc)
send_by channels scope s values k w id t o os (attributes.Indices j) predicate d e f = absurd (cc)
send_by channels scope s values k w id t o os (attributes.Value v) predicate d e f = absurd (cc)
send_by channels scope s values k w id t o os (attributes.Channel p c) predicate d e f =
    let both = both_true (is_met (count_of o) (length os)) (predicate_fits scope p && (first_is_token scope os && site_fits o (channel_type channels c) scope os t)) f.fits in
    let rest = both_true (predicate_fits scope p) (first_is_token scope os && site_fits o (channel_type channels c) scope os t) both.1 in
    send_by_op channels scope s values k w t o os p c predicate d e f.channel both.0 (both_true (first_is_token scope os) (site_fits o (channel_type channels c) scope os t) rest.1).1

-- a send gives a word as wide as its channel's
pub send_fits : (channels : List Channel) (scope : Types) (s : Value) (values : List Value) (k : AreOperands scope s values) (word_types : AreChannels channels) (n : Node) (predicate : Option Operand) (d : ℕ) → role_of n ≡ role.Send predicate d → HasNoFault channels scope n → IsWordOf (width_at (channel_type channels d)) (sent_by n s values)
send_fits channels scope s values k w n predicate d e f = send_by channels scope s values k w n.id n.ty n.op n.operands n.attributes predicate d e f
