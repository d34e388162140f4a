-- What sites receive and send: its type, and its word.
use Rattle.std.proofs.Common.{◌≡◌, ℕ, ◌+◌, ◌≤◌, ◌-◌, max, List, [], ◌∷◌, ◌++◌, map, sum, Bool, true, false, ◌&&◌, IsTrue, ◌==◌, if◌then◌else◌, refl, sym, ap, subst, ◌∙◌, arith}
use Rattle.std.specs.Prelude.{nat_lt, nat_le, not}
use Rattle.std.proofs.lemmas.Bool.Decides.{nat_tests}
use Rattle.std.proofs.lemmas.List.{append-nil}
use Rattle.std.proofs.lemmas.List.Folds.{list_all-append}
use Rattle.std.proofs.lemmas.List.Sums.{sum_by-cons}
use Rattle.xb_bits.specs.Word.{Word}
use Rattle.xb_span.specs.declared.limit.What.TheVariants as what
use Rattle.xb_value.specs.declared.ty.Ty.{Ty}
use Rattle.xb_value.specs.declared.ty.Ty as ty
use Rattle.xb_value.specs.declared.value.Value.{Value}
use Rattle.xb_value.specs.declared.value.Value.TheViews.{outs-Tuple}
use Rattle.xb_value.specs.Flat.{flat_of}
use Rattle.xb_value.specs.Unflat.{unflat_of}
use Rattle.xb_value.specs.Typing.{IsOfType, fits, tuple_fits}
use Rattle.xb_value.specs.Width.{width_of, leaf_count, leaves_step}
use Rattle.xb_value.proofs.Lemmas.Flat.{as_wide, gives_typed}
use Rattle.xb_value.proofs.Lemmas.Types as tys
use Rattle.xb_value.proofs.Lemmas.Typing.{fits-Tuple}
use Rattle.net_core.specs.Behavior.{IsWordOf}
use Rattle.ir_tree.specs.declared.ir_type.IrType.{IrType, Token, Tuple}
use Rattle.ir_tree.specs.declared.node_types.types.Marks.{Marks}
use Rattle.ir_tree.specs.declared.package.Channel.{Channel}
use Rattle.ir_tree.specs.Types.{ty_of}
use Rattle.ir_tree.specs.Constants.{no_value}
use Rattle.ir_tree.specs.NodeTypes.Types.{marks_of, max_of, levels_of, levels_step, widths_in, widths_step}
use Rattle.ir_tree.specs.NodeValues.{channel_type, heard, no_word, received}
use Rattle.ir_tree.specs.Operations.{on_tuple, element_at}
use Rattle.ir_tree.specs.Activations.{sent, word_where, width_at}
use Rattle.ir_tree.proofs.Lemmas.NodeTypes.IrTypes.{fold-Token, fold-Tuple, ty_of-Token, ty_of-Tuple}
use Rattle.ir_tree.specs.Rules.Checks.{Check, bounded, limit_at}
use Rattle.ir_tree.specs.Rules.Typed.Typed.{none_broken}
use Rattle.ir_tree.proofs.Lemmas.Rules.Typed.Checked.{both_true, and_true, parts_not}
use Rattle.ir_tree.proofs.Lemmas.Rules.Typed.Tests.{marks-Tuple}
use Rattle.ir_tree.proofs.Lemmas.Rules.Typed.Scopes.{on_tuple-Tuple, token_value}
use Rattle.ir_rebuild.specs.Putting.Types.{ir_type_of}
use Rattle.ir_rebuild.specs.Putting.Given.{IsNodeType}
use Rattle.ir_rebuild.proofs.Lemmas.Putting.Types.{part_type, type_back, type-Tuple}
use Rattle.ir_lower_nodes.specs.Acts.Activities.{word_width}
use Rattle.ir_lower_nodes.specs.Steps.StepTypes.{pair_type}
use Rattle.ir_lower_nodes.specs.Steps.Steps.{CarriesWords}

-- ---- types of what is received

-- the type of what a receive gives
abbrev pub got_type : IrType → IrType
got_type t = Tuple (Token [] ∷ t ∷ []) []

abbrev pub unit_and : IrType → IrType
unit_and t = Tuple (Tuple [] [] ∷ t ∷ []) []

few : (n most : ℕ) → IsTrue (not (nat_lt most n)) → n ≤ most
few n most h = grind (arith, nat_tests, h)

is_few : (n most : ℕ) → n ≤ most → IsTrue (not (nat_lt most n))
is_few n most h = grind (arith, nat_tests, h)

-- the limits of a type, one by one
record AreFew (t : IrType) : Type 0 where
  widths : IsTrue (none_broken (map (λ w. limit_at 0 what.Width w 128) (widths_in t)))
  leaves : leaf_count (ty_of t) ≤ 256
  levels : levels_of t ≤ 64

few_said : (t : IrType) → IsNodeType t → AreFew t
few_said t h =
    let parts = parts_not (map (λ w. limit_at 0 what.Width w 128) (widths_in t)) (limit_at 0 what.Leaves (leaf_count (ty_of t)) 256 ∷ limit_at 0 what.Levels (bounded (levels_of t) - 0) 64 ∷ []) h.limits in
    let last = both_true (not (nat_lt 256 (bounded (leaf_count (ty_of t))))) (not (nat_lt 64 (bounded (bounded (levels_of t) - 0))) && true) parts.1 in
    let leaves = few (bounded (leaf_count (ty_of t))) 256 last.0 in
    let levels = few (bounded (bounded (levels_of t) - 0)) 64 (both_true (not (nat_lt 64 (bounded (bounded (levels_of t) - 0)))) true last.1).0 in
    record { widths = parts.0; leaves = omega (arith, leaves); levels = omega (arith, levels) }

said_few : (t : IrType) → IsTrue (marks_of t).sound → AreFew t → IsNodeType t
said_few t sound h = record {
  sound = sound;
  limits =
      let leaves = h.leaves in
      let levels = h.levels in
      let first : bounded (leaf_count (ty_of t)) ≤ 256 = omega (arith, leaves) in
      let second : bounded (bounded (levels_of t) - 0) ≤ 64 = omega (arith, levels) in
      list_all-append (λ (c : Check). not c.broken) (map (λ w. limit_at 0 what.Width w 128) (widths_in t)) (limit_at 0 what.Leaves (leaf_count (ty_of t)) 256 ∷ limit_at 0 what.Levels (bounded (levels_of t) - 0) 64 ∷ [])
      ∙ and_true (none_broken (map (λ w. limit_at 0 what.Width w 128) (widths_in t))) _ h.widths
      (and_true (not (nat_lt 256 (bounded (leaf_count (ty_of t))))) _ (is_few (bounded (leaf_count (ty_of t))) 256 first)
      (and_true (not (nat_lt 64 (bounded (bounded (levels_of t) - 0)))) true (is_few (bounded (bounded (levels_of t) - 0)) 64 second) refl));
}

pub token_type : IsNodeType (Token [])
token_type = said_few (Token []) token_value.sound (record {
  widths = subst (λ ws. IsTrue (none_broken (map (λ w. limit_at 0 what.Width w 128) ws))) (sym (fold-Token (List ℕ) widths_step [])) refl;
  leaves =
      let none : leaf_count (ty_of (Token [])) ≡ 0 = ap leaf_count (ty_of-Token []) ∙ tys.fold-Tuple ℕ leaves_step [] in
      omega (arith, none);
  levels =
      let none : levels_of (Token []) ≡ 0 = fold-Token ℕ levels_step [] in
      omega (arith, none);
})

-- where nodes may have the type of a unit beside something, they may have that of a token beside it
pub got_typed : (t : IrType) → IsNodeType (unit_and t) → IsNodeType (got_type t)
got_typed t h = said_few (got_type t) sound (record {
  widths = subst (λ ws. IsTrue (none_broken (map (λ w. limit_at 0 what.Width w 128) ws))) (sym widths) own_few.widths;
  leaves =
      let one = own_few.leaves in
      let whole = leaves in
      let none : leaf_count (ty_of (Token [])) ≡ 0 = ap leaf_count (ty_of-Token []) ∙ tys.fold-Tuple ℕ leaves_step [] in
      let first : sum (leaf_count (ty_of (Token [])) ∷ leaf_count (ty_of t) ∷ []) ≡ leaf_count (ty_of (Token [])) + sum (leaf_count (ty_of t) ∷ []) = sum_by-cons (λ x. x) (leaf_count (ty_of (Token []))) (leaf_count (ty_of t) ∷ []) in
      let second : sum (leaf_count (ty_of t) ∷ []) ≡ leaf_count (ty_of t) + 0 = sum_by-cons (λ x. x) (leaf_count (ty_of t)) [] in
      omega (arith, one, whole, none, first, second);
  levels =
      let whole = (few_said (unit_and t) h).levels in
      let deep : levels_of (unit_and t) ≡ 0 + (max_of (levels_of (Tuple [] []) ∷ levels_of t ∷ []) + 1) = fold-Tuple ℕ levels_step (Tuple [] [] ∷ t ∷ []) [] in
      let flat : levels_of (got_type t) ≡ 0 + (max_of (levels_of (Token []) ∷ levels_of t ∷ []) + 1) = fold-Tuple ℕ levels_step (Token [] ∷ t ∷ []) [] in
      let none : levels_of (Token []) ≡ 0 = fold-Token ℕ levels_step [] in
      subst (λ n. n ≤ 64) (sym (flat ∙ ap (λ n. 0 + (max_of (n ∷ levels_of t ∷ []) + 1)) none))
      (lower (levels_of (Tuple [] [])) (levels_of t) (subst (λ n. n ≤ 64) deep whole));
})
  where
    own : IsNodeType t
    own = part_type (Tuple [] [] ∷ t ∷ []) 1 t refl h

    own_few : AreFew t
    own_few = few_said t own

    sound : IsTrue (marks_of (got_type t)).sound
    sound =
        ap (λ (m : Marks). m.sound) (marks-Tuple (Token [] ∷ t ∷ []) [])
        ∙ and_true _ true (and_true (marks_of (Token [])).sound _ token_value.sound (and_true (marks_of t).sound true own.sound refl)) refl

    widths : widths_in (got_type t) ≡ widths_in t
    widths =
        fold-Tuple (List ℕ) widths_step (Token [] ∷ t ∷ []) []
        ∙ (ap (λ ws. ws ++ (widths_in t ++ [])) (fold-Token (List ℕ) widths_step []) ∙ append-nil (widths_in t))

    leaves : leaf_count (ty_of (got_type t)) ≡ sum (leaf_count (ty_of (Token [])) ∷ leaf_count (ty_of t) ∷ [])
    leaves = ap leaf_count (ty_of-Tuple (Token [] ∷ t ∷ []) []) ∙ tys.fold-Tuple ℕ leaves_step (ty_of (Token []) ∷ ty_of t ∷ [])

    lower : (n l : ℕ) → 0 + (max n (max l 0) + 1) ≤ 64 → 0 + (max 0 (max l 0) + 1) ≤ 64
    lower n l h = omega (arith, h)

-- the type of a token and a value, as IR writes it
pub pair_is : (t : Ty) → ir_type_of (pair_type t) ≡ unit_and (ir_type_of t)
pair_is t = type-Tuple (ty.Tuple [] ∷ t ∷ []) ∙ ap (λ u. Tuple (u ∷ ir_type_of t ∷ []) []) (type-Tuple [])

-- ---- what is received

own_width : (ir : List Channel) (c : ℕ) (t : Ty) → CarriesWords ir c t → IsNodeType (ir_type_of t) → word_width ir c ≡ width_of t
own_width ir c t carries within = ap width_at carries.ty ∙ ap width_of (type_back t within)

-- the word that is there, where it is as wide as the channel's
pub word_heard : (ir : List Channel) (c : ℕ) (t : Ty) (w : Word) → CarriesWords ir c t → IsNodeType (ir_type_of t) → IsWordOf (word_width ir c) w → heard (channel_type ir c) w ≡ unflat_of t w.value
word_heard ir c t w carries within is =
    ap (λ o. heard o w) carries.ty
    ∙ (ap (λ u. unflat_of u (if w.width == width_of u then w.value else 0)) (type_back t within)
    ∙ ap (unflat_of t) (when (w.width == width_of t) (let fits = is.fits in let own = own_width ir c t carries within in let same : w.width ≡ width_of t = fits ∙ own in grind (arith, nat_tests, same))))
  where
    when : (b : Bool) → b ≡ true → (if b then w.value else 0) ≡ w.value
    when true h = refl
    when false h = absurd (cc)

heard_typed : (ir : List Channel) (c : ℕ) (t : Ty) (w : Word) → CarriesWords ir c t → IsNodeType (ir_type_of t) → IsOfType t (heard (channel_type ir c) w)
heard_typed ir c t w carries within =
    subst (IsOfType t) (sym (ap (λ o. heard o w) carries.ty ∙ ap (λ u. unflat_of u (if w.width == width_of u then w.value else 0)) (type_back t within)))
    (gives_typed t carries.word.widths (if w.width == width_of t then w.value else 0))

-- what a receive gives is of its type
pub received_typed : (ir : List Channel) (c : ℕ) (t : Ty) (on : Bool) (w : Word) → CarriesWords ir c t → IsNodeType (ir_type_of t) → IsOfType (ty_of (got_type (ir_type_of t))) (received ir c on w)
received_typed ir c t on w carries within =
    subst (λ u. IsOfType u (received ir c on w)) (sym (ty_of-Tuple (Token [] ∷ ir_type_of t ∷ []) []))
    (fits-Tuple (ty_of (Token []) ∷ ty_of (ir_type_of t) ∷ []) (received ir c on w)
    ∙ (ap (tuple_fits (map fits (ty_of (Token []) ∷ ty_of (ir_type_of t) ∷ []))) (outs-Tuple (no_value ∷ heard (channel_type ir c) (if on then w else no_word) ∷ []))
    ∙ and_true (fits (ty_of (Token [])) no_value) _ token_value.value
    (and_true (fits (ty_of (ir_type_of t)) (heard (channel_type ir c) (if on then w else no_word))) true
    (subst (λ u. IsOfType u (heard (channel_type ir c) (if on then w else no_word))) (sym (type_back t within)) (heard_typed ir c t (if on then w else no_word) carries within)) refl)))

-- its second part
pub second_part : (ir : List Channel) (c : ℕ) (on : Bool) (w : Word) → on_tuple (element_at 1) (received ir c on w) ≡ heard (channel_type ir c) (if on then w else no_word)
second_part ir c on w = on_tuple-Tuple (element_at 1) (received ir c on w) (no_value ∷ heard (channel_type ir c) (if on then w else no_word) ∷ []) refl

-- ---- what is sent

-- a value of a channel's type is sent as its flat word
pub sent_is : (ir : List Channel) (c : ℕ) (t : Ty) (v : Value) → CarriesWords ir c t → IsOfType t v → sent v ≡ flat_of v
sent_is ir c t v carries typed = when (nat_le 1 (flat_of v).width && nat_le (flat_of v).width 128) (and_true _ _ first second)
  where
    when : (b : Bool) → b ≡ true → word_where b (flat_of v) ≡ flat_of v
    when true h = refl
    when false h = absurd (cc)

    width : (flat_of v).width ≡ width_of t
    width = as_wide t v typed

    first : IsTrue (nat_le 1 (flat_of v).width)
    first =
        let some = carries.word.some_width in
        let least : 1 ≤ (flat_of v).width = omega (arith, some, width) in
        grind (arith, nat_tests, least)

    second : IsTrue (nat_le (flat_of v).width 128)
    second =
        let most = carries.word.most_width in
        let greatest : (flat_of v).width ≤ 128 = omega (arith, most, width) in
        grind (arith, nat_tests, greatest)
