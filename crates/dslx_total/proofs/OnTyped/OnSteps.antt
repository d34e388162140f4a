-- Steps that begin and end with values of types.
use Rattle.std.proofs.Common.{◌≡◌, ◌&&◌, ◌≤◌, ◌<◌, ℕ, Bool, true, not, List, [], ◌∷◌, map, Option, Some, None, refl, sym, ap, ◌∙◌, arith}
use Rattle.std.specs.Prelude.{nat_le, nat_lt, slice_get}
use Rattle.std.specs.List.{list_all}
use Rattle.std.proofs.lemmas.Bool.Decides.{nat_tests}
use Rattle.xb_value.specs.declared.ty.Ty.{Ty, fold-Ty}
use Rattle.xb_value.specs.declared.ty.Ty as plain
use Rattle.xb_value.specs.Width.{width_of, widths_step}
use Rattle.xb_value.proofs.Lemmas.Types.{EachHas}
use Rattle.xb_value.proofs.Lemmas.Types as types
use Rattle.dslx_tree.specs.declared.process.End.{End}
use Rattle.dslx_meaning.specs.Lists.{and_then, index_in, where_true, with_both}
use Rattle.dslx_meaning.specs.Types.{plain_type, received}
use Rattle.dslx_meaning.specs.declared.ty.DslxType.{DslxType}
use Rattle.dslx_meaning.specs.declared.ty.DslxType as ty
use Rattle.dslx_meaning.specs.declared.ty.DslxType.TheFolds.{fold-roll-DslxType}
use Rattle.dslx_meaning.specs.declared.ty.DslxType.TheOpen.{DslxType-F}
use Rattle.dslx_meaning.specs.declared.ty.DslxType.TheVariants as rolls
use Rattle.dslx_meaning.specs.Rules.ConstantRules.{is_zero}
use Rattle.dslx_core.proofs.Lemmas.Lowering.{from_then, from_where}
use Rattle.dslx_core.proofs.Lemmas.Typing.Laws.{and_true}
use Rattle.dslx_core.proofs.Lemmas.Typing.Typed.{same_some, type_induction}
use Rattle.dslx_core.specs.CoreValues.{is_width}
use Rattle.dslx_core.specs.declared.step.Step.{Step}
use Rattle.dslx_core.specs.declared.step.Step.TheVariants as step
use Rattle.dslx_core.specs.Lowering.CoreScopes.{CoreScope}
use Rattle.dslx_core.specs.Lowering.Lowering.{LoweredExpr}
use Rattle.dslx_core.specs.Lowering.Patterns.{LoweredShape}
use Rattle.dslx_core.specs.Lowering.Steps.{BindsInScope, CoreMember, LoweredSteps, StepsLowering, can_travel, end_names, fits_word, is_sized, lower_compute, lower_receive, lower_send, member_in, sized_step, step_then}
use Rattle.dslx_core.specs.Lowering.Trees.{lower_type_of_text}
use Rattle.dslx_core.specs.Types.Designs.{WordTypes, if_condition, if_other, step_binds, steps_type, token_type}
use Rattle.dslx_core.specs.Types.Typing.{FunctionTypes, binds_types, core_type, if_alike}
use Rattle.dslx_core.proofs.Lemmas.Types.{alike_itself}
use Rattle.dslx_total.specs.Typed.Scopes.{IsTypedExpr, is_sound_type}
use Rattle.dslx_total.proofs.OnTyped.OnTypes.{HasWidth, plain_array, plain_bits, plain_enum, plain_struct, plain_token, plain_tuple, sound_array, sound_bits, sound_enum, sound_struct, sound_token, sound_tuple}

-- ---- types whose words travel

abbrev Travels : DslxType → Type 0
Travels t = is_sized t ≡ true → fold-Ty Bool widths_step (plain_type t) ≡ true → is_sound_type t ≡ true

one_wide_enough : (w : ℕ) → (nat_le 1 w && nat_le w 128) ≡ true → is_width w ≡ true
one_wide_enough w e =
    let q = and_true (nat_le 1 w) (nat_le w 128) e in
    let some : 1 ≤ w = grind (arith, nat_tests, q.0) in
    let positive : 0 < w = omega (arith, some) in
    let test : nat_lt 0 w ≡ true = grind (arith, nat_tests, positive) in
    λ i. test i && q.1 i

each_travels : (ts : List DslxType) → EachHas Travels ts → list_all (λ b. b) (map is_sized ts) ≡ true → list_all (λ b. b) (map (fold-Ty Bool widths_step) (map plain_type ts)) ≡ true → list_all (λ b. b) (map is_sound_type ts) ≡ true
each_travels [] h z e = refl
each_travels (t ∷ ts) h z e =
    let a = and_true (is_sized t) (list_all (λ b. b) (map is_sized ts)) z in
    let b = and_true (fold-Ty Bool widths_step (plain_type t)) (list_all (λ b. b) (map (fold-Ty Bool widths_step) (map plain_type ts))) e in
    λ i. h.0 a.0 b.0 i && each_travels ts h.1 a.1 b.1 i

travels : (t : DslxType) → Travels t
travels = type_induction Travels
    (λ s w z e. sound_bits s w ∙ one_wide_enough w (sym (ap (fold-Ty Bool widths_step) (plain_bits s w) ∙ types.fold-Bits Bool widths_step w) ∙ e))
    (λ ts h z e.
    sound_tuple ts ∙ each_travels ts h (sym (ap is_sized (sym (rolls.rolls-Tuple ts)) ∙ fold-roll-DslxType Bool sized_step (DslxType-F.Tuple ts)) ∙ z)
    (sym (ap (fold-Ty Bool widths_step) (plain_tuple ts) ∙ types.fold-Tuple Bool widths_step (map plain_type ts)) ∙ e))
    (λ t n h z e.
    let a = and_true (not (is_zero n)) (is_sized t) (sym (ap is_sized (sym (rolls.rolls-Array t n)) ∙ fold-roll-DslxType Bool sized_step (DslxType-F.Array t n)) ∙ z) in
    let b = h a.1 (sym (ap (fold-Ty Bool widths_step) (plain_array t n) ∙ types.fold-Array Bool widths_step (plain_type t) n) ∙ e) in
    sound_array t n ∙ (λ i. a.0 i && b i))
    (λ name fields ts h z e.
    sound_struct name fields ts ∙ each_travels ts h (sym (ap is_sized (sym (rolls.rolls-Struct name fields ts)) ∙ fold-roll-DslxType Bool sized_step (DslxType-F.Struct name fields ts)) ∙ z)
    (sym (ap (fold-Ty Bool widths_step) (plain_struct name fields ts) ∙ types.fold-Tuple Bool widths_step (map plain_type ts)) ∙ e))
    (λ name s w z e. sound_enum name s w ∙ one_wide_enough w (sym (ap (fold-Ty Bool widths_step) (plain_enum name s w) ∙ types.fold-Bits Bool widths_step w) ∙ e))
    (λ z e. sound_token)

pub member_sound : (outer : CoreScope) (ends : List End) (name : List ℕ) (m : CoreMember) → member_in outer ends name ≡ Some m → is_sound_type m.word ≡ true
member_sound outer ends name m e =
    let k = from_then (index_in name (end_names ends)) (λ k. and_then (slice_get ends k) (λ e. and_then (lower_type_of_text e.word outer) (λ t. where_true (can_travel t) (Some (record { number = k; word = t }))))) m e in
    let d = from_then (slice_get ends k.0) (λ e. and_then (lower_type_of_text e.word outer) (λ t. where_true (can_travel t) (Some (record { number = k.0; word = t })))) m k.2 in
    let t = from_then (lower_type_of_text d.0.word outer) (λ t. where_true (can_travel t) (Some (record { number = k.0; word = t }))) m d.2 in
    let w = from_where (can_travel t.0) (Some (record { number = k.0; word = t.0 })) m t.2 in
    let c = and_true (is_sized t.0) (fits_word (plain_type t.0)) w.0 in
    let f = and_true (fold-Ty Bool widths_step (plain_type t.0)) (nat_le 1 (width_of (plain_type t.0)) && nat_le (width_of (plain_type t.0)) 128) c.1 in
    ap (λ (m : CoreMember). is_sound_type m.word) (sym (same_some (record { number = k.0; word = t.0 }) m w.1)) ∙ travels t.0 c.0 f.0

pub received_sound : (t : DslxType) → is_sound_type t ≡ true → is_sound_type (received t) ≡ true
received_sound t e = sound_tuple (ty.Token ∷ t ∷ []) ∙ (λ i. sound_token i && (e i && true))

pub received_plain : (t : DslxType) → plain_type (received t) ≡ plain.Tuple (token_type ∷ plain_type t ∷ [])
received_plain t = plain_tuple (ty.Token ∷ t ∷ []) ∙ ap (λ u. plain.Tuple (u ∷ plain_type t ∷ [])) plain_token

-- ---- steps

-- steps with types, where they are there
abbrev pub StepsIfThere : FunctionTypes → WordTypes → List Ty → Option LoweredSteps → Type 0
StepsIfThere fs words ts None = Unit {0}
StepsIfThere fs words ts (Some l) = (steps_type fs words l.steps l.next.core ts ≡ Some (plain_type l.next.ty)) × (is_sound_type l.next.ty ≡ true)

-- a value of this type is bound, and the rest has types behind it
pub record BehindTyped (fs : FunctionTypes) (words : WordTypes) (ts : List Ty) (t : DslxType) (s : LoweredShape) (rest : Option LoweredSteps) : Type 0 where
  pub more : List Ty
  pub binds : binds_types true s.shape (plain_type t) ts ≡ Some more
  pub typed : StepsIfThere fs words more rest

module _ (fs : FunctionTypes) (words : WordTypes) (ts : List Ty) where
  step_typed : (s : Step) (more : List Ty) (o : Option LoweredSteps) → step_binds fs words s ts ≡ Some more → StepsIfThere fs words more o → StepsIfThere fs words ts (step_then s o)
  step_typed s more None e h = tt
  step_typed s more (Some l) e h = (ap (λ x. and_then x (steps_type fs words l.steps l.next.core)) e ∙ h.0, h.1)

  -- what is bound, where something is
  if_bound : (o : Option LoweredShape) (f : LoweredShape → Option LoweredSteps) → ((s : LoweredShape) → o ≡ Some s → StepsIfThere fs words ts (f s)) → StepsIfThere fs words ts (and_then o f)
  if_bound None f h = tt
  if_bound (Some s) f h = h s refl

  -- a member, where there is one
  pub if_member : (o : Option CoreMember) (f : CoreMember → Option LoweredSteps) → ((m : CoreMember) → o ≡ Some m → StepsIfThere fs words ts (f m)) → StepsIfThere fs words ts (and_then o f)
  if_member None f h = tt
  if_member (Some m) f h = h m refl

  pub if_word : (o : Option LoweredExpr) (f : LoweredExpr → Option LoweredSteps) → ((e : LoweredExpr) → o ≡ Some e → StepsIfThere fs words ts (f e)) → StepsIfThere fs words ts (and_then o f)
  if_word None f h = tt
  if_word (Some e) f h = h e refl

  pub if_both : (o p : Option LoweredExpr) (f : LoweredExpr → LoweredExpr → Option LoweredSteps) → ((a b : LoweredExpr) → o ≡ Some a → p ≡ Some b → StepsIfThere fs words ts (f a b)) → StepsIfThere fs words ts (with_both o p f)
  if_both None p f h = tt
  if_both (Some a) None f h = tt
  if_both (Some a) (Some b) f h = h a b refl refl

  pub compute_typed : (e : LoweredExpr) (binds : BindsInScope) (rest : StepsLowering) (scope : CoreScope) → IsTypedExpr fs ts e → ((s : LoweredShape) → binds scope e.ty ≡ Some s → BehindTyped fs words ts e.ty s (rest s.scope))
      → StepsIfThere fs words ts (lower_compute e binds rest scope)
  compute_typed e binds rest scope he k =
      if_bound (binds scope e.ty) (λ s. step_then (step.Bind e.core s.shape) (rest s.scope))
      (λ s q. let b = k s q in step_typed (step.Bind e.core s.shape) b.more (rest s.scope) (ap (λ o. and_then o (λ t. binds_types true s.shape t ts)) he.core ∙ b.binds) b.typed)

  -- a condition is a bit
  condition_is : (c : LoweredExpr) (o : Option Ty) → IsTypedExpr fs ts c → HasWidth c.ty 1 → if_condition fs ts (Some c.core) o ≡ o
  condition_is c o hc w = ap (λ x. and_then (if_alike (plain.Bits 1) x) (λ b. o)) (hc.core ∙ ap Some w.plain) ∙ ap (λ x. and_then x (λ b. o)) (alike_itself (plain.Bits 1))

  pub receive_typed : (m : CoreMember) (binds : BindsInScope) (rest : StepsLowering) (scope : CoreScope) → words m.number ≡ Some (plain_type m.word)
      → ((s : LoweredShape) → binds scope (received m.word) ≡ Some s → BehindTyped fs words ts (received m.word) s (rest s.scope)) → StepsIfThere fs words ts (lower_receive m None binds rest scope)
  receive_typed m binds rest scope w k =
      if_bound (binds scope (received m.word)) (λ s. step_then (step.Receive (record { member = m.number; word = plain_type m.word; condition = None; shape = s.shape })) (rest s.scope))
      (λ s q.
      let b = k s q in
      step_typed (step.Receive (record { member = m.number; word = plain_type m.word; condition = None; shape = s.shape })) b.more (rest s.scope)
      (ap (λ o. and_then (if_alike (plain_type m.word) o) (λ t. binds_types true s.shape (plain.Tuple (token_type ∷ t ∷ [])) ts)) w
      ∙ ap (λ o. and_then o (λ t. binds_types true s.shape (plain.Tuple (token_type ∷ t ∷ [])) ts)) (alike_itself (plain_type m.word))
      ∙ ap (λ t. binds_types true s.shape t ts) (sym (received_plain m.word)) ∙ b.binds) b.typed)

  pub receive_if_typed : (m : CoreMember) (c other : LoweredExpr) (binds : BindsInScope) (rest : StepsLowering) (scope : CoreScope) → words m.number ≡ Some (plain_type m.word) → IsTypedExpr fs ts c → HasWidth c.ty 1 → IsTypedExpr fs ts other → m.word ≡ other.ty
      → ((s : LoweredShape) → binds scope (received m.word) ≡ Some s → BehindTyped fs words ts (received m.word) s (rest s.scope)) → StepsIfThere fs words ts (lower_receive m (Some (c, other)) binds rest scope)
  receive_if_typed m c other binds rest scope w hc kc ho same k =
      if_bound (binds scope (received m.word)) (λ s. step_then (step.Receive (record { member = m.number; word = plain_type m.word; condition = Some (c.core, other.core); shape = s.shape })) (rest s.scope))
      (λ s q.
      let b = k s q in
      let value : if_alike (plain_type m.word) (core_type other.core fs ts) ≡ Some (plain_type m.word) = ap (if_alike (plain_type m.word)) (ho.core ∙ ap (λ t. Some (plain_type t)) (sym same)) ∙ alike_itself (plain_type m.word) in
      step_typed (step.Receive (record { member = m.number; word = plain_type m.word; condition = Some (c.core, other.core); shape = s.shape })) b.more (rest s.scope)
      (ap (λ o. and_then (if_alike (plain_type m.word) o) (λ t. and_then (if_other fs ts t (Some (c.core, other.core))) (λ u. binds_types true s.shape (plain.Tuple (token_type ∷ u ∷ [])) ts))) w
      ∙ ap (λ o. and_then o (λ t. and_then (if_other fs ts t (Some (c.core, other.core))) (λ u. binds_types true s.shape (plain.Tuple (token_type ∷ u ∷ [])) ts))) (alike_itself (plain_type m.word))
      ∙ ap (λ o. and_then o (λ u. binds_types true s.shape (plain.Tuple (token_type ∷ u ∷ [])) ts)) (condition_is c (if_alike (plain_type m.word) (core_type other.core fs ts)) hc kc ∙ value)
      ∙ ap (λ t. binds_types true s.shape t ts) (sym (received_plain m.word)) ∙ b.binds) b.typed)

  pub send_typed : (m : CoreMember) (word : LoweredExpr) (binds : BindsInScope) (rest : StepsLowering) (scope : CoreScope) → words m.number ≡ Some (plain_type m.word) → IsTypedExpr fs ts word → m.word ≡ word.ty
      → ((s : LoweredShape) → binds scope ty.Token ≡ Some s → BehindTyped fs words ts ty.Token s (rest s.scope)) → StepsIfThere fs words ts (lower_send m None word binds rest scope)
  send_typed m word binds rest scope w hw same k =
      if_bound (binds scope ty.Token) (λ s. step_then (step.Send (record { member = m.number; condition = None; word = word.core; shape = s.shape })) (rest s.scope))
      (λ s q.
      let b = k s q in
      step_typed (step.Send (record { member = m.number; condition = None; word = word.core; shape = s.shape })) b.more (rest s.scope)
      (ap (λ o. and_then o (λ t. and_then (if_alike t (core_type word.core fs ts)) (λ u. binds_types true s.shape token_type ts))) w
      ∙ ap (λ o. and_then (if_alike (plain_type m.word) o) (λ u. binds_types true s.shape token_type ts)) (hw.core ∙ ap (λ t. Some (plain_type t)) (sym same))
      ∙ ap (λ o. and_then o (λ u. binds_types true s.shape token_type ts)) (alike_itself (plain_type m.word))
      ∙ ap (λ t. binds_types true s.shape t ts) (sym plain_token) ∙ b.binds) b.typed)

  pub send_if_typed : (m : CoreMember) (c word : LoweredExpr) (binds : BindsInScope) (rest : StepsLowering) (scope : CoreScope) → words m.number ≡ Some (plain_type m.word) → IsTypedExpr fs ts c → HasWidth c.ty 1 → IsTypedExpr fs ts word → m.word ≡ word.ty
      → ((s : LoweredShape) → binds scope ty.Token ≡ Some s → BehindTyped fs words ts ty.Token s (rest s.scope)) → StepsIfThere fs words ts (lower_send m (Some c) word binds rest scope)
  send_if_typed m c word binds rest scope w hc kc hw same k =
      if_bound (binds scope ty.Token) (λ s. step_then (step.Send (record { member = m.number; condition = Some c.core; word = word.core; shape = s.shape })) (rest s.scope))
      (λ s q.
      let b = k s q in
      let value : if_alike (plain_type m.word) (core_type word.core fs ts) ≡ Some (plain_type m.word) = ap (if_alike (plain_type m.word)) (hw.core ∙ ap (λ t. Some (plain_type t)) (sym same)) ∙ alike_itself (plain_type m.word) in
      step_typed (step.Send (record { member = m.number; condition = Some c.core; word = word.core; shape = s.shape })) b.more (rest s.scope)
      (ap (λ o. and_then o (λ t. and_then (if_condition fs ts (Some c.core) (if_alike t (core_type word.core fs ts))) (λ u. binds_types true s.shape token_type ts))) w
      ∙ ap (λ o. and_then o (λ u. binds_types true s.shape token_type ts)) (condition_is c (if_alike (plain_type m.word) (core_type word.core fs ts)) hc kc ∙ value)
      ∙ ap (λ t. binds_types true s.shape t ts) (sym plain_token) ∙ b.binds) b.typed)
