-- Enums with whose text nothing is wrong.
use Rattle.std.proofs.Common.{◌≡◌, ◌==◌, ◌&&◌, ◌||◌, ◌++◌, ℕ, Bool, true, false, if◌then◌else◌, List, [], ◌∷◌, map, Option, Some, None, refl, sym, ap, ◌∙◌}
use mathlib.Core.Bool.{true≢false}
use Rattle.std.specs.Str.{bytes_eq}
use Rattle.std.specs.List.{list_all}
use Rattle.std.proofs.lemmas.Bool.Decides.{Decides-eqb}
use Rattle.std.proofs.lemmas.Slice.Eq.{bytes_eq-Decides}
use Rattle.xb_bits.specs.Word.{Word}
use Rattle.xb_span.specs.declared.fault.Fault.{Fault}
use Rattle.dslx_tree.specs.declared.item.Enum.{Enum}
use Rattle.dslx_tree.specs.declared.item.Member.{Member}
use Rattle.dslx_meaning.specs.Items.{base_of, enum_member, member_bits, member_named, member_value}
use Rattle.dslx_meaning.specs.Lists.{and_then, is_in, where_true}
use Rattle.dslx_meaning.specs.Meaning.{ExprDen, denotation}
use Rattle.dslx_meaning.specs.Operators.{number_value}
use Rattle.dslx_meaning.specs.Types.{bits_in, same_bool, same_type}
use Rattle.dslx_meaning.specs.Values.{bits_of, signed_step, type_of_value}
use Rattle.dslx_meaning.specs.declared.ty.BitKind.{BitKind}
use Rattle.dslx_meaning.specs.declared.ty.DslxType.{DslxType}
use Rattle.dslx_meaning.specs.declared.ty.DslxType as ty
use Rattle.dslx_meaning.specs.declared.value.UntypedLiteral.{UntypedLiteral}
use Rattle.dslx_meaning.specs.declared.value.DslxValue.{DslxValue}
use Rattle.dslx_meaning.specs.declared.value.DslxValue as value
use Rattle.dslx_meaning.specs.declared.value.DslxValue.TheViews as views
use Rattle.dslx_meaning.specs.declared.value.SignedWord.{SignedWord}
use Rattle.dslx_meaning.specs.Rules.AggregateRules.{range_faults, wanted_faults, untyped_value}
use Rattle.dslx_meaning.specs.Rules.ConstantRules.{ConstantSeen, constant_of, is_empty}
use Rattle.dslx_meaning.specs.Rules.ItemRules.{ConstantFound, base_if_bits, enum_of_base, enum_seen, has_equal_values, enum_member_value, item_type_env, typing_of_type, member_constant, member_values, members_found, only_faults}
use Rattle.dslx_meaning.specs.Rules.TypeEnvs.{ExprPair, GlobalEnv, TypeEnv, untyped_of, breaks_if, span_of, unless_broken}
use Rattle.dslx_meaning.specs.Rules.NameRules.{listed_name}
use Rattle.dslx_meaning.specs.Rules.NodeRules.{expr_pair}
use Rattle.dslx_meaning.specs.Rules.OperatorRules.{is_bits, unless_type}
use Rattle.dslx_meaning.specs.Rules.PatternRules.{is_there}
use Rattle.dslx_core.proofs.Lemmas.Typing.Laws.{is_bits_type}
use Rattle.dslx_core.specs.Typing.Typed.Complete.{IsComplete}
use Rattle.dslx_core.specs.Typing.Typed.Declared.{IsDeclared}
use Rattle.dslx_core.specs.Typing.Typed.Given.{GivesOf, HasNarrowLeaves}
use Rattle.dslx_core.specs.Typing.Typed.Kinds.{enum_of_kind, is_of, lies_in}
use Rattle.dslx_core.specs.Typing.Typed.WellTyped.{IsWellTypedEnv, types_at}
use Rattle.dslx_core.proofs.Lemmas.Typing.Typed.{is_bits_of, like_itself, of_enum, one_of_text, one_type, untyped_given, untyped_there}
use Rattle.dslx_core.proofs.Lemmas.Typing.Sound.{all_in, constant_has, expression_gives, none_in, none_in_three, passed, type_has_den}
use Rattle.dslx_core.specs.Typing.Complete.HasValue.{AreTyped, EnumHasType, IsWellTypedFound}
use Rattle.dslx_core.proofs.OnTyping.OnComplete.Scopes.{item_env, item_typed, none_own}
use Rattle.dslx_meaning.specs.Environment.{Env, Meanings, outside}

-- ---- the value of a member, in its base

abbrev in_base : Option DslxType → UntypedLiteral → Option DslxValue
in_base None number = None
in_base (Some t) number = untyped_value t number

abbrev of_base : Option DslxType → ConstantSeen → List Fault → ConstantFound
of_base base c wrong = record {
  found = record { faults = c.judgement.faults ++ wrong; reached = c.judgement.reached };
  value = and_then base (λ t. if is_empty wrong then c.value else None);
}

abbrev member_by : TypeEnv → Option DslxType → ExprPair → Option UntypedLiteral → ConstantFound
member_by context base pair None = of_base base (constant_of context pair) (wanted_faults (span_of pair) base (constant_of context pair).judgement.ty)
member_by context base pair (Some number) = record { found = only_faults (range_faults (span_of pair) base number); value = in_base base number }

member_has : (context : TypeEnv) (env : Env) → IsWellTypedEnv context env → (t : DslxType) → IsDeclared (types_at context) t → HasNarrowLeaves t → (m : Member) → IsWellTypedFound context.known (member_constant context (Some t) m).found
    → GivesOf (types_at context) t (member_constant context (Some t) m).value
member_has context env h t declared narrow m well_typed = by_untyped (untyped_of (expr_pair m.value)) well_typed
  where
    by_untyped : (o : Option UntypedLiteral) → IsWellTypedFound context.known (member_by context (Some t) (expr_pair m.value) o).found → GivesOf (types_at context) t (member_by context (Some t) (expr_pair m.value) o).value
    by_untyped None g =
        let pair = expr_pair m.value in
        let c = constant_of context pair in
        let wrong = wanted_faults (span_of pair) (Some t) c.judgement.ty in
        let f = none_in c.judgement.faults wrong g.faults in
        let k = constant_has context env pair (denotation m.value) (expression_gives m.value) h (record { faults = f.0; reached = g.reached }) in
        let same = passed (same_type t k.ty) 9 (span_of pair) (ap (wanted_faults (span_of pair) (Some t)) (sym k.typed) ∙ f.1) in
        let one : t ≡ k.ty = one_of_text (types_at context) t k.ty same declared k.gives.declared in
        record {
          value = k.gives.value;
          is = (λ i. if is_empty (f.1 i) then c.value else None) ∙ k.known;
          of = ap (λ u. is_of u k.gives.value) one ∙ k.gives.of;
          declared = declared;
        }
    by_untyped (Some number) g =
        untyped_given (types_at context) t number (passed (is_there (number_value t number)) 6 (span_of (expr_pair m.value)) g.faults) narrow declared

-- what it means, by the number without a type that it may be
abbrev bits_by : Meanings → BitKind → ExprDen → Option UntypedLiteral → Option DslxValue
bits_by items kind m None = and_then (m.value (outside items)) (λ v. where_true (same_type (type_of_value v) (ty.Bits kind.signed kind.width)) (Some v))
bits_by items kind m (Some number) = number_value (ty.Bits kind.signed kind.width) number

member_is_denoted : (known : GlobalEnv) (owner : List ℕ) → IsWellTypedEnv (item_type_env known owner []) (item_env known []) → (t : DslxType) → IsDeclared known.items.type_named t → HasNarrowLeaves t → (b : BitKind) → t ≡ ty.Bits b.signed b.width → (m : Member)
    → IsWellTypedFound known (member_constant (item_type_env known owner []) (Some t) m).found → (member_constant (item_type_env known owner []) (Some t) m).value ≡ member_bits known.items b (denotation m.value)
member_is_denoted known owner h t declared narrow b e m well_typed =
    by_untyped (untyped_of (expr_pair m.value)) well_typed ∙ ap (bits_by known.items b (denotation m.value)) (ap (λ (x : ExprDen). x.bare) (expression_gives m.value).is)
  where
    context : TypeEnv
    context = item_type_env known owner []

    by_untyped : (o : Option UntypedLiteral) → IsWellTypedFound known (member_by context (Some t) (expr_pair m.value) o).found → (member_by context (Some t) (expr_pair m.value) o).value ≡ bits_by known.items b (denotation m.value) o
    by_untyped None g =
        let pair = expr_pair m.value in
        let c = constant_of context pair in
        let wrong = wanted_faults (span_of pair) (Some t) c.judgement.ty in
        let f = none_in c.judgement.faults wrong g.faults in
        let k = constant_has context (item_env known []) pair (denotation m.value) (expression_gives m.value) h (record { faults = f.0; reached = g.reached }) in
        let same = passed (same_type t k.ty) 9 (span_of pair) (ap (wanted_faults (span_of pair) (Some t)) (sym k.typed) ∙ f.1) in
        let one : t ≡ k.ty = one_of_text known.items.type_named t k.ty same declared k.gives.declared in
        let own : type_of_value k.gives.value ≡ ty.Bits b.signed b.width = one_type k.ty k.gives.value k.gives.of ∙ sym one ∙ e in
        let alike : same_type (type_of_value k.gives.value) (ty.Bits b.signed b.width) ≡ true = ap (λ u. same_type u (ty.Bits b.signed b.width)) own ∙ like_itself (ty.Bits b.signed b.width) in
        (λ i. if is_empty (f.1 i) then c.value else None) ∙ k.known
        ∙ sym (ap (λ p. and_then p (λ v. where_true (same_type (type_of_value v) (ty.Bits b.signed b.width)) (Some v))) k.gives.is ∙ ap (λ p. where_true p (Some k.gives.value)) alike)
    by_untyped (Some number) g = untyped_there t narrow number ∙ ap (λ u. number_value u number) e

-- ---- its value in the enum

through_bits : (o : Option DslxValue) (f : SignedWord → Option DslxValue) → and_then o (λ v. and_then (bits_of v) f) ≡ and_then (and_then o bits_of) f
through_bits None f = refl
through_bits (Some v) f = refl

same_itself : (s : Bool) (w : ℕ) → (same_bool s s && w == w) ≡ true
same_itself true w = (Decides-eqb w w).1 refl
same_itself false w = (Decides-eqb w w).1 refl

enum_value_of : (name : List ℕ) (s : Bool) (w : ℕ) (x : Word) → x.width ≡ w → lies_in x ≡ true → is_of (ty.Enum name s w) (value.Enum name s x) ≡ true
enum_value_of name s w x e lies =
    of_enum name s w (value.Enum name s x) ∙ ap (enum_of_kind name s w) (views.outs-Enum name s x)
    ∙ ap (λ n. bytes_eq name name && ((same_bool s s && n == x.width) && lies_in x)) (sym e)
    ∙ (λ i. (bytes_eq-Decides name name).1 refl i && (same_itself s x.width i && lies i))

record EnumValue (name : List ℕ) (b : BitKind) (o : Option DslxValue) : Type 0 where
  value : DslxValue
  is : and_then o (enum_member name) ≡ Some value
  of : is_of (ty.Enum name b.signed b.width) value ≡ true

enum_value : (known : GlobalEnv) (name : List ℕ) (t : DslxType) (b : BitKind) (o : Option DslxValue) → t ≡ ty.Bits b.signed b.width → GivesOf known.items.type_named t o → EnumValue name b o
enum_value known name t b o e g =
    let u = is_bits_of b.signed b.width g.value (ap (λ a. is_of a g.value) (sym e) ∙ g.of) in
    record {
      value = value.Enum name b.signed u.0;
      is = through_bits o (λ x. Some (value.Enum name x.signed x.word)) ∙ ap (λ p. and_then (and_then p bits_of) (λ x. Some (value.Enum name x.signed x.word))) g.is
          ∙ ap (λ l. and_then (signed_step l) (λ x. Some (value.Enum name x.signed x.word))) u.1;
      of = enum_value_of name b.signed b.width u.0 u.2 u.3;
    }

-- ---- all members

-- the member of a name, with which nothing is wrong
record IsMember (context : TypeEnv) (t : DslxType) (name : List ℕ) (ms : List Member) : Type 0 where
  member : Member
  is : member_named name ms ≡ Some member
  well_typed : IsWellTypedFound context.known (member_constant context (Some t) member).found

find_member : (context : TypeEnv) (t : DslxType) (name : List ℕ) (before : List (List ℕ)) (ms : List Member) → (members_found context (Some t) before ms).faults ≡ []
    → list_all context.known.is_sound (members_found context (Some t) before ms).reached ≡ true → is_in name (map (λ (m : Member). m.name.name) ms) ≡ true → IsMember context t name ms
find_member context t name before [] f r e = absurd (true≢false (sym e))
find_member context t name before (m ∷ ms) f r e =
    let own = (member_constant context (Some t) m).found in
    let rest = members_found context (Some t) (m.name.name ∷ before) ms in
    let a = none_in (listed_name before m.name) (own.faults ++ rest.faults) f in
    let b = none_in own.faults rest.faults a.1 in
    let s = all_in context.known.is_sound own.reached rest.reached r in
    by_name (bytes_eq name m.name.name) refl e (record { faults = b.0; reached = s.0 }) (find_member context t name (m.name.name ∷ before) ms b.1 s.1)
  where
    by_name : (b : Bool) → bytes_eq name m.name.name ≡ b → (if b then true else is_in name (map (λ (m : Member). m.name.name) ms)) ≡ true → IsWellTypedFound context.known (member_constant context (Some t) m).found
        → (is_in name (map (λ (m : Member). m.name.name) ms) ≡ true → IsMember context t name ms) → IsMember context t name (m ∷ ms)
    by_name true q h well_typed rest = record { member = m; is = ap (λ b. if b then Some m else member_named name ms) q; well_typed = well_typed }
    by_name false q h well_typed rest =
        let k = rest h in
        record { member = k.member; is = ap (λ b. if b then Some m else member_named name ms) q ∙ k.is; well_typed = k.well_typed }

pub enum_has_type : (known : GlobalEnv) → IsComplete known → AreTyped known → (e : Enum) → IsWellTypedFound known (enum_seen known e).found → EnumHasType known e
enum_has_type known complete typed e well_typed =
    let context = item_type_env known e.name.name [] in
    let env = item_env known [] in
    let place = item_typed known complete typed e.name.name [] (none_own known) in
    let base = typing_of_type context e.base in
    let members = members_found context (base_if_bits base.ty) [] e.members in
    let bits = unless_type is_bits 23 e.span base.ty in
    let equal = breaks_if (is_empty e.members || has_equal_values (member_values context (base_if_bits base.ty) e.members)) 23 e.span in
    let f = none_in_three (base.faults ++ members.faults) bits equal well_typed.faults in
    let g = none_in base.faults members.faults f.0 in
    let s = all_in known.is_sound base.reached members.reached well_typed.reached in
    let k = (type_has_den e.base).known context env place (record { faults = g.0; reached = s.0 }) in
    let m = (type_has_den e.base).means context env place k.0 k.1 in
    let narrow = (type_has_den e.base).narrow context g.0 k.0 k.1 in
    let of_bits = passed (is_bits k.0) 23 e.span (ap (unless_type is_bits 23 e.span) (sym k.1) ∙ f.1) in
    let b = is_bits_type k.0 of_bits in
    let in_bits : base_if_bits base.ty ≡ Some k.0 = ap base_if_bits k.1 ∙ ap (λ t. where_true t (Some k.0)) of_bits in
    let based : base_of known.items e ≡ Some b.0 = (λ i. and_then (m.0 i) bits_in) ∙ b.2 in
    let made : Option DslxType → Option DslxType = enum_of_base e.name.name in
    let named : made (Some k.0) ≡ Some (ty.Enum e.name.name b.0.signed b.0.width) = ap (λ o. and_then o (λ (kind : BitKind). Some (ty.Enum e.name.name kind.signed kind.width))) b.2 in
    let is : (enum_seen known e).ty ≡ Some (ty.Enum e.name.name b.0.signed b.0.width) = (λ i. unless_broken (well_typed.faults i) (made (k.1 i))) ∙ named in
    record {
      signed = b.0.signed;
      width = b.0.width;
      is = is;
      means = (λ i. and_then (and_then (m.0 i) bits_in) (λ (kind : BitKind). Some (ty.Enum e.name.name kind.signed kind.width))) ∙ named;
      members = λ name there.
          let found = find_member context k.0 name [] e.members ((λ i. (members_found context (sym in_bits i) [] e.members).faults) ∙ g.1)
          ((λ i. list_all known.is_sound (members_found context (sym in_bits i) [] e.members).reached) ∙ s.1) there in
          let v = enum_value known e.name.name k.0 b.0 (member_constant context (Some k.0) found.member).value b.1 (member_has context env place k.0 m.1 narrow found.member found.well_typed) in
          record {
            value = v.value;
            is = (λ i. enum_member_value known e name (found.is i)) ∙ (λ i. and_then (is i) (λ t. and_then (member_constant context (in_bits i) found.member).value (enum_member e.name.name))) ∙ v.is;
            of = v.of;
            means = (λ i. and_then (found.is i) (member_value known.items e))
                ∙ (λ i. and_then (based i) (λ kind. and_then (member_bits known.items kind (denotation found.member.value)) (enum_member e.name.name)))
                ∙ ap (λ o. and_then o (enum_member e.name.name)) (sym (member_is_denoted known e.name.name place k.0 m.1 narrow b.0 b.1 found.member found.well_typed)) ∙ v.is;
          };
    }
