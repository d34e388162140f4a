-- Types that are written within the limits are sound.
use Rattle.std.proofs.Common.{◌≡◌, ◌&&◌, ◌++◌, ℕ, Bool, true, not, List, [], ◌∷◌, map, Some, refl, sym, ap, ◌∙◌}
use Rattle.std.specs.Prelude.{nat_le}
use Rattle.std.specs.List.{list_all}
use Rattle.xb_span.specs.declared.limit.What.TheVariants as what
use Rattle.xb_value.proofs.Lemmas.Types.{EachHas}
use Rattle.dslx_meaning.specs.Types.{leaves_of, levels_of}
use Rattle.dslx_meaning.specs.declared.ty.DslxType.{DslxType}
use Rattle.dslx_meaning.specs.declared.ty.DslxType.TheFolds.{fold-roll-DslxType}
use Rattle.dslx_meaning.specs.declared.ty.DslxType.TheOpen.{DslxType-F}
use Rattle.dslx_meaning.specs.declared.ty.DslxType.TheVariants as rolls
use Rattle.dslx_meaning.specs.Rules.ConstantRules.{is_zero}
use Rattle.dslx_meaning.specs.Rules.TypeEnvs.{all_widths, leaf_widths, passes, passes_widths, type_limits, widths_in}
use Rattle.dslx_core.proofs.Lemmas.Typing.Laws.{and_true}
use Rattle.dslx_core.proofs.Lemmas.Typing.Sound.{none_in, none_in_three}
use Rattle.dslx_core.proofs.Lemmas.Typing.Typed.{type_induction}
use Rattle.dslx_core.specs.Lowering.Steps.{is_sized, sized_step}
use Rattle.dslx_core.specs.Typing.Typed.Declared.{Declarations, DeclaresParts, IsDeclared}
use Rattle.dslx_total.proofs.Lemmas.Expressions.{in_array, in_bits, in_enum, in_struct, in_tuple, not_passed, sized_there}
use Rattle.dslx_total.specs.Expressions.Beside.{has_widths}
use Rattle.dslx_total.specs.Typed.Scopes.{is_sound_type}
use Rattle.dslx_total.proofs.OnTyped.OnTypes.{sound_array, sound_bits, sound_enum, sound_struct, sound_token, sound_tuple}

all_passed : (at : ℕ) (ws us : List ℕ) → passes_widths at (ws ++ us) ≡ [] → (passes_widths at ws ≡ []) × (passes_widths at us ≡ [])
all_passed at [] us e = (refl, e)
all_passed at (w ∷ ws) us e =
    let q = none_in (passes what.Width 128 at w) (passes_widths at (ws ++ us)) e in
    let r = all_passed at ws us q.1 in
    ((λ i. q.0 i ++ r.0 i), r.1)

one_passed : (at w : ℕ) → passes_widths at (w ∷ []) ≡ [] → nat_le w 128 ≡ true
one_passed at w e = not_passed at w (none_in (passes what.Width 128 at w) [] e).0

abbrev IsSoundWhere : ℕ → DslxType → Type 0
IsSoundWhere at t = has_widths t ≡ true → is_sized t ≡ true → passes_widths at (leaf_widths t) ≡ [] → is_sound_type t ≡ true

each_sound : (at : ℕ) (ts : List DslxType) → EachHas (IsSoundWhere at) ts → list_all (λ b. b) (map has_widths ts) ≡ true → list_all (λ b. b) (map is_sized ts) ≡ true → passes_widths at (all_widths (map leaf_widths ts)) ≡ []
    → list_all (λ b. b) (map is_sound_type ts) ≡ true
each_sound at [] h w z p = refl
each_sound at (t ∷ ts) h w z p =
    let a = and_true (has_widths t) (list_all (λ b. b) (map has_widths ts)) w in
    let b = and_true (is_sized t) (list_all (λ b. b) (map is_sized ts)) z in
    let c = all_passed at (leaf_widths t) (all_widths (map leaf_widths ts)) p in
    λ i. h.0 a.0 b.0 c.0 i && each_sound at ts h.1 a.1 b.1 c.1 i

pub sound_where : (at : ℕ) (t : DslxType) → IsSoundWhere at t
sound_where at = type_induction (IsSoundWhere at)
    (λ s w a b p.
    let few = one_passed at w (sym (ap (passes_widths at) (ap leaf_widths (sym (rolls.rolls-Bits s w)) ∙ fold-roll-DslxType (List ℕ) widths_in (DslxType-F.Bits s w))) ∙ p) in
    let some = sym (in_bits s w) ∙ a in
    sound_bits s w ∙ (λ i. some i && few i))
    (λ ts h a b p.
    sound_tuple ts ∙ each_sound at ts h (sym (in_tuple ts) ∙ a) (sym (ap is_sized (sym (rolls.rolls-Tuple ts)) ∙ fold-roll-DslxType Bool sized_step (DslxType-F.Tuple ts)) ∙ b)
    (sym (ap (passes_widths at) (ap leaf_widths (sym (rolls.rolls-Tuple ts)) ∙ fold-roll-DslxType (List ℕ) widths_in (DslxType-F.Tuple ts))) ∙ p))
    (λ t n h a b p.
    let z = and_true (not (is_zero n)) (is_sized t) (sym (ap is_sized (sym (rolls.rolls-Array t n)) ∙ fold-roll-DslxType Bool sized_step (DslxType-F.Array t n)) ∙ b) in
    let one = h (sym (in_array t n) ∙ a) z.1 (sym (ap (passes_widths at) (ap leaf_widths (sym (rolls.rolls-Array t n)) ∙ fold-roll-DslxType (List ℕ) widths_in (DslxType-F.Array t n))) ∙ p) in
    sound_array t n ∙ (λ i. z.0 i && one i))
    (λ name fields ts h a b p.
    sound_struct name fields ts ∙ each_sound at ts h (sym (in_struct name fields ts) ∙ a) (sym (ap is_sized (sym (rolls.rolls-Struct name fields ts)) ∙ fold-roll-DslxType Bool sized_step (DslxType-F.Struct name fields ts)) ∙ b)
    (sym (ap (passes_widths at) (ap leaf_widths (sym (rolls.rolls-Struct name fields ts)) ∙ fold-roll-DslxType (List ℕ) widths_in (DslxType-F.Struct name fields ts))) ∙ p))
    (λ name s w a b p.
    let few = one_passed at w (sym (ap (passes_widths at) (ap leaf_widths (sym (rolls.rolls-Enum name s w)) ∙ fold-roll-DslxType (List ℕ) widths_in (DslxType-F.Enum name s w))) ∙ p) in
    let some = sym (in_enum name s w) ∙ a in
    sound_enum name s w ∙ (λ i. some i && few i))
    (λ a b p. sound_token)

-- a type of the text whose bits have widths, within the limits
pub written_sound : (types : Declarations) → DeclaresParts types → (at : ℕ) (t : DslxType) → has_widths t ≡ true → IsDeclared types t → type_limits at (Some t) ≡ [] → is_sound_type t ≡ true
written_sound types parts at t wide d e = sound_where at t wide (sized_there types parts t d) (none_in_three (passes_widths at (leaf_widths t)) (passes what.Leaves 256 at (leaves_of t)) (passes what.Levels 64 at (levels_of t)) e).0
