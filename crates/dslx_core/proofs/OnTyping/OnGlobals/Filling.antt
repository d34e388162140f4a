-- Where the items whose names pass are known, all are, with what is filled in for the others.
use Rattle.std.proofs.Common.{◌≡◌, ◌&&◌, ℕ, zero, suc, Bool, true, false, if◌then◌else◌, List, [], ◌∷◌, map, Option, Some, None, pred, arith, refl, sym, ap, subst, ◌∙◌}
use mathlib.Core.Bool.{true≢false}
use Rattle.std.specs.Prelude.{slice_get}
use Rattle.std.specs.Str.{bytes_eq}
use Rattle.std.proofs.lemmas.Nat.{pow_pos}
use Rattle.std.proofs.lemmas.Slice.Eq.{bytes_eq-Decides}
use Rattle.xb_bits.specs.Word.{word}
use Rattle.dslx_tree.specs.declared.item.Definition.{Definition}
use Rattle.dslx_tree.specs.declared.item.Definition.TheVariants as d
use Rattle.dslx_tree.specs.declared.item.Enum.{Enum}
use Rattle.dslx_tree.specs.declared.item.Field.{Field}
use Rattle.dslx_tree.specs.declared.item.Function.{Function}
use Rattle.dslx_tree.specs.declared.item.Parametric.{Parametric}
use Rattle.dslx_tree.specs.declared.item.Struct.{Struct as StructItem}
use Rattle.dslx_meaning.specs.Environment.{Given, Meanings}
use Rattle.dslx_meaning.specs.Items.{as_enum, as_function, as_struct, is_constant_item, item_named, name_of_field}
use Rattle.dslx_meaning.specs.Lists.{and_then, index_in}
use Rattle.dslx_meaning.specs.Values.{type_of_value}
use Rattle.dslx_meaning.specs.declared.ty.DslxType.{DslxType, out-DslxType}
use Rattle.dslx_meaning.specs.declared.ty.DslxType as ty
use Rattle.dslx_meaning.specs.declared.ty.DslxType.TheOpen.{DslxType-F}
use Rattle.dslx_meaning.specs.declared.ty.DslxType.TheViews as views
use Rattle.dslx_meaning.specs.declared.value.DslxValue.{DslxValue}
use Rattle.dslx_meaning.specs.Rules.CallRules.{parametric_type, known_before}
use Rattle.dslx_meaning.specs.Rules.TypeEnvs.{DefaultSeen, Judgement, GlobalEnv, Signature}
use Rattle.dslx_meaning.specs.Rules.TypeRules.{unless_unit}
use Rattle.dslx_meaning.specs.Rules.Mentions.{AsType, is_of_use}
use Rattle.dslx_meaning.specs.Rules.NameRules.{has_member}
use Rattle.dslx_core.specs.Typing.Typed.Complete.{EachArgumentDeclared, EachParametricKnown, IsComplete, IsFunctionKnown, IsStructKnown}
use Rattle.dslx_core.specs.Typing.Typed.Declared.{AllDeclared, Declarations, IsDeclared}
use Rattle.dslx_core.specs.Typing.Typed.Given.{GivesOf, OwnTypes}
use Rattle.dslx_core.specs.Typing.Typed.Kinds.{is_of}
use Rattle.dslx_core.specs.Typing.Typed.Numbers.{ParametricsMean, values_behind}
use Rattle.dslx_core.proofs.Lemmas.Typing.Typed.{bits_of_width, lies, none_some, one_type, same_some}
use Rattle.dslx_core.proofs.Lemmas.Typing.TypingRelations.{function_is, item_so_named}
use Rattle.dslx_core.specs.Typing.Complete.HasValue.{AreTyped}
use Rattle.dslx_core.specs.Typing.GlobalEnv.Filled.{constant_filler, filled, filler_struct, filler_type, member_filler, nothing_typed, refused, struct_filler, zero_bits}
use Rattle.xb_span.specs.declared.fault.Fault.{Fault}
use Rattle.dslx_core.specs.Typing.GlobalEnv.Passing.{PassingHaveValues}
use Rattle.dslx_core.proofs.OnTyping.OnGlobals.Declaring.{bits_declared, named_struct}

abbrev there : {A : Type 0} → Option A → Bool
there None = false
there (Some a) = true

pub struct_item : (o : Option Definition) (s : StructItem) → as_struct o ≡ Some s → o ≡ Some (d.Struct s)
struct_item (Some (d.Struct x)) s e = ap (λ y. Some (d.Struct y)) (same_some x s e)
struct_item (Some (d.Alias x)) s e = none_some s e
struct_item (Some (d.Enum x)) s e = none_some s e
struct_item (Some (d.Constant x)) s e = none_some s e
struct_item (Some (d.Function x)) s e = none_some s e
struct_item (Some (d.Proc x)) s e = none_some s e
struct_item None s e = none_some s e

-- ---- fillers

abbrev filler : ℕ → DslxType
filler w = ty.Bits false w

zero_of : (w : ℕ) → is_of (filler w) (zero_bits w) ≡ true
zero_of w = bits_of_width false (word w 0) w refl (lies (word w 0) (pow_pos w))

bits_given : (types : Declarations) (w : ℕ) → GivesOf types (filler w) (Some (zero_bits w))
bits_given types w = record { value = zero_bits w; is = refl; of = zero_of w; declared = bits_declared types false w }

own_bits_given : (types : Declarations) (w : ℕ) → GivesOf types (type_of_value (zero_bits w)) (Some (zero_bits w))
own_bits_given types w = subst (λ t. GivesOf types t (Some (zero_bits w))) (sym (one_type (filler w) (zero_bits w) (zero_of w))) (bits_given types w)

all_bits : (types : Declarations) (w : ℕ) (fs : List Field) → AllDeclared types (map (λ (f : Field). filler w) fs)
all_bits types w [] = tt
all_bits types w (f ∷ fs) = (bits_declared types false w, all_bits types w fs)

-- each place of a list of one type holds it
filler_at : (w : ℕ) (name : List ℕ) (fs : List Field) (k : ℕ) → index_in name (map name_of_field fs) ≡ Some k → slice_get (map (λ (f : Field). filler w) fs) k ≡ Some (filler w)
filler_at w name [] k e = none_some k e
filler_at w name (f ∷ fs) zero e = refl
filler_at w name (f ∷ fs) (suc k) e = by_name (bytes_eq name f.name.name) e (filler_at w name fs k)
  where
    by_rest : (o : Option ℕ) → index_in name (map name_of_field fs) ≡ o → (elim o as (λ x. Option ℕ) [ None ↦ None | Some j ↦ Some (suc j) ]) ≡ Some (suc k)
        → (index_in name (map name_of_field fs) ≡ Some k → slice_get (map (λ (f : Field). filler w) fs) k ≡ Some (filler w)) → slice_get (map (λ (f : Field). filler w) fs) k ≡ Some (filler w)
    by_rest None q r rest = none_some (suc k) r
    by_rest (Some j) q r rest = rest (q ∙ ap (λ n. Some (pred n)) (same_some (suc j) (suc k) r))

    by_name : (b : Bool) → (if b then Some 0 else (elim (index_in name (map name_of_field fs)) as (λ x. Option ℕ) [ None ↦ None | Some j ↦ Some (suc j) ])) ≡ Some (suc k)
        → (index_in name (map name_of_field fs) ≡ Some k → slice_get (map (λ (f : Field). filler w) fs) k ≡ Some (filler w)) → slice_get (map (λ (f : Field). filler w) fs) k ≡ Some (filler w)
    by_name true q rest = some_place (same_some 0 (suc k) q)
      where
        some_place : {X : Type 0} → 0 ≡ suc k → X
        some_place z = absurd (no_place z)
          where
            no_place : 0 ≡ suc k → ⊥
            no_place z = omega (arith, z)
    by_name false q rest = by_rest (index_in name (map name_of_field fs)) refl q rest

-- each of these names stands among them
abbrev AmongNames : List Field → List Field → Type 0
AmongNames all [] = Unit {0}
AmongNames all (f ∷ fs) = ((k : ℕ) × (index_in f.name.name (map name_of_field all) ≡ Some k)) × AmongNames all fs

place_more : (name : List ℕ) (g : Field) (fs : List Field) (k : ℕ) → index_in name (map name_of_field fs) ≡ Some k → (j : ℕ) × (index_in name (map name_of_field (g ∷ fs)) ≡ Some j)
place_more name g fs k e = by_name (bytes_eq name g.name.name) refl
  where
    by_name : (b : Bool) → bytes_eq name g.name.name ≡ b → (j : ℕ) × (index_in name (map name_of_field (g ∷ fs)) ≡ Some j)
    by_name true q = (0, λ i. if q i then Some 0 else (elim (index_in name (map name_of_field fs)) as (λ x. Option ℕ) [ None ↦ None | Some j ↦ Some (suc j) ]))
    by_name false q = (suc k, λ i. if q i then Some 0 else (elim (e i) as (λ x. Option ℕ) [ None ↦ None | Some j ↦ Some (suc j) ]))

more_names : (g : Field) (all fs : List Field) → AmongNames all fs → AmongNames (g ∷ all) fs
more_names g all [] h = tt
more_names g all (f ∷ fs) h = (place_more f.name.name g all h.0.0 h.0.1, more_names g all fs h.1)

each_named : (fs : List Field) → AmongNames fs fs
each_named [] = tt
each_named (f ∷ fs) = (
  (0, λ i. if (bytes_eq-Decides f.name.name f.name.name).1 refl i then Some 0 else (elim (index_in f.name.name (map name_of_field fs)) as (λ x. Option ℕ) [ None ↦ None | Some j ↦ Some (suc j) ])),
  more_names f fs fs (each_named fs),
)

own_types : (w : ℕ) (all fs : List Field) → AmongNames all fs → OwnTypes (map name_of_field all) (map (λ (f : Field). filler w) all) (map name_of_field fs) (map (λ (f : Field). filler w) fs)
own_types w all [] h = tt
own_types w all (f ∷ fs) h = (ap (λ o. and_then o (slice_get (map (λ (g : Field). filler w) all))) h.0.1 ∙ filler_at w f.name.name all h.0.0 h.0.1, own_types w all fs h.1)

-- ---- names that don't pass

module _ (w : ℕ) (P : List ℕ → Bool) (known : GlobalEnv) where
  abbrev F : GlobalEnv
  F = filled w P known

  abbrev types : Declarations
  types = F.items.type_named

  abbrev item_of : List ℕ → Option Definition
  item_of name = item_named name known.whole.items

  -- what is known of a name that passes, and what is filled in for another one
  passed : {X : Type 0} (name : List ℕ) (a b : X) → P name ≡ true → (if P name then a else b) ≡ a
  passed name a b e = λ i. if e i then a else b

  other : {X : Type 0} (name : List ℕ) (a b : X) → P name ≡ false → (if P name then a else b) ≡ b
  other name a b e = λ i. if e i then a else b

  struct_filled : (name : List ℕ) (s : StructItem) → P name ≡ false → item_of name ≡ Some (d.Struct s) → types s.name.name ≡ Some (filler_struct w s)
  struct_filled name s p q =
      let same = item_so_named known.whole.items name (d.Struct s) q in
      other s.name.name (known.items.type_named s.name.name) (filler_type w (item_of s.name.name)) (ap P same ∙ p)
      ∙ ap (filler_type w) (subst (λ n. item_of n ≡ Some (d.Struct s)) (sym same) q)

  filler_declared : (name : List ℕ) (t : DslxType) → P name ≡ false → (o : Option Definition) → item_of name ≡ o → filler_type w o ≡ Some t → IsDeclared types t
  filler_declared name t p (Some (d.Alias a)) q e = subst (IsDeclared types) (same_some (filler w) t e) (bits_declared types false w)
  filler_declared name t p (Some (d.Enum n)) q e = subst (IsDeclared types) (same_some (filler w) t e) (bits_declared types false w)
  filler_declared name t p (Some (d.Struct s)) q e =
      subst (IsDeclared types) (same_some (filler_struct w s) t e) (named_struct types s.name.name (map name_of_field s.fields) (map (λ (f : Field). filler w) s.fields) (struct_filled name s p q))
  filler_declared name t p (Some (d.Function f)) q e = none_some t e
  filler_declared name t p (Some (d.Proc x)) q e = none_some t e
  filler_declared name t p (Some (d.Constant c)) q e = none_some t e
  filler_declared name t p None q e = none_some t e

  abbrev struct_fields : DslxType-F DslxType → List DslxType
  struct_fields (DslxType-F.Struct name fields ts) = ts
  struct_fields _ = []

  fields_of : (own : List ℕ) (fields : List (List ℕ)) (ts : List DslxType) → struct_fields (out-DslxType (ty.Struct own fields ts)) ≡ ts
  fields_of own fields ts = ap struct_fields (views.outs-Struct own fields ts)

  abbrev is_bits_or_not : DslxType-F DslxType → Bool
  is_bits_or_not (DslxType-F.Bits s w) = true
  is_bits_or_not _ = false

  no_struct : {X : Type 0} (own : List ℕ) (fields : List (List ℕ)) (ts : List DslxType) → filler w ≡ ty.Struct own fields ts → X
  no_struct own fields ts e =
      absurd (true≢false (sym (ap is_bits_or_not (views.outs-Bits false w)) ∙ ap (λ t. is_bits_or_not (out-DslxType t)) e ∙ ap is_bits_or_not (views.outs-Struct own fields ts)))

  filler_parts : (own : List ℕ) (fields : List (List ℕ)) (ts : List DslxType) (o : Option Definition) → filler_type w o ≡ Some (ty.Struct own fields ts) → AllDeclared types ts
  filler_parts own fields ts (Some (d.Alias a)) e = no_struct own fields ts (same_some (filler w) (ty.Struct own fields ts) e)
  filler_parts own fields ts (Some (d.Enum n)) e = no_struct own fields ts (same_some (filler w) (ty.Struct own fields ts) e)
  filler_parts own fields ts (Some (d.Struct s)) e =
      let bits = map (λ (f : Field). filler w) s.fields in
      subst (AllDeclared types)
      (sym (fields_of s.name.name (map name_of_field s.fields) bits) ∙ ap (λ t. struct_fields (out-DslxType t)) (same_some (filler_struct w s) (ty.Struct own fields ts) e) ∙ fields_of own fields ts)
      (all_bits types w s.fields)
  filler_parts own fields ts (Some (d.Function f)) e = none_some (ty.Struct own fields ts) e
  filler_parts own fields ts (Some (d.Proc x)) e = none_some (ty.Struct own fields ts) e
  filler_parts own fields ts (Some (d.Constant c)) e = none_some (ty.Struct own fields ts) e
  filler_parts own fields ts None e = none_some (ty.Struct own fields ts) e

  -- a function that doesn't pass: nothing is known of it, and nothing is fine
  abbrev some_faults : List Fault → Bool
  some_faults [] = false
  some_faults (f ∷ fs) = true

  no_fault : {X : Type 0} → refused.faults ≡ [] → X
  no_fault k = absurd (true≢false (ap some_faults k))

  not_well_typed : {X : Type 0} (owner : List ℕ) → P owner ≡ false → (before : List (Option DslxValue)) → (F.parameter_in owner before).faults ≡ [] → X
  not_well_typed owner p before e = no_fault (sym (ap (λ (j : Judgement). j.faults) (other owner (known.parameter_in owner before) refused p)) ∙ e)

  abbrev nothing_seen : DefaultSeen
  nothing_seen = record { judgement = refused; value = None }

  default_not_well_typed : {X : Type 0} (owner : List ℕ) → P owner ≡ false → (before : List (Option DslxValue)) → (F.default_in owner before).judgement.faults ≡ [] → X
  default_not_well_typed owner p before e = no_fault (sym (ap (λ (d : DefaultSeen). d.judgement.faults) (other owner (known.default_in owner before) nothing_seen p)) ∙ e)

  no_type : (owner : List ℕ) → P owner ≡ false → (before : List (Option DslxValue)) → (F.parameter_in owner before).ty ≡ None
  no_type owner p before = ap (λ (j : Judgement). j.ty) (other owner (known.parameter_in owner before) refused p)

  no_declared : {X : Type 0} (owner : List ℕ) → P owner ≡ false → (before : List (Option DslxValue)) (u : DslxType) → parametric_type F owner (known_before before) ≡ Some u → X
  no_declared owner p before u e = none_some u (sym (ap unless_unit (no_type owner p before)) ∙ e)

  no_default : {X : Type 0} (owner : List ℕ) → P owner ≡ false → (before : List (Option DslxValue)) (v : DslxValue) → (F.default_in owner before).value ≡ Some v → X
  no_default owner p before v e = none_some v (sym (ap (λ (d : DefaultSeen). d.value) (other owner (known.default_in owner before) nothing_seen p)) ∙ e)

  mean_filled : (items : Meanings) (owner : List ℕ) → P owner ≡ false → (before : List (Option DslxValue)) (so_far : List Given) (ps : List Parametric) → ParametricsMean F items owner before so_far ps
  mean_filled items owner p before so_far [] = tt
  mean_filled items owner p before so_far (q ∷ ps) = (
    record { types = λ t e. none_some t (sym (no_type owner p before) ∙ e); defaults = λ x v e k. no_default owner p before v k },
    λ t v e g. no_declared owner p before t e,
  )

  parametrics_filled : (owner : List ℕ) → P owner ≡ false → (before : List (Option DslxValue)) (ps : List Parametric) → EachParametricKnown F owner before ps
  parametrics_filled owner p before [] = tt
  parametrics_filled owner p before (q ∷ ps) = (
    record {
      declared = λ t e. none_some t (sym (no_type owner p before) ∙ e);
      typed = λ well_typed. not_well_typed owner p before well_typed.faults;
      narrow = λ f t e. not_well_typed owner p before f;
      default = λ x e well_typed. default_not_well_typed owner p before well_typed.faults;
    },
    λ t v e g. no_declared owner p before t e,
  )

  arguments_filled : (fs : List Field) → EachArgumentDeclared types (map (λ (a : Field). None) fs) fs
  arguments_filled [] = tt
  arguments_filled (f ∷ fs) = ((λ t e. none_some t e), arguments_filled fs)

  function_filled : (name : List ℕ) (f : Function) → P name ≡ false → item_of name ≡ Some (d.Function f) → IsFunctionKnown F name f
  function_filled name f p q =
      let same = item_so_named known.whole.items name (d.Function f) q in
      let owner : P f.name.name ≡ false = ap P same ∙ p in
      let here : item_of f.name.name ≡ Some (d.Function f) = ap item_of same ∙ q in
      record {
        mean = mean_filled F.items f.name.name owner [] [] f.parametrics;
        parametrics = parametrics_filled f.name.name owner [] f.parametrics;
        arguments = λ parametric_args fit.
            let values = values_behind [] parametric_args in
            let nothing = other f.name.name (known.signature_in f.name.name values) (nothing_typed (item_of f.name.name)) owner ∙ ap nothing_typed here in
            subst (λ (x : Signature). EachArgumentDeclared types x.arguments f.arguments) (sym nothing) (arguments_filled f.arguments);
        calls = λ parametric_args fit sound. absurd (true≢false (sym sound ∙ ap (λ b. b && known.is_sound (record { name = f.name.name; parametric_args = parametric_args })) owner));
      }

  -- ---- all items

  module _ (h : PassingHaveValues w P known) where
    constant_there : (name : List ℕ) → is_constant_item (item_of name) ≡ true → (v : DslxValue) × (F.items.constant name ≡ Some v) × GivesOf types (type_of_value v) (Some v)
    constant_there name c = by_test (P name) refl
      where
        filled_in : P name ≡ false → (o : Option Definition) → item_of name ≡ o → is_constant_item o ≡ true → (v : DslxValue) × (F.items.constant name ≡ Some v) × GivesOf types (type_of_value v) (Some v)
        filled_in p (Some (d.Constant x)) q e = (zero_bits w, other name (known.items.constant name) (constant_filler w (item_of name)) p ∙ ap (constant_filler w) q, own_bits_given types w)
        filled_in p (Some (d.Alias x)) q e = absurd (true≢false (sym e))
        filled_in p (Some (d.Struct x)) q e = absurd (true≢false (sym e))
        filled_in p (Some (d.Enum x)) q e = absurd (true≢false (sym e))
        filled_in p (Some (d.Function x)) q e = absurd (true≢false (sym e))
        filled_in p (Some (d.Proc x)) q e = absurd (true≢false (sym e))
        filled_in p None q e = absurd (true≢false (sym e))

        by_test : (b : Bool) → P name ≡ b → (v : DslxValue) × (F.items.constant name ≡ Some v) × GivesOf types (type_of_value v) (Some v)
        by_test true p = let k = h.constants name p c in (k.0, passed name (known.items.constant name) (constant_filler w (item_of name)) p ∙ k.1, k.2)
        by_test false p = filled_in p (item_of name) refl c

    no_constant : (name : List ℕ) → is_constant_item (item_of name) ≡ false → F.items.constant name ≡ None
    no_constant name c = by_test (P name) refl
      where
        filled_in : (o : Option Definition) → is_constant_item o ≡ false → constant_filler w o ≡ None
        filled_in (Some (d.Constant x)) e = absurd (true≢false e)
        filled_in (Some (d.Alias x)) e = refl
        filled_in (Some (d.Struct x)) e = refl
        filled_in (Some (d.Enum x)) e = refl
        filled_in (Some (d.Function x)) e = refl
        filled_in (Some (d.Proc x)) e = refl
        filled_in None e = refl

        by_test : (b : Bool) → P name ≡ b → F.items.constant name ≡ None
        by_test true p = passed name (known.items.constant name) (constant_filler w (item_of name)) p ∙ h.others name c
        by_test false p = other name (known.items.constant name) (constant_filler w (item_of name)) p ∙ filled_in (item_of name) c

    type_there : (name : List ℕ) → is_of_use AsType (item_of name) ≡ true → (t : DslxType) × (types name ≡ Some t)
    type_there name u = by_test (P name) refl
      where
        filled_in : P name ≡ false → (o : Option Definition) → item_of name ≡ o → is_of_use AsType o ≡ true → (t : DslxType) × (types name ≡ Some t)
        filled_in p (Some (d.Alias x)) q e = (filler w, other name (known.items.type_named name) (filler_type w (item_of name)) p ∙ ap (filler_type w) q)
        filled_in p (Some (d.Struct x)) q e = (filler_struct w x, other name (known.items.type_named name) (filler_type w (item_of name)) p ∙ ap (filler_type w) q)
        filled_in p (Some (d.Enum x)) q e = (filler w, other name (known.items.type_named name) (filler_type w (item_of name)) p ∙ ap (filler_type w) q)
        filled_in p (Some (d.Constant x)) q e = absurd (true≢false (sym e))
        filled_in p (Some (d.Function x)) q e = absurd (true≢false (sym e))
        filled_in p (Some (d.Proc x)) q e = absurd (true≢false (sym e))
        filled_in p None q e = absurd (true≢false (sym e))

        by_test : (b : Bool) → P name ≡ b → (t : DslxType) × (types name ≡ Some t)
        by_test true p = let k = h.types name p u in (k.0, passed name (known.items.type_named name) (filler_type w (item_of name)) p ∙ k.1)
        by_test false p = filled_in p (item_of name) refl u

    type_declared : (name : List ℕ) (t : DslxType) → types name ≡ Some t → IsDeclared types t
    type_declared name t e = by_test (P name) refl
      where
        by_test : (b : Bool) → P name ≡ b → IsDeclared types t
        by_test true p = h.declared name t p (sym (passed name (known.items.type_named name) (filler_type w (item_of name)) p) ∙ e)
        by_test false p = filler_declared name t p (item_of name) refl (sym (other name (known.items.type_named name) (filler_type w (item_of name)) p) ∙ e)

    type_parts : (name own : List ℕ) (fields : List (List ℕ)) (ts : List DslxType) → types name ≡ Some (ty.Struct own fields ts) → AllDeclared types ts
    type_parts name own fields ts e = by_test (P name) refl
      where
        by_test : (b : Bool) → P name ≡ b → AllDeclared types ts
        by_test true p = h.parts name own fields ts p (sym (passed name (known.items.type_named name) (filler_type w (item_of name)) p) ∙ e)
        by_test false p = filler_parts own fields ts (item_of name) (sym (other name (known.items.type_named name) (filler_type w (item_of name)) p) ∙ e)

    struct_there : (name : List ℕ) (s : StructItem) → as_struct (item_of name) ≡ Some s → IsStructKnown types s (F.items.struct_named name)
    struct_there name s e = by_test (P name) refl
      where
        by_test : (b : Bool) → P name ≡ b → IsStructKnown types s (F.items.struct_named name)
        by_test true p = subst (IsStructKnown types s) (sym (passed name (known.items.struct_named name) (struct_filler w (item_of name)) p)) (h.structs name s p e)
        by_test false p =
            let q = struct_item (item_of name) s e in
            record {
              own = s.name.name;
              names = map name_of_field s.fields;
              fields = map (λ (f : Field). filler w) s.fields;
              is = other name (known.items.struct_named name) (struct_filler w (item_of name)) p ∙ ap (struct_filler w) q;
              written = refl;
              each = own_types w s.fields s.fields (each_named s.fields);
              declared = named_struct types s.name.name (map name_of_field s.fields) (map (λ (f : Field). filler w) s.fields) (struct_filled name s p q);
            }

    function_there : (name : List ℕ) (f : Function) → as_function (item_of name) ≡ Some f → IsFunctionKnown F name f
    function_there name f e = by_test (P name) refl
      where
        by_test : (b : Bool) → P name ≡ b → IsFunctionKnown F name f
        by_test true p = h.functions name f p e
        by_test false p = function_filled name f p (function_is (item_of name) f e)

    pub filled_complete : IsComplete F
    filled_complete = record {
      kinds = h.kinds;
      constants = λ name c. let k = constant_there name (sym (h.kinds name) ∙ c) in (k.0, k.1);
      types = type_there;
      declared = type_declared;
      parts = record { fields = type_parts };
      structs = struct_there;
      functions = function_there;
    }

    member_there : (name member : List ℕ) (e : Enum) (t : DslxType) → as_enum (item_of name) ≡ Some e → has_member e member ≡ true → types name ≡ Some t → GivesOf types t (F.items.member name member)
    member_there name member e t q m k = by_test (P name) refl
      where
        filled_in : P name ≡ false → (o : Option Definition) → item_of name ≡ o → as_enum o ≡ Some e → GivesOf types t (F.items.member name member)
        filled_in p (Some (d.Enum x)) r z =
            subst (GivesOf types t) (sym (other name (known.items.member name member) (member_filler w (item_of name)) p ∙ ap (member_filler w) r))
            (subst (λ u. GivesOf types u (Some (zero_bits w))) (same_some (filler w) t (sym (other name (known.items.type_named name) (filler_type w (item_of name)) p ∙ ap (filler_type w) r) ∙ k)) (bits_given types w))
        filled_in p (Some (d.Struct x)) r z = none_some e z
        filled_in p (Some (d.Alias x)) r z = none_some e z
        filled_in p (Some (d.Constant x)) r z = none_some e z
        filled_in p (Some (d.Function x)) r z = none_some e z
        filled_in p (Some (d.Proc x)) r z = none_some e z
        filled_in p None r z = none_some e z

        by_test : (b : Bool) → P name ≡ b → GivesOf types t (F.items.member name member)
        by_test true p =
            subst (GivesOf types t) (sym (passed name (known.items.member name member) (member_filler w (item_of name)) p))
            (h.members name member e t p q m (sym (passed name (known.items.type_named name) (filler_type w (item_of name)) p) ∙ k))
        by_test false p = filled_in p (item_of name) refl q

    pub filled_typed : AreTyped F
    filled_typed = record {
      constants = λ name v e. constant_typed name v e (is_constant_item (item_of name)) refl;
      members = member_there;
    }
      where
        constant_typed : (name : List ℕ) (v : DslxValue) → F.items.constant name ≡ Some v → (b : Bool) → is_constant_item (item_of name) ≡ b → GivesOf types (type_of_value v) (Some v)
        constant_typed name v e true c = let k = constant_there name c in subst (λ u. GivesOf types (type_of_value u) (Some u)) (same_some k.0 v (sym k.1 ∙ e)) k.2
        constant_typed name v e false c = none_some v (sym (no_constant name c) ∙ e)
