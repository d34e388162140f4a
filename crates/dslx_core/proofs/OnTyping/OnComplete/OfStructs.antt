-- Structs with whose text nothing is wrong.
use Rattle.std.proofs.Common.{◌≡◌, ◌++◌, ◌||◌, ℕ, suc, Bool, true, false, if◌then◌else◌, List, [], ◌∷◌, map, Option, Some, None, refl, ap, ◌∙◌}
use mathlib.Core.Bool.{true≢false}
use Rattle.std.specs.Prelude.{slice_get}
use Rattle.std.specs.Str.{bytes_eq}
use Rattle.std.specs.List.{list_all}
use Rattle.std.proofs.lemmas.Slice.Eq.{bytes_eq-Decides}
use Rattle.dslx_tree.specs.declared.item.Field.{Field}
use Rattle.dslx_tree.specs.declared.item.Struct.{Struct}
use Rattle.dslx_meaning.specs.Callees.{is_own_name}
use Rattle.dslx_meaning.specs.Environment.{Env}
use Rattle.dslx_meaning.specs.Items.{name_of_field}
use Rattle.dslx_meaning.specs.Lists.{all_some, and_then, beside, is_in, index_in}
use Rattle.dslx_meaning.specs.Meaning.{written_type}
use Rattle.dslx_meaning.specs.declared.ty.DslxType.{DslxType}
use Rattle.dslx_meaning.specs.declared.ty.DslxType as ty
use Rattle.dslx_meaning.specs.Rules.ConstantRules.{is_empty}
use Rattle.dslx_meaning.specs.Rules.ItemRules.{fields_found, fields_types, item_type_env, typing_of_inner, typing_of_type, struct_seen}
use Rattle.dslx_meaning.specs.Rules.TypeEnvs.{GlobalEnv, TypeEnv, breaks_if, type_limits, unless_broken}
use Rattle.dslx_meaning.specs.Rules.NameRules.{listed_name}
use Rattle.dslx_meaning.specs.Rules.NodeRules.{type_pair}
use Rattle.dslx_meaning.specs.Rules.TypeRules.{span_of_type, unit_faults}
use Rattle.dslx_core.specs.Typing.Typed.Complete.{IsComplete}
use Rattle.dslx_core.specs.Typing.Typed.Declared.{AllDeclared}
use Rattle.dslx_core.specs.Typing.Typed.Given.{OwnTypes}
use Rattle.dslx_core.specs.Typing.Typed.WellTyped.{IsWellTypedEnv, types_at}
use Rattle.dslx_core.proofs.Lemmas.Typing.Typed.{all_are, or_false}
use Rattle.dslx_core.proofs.Lemmas.Typing.Sound.{all_in, none_in, not_broken, type_has_den}
use Rattle.dslx_core.specs.Typing.Complete.HasValue.{AreTyped, IsWellTypedFound, StructHasType}
use Rattle.dslx_core.proofs.OnTyping.OnComplete.Scopes.{item_env, item_typed, none_own}

-- ---- names that stand once

abbrev place_behind : Bool → Option ℕ → Option ℕ
place_behind true o = Some 0
place_behind false None = None
place_behind false (Some k) = Some (suc k)

beside_at : {A : Type 0} (a : A) (as' : List A) (b : Bool) (o : Option ℕ) → and_then (place_behind b o) (λ k. slice_get (a ∷ as') k) ≡ (if b then Some a else and_then o (λ k. slice_get as' k))
beside_at a as' true o = refl
beside_at a as' false None = refl
beside_at a as' false (Some k) = refl

place_is : (n m : List ℕ) (ns : List (List ℕ)) → index_in n (m ∷ ns) ≡ place_behind (bytes_eq n m) (index_in n ns)
place_is n m ns = by_place (bytes_eq n m) (index_in n ns)
  where
    next : Option ℕ → Option ℕ
    next None = None
    next (Some k) = Some (suc k)

    by_place : (b : Bool) (o : Option ℕ) → (if b then Some 0 else next o) ≡ place_behind b o
    by_place true o = refl
    by_place false None = refl
    by_place false (Some k) = refl

beside_is : {A : Type 0} (n m : List ℕ) (ns : List (List ℕ)) (a : A) (as' : List A) → beside n (m ∷ ns) (a ∷ as') ≡ (if bytes_eq n m then Some a else beside n ns as')
beside_is n m ns a as' = ap (λ o. and_then o (λ k. slice_get (a ∷ as') k)) (place_is n m ns) ∙ beside_at a as' (bytes_eq n m) (index_in n ns)

not_in : (n m : List ℕ) (ns : List (List ℕ)) → is_in n (m ∷ ns) ≡ false → (bytes_eq n m ≡ false) × (is_in n ns ≡ false)
not_in n m ns e = by_name (bytes_eq n m) e
  where
    by_name : (b : Bool) → (if b then true else is_in n ns) ≡ false → (b ≡ false) × (is_in n ns ≡ false)
    by_name true q = absurd (true≢false q)
    by_name false q = (refl, q)

-- names that aren't before have beside them what they have in the rest
abbrev FoundBehind : List (List ℕ) → List (List ℕ) → List DslxType → List (List ℕ) → List DslxType → Type 0
FoundBehind before names types ns ts = (n : List ℕ) → is_in n before ≡ false → beside n names types ≡ beside n ns ts

one_further : (before names : List (List ℕ)) (types : List DslxType) (m : List ℕ) (ns : List (List ℕ)) (t : DslxType) (ts : List DslxType) → FoundBehind before names types (m ∷ ns) (t ∷ ts)
    → FoundBehind (m ∷ before) names types ns ts
one_further before names types m ns t ts h n e =
    let q = not_in n m before e in
    h n q.1 ∙ beside_is n m ns t ts ∙ ap (λ b. if b then Some t else beside n ns ts) q.0

itself_found : (before names : List (List ℕ)) (types : List DslxType) (m : List ℕ) (ns : List (List ℕ)) (t : DslxType) (ts : List DslxType) → FoundBehind before names types (m ∷ ns) (t ∷ ts)
    → is_in m before ≡ false → beside m names types ≡ Some t
itself_found before names types m ns t ts h e = h m e ∙ beside_is m m ns t ts ∙ ap (λ b. if b then Some t else beside m ns ts) ((bytes_eq-Decides m m).1 refl)

-- ---- fields

-- the types of fields with which nothing is wrong
record FieldsHaveValues (context : TypeEnv) (env : Env) (before : List (List ℕ)) (fs : List Field) : Type 0 where
  types : List DslxType
  are : map (λ (f : Field). (typing_of_inner context f.ty).ty) fs ≡ map Some types
  declared : AllDeclared (types_at context) types
  means : map (λ (f : Field). written_type f.ty env) fs ≡ map Some types
  own : (names : List (List ℕ)) (all : List DslxType) → FoundBehind before names all (map name_of_field fs) types → OwnTypes names all (map name_of_field fs) types

fields_have_values : (context : TypeEnv) (env : Env) → IsWellTypedEnv context env → (before : List (List ℕ)) (fs : List Field) → (fields_found context before fs).faults ≡ [] → list_all context.known.is_sound (fields_found context before fs).reached ≡ true
    → FieldsHaveValues context env before fs
fields_have_values context env h before [] f r = record { types = []; are = refl; declared = tt; means = refl; own = λ names all q. tt }
fields_have_values context env h before (g ∷ fs) f r =
    let listed = listed_name before g.name in
    let j = typing_of_inner context g.ty in
    let written = typing_of_type context g.ty in
    let rest = fields_found context (g.name.name ∷ before) fs in
    let a = none_in listed (j.faults ++ rest.faults) f in
    let b = none_in j.faults rest.faults a.1 in
    let s = all_in context.known.is_sound j.reached rest.reached r in
    let c = none_in written.faults (unit_faults (span_of_type (type_pair g.ty)) written.ty) b.0 in
    let k = (type_has_den g.ty).known context env h (record { faults = c.0; reached = s.0 }) in
    let m = (type_has_den g.ty).means context env h k.0 k.1 in
    let fresh = or_false (is_own_name g.name.name) (is_in g.name.name before) (not_broken (is_own_name g.name.name || is_in g.name.name before) 2 g.name.span a.0) in
    let more = fields_have_values context env h (g.name.name ∷ before) fs b.1 s.1 in
    record {
      types = k.0 ∷ more.types;
      are = λ i. k.1 i ∷ more.are i;
      declared = (m.1, more.declared);
      means = λ i. m.0 i ∷ more.means i;
      own = λ names all q. (
        itself_found before names all g.name.name (map name_of_field fs) k.0 more.types q fresh.1,
        more.own names all (one_further before names all g.name.name (map name_of_field fs) k.0 more.types q),
      );
    }

pub struct_has_type : (known : GlobalEnv) → IsComplete known → AreTyped known → (s : Struct) → IsWellTypedFound known (struct_seen known s).found → StructHasType known s
struct_has_type known complete typed s well_typed =
    let context = item_type_env known s.name.name [] in
    let found = fields_found context [] s.fields in
    let empty = breaks_if (is_empty s.fields) 31 s.span in
    let made : Option (List DslxType) → Option DslxType = λ o. and_then o (λ ts. Some (ty.Struct s.name.name (map name_of_field s.fields) ts)) in
    let f = none_in (found.faults ++ empty) (type_limits s.span.to (unless_broken (found.faults ++ empty) (made (fields_types context s.fields)))) well_typed.faults in
    let g = none_in found.faults empty f.0 in
    let k = fields_have_values context (item_env known []) (item_typed known complete typed s.name.name [] (none_own known)) [] s.fields g.0 well_typed.reached in
    record {
      fields = k.types;
      is = (λ i. unless_broken (f.0 i) (made (all_some (k.are i)))) ∙ ap made (all_are k.types);
      each = k.own (map name_of_field s.fields) k.types (λ n e. refl);
      declared = k.declared;
      means = (λ i. made (all_some (k.means i))) ∙ ap made (all_are k.types);
    }
