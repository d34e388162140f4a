-- What struct values give.
use Rattle.std.proofs.Common.{◌≡◌, ◌&&◌, ◌||◌, ◌++◌, ℕ, Bool, true, false, not, if◌then◌else◌, List, [], ◌∷◌, map, Option, Some, None, refl, sym, ap, subst, ◌∙◌}
use mathlib.Core.Bool.{true≢false}
use Rattle.std.specs.Str.{bytes_eq}
use Rattle.std.specs.List.{list_any}
use Rattle.std.proofs.lemmas.Slice.Eq.{bytes_eq-Decides}
use Rattle.xb_span.specs.declared.span.Span.{Span}
use Rattle.dslx_tree.specs.declared.ident.Ident.{Ident}
use Rattle.dslx_tree.specs.declared.item.Struct.{Struct}
use Rattle.dslx_meaning.specs.Lists.{and_then, beside, is_in}
use Rattle.dslx_meaning.specs.Types.{same_type}
use Rattle.dslx_meaning.specs.Values.{fields_step}
use Rattle.dslx_meaning.specs.Environment.{Env}
use Rattle.dslx_meaning.specs.Meaning.{ValueDen, FieldDen, field_written, field_from, field_given, struct_at}
use Rattle.dslx_meaning.specs.Items.{name_of_field}
use Rattle.dslx_meaning.specs.declared.ty.DslxType.{DslxType, out-DslxType}
use Rattle.dslx_meaning.specs.declared.ty.DslxType as ty
use Rattle.dslx_meaning.specs.declared.ty.DslxType.TheViews as type_views
use Rattle.dslx_meaning.specs.declared.value.DslxValue.{DslxValue}
use Rattle.dslx_meaning.specs.declared.value.DslxValue as value
use Rattle.dslx_meaning.specs.declared.value.DslxValue.TheViews as views
use Rattle.dslx_meaning.specs.Rules.TypeEnvs.{TypeEnv, Judgement, ExprPair, breaks_if, has_broken, span_of, alone, no_token, types_of, faults_of_all}
use Rattle.dslx_meaning.specs.Rules.Typings.{FieldSeen}
use Rattle.dslx_meaning.specs.Rules.NameRules.{name_typing}
use Rattle.dslx_meaning.specs.Rules.PatternRules.{is_there}
use Rattle.dslx_meaning.specs.Rules.AggregateRules.{struct_field_type, field_type, field_typing, wanted_faults, unknown_fields, written_fields, has_twice, lacks_one, others_typing, struct_with, when_all}
use Rattle.dslx_core.specs.Typing.Typed.Kinds.{is_of, same_names, struct_of}
use Rattle.dslx_core.specs.Typing.Typed.Declared.{Declarations, IsDeclared, AllDeclared, DeclaresParts}
use Rattle.dslx_core.specs.Typing.Typed.Given.{GivesOf, GivesItsType, OwnTypes, FieldsMean, OthersGive}
use Rattle.dslx_core.proofs.OnTyping.OnTyped.TypingRelations.{none_some, same_some, or_false, not_false, unbroken_parts, three_unbroken, rule_holds, test_holds, settled_type}
use Rattle.dslx_core.proofs.OnTyping.OnTyped.OfTypes.{of_struct, is_struct_of}
use Rattle.dslx_core.proofs.OnTyping.OnTyped.OneName.{list_parts, one_of_text, fields_declared}
use Rattle.dslx_core.proofs.Lemmas.Typing.Typed.OfLists.{AllGiven, when_all_type, one_more_given, none_given}
use Rattle.dslx_core.proofs.OnTyping.OnTyped.OfParts.{beside_given}

-- ---- the type of a field

field_type_is : (own : List ℕ) (names : List (List ℕ)) (ts : List DslxType) (n : List ℕ) → field_type (Some (ty.Struct own names ts)) n ≡ beside n names ts
field_type_is own names ts n = ap (λ l. struct_field_type l n) (type_views.outs-Struct own names ts)

-- a field, by whether an expression is written
abbrev field_by : TypeEnv → Option DslxType → FieldSeen → Option ExprPair → Judgement
field_by context struct f None = let j = no_token f.name.span (name_typing f.name.span context f.name.name) in record j { faults = j.faults ++ wanted_faults f.name.span (field_type struct f.name.name) j.ty }
field_by context struct f (Some e) = let j = alone context e in record j { faults = j.faults ++ wanted_faults (span_of e) (field_type struct f.name.name) j.ty }

field_is : (context : TypeEnv) (struct : Option DslxType) (f : FieldSeen) → field_typing context struct f ≡ field_by context struct f f.value
field_is context struct f = refl

-- the value of a field that breaks no rule is of the field's type
field_fits : (context : TypeEnv) (struct : Option DslxType) (f : FieldSeen) (u t : DslxType) → field_type struct f.name.name ≡ Some u → (field_typing context struct f).ty ≡ Some t
    → has_broken (field_typing context struct f).faults ≡ false → same_type u t ≡ true
field_fits context struct f u t wanted own e = by_value f.value own e
  where
    fits : (span : Span) (j : Judgement) → j.ty ≡ Some t → has_broken (j.faults ++ wanted_faults span (field_type struct f.name.name) j.ty) ≡ false → same_type u t ≡ true
    fits span j q h =
        test_holds (same_type u t) 9 span ((λ i. has_broken (wanted_faults span (sym wanted i) (sym q i))) ∙ (unbroken_parts j.faults (wanted_faults span (field_type struct f.name.name) j.ty) h).1)

    by_value : (o : Option ExprPair) → (field_by context struct f o).ty ≡ Some t → has_broken (field_by context struct f o).faults ≡ false → same_type u t ≡ true
    by_value None q h = fits f.name.span (no_token f.name.span (name_typing f.name.span context f.name.name)) q h
    by_value (Some e) q h = fits (span_of e) (alone context e) q h

-- ---- fields that are written

written_given : (types : Declarations) (context : TypeEnv) (env : Env) (own : List ℕ) (names : List (List ℕ)) (ts : List DslxType) (n : List ℕ) (u : DslxType) → beside n names ts ≡ Some u → IsDeclared types u
    → (fs : List FieldSeen) (ms : List FieldDen) (us : List DslxType) (value : ValueDen) → FieldsMean types context env (Some (ty.Struct own names ts)) fs ms
    → types_of (map (field_typing context (Some (ty.Struct own names ts))) fs) ≡ map Some us → has_broken (faults_of_all (map (field_typing context (Some (ty.Struct own names ts))) fs)) ≡ false
    → field_written n ms ≡ Some value → GivesOf types u (value env)
written_given types context env own names ts n u b d [] [] us value h e f w = none_some value w
written_given types context env own names ts n u b d [] (m ∷ ms) us value h e f w = absurd h
written_given types context env own names ts n u b d (x ∷ fs) [] us value h e f w = absurd h
written_given types context env own names ts n u b d (x ∷ fs) (m ∷ ms) [] value h e f w = absurd (true≢false (ap some e))
  where
    some : List (Option DslxType) → Bool
    some [] = false
    some (y ∷ ys) = true
written_given types context env own names ts n u b d (x ∷ fs) (m ∷ ms) (t ∷ us) value h e f w =
    let struct = Some (ty.Struct own names ts) in
    let q = list_parts (field_typing context struct x).ty (Some t) (types_of (map (field_typing context struct) fs)) (map Some us) e in
    let r = unbroken_parts (field_typing context struct x).faults (faults_of_all (map (field_typing context struct) fs)) f in
    by_name (bytes_eq n m.name) refl (h.1 t q.0) q.0 r.0 (written_given types context env own names ts n u b d fs ms us value h.2 q.1 r.1) w
  where
    by_name : (c : Bool) → bytes_eq n m.name ≡ c → GivesOf types t (m.value env) → (field_typing context (Some (ty.Struct own names ts)) x).ty ≡ Some t
        → has_broken (field_typing context (Some (ty.Struct own names ts)) x).faults ≡ false → (field_written n ms ≡ Some value → GivesOf types u (value env))
        → (if (if c then true else false) then Some m.value else field_written n ms) ≡ Some value → GivesOf types u (value env)
    by_name true k g typed faults rest is =
        let name = h.0 ∙ sym ((bytes_eq-Decides n m.name).0 k) in
        let same = one_of_text types u t (field_fits context (Some (ty.Struct own names ts)) x u t (field_type_is own names ts x.name.name ∙ ap (λ z. beside z names ts) name ∙ b) typed faults) d g.declared in
        subst (λ z. GivesOf types u (z env)) (same_some m.value value is) (subst (λ z. GivesOf types z (m.value env)) (sym same) g)
    by_name false k g typed faults rest is = rest is

-- a name among those that are written has a value
written_there : (types : Declarations) (context : TypeEnv) (env : Env) (struct : Option DslxType) (n : List ℕ) (fs : List FieldSeen) (ms : List FieldDen) → FieldsMean types context env struct fs ms
    → is_in n (written_fields fs) ≡ true → field_written n ms ≡ None → ⊥
written_there types context env struct n [] [] h e w = true≢false (sym e)
written_there types context env struct n [] (m ∷ ms) h e w = h
written_there types context env struct n (f ∷ fs) [] h e w = h
written_there types context env struct n (f ∷ fs) (m ∷ ms) h e w = by_name (bytes_eq n m.name) (sym (ap (λ z. if bytes_eq n z then true else is_in n (written_fields fs)) h.0) ∙ e) w (written_there types context env struct n fs ms h.2)
  where
    by_name : (c : Bool) → (if c then true else is_in n (written_fields fs)) ≡ true → (if (if c then true else false) then Some m.value else field_written n ms) ≡ None
        → (is_in n (written_fields fs) ≡ true → field_written n ms ≡ None → ⊥) → ⊥
    by_name true k is rest = none_some m.value (sym is)
    by_name false k is rest = rest k is

-- ---- all fields

-- each declared name is written, where nothing gives the others
abbrev AllWritten : List FieldSeen → List (List ℕ) → Type 0
AllWritten fs [] = Unit {0}
AllWritten fs (n ∷ ns) = (is_in n (written_fields fs) ≡ true) × AllWritten fs ns

none_lack : (fs : List FieldSeen) (ns : List (List ℕ)) → list_any (λ name. not (is_in name (written_fields fs))) ns ≡ false → AllWritten fs ns
none_lack fs [] e = tt
none_lack fs (n ∷ ns) e = let q = or_false (not (is_in n (written_fields fs))) (list_any (λ name. not (is_in name (written_fields fs))) ns) e in (not_false (is_in n (written_fields fs)) q.0, none_lack fs ns q.1)

-- it holds of each name
abbrev EachIs : (List ℕ → Type 0) → List (List ℕ) → Type 0
EachIs P [] = Unit {0}
EachIs P (n ∷ ns) = P n × EachIs P ns

-- the field of a name is given
abbrev FieldGiven : Declarations → Env → List FieldDen → Option DslxValue → List ℕ → DslxType → Type 0
FieldGiven types env ms r n u = GivesOf types u (field_given env r n (field_written n ms))

all_fields : (types : Declarations) (env : Env) (ms : List FieldDen) (r : Option DslxValue) (names : List (List ℕ)) (ts : List DslxType) (P : List ℕ → Type 0)
    → ((n : List ℕ) (u : DslxType) → beside n names ts ≡ Some u → IsDeclared types u → P n → FieldGiven types env ms r n u)
    → (ns : List (List ℕ)) (us : List DslxType) → OwnTypes names ts ns us → AllDeclared types us → EachIs P ns → AllGiven types us (map (λ field. field_given env r field (field_written field ms)) ns)
all_fields types env ms r names ts P gives [] [] own d p = none_given types
all_fields types env ms r names ts P gives [] (u ∷ us) own d p = absurd own
all_fields types env ms r names ts P gives (n ∷ ns) [] own d p = absurd own
all_fields types env ms r names ts P gives (n ∷ ns) (u ∷ us) own d p =
    one_more_given types u us (field_given env r n (field_written n ms)) (map (λ field. field_given env r field (field_written field ms)) ns) (gives n u own.0 d.0 p.0)
    (all_fields types env ms r names ts P gives ns us own.1 d.1 p.1)

-- ---- the struct

one_itself : (ns : List (List ℕ)) → same_names ns ns ≡ true
one_itself [] = refl
one_itself (n ∷ ns) = λ i. (bytes_eq-Decides n n).1 refl i && one_itself ns i

pub struct_gives : (types : Declarations) → DeclaresParts types → (span : Span) (context : TypeEnv) (env : Env) (name : Ident) (fields : List FieldSeen) (ms : List FieldDen) (others : Option ExprPair) (r : Option DslxValue)
    → (declared : Struct) (own : List ℕ) (names : List (List ℕ)) (ts : List DslxType) → map name_of_field declared.fields ≡ names → OwnTypes names ts names ts → IsDeclared types (ty.Struct own names ts)
    → FieldsMean types context env (Some (ty.Struct own names ts)) fields ms → OthersGive types context others r
    → GivesItsType types (struct_with span context name fields others (Some (ty.Struct own names ts)) declared) (struct_at env ms r (out-DslxType (ty.Struct own names ts)))
struct_gives types parts span context env name fields ms others r declared own names ts named once is_text means rest t e =
    let struct = Some (ty.Struct own names ts) in
    let js = map (field_typing context struct) fields in
    let others_seen = others_typing context struct others in
    let wrong = has_twice (written_fields fields) || lacks_one (map name_of_field declared.fields) (written_fields fields) (is_there others) in
    let cyclic = breaks_if (context.known.is_cyclic context.owner name.name) 3 name.span in
    let unknown = unknown_fields (map name_of_field declared.fields) fields in
    let s = settled_type (when_all (others_seen.ty ∷ types_of js) struct) ((((cyclic ++ faults_of_all js) ++ others_seen.faults) ++ unknown) ++ breaks_if wrong 22 span) t e in
    let f = three_unbroken ((cyclic ++ faults_of_all js) ++ others_seen.faults) unknown (breaks_if wrong 22 span) s.0 in
    let g = three_unbroken cyclic (faults_of_all js) others_seen.faults f.0 in
    let q = when_all_type (others_seen.ty ∷ types_of js) struct t s.1 in
    let lacks = (or_false (has_twice (written_fields fields)) (lacks_one (map name_of_field declared.fields) (written_fields fields) (is_there others)) (rule_holds wrong 22 span f.2)).1 in
    by_types q.0 q.1 (same_some (ty.Struct own names ts) t q.2) g.1 g.2 (ap (λ ns. lacks_one ns (written_fields fields) (is_there others)) (sym named) ∙ lacks)
  where
    whole : DslxType
    whole = ty.Struct own names ts

    made : AllGiven types ts (map (λ field. field_given env r field (field_written field ms)) names) → whole ≡ t → GivesOf types t (struct_at env ms r (out-DslxType whole))
    made all same =
        let v = value.Struct own names all.values in
        record {
          value = v;
          is = ap (struct_at env ms r) (type_views.outs-Struct own names ts) ∙ ap (λ o. and_then o (λ vs. Some (value.Struct own names vs))) all.are;
          of = ap (λ u. is_of u v) (sym same) ∙ of_struct own names ts v ∙ ap (struct_of own names (map is_of ts)) (views.outs-Struct own names all.values)
              ∙ (λ i. ((bytes_eq-Decides own own).1 refl i && one_itself names i) && all.of i);
          declared = subst (IsDeclared types) same is_text;
        }

    -- a field that is written
    of_written : (us : List DslxType) → types_of (map (field_typing context (Some whole)) fields) ≡ map Some us → has_broken (faults_of_all (map (field_typing context (Some whole)) fields)) ≡ false
        → (n : List ℕ) (u : DslxType) → beside n names ts ≡ Some u → IsDeclared types u → (field_written n ms ≡ None → FieldGiven types env ms r n u) → FieldGiven types env ms r n u
    of_written us typed faults n u b d other = by_field (field_written n ms) refl
      where
        by_field : (o : Option ValueDen) → field_written n ms ≡ o → FieldGiven types env ms r n u
        by_field None q = other q
        by_field (Some w) q = subst (λ o. GivesOf types u (field_given env r n o)) (sym q) (written_given types context env own names ts n u b d fields ms us w means typed faults q)

    by_others : (o : Option ExprPair) → OthersGive types context o r → (us : List DslxType) → (types_of (map (field_typing context (Some whole)) fields)) ≡ map Some us
        → (o' : DslxType) → (others_typing context (Some whole) o).ty ≡ Some o' → has_broken (faults_of_all (map (field_typing context (Some whole)) fields)) ≡ false
        → has_broken (others_typing context (Some whole) o).faults ≡ false → lacks_one names (written_fields fields) (is_there o) ≡ false
        → AllGiven types ts (map (λ field. field_given env r field (field_written field ms)) names)
    by_others None gives us typed o' other faults more lacks =
        all_fields types env ms r names ts (λ n. is_in n (written_fields fields) ≡ true)
        (λ n u b d w. of_written us typed faults n u b d (λ no. absurd (written_there types context env (Some whole) n fields ms means w no)))
        names ts once (fields_declared types parts own names ts is_text) (each_written names (none_lack fields names lacks))
      where
        each_written : (ns : List (List ℕ)) → AllWritten fields ns → EachIs (λ n. is_in n (written_fields fields) ≡ true) ns
        each_written [] h = tt
        each_written (n ∷ ns) h = (h.0, each_written ns h.1)
    by_others (Some e) gives us typed o' other faults more lacks =
        let g = gives o' other in
        let k = unbroken_parts (alone context e).faults (wanted_faults (span_of e) (Some whole) (alone context e).ty) more in
        let same = one_of_text types whole o' (test_holds (same_type whole o') 9 (span_of e) (ap (λ o. has_broken (wanted_faults (span_of e) (Some whole) o)) (sym other) ∙ k.1)) is_text g.declared in
        let v = is_struct_of own names ts g.value (ap (λ u. is_of u g.value) same ∙ g.of) in
        all_fields types env ms r names ts (λ n. Unit {0})
        (λ n u b d w. of_written us typed faults n u b d
        (λ no. let x = beside_given types names ts v.0 n u v.2 (fields_declared types parts own names ts is_text) b in
        record {
          value = x.value;
          is = ap (field_given env r n) no ∙ ap (field_from n) g.is ∙ ap (λ l. and_then (fields_step l) (λ s. beside n s.names s.values)) v.1 ∙ x.is;
          of = x.of;
          declared = x.declared;
        }))
        names ts once (fields_declared types parts own names ts is_text) (each_there names)
      where
        each_there : (ns : List (List ℕ)) → EachIs (λ n. Unit {0}) ns
        each_there [] = tt
        each_there (n ∷ ns) = (tt, each_there ns)

    by_types : (us : List DslxType) → ((others_typing context (Some whole) others).ty ∷ types_of (map (field_typing context (Some whole)) fields)) ≡ map Some us → whole ≡ t
        → has_broken (faults_of_all (map (field_typing context (Some whole)) fields)) ≡ false → has_broken (others_typing context (Some whole) others).faults ≡ false
        → lacks_one names (written_fields fields) (is_there others) ≡ false → GivesOf types t (struct_at env ms r (out-DslxType whole))
    by_types [] q same f g lacks = absurd (true≢false (ap some q))
      where
        some : List (Option DslxType) → Bool
        some [] = false
        some (y ∷ ys) = true
    by_types (u ∷ us) q same f g lacks =
        let k = list_parts (others_typing context (Some whole) others).ty (Some u) (types_of (map (field_typing context (Some whole)) fields)) (map Some us) q in
        made (by_others others rest us k.1 u k.0 f g lacks) same
