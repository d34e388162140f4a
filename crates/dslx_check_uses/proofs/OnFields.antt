-- Names of fields by their places, and the fields of an item where items of one name are told apart.
use Rattle.std.proofs.Common.{◌≡◌, ◌∙◌, ◌<◌, ◌≤◌, ◌+◌, ◌++◌, ◌∷◌, [], ℕ, zero, suc, Bool, is_some, List, Option, Some, None, arith, drop, get_or, length, map, min, slice_get, take, true, false, refl, sym, ap, subst}
use Rattle.std.specs.Option.{option_map}
use Rattle.std.specs.Str.{bytes_eq}
use Rattle.std.proofs.Math.Seq.{drop-cons}
use Rattle.dslx_tree.specs.declared.item.Definition.{Definition}
use Rattle.dslx_tree.specs.declared.item.Definition.TheVariants as d
use Rattle.dslx_tree.specs.declared.item.Field.{Field}
use Rattle.dslx_tree.specs.declared.item.Item.{Item}
use Rattle.dslx_meaning.specs.Items.{as_struct, name_of_definition, name_of_field}
use Rattle.dslx_meaning.specs.Lists.{index_in, times_in}
use Rattle.dslx_meaning.specs.Rules.Namesakes.{marked_definition, told_apart_behind}
use Rattle.std.proofs.lemmas.Option.{none-some, same_Some}
use Rattle.base.specs.Lists.Prefix.{IsPrefix}
use Rattle.xb_span.specs.declared.span.Span.{Span}
use Rattle.dslx_tree.specs.declared.expr.FieldValue.{FieldValue, out-FieldValue}
use Rattle.dslx_tree.specs.declared.ident.Ident.{Ident}
use Rattle.dslx_tree.specs.declared.item.Struct.{Struct}
use Rattle.dslx_meaning.specs.Items.{item_named}
use Rattle.dslx_meaning.specs.declared.ty.DslxType.{DslxType}
use Rattle.dslx_meaning.specs.Rules.AggregateRules.{field_type}
use Rattle.dslx_meaning.specs.Rules.PatternRules.{is_there}
use Rattle.dslx_meaning.specs.Rules.TypeEnvs.{GlobalEnv}
use Rattle.dslx_check_rules.specs.declared.table.row.TypeId.{TypeId}
use Rattle.dslx_check_rules.specs.declared.table.row.TypeRow.{TypeRow}
use Rattle.dslx_check_rules.specs.declared.typing.Typing.{Typing}
use Rattle.dslx_check_rules.specs.Interned.{HasRowIf, ItemNames, type_if}
use Rattle.dslx_check_facts.specs.declared.facts.Facts.{Facts}
use Rattle.dslx_check_facts.specs.declared.type_env.TypeEnv.{TypeEnv as CodeEnv}
use Rattle.dslx_check_facts.specs.Firsts.{IsMeant, meant_by}
use Rattle.dslx_check_facts.specs.Judged.{environment}
use Rattle.dslx_check_facts.specs.Known.{FactsHold, HasKnownRows, is_cyclic, item_at, item_names}
use Rattle.dslx_check_facts.specs.Names.{definition_at, field_names}
use Rattle.dslx_check_facts.specs.Walks.{WalkShown, OnlyMisses}
use Rattle.dslx_check_facts.proofs.Lemmas.Items.{cyclic_is, means}
use Rattle.dslx_check_facts.proofs.Lemmas.Judged.{known_rows_stay}
use Rattle.dslx_check_facts.proofs.Lemmas.Walks.{grows_refl, misses_grows}
use Rattle.dslx_check_rules.specs.declared.nodes.parts.Spanned.{Spanned}
use Rattle.dslx_check_rules.specs.declared.nodes.structs.FieldTyping.{FieldTyping}
use Rattle.dslx_check_rules.specs.Nodes.Nodes.Structs.{IsField, declared_struct}
use Rattle.dslx_check_rules.specs.Nodes.Parts.{ArePlaced, IsPart, IsPlaced, IsPlacedIf, Pairs, Placed}
use Rattle.dslx_check_rules.proofs.Lemmas.Nodes.Lists.{pair_at, pairs_long}
use Rattle.dslx_check_uses.specs.Inner.Fields.{AreFields, DeclaredFrom, UndeclaredFrom, without_type}
use Rattle.dslx_check_uses.specs.Uses.{AreFieldValues, NodeFrom, struct_by, struct_half, uneven_at, unknown_at, unwanted, wanted_of}

parted : {A : Type 0} (xs : List A) (i : ℕ) (x : A) → i < length xs → x ≡ get_or xs i x → drop i xs ≡ x ∷ drop (i + 1) xs
parted xs i x within e =
    let later : suc i ≡ i + 1 = omega arith in
    drop-cons xs i x within ∙ ap (λ y. y ∷ drop (suc i) xs) (sym e) ∙ ap (λ j. x ∷ drop j xs) later

abbrev next : Option ℕ → Option ℕ
next None = None
next (Some k) = Some (suc k)

next_from : (i : ℕ) (o : Option ℕ) → option_map (λ k. i + k) (next o) ≡ option_map (λ k. i + 1 + k) o
next_from i None = refl
next_from i (Some k) = ap Some (omega arith)

-- a field is found where it stands
pub found_at : (name : List ℕ) (fs : List Field) (i : ℕ) (f : Field) → i < length fs → f ≡ get_or fs i f → bytes_eq name (name_of_field f) ≡ true
    → option_map (λ k. i + k) (index_in name (map name_of_field (drop i fs))) ≡ Some i
found_at name fs i f within e b = let p = parted fs i f within e in rw (p, b) (ap Some (omega arith))

-- one of another name is passed
pub passed_at : (name : List ℕ) (fs : List Field) (i : ℕ) (f : Field) → i < length fs → f ≡ get_or fs i f → bytes_eq name (name_of_field f) ≡ false
    → option_map (λ k. i + k) (index_in name (map name_of_field (drop i fs))) ≡ option_map (λ k. i + 1 + k) (index_in name (map name_of_field (drop (i + 1) fs)))
passed_at name fs i f within e b = let p = parted fs i f within e in rw (p, b) (next_from i (index_in name (map name_of_field (drop (i + 1) fs))))

-- ---- items of one name are told apart by their names alone

same_fields : (n : ℕ) (x : Definition) → field_names (as_struct (Some (marked_definition n x))) ≡ field_names (as_struct (Some x))
same_fields n (d.Function f) = refl
same_fields n (d.Proc p) = refl
same_fields n (d.Constant c) = refl
same_fields n (d.Alias a) = refl
same_fields n (d.Struct s) = refl
same_fields n (d.Enum e) = refl

pub fields_apart : (before : List (List ℕ)) (is : List Item) (i : ℕ) → field_names (as_struct (definition_at (told_apart_behind before is) i)) ≡ field_names (as_struct (definition_at is i))
fields_apart before [] i = refl
fields_apart before (x ∷ is) zero = same_fields (times_in (name_of_definition x.definition) before) x.definition
fields_apart before (x ∷ is) (suc i) = fields_apart (name_of_definition x.definition ∷ before) is i

-- ---- fields one after another

pub same_get : {A : Type 0} (xs : List A) (i : ℕ) (d : A) → i < length xs → get_or xs i d ≡ get_or xs i (get_or xs i d)
same_get [] i d h = absurd (omega (arith, h))
same_get (x ∷ xs) zero d h = refl
same_get (x ∷ xs) (suc i) d h = same_get xs i d (omega (arith, h))

pairs_then : {A B : Type 0} (R : A → B → Type 0) (as' : List A) (bs : List B) (a : A) (b : B) → Pairs R as' bs → R a b → Pairs R (as' ++ a ∷ []) (bs ++ b ∷ [])
pairs_then R [] [] a b h is = (is, tt)
pairs_then R [] (c ∷ bs) a b h is = absurd h
pairs_then R (c ∷ as') [] a b h is = absurd h
pairs_then R (c ∷ as') (e ∷ bs) a b h is = (h.0, pairs_then R as' bs a b h.1 is)

take_more : {A : Type 0} (x : A) (xs : List A) (i : ℕ) → take (suc i + 1) (x ∷ xs) ≡ x ∷ take (i + 1) xs
take_more x xs i = let e : suc i + 1 ≡ suc (i + 1) = omega arith in ap (λ n. take n (x ∷ xs)) e

wanted_next : (t : Option DslxType) (fs : List FieldValue) (xs : List Placed) (i : ℕ) (f : FieldValue) (x : Placed) → i < length fs → f ≡ get_or fs i f → slice_get xs i ≡ Some x
    → wanted_of t (take i fs) xs ++ record { wanted = field_type t (out-FieldValue f).name.name; value = x } ∷ [] ≡ wanted_of t (take (i + 1) fs) xs
wanted_next t [] xs i f x h e at = absurd (omega (arith, h))
wanted_next t (g ∷ fs) [] i f x h e at = absurd (none-some x at)
wanted_next t (g ∷ fs) (y ∷ xs) zero f x h e at = λ j. record { wanted = field_type t (out-FieldValue (e j)).name.name; value = sym (same_Some y x at) j } ∷ []
wanted_next t (g ∷ fs) (y ∷ xs) (suc i) f x h e at =
    ap (λ rest. record { wanted = field_type t (out-FieldValue g).name.name; value = y } ∷ rest) (wanted_next t fs xs i f x (omega (arith, h)) e at)
    ∙ ap (λ l. wanted_of t l (y ∷ xs)) (sym (take_more g fs i))

pub field_next : (f : Facts) (rows : List TypeRow) (ty : Option TypeId) (fields : List FieldValue) (values : List Spanned) (all : List FieldTyping) (i : ℕ) (field : FieldValue) (value : Spanned) (wanted : Option TypeId)
    → i < length fields → i < length values → field ≡ get_or fields i field → value ≡ get_or values i value → AreFields f rows ty (take i fields) values all → (HasRowIf rows ty → HasRowIf rows wanted)
    → ((later : List TypeRow) → IsPrefix rows later → HasRowIf rows ty → type_if (item_names f) later wanted ≡ field_type (type_if (item_names f) later ty) (out-FieldValue field).name.name)
    → AreFields f rows ty (take (i + 1) fields) values (all ++ record { wanted = wanted; value = value } ∷ [])
field_next f rows ty fields values all i field value wanted h k e is are row typed = λ later xs p there placed.
    let names = item_names f in
    let q = pair_at (IsPlaced names rows later) values xs i value placed k in
    let own : IsField names rows later (record { wanted = wanted; value = value }) (record { wanted = field_type (type_if names later ty) (out-FieldValue field).name.name; value = q.0 }) =
    record { row = row there; wanted = typed later p there; value = subst (λ (v : Spanned). IsPlaced names rows later v q.0) (sym is) q.2 } in
    subst (Pairs (IsField names rows later) (all ++ record { wanted = wanted; value = value } ∷ [])) (wanted_next (type_if names later ty) fields xs i field q.0 h e q.1)
    (pairs_then (IsField names rows later) all (wanted_of (type_if names later ty) (take i fields) xs) (record { wanted = wanted; value = value }) _ (are later xs p there placed) own)

wanted_all : (t : Option DslxType) (fs : List FieldValue) (xs : List Placed) (i : ℕ) → min (length fs) (length xs) ≤ i → wanted_of t (take i fs) xs ≡ wanted_of t fs xs
wanted_all t [] xs zero h = refl
wanted_all t [] xs (suc i) h = refl
wanted_all t (f ∷ fs) [] zero h = refl
wanted_all t (f ∷ fs) [] (suc i) h = refl
wanted_all t (f ∷ fs) (x ∷ xs) zero h = absurd (omega (arith, h))
wanted_all t (f ∷ fs) (x ∷ xs) (suc i) h = ap (λ rest. record { wanted = field_type t (out-FieldValue f).name.name; value = x } ∷ rest) (wanted_all t fs xs i (omega (arith, h)))

pub fields_all : (f : Facts) (rows : List TypeRow) (ty : Option TypeId) (fields : List FieldValue) (values : List Spanned) (all : List FieldTyping) (i : ℕ) → min (length fields) (length values) ≤ i
    → AreFields f rows ty (take i fields) values all → AreFields f rows ty fields values all
fields_all f rows ty fields values all i past are = λ later xs p there placed.
    let names = item_names f in
    let long : length values ≡ length xs = pairs_long (IsPlaced names rows later) values xs placed in
    subst (Pairs (IsField names rows later) all) (wanted_all (type_if names later ty) fields xs i (omega (arith, past, long))) (are later xs p there placed)

pub no_field_yet : (f : Facts) (rows : List TypeRow) (ty : Option TypeId) (fields : List FieldValue) (values : List Spanned) → AreFields f rows ty (take 0 fields) values []
no_field_yet f rows ty fields values = λ later xs p there placed. none later fields xs
  where
    none : (later : List TypeRow) (fs : List FieldValue) (xs : List Placed) → Pairs (IsField (item_names f) rows later) [] (wanted_of (type_if (item_names f) later ty) (take 0 fs) xs)
    none later [] xs = tt
    none later (g ∷ fs) xs = tt

pub unwanted_are : (names : ItemNames) (rows later : List TypeRow) (values : List Spanned) (xs : List Placed) → ArePlaced names rows later values xs → Pairs (IsField names rows later) (map without_type values) (unwanted xs)
unwanted_are names rows later [] [] h = tt
unwanted_are names rows later [] (x ∷ xs) h = absurd h
unwanted_are names rows later (v ∷ values) [] h = absurd h
unwanted_are names rows later (v ∷ values) (x ∷ xs) h = (record { row = tt; wanted = refl; value = h.0 }, unwanted_are names rows later values xs h.1)

pub others_there : (names : ItemNames) (rows later : List TypeRow) (others : Option Spanned) (o : Option Placed) → IsPlacedIf names rows later others o → is_some others ≡ is_there o
others_there names rows later None None h = refl
others_there names rows later None (Some x) h = absurd h
others_there names rows later (Some p) None h = absurd h
others_there names rows later (Some p) (Some x) h = refl

-- ---- structs by their names

pub undeclared_from : {f : Facts} {s : CodeEnv} {w : WalkShown} {span : Span} {values : List Spanned} {others : Option Spanned} {j : Typing} (name : Ident) (fields : List FieldValue) → as_struct (meant_by f name.name) ≡ None
    → UndeclaredFrom w.rows span name.span values others j → NodeFrom f s w w (AreFieldValues values others) (struct_half span name fields) j
undeclared_from {f} {s} {w} {span} {values} {others} {j} name fields none from = record {
  grows = grows_refl w;
  reached = refl;
  comes = λ known later has holds rows missing x are.
      let env = environment f s known later in
      let nothing : None ≡ as_struct (item_named name.name env.known.whole.items) = sym (ap as_struct (means f later known name.name holds) ∙ none) in
      subst (λ (o : Option Struct). IsPart (item_names f) w.rows later.rows j (struct_by span name fields env x o)) nothing (from.typed (item_names f) later.rows holds.distinct has.rows x.0 x.1 are.0 are.1);
}

pub declared_from : {f : Facts} {s : CodeEnv} {w0 w1 : WalkShown} {span : Span} {fields : List FieldValue} {values : List Spanned} {others : Option Spanned} {j : Typing} {item : ℕ} {declared : Struct} {ty : Option TypeId} {cyclic : Bool}
    (name : Ident) → IsMeant f name.name item (d.Struct declared) → OnlyMisses w0 w1 → ((rows : List TypeRow) → HasKnownRows rows f → HasRowIf rows ty)
    → ((known : GlobalEnv) (later : WalkShown) (s : Struct) → FactsHold f later known → w1.missing ≡ [] → as_struct (item_at f item) ≡ Some s → type_if (item_names f) later.rows ty ≡ known.items.struct_named ((item_names f).item item))
    → cyclic ≡ is_cyclic f s.owner item → DeclaredFrom f w1.rows span name.span declared ty cyclic fields values others j
    → NodeFrom f s w0 w1 (AreFieldValues values others) (struct_half span name fields) j
declared_from {f} {s} {w0} {w1} {span} {fields} {values} {others} {j} {item} {declared} {ty} {cyclic} name meant misses row structure by_item from = record {
  grows = misses_grows w0 w1 misses;
  reached = misses.reached;
  comes = λ known later has holds rows missing x are.
      let names = item_names f in
      let env = environment f s known later in
      let there : Some declared ≡ as_struct (item_named name.name env.known.whole.items) = sym (ap as_struct (means f later known name.name holds ∙ meant.meant)) in
      let is : type_if names later.rows ty ≡ env.known.items.struct_named name.name = structure known later declared holds missing (ap as_struct meant.at) ∙ ap known.items.struct_named meant.called in
      let own : cyclic ≡ env.known.is_cyclic env.owner name.name = by_item ∙ cyclic_is f s later known item name.name holds meant.called in
      let known_rows : HasKnownRows w1.rows f = known_rows_stay w0.rows w1.rows f (misses_grows w0 w1 misses).tables.rows rows.known in
      let vals = subst (λ (l : List TypeRow). ArePlaced names l later.rows values x.0) (sym misses.rows) are.0 in
      let rest = subst (λ (l : List TypeRow). IsPlacedIf names l later.rows others x.1) (sym misses.rows) are.1 in
      subst (λ (o : Option Struct). IsPart names w1.rows later.rows j (struct_by span name fields env x o)) there
      (subst (λ (t : Option DslxType). IsPart names w1.rows later.rows j (declared_struct span name.span (env.known.is_cyclic env.owner name.name) t (unknown_at declared fields) (uneven_at span declared fields x.1) (wanted_of t fields x.0) x.1)) is
      (subst (λ (b : Bool). IsPart names w1.rows later.rows j (declared_struct span name.span b (type_if names later.rows ty) (unknown_at declared fields) (uneven_at span declared fields x.1)
      (wanted_of (type_if names later.rows ty) fields x.0) x.1)) own (from.typed later.rows holds.distinct has.rows (row w1.rows known_rows) x.0 x.1 vals rest)));
}
