-- What is looked up of other declarations is what the global environment says.
use Rattle.std.proofs.Common.{◌≡◌, ◌∙◌, ◌&&◌, ℕ, Bool, true, false, ◌+◌, ◌<◌, suc, List, [], ◌∷◌, map, drop, length, get_or, Option, Some, None, refl, sym, ap, subst, arith}
use Rattle.std.specs.List.{list_all}
use Rattle.std.specs.Option.{option_map}
use Rattle.std.specs.Prelude.{slice_get}
use Rattle.std.proofs.Math.Seq.{drop-cons}
use Rattle.dslx_tree.specs.declared.item.Enum.{Enum}
use Rattle.dslx_tree.specs.declared.item.Struct.{Struct}
use Rattle.dslx_meaning.specs.Items.{as_enum, as_struct}
use Rattle.dslx_meaning.specs.Lists.{and_then}
use Rattle.dslx_meaning.specs.Values.{type_of_value}
use Rattle.dslx_meaning.specs.declared.value.DslxValue.{DslxValue}
use Rattle.dslx_meaning.specs.Rules.TypeEnvs.{GlobalEnv, Instance}
use Rattle.dslx_check_rules.specs.declared.table.row.TypeId.{TypeId}
use Rattle.dslx_check_rules.specs.declared.table.row.TypeRow.{TypeRow}
use Rattle.dslx_check_rules.specs.Interned.{HasRowIf, type_if}
use Rattle.dslx_check_facts.specs.declared.facts.Facts.{Facts}
use Rattle.dslx_check_facts.specs.declared.facts.Sums.{Sums}
use Rattle.dslx_check_facts.specs.Known.{FactsHold, Has, HasKnownRows, IsSum, at_place, done_at, is_judged, item_at, item_names, loops, member_at, member_number, named_type_at, value_type_at}
use Rattle.dslx_check_facts.specs.Sums.{and_sums}
use Rattle.dslx_check_facts.specs.Walks.{WalkShown, instance_at, instances_at}
use Rattle.dslx_check_facts.specs.declared.lookups.Reached.{Reached}

-- ---- rows

pub named_row : (f : Facts) (rows : List TypeRow) (i : ℕ) (ty : Option TypeId) → HasKnownRows rows f → ty ≡ at_place f.named_types.items i → HasRowIf rows ty
named_row f rows i ty h e = subst (HasRowIf rows) (sym e) (h.named i)

pub value_row : (f : Facts) (rows : List TypeRow) (i : ℕ) (ty : Option TypeId) → HasKnownRows rows f → ty ≡ at_place f.value_types.items i → HasRowIf rows ty
value_row f rows i ty h e = subst (HasRowIf rows) (sym e) (h.values i)

-- ---- items: where one is judged, and where it reaches itself

pub named_there : (f : Facts) (later : WalkShown) (known : GlobalEnv) (i : ℕ) (ty : Option TypeId) → FactsHold f later known → is_judged f i ≡ true → ty ≡ at_place f.named_types.items i
    → type_if (item_names f) later.rows ty ≡ known.items.type_named ((item_names f).item i)
named_there f later known i ty agrees judged e = ap (type_if (item_names f) later.rows) e ∙ agrees.type_named i judged

pub none_named : (f : Facts) (later : WalkShown) (known : GlobalEnv) (i : ℕ) → FactsHold f later known → loops f i ≡ true
    → type_if (item_names f) later.rows None ≡ known.items.type_named ((item_names f).item i)
none_named f later known i agrees looping = sym (agrees.no_type i looping)

pub struct_there : (f : Facts) (later : WalkShown) (known : GlobalEnv) (i : ℕ) (ty : Option TypeId) (s : Struct) → FactsHold f later known → is_judged f i ≡ true → ty ≡ at_place f.named_types.items i
    → as_struct (item_at f i) ≡ Some s → type_if (item_names f) later.rows ty ≡ known.items.struct_named ((item_names f).item i)
struct_there f later known i ty s agrees judged e is = ap (type_if (item_names f) later.rows) e ∙ agrees.struct_named i s judged is

pub none_struct : (f : Facts) (later : WalkShown) (known : GlobalEnv) (i : ℕ) → FactsHold f later known → loops f i ≡ true
    → type_if (item_names f) later.rows None ≡ known.items.struct_named ((item_names f).item i)
none_struct f later known i agrees looping = sym (agrees.no_struct i looping)

pub value_type_there : (f : Facts) (later : WalkShown) (known : GlobalEnv) (i : ℕ) (ty : Option TypeId) → FactsHold f later known → is_judged f i ≡ true → ty ≡ at_place f.value_types.items i
    → type_if (item_names f) later.rows ty ≡ option_map type_of_value (known.items.constant ((item_names f).item i))
value_type_there f later known i ty agrees judged e = ap (type_if (item_names f) later.rows) e ∙ agrees.constant_type i judged

pub none_constant : (f : Facts) (later : WalkShown) (known : GlobalEnv) (i : ℕ) → FactsHold f later known → loops f i ≡ true
    → type_if (item_names f) later.rows None ≡ option_map type_of_value (known.items.constant ((item_names f).item i))
none_constant f later known i agrees looping = sym (ap (option_map type_of_value) (agrees.no_constant i looping))

pub member_there : (f : Facts) (later : WalkShown) (known : GlobalEnv) (i : ℕ) (e : Enum) (name : List ℕ) (k : ℕ) (v : Option DslxValue) → FactsHold f later known → is_judged f i ≡ true
    → as_enum (item_at f i) ≡ Some e → member_number name e.members ≡ Some k → v ≡ member_at f i k → v ≡ known.items.member ((item_names f).item i) name
member_there f later known i e name k v agrees judged is at there = there ∙ sym (ap (λ o. and_then o (member_at f i)) at) ∙ agrees.member i e name judged is

pub no_member_there : (f : Facts) (later : WalkShown) (known : GlobalEnv) (i : ℕ) (e : Enum) (name : List ℕ) → FactsHold f later known → is_judged f i ≡ true
    → as_enum (item_at f i) ≡ Some e → member_number name e.members ≡ None → None ≡ known.items.member ((item_names f).item i) name
no_member_there f later known i e name agrees judged is at = sym (ap (λ o. and_then o (member_at f i)) at) ∙ agrees.member i e name judged is

pub none_member : (f : Facts) (later : WalkShown) (known : GlobalEnv) (i : ℕ) (name : List ℕ) → FactsHold f later known → loops f i ≡ true → None ≡ known.items.member ((item_names f).item i) name
none_member f later known i name agrees looping = sym (agrees.no_member i name looping)

-- ---- instances

pub done_there : (f : Facts) (later : WalkShown) (known : GlobalEnv) (n : ℕ) (sums : Sums) → FactsHold f later known → slice_get f.done.items n ≡ Some (Some sums)
    → IsSum known (instance_at (item_names f) later.met n) sums
done_there f later known n sums agrees e = agrees.done n sums (ap (λ o. and_then o (λ a. a)) e)

-- ---- several instances

so_far : (a b c : Bool) → ((a && b) && c) ≡ (a && (b && c))
so_far true b c = refl
so_far false b c = refl

-- with the next one
pub sound_next : (f : Facts) (later : WalkShown) (known : GlobalEnv) (ns : List ℕ) (i n : ℕ) (all : Reached) (sums : Option Sums) → i < length ns → n ≡ get_or ns i n
    → Has sums (IsSum known (instance_at (item_names f) later.met n))
    → ((and_sums all sums).sound && list_all known.is_sound (instances_at (item_names f) later.met (drop (i + 1) ns)))
    ≡ (all.sound && list_all known.is_sound (instances_at (item_names f) later.met (drop i ns)))
sound_next f later known ns i n all None within is there = absurd there
sound_next f later known ns i n all (Some sums) within is there =
    let next : i + 1 ≡ suc i = omega arith in
    let g : ℕ → Instance = instance_at (item_names f) later.met in
    let rest : Bool = list_all known.is_sound (map g (drop (suc i) ns)) in
    ap (λ j. (all.sound && sums.sound) && list_all known.is_sound (map g (drop j ns))) next
    ∙ so_far all.sound sums.sound rest ∙ ap (λ b. all.sound && (b && rest)) there.sound
    ∙ ap (λ ms. all.sound && list_all known.is_sound (map g ms)) (sym (drop-cons ns i n within ∙ ap (λ m. m ∷ drop (suc i) ns) (sym is)))

pub unbroken_next : (f : Facts) (later : WalkShown) (known : GlobalEnv) (ns : List ℕ) (i n : ℕ) (all : Reached) (sums : Option Sums) → i < length ns → n ≡ get_or ns i n
    → Has sums (IsSum known (instance_at (item_names f) later.met n))
    → ((and_sums all sums).unbroken && list_all known.is_unbroken (instances_at (item_names f) later.met (drop (i + 1) ns)))
    ≡ (all.unbroken && list_all known.is_unbroken (instances_at (item_names f) later.met (drop i ns)))
unbroken_next f later known ns i n all None within is there = absurd there
unbroken_next f later known ns i n all (Some sums) within is there =
    let next : i + 1 ≡ suc i = omega arith in
    let g : ℕ → Instance = instance_at (item_names f) later.met in
    let rest : Bool = list_all known.is_unbroken (map g (drop (suc i) ns)) in
    ap (λ j. (all.unbroken && sums.unbroken) && list_all known.is_unbroken (map g (drop j ns))) next
    ∙ so_far all.unbroken sums.unbroken rest ∙ ap (λ b. all.unbroken && (b && rest)) there.unbroken
    ∙ ap (λ ms. all.unbroken && list_all known.is_unbroken (map g ms)) (sym (drop-cons ns i n within ∙ ap (λ m. m ∷ drop (suc i) ns) (sym is)))
