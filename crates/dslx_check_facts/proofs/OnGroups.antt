-- Groups of items by their names.
use Rattle.std.proofs.Common.{◌≡◌, ◌∙◌, ◌≤◌, ◌<◌, ◌==◌, ◌||◌, ℕ, zero, suc, Bool, true, false, List, [], ◌∷◌, length, map, Option, Some, None, slice_get, refl, sym, ap, subst, arith, if◌then◌else◌}
use mathlib.Core.Bool.{true≢false}
use Rattle.std.specs.Option.{option_map}
use Rattle.std.specs.Str.{bytes_eq}
use Rattle.std.proofs.lemmas.Bool.Decides.{Decides-eqb}
use Rattle.std.proofs.lemmas.List.{length-map}
use Rattle.std.proofs.lemmas.Option.{none-some, same_Some, slice_get_past, slice_get_within}
use Rattle.std.proofs.lemmas.Slice.Eq.{bytes_eq-Decides}
use Rattle.dslx_tree.specs.declared.item.Definition.{Definition}
use Rattle.dslx_tree.specs.declared.item.Item.{Item}
use Rattle.dslx_meaning.specs.Lists.{and_then}
use Rattle.dslx_meaning.specs.Items.{name_of_definition}
use Rattle.dslx_meaning.specs.Rules.Namesakes.{told_apart, told_apart_behind}
use Rattle.dslx_check_items.specs.Items.{definition_of, item_number}
use Rattle.dslx_check_items.specs.Reaching.{AreReached, definition_needs, item_needs}
use Rattle.dslx_check_rules.specs.Interned.{AreDistinct}
use Rattle.dslx_check_facts.specs.Known.{group_named, is_cyclic, is_cyclic_named, item_at, item_names, same_group, text_of}
use Rattle.dslx_check_facts.specs.Names.{definition_at, name_at, name_or}
use Rattle.dslx_check_facts.specs.declared.facts.Facts.{Facts}
use Rattle.dslx_check_facts.proofs.Lemmas.Firsts.{stands_first}

-- ---- an item has a number by its name

number_behind : (b : Bool) (o : Option ℕ) → ((k : ℕ) × (o ≡ Some k)) → (k : ℕ) × ((if b then Some 0 else option_map suc o) ≡ Some k)
number_behind true o h = (0, refl)
number_behind false o h = (suc h.0, ap (option_map suc) h.1)

numbered : (is : List Item) (i : ℕ) (d : Definition) → definition_at is i ≡ Some d → (k : ℕ) × (item_number (name_of_definition d) is ≡ Some k)
numbered [] i d e = absurd (none-some d e)
numbered (x ∷ is) zero d e =
    let same : bytes_eq (name_of_definition d) (name_of_definition x.definition) ≡ true = (bytes_eq-Decides (name_of_definition d) (name_of_definition x.definition)).1 (ap name_of_definition (sym (same_Some x.definition d e))) in
    (0, ap (λ b. if b then Some 0 else option_map suc (item_number (name_of_definition d) is)) same)
numbered (x ∷ is) (suc i) d e =
    number_behind (bytes_eq (name_of_definition d) (name_of_definition x.definition)) (item_number (name_of_definition d) is) (numbered is i d e)

-- which is the name of the item of that number
named : (is : List Item) (name : List ℕ) (k : ℕ) → item_number name is ≡ Some k → name_at is k ≡ name
named is name k e = let first = stands_first name [] is k refl e in ap (name_or k) first.plain ∙ first.called

there_or_past : (is : List Item) (i : ℕ) → definition_at is i ≡ None → slice_get is i ≡ None
there_or_past is i e = by_case (slice_get is i) refl
  where
    by_case : (o : Option Item) → slice_get is i ≡ o → o ≡ None
    by_case None q = refl
    by_case (Some x) q = absurd (none-some x.definition (sym e ∙ ap (λ o. and_then o (λ (item : Item). Some item.definition)) q))

past_end : {A : Type 0} (xs : List A) (n : ℕ) → slice_get xs n ≡ None → length xs ≤ n
past_end [] n e = omega arith
past_end (x ∷ xs) zero e = absurd (none-some x (sym e))
past_end (x ∷ xs) (suc n) e = omega (arith, past_end xs n e)

as_many : (before : List (List ℕ)) (is : List Item) → length (told_apart_behind before is) ≡ length is
as_many before [] = refl
as_many before (i ∷ is) = ap suc (as_many (name_of_definition i.definition ∷ before) is)

-- ---- the group of an item by its name

group_by : (f : Facts) → AreReached (item_needs (text_of f)) f.reaching → AreDistinct (item_names f) → (i : ℕ) (o : Option Definition) → item_at f i ≡ o
    → group_named f ((item_names f).item i) ≡ slice_get f.reaching.groups.items i
group_by f reached distinct i (Some d) e =
    let items : List Item = (told_apart (text_of f)).items in
    let called : (item_names f).item i ≡ name_of_definition d = ap (name_or i) e in
    let number = numbered items i d e in
    let one : number.0 ≡ i = distinct number.0 i (named items (name_of_definition d) number.0 number.1 ∙ sym called) in
    ap (group_named f) called ∙ ap (λ o. and_then o (λ k. slice_get f.reaching.groups.items k)) number.1 ∙ ap (slice_get f.reaching.groups.items) one
group_by f reached distinct i None e =
    let items : List Item = (told_apart (text_of f)).items in
    let past : length items ≤ i = past_end items i (there_or_past items i e) in
    let size : length f.reaching.groups.items ≡ length (text_of f).items =
    reached.groups.size ∙ length-map (map definition_of (text_of f).items) (definition_needs (text_of f)) ∙ length-map (text_of f).items definition_of in
    no_number (item_number ((item_names f).item i) items) refl ∙ sym (slice_get_past f.reaching.groups.items i (omega (arith, past, size, as_many [] (text_of f).items)))
  where
    no_number : (o : Option ℕ) → item_number ((item_names f).item i) (told_apart (text_of f)).items ≡ o → and_then o (λ k. slice_get f.reaching.groups.items k) ≡ None
    no_number None q = refl
    no_number (Some k) q =
        let one : k ≡ i = distinct k i (named (told_apart (text_of f)).items ((item_names f).item i) k q) in
        let first = stands_first ((item_names f).item i) [] (told_apart (text_of f)).items k refl q in
        absurd (none-some first.definition (sym e ∙ ap (definition_at (told_apart (text_of f)).items) (sym one) ∙ first.plain))

one_name : (f : Facts) → AreDistinct (item_names f) → (i j : ℕ) (b : Bool) → (i == j) ≡ b → bytes_eq ((item_names f).item i) ((item_names f).item j) ≡ b
one_name f distinct i j true e = (bytes_eq-Decides ((item_names f).item i) ((item_names f).item j)).1 (ap (item_names f).item ((Decides-eqb i j).0 e))
one_name f distinct i j false e = differ (bytes_eq ((item_names f).item i) ((item_names f).item j)) refl
  where
    differ : (b : Bool) → bytes_eq ((item_names f).item i) ((item_names f).item j) ≡ b → b ≡ false
    differ false q = refl
    differ true q = absurd (true≢false (sym ((Decides-eqb i j).1 (distinct i j ((bytes_eq-Decides ((item_names f).item i) ((item_names f).item j)).0 q))) ∙ e))

pub groups_by_names : (f : Facts) → AreReached (item_needs (text_of f)) f.reaching → AreDistinct (item_names f) → (i j : ℕ)
    → is_cyclic_named f ((item_names f).item i) ((item_names f).item j) ≡ is_cyclic f i j
groups_by_names f reached distinct i j = λ t.
    one_name f distinct i j (i == j) refl t
    || same_group (group_by f reached distinct i (item_at f i) refl t) (group_by f reached distinct j (item_at f j) refl t)
