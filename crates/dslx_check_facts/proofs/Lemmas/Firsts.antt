-- The first item of a name has no marks, so what a name means in a text it means where items of one name are told apart.
use Rattle.std.proofs.Common.{◌≡◌, ◌∙◌, ◌<◌, ℕ, zero, suc, Bool, true, false, List, [], ◌∷◌, ◌++◌, Option, Some, None, map, length, slice_get, refl, sym, ap, subst, arith, if◌then◌else◌}
use mathlib.Core.Bool.{true≢false}
use Rattle.std.specs.Option.{option_map}
use Rattle.std.specs.Str.{bytes_eq}
use Rattle.std.proofs.lemmas.Slice.Eq.{bytes_eq-Decides}
use Rattle.std.proofs.lemmas.Option.{none-some, same_Some}
use Rattle.dslx_tree.specs.declared.item.Definition.{Definition}
use Rattle.dslx_tree.specs.declared.item.Definition.TheVariants as d
use Rattle.dslx_tree.specs.declared.item.Item.{Item}
use Rattle.dslx_meaning.specs.Lists.{and_then, times_in}
use Rattle.dslx_meaning.specs.Items.{item_named, name_of_definition}
use Rattle.dslx_meaning.specs.Rules.Namesakes.{mark, marked, marked_definition, told_apart, told_apart_behind}
use Rattle.dslx_check_items.specs.Items.{definition_of, item_number}
use Rattle.dslx_check_facts.specs.declared.facts.Facts.{Facts}
use Rattle.dslx_check_facts.specs.Firsts.{IsMeant, meant_by}
use Rattle.dslx_check_facts.specs.Known.{text_of}
use Rattle.dslx_check_facts.specs.Names.{IsUnmarked, definition_at, name_or}

-- ---- marks

-- an item is as it is in the text without marks
without_marks : (x : Definition) → marked_definition 0 x ≡ x
without_marks (d.Function f) = refl
without_marks (d.Proc p) = refl
without_marks (d.Constant c) = refl
without_marks (d.Alias a) = refl
without_marks (d.Struct s) = refl
without_marks (d.Enum e) = refl

name_marked : (n : ℕ) (x : Definition) → name_of_definition (marked_definition n x) ≡ marked n (name_of_definition x)
name_marked n (d.Function f) = refl
name_marked n (d.Proc p) = refl
name_marked n (d.Constant c) = refl
name_marked n (d.Alias a) = refl
name_marked n (d.Struct s) = refl
name_marked n (d.Enum e) = refl

last_marked : (xs : List ℕ) → IsUnmarked (xs ++ mark ∷ []) → ⊥
last_marked [] h = omega (arith, h.0)
last_marked (x ∷ xs) h = last_marked xs h.1

differs : (name other : List ℕ) → (name ≡ other → ⊥) → bytes_eq name other ≡ false
differs name other apart = by_test (bytes_eq name other) refl
  where
    by_test : (b : Bool) → bytes_eq name other ≡ b → b ≡ false
    by_test true e = absurd (apart ((bytes_eq-Decides name other).0 e))
    by_test false e = refl

-- a name without marks is no other name with marks
marked_differs : (n : ℕ) (name other : List ℕ) → IsUnmarked name → bytes_eq name other ≡ false → bytes_eq name (marked n other) ≡ false
marked_differs zero name other u e = e
marked_differs (suc n) name other u e = differs name (marked n other ++ mark ∷ []) (λ same. last_marked (marked n other) (subst IsUnmarked same u))

-- ---- the first item of a name

definition_of_first : (name : List ℕ) (before : List (List ℕ)) (x : Definition) → times_in name before ≡ 0 → bytes_eq name (name_of_definition x) ≡ true
    → marked_definition (times_in (name_of_definition x) before) x ≡ x
definition_of_first name before x none same =
    let is : name ≡ name_of_definition x = (bytes_eq-Decides name (name_of_definition x)).0 same in
    ap (λ n. marked_definition (times_in n before) x) (sym is) ∙ ap (λ k. marked_definition k x) none ∙ without_marks x

-- another name before it
still_none : (name other : List ℕ) (before : List (List ℕ)) → times_in name before ≡ 0 → bytes_eq name other ≡ false → times_in name (other ∷ before) ≡ 0
still_none name other before none e = ap (λ b. if b then suc (times_in name before) else times_in name before) e ∙ none

meaning_by : (name : List ℕ) (before : List (List ℕ)) (i : Item) (is : List Item) (b : Bool) → IsUnmarked name → times_in name before ≡ 0 → bytes_eq name (name_of_definition i.definition) ≡ b
    → (bytes_eq name (name_of_definition i.definition) ≡ false → item_named name (told_apart_behind (name_of_definition i.definition ∷ before) is) ≡ item_named name is)
    → item_named name (told_apart_behind before (i ∷ is)) ≡ (if b then Some i.definition else item_named name is)
meaning_by name before i is true u none e behind =
    let rest : Option Definition = item_named name (told_apart_behind (name_of_definition i.definition ∷ before) is) in
    ap (λ y. if bytes_eq name (name_of_definition y) then Some y else rest) (definition_of_first name before i.definition none e) ∙ ap (λ b. if b then Some i.definition else rest) e
meaning_by name before i is false u none e behind =
    let rest : Option Definition = item_named name (told_apart_behind (name_of_definition i.definition ∷ before) is) in
    let n : ℕ = times_in (name_of_definition i.definition) before in
    let marked_one : Definition = marked_definition n i.definition in
    ap (λ m. if bytes_eq name m then Some marked_one else rest) (name_marked n i.definition)
    ∙ ap (λ b. if b then Some marked_one else rest) (marked_differs n name (name_of_definition i.definition) u e)
    ∙ behind e

pub same_meaning : (name : List ℕ) (before : List (List ℕ)) (is : List Item) → IsUnmarked name → times_in name before ≡ 0
    → item_named name (told_apart_behind before is) ≡ item_named name is
same_meaning name before [] u none = refl
same_meaning name before (i ∷ is) u none =
    meaning_by name before i is (bytes_eq name (name_of_definition i.definition)) u none refl
    (λ e. same_meaning name (name_of_definition i.definition ∷ before) is u (still_none name (name_of_definition i.definition) before none e))

-- the item of the number of a name
pub record StandsFirst (name : List ℕ) (before : List (List ℕ)) (is : List Item) (n : ℕ) : Type 0 where
  pub definition : Definition
  pub named : item_named name is ≡ Some definition
  pub at : definition_at (told_apart_behind before is) n ≡ Some definition
  pub plain : definition_at is n ≡ Some definition
  pub called : name_of_definition definition ≡ name

first_by : (name : List ℕ) (before : List (List ℕ)) (i : Item) (is : List Item) (n : ℕ) → times_in name before ≡ 0 → bytes_eq name (name_of_definition i.definition) ≡ true → 0 ≡ n
    → StandsFirst name before (i ∷ is) n
first_by name before i is n none same at = record {
  definition = i.definition;
  named = ap (λ b. if b then Some i.definition else item_named name is) same;
  at = subst (λ m. definition_at (told_apart_behind before (i ∷ is)) m ≡ Some i.definition) at (ap Some (definition_of_first name before i.definition none same));
  plain = subst (λ m. definition_at (i ∷ is) m ≡ Some i.definition) at refl;
  called = sym ((bytes_eq-Decides name (name_of_definition i.definition)).0 same);
}

behind_by : (name : List ℕ) (before : List (List ℕ)) (i : Item) (is : List Item) (n k : ℕ) → bytes_eq name (name_of_definition i.definition) ≡ false → suc k ≡ n
    → StandsFirst name (name_of_definition i.definition ∷ before) is k → StandsFirst name before (i ∷ is) n
behind_by name before i is n k other at behind = record {
  definition = behind.definition;
  named = ap (λ b. if b then Some i.definition else item_named name is) other ∙ behind.named;
  at = subst (λ m. definition_at (told_apart_behind before (i ∷ is)) m ≡ Some behind.definition) at behind.at;
  plain = subst (λ m. definition_at (i ∷ is) m ≡ Some behind.definition) at behind.plain;
  called = behind.called;
}

number_by : (name : List ℕ) (before : List (List ℕ)) (i : Item) (is : List Item) (n : ℕ) (o : Option ℕ) → bytes_eq name (name_of_definition i.definition) ≡ false → option_map suc o ≡ Some n
    → ((k : ℕ) → o ≡ Some k → StandsFirst name (name_of_definition i.definition ∷ before) is k) → StandsFirst name before (i ∷ is) n
number_by name before i is n None other e behind = absurd (none-some n e)
number_by name before i is n (Some k) other e behind = behind_by name before i is n k other (same_Some (suc k) n e) (behind k refl)

place_by : (name : List ℕ) (before : List (List ℕ)) (i : Item) (is : List Item) (n : ℕ) (b : Bool) → times_in name before ≡ 0 → bytes_eq name (name_of_definition i.definition) ≡ b
    → (if b then Some 0 else option_map suc (item_number name is)) ≡ Some n
    → ((k : ℕ) → bytes_eq name (name_of_definition i.definition) ≡ false → item_number name is ≡ Some k → StandsFirst name (name_of_definition i.definition ∷ before) is k)
    → StandsFirst name before (i ∷ is) n
place_by name before i is n true none same e behind = first_by name before i is n none same (same_Some 0 n e)
place_by name before i is n false none other e behind = number_by name before i is n (item_number name is) other e (λ k. behind k other)

pub stands_first : (name : List ℕ) (before : List (List ℕ)) (is : List Item) (n : ℕ) → times_in name before ≡ 0 → item_number name is ≡ Some n → StandsFirst name before is n
stands_first name before [] n none e = absurd (none-some n e)
stands_first name before (i ∷ is) n none e =
    place_by name before i is n (bytes_eq name (name_of_definition i.definition)) none refl e
    (λ k other there. stands_first name (name_of_definition i.definition ∷ before) is k (still_none name (name_of_definition i.definition) before none other) there)

-- ---- numbers and names

none_behind : (o : Option ℕ) → option_map suc o ≡ None → o ≡ None
none_behind None e = refl
none_behind (Some k) e = absurd (none-some (suc k) (sym e))

not_named_by : (b : Bool) (i : Item) (o : Option ℕ) (found : Option Definition) → (if b then Some 0 else option_map suc o) ≡ None → (o ≡ None → found ≡ None) → (if b then Some i.definition else found) ≡ None
not_named_by true i o found e none = absurd (none-some 0 (sym e))
not_named_by false i o found e none = none (none_behind o e)

pub not_named : (name : List ℕ) (is : List Item) → item_number name is ≡ None → item_named name is ≡ None
not_named name [] e = refl
not_named name (i ∷ is) e = not_named_by (bytes_eq name (name_of_definition i.definition)) i (item_number name is) (item_named name is) e (not_named name is)

within_by : (b : Bool) (o : Option ℕ) (n count : ℕ) → (if b then Some 0 else option_map suc o) ≡ Some n → ((k : ℕ) → o ≡ Some k → k < count) → n < suc count
within_by true o n count e below = omega (arith, same_Some 0 n e)
within_by false None n count e below = absurd (none-some n e)
within_by false (Some k) n count e below = omega (arith, same_Some (suc k) n e, below k refl)

pub number_within : (name : List ℕ) (is : List Item) (n : ℕ) → item_number name is ≡ Some n → n < length is
number_within name [] n e = absurd (none-some n e)
number_within name (i ∷ is) n e = within_by (bytes_eq name (name_of_definition i.definition)) (item_number name is) n (length is) e (number_within name is)

pub at_mapped : (is : List Item) (n : ℕ) → slice_get (map definition_of is) n ≡ definition_at is n
at_mapped [] n = refl
at_mapped (i ∷ is) zero = refl
at_mapped (i ∷ is) (suc n) = at_mapped is n

-- ---- in a text of which something is known

pub nothing_meant : (f : Facts) (name : List ℕ) → IsUnmarked name → item_number name (text_of f).items ≡ None → meant_by f name ≡ None
nothing_meant f name u e = same_meaning name [] (text_of f).items u refl ∙ not_named name (text_of f).items e

pub meant : (f : Facts) (name : List ℕ) (n : ℕ) (definition : Definition) → IsUnmarked name → item_number name (text_of f).items ≡ Some n
    → definition_at (text_of f).items n ≡ Some definition → IsMeant f name n definition
meant f name n definition u e at =
    let first = stands_first name [] (text_of f).items n refl e in
    let is : first.definition ≡ definition = same_Some first.definition definition (sym first.plain ∙ at) in
    record {
      meant = same_meaning name [] (text_of f).items u refl ∙ first.named ∙ ap Some is;
      at = first.at ∙ ap Some is;
      called = ap (name_or n) (first.at ∙ ap Some is) ∙ ap name_of_definition (sym is) ∙ first.called;
    }
