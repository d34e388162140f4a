-- The number of the first item of a name.
use Rattle.std.proofs.Common.{◌≡◌, ℕ, suc, ◌+◌, ◌<◌, Bool, true, false, if◌then◌else◌, List, [], ◌∷◌, ◌++◌, Option, Some, None, length, map, take, get_or, refl, sym, ap, ◌∙◌, subst, arith}
use Rattle.std.specs.Prelude.{slice_get}
use Rattle.std.specs.Option.{option_map}
use Rattle.std.specs.Str.{bytes_eq}
use Rattle.std.proofs.lemmas.List.{take_more, length-take-le}
use Rattle.base.specs.NameTable.Found.{or_else}
use Rattle.dslx_tree.specs.declared.item.Item.{Item}
use Rattle.dslx_meaning.specs.Items.{name_of_definition, item_named}
use Rattle.dslx_check_items.specs.Items.{definition_of, item_number}

-- ---- one item more

later : (o : Option ℕ) (b : Bool) (n : ℕ) → option_map suc (or_else o (if b then Some n else None)) ≡ or_else (option_map suc o) (if b then Some (suc n) else None)
later None true n = refl
later None false n = refl
later (Some k) b n = refl

number_behind : (name : List ℕ) (is : List Item) (i : Item) → item_number name (is ++ i ∷ []) ≡ or_else (item_number name is) (if bytes_eq name (name_of_definition i.definition) then Some (length is) else None)
number_behind name [] i = refl
number_behind name (j ∷ is) i = by (bytes_eq name (name_of_definition j.definition)) (number_behind name is i)
  where
    by : (b : Bool) → item_number name (is ++ i ∷ []) ≡ or_else (item_number name is) (if bytes_eq name (name_of_definition i.definition) then Some (length is) else None)
        → (if b then Some 0 else option_map suc (item_number name (is ++ i ∷ [])))
        ≡ or_else (if b then Some 0 else option_map suc (item_number name is)) (if bytes_eq name (name_of_definition i.definition) then Some (suc (length is)) else None)
    by true e = refl
    by false e = ap (option_map suc) e ∙ later (item_number name is) (bytes_eq name (name_of_definition i.definition)) (length is)

-- a table of the items up to one, which puts that one too
pub placed_on : (items : List Item) (i : ℕ) (item : Item) (look look' : List ℕ → Option ℕ) → i < length items → item ≡ get_or items i item
    → ((name : List ℕ) → look name ≡ item_number name (take i items))
    → ((name : List ℕ) → look' name ≡ or_else (look name) (if bytes_eq name (name_of_definition item.definition) then Some i else None))
    → (name : List ℕ) → look' name ≡ item_number name (take (i + 1) items)
placed_on items i item look look' inside is so puts name =
    puts name ∙ ap (λ (o : Option ℕ). or_else o (if bytes_eq name (name_of_definition item.definition) then Some i else None)) (so name)
    ∙ ap (λ (n : ℕ). or_else (item_number name (take i items)) (if bytes_eq name (name_of_definition item.definition) then Some n else None)) (sym (length-take-le i items (omega arith)))
    ∙ sym (number_behind name (take i items) item) ∙ ap (item_number name) (sym one_more)
  where
    one_more : take (i + 1) items ≡ take i items ++ item ∷ []
    one_more = take_more items i item inside ∙ ap (λ (x : Item). take i items ++ x ∷ []) (sym is)

-- ---- the item of the number

pub record IsNumbered (name : List ℕ) (items : List Item) (i : ℕ) : Type 0 where
  pub inside : i < length items
  pub is : slice_get (map definition_of items) i ≡ item_named name items

pub numbered : (name : List ℕ) (items : List Item) (i : ℕ) → item_number name items ≡ Some i → IsNumbered name items i
numbered name [] i h = cc
numbered name (j ∷ is) i h =
    let w = by (bytes_eq name (name_of_definition j.definition)) (item_number name is) (λ k e. numbered name is k e) h in
    record { inside = w.0; is = w.1 }
  where
    by : (b : Bool) (o : Option ℕ) → ((k : ℕ) → o ≡ Some k → IsNumbered name is k) → (if b then Some 0 else option_map suc o) ≡ Some i
        → (i < length (j ∷ is)) × (slice_get (map definition_of (j ∷ is)) i ≡ (if b then Some j.definition else item_named name is))
    by true o more at =
        let first : 0 ≡ i = cc in (
          subst (λ m. m < length (j ∷ is)) first (omega arith),
          subst (λ m. slice_get (map definition_of (j ∷ is)) m ≡ Some j.definition) first refl,
        )
    by false None more at = cc
    by false (Some k) more at =
        let w = more k refl in
        let next : suc k ≡ i = cc in (
          subst (λ m. m < length (j ∷ is)) next (let low = w.inside in omega (arith, low)),
          subst (λ m. slice_get (map definition_of (j ∷ is)) m ≡ item_named name is) next w.is,
        )

pub unnumbered : (name : List ℕ) (items : List Item) → item_number name items ≡ None → item_named name items ≡ None
unnumbered name [] h = refl
unnumbered name (j ∷ is) h = by (bytes_eq name (name_of_definition j.definition)) (item_number name is) (λ e. unnumbered name is e) h
  where
    by : (b : Bool) (o : Option ℕ) → (o ≡ None → item_named name is ≡ None) → (if b then Some 0 else option_map suc o) ≡ None → (if b then Some j.definition else item_named name is) ≡ None
    by true o more at = cc
    by false None more at = more refl
    by false (Some k) more at = cc
