-- Items by their names and their numbers, where those of one name are told apart.
use Rattle.std.proofs.Common.{◌≡◌, ◌∙◌, ℕ, zero, suc, Bool, true, false, List, [], ◌∷◌, Option, Some, None, refl, sym, ap, if◌then◌else◌}
use mathlib.Core.Bool.{true≢false}
use Rattle.std.specs.Option.{option_map}
use Rattle.std.specs.Str.{bytes_eq}
use Rattle.std.proofs.lemmas.Option.{none-some, same_Some}
use Rattle.std.proofs.lemmas.Slice.Eq.{bytes_eq-Decides}
use Rattle.dslx_tree.specs.declared.item.Definition.{Definition}
use Rattle.dslx_tree.specs.declared.item.Definition.TheVariants as d
use Rattle.dslx_tree.specs.declared.item.Item.{Item}
use Rattle.dslx_tree.specs.declared.item.Module.{Module}
use Rattle.dslx_meaning.specs.Items.{item_named, name_of_definition}
use Rattle.dslx_meaning.specs.Rules.Mentions.{definition_mentions, mentions_of, names_mentioned}
use Rattle.dslx_meaning.specs.Rules.Namesakes.{marked_definition, told_apart}
use Rattle.dslx_check_items.specs.Items.{item_number}
use Rattle.dslx_check_rules.specs.Interned.{AreDistinct}
use Rattle.dslx_check_facts.specs.Names.{HasNoMarks, definition_at, name_or, names_of}
use Rattle.dslx_check_facts.proofs.Lemmas.Firsts.{not_named, stands_first}
use Rattle.dslx_check_facts.proofs.Lemmas.Mentioned.{mentioned_alike, plain_at}
use Rattle.dslx_check.proofs.OnText.OnMarks.{ToldOf, told_of, told_past}

-- ---- numbers of names

none_behind : (o : Option ℕ) → option_map suc o ≡ None → o ≡ None
none_behind None e = refl
none_behind (Some k) e = absurd (none-some (suc k) (sym e))

-- the name of an item has one
has_number : (is : List Item) (i : ℕ) (x : Definition) → definition_at is i ≡ Some x → item_number (name_of_definition x) is ≡ None → ⊥
has_number [] i x e q = none-some x e
has_number (y ∷ is) i x e q = by i (bytes_eq (name_of_definition x) (name_of_definition y.definition)) refl e q (λ j. has_number is j x)
  where
    by : (j : ℕ) (b : Bool) → bytes_eq (name_of_definition x) (name_of_definition y.definition) ≡ b → definition_at (y ∷ is) j ≡ Some x → (if b then Some 0 else option_map suc (item_number (name_of_definition x) is)) ≡ None
        → ((k : ℕ) → definition_at is k ≡ Some x → item_number (name_of_definition x) is ≡ None → ⊥) → ⊥
    by j true same f r rest = none-some 0 (sym r)
    by zero false same f r rest = true≢false (sym ((bytes_eq-Decides (name_of_definition x) (name_of_definition y.definition)).1 (ap name_of_definition (sym (same_Some y.definition x f)))) ∙ same)
    by (suc j) false same f r rest = rest j f (none_behind (item_number (name_of_definition x) is) r)

-- ---- where no two have one name, the item of a number is the first of its name

pub first_named : (text : Module) → AreDistinct (names_of text) → (i : ℕ) → item_named ((names_of text).item i) (told_apart text).items ≡ definition_at (told_apart text).items i
first_named text distinct i = by_number (item_number name items) refl
  where
    items : List Item
    items = (told_apart text).items

    name : List ℕ
    name = (names_of text).item i

    nothing : (o : Option Definition) → definition_at items i ≡ o → item_number name items ≡ None → None ≡ o
    nothing None e q = refl
    nothing (Some x) e q = absurd (has_number items i x e (ap (λ n. item_number n items) (sym (ap (name_or i) e)) ∙ q))

    by_number : (o : Option ℕ) → item_number name items ≡ o → item_named name items ≡ definition_at items i
    by_number None q = not_named name items q ∙ nothing (definition_at items i) refl q
    by_number (Some k) q =
        let first = stands_first name [] items k refl q in
        let one : k ≡ i = distinct k i (ap (name_or k) first.plain ∙ first.called) in
        first.named ∙ sym first.plain ∙ ap (definition_at items) one

-- the number in the text of a name is the number of the item that is called so
pub number_called : (text : Module) (name : List ℕ) (k : ℕ) → item_number name text.items ≡ Some k → (names_of text).item k ≡ name
number_called text name k e = let first = stands_first name [] text.items k refl e in ap (name_or k) first.at ∙ first.called

-- ---- what is mentioned

-- marks change nothing that an item mentions
mentions_marked : (n : ℕ) (x : Definition) → definition_mentions (marked_definition n x) ≡ definition_mentions x
mentions_marked n (d.Function f) = refl
mentions_marked n (d.Proc p) = refl
mentions_marked n (d.Constant c) = refl
mentions_marked n (d.Alias a) = refl
mentions_marked n (d.Struct s) = refl
mentions_marked n (d.Enum e) = refl

pub mentions_alike : (text : Module) → HasNoMarks text → (i : ℕ) → mentions_of (told_apart text) (definition_at (told_apart text).items i) ≡ mentions_of text (definition_at text.items i)
mentions_alike text plain i = by (definition_at text.items i) refl
  where
    by : (o : Option Definition) → definition_at text.items i ≡ o → mentions_of (told_apart text) (definition_at (told_apart text).items i) ≡ mentions_of text o
    by None e = ap (mentions_of (told_apart text)) (told_past text i e)
    by (Some x) e =
        let told : ToldOf text i x = told_of text i x e in
        ap (mentions_of (told_apart text)) told.at ∙ ap (names_mentioned (told_apart text)) (mentions_marked told.marks x) ∙ mentioned_alike text (definition_mentions x) (plain_at text.items plain i x e).mentions
