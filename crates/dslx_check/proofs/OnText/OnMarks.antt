-- Where items of one name are told apart, no two have one name.
use Rattle.std.proofs.Common.{◌≡◌, ◌∙◌, ◌≤◌, ◌<◌, ◌+◌, ℕ, zero, suc, Bool, true, false, List, [], ◌∷◌, ◌++◌, Option, Some, None, refl, sym, ap, subst, arith, if◌then◌else◌}
use Rattle.std.specs.List.{AllByRecursion}
use Rattle.std.specs.Str.{bytes_eq}
use Rattle.std.proofs.lemmas.List.{append_cancel_right}
use Rattle.std.proofs.lemmas.Option.{none-some, same_Some}
use Rattle.std.proofs.lemmas.Slice.Eq.{bytes_eq-Decides}
use Rattle.dslx_tree.specs.declared.item.Definition.{Definition}
use Rattle.dslx_tree.specs.declared.item.Definition.TheVariants as d
use Rattle.dslx_tree.specs.declared.item.Item.{Item}
use Rattle.dslx_tree.specs.declared.item.Module.{Module}
use Rattle.dslx_meaning.specs.Lists.{times_in}
use Rattle.dslx_meaning.specs.Items.{name_of_definition}
use Rattle.dslx_meaning.specs.Rules.Namesakes.{mark, marked, marked_definition, told_apart, told_apart_behind}
use Rattle.dslx_check_rules.specs.Interned.{AreDistinct}
use Rattle.dslx_check_facts.specs.Names.{HasNoMarks, IsUnmarked, definition_at, name_or, names_of}
use Rattle.dslx_check_facts.proofs.Lemmas.Mentioned.{plain_at}

-- ---- a name with marks

last_marked : (xs : List ℕ) → IsUnmarked (xs ++ mark ∷ []) → ⊥
last_marked [] h = omega (arith, h.0)
last_marked (x ∷ xs) h = last_marked xs h.1

-- is one name, with so many marks
same_marked : (n k : ℕ) (a b : List ℕ) → IsUnmarked a → IsUnmarked b → marked n a ≡ marked k b → (a ≡ b) × (n ≡ k)
same_marked zero zero a b u v e = (e, refl)
same_marked zero (suc k) a b u v e = absurd (last_marked (marked k b) (subst IsUnmarked e u))
same_marked (suc n) zero a b u v e = absurd (last_marked (marked n a) (subst IsUnmarked (sym e) v))
same_marked (suc n) (suc k) a b u v e =
    let less = same_marked n k a b u v (append_cancel_right (marked n a) (marked k b) (mark ∷ []) e) in
    (less.0, ap suc less.1)

-- and of bytes and marks alone
abbrev AtMostMarks : List ℕ → Type 0
AtMostMarks name = AllByRecursion (λ b. b ≤ mark) name

at_most : (name : List ℕ) → IsUnmarked name → AtMostMarks name
at_most [] u = tt
at_most (b ∷ bs) u = (omega (arith, u.0), at_most bs u.1)

one_more_mark : (name : List ℕ) → AtMostMarks name → AtMostMarks (name ++ mark ∷ [])
one_more_mark [] h = (omega arith, tt)
one_more_mark (b ∷ bs) h = (h.0, one_more_mark bs h.1)

marks_at_most : (n : ℕ) (name : List ℕ) → IsUnmarked name → AtMostMarks (marked n name)
marks_at_most zero name u = at_most name u
marks_at_most (suc n) name u = one_more_mark (marked n name) (marks_at_most n name u)

-- so it is no name past the end
never_past : (n i : ℕ) (name : List ℕ) → IsUnmarked name → marked n name ≡ (mark + suc i) ∷ [] → ⊥
never_past n i name u e = omega (arith, (subst AtMostMarks e (marks_at_most n name u)).0)

first_or : ℕ → List ℕ → ℕ
first_or n [] = n
first_or n (x ∷ xs) = x

-- ---- the names before an item

abbrev names_before : List (List ℕ) → List Item → ℕ → List (List ℕ)
names_before before is zero = before
names_before before [] (suc i) = before
names_before before (x ∷ is) (suc i) = names_before (name_of_definition x.definition ∷ before) is i

not_fewer : (b : Bool) (n : ℕ) → n ≤ (if b then suc n else n)
not_fewer true n = omega arith
not_fewer false n = omega arith

-- are more and more
no_fewer : (name : List ℕ) (before : List (List ℕ)) (is : List Item) (j : ℕ) → times_in name before ≤ times_in name (names_before before is j)
no_fewer name before is zero = omega arith
no_fewer name before [] (suc j) = omega arith
no_fewer name before (x ∷ is) (suc j) =
    let next : times_in name before ≤ times_in name (name_of_definition x.definition ∷ before) = not_fewer (bytes_eq name (name_of_definition x.definition)) (times_in name before) in
    let rest : times_in name (name_of_definition x.definition ∷ before) ≤ times_in name (names_before (name_of_definition x.definition ∷ before) is j) =
    no_fewer name (name_of_definition x.definition ∷ before) is j in
    omega (arith, next, rest)

-- and more of the name of an item behind it
more_behind : (before : List (List ℕ)) (is : List Item) (i j : ℕ) (x : Definition) → definition_at is i ≡ Some x → i < j
    → times_in (name_of_definition x) (names_before before is i) < times_in (name_of_definition x) (names_before before is j)
more_behind before [] i j x e h = absurd (none-some x e)
more_behind before (y ∷ is) zero zero x e h = absurd (omega (arith, h))
more_behind before (y ∷ is) zero (suc j) x e h =
    let name : List ℕ = name_of_definition x in
    let same : bytes_eq name (name_of_definition y.definition) ≡ true = (bytes_eq-Decides name (name_of_definition y.definition)).1 (ap name_of_definition (sym (same_Some y.definition x e))) in
    let one : times_in name (name_of_definition y.definition ∷ before) ≡ suc (times_in name before) = ap (λ b. if b then suc (times_in name before) else times_in name before) same in
    let rest : times_in name (name_of_definition y.definition ∷ before) ≤ times_in name (names_before (name_of_definition y.definition ∷ before) is j) =
    no_fewer name (name_of_definition y.definition ∷ before) is j in
    omega (arith, one, rest)
more_behind before (y ∷ is) (suc i) zero x e h = absurd (omega (arith, h))
more_behind before (y ∷ is) (suc i) (suc j) x e h = more_behind (name_of_definition y.definition ∷ before) is i j x e (omega (arith, h))

-- ---- the item of a number, where items of one name are told apart

abbrev marks_at : List (List ℕ) → List Item → ℕ → Definition → ℕ
marks_at before is i x = times_in (name_of_definition x) (names_before before is i)

told_at : (before : List (List ℕ)) (is : List Item) (i : ℕ) (x : Definition) → definition_at is i ≡ Some x
    → definition_at (told_apart_behind before is) i ≡ Some (marked_definition (marks_at before is i x) x)
told_at before [] i x e = absurd (none-some x e)
told_at before (y ∷ is) zero x e = ap (λ z. Some (marked_definition (times_in (name_of_definition z) before) z)) (same_Some y.definition x e)
told_at before (y ∷ is) (suc i) x e = told_at (name_of_definition y.definition ∷ before) is i x e

not_told : (before : List (List ℕ)) (is : List Item) (i : ℕ) → definition_at is i ≡ None → definition_at (told_apart_behind before is) i ≡ None
not_told before [] i e = e
not_told before (y ∷ is) zero e = absurd (none-some y.definition (sym e))
not_told before (y ∷ is) (suc i) e = not_told (name_of_definition y.definition ∷ before) is i e

name_marked : (n : ℕ) (x : Definition) → name_of_definition (marked_definition n x) ≡ marked n (name_of_definition x)
name_marked n (d.Function f) = refl
name_marked n (d.Proc p) = refl
name_marked n (d.Constant c) = refl
name_marked n (d.Alias a) = refl
name_marked n (d.Struct s) = refl
name_marked n (d.Enum e) = refl

-- the item of the text of which that of a number is made
pub record ToldOf (text : Module) (i : ℕ) (x : Definition) : Type 0 where
  pub marks : ℕ
  pub at : definition_at (told_apart text).items i ≡ Some (marked_definition marks x)
  pub called : (names_of text).item i ≡ marked marks (name_of_definition x)

pub told_of : (text : Module) (i : ℕ) (x : Definition) → definition_at text.items i ≡ Some x → ToldOf text i x
told_of text i x e =
    let n : ℕ = marks_at [] text.items i x in
    let at : definition_at (told_apart text).items i ≡ Some (marked_definition n x) = told_at [] text.items i x e in
    record { marks = n; at = at; called = ap (name_or i) at ∙ name_marked n x }

pub told_past : (text : Module) (i : ℕ) → definition_at text.items i ≡ None → definition_at (told_apart text).items i ≡ None
told_past text i e = not_told [] text.items i e

past_called : (text : Module) (i : ℕ) → definition_at text.items i ≡ None → (names_of text).item i ≡ (mark + suc i) ∷ []
past_called text i e = ap (name_or i) (told_past text i e)

-- ---- no two have one name

called_at : (text : Module) (i : ℕ) (x : Definition) → definition_at text.items i ≡ Some x → (names_of text).item i ≡ marked (marks_at [] text.items i x) (name_of_definition x)
called_at text i x e = ap (name_or i) (told_at [] text.items i x e) ∙ name_marked (marks_at [] text.items i x) x

-- of two in their order
ordered : (is : List Item) (i j : ℕ) (x y : Definition) → definition_at is i ≡ Some x → name_of_definition x ≡ name_of_definition y → marks_at [] is i x ≡ marks_at [] is j y → i < j → ⊥
ordered is i j x y e same many h =
    let more = more_behind [] is i j x e h in
    let there : marks_at [] is j y ≡ times_in (name_of_definition x) (names_before [] is j) = ap (λ name. times_in name (names_before [] is j)) (sym same) in
    omega (arith, more, there, many)

compared : (i j : ℕ) → (i < j → ⊥) → (j < i → ⊥) → i ≡ j
compared zero zero f g = refl
compared zero (suc j) f g = absurd (f (omega arith))
compared (suc i) zero f g = absurd (g (omega arith))
compared (suc i) (suc j) f g = ap suc (compared i j (λ h. f (omega (arith, h))) (λ h. g (omega (arith, h))))

pub distinct : (text : Module) → HasNoMarks text → AreDistinct (names_of text)
unfolding first_or
distinct text plain i j same = by (definition_at text.items i) (definition_at text.items j) refl refl
  where
    by : (o p : Option Definition) → definition_at text.items i ≡ o → definition_at text.items j ≡ p → i ≡ j
    by (Some x) (Some y) e f =
        let one = same_marked (marks_at [] text.items i x) (marks_at [] text.items j y) (name_of_definition x) (name_of_definition y) (plain_at text.items plain i x e).named (plain_at text.items plain j y f).named
        (sym (called_at text i x e) ∙ same ∙ called_at text j y f) in
        compared i j (ordered text.items i j x y e one.0 one.1) (ordered text.items j i y x f (sym one.0) (sym one.1))
    by (Some x) None e f =
        absurd (never_past (marks_at [] text.items i x) j (name_of_definition x) (plain_at text.items plain i x e).named (sym (called_at text i x e) ∙ same ∙ past_called text j f))
    by None (Some y) e f =
        absurd (never_past (marks_at [] text.items j y) i (name_of_definition y) (plain_at text.items plain j y f).named (sym (called_at text j y f) ∙ sym same ∙ past_called text i e))
    by None None e f = let one : mark + suc i ≡ mark + suc j = ap (first_or 0) (sym (past_called text i e) ∙ same ∙ past_called text j f) in omega (arith, one)
