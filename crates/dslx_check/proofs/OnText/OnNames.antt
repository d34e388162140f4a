-- What the text's own global environment says of names.
use Rattle.std.proofs.Common.{◌≡◌, ◌∙◌, ◌*◌, ◌<◌, ◌==◌, ◌&&◌, ◌||◌, inr, ℕ, zero, suc, Bool, true, false, List, [], ◌∷◌, Option, Some, None, length, slice_get, refl, sym, ap, arith}
use mathlib.Core.Bool.{true≢false}
use mathlib.Core.Logic.{⊎_elim}
use Rattle.std.specs.Str.{bytes_eq}
use Rattle.std.proofs.lemmas.Bool.Decides.{Decides-eqb}
use Rattle.std.proofs.lemmas.Option.{none-some}
use Rattle.std.proofs.lemmas.Slice.Eq.{bytes_eq-Decides}
use Rattle.base.specs.TopoOrder.Needs.{AreGroups, AreMutual, Needs, Reaches, by_way, itself}
use Rattle.dslx_tree.specs.declared.item.Module.{Module}
use Rattle.dslx_meaning.specs.Rules.Mentions.{is_cyclic, item_reaches}
use Rattle.dslx_meaning.specs.Rules.ModuleRules.{globals_of, globals_within}
use Rattle.dslx_meaning.specs.Rules.Namesakes.{told_apart}
use Rattle.dslx_core.proofs.Lemmas.Typing.Laws.Chains.{or_cases, or_first, or_second}
use Rattle.dslx_core.proofs.Lemmas.Typing.Laws.Reaching.{both_of}
use Rattle.dslx_check_items.specs.Reaching.{AreReached, item_needs}
use Rattle.dslx_check_items.specs.declared.reaching.Reaching.{Reaching}
use Rattle.dslx_check_rules.specs.Interned.{AreDistinct}
use Rattle.dslx_check_facts.specs.Known.{is_so, same_group}
use Rattle.dslx_check_facts.specs.Names.{names_of}
use Rattle.dslx_check_declarations.specs.Work.Text.{HasItemsByKind, loops_by, name_in}
use Rattle.dslx_check.specs.Text.ByNames.{IsTextByNames, ReachAlike}

-- ---- tests

alike : (p q : Bool) → (p ≡ true → q ≡ true) → (q ≡ true → p ≡ true) → p ≡ q
alike true q f g = sym (f refl)
alike false true f g = g refl
alike false false f g = refl

both : (p q : Bool) → p ≡ true → q ≡ true → (p && q) ≡ true
both p q e f = ap (λ b. b && q) e ∙ f

-- ---- groups

-- what needs something is among the items
needs_something : (needs : List (List ℕ)) (i j : ℕ) → Needs needs i j → i < length needs
needs_something [] i j need = absurd (none-some j need.1)
needs_something (n ∷ needs) zero j need = omega arith
needs_something (n ∷ needs) (suc i) j need = omega (arith, needs_something needs i j need)

reaches_something : (needs : List (List ℕ)) (i j : ℕ) → Reaches needs i j → i < length needs
reaches_something needs i j (itself _ _ need) = needs_something needs i j need
reaches_something needs i k (by_way _ j _ need on) = needs_something needs i j need

place : {A : Type 0} (xs : List A) (i : ℕ) → i < length xs → (x : A) × (slice_get xs i ≡ Some x)
place [] i h = absurd (omega (arith, h))
place (x ∷ xs) zero h = (x, refl)
place (x ∷ xs) (suc i) h = place xs i (omega (arith, h))

grouped : (a b : Option ℕ) (g h : ℕ) → a ≡ Some g → b ≡ Some h → g ≡ h → same_group a b ≡ true
grouped a b g h e f one = (λ t. same_group (e t) (f t)) ∙ (Decides-eqb g h).1 one

same_group_there : (needs : List (List ℕ)) (groups : List ℕ) → AreGroups needs groups → (i j : ℕ) → Reaches needs i j → Reaches needs j i → same_group (slice_get groups i) (slice_get groups j) ≡ true
same_group_there needs groups are i j on back =
    let at_i = place groups i (omega (arith, are.size, reaches_something needs i j on)) in
    let at_j = place groups j (omega (arith, are.size, reaches_something needs j i back)) in
    grouped (slice_get groups i) (slice_get groups j) at_i.0 at_j.0 at_i.1 at_j.1 (are.one i j at_i.0 at_j.0 at_i.1 at_j.1 (inr (on, back)))

mutual_there : (needs : List (List ℕ)) (groups : List ℕ) → AreGroups needs groups → (i j : ℕ) → same_group (slice_get groups i) (slice_get groups j) ≡ true → AreMutual needs i j
mutual_there needs groups are i j e = by (slice_get groups i) (slice_get groups j) refl refl e
  where
    by : (a b : Option ℕ) → slice_get groups i ≡ a → slice_get groups j ≡ b → same_group a b ≡ true → AreMutual needs i j
    by (Some g) (Some h) p q f = are.only i j g p (q ∙ ap Some (sym ((Decides-eqb g h).0 f)))
    by (Some g) None p q f = absurd (true≢false (sym f))
    by None b p q f = absurd (true≢false (sym f))

-- ---- what is cyclic

cyclic_alike : (text : Module) (groups : List ℕ) → AreDistinct (names_of text) → ReachAlike text → AreGroups (item_needs text) groups → (i j : ℕ)
    → is_cyclic (told_apart text) (name_in text i) (name_in text j) ≡ (i == j || same_group (slice_get groups i) (slice_get groups j))
cyclic_alike text groups distinct reach are i j =
    alike (is_cyclic (told_apart text) (name_in text i) (name_in text j)) (i == j || same_group (slice_get groups i) (slice_get groups j)) there back
  where
    reaches : ℕ → ℕ → Bool
    reaches a b = item_reaches (told_apart text) (name_in text a) (name_in text b)

    there : is_cyclic (told_apart text) (name_in text i) (name_in text j) ≡ true → (i == j || same_group (slice_get groups i) (slice_get groups j)) ≡ true
    there e =
        or_cases (bytes_eq (name_in text j) (name_in text i)) (reaches j i && reaches i j) e
        (λ q. or_first (i == j) (same_group (slice_get groups i) (slice_get groups j)) ((Decides-eqb i j).1 (sym (distinct j i ((bytes_eq-Decides (name_in text j) (name_in text i)).0 q)))))
        (λ q.
        let p = both_of (reaches j i) (reaches i j) q in
        or_second (i == j) (same_group (slice_get groups i) (slice_get groups j)) (same_group_there (item_needs text) groups are i j ((reach i j).0 p.1) ((reach j i).0 p.0)))

    one : i ≡ j → is_cyclic (told_apart text) (name_in text i) (name_in text j) ≡ true
    one q = or_first (bytes_eq (name_in text j) (name_in text i)) (reaches j i && reaches i j) ((bytes_eq-Decides (name_in text j) (name_in text i)).1 (ap (name_in text) (sym q)))

    back : (i == j || same_group (slice_get groups i) (slice_get groups j)) ≡ true → is_cyclic (told_apart text) (name_in text i) (name_in text j) ≡ true
    back e =
        or_cases (i == j) (same_group (slice_get groups i) (slice_get groups j)) e (λ q. one ((Decides-eqb i j).0 q))
        (λ q. ⊎_elim one
        (λ m. or_second (bytes_eq (name_in text j) (name_in text i)) (reaches j i && reaches i j) (both (reaches j i) (reaches i j) ((reach j i).1 m.1) ((reach i j).1 m.0)))
        (mutual_there (item_needs text) groups are i j q))

-- it asks so however long chains are
cyclic_within : (m : Module) (n : ℕ) (a b : List ℕ) → (globals_within m n).is_cyclic a b ≡ is_cyclic m a b
cyclic_within m zero a b = refl
cyclic_within m (suc n) a b = ap (λ (w : Module). is_cyclic w a b) (whole_is n)
  where
    whole_is : (k : ℕ) → (globals_within m k).whole ≡ m
    whole_is zero = refl
    whole_is (suc k) = whole_is k

-- ---- what reaches itself

looping : (needs : List (List ℕ)) (reaching : Reaching) → AreReached needs reaching → (i : ℕ) → loops_by reaching i ≡ true → Reaches needs i i
looping needs reaching are i e = by (slice_get reaching.loops.items i) refl e
  where
    by : (o : Option Bool) → slice_get reaching.loops.items i ≡ o → is_so o ≡ true → Reaches needs i i
    by None q f = absurd (true≢false (sym f))
    by (Some true) q f = are.loops i true q
    by (Some false) q f = absurd (true≢false (sym f))

not_looping : (text : Module) (reaching : Reaching) → ReachAlike text → AreReached (item_needs text) reaching → (i : ℕ) → loops_by reaching i ≡ false → item_reaches (told_apart text) (name_in text i) (name_in text i) ≡ false
not_looping text reaching reach are i e = by (item_reaches (told_apart text) (name_in text i) (name_in text i)) refl
  where
    never : Reaches (item_needs text) i i → (does : Bool) → slice_get reaching.loops.items i ≡ Some does → does ≡ false → ⊥
    never on true q f = true≢false f
    never on false q f = are.loops i false q on

    by : (b : Bool) → item_reaches (told_apart text) (name_in text i) (name_in text i) ≡ b → b ≡ false
    by true q =
        let on : Reaches (item_needs text) i i = (reach i i).0 q in
        let at = place reaching.loops.items i (omega (arith, are.size, reaches_something (item_needs text) i i on)) in
        absurd (never on at.0 at.1 (sym (ap is_so at.1) ∙ e))
    by false q = refl

-- ---- all of it

pub known_by_names : (text : Module) (reaching : Reaching) → AreDistinct (names_of text) → ReachAlike text → AreReached (item_needs text) reaching → HasItemsByKind (told_apart text) (globals_of (told_apart text))
    → ((m : Module) (name : List ℕ) → item_reaches m name name ≡ true → (n : ℕ) → (globals_within m n).items.type_named name ≡ None)
    → ((m : Module) (name : List ℕ) → item_reaches m name name ≡ true → (n : ℕ) → (globals_within m n).items.struct_named name ≡ None)
    → ((m : Module) (name : List ℕ) → item_reaches m name name ≡ true → (n : ℕ) → (globals_within m n).items.constant name ≡ None)
    → ((m : Module) (name : List ℕ) → item_reaches m name name ≡ true → (n : ℕ) (member : List ℕ) → (globals_within m n).items.member name member ≡ None)
    → IsTextByNames text reaching (globals_of (told_apart text))
known_by_names text reaching distinct reach are kinds types structs constants members =
    let loops : (i : ℕ) → loops_by reaching i ≡ true → item_reaches (told_apart text) (name_in text i) (name_in text i) ≡ true = λ i e. (reach i i).1 (looping (item_needs text) reaching are i e) in
    let size : ℕ = 2 * length (told_apart text).items in
    record {
      whole = kinds.whole;
      distinct = distinct;
      needs = are.kept;
      is_constant = kinds.is_constant;
      cyclic = λ i j. cyclic_within (told_apart text) size (name_in text i) (name_in text j) ∙ cyclic_alike text reaching.groups.items distinct reach are.groups i j;
      not_type = kinds.not_type;
      not_struct = kinds.not_struct;
      not_constant = kinds.not_constant;
      not_enum = kinds.not_enum;
      no_type = λ i e. types (told_apart text) (name_in text i) (loops i e) size;
      no_struct = λ i e. structs (told_apart text) (name_in text i) (loops i e) size;
      no_constant = λ i e. constants (told_apart text) (name_in text i) (loops i e) size;
      no_member = λ i name e. members (told_apart text) (name_in text i) (loops i e) size name;
      reaches = λ i e. ap (λ m. item_reaches m (name_in text i) (name_in text i)) kinds.whole ∙ loops i e;
      free = λ i e. ap (λ m. item_reaches m (name_in text i) (name_in text i)) kinds.whole ∙ not_looping text reaching reach are i e;
    }
