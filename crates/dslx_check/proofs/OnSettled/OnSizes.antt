-- Instances of functions, whatever their parametric arguments are: one link more than two for each item below adds nothing to their bodies.
use Rattle.std.proofs.Common.{◌*◌, ◌≡◌, ◌∙◌, ◌≤◌, ℕ, zero, suc, Bool, true, false, List, [], ◌∷◌, Option, Some, None, length, arith, refl, sym, ap, subst}
use mathlib.Core.Bool.{true≢false}
use Rattle.dslx_tree.specs.declared.item.Definition.{Definition}
use Rattle.dslx_tree.specs.declared.item.Definition.TheVariants as d
use Rattle.dslx_tree.specs.declared.item.Function.{Function}
use Rattle.dslx_tree.specs.declared.item.Module.{Module}
use Rattle.dslx_meaning.specs.Items.{as_function, item_named}
use Rattle.dslx_meaning.specs.declared.value.DslxValue.{DslxValue}
use Rattle.dslx_meaning.specs.Rules.ItemRules.{FunctionSeen, function_seen}
use Rattle.dslx_meaning.specs.Rules.Mentions.{AsValue, field_names, is_of_use, item_reaches, parametric_names}
use Rattle.dslx_meaning.specs.Rules.ModuleRules.{globals_of, globals_within, size_known}
use Rattle.dslx_meaning.specs.Rules.Namesakes.{told_apart}
use Rattle.dslx_meaning.specs.Rules.TypeEnvs.{GlobalEnv}
use Rattle.dslx_core.specs.Typing.Depends.Alike.{NamesAlike, TypesAlike}
use Rattle.dslx_core.proofs.Lemmas.Typing.Depends.{FunctionParts, Sight, Stage, below_settles, beside_sight, every_item_settles, function_at, function_parts, function_types, is_reached_so, item_rank, mentions_pass, own_mentions, own_settles, ranked, ranks_settle, reads_level, settles, settles_closed, settles_next, stage_sight, uses_over}
use Rattle.dslx_core.proofs.Lemmas.Typing.Laws.Reaching.{reaches_on}
use Rattle.dslx_core.proofs.Lemmas.Typing.TypingRelations.{whole_is}
use Rattle.dslx_check_rules.specs.Interned.{AreDistinct}
use Rattle.dslx_check_facts.specs.Names.{names_of}
use Rattle.dslx_check_declarations.proofs.Lemmas.Work.Firsts.{first_named}
use Rattle.dslx_check_declarations.specs.Work.Settled.{FunctionsSettle, instance_of_function, told_item}
use Rattle.dslx_check.proofs.OnSettled.OnItems.{sound}

-- an item that reaches itself has no value, and is no enum with members
abbrev pub LoopsHaveNoValue : Type 0
LoopsHaveNoValue = (m : Module) (name : List ℕ) → item_reaches m name name ≡ true → (n : ℕ) → (globals_within m n).items.constant name ≡ None

abbrev pub LoopsHaveNoMember : Type 0
LoopsHaveNoMember = (m : Module) (name : List ℕ) → item_reaches m name name ≡ true → (n : ℕ) (member : List ℕ) → (globals_within m n).items.member name member ≡ None

-- where there is an item, there are as many as one more than some number
pub one_more : {X : Type 0} (m : Module) (name : List ℕ) (x : Definition) → item_named name m.items ≡ Some x → ((k : ℕ) → length m.items ≡ suc k → X) → X
one_more {X = X} m name x e f = by_length (length m.items) refl
  where
    by_length : (n : ℕ) → length m.items ≡ n → X
    by_length zero q = absurd (true≢false (sym (item_rank m name x e) ∙ (λ i. ranked m (q i) name)))
    by_length (suc k) q = f k q

-- the level of all items
pub two_for_each : (m : Module) (k : ℕ) → length m.items ≡ suc k → 2 * length m.items ≡ suc (suc (2 * k))
two_for_each m k many = omega (arith, many)

module _ (no_value : LoopsHaveNoValue) (no_member : LoopsHaveNoMember) (m : Module) (k : ℕ) (many : length m.items ≡ suc k) where
  abbrev low : ℕ
  low = 2 * k

  -- one link less than two for each item, and two
  abbrev A : GlobalEnv
  A = globals_within m (suc low)

  abbrev B : GlobalEnv
  B = globals_within m (suc (suc low))

  abbrev P : List ℕ → Bool
  P = settles m k

  abbrev Q : List ℕ → Bool
  Q = settles m (suc k)

  abbrev T : List ℕ → List ℕ → Bool
  T = is_reached_so m k

  first : Stage P m (globals_within m low) A
  first =
      let least : 2 * k ≤ low = omega arith in
      let next : 2 * k ≤ suc low = omega arith in
      ranks_settle m k low (suc low) least next

  second : Stage P m A B
  second =
      let next : 2 * k ≤ suc low = omega arith in
      let further : 2 * k ≤ suc (suc low) = omega arith in
      ranks_settle m k (suc low) (suc (suc low)) next further

  -- ---- constants, whatever binds their names

  ranks_below : (name : List ℕ) → item_reaches m name name ≡ false → is_of_use AsValue (item_named name m.items) ≡ true → mentions_pass P m name ≡ true
  ranks_below name free e = settles_next m k name (subst (λ n. settles m n name ≡ true) many (by_item (item_named name m.items) refl e)) free
    where
      by_item : (o : Option Definition) → item_named name m.items ≡ o → is_of_use AsValue o ≡ true → settles m (length m.items) name ≡ true
      by_item (Some (d.Constant c)) q h = every_item_settles m name (d.Constant c) q refl
      by_item (Some (d.Function f)) q h = absurd (true≢false (sym h))
      by_item (Some (d.Proc p)) q h = absurd (true≢false (sym h))
      by_item (Some (d.Alias x)) q h = absurd (true≢false (sym h))
      by_item (Some (d.Struct x)) q h = absurd (true≢false (sym h))
      by_item (Some (d.Enum x)) q h = absurd (true≢false (sym h))
      by_item None q h = absurd (true≢false (sym h))

  constant_settles : (name : List ℕ) → A.items.constant name ≡ B.items.constant name
  constant_settles name = by_loop (item_reaches m name name) refl
    where
      by_loop : (b : Bool) → item_reaches m name name ≡ b → A.items.constant name ≡ B.items.constant name
      by_loop true q = no_value m name q (suc low) ∙ sym (no_value m name q (suc (suc low)))
      by_loop false q =
          uses_over P (mentions_pass P m) (λ owner. P) m (globals_within m low) A (stage_sight P m (globals_within m low) A (settles_closed m k) first) (λ owner h. h) AsValue name (ranks_below name q)

  names_settle : (names : List (List ℕ)) → NamesAlike A B names
  names_settle [] = tt
  names_settle (n ∷ ns) = (constant_settles n, names_settle ns)

  -- ---- functions

  -- enums beside an item have no members
  no_members : (owner name : List ℕ) → Q owner ≡ true → item_reaches m owner name ≡ true → item_reaches m name owner ≡ true → (member : List ℕ)
      → (globals_within m low).items.member name member ≡ A.items.member name member
  no_members owner name h e back member = let loops = reaches_on m name owner name back e in no_member m name loops low member ∙ sym (no_member m name loops (suc low) member)

  types : (f : Function) → item_named f.name.name m.items ≡ Some (d.Function f) → Q f.name.name ≡ true → TypesAlike A B f.name.name
  types f is h = function_types m P Q (settles_closed m k) (below_settles m k) (globals_within m low) A (reads_level m low) (reads_level m (suc low)) first no_members f is h

  sight : Sight P Q T m A B
  sight = beside_sight m k (suc low) (suc (suc low)) second types

  instance_settles : (f : Function) → item_named f.name.name m.items ≡ Some (d.Function f) → (parametric_args : List DslxValue) → function_seen A f parametric_args ≡ function_seen B f parametric_args
  instance_settles f is parametric_args =
      let own : Q f.name.name ≡ true = subst (λ n. settles m n f.name.name ≡ true) many (every_item_settles m f.name.name (d.Function f) is refl) in
      let parts : FunctionParts T m f = function_parts T m f (own_mentions P Q T m A B sight (own_settles m k) f.name.name (d.Function f) is own) in
      function_at P Q T m A B sight f own parts (names_settle (parametric_names f.parametrics)) (names_settle (field_names f.arguments)) parametric_args

  size_settles : (f : Function) → item_named f.name.name m.items ≡ Some (d.Function f) → (parametric_args : List DslxValue)
      → B.body_size (instance_of_function f parametric_args) ≡ (function_seen B f parametric_args).body.size
  size_settles f is parametric_args =
      (λ i. size_known A parametric_args (as_function (item_named f.name.name (whole_is m (suc low) i).items))) ∙ ap (λ o. size_known A parametric_args (as_function o)) is
      ∙ ap (λ (x : FunctionSeen). x.body.size) (instance_settles f is parametric_args)

-- ---- of the whole text

size : LoopsHaveNoValue → LoopsHaveNoMember → (m : Module) (f : Function) → item_named f.name.name m.items ≡ Some (d.Function f) → (parametric_args : List DslxValue)
    → (globals_of m).body_size (instance_of_function f parametric_args) ≡ (function_seen (globals_of m) f parametric_args).body.size
size no_value no_member m f is parametric_args =
    one_more m f.name.name (d.Function f) is (λ k many.
    subst (λ n. (globals_within m n).body_size (instance_of_function f parametric_args) ≡ (function_seen (globals_within m n) f parametric_args).body.size) (sym (two_for_each m k many))
    (size_settles no_value no_member m k many f is parametric_args))

pub functions : LoopsHaveNoValue → LoopsHaveNoMember → (text : Module) → AreDistinct (names_of text) → FunctionsSettle text (globals_of (told_apart text))
functions no_value no_member text distinct = record {
  sound = λ i f parametric_args e. (sound m (instance_of_function f parametric_args) f (ap as_function (named i f e))).0;
  unbroken = λ i f parametric_args e. (sound m (instance_of_function f parametric_args) f (ap as_function (named i f e))).1;
  size = λ i f parametric_args e. size no_value no_member m f (named i f e) parametric_args;
}
  where
    m : Module
    m = told_apart text

    named : (i : ℕ) (f : Function) → told_item text i ≡ Some (d.Function f) → item_named f.name.name m.items ≡ Some (d.Function f)
    named i f e = first_named text distinct i (d.Function f) e
