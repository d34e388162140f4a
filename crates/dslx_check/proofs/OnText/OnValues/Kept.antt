-- By what is kept an expression means what it means by what is known, where it mentions only items that are kept with all that they mention.
use Rattle.std.proofs.Common.{◌*◌, ◌≡◌, ◌≤◌, ◌&&◌, ℕ, zero, suc, Bool, true, false, not, if◌then◌else◌, List, [], ◌∷◌, length, Option, Some, None, arith, refl, sym, ap, subst, ◌∙◌}
use mathlib.Core.Bool.{true≢false}
use Rattle.std.specs.List.{AllByRecursion, list_all, list_any}
use Rattle.std.specs.Str.{bytes_eq}
use Rattle.std.proofs.lemmas.Slice.Eq.{bytes_eq-Decides}
use Rattle.dslx_tree.specs.declared.expr.Expr.{Expr}
use Rattle.dslx_tree.specs.declared.item.Definition.{Definition}
use Rattle.dslx_tree.specs.declared.item.Definition.TheVariants as d
use Rattle.dslx_tree.specs.declared.item.Item.{Item}
use Rattle.dslx_tree.specs.declared.item.Module.{Module}
use Rattle.dslx_meaning.specs.Environment.{Given, Meanings}
use Rattle.dslx_meaning.specs.Items.{as_function, as_struct, call_of, is_constant_item, item_named, meanings_over, name_of_definition, struct_type, type_of_item}
use Rattle.dslx_meaning.specs.Lists.{and_then}
use Rattle.dslx_meaning.specs.Meaning.{value_of}
use Rattle.dslx_meaning.specs.declared.value.DslxValue.{DslxValue}
use Rattle.dslx_meaning.specs.Rules.Mentions.{AsEnum, AsFunction, AsPattern, AsStruct, AsType, AsValue, Mention, Use, definition_mentions, is_of_use, item_reaches, mentioned, mentions_of, names_mentioned}
use Rattle.dslx_meaning.specs.Rules.ModuleRules.{globals_of}
use Rattle.dslx_meaning.specs.Rules.Namesakes.{told_apart, told_apart_behind}
use Rattle.dslx_meaning.specs.Rules.TypeEnvs.{GlobalEnv}
use Rattle.dslx_meaning.specs.Names.ConstMachine.Kept.{KeptValues, kept_within, unless_hidden}
use Rattle.dslx_core.specs.Typing.Laws.Agreement.{ItemMeansOne}
use Rattle.dslx_core.specs.Typing.Laws.Ranks.{Ranked, is_above}
use Rattle.dslx_core.proofs.Lemmas.Typing.Denotation.{OfKinds, known_kinds}
use Rattle.dslx_core.proofs.Lemmas.Typing.Depends.{reads_level}
use Rattle.dslx_core.proofs.Lemmas.Typing.Laws.{Agreeing, agree_on, and_true, item_over, value_depends}
use Rattle.dslx_core.proofs.Lemmas.Typing.Laws.Chains.{IsIn, OfEach, itself, or_first, or_second}
use Rattle.dslx_core.proofs.Lemmas.Typing.Laws.Reaching.{item_ranked, reaches_mentioned, reaches_on}
use Rattle.dslx_core.proofs.Lemmas.Typing.TypingRelations.{whole_is}
use Rattle.dslx_core.proofs.Lemmas.Typing.Typed.{none_some, same_some}
use Rattle.dslx_check_facts.specs.Kept.{AreKeptAlike}
use Rattle.dslx_check_facts.specs.Names.{HasNoMarks, IsPlainItem, IsUnmarked, MentionNoMark}
use Rattle.dslx_check_facts.proofs.Lemmas.Firsts.{same_meaning}
use Rattle.dslx_check.proofs.OnText.OnValues.Items.{call_meant, call_none, struct_meant, type_meant}

-- ---- items without marks

-- the item of a name, which has no mark, nor has what its text mentions
record PlainFound (name : List ℕ) (x : Definition) : Type 0 where
  pub named : IsUnmarked name
  pub mentions : MentionNoMark (definition_mentions x)

plain_found : (is : List Item) (name : List ℕ) (x : Definition) → AllByRecursion (λ (i : Item). IsPlainItem i.definition) is → item_named name is ≡ Some x → PlainFound name x
plain_found [] name x h e = none_some x e
plain_found (i ∷ is) name x h e = by_name (bytes_eq name (name_of_definition i.definition)) refl e (plain_found is name x h.1)
  where
    by_name : (b : Bool) → bytes_eq name (name_of_definition i.definition) ≡ b → (if b then Some i.definition else item_named name is) ≡ Some x → (item_named name is ≡ Some x → PlainFound name x) → PlainFound name x
    by_name true q r rest =
        let own = same_some i.definition x r in
        record {
          named = subst IsUnmarked (sym ((bytes_eq-Decides name (name_of_definition i.definition)).0 q)) h.0.named;
          mentions = subst (λ z. MentionNoMark (definition_mentions z)) own h.0.mentions;
        }
    by_name false q r rest = rest r

-- ---- what isn't of a kind means nothing of that kind

no_type : (x : Meanings) (o : Option Definition) → is_of_use AsType o ≡ false → type_of_item x o ≡ None
no_type x (Some (d.Alias a)) e = absurd (true≢false e)
no_type x (Some (d.Struct s)) e = absurd (true≢false e)
no_type x (Some (d.Enum n)) e = absurd (true≢false e)
no_type x (Some (d.Function f)) e = refl
no_type x (Some (d.Proc p)) e = refl
no_type x (Some (d.Constant c)) e = refl
no_type x None e = refl

no_struct : (x : Meanings) (o : Option Definition) → is_of_use AsStruct o ≡ false → and_then (as_struct o) (struct_type x) ≡ None
no_struct x (Some (d.Struct s)) e = absurd (true≢false e)
no_struct x (Some (d.Alias a)) e = refl
no_struct x (Some (d.Enum n)) e = refl
no_struct x (Some (d.Function f)) e = refl
no_struct x (Some (d.Proc p)) e = refl
no_struct x (Some (d.Constant c)) e = refl
no_struct x None e = refl

no_constant_item : (o : Option Definition) → is_of_use AsPattern o ≡ false → is_constant_item o ≡ false
no_constant_item (Some (d.Constant c)) e = absurd (true≢false e)
no_constant_item (Some (d.Alias a)) e = refl
no_constant_item (Some (d.Struct s)) e = refl
no_constant_item (Some (d.Enum n)) e = refl
no_constant_item (Some (d.Function f)) e = refl
no_constant_item (Some (d.Proc p)) e = refl
no_constant_item None e = refl

no_call : (x : Meanings) (o : Option Definition) → is_of_use AsFunction o ≡ false → (ns vs : List DslxValue) → and_then (as_function o) (λ f. call_of x f ns vs) ≡ None
no_call x (Some (d.Function f)) e ns vs = absurd (true≢false e)
no_call x (Some (d.Alias t)) e ns vs = refl
no_call x (Some (d.Struct s)) e ns vs = refl
no_call x (Some (d.Constant c)) e ns vs = refl
no_call x (Some (d.Enum n)) e ns vs = refl
no_call x (Some (d.Proc p)) e ns vs = refl
no_call x None e ns vs = refl

-- what is nothing is nothing, whether it is hidden or not
still_none : {A : Type 0} (b : Bool) (o : Option A) → o ≡ None → unless_hidden b o ≡ None
still_none true o e = refl
still_none false o e = e

none_used : (u : Use) → is_of_use u None ≡ false
none_used AsValue = refl
none_used AsPattern = refl
none_used AsType = refl
none_used AsFunction = refl
none_used Use.AsProc = refl
none_used AsEnum = refl
none_used AsStruct = refl

-- what is of a use is there
there : (is : List Item) (v : Use) (name : List ℕ) → is_of_use v (item_named name is) ≡ true → (x : Definition) × (item_named name is ≡ Some x)
there is v name of = by_item (item_named name is) refl of
  where
    by_item : (o : Option Definition) → item_named name is ≡ o → is_of_use v o ≡ true → (x : Definition) × (item_named name is ≡ Some x)
    by_item None q h = absurd (true≢false (sym h ∙ none_used v))
    by_item (Some x) q h = (x, q)

-- items that are told apart are as many
as_many : (before : List (List ℕ)) (is : List Item) → length (told_apart_behind before is) ≡ length is
as_many before [] = refl
as_many before (i ∷ is) = ap suc (as_many (name_of_definition i.definition ∷ before) is)

abbrev mentions_in : Option Definition → List Mention
mentions_in None = []
mentions_in (Some definition) = definition_mentions definition

-- ---- in a text

module _ (text : Module) (plain : HasNoMarks text) (kept : KeptValues) (P : List ℕ → Bool) (s : AreKeptAlike (globals_of (told_apart text)) kept P) where
  abbrev M : Module
  M = told_apart text

  abbrev K : GlobalEnv
  K = globals_of M

  abbrev N : ℕ
  N = 2 * length M.items

  abbrev Y : ℕ → Meanings
  Y b = kept_within kept text b

  -- ---- names

  same_item : (name : List ℕ) → IsUnmarked name → item_named name M.items ≡ item_named name text.items
  same_item name u = same_meaning name [] text.items u refl

  -- what is of no kind where items of one name are told apart is of none in the text
  lower_use : (u : Use) (name : List ℕ) → is_of_use u (item_named name M.items) ≡ false → is_of_use u (item_named name text.items) ≡ false
  lower_use u name e = by_item (item_named name text.items) refl
    where
      by_item : (o : Option Definition) → item_named name text.items ≡ o → is_of_use u (item_named name text.items) ≡ false
      by_item None q = ap (is_of_use u) q ∙ none_used u
      by_item (Some x) q = ap (is_of_use u) (sym (same_item name (plain_found text.items name x plain q).named)) ∙ e

  at_whole : {X : Type 0} (f : Module → X) → f K.whole ≡ f M
  at_whole f i = f (whole_is M N i)

  kept_none : (b : ℕ) (name : List ℕ) → is_of_use AsValue (item_named name M.items) ≡ false → (Y b).constant name ≡ None
  kept_none zero name e = s.no_constant name (at_whole (λ x. is_of_use AsValue (item_named name x.items)) ∙ e)
  kept_none (suc b) name e = s.no_constant name (at_whole (λ x. is_of_use AsValue (item_named name x.items)) ∙ e)

  member_none : (b : ℕ) (name member : List ℕ) → is_of_use AsEnum (item_named name M.items) ≡ false → (Y b).member name member ≡ None
  member_none zero name member e = s.no_member name member (at_whole (λ x. is_of_use AsEnum (item_named name x.items)) ∙ e)
  member_none (suc b) name member e = s.no_member name member (at_whole (λ x. is_of_use AsEnum (item_named name x.items)) ∙ e)

  kept_kinds : (b : ℕ) → OfKinds M (Y b)
  kept_kinds zero = record {
    types = λ name e. still_none (kept.hides name) None refl;
    structs = λ name e. still_none (kept.hides name) None refl;
    kind = λ name e. refl;
    constants = kept_none zero;
    members = λ name e member. member_none zero name member e;
    calls = λ name e ns vs. still_none (kept.hides name) None refl;
  }
  kept_kinds (suc b) = record {
    types = λ name e. still_none (kept.hides name) _ (no_type (Y b) (item_named name text.items) (lower_use AsType name e));
    structs = λ name e. still_none (kept.hides name) _ (no_struct (Y b) (item_named name text.items) (lower_use AsStruct name e));
    kind = λ name e. no_constant_item (item_named name text.items) (lower_use AsPattern name e);
    constants = kept_none (suc b);
    members = λ name e member. member_none (suc b) name member e;
    calls = λ name e ns vs. still_none (kept.hides name) _ (no_call (Y b) (item_named name text.items) (lower_use AsFunction name e) ns vs);
  }

  -- ---- mentions

  -- each item that is mentioned, if it is one that is kept
  each_mentioned : (x y : Meanings) (ms : List Mention) → ((u : Use) (name : List ℕ) → is_of_use u (item_named name M.items) ≡ true → IsIn name (names_mentioned M ms) → IsUnmarked name → P name ≡ true → ItemMeansOne x y name)
      → list_all P (names_mentioned M ms) ≡ true → MentionNoMark ms → OfEach (ItemMeansOne x y) (names_mentioned M ms)
  each_mentioned x y [] step p u = tt
  each_mentioned x y (n ∷ ns) step p u = by_use (is_of_use n.use_as (item_named n.name M.items)) refl p step (each_mentioned x y ns)
    where
      by_use : (b : Bool) → is_of_use n.use_as (item_named n.name M.items) ≡ b → list_all P (if b then n.name ∷ names_mentioned M ns else names_mentioned M ns) ≡ true
          → ((u : Use) (name : List ℕ) → is_of_use u (item_named name M.items) ≡ true → IsIn name (if b then n.name ∷ names_mentioned M ns else names_mentioned M ns) → IsUnmarked name → P name ≡ true → ItemMeansOne x y name)
          → (((u : Use) (name : List ℕ) → is_of_use u (item_named name M.items) ≡ true → IsIn name (names_mentioned M ns) → IsUnmarked name → P name ≡ true → ItemMeansOne x y name)
          → list_all P (names_mentioned M ns) ≡ true → MentionNoMark ns → OfEach (ItemMeansOne x y) (names_mentioned M ns))
          → OfEach (ItemMeansOne x y) (if b then n.name ∷ names_mentioned M ns else names_mentioned M ns)
      by_use true q passes each rest =
          let both = and_true (P n.name) (list_all P (names_mentioned M ns)) passes in (
            each n.use_as n.name q (or_first (bytes_eq n.name n.name) (list_any (bytes_eq n.name) (names_mentioned M ns)) (itself n.name)) u.0 both.0,
            rest (λ v name of one. each v name of (or_second (bytes_eq name n.name) (list_any (bytes_eq name) (names_mentioned M ns)) one)) both.1 u.1,
          )
      by_use false q passes each rest = rest each passes u.1

  free : (name : List ℕ) → P name ≡ true → kept.hides name ≡ false → item_reaches M name name ≡ false
  free name p seen = sym (at_whole (λ x. item_reaches x name name)) ∙ s.free name p seen

  -- what an item mentions that is kept and isn't hidden stands below it
  above : (name next : List ℕ) → P name ≡ true → kept.hides name ≡ false → IsIn next (mentions_of M (item_named name M.items)) → is_above M name next ≡ true
  above name next p seen one = by_back (item_reaches M next name) refl
    where
      there : item_reaches M name next ≡ true
      there = reaches_mentioned M name next one

      by_back : (b : Bool) → item_reaches M next name ≡ b → (item_reaches M name next && not b) ≡ true
      by_back true q = absurd (true≢false (sym (reaches_on M name next name there q) ∙ free name p seen))
      by_back false q = λ i. there i && true

  closed : (name : List ℕ) → P name ≡ true → kept.hides name ≡ false → list_all P (mentions_of M (item_named name M.items)) ≡ true
  closed name p seen = sym (at_whole (λ x. list_all P (mentions_of x (item_named name x.items)))) ∙ s.closed name p seen

  -- ---- items

  if_hidden : {A : Type 0} (name : List ℕ) (b : Bool) → kept.hides name ≡ b → (o : Option A) → unless_hidden b o ≡ unless_hidden (kept.hides name) o
  if_hidden name b e o = ap (λ c. unless_hidden c o) (sym e)

  -- an item that isn't hidden, over what it mentions
  item_kept : (b : ℕ) (name : List ℕ) → IsUnmarked name → P name ≡ true → kept.hides name ≡ false → ItemMeansOne (meanings_over text K.items) (meanings_over text (Y b)) name → ItemMeansOne K.items (Y (suc b)) name
  item_kept b name u p seen over =
      let same = same_item name u in
      record {
        types = type_meant M name (s.types name p seen) ∙ ap (type_of_item K.items) same ∙ over.types ∙ if_hidden name false seen ((meanings_over text (Y b)).type_named name);
        structs = struct_meant M name (s.types name p seen) ∙ ap (λ o. and_then (as_struct o) (struct_type K.items)) same ∙ over.structs ∙ if_hidden name false seen ((meanings_over text (Y b)).struct_named name);
        kind = (reads_level M N).kinds name ∙ ap is_constant_item same;
        constants = sym (s.constants name p);
        members = λ member. sym (s.members name member p);
        calls = λ ns vs. call_meant M name (s.free name p seen) ns vs ∙ ap (λ o. and_then (as_function o) (λ f. call_of K.items f ns vs)) same ∙ over.calls ns vs
            ∙ if_hidden name false seen ((meanings_over text (Y b)).call name ns vs);
      }

  -- a function that is hidden has no value
  hidden_call : (name : List ℕ) → P name ≡ true → kept.hides name ≡ true → (ns vs : List DslxValue) → K.items.call name ns vs ≡ None
  hidden_call name p hidden ns vs = by (is_of_use AsFunction (item_named name M.items)) refl
    where
      by : (b : Bool) → is_of_use AsFunction (item_named name M.items) ≡ b → K.items.call name ns vs ≡ None
      by true q = call_none M name (s.hidden_calls name p hidden (at_whole (λ x. is_of_use AsFunction (item_named name x.items)) ∙ q)) ns vs
      by false q = (known_kinds M).calls name q ns vs

  -- an item that is hidden, whatever it mentions
  item_hidden : (b : ℕ) (name : List ℕ) → IsUnmarked name → P name ≡ true → kept.hides name ≡ true → ItemMeansOne K.items (Y (suc b)) name
  item_hidden b name u p hidden = record {
    types = s.hidden_types name p hidden ∙ if_hidden name true hidden ((meanings_over text (Y b)).type_named name);
    structs = s.hidden_structs name p hidden ∙ if_hidden name true hidden ((meanings_over text (Y b)).struct_named name);
    kind = (reads_level M N).kinds name ∙ ap is_constant_item (same_item name u);
    constants = sym (s.constants name p);
    members = λ member. sym (s.members name member p);
    calls = λ ns vs. hidden_call name p hidden ns vs ∙ if_hidden name true hidden ((meanings_over text (Y b)).call name ns vs);
  }

  means_kept : (k b : ℕ) (name : List ℕ) → k ≤ b → Ranked M k name → (x : Definition) → item_named name M.items ≡ Some x → IsUnmarked name → P name ≡ true → ItemMeansOne K.items (Y b) name
  means_kept zero b name l r x e u p = absurd r
  means_kept (suc k) zero name l r x e u p = absurd (omega (arith, l))
  means_kept (suc k) (suc b) name l r x e u p = by (kept.hides name) refl (λ next. means_kept k b next (omega (arith, l)))
    where
      over : item_named name text.items ≡ Some x → Agreeing K.items (Y b) (definition_mentions x) → ItemMeansOne (meanings_over text K.items) (meanings_over text (Y b)) name
      over own agree = item_over text K.items (Y b) name (subst (λ o. Agreeing K.items (Y b) (mentions_in o)) (sym own) agree)

      by : (c : Bool) → kept.hides name ≡ c
          → ((next : List ℕ) → Ranked M k next → (y : Definition) → item_named next M.items ≡ Some y → IsUnmarked next → P next ≡ true → ItemMeansOne K.items (Y b) next) → ItemMeansOne K.items (Y (suc b)) name
      by true hidden below = item_hidden b name u p hidden
      by false seen below =
          let own : item_named name text.items ≡ Some x = sym (same_item name u) ∙ e in
          let found = plain_found text.items name x plain own in
          let passes : list_all P (names_mentioned M (definition_mentions x)) ≡ true = (λ i. list_all P (mentions_of M (sym e i))) ∙ closed name p seen in
          let each = each_mentioned K.items (Y b) (definition_mentions x)
          (λ v next of one w q. below next (r next (above name next p seen (subst (λ o. IsIn next (mentions_of M o)) (sym e) one))) (there M.items v next of).0 (there M.items v next of).1 w q)
          passes found.mentions in
          let agree : Agreeing K.items (Y b) (definition_mentions x) = λ bound. agree_on M K.items (Y b) (known_kinds M) (kept_kinds b) bound (definition_mentions x) each in
          item_kept b name u p seen (over own agree)

  -- ---- expressions

  pub value_kept : (bound : List Given) (e : Expr) → list_all P (names_mentioned K.whole (mentioned e [])) ≡ true → MentionNoMark (mentioned e [])
      → value_of e (record { items = Y (length text.items); bound = bound }) ≡ value_of e (record { items = K.items; bound = bound })
  value_kept bound e p u =
      let passes : list_all P (names_mentioned M (mentioned e [])) ≡ true = sym (at_whole (λ x. list_all P (names_mentioned x (mentioned e [])))) ∙ p in
      let most : length M.items ≤ length text.items = omega (arith, as_many [] text.items) in
      let each = each_mentioned K.items (Y (length text.items)) (mentioned e [])
      (λ v name of one w q. let x = there M.items v name of in means_kept (length M.items) (length text.items) name most (item_ranked M name x.0 x.1) x.0 x.1 w q) passes u in
      sym (value_depends e [] (record { items = K.items; bound = bound }) (record { items = Y (length text.items); bound = bound }) tt
      (agree_on M K.items (Y (length text.items)) (known_kinds M) (kept_kinds (length text.items)) bound (mentioned e []) each))
