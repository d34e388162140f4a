-- Items of which nothing more is to be known, nor of what they mention.
use Rattle.std.proofs.Common.{◌≡◌, ◌≢◌, ◌∙◌, ◌==◌, ◌&&◌, ◌||◌, ℕ, zero, suc, Bool, true, false, not, List, [], ◌∷◌, Option, Some, None, is_some, slice_get, refl, sym, ap, subst}
use mathlib.Core.Bool.{true≢false}
use Rattle.std.specs.List.{list_all}
use Rattle.std.specs.Option.{option_map}
use Rattle.std.specs.Cmp.{first_so, second_so}
use Rattle.std.proofs.lemmas.Bool.Decides.{Decides-eqb}
use Rattle.std.proofs.lemmas.Option.{none-some, same_Some}
use Rattle.base.specs.TopoOrder.Needs.{Needs, needs_of}
use Rattle.dslx_tree.specs.declared.item.Definition.{Definition}
use Rattle.dslx_tree.specs.declared.item.Definition.TheVariants as d
use Rattle.dslx_tree.specs.declared.item.Enum.{Enum}
use Rattle.dslx_tree.specs.declared.item.Struct.{Struct}
use Rattle.dslx_meaning.specs.Items.{as_constant, as_enum, as_struct, item_named}
use Rattle.dslx_meaning.specs.Lists.{and_then}
use Rattle.dslx_meaning.specs.Rules.Mentions.{AsEnum, AsFunction, AsType, AsValue, definition_mentions, is_of_use, item_reaches, mentions_of, names_mentioned}
use Rattle.dslx_meaning.specs.Rules.Namesakes.{told_apart}
use Rattle.dslx_meaning.specs.Rules.PatternRules.{is_there as there}
use Rattle.dslx_meaning.specs.Rules.TypeEnvs.{GlobalEnv}
use Rattle.dslx_const_tasks.specs.Values.{hidden_at, values_kept}
use Rattle.dslx_check_rules.specs.Interned.{type_if}
use Rattle.dslx_check_items.specs.Items.{item_number}
use Rattle.dslx_check_items.specs.Reaching.{numbers_named}
use Rattle.dslx_check_facts.specs.Kept.{AreKeptAlike}
use Rattle.dslx_check_facts.specs.Known.{is_judged, is_noted_settled, is_settled, is_so, item_names, loops, member_at, member_number, named_type_at, names_type, settled_at, text_of, value_at}
use Rattle.dslx_check_facts.specs.Names.{IsPlainItem, IsUnmarked, definition_at, name_or}
use Rattle.dslx_check_facts.specs.Walks.{WalkShown}
use Rattle.dslx_check_facts.specs.declared.facts.Facts.{Facts}
use Rattle.dslx_check_facts.proofs.Lemmas.Firsts.{same_meaning, stands_first}
use Rattle.dslx_check_facts.proofs.Lemmas.Mentioned.{all_mentioned, mentioned_alike, needs_are, plain_at}
use Rattle.dslx_check_declarations.specs.Work.Learnt.{NotesSettled, PutsAtPlace}
use Rattle.dslx_check_declarations.specs.Work.Settling.{AreSettled, may_settle}
use Rattle.dslx_check_declarations.specs.Work.Tables.{TablesHold}
use Rattle.dslx_check_declarations.specs.Work.Text.{IsTextEnv}
use Rattle.dslx_check_declarations.proofs.OnWork.OnPlaces.{by_place, put_else, put_here}

-- ---- one more that may be

either : {X : Type 0} (p q : Bool) → (p || q) ≡ true → (p ≡ true → X) → (q ≡ true → X) → X
either true q e f g = f refl
either false q e f g = g e

one_of : (test : ℕ → Bool) (ns : List ℕ) → list_all test ns ≡ true → (k j : ℕ) → slice_get ns k ≡ Some j → test j ≡ true
one_of test [] e k j q = absurd (none-some j q)
one_of test (n ∷ ns) e zero j q = ap test (sym (same_Some n j q)) ∙ first_so (test n) (list_all test ns) e
one_of test (n ∷ ns) e (suc k) j q = one_of test ns (second_so (test n) (list_all test ns) e) k j q

-- what is noted
or_false : (x : Bool) → (x || false) ≡ x
or_false true = refl
or_false false = refl

and_false : (b : Bool) → (b && false) ≡ false
and_false true = refl
and_false false = refl

or_nothing : (x b may : Bool) → may ≡ false → x ≡ (x || (b && may))
or_nothing x b may e = sym (ap (λ m. x || (b && m)) e ∙ ap (λ c. x || c) (and_false b) ∙ or_false x)

or_last : (x : Bool) → (x || true) ≡ true
or_last true = refl
or_last false = refl

pub flag_left : (f : Facts) (item : ℕ) (b : Bool) → b ≡ may_settle f item → b ≡ false → NotesSettled f f item
flag_left f item b test never = record { flags = λ j. or_nothing (is_noted_settled f j) (j == item) (may_settle f item) (sym test ∙ never); rest = refl }

pub flag_set : (old new : Facts) (item : ℕ) (b : Bool) → b ≡ may_settle old item → b ≡ true → PutsAtPlace old.settled.items new.settled.items item true → new ≡ record old { settled = new.settled } → NotesSettled old new item
flag_set old new item b test so put rest = record {
  flags = λ j. by_place (λ (j : ℕ). is_noted_settled new j ≡ (is_noted_settled old j || (j == item && may_settle old item))) item j
      (ap is_so (put_here put)
      ∙ sym ((λ i. is_noted_settled old item || ((Decides-eqb item item).1 refl i && (sym test ∙ so) i)) ∙ or_last (is_noted_settled old item)))
      (λ ne. ap is_so (put_else put j ne)
      ∙ sym (ap (λ c. is_noted_settled old j || (c && may_settle old item)) (other j ne (j == item) refl) ∙ or_false (is_noted_settled old j)));
  rest = rest;
}
  where
    other : (j : ℕ) → j ≢ item → (c : Bool) → (j == item) ≡ c → c ≡ false
    other j ne true q = absurd (ne ((Decides-eqb j item).0 q))
    other j ne false q = refl

-- what is so of either kind is so of both
or_known : (l b : Bool) → b ≡ true → (l || b) ≡ true
or_known l b e = ap (λ c. l || c) e ∙ or_last l

-- what isn't so of the first is so of the second
pub or_other : (l b : Bool) → l ≡ false → (l || b) ≡ true → b ≡ true
or_other l b free e = sym (ap (λ c. c || b) free) ∙ e

-- what may be noted of an item
record MaySettle (f : Facts) (i : ℕ) : Type 0 where
  needs : (j : ℕ) → Needs f.reaching.needs.items i j → settled_at f j ≡ true
  judged : is_judged f i ≡ true

may_be : (f : Facts) (i : ℕ) → may_settle f i ≡ true → MaySettle f i
may_be f i e =
    let needed : Bool = list_all (settled_at f) (needs_of f.reaching.needs.items i) in
    record {
      needs = λ j need. one_of (settled_at f) (needs_of f.reaching.needs.items i) (first_so needed (is_judged f i) e) need.0 j need.1;
      judged = second_so needed (is_judged f i) e;
    }

mapped_there : {A B : Type 0} (g : A → B) (o : Option A) → is_some o ≡ true → there (option_map g o) ≡ true
mapped_there g None e = absurd (true≢false (sym e))
mapped_there g (Some a) e = refl

noted : Facts → Facts → Facts
noted old new = record old { settled = new.settled }

pub notes_settled : (old new : Facts) (item : ℕ) → AreSettled old → NotesSettled old new item → AreSettled (record old { settled = new.settled })
notes_settled old new item s n = record {
  needs = λ i j free e need. stays j (by i free e (λ was. s.needs i j free was need) (λ may. may.needs j need));
  judged = λ i free e. by i free e (s.judged i free) (λ may. may.judged);
  hides = s.hides;
  hides_loops = s.hides_loops;
  unjudged = s.unjudged;
  no_members = s.no_members;
}
  where
    by : {X : Type 0} (i : ℕ) → loops old i ≡ false → settled_at (record old { settled = new.settled }) i ≡ true → (settled_at old i ≡ true → X) → (MaySettle old i → X) → X
    by {X} i free e f g =
        either (is_noted_settled old i) (i == item && may_settle old item) (sym (n.flags i) ∙ or_other (loops old i) (is_noted_settled new i) free e)
        (λ was. f (or_known (loops old i) (is_noted_settled old i) was))
        (λ q.
        let one : i ≡ item = (Decides-eqb i item).0 (first_so (i == item) (may_settle old item) q) in
        g (subst (MaySettle old) (sym one) (may_be old item (second_so (i == item) (may_settle old item) q))))

    stays : (j : ℕ) → settled_at old j ≡ true → settled_at (record old { settled = new.settled }) j ≡ true
    stays j e = either (loops old j) (is_noted_settled old j) e (λ l. ap (λ b. b || is_noted_settled new j) l)
        (λ was. or_known (loops old j) (is_noted_settled new j) (n.flags j ∙ ap (λ b. b || (j == item && may_settle old item)) was))

-- ---- what is so of items of a name that is settled

-- the item that a name means
record Means (f : Facts) (known : GlobalEnv) (name : List ℕ) (i : ℕ) : Type 0 where
  definition : Definition
  plain : definition_at (text_of f).items i ≡ Some definition
  own : item_named name (text_of f).items ≡ Some definition
  told : item_named name known.whole.items ≡ Some definition
  at : definition_at (told_apart (text_of f)).items i ≡ Some definition
  called : (item_names f).item i ≡ name

meant : (f : Facts) (known : GlobalEnv) → IsTextEnv (text_of f) f.reaching known → (name : List ℕ) (i : ℕ) → item_number name (text_of f).items ≡ Some i → Means f known name i
meant f known text name i e =
    let first = stands_first name [] (text_of f).items i refl e in
    let unmarked : IsUnmarked name = subst IsUnmarked first.called (plain_at (text_of f).items text.plain i first.definition first.plain).named in
    record {
      definition = first.definition;
      plain = first.plain;
      own = first.named;
      told = ap (λ m. item_named name m.items) text.whole ∙ same_meaning name [] (text_of f).items unmarked refl ∙ first.named;
      at = first.at;
      called = ap (name_or i) first.at ∙ first.called;
    }

no_value_use : (x : Definition) → is_of_use AsValue (Some x) ≡ false → as_constant (Some x) ≡ None
no_value_use (d.Function x) e = refl
no_value_use (d.Proc x) e = refl
no_value_use (d.Constant x) e = absurd (true≢false e)
no_value_use (d.Alias x) e = refl
no_value_use (d.Struct x) e = refl
no_value_use (d.Enum x) e = refl

no_enum_use : (x : Definition) → is_of_use AsEnum (Some x) ≡ false → as_enum (Some x) ≡ None
no_enum_use (d.Function x) e = refl
no_enum_use (d.Proc x) e = refl
no_enum_use (d.Constant x) e = refl
no_enum_use (d.Alias x) e = refl
no_enum_use (d.Struct x) e = refl
no_enum_use (d.Enum x) e = absurd (true≢false e)

type_use : (x : Definition) → is_of_use AsType (Some x) ≡ true → names_type (Some x) ≡ true
type_use (d.Function x) e = absurd (true≢false (sym e))
type_use (d.Proc x) e = absurd (true≢false (sym e))
type_use (d.Constant x) e = absurd (true≢false (sym e))
type_use (d.Alias x) e = refl
type_use (d.Struct x) e = refl
type_use (d.Enum x) e = refl

not_called : (x : Definition) → is_of_use AsFunction (Some x) ≡ true → names_type (Some x) ≡ false
not_called (d.Function x) e = refl
not_called (d.Proc x) e = refl
not_called (d.Constant x) e = refl
not_called (d.Alias x) e = absurd (true≢false (sym e))
not_called (d.Struct x) e = absurd (true≢false (sym e))
not_called (d.Enum x) e = absurd (true≢false (sym e))

-- a type that isn't hidden is there, and one that is hidden is none
typed_part : (l b c : Bool) → (l || (b && not c)) ≡ false → b ≡ true → c ≡ true
typed_part true b c e h = absurd (true≢false e)
typed_part false true true e h = refl
typed_part false true false e h = absurd (true≢false e)
typed_part false false c e h = absurd (true≢false (sym h))

hidden_part : {A : Type 0} (l b : Bool) (o : Option A) → l ≡ false → (l || (b && not (is_some o))) ≡ true → o ≡ None
hidden_part true b o free e = absurd (true≢false free)
hidden_part false true None free e = refl
hidden_part false true (Some a) free e = absurd (true≢false (sym e))
hidden_part false false o free e = absurd (true≢false (sym e))

only_type : (l b c : Bool) → l ≡ false → (l || (b && c)) ≡ true → b ≡ false → ⊥
only_type true b c free e other = true≢false free
only_type false true c free e other = true≢false other
only_type false false c free e other = true≢false (sym e)

module _ (f : Facts) (later : WalkShown) (known : GlobalEnv) (text : IsTextEnv (text_of f) f.reaching known) (h : TablesHold f later known) (s : AreSettled f) where
  -- a settled name is that of a settled item
  of_settled : {X : Type 0} (name : List ℕ) → is_settled f name ≡ true → ((i : ℕ) → item_number name (text_of f).items ≡ Some i → settled_at f i ≡ true → X) → X
  of_settled {X} name e g = by (item_number name (text_of f).items) refl e
    where
      by : (o : Option ℕ) → item_number name (text_of f).items ≡ o → is_so (option_map (settled_at f) o) ≡ true → X
      by None q r = absurd (true≢false (sym r))
      by (Some i) q r = g i q r

  settled_named : (name : List ℕ) (i : ℕ) → item_number name (text_of f).items ≡ Some i → settled_at f i ≡ true → is_settled f name ≡ true
  settled_named name i e q = ap (λ o. is_so (option_map (settled_at f) o)) e ∙ q

  -- a hidden name is that of a hidden item
  hidden_named : (name : List ℕ) (i : ℕ) → item_number name (text_of f).items ≡ Some i → (values_kept f.kept).hides name ≡ hidden_at f.kept i
  hidden_named name i e = ap (λ o. is_so (and_then o (slice_get f.kept.hidden.items))) e

  -- what isn't hidden doesn't reach itself
  shown_free : (i : ℕ) → hidden_at f.kept i ≡ false → loops f i ≡ false
  shown_free i e = by (loops f i) refl
    where
      by : (b : Bool) → loops f i ≡ b → b ≡ false
      by true q = absurd (true≢false (sym (s.hides_loops i q) ∙ e))
      by false q = refl

  -- either it reaches itself, or it is judged
  loops_or : {X : Type 0} (i : ℕ) → settled_at f i ≡ true → (loops f i ≡ true → X) → (loops f i ≡ false → is_judged f i ≡ true → X) → X
  loops_or {X} i settled on free = by (loops f i) refl
    where
      by : (b : Bool) → loops f i ≡ b → X
      by true q = on q
      by false q = free q (s.judged i q settled)

  -- no value is kept of what is no constant
  no_value : (i : ℕ) (name : List ℕ) → Means f known name i → as_constant (item_named name known.whole.items) ≡ None → value_at f i ≡ None
  no_value i name m e = by (is_judged f i) refl
    where
      by : (b : Bool) → is_judged f i ≡ b → value_at f i ≡ None
      by true q = h.constant i q ∙ ap known.items.constant m.called ∙ text.not_constant name e
      by false q = s.unjudged i q

  closed : (name : List ℕ) → is_settled f name ≡ true → (values_kept f.kept).hides name ≡ false → list_all (is_settled f) (mentions_of known.whole (item_named name known.whole.items)) ≡ true
  closed name e seen = of_settled name e (λ i number settled.
      let m : Means f known name i = meant f known text name i number in
      let plain : IsPlainItem m.definition = plain_at (text_of f).items text.plain i m.definition m.plain in
      let free : loops f i ≡ false = shown_free i (sym (hidden_named name i number) ∙ seen) in
      ap (λ o. list_all (is_settled f) (mentions_of known.whole o)) m.told
      ∙ ap (λ w. list_all (is_settled f) (names_mentioned w (definition_mentions m.definition))) text.whole
      ∙ ap (list_all (is_settled f)) (mentioned_alike (text_of f) (definition_mentions m.definition) plain.mentions)
      ∙ all_mentioned (text_of f) (is_settled f) (definition_mentions m.definition)
      (λ x j k number_x at. settled_named x j number_x (s.needs i j free settled (
        k,
        ap (λ needs. slice_get (needs_of needs i) k) text.needs ∙ ap (λ ns. slice_get ns k) (needs_are (text_of f) i)
            ∙ ap (λ o. slice_get (numbers_named (text_of f).items (mentions_of (text_of f) o)) k) m.plain ∙ at,
      ))))

  -- the value of an item that is judged, or of one that reaches itself, which has none
  value_of_item : (i : ℕ) → settled_at f i ≡ true → value_at f i ≡ known.items.constant ((item_names f).item i)
  value_of_item i settled = by (is_judged f i) refl
    where
      by : (b : Bool) → is_judged f i ≡ b → value_at f i ≡ known.items.constant ((item_names f).item i)
      by true q = h.constant i q
      by false q = loops_or i settled (λ on. s.unjudged i q ∙ sym (text.no_constant i on)) (λ free judged. absurd (true≢false (sym judged ∙ q)))

  constants : (name : List ℕ) → is_settled f name ≡ true → (values_kept f.kept).constant name ≡ known.items.constant name
  constants name e = of_settled name e (λ i number settled.
      let m : Means f known name i = meant f known text name i number in
      ap (λ o. and_then o (value_at f)) number ∙ value_of_item i settled ∙ ap known.items.constant m.called)

  members : (name member : List ℕ) → is_settled f name ≡ true → (values_kept f.kept).member name member ≡ known.items.member name member
  members name member e = of_settled name e (λ i number settled.
      let m : Means f known name i = meant f known text name i number in
      ap (λ o. and_then o (λ k. and_then (as_enum (item_named name (text_of f).items)) (λ (x : Enum). and_then (own_number x) (member_at f k)))) number
      ∙ ap (λ o. and_then (as_enum o) (λ (x : Enum). and_then (own_number x) (member_at f i))) m.own
      ∙ by i m settled m.definition m.plain m.told m.at)
    where
      own_number : Enum → Option ℕ
      own_number x = member_number member x.members

      none_there : (o : Option ℕ) (i : ℕ) → is_judged f i ≡ false → and_then o (member_at f i) ≡ None
      none_there None i e = refl
      none_there (Some k) i e = s.no_members i k e

      of_enum : (i : ℕ) (x : Enum) → settled_at f i ≡ true → as_enum (definition_at (told_apart (text_of f)).items i) ≡ Some x → and_then (own_number x) (member_at f i) ≡ known.items.member ((item_names f).item i) member
      of_enum i x settled at = by (is_judged f i) refl
        where
          by : (b : Bool) → is_judged f i ≡ b → and_then (own_number x) (member_at f i) ≡ known.items.member ((item_names f).item i) member
          by true q = h.member i x member q at
          by false q = loops_or i settled (λ on. none_there (own_number x) i q ∙ sym (text.no_member i member on)) (λ free judged. absurd (true≢false (sym judged ∙ q)))

      by : (i : ℕ) (m : Means f known name i) → settled_at f i ≡ true → (x : Definition) → definition_at (text_of f).items i ≡ Some x → item_named name known.whole.items ≡ Some x → definition_at (told_apart (text_of f)).items i ≡ Some x
          → and_then (as_enum (Some x)) (λ (x : Enum). and_then (own_number x) (member_at f i)) ≡ known.items.member name member
      by i m settled (d.Enum x) plain told at = of_enum i x settled (ap as_enum at) ∙ ap (λ n. known.items.member n member) m.called
      by i m settled (d.Function x) plain told at = sym (text.not_enum name member (ap as_enum told))
      by i m settled (d.Proc x) plain told at = sym (text.not_enum name member (ap as_enum told))
      by i m settled (d.Constant x) plain told at = sym (text.not_enum name member (ap as_enum told))
      by i m settled (d.Alias x) plain told at = sym (text.not_enum name member (ap as_enum told))
      by i m settled (d.Struct x) plain told at = sym (text.not_enum name member (ap as_enum told))

  types : (name : List ℕ) → is_settled f name ≡ true → (values_kept f.kept).hides name ≡ false → is_of_use AsType (item_named name known.whole.items) ≡ true → there (known.items.type_named name) ≡ true
  types name e seen used = of_settled name e (λ i number settled.
      let m : Means f known name i = meant f known text name i number in
      let shown : hidden_at f.kept i ≡ false = sym (hidden_named name i number) ∙ seen in
      let judged : is_judged f i ≡ true = s.judged i (shown_free i shown) settled in
      let named : names_type (definition_at (text_of f).items i) ≡ true = ap names_type m.plain ∙ type_use m.definition (ap (is_of_use AsType) (sym m.told) ∙ used) in
      ap (λ n. there (known.items.type_named n)) (sym m.called) ∙ ap there (sym (h.type_named i judged))
      ∙ mapped_there _ (named_type_at f i) (typed_part (loops f i) (names_type (definition_at (text_of f).items i)) (is_some (named_type_at f i)) (sym (s.hides i judged) ∙ shown) named))

  -- what is hidden and judged has no type
  untyped : (i : ℕ) → hidden_at f.kept i ≡ true → loops f i ≡ false → is_judged f i ≡ true → named_type_at f i ≡ None
  untyped i hidden free judged = hidden_part (loops f i) (names_type (definition_at (text_of f).items i)) (named_type_at f i) free (sym (s.hides i judged) ∙ hidden)

  hidden_types : (name : List ℕ) → is_settled f name ≡ true → (values_kept f.kept).hides name ≡ true → known.items.type_named name ≡ None
  hidden_types name e hidden = of_settled name e (λ i number settled.
      let m : Means f known name i = meant f known text name i number in
      ap known.items.type_named (sym m.called)
      ∙ loops_or i settled (text.no_type i) (λ free judged.
      sym (h.type_named i judged) ∙ ap (type_if (item_names f) later.rows) (untyped i (sym (hidden_named name i number) ∙ hidden) free judged)))

  hidden_structs : (name : List ℕ) → is_settled f name ≡ true → (values_kept f.kept).hides name ≡ true → known.items.struct_named name ≡ None
  hidden_structs name e hidden = of_settled name e (λ i number settled.
      let m : Means f known name i = meant f known text name i number in
      by i m (sym (hidden_named name i number) ∙ hidden) settled (as_struct (Some m.definition)) refl)
    where
      by : (i : ℕ) (m : Means f known name i) → hidden_at f.kept i ≡ true → settled_at f i ≡ true → (o : Option Struct) → as_struct (Some m.definition) ≡ o → known.items.struct_named name ≡ None
      by i m hides settled None q = text.not_struct name (ap as_struct m.told ∙ q)
      by i m hides settled (Some x) q =
          ap known.items.struct_named (sym m.called)
          ∙ loops_or i settled (text.no_struct i) (λ free judged.
          sym (h.struct_named i x judged (ap as_struct m.at ∙ q)) ∙ ap (type_if (item_names f) later.rows) (untyped i hides free judged))

  hidden_calls : (name : List ℕ) → is_settled f name ≡ true → (values_kept f.kept).hides name ≡ true → is_of_use AsFunction (item_named name known.whole.items) ≡ true → item_reaches known.whole name name ≡ true
  hidden_calls name e hidden used = of_settled name e (λ i number settled.
      let m : Means f known name i = meant f known text name i number in
      let no_type : names_type (definition_at (text_of f).items i) ≡ false = ap names_type m.plain ∙ not_called m.definition (ap (is_of_use AsFunction) (sym m.told) ∙ used) in
      ap (λ n. item_reaches known.whole n n) (sym m.called)
      ∙ loops_or i settled (text.reaches i) (λ free judged.
      absurd (only_type (loops f i) (names_type (definition_at (text_of f).items i)) (not (is_some (named_type_at f i))) free (sym (s.hides i judged) ∙ sym (hidden_named name i number) ∙ hidden) no_type)))

  free : (name : List ℕ) → is_settled f name ≡ true → (values_kept f.kept).hides name ≡ false → item_reaches known.whole name name ≡ false
  free name e seen = of_settled name e (λ i number settled.
      let m : Means f known name i = meant f known text name i number in
      ap (λ n. item_reaches known.whole n n) (sym m.called) ∙ text.free i (shown_free i (sym (hidden_named name i number) ∙ seen)))

  no_constant : (name : List ℕ) → is_of_use AsValue (item_named name known.whole.items) ≡ false → (values_kept f.kept).constant name ≡ None
  no_constant name e = by (item_number name (text_of f).items) refl
    where
      by : (o : Option ℕ) → item_number name (text_of f).items ≡ o → and_then o (value_at f) ≡ None
      by None q = refl
      by (Some i) q =
          let m : Means f known name i = meant f known text name i q in
          no_value i name m (ap as_constant m.told ∙ no_value_use m.definition (ap (is_of_use AsValue) (sym m.told) ∙ e))

  no_member : (name member : List ℕ) → is_of_use AsEnum (item_named name known.whole.items) ≡ false → (values_kept f.kept).member name member ≡ None
  no_member name member e = by (item_number name (text_of f).items) refl
    where
      by : (o : Option ℕ) → item_number name (text_of f).items ≡ o
          → and_then o (λ k. and_then (as_enum (item_named name (text_of f).items)) (λ (x : Enum). and_then (member_number member x.members) (member_at f k))) ≡ None
      by None q = refl
      by (Some i) q =
          let m : Means f known name i = meant f known text name i q in
          ap (λ o. and_then o (λ (x : Enum). and_then (member_number member x.members) (member_at f i)))
          (ap as_enum m.own ∙ no_enum_use m.definition (ap (is_of_use AsEnum) (sym m.told) ∙ e))

  pub are_kept : AreKeptAlike known (values_kept f.kept) (is_settled f)
  are_kept = record {
    closed = closed;
    free = free;
    constants = constants;
    members = members;
    types = types;
    hidden_types = hidden_types;
    hidden_structs = hidden_structs;
    hidden_calls = hidden_calls;
    no_constant = no_constant;
    no_member = no_member;
  }
