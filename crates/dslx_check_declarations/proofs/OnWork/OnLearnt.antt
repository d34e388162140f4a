-- What is known goes on to be so, and what is learnt is known.
use Rattle.std.proofs.Common.{◌≡◌, ◌≢◌, ◌∙◌, ◌==◌, ◌&&◌, ◌||◌, ℕ, Bool, true, false, not, List, [], Option, Some, None, is_some, slice_get, refl, sym, ap, subst}
use mathlib.Core.Bool.{true≢false}
use Rattle.std.proofs.lemmas.Bool.Decides.{Decides-eqb}
use Rattle.std.proofs.lemmas.Option.{none-some, same_Some}
use Rattle.std.specs.Option.{option_map}
use Rattle.dslx_tree.specs.declared.item.Enum.{Enum}
use Rattle.dslx_tree.specs.declared.item.Struct.{Struct}
use Rattle.dslx_meaning.specs.Items.{as_enum, as_struct}
use Rattle.dslx_meaning.specs.Lists.{and_then}
use Rattle.dslx_meaning.specs.Values.{type_of_value}
use Rattle.dslx_meaning.specs.Rules.TypeEnvs.{GlobalEnv}
use Rattle.dslx_const_tasks.specs.Values.{hidden_at}
use Rattle.dslx_check_rules.specs.declared.table.row.TypeRow.{TypeRow}
use Rattle.dslx_check_rules.specs.declared.table.row.TypeRow.TheVariants as row
use Rattle.dslx_check_rules.specs.Interned.{HasRowIf, is_item_row, type_if}
use Rattle.dslx_check_rules.proofs.Lemmas.Types.{get_in_prefix}
use Rattle.dslx_check_facts.specs.declared.asked.ForeignKey.{ForeignKey}
use Rattle.dslx_check_facts.specs.declared.facts.Facts.{Facts}
use Rattle.dslx_check_facts.specs.declared.facts.ForeignSeen.{ForeignSeen}
use Rattle.dslx_check_facts.specs.declared.facts.Sums.{Sums}
use Rattle.dslx_check_facts.specs.Known.{FactsHold, HasKnownRows, IsSum, at_place, done_at, foreign_at, is_judged, is_noted_settled, is_so, item_at, item_names, loops, member_at, member_number, named_type_at, names_type, settled_at, text_of, value_type_at}
use Rattle.dslx_check_facts.specs.Names.{definition_at}
use Rattle.dslx_check_facts.specs.Nothing.{IsNothingKnown}
use Rattle.dslx_check_facts.specs.Typings.{HasForeignRows, IsForeign}
use Rattle.dslx_check_facts.specs.Walks.{HasTables, WalkGrows, WalkShown, instance_at, instance_or_none}
use Rattle.dslx_check_facts.proofs.Lemmas.Judged.{known_rows_stay}
use Rattle.dslx_check_facts.proofs.Lemmas.Walks.{tables_refl, tables_trans}
use Rattle.dslx_check_declarations.specs.Items.{HasNoRow, ItemGrows, is_row_of}
use Rattle.dslx_check_declarations.specs.declared.items.ItemSeen.{ItemSeen}
use Rattle.dslx_check_declarations.proofs.Lemmas.Items.{no_row_stays}
use Rattle.dslx_check_declarations.specs.Work.Learnt.{IsDoneAs, IsJudgedItem, IsJudgedPart, LearnsInstance, LearnsItem, LearnsPart, NotesSettled, PutsItem}
use Rattle.dslx_check_declarations.specs.Work.Settling.{AreSettled, is_to_hide}
use Rattle.dslx_check_declarations.specs.Work.Tables.{KnowsBy, TablesHold}
use Rattle.dslx_check_declarations.specs.Work.Text.{IsTextEnv}
use Rattle.dslx_check_declarations.proofs.OnWork.OnSettled.{are_kept, notes_settled, or_other}
use Rattle.dslx_check_declarations.proofs.OnWork.OnPlaces.{by_place, put_else, put_here, there_else, there_here}

-- ---- a walk that goes on

pub known_stays : (f : Facts) (old new : WalkShown) (known : GlobalEnv) → WalkGrows old new → KnowsBy f old known → KnowsBy f new known
known_stays f old new known g k = record {
  text = k.text;
  tables = λ later tables. k.tables later (tables_trans old new later g.tables tables);
  rows = known_rows_stay old.rows new.rows f g.tables.rows k.rows;
  fresh = λ item e. no_row_stays g (k.fresh item e);
  settled = k.settled;
}

-- ---- an item

-- what is so if it is what was there
abbrev pub learnt : Facts → Facts → Facts
learnt old new = record old {
  kept = record old.kept { constants = new.kept.constants; members = new.kept.members; hidden = new.kept.hidden };
  judged = new.judged;
  named_types = new.named_types;
  value_types = new.value_types;
}

-- a row is of one item alone
of_one_item : (i j : ℕ) (r : TypeRow) → j ≢ i → is_row_of i r ≡ true → is_row_of j r ≡ false
of_one_item i j (row.Bits k) ne e = refl
of_one_item i j (row.Tuple ts) ne e = refl
of_one_item i j (row.Array t n) ne e = refl
of_one_item i j (row.Struct x ts) ne e = by (x == j) refl
  where
    by : (b : Bool) → (x == j) ≡ b → b ≡ false
    by true q = absurd (ne (sym ((Decides-eqb x j).0 q) ∙ (Decides-eqb x i).0 e))
    by false q = refl
of_one_item i j (row.Enum x k) ne e = by (x == j) refl
  where
    by : (b : Bool) → (x == j) ≡ b → b ≡ false
    by true q = absurd (ne (sym ((Decides-eqb x j).0 q) ∙ (Decides-eqb x i).0 e))
    by false q = refl
of_one_item i j row.Token ne e = refl

of_no_item : (item : ℕ) (r : TypeRow) → is_item_row r ≡ false → is_row_of item r ≡ false
of_no_item item (row.Bits k) e = refl
of_no_item item (row.Tuple ts) e = refl
of_no_item item (row.Array t n) e = refl
of_no_item item (row.Struct i ts) e = absurd (true≢false e)
of_no_item item (row.Enum i k) e = absurd (true≢false e)
of_no_item item row.Token e = refl

-- a walk over the text of one item meets no row of another
others_fresh : (old new : WalkShown) (i j : ℕ) → ItemGrows i old new → j ≢ i → HasNoRow old.rows j → HasNoRow new.rows j
others_fresh old new i j g ne h = record { none = λ k r at. by k r at (is_item_row r) refl (is_row_of i r) refl }
  where
    by : (k : ℕ) (r : TypeRow) → slice_get new.rows k ≡ Some r → (b : Bool) → is_item_row r ≡ b → (c : Bool) → is_row_of i r ≡ c → is_row_of j r ≡ false
    by k r at false e c q = of_no_item j r e
    by k r at true e true q = of_one_item i j r ne q
    by k r at true e false q = h.none k r (g.others k r at e q)

module _ (old new : Facts) (before after : WalkShown) (known : GlobalEnv) (item : ℕ) (seen : ItemSeen) (k : KnowsBy old before known) (g : ItemGrows item before after)
    (l : PutsItem old new item seen) (is : IsJudgedItem old after known item seen) where
  abbrev now : Facts
  now = learnt old new

  was_judged : (j : ℕ) → j ≢ item → is_judged now j ≡ true → is_judged old j ≡ true
  was_judged j ne e = ap is_so (sym (put_else l.judged j ne)) ∙ e

  is_judged_now : is_judged now item ≡ true
  is_judged_now = ap is_so (put_here l.judged)

  named_here : named_type_at now item ≡ seen.named_type
  named_here = ap (λ o. and_then o (λ a. a)) (put_here l.named)

  named_else : (j : ℕ) → j ≢ item → named_type_at now j ≡ named_type_at old j
  named_else j ne = ap (λ o. and_then o (λ a. a)) (put_else l.named j ne)

  typed_here : value_type_at now item ≡ seen.value_type
  typed_here = ap (λ o. and_then o (λ a. a)) (put_here l.value_type)

  typed_else : (j : ℕ) → j ≢ item → value_type_at now j ≡ value_type_at old j
  typed_else j ne = ap (λ o. and_then o (λ a. a)) (put_else l.value_type j ne)

  item_tables : (later : WalkShown) → HasTables after later → TablesHold now later known
  item_tables later tables = record {
    type_named = λ j. by_place (λ (j : ℕ). is_judged now j ≡ true → type_if (item_names old) later.rows (named_type_at now j) ≡ known.items.type_named ((item_names old).item j)) item j
        (λ e. ap (type_if (item_names old) later.rows) named_here ∙ is.named later tables)
        (λ ne e. ap (type_if (item_names old) later.rows) (named_else j ne) ∙ h.type_named j (was_judged j ne e));
    struct_named = λ j. by_place (λ (j : ℕ). (s : Struct) → is_judged now j ≡ true → as_struct (item_at old j) ≡ Some s → type_if (item_names old) later.rows (named_type_at now j) ≡ known.items.struct_named ((item_names old).item j)) item j
        (λ s e q. ap (type_if (item_names old) later.rows) named_here ∙ is.structure later s tables q)
        (λ ne s e q. ap (type_if (item_names old) later.rows) (named_else j ne) ∙ h.struct_named j s (was_judged j ne e) q);
    constant = λ j. by_place (λ (j : ℕ). is_judged now j ≡ true → at_place new.kept.constants.items j ≡ known.items.constant ((item_names old).item j)) item j
        (λ e. ap (λ o. and_then o (λ a. a)) (put_here l.value) ∙ is.constant)
        (λ ne e. ap (λ o. and_then o (λ a. a)) (put_else l.value j ne) ∙ h.constant j (was_judged j ne e));
    constant_type = λ j. by_place (λ (j : ℕ). is_judged now j ≡ true → type_if (item_names old) later.rows (value_type_at now j) ≡ option_map type_of_value (known.items.constant ((item_names old).item j))) item j
        (λ e. ap (type_if (item_names old) later.rows) typed_here ∙ is.constant_type later tables)
        (λ ne e. ap (type_if (item_names old) later.rows) (typed_else j ne) ∙ h.constant_type j (was_judged j ne e));
    member = λ j. by_place (λ (j : ℕ). (e : Enum) (name : List ℕ) → is_judged now j ≡ true → as_enum (item_at old j) ≡ Some e → and_then (member_number name e.members) (member_at now j) ≡ known.items.member ((item_names old).item j) name) item j
        (λ e name q at. ap (λ o. and_then (member_number name e.members) (λ n. and_then o (λ ms. at_place ms.items n))) (put_here l.members) ∙ is.member e name at)
        (λ ne e name q at. ap (λ o. and_then (member_number name e.members) (λ n. and_then o (λ ms. at_place ms.items n))) (put_else l.members j ne) ∙ h.member j e name (was_judged j ne q) at);
    done = h.done;
    foreign = h.foreign;
  }
    where
      h : TablesHold old later known
      h = k.tables later (tables_trans before after later g.tables tables)

  item_rows : HasKnownRows after.rows now
  item_rows = record {
    named = λ j. by_place (λ (j : ℕ). HasRowIf after.rows (named_type_at now j)) item j
        (subst (HasRowIf after.rows) (sym named_here) is.named_row)
        (λ ne. subst (HasRowIf after.rows) (sym (named_else j ne)) (r.named j));
    values = λ j. by_place (λ (j : ℕ). HasRowIf after.rows (value_type_at now j)) item j
        (subst (HasRowIf after.rows) (sym typed_here) is.value_row)
        (λ ne. subst (HasRowIf after.rows) (sym (typed_else j ne)) (r.values j));
    foreign = r.foreign;
  }
    where
      r : HasKnownRows after.rows old
      r = known_rows_stay before.rows after.rows old g.tables.rows k.rows

  item_fresh : (j : ℕ) → is_judged now j ≡ false → HasNoRow after.rows j
  item_fresh j = by_place (λ (j : ℕ). is_judged now j ≡ false → HasNoRow after.rows j) item j
      (λ e. absurd (true≢false (sym is_judged_now ∙ e)))
      (λ ne e. others_fresh before after item j g ne (k.fresh j (ap is_so (sym (put_else l.judged j ne)) ∙ e)))

  still_judged : (j : ℕ) → is_judged old j ≡ true → is_judged now j ≡ true
  still_judged j = by_place (λ (j : ℕ). is_judged old j ≡ true → is_judged now j ≡ true) item j (λ e. is_judged_now) (λ ne e. ap is_so (put_else l.judged j ne) ∙ e)

  item_settled : AreSettled now
  item_settled = record {
    needs = k.settled.needs;
    judged = λ j free e. still_judged j (k.settled.judged j free e);
    hides = λ j. by_place (λ (j : ℕ). is_judged now j ≡ true → hidden_at now.kept j ≡ is_to_hide now j (named_type_at now j)) item j
        (λ e. ap is_so (put_here l.hidden) ∙ ap (is_to_hide old item) (sym named_here))
        (λ ne e. ap is_so (put_else l.hidden j ne) ∙ k.settled.hides j (was_judged j ne e) ∙ ap (is_to_hide old j) (sym (named_else j ne)));
    hides_loops = λ j. by_place (λ (j : ℕ). loops old j ≡ true → hidden_at now.kept j ≡ true) item j
        (λ e. ap is_so (put_here l.hidden) ∙ ap (λ b. b || (names_type (definition_at (text_of old).items item) && not (is_some seen.named_type))) e)
        (λ ne e. ap is_so (put_else l.hidden j ne) ∙ k.settled.hides_loops j e);
    no_members = λ j n. by_place (λ (j : ℕ). is_judged now j ≡ false → member_at now j n ≡ None) item j
        (λ e. absurd (true≢false (sym is_judged_now ∙ e)))
        (λ ne e. ap (λ o. and_then o (λ ms. at_place ms.items n)) (put_else l.members j ne) ∙ k.settled.no_members j n (ap is_so (sym (put_else l.judged j ne)) ∙ e));
    unjudged = λ j. by_place (λ (j : ℕ). is_judged now j ≡ false → at_place new.kept.constants.items j ≡ None) item j
        (λ e. absurd (true≢false (sym is_judged_now ∙ e)))
        (λ ne e. ap (λ o. and_then o (λ a. a)) (put_else l.value j ne) ∙ k.settled.unjudged j (ap is_so (sym (put_else l.judged j ne)) ∙ e));
  }

  put_known : KnowsBy new after known
  put_known = subst (λ (f : Facts). KnowsBy f after known) (sym l.rest) (record { text = k.text; tables = item_tables; rows = item_rows; fresh = item_fresh; settled = item_settled })

-- ---- what is noted

module _ (old new : Facts) (walk : WalkShown) (known : GlobalEnv) (item : ℕ) (k : KnowsBy old walk known) (n : NotesSettled old new item) where
  noted_tables : (later : WalkShown) → HasTables walk later → TablesHold (record old { settled = new.settled }) later known
  noted_tables later tables = record {
    type_named = h.type_named;
    struct_named = h.struct_named;
    constant = h.constant;
    constant_type = h.constant_type;
    member = h.member;
    done = h.done;
    foreign = h.foreign;
  }
    where
      h : TablesHold old later known
      h = k.tables later tables

  noted_known : KnowsBy new walk known
  noted_known = subst (λ (f : Facts). KnowsBy f walk known) (sym n.rest) (record {
    text = k.text;
    tables = noted_tables;
    rows = record { named = k.rows.named; values = k.rows.values; foreign = k.rows.foreign };
    fresh = k.fresh;
    settled = notes_settled old new item k.settled n;
  })

pub item_known : (old new : Facts) (before after : WalkShown) (known : GlobalEnv) (item : ℕ) (seen : ItemSeen) → KnowsBy old before known → ItemGrows item before after
    → LearnsItem old new item seen → IsJudgedItem old after known item seen → KnowsBy new after known
item_known old new before after known item seen k g l is = noted_known l.put new after known item (put_known old l.put before after known item seen k g l.puts is) l.notes

-- ---- an instance

module _ (old new : Facts) (walk : WalkShown) (known : GlobalEnv) (instance : ℕ) (sums : Sums) (k : KnowsBy old walk known) (l : LearnsInstance old new instance sums)
    (is : IsDoneAs old walk known instance sums) where
  met_stays : (later : WalkShown) → HasTables walk later → instance_at (item_names old) later.met instance ≡ instance_at (item_names old) walk.met instance
  met_stays later tables = ap (instance_or_none (item_names old)) (get_in_prefix walk.met later.met instance is.key tables.met is.met ∙ sym is.met)

  instance_tables : (later : WalkShown) → HasTables walk later → TablesHold (record old { done = new.done }) later known
  instance_tables later tables = record {
    type_named = h.type_named;
    struct_named = h.struct_named;
    constant = h.constant;
    constant_type = h.constant_type;
    member = h.member;
    done = λ n. by_place (λ (n : ℕ). (s : Sums) → at_place new.done.items n ≡ Some s → IsSum known (instance_at (item_names old) later.met n) s) instance n
        (λ s e. subst (λ x. IsSum known x s) (sym (met_stays later tables)) (subst (IsSum known (instance_at (item_names old) walk.met instance)) (same_Some sums s (sym (there_here l.done) ∙ e)) is.is))
        (λ ne s e. h.done n s (sym (there_else l.done n ne) ∙ e));
    foreign = h.foreign;
  }
    where
      h : TablesHold old later known
      h = k.tables later tables

  pub instance_known : KnowsBy new walk known
  instance_known = subst (λ (f : Facts). KnowsBy f walk known) (sym l.rest) (record {
    text = k.text;
    tables = instance_tables;
    rows = record { named = k.rows.named; values = k.rows.values; foreign = k.rows.foreign };
    fresh = k.fresh;
    settled = record {
      needs = k.settled.needs;
      judged = k.settled.judged;
      hides = k.settled.hides;
      hides_loops = k.settled.hides_loops;
      unjudged = k.settled.unjudged;
      no_members = k.settled.no_members;
    };
  })

-- ---- a part of a declaration

module _ (old new : Facts) (walk : WalkShown) (known : GlobalEnv) (number : ℕ) (there : ForeignSeen) (k : KnowsBy old walk known) (l : LearnsPart old new number there)
    (is : IsJudgedPart old walk known number there) where
  part_tables : (later : WalkShown) → HasTables walk later → TablesHold (record old { foreign = new.foreign }) later known
  part_tables later tables = record {
    type_named = h.type_named;
    struct_named = h.struct_named;
    constant = h.constant;
    constant_type = h.constant_type;
    member = h.member;
    done = h.done;
    foreign = λ n. by_place (λ (n : ℕ). (key : ForeignKey) (t : ForeignSeen) → slice_get later.asked n ≡ Some key → at_place new.foreign.items n ≡ Some t → IsForeign (item_names old) known later key t) number n
        (λ key t q e. subst (λ x. IsForeign (item_names old) known later x t) (same_Some is.key key (sym (get_in_prefix walk.asked later.asked number is.key tables.asked is.asked) ∙ q))
        (subst (IsForeign (item_names old) known later is.key) (same_Some there t (sym (there_here l.foreign) ∙ e)) (is.is later tables)))
        (λ ne key t q e. h.foreign n key t q (sym (there_else l.foreign n ne) ∙ e));
  }
    where
      h : TablesHold old later known
      h = k.tables later tables

  part_rows : HasKnownRows walk.rows (record old { foreign = new.foreign })
  part_rows = record {
    named = k.rows.named;
    values = k.rows.values;
    foreign = λ n. by_place (λ (n : ℕ). (t : ForeignSeen) → at_place new.foreign.items n ≡ Some t → HasForeignRows walk.rows t) number n
        (λ t e. subst (HasForeignRows walk.rows) (same_Some there t (sym (there_here l.foreign) ∙ e)) is.rows)
        (λ ne t e. k.rows.foreign n t (sym (there_else l.foreign n ne) ∙ e));
  }

  pub part_known : KnowsBy new walk known
  part_known = subst (λ (f : Facts). KnowsBy f walk known) (sym l.rest) (record {
    text = k.text;
    tables = part_tables;
    rows = part_rows;
    fresh = k.fresh;
    settled = record {
      needs = k.settled.needs;
      judged = k.settled.judged;
      hides = k.settled.hides;
      hides_loops = k.settled.hides_loops;
      unjudged = k.settled.unjudged;
      no_members = k.settled.no_members;
    };
  })

-- ---- nothing

nothing_here : {A : Type 0} (o : Option A) (a : A) → o ≡ None → o ≡ Some a → ⊥
nothing_here o a e q = none-some a (sym e ∙ q)

pub nothing_known : (f : Facts) (walk : WalkShown) (known : GlobalEnv) → IsNothingKnown f → IsTextEnv (text_of f) f.reaching known → walk.rows ≡ [] → KnowsBy f walk known
nothing_known f walk known n text empty = record {
  text = text;
  tables = λ later tables. record {
    type_named = λ i e. absurd (true≢false (sym e ∙ n.judged i));
    struct_named = λ i s e q. absurd (true≢false (sym e ∙ n.judged i));
    constant = λ i e. absurd (true≢false (sym e ∙ n.judged i));
    constant_type = λ i e. absurd (true≢false (sym e ∙ n.judged i));
    member = λ i x name e q. absurd (true≢false (sym e ∙ n.judged i));
    done = λ i s e. absurd (nothing_here (done_at f i) s (n.done i) e);
    foreign = λ i key t q e. absurd (nothing_here (foreign_at f i) t (n.foreign i) e);
  };
  rows = record {
    named = λ i. subst (HasRowIf walk.rows) (sym (n.named_types i)) tt;
    values = λ i. subst (HasRowIf walk.rows) (sym (n.value_types i)) tt;
    foreign = λ i t e. absurd (nothing_here (foreign_at f i) t (n.foreign i) e);
  };
  fresh = λ item e. record { none = λ k r at. absurd (none-some r (ap (λ rows. slice_get rows k) (sym empty) ∙ at)) };
  settled = record {
    needs = λ i j free e need. absurd (nothing_settled i free e);
    judged = λ i free e. absurd (nothing_settled i free e);
    hides = λ i e. absurd (true≢false (sym e ∙ n.judged i));
    hides_loops = λ i e. ap (λ flags. is_so (slice_get flags i)) n.hidden ∙ e;
    unjudged = λ i e. n.kept.constants i;
    no_members = λ i k e. n.kept.members i k;
  };
}
  where
    nothing_settled : (i : ℕ) → loops f i ≡ false → settled_at f i ≡ true → ⊥
    nothing_settled i free e = true≢false (sym (or_other (loops f i) (is_noted_settled f i) free e) ∙ n.settled i)

-- ---- what is so of what is known

pub facts_hold : (f : Facts) (walk later : WalkShown) (known : GlobalEnv) → KnowsBy f walk known → HasTables walk later → FactsHold f later known
facts_hold f walk later known k tables = record {
  whole = k.text.whole;
  distinct = k.text.distinct;
  needs = k.text.needs;
  is_constant = k.text.is_constant;
  cyclic = k.text.cyclic;
  not_type = k.text.not_type;
  not_struct = k.text.not_struct;
  not_constant = k.text.not_constant;
  not_enum = k.text.not_enum;
  type_named = h.type_named;
  struct_named = h.struct_named;
  constant = h.constant;
  constant_type = h.constant_type;
  member = h.member;
  no_type = k.text.no_type;
  no_struct = k.text.no_struct;
  no_constant = k.text.no_constant;
  no_member = k.text.no_member;
  done = h.done;
  foreign = h.foreign;
  kept = are_kept f later known k.text h k.settled;
  values = k.text.values;
}
  where
    h : TablesHold f later known
    h = k.tables later tables
