-- A walk that goes on only adds to what it has.
use Rattle.std.proofs.Common.{◌≡◌, ◌∙◌, ℕ, List, [], ◌∷◌, ◌++◌, map, length, slice_get, Option, Some, None, refl, sym, ap, subst}
use Rattle.std.proofs.lemmas.List.{map-append}
use Rattle.base.specs.Lists.Prefix.{IsPrefix}
use Rattle.base.proofs.Lemmas.Lists.Prefixes.{IsPrefix-refl, IsPrefix-trans, IsPrefix-append}
use Rattle.dslx_meaning.specs.Rules.TypeEnvs.{Instance}
use Rattle.dslx_check_rules.specs.declared.table.row.TypeRow.{TypeRow}
use Rattle.dslx_check_rules.specs.Interned.{ItemNames, KeepsItems}
use Rattle.dslx_check_rules.proofs.Lemmas.Types.{get_in_prefix}
use Rattle.dslx_check_facts.specs.declared.asked.ForeignKey.{ForeignKey}
use Rattle.dslx_check_facts.specs.declared.instances.InstanceKey.{InstanceKey}
use Rattle.dslx_check_facts.specs.declared.walk.Need.{Need}
use Rattle.dslx_check_facts.specs.Walks.{WalkShown, HasTables, WalkGrows, OnlyMisses, OnlyTypes, instance_of, instance_or_none, instance_at, instances_at}

-- ---- prefixes

-- a list with an element is not the empty one
abbrev IsSomething : {A : Type 0} → List A → Type 0
IsSomething [] = ⊥
IsSomething (y ∷ ys) = Unit {0}

no_element : {A : Type 0} (y : A) (ys : List A) → y ∷ ys ≡ [] → ⊥
no_element y ys e = subst IsSomething e tt

pub nothing_before : {A : Type 0} (xs ys : List A) → IsPrefix xs ys → ys ≡ [] → xs ≡ []
nothing_before [] ys p e = refl
nothing_before (x ∷ xs) [] p e = absurd p
nothing_before (x ∷ xs) (y ∷ ys) p e = absurd (no_element y ys e)

same_prefix : {A : Type 0} (xs ys : List A) → ys ≡ xs → IsPrefix xs ys
same_prefix xs ys e = subst (IsPrefix xs) (sym e) (IsPrefix-refl xs)

-- with something noted, something is missing
pub something_missing : {A : Type 0} (missing : List Need) (n : Need) → missing ++ n ∷ [] ≡ [] → A
something_missing [] n e = absurd (no_element n [] e)
something_missing (m ∷ ms) n e = absurd (no_element m (ms ++ n ∷ []) e)

-- ---- tables

pub tables_refl : (w : WalkShown) → HasTables w w
tables_refl w = record { rows = IsPrefix-refl w.rows; met = IsPrefix-refl w.met; prefixes = IsPrefix-refl w.prefixes; asked = IsPrefix-refl w.asked }

pub tables_trans : (a b c : WalkShown) → HasTables a b → HasTables b c → HasTables a c
tables_trans a b c p q = record {
  rows = IsPrefix-trans a.rows b.rows c.rows p.rows q.rows;
  met = IsPrefix-trans a.met b.met c.met p.met q.met;
  prefixes = IsPrefix-trans a.prefixes b.prefixes c.prefixes p.prefixes q.prefixes;
  asked = IsPrefix-trans a.asked b.asked c.asked p.asked q.asked;
}

-- ---- walks that go on

-- the same rows
same_items : (rows later : List TypeRow) → later ≡ rows → KeepsItems rows later
same_items rows later e = λ k r at h. ap (λ (l : List TypeRow). slice_get l k) (sym e) ∙ at

pub grows_refl : (w : WalkShown) → WalkGrows w w
grows_refl w = record { tables = tables_refl w; items = λ k r at h. at; reached = IsPrefix-refl w.reached; missing = IsPrefix-refl w.missing }

pub grows_trans : (a b c : WalkShown) → WalkGrows a b → WalkGrows b c → WalkGrows a c
grows_trans a b c p q = record {
  tables = tables_trans a b c p.tables q.tables;
  items = λ k r at h. p.items k r (q.items k r at h) h;
  reached = IsPrefix-trans a.reached b.reached c.reached p.reached q.reached;
  missing = IsPrefix-trans a.missing b.missing c.missing p.missing q.missing;
}

pub misses_refl : (w : WalkShown) → OnlyMisses w w
misses_refl w = record { rows = refl; met = refl; prefixes = refl; asked = refl; reached = refl; missing = IsPrefix-refl w.missing }

pub misses_trans : (a b c : WalkShown) → OnlyMisses a b → OnlyMisses b c → OnlyMisses a c
misses_trans a b c p q = record {
  rows = q.rows ∙ p.rows;
  met = q.met ∙ p.met;
  prefixes = q.prefixes ∙ p.prefixes;
  asked = q.asked ∙ p.asked;
  reached = q.reached ∙ p.reached;
  missing = IsPrefix-trans a.missing b.missing c.missing p.missing q.missing;
}

-- one thing more isn't known
pub misses_noted : (old new : WalkShown) (n : Need) → new ≡ record old { missing = old.missing ++ n ∷ [] } → OnlyMisses old new
misses_noted old new n e = record {
  rows = ap (λ (w : WalkShown). w.rows) e;
  met = ap (λ (w : WalkShown). w.met) e;
  prefixes = ap (λ (w : WalkShown). w.prefixes) e;
  asked = ap (λ (w : WalkShown). w.asked) e;
  reached = ap (λ (w : WalkShown). w.reached) e;
  missing = subst (IsPrefix old.missing) (sym (ap (λ (w : WalkShown). w.missing) e)) (IsPrefix-append old.missing (n ∷ []));
}

-- which is missing then
pub noted_is_missing : {A : Type 0} (old new : WalkShown) (n : Need) → new ≡ record old { missing = old.missing ++ n ∷ [] } → new.missing ≡ [] → A
noted_is_missing old new n e none = something_missing old.missing n (sym (ap (λ (w : WalkShown). w.missing) e) ∙ none)

pub misses_grows : (old new : WalkShown) → OnlyMisses old new → WalkGrows old new
misses_grows old new m = record {
  tables = record { rows = same_prefix old.rows new.rows m.rows; met = same_prefix old.met new.met m.met; prefixes = same_prefix old.prefixes new.prefixes m.prefixes; asked = same_prefix old.asked new.asked m.asked };
  items = same_items old.rows new.rows m.rows;
  reached = same_prefix old.reached new.reached m.reached;
  missing = m.missing;
}

pub types_grow : (old new : WalkShown) → OnlyTypes old new → WalkGrows old new
types_grow old new t = record {
  tables = record { rows = t.rows; met = same_prefix old.met new.met t.met; prefixes = same_prefix old.prefixes new.prefixes t.prefixes; asked = same_prefix old.asked new.asked t.asked };
  items = t.items;
  reached = same_prefix old.reached new.reached t.reached;
  missing = same_prefix old.missing new.missing t.missing;
}

-- one part more was asked for
pub asked_grows : (old : WalkShown) (asked : List ForeignKey) → IsPrefix old.asked asked → WalkGrows old (record old { asked = asked })
asked_grows old asked p = record {
  tables = record { rows = IsPrefix-refl old.rows; met = IsPrefix-refl old.met; prefixes = IsPrefix-refl old.prefixes; asked = p };
  items = λ k r at h. at;
  reached = IsPrefix-refl old.reached;
  missing = IsPrefix-refl old.missing;
}

-- where nothing is missing at the end, nothing was before
pub nothing_missing : (old new : WalkShown) → WalkGrows old new → new.missing ≡ [] → old.missing ≡ []
nothing_missing old new g e = nothing_before old.missing new.missing g.missing e

-- ---- instances

-- the instance of a number that was met
pub instance_is : (names : ItemNames) (met later : List InstanceKey) (n : ℕ) (k : InstanceKey) → IsPrefix met later → slice_get met n ≡ Some k → instance_at names later n ≡ instance_of names k
instance_is names met later n k p e = ap (λ o. instance_or_none names o) (get_in_prefix met later n k p e)

-- what two walks one after the other reach
pub reached_on : (names : ItemNames) (met : List InstanceKey) (a b c : List ℕ) (xs ys : List Instance)
    → instances_at names met b ≡ instances_at names met a ++ xs → instances_at names met c ≡ instances_at names met b ++ ys
    → instances_at names met c ≡ instances_at names met a ++ (xs ++ ys)
reached_on names met a b c xs ys e f = f ∙ ap (λ zs. zs ++ ys) e ∙ append_assoc (instances_at names met a) xs ys
  where
    append_assoc : {A : Type 0} (xs ys zs : List A) → (xs ++ ys) ++ zs ≡ xs ++ (ys ++ zs)
    append_assoc [] ys zs = refl
    append_assoc (x ∷ xs) ys zs = ap (λ l. x ∷ l) (append_assoc xs ys zs)

-- where nothing more is reached
pub reached_none : (names : ItemNames) (met : List InstanceKey) (old new : List ℕ) → new ≡ old → instances_at names met new ≡ instances_at names met old ++ []
reached_none names met old new e = ap (instances_at names met) e ∙ sym (append_nil (instances_at names met old))
  where
    append_nil : {A : Type 0} (xs : List A) → xs ++ [] ≡ xs
    append_nil [] = refl
    append_nil (x ∷ xs) = ap (λ l. x ∷ l) (append_nil xs)

-- where these are reached too
pub reached_more : (names : ItemNames) (met : List InstanceKey) (old more : List ℕ) → instances_at names met (old ++ more) ≡ instances_at names met old ++ instances_at names met more
reached_more names met old more = map-append (instance_at names met) old more
