-- What is right stays right, step by step.
use Rattle.std.proofs.Common.{◌≡◌, ◌≢◌, ◌∙◌, ◌==◌, ℕ, Bool, true, false, List, [], ◌∷◌, length, Option, Some, refl, sym, ap, subst, arith, if◌then◌else◌}
use Rattle.std.proofs.lemmas.Bool.Decides.{Decides-eqb}
use Rattle.std.proofs.lemmas.Option.{none-some, same_Some}
use Rattle.base.proofs.Lemmas.Lists.Prefixes.{IsPrefix-refl}
use Rattle.dslx_tree.specs.declared.item.Module.{Module}
use Rattle.dslx_tree.specs.declared.process.Proc.{Proc}
use Rattle.dslx_meaning.specs.Rules.Namesakes.{told_apart}
use Rattle.dslx_meaning.specs.Rules.TypeEnvs.{GlobalEnv}
use Rattle.dslx_check_facts.specs.declared.facts.Facts.{Facts}
use Rattle.dslx_check_facts.specs.declared.walk.Need.{Need}
use Rattle.dslx_check_facts.specs.declared.walk.Walk.{Walk}
use Rattle.dslx_check_facts.specs.Known.{at_place, text_of}
use Rattle.dslx_check_facts.specs.Names.{definition_at}
use Rattle.dslx_check_facts.specs.Nothing.{IsNothingKnown}
use Rattle.dslx_check_facts.specs.Walks.{HasTables, OnlyMisses, WalkGrows, WalkShown, shown}
use Rattle.dslx_check_facts.proofs.Lemmas.Walks.{misses_grows, misses_refl, misses_trans, tables_refl, tables_trans}
use Rattle.dslx_check_rules.proofs.Lemmas.Types.{get_in_prefix}
use Rattle.dslx_check_declarations.specs.Tops.{IsProcAt}
use Rattle.dslx_check_declarations.specs.Work.Learnt.{PutsThere}
use Rattle.dslx_check_declarations.specs.Work.Tables.{KnowsBy}
use Rattle.dslx_check_declarations.specs.Work.Text.{IsTextEnv}
use Rattle.dslx_check_tasks.specs.Laws.{KnownStays, NothingKnown}
use Rattle.dslx_check_tasks.specs.declared.work.Reaches.{Reaches}
use Rattle.dslx_check_tasks.specs.declared.work.Work.{Work}
use Rattle.dslx_check_tasks.specs.Standing.{AreFound, WorkGoesOn, IsInstanceFound, IsItemFound, IsSettledText, Stands, own_globals}

-- ---- steps

pub stays : (w : Work) → WorkGoesOn w w
stays w = record { text = refl; tables = tables_refl (shown w.walk); right = λ r. r }

pub steps : (a b c : Work) → WorkGoesOn a b → WorkGoesOn b c → WorkGoesOn a c
steps a b c p q = record { text = q.text ∙ p.text; tables = tables_trans (shown a.walk) (shown b.walk) (shown c.walk) p.tables q.tables; right = λ r. q.right (p.right r) }

-- tasks say nothing
pub only_tasks : (a b : Work) → b ≡ record a { tasks = b.tasks } → WorkGoesOn a b
only_tasks a b e = subst (WorkGoesOn a) (sym e) (record { text = refl; tables = tables_refl (shown a.walk); right = λ r. record { settled = r.settled; knows = r.knows; found = r.found } })

-- ---- what is found

pub found_by_stays : (text : Module) (v0 v1 : WalkShown) (r : Reaches) (i : ℕ) → HasTables v0 v1 → IsItemFound text v0 i r → IsItemFound text v1 i r
found_by_stays text v0 v1 r i tables h = λ x e. record { faults = (h x e).faults; reached = λ later t. (h x e).reached later (tables_trans v0 v1 later tables t) }

pub instance_stays : (text : Module) (v0 v1 : WalkShown) (r : Reaches) (n : ℕ) → HasTables v0 v1 → IsInstanceFound text v0 n r → IsInstanceFound text v1 n r
instance_stays text v0 v1 r n tables h = record {
  key = h.key;
  met = get_in_prefix v0.met v1.met n h.key tables.met h.met;
  is = record { faults = h.is.faults; reached = λ later t. h.is.reached later (tables_trans v0 v1 later tables t) };
}

pub found_stays : (text : Module) (v0 v1 : WalkShown) (items instances : List (Option Reaches)) → HasTables v0 v1 → AreFound text v0 items instances → AreFound text v1 items instances
found_stays text v0 v1 items instances tables f = record {
  items_are = λ i r e. found_by_stays text v0 v1 r i tables (f.items_are i r e);
  instances_are = λ n r e. instance_stays text v0 v1 r n tables (f.instances_are n r e);
}

-- what is noted at a place is this, or it is what was noted
pub by_put : {A : Type 0} {old new : List (Option A)} {at : ℕ} {v : A} (P : ℕ → A → Type 0) → PutsThere old new at v → P at v → (n : ℕ) (r : A) → (at_place old n ≡ Some r → P n r) → at_place new n ≡ Some r → P n r
by_put {A} {old} {new} {at} {v} P put here n r other e = by (n == at) refl
  where
    by : (b : Bool) → (n == at) ≡ b → P n r
    by true q =
        let same : v ≡ r = same_Some v r (sym (put.is n ∙ ap (λ b. if b then Some v else at_place old n) q) ∙ e) in
        subst (λ k. P k r) (sym ((Decides-eqb n at).0 q)) (subst (P at) same here)
    by false q = other (sym (put.is n ∙ ap (λ b. if b then Some v else at_place old n) q) ∙ e)

-- ---- walks

-- a walk that begins has what was met
abbrev pub begun : WalkShown → WalkShown
begun v = record v { reached = []; missing = [] }

pub begun_tables : (v : WalkShown) → HasTables v (begun v)
begun_tables v = record { rows = IsPrefix-refl v.rows; met = IsPrefix-refl v.met; prefixes = IsPrefix-refl v.prefixes; asked = IsPrefix-refl v.asked }

knows_begun : (f : Facts) (v : WalkShown) (known : GlobalEnv) → KnowsBy f v known → KnowsBy f (begun v) known
knows_begun f v known k = record {
  text = k.text;
  settled = k.settled;
  tables = λ later t. k.tables later (record { rows = t.rows; met = t.met; prefixes = t.prefixes; asked = t.asked });
  rows = k.rows;
  fresh = k.fresh;
}

pub stands_begun : (f : Facts) (v0 v1 : WalkShown) (items instances : List (Option Reaches)) → v1 ≡ begun v0 → Stands f v0 items instances → Stands f v1 items instances
stands_begun f v0 v1 items instances e s = subst (λ v. Stands f v items instances) (sym e) (record {
  settled = s.settled;
  knows = knows_begun f v0 (own_globals (text_of f)) s.knows;
  found = found_stays (text_of f) v0 (begun v0) items instances (begun_tables v0) s.found;
})

pub stands_on : KnownStays → (f : Facts) (v0 v1 : WalkShown) (items instances : List (Option Reaches)) → WalkGrows v0 v1 → Stands f v0 items instances → Stands f v1 items instances
stands_on law f v0 v1 items instances g s = record {
  settled = s.settled;
  knows = law f v0 v1 (own_globals (text_of f)) g s.knows;
  found = found_stays (text_of f) v0 v1 items instances g.tables s.found;
}

pub tables_begun : (v0 v1 v2 : WalkShown) → v1 ≡ begun v0 → HasTables v1 v2 → HasTables v0 v2
tables_begun v0 v1 v2 e t = tables_trans v0 v1 v2 (subst (HasTables v0) (sym e) (begun_tables v0)) t

-- a walk that grew from where it began
pub walked_on : KnownStays → (w : Work) (walk1 walk2 : Walk) → shown walk1 ≡ begun (shown w.walk) → WalkGrows (shown walk1) (shown walk2) → WorkGoesOn w (record w { walk = walk2 })
walked_on law w walk1 walk2 e g = record {
  text = refl;
  tables = tables_begun (shown w.walk) (shown walk1) (shown walk2) e g.tables;
  right = λ r. stands_on law w.facts (shown walk1) (shown walk2) w.items.items w.instances.items g (stands_begun w.facts (shown w.walk) (shown walk1) w.items.items w.instances.items e r);
}

-- and what it missed is put before its task
pub postponed : KnownStays → (w new : Work) (walk1 walk2 : Walk) → shown walk1 ≡ begun (shown w.walk) → WalkGrows (shown walk1) (shown walk2)
    → new ≡ record w { walk = walk2; tasks = new.tasks } → WorkGoesOn w new
postponed law w new walk1 walk2 e g same = steps w (record w { walk = walk2 }) new (walked_on law w walk1 walk2 e g) (only_tasks (record w { walk = walk2 }) new same)

-- ---- whether something is missing

is_something : {A : Type 0} (x : A) (xs : List A) → x ∷ xs ≡ [] → ⊥
is_something {A} x xs e = subst IsFull e tt
  where
    IsFull : List A → Type 0
    IsFull [] = ⊥
    IsFull (y ∷ ys) = Unit {0}

pub some_missing : (missing : List Need) → length missing ≢ 0 → missing ≡ [] → ⊥
some_missing [] h e = h refl
some_missing (n ∷ ns) h e = is_something n ns e

pub none_missing : (missing : List Need) → length missing ≡ 0 → missing ≡ []
none_missing [] h = refl
none_missing (n ∷ ns) h = absurd (omega (arith, h))

pub no_more : (w : WalkShown) → OnlyMisses w w
no_more = misses_refl

pub more_missed : (a b c : WalkShown) → OnlyMisses a b → OnlyMisses b c → OnlyMisses a c
more_missed = misses_trans

-- a walk that noted what isn't known, and nothing more
pub missed_on : KnownStays → (w : Work) (walk1 walk2 : Walk) → shown walk1 ≡ begun (shown w.walk) → OnlyMisses (shown walk1) (shown walk2) → WorkGoesOn w (record w { walk = walk2 })
missed_on law w walk1 walk2 e m = walked_on law w walk1 walk2 e (misses_grows (shown walk1) (shown walk2) m)

pub begun_on : KnownStays → (w : Work) (walk1 : Walk) → shown walk1 ≡ begun (shown w.walk) → WorkGoesOn w (record w { walk = walk1 })
begun_on law w walk1 e = missed_on law w walk1 walk1 e (misses_refl (shown walk1))

-- tasks that are put or taken
pub with_tasks : (a b new : Work) → WorkGoesOn a b → new ≡ record b { tasks = new.tasks } → WorkGoesOn a new
with_tasks a b new g e = steps a b new g (only_tasks b new e)

-- ---- where nothing is done

nothing_noted : NothingKnown → (f : Facts) (walk : WalkShown) → IsNothingKnown f → walk.rows ≡ [] → IsTextEnv (text_of f) f.reaching (own_globals (text_of f)) → IsSettledText (text_of f) → Stands f walk [] []
nothing_noted law f walk nothing rows text settled = record {
  settled = settled;
  knows = law f walk (own_globals (text_of f)) nothing text rows;
  found = record { items_are = λ i r e. absurd (none-some r e); instances_are = λ n r e. absurd (none-some r e) };
}

pub nothing_done : NothingKnown → (f : Facts) (walk : WalkShown) (items instances : List (Option Reaches)) → IsNothingKnown f → walk.rows ≡ [] → items ≡ [] → instances ≡ [] → IsTextEnv (text_of f) f.reaching (own_globals (text_of f))
    → IsSettledText (text_of f) → Stands f walk items instances
nothing_done law f walk items instances nothing rows no_items no_instances text settled =
    subst (λ (l : List (Option Reaches)). Stands f walk l instances) (sym no_items) (subst (λ (l : List (Option Reaches)). Stands f walk [] l) (sym no_instances) (nothing_noted law f walk nothing rows text settled))

-- the top of a text is that of the same text
pub same_top : (old new : Facts) (item : ℕ) (process p : Proc) → text_of new ≡ text_of old → IsProcAt old item process p → IsProcAt new item process p
same_top old new item process p e at = record { name = at.name; span = at.span; is = at.is; at = ap (λ (t : Module). definition_at (told_apart t).items item) e ∙ at.at }
