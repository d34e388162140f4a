-- Walks one after another, behind which other names may be in scope, and what they find.
use Rattle.std.proofs.Common.{◌≡◌, ◌++◌, ◌∙◌, ℕ, List, [], length, drop, append_assoc, sym, subst}
use Rattle.std.proofs.lemmas.List.{append-nil}
use Rattle.xb_span.specs.declared.fault.Fault.{Fault}
use Rattle.dslx_meaning.specs.Rules.ItemRules.{Found, and_found, nothing_found}
use Rattle.dslx_meaning.specs.Rules.TypeEnvs.{GlobalEnv}
use Rattle.dslx_check_rules.specs.declared.faults.Faults.{Faults}
use Rattle.dslx_check_rules.specs.Seen.{seen}
use Rattle.dslx_check_rules.specs.Interned.{ItemNames}
use Rattle.dslx_check_facts.specs.declared.facts.Facts.{Facts}
use Rattle.dslx_check_facts.specs.declared.type_env.TypeEnv.{TypeEnv as CodeEnv}
use Rattle.dslx_check_facts.specs.Judged.{Comes, HasRows, environment}
use Rattle.dslx_check_facts.specs.Known.{FactsHold, item_names}
use Rattle.dslx_check_facts.specs.TypeEnvs.{HasBoundRows}
use Rattle.dslx_check_facts.specs.Walks.{HasTables, WalkGrows, WalkShown, instances_at}
use Rattle.dslx_check_facts.proofs.Lemmas.Walks.{grows_refl, grows_trans, nothing_missing, tables_trans}
use Rattle.dslx_check_facts.proofs.Lemmas.Judged.{known_rows_stay, rows_stay}
use Rattle.dslx_check_leaves.specs.Walked.{Claim, WalksTo}
use Rattle.dslx_check_leaves.proofs.Lemmas.Walking.{all_dropped, behind_both, reached_both}

-- ---- walks

abbrev pub Said : Type 1
Said = GlobalEnv → WalkShown → List ℕ → Type 0

-- a walk from one place to another: all that is in scope behind it has a row
pub record Runs (f : Facts) (s0 s1 : CodeEnv) (w0 w1 : WalkShown) (P : Said) : Type 0 where
  pub grows : WalkGrows w0 w1
  pub bound : Comes f s0 w0 w1 (λ known later. HasBoundRows (item_names f) w1.rows s1)
  pub holds : Comes f s0 w0 w1 (λ known later. P known later (drop (length w0.reached) w1.reached))

pub rows_after : {f : Facts} {s0 s1 : CodeEnv} {w0 w1 : WalkShown} {P : Said} → Runs f s0 s1 w0 w1 P → (known : GlobalEnv) (later : WalkShown) → HasTables w1 later → FactsHold f later known → HasRows f s0 w0
    → w1.missing ≡ [] → HasRows f s1 w1
rows_after {f} {s0} {s1} {w0} {w1} g known later has agrees there none = record {
  known = known_rows_stay w0.rows w1.rows f g.grows.tables.rows there.known;
  bound = g.bound known later has agrees there none;
}

-- one that leaves what is in scope as it was
pub as_run : {f : Facts} {s0 s1 : CodeEnv} {w0 w1 : WalkShown} (C : Claim) → WalksTo f s0 s1 w0 w1 C → Runs f s0 s1 w0 w1 (λ known later more. C (item_names f) w1.rows later more (environment f s0 known later))
as_run {f} {s0} {s1} {w0} {w1} C g = record {
  grows = g.grows;
  bound = λ known later has agrees there none. subst (λ (s : CodeEnv). HasBoundRows (item_names f) w1.rows s) (sym g.sight) (rows_stay f s0 w0 w1 g.grows.tables there).bound;
  holds = g.holds;
}

-- nothing
pub stands_still : {f : Facts} {s : CodeEnv} {w : WalkShown} (P : Said) → ((known : GlobalEnv) (later : WalkShown) → HasTables w later → FactsHold f later known → P known later []) → Runs f s s w w P
stands_still {f} {s} {w} P h = record {
  grows = grows_refl w;
  bound = λ known later has agrees there none. there.bound;
  holds = λ known later has agrees there none. subst (P known later) (sym (all_dropped w.reached)) (h known later has agrees);
}

pub record Then (P Q : Said) (known : GlobalEnv) (later : WalkShown) (more : List ℕ) : Type 0 where
  pub front : List ℕ
  pub rest : List ℕ
  pub joined : more ≡ front ++ rest
  pub first : P known later front
  pub second : Q known later rest

pub one_then : {f : Facts} {s0 s1 s2 : CodeEnv} {w0 w1 w2 : WalkShown} (P Q : Said) → Runs f s0 s1 w0 w1 P → Runs f s1 s2 w1 w2 Q → Runs f s0 s2 w0 w2 (Then P Q)
one_then {f} {s0} {s1} {s2} {w0} {w1} {w2} P Q g h = record {
  grows = grows_trans w0 w1 w2 g.grows h.grows;
  bound = λ known later has agrees there none.
      h.bound known later has agrees (rows_after g known later (tables_trans w1 w2 later h.grows.tables has) agrees there (nothing_missing w1 w2 h.grows none)) none;
  holds = λ known later has agrees there none.
      let before = tables_trans w1 w2 later h.grows.tables has in
      let none_before = nothing_missing w1 w2 h.grows none in
      record {
        front = drop (length w0.reached) w1.reached;
        rest = drop (length w1.reached) w2.reached;
        joined = behind_both w0.reached w1.reached w2.reached g.grows.reached h.grows.reached;
        first = g.holds known later before agrees there none_before;
        second = h.holds known later has agrees (rows_after g known later before agrees there none_before) none;
      };
}

-- what follows
pub so_runs : {f : Facts} {s0 s1 : CodeEnv} {w0 w1 : WalkShown} (P Q : Said) → Runs f s0 s1 w0 w1 P
    → ((known : GlobalEnv) (later : WalkShown) (more : List ℕ) → HasTables w1 later → FactsHold f later known → P known later more → Q known later more) → Runs f s0 s1 w0 w1 Q
so_runs {f} {s0} {s1} {w0} {w1} P Q g h = record {
  grows = g.grows;
  bound = g.bound;
  holds = λ known later has agrees there none. h known later (drop (length w0.reached) w1.reached) has agrees (g.holds known later has agrees there none);
}

-- with something else in scope behind it
pub in_scope : {f : Facts} {s0 s1 s2 : CodeEnv} {w0 w1 : WalkShown} (P : Said) → Runs f s0 s1 w0 w1 P
    → ((known : GlobalEnv) (later : WalkShown) (more : List ℕ) → HasTables w1 later → FactsHold f later known → HasRows f s1 w1 → P known later more → HasBoundRows (item_names f) w1.rows s2) → Runs f s0 s2 w0 w1 P
in_scope {f} {s0} {s1} {s2} {w0} {w1} P g h = record {
  grows = g.grows;
  bound = λ known later has agrees there none.
      h known later (drop (length w0.reached) w1.reached) has agrees (rows_after g known later has agrees there none) (g.holds known later has agrees there none);
  holds = g.holds;
}

-- ---- what is found

pub found_joins : (x y z : Found) → and_found (and_found x y) z ≡ and_found x (and_found y z)
found_joins x y z = λ i. record { faults = append_assoc x.faults y.faults z.faults i; reached = append_assoc x.reached y.reached z.reached i }

pub nothing_behind : (x : Found) → and_found x nothing_found ≡ x
nothing_behind x = λ i. record { faults = append-nil x.faults i; reached = append-nil x.reached i }

abbrev pub Joins : Faults → Faults → Faults → Type 0
Joins a b r = (fs gs : List Fault) → a ≡ seen fs → b ≡ seen gs → r ≡ seen (fs ++ gs)

-- faults that were found, and the instances that were reached by the way, are these
pub record IsFound (names : ItemNames) (later : WalkShown) (more : List ℕ) (faults : Faults) (found : Found) : Type 0 where
  pub is : faults ≡ seen found.faults
  pub reaches : instances_at names later.met more ≡ found.reached

pub both_found : {names : ItemNames} {later : WalkShown} {more front rest : List ℕ} {a b r : Faults} {x y : Found} → more ≡ front ++ rest → IsFound names later front a x → IsFound names later rest b y → Joins a b r
    → IsFound names later more r (and_found x y)
both_found {names} {later} {more} {front} {rest} {a} {b} {r} {x} {y} joined p q joins = record {
  is = joins x.faults y.faults p.is q.is;
  reaches = reached_both names later.met more front rest x.reached y.reached joined p.reaches q.reaches;
}

pub found_as : {names : ItemNames} {later : WalkShown} {more : List ℕ} {faults : Faults} {x y : Found} → x ≡ y → IsFound names later more faults x → IsFound names later more faults y
found_as {names} {later} {more} {faults} e p = subst (IsFound names later more faults) e p

-- faults alone
pub only_found : {names : ItemNames} {later : WalkShown} {more : List ℕ} {a b r : Faults} {x : Found} (fs : List Fault) → IsFound names later more a x → b ≡ seen fs → Joins a b r
    → IsFound names later more r (and_found x (record { faults = fs; reached = [] }))
only_found {names} {later} {more} {a} {b} {r} {x} fs p e joins = record { is = joins x.faults fs p.is e; reaches = p.reaches ∙ sym (append-nil x.reached) }
