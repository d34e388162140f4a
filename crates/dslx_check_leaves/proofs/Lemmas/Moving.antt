-- Walks that bind names, one after another.
use Rattle.std.proofs.Common.{◌≡◌, ◌++◌, ◌∙◌, ◌-◌, ◌+◌, ◌<◌, ◌≤◌, ℕ, suc, List, [], ◌∷◌, Bool, Option, Some, None, map, length, drop, take, get_or, append_assoc, arith, length-append, refl, sym, ap, subst}
use Rattle.base.specs.Lists.Prefix.{IsPrefix}
use Rattle.xb_span.specs.declared.span.Span.{Span}
use Rattle.std.specs.Option.{option_map}
use Rattle.dslx_tree.specs.declared.block.Stmt.{Stmt}
use Rattle.dslx_tree.specs.declared.expr.Expr.{Expr}
use Rattle.dslx_meaning.specs.Rules.ControlRules.{last_typing, statements_typing}
use Rattle.dslx_meaning.specs.Rules.TypeEnvs.{GlobalEnv, Judgement, TypeEnv, alone, plus_size}
use Rattle.dslx_meaning.specs.Rules.Typings.{StatementSeen, StatementTyping as Statement}
use Rattle.dslx_check_rules.specs.declared.table.row.TypeRow.{TypeRow}
use Rattle.dslx_check_rules.specs.declared.typing.Typing.{Typing}
use Rattle.dslx_check_rules.specs.Interned.{AreDistinct, ItemNames}
use Rattle.dslx_check_facts.specs.declared.facts.Facts.{Facts}
use Rattle.dslx_check_facts.specs.declared.type_env.TypeEnv.{TypeEnv as CodeEnv}
use Rattle.dslx_check_facts.specs.Judged.{HasRows, environment}
use Rattle.dslx_check_facts.specs.Known.{FactsHold, item_names}
use Rattle.dslx_check_facts.specs.TypeEnvs.{HasBoundRows}
use Rattle.dslx_check_facts.specs.Walks.{WalkShown, HasTables, instances_at}
use Rattle.dslx_check_facts.proofs.Lemmas.Walks.{grows_refl, grows_trans, nothing_missing, tables_trans}
use Rattle.dslx_check_facts.proofs.Lemmas.Judged.{known_rows_stay, rows_stay}
use Rattle.dslx_check_rules.specs.declared.control.control.StatementTyping.{StatementTyping}
use Rattle.dslx_check_rules.specs.Control.Control.{FromBlock, IsStatement, block_of, both_statements, no_statement, no_value}
use Rattle.dslx_check_leaves.specs.Named.Constants.{expr_typed}
use Rattle.dslx_check_leaves.specs.Typed.{stmt_typed}
use Rattle.dslx_check_leaves.specs.Walked.{PatternNames, Claim, IsBehind, MoveClaim, Moved, WalksTo, TypesPart, TypesStatements}
use Rattle.dslx_check_leaves.proofs.Lemmas.Each.{take_all, take_next}
use Rattle.dslx_check_leaves.proofs.Lemmas.Walking.{AddsTypes, all_dropped, behind_both, grows_rows, has_rows, reached_both, with_rows}

-- ---- names in front

append_nil : {A : Type 0} (ys : List A) → ys ++ [] ≡ ys
append_nil [] = refl
append_nil (y ∷ ys) = ap (λ zs. y ∷ zs) (append_nil ys)

pub behind_itself : (s : CodeEnv) → IsBehind s s
behind_itself s = record { locals = []; used = []; is = refl }

pub behind_trans : {a b c : CodeEnv} → IsBehind a b → IsBehind b c → IsBehind a c
behind_trans {a} {b} {c} p q = record {
  locals = q.locals ++ p.locals;
  used = q.used ++ p.used;
  is = q.is ∙ (λ i. record (p.is i) { locals = q.locals ++ (p.is i).locals; used = q.used ++ (p.is i).used })
      ∙ (λ i. record a { locals = sym (append_assoc q.locals p.locals a.locals) i; used = sym (append_assoc q.used p.used a.used) i });
}

-- what keeping as many as there were before leaves
pub kept_before : {A : Type 0} (front xs : List A) → drop (length (front ++ xs) - length xs) (front ++ xs) ≡ xs
kept_before {A = A} front xs = ap (λ n. drop n (front ++ xs)) (by front) ∙ dropped front xs
  where
    by : (ys : List A) → length (ys ++ xs) - length xs ≡ length ys
    by ys = let e = length-append ys xs in omega (arith, e)

    dropped : {A : Type 0} (ys zs : List A) → drop (length ys) (ys ++ zs) ≡ zs
    dropped [] zs = refl
    dropped (y ∷ ys) zs = dropped ys zs

-- ---- one after another

-- what is known and bound has rows behind such a walk
pub rows_behind : {f : Facts} {s0 s1 : CodeEnv} {w0 w1 : WalkShown} {P : MoveClaim} → Moved f s0 s1 w0 w1 P → (known : GlobalEnv) (later : WalkShown) → HasTables w1 later → FactsHold f later known → HasRows f s0 w0
    → w1.missing ≡ [] → HasRows f s1 w1
rows_behind {f} {s0} {s1} {w0} {w1} g known later has agrees there none = record {
  known = known_rows_stay w0.rows w1.rows f g.grows.tables.rows there.known;
  bound = g.bound known later has agrees there none;
}

pub record BothMoves (P Q : MoveClaim) (names : ItemNames) (rows : List TypeRow) (later : WalkShown) (more : List ℕ) (env after : TypeEnv) : Type 0 where
  pub between : List TypeRow
  pub grows : IsPrefix between rows
  pub middle : TypeEnv
  pub front : List ℕ
  pub rest : List ℕ
  pub joined : more ≡ front ++ rest
  pub first : P names between later front env middle
  pub second : Q names rows later rest middle after

pub both_moves : {f : Facts} {s0 s1 s2 : CodeEnv} {w0 w1 w2 : WalkShown} (P Q : MoveClaim) → Moved f s0 s1 w0 w1 P → Moved f s1 s2 w1 w2 Q → Moved f s0 s2 w0 w2 (BothMoves P Q)
both_moves {f} {s0} {s1} {s2} {w0} {w1} {w2} P Q g h = record {
  grows = grows_trans w0 w1 w2 g.grows h.grows;
  behind = behind_trans g.behind h.behind;
  bound = λ known later has agrees there none.
      h.bound known later has agrees (rows_behind g known later (tables_trans w1 w2 later h.grows.tables has) agrees there (nothing_missing w1 w2 h.grows none)) none;
  holds = λ known later has agrees there none.
      let before = tables_trans w1 w2 later h.grows.tables has in
      let none_before = nothing_missing w1 w2 h.grows none in
      record {
        between = w1.rows;
        grows = h.grows.tables.rows;
        middle = environment f s1 known later;
        front = drop (length w0.reached) w1.reached;
        rest = drop (length w1.reached) w2.reached;
        joined = behind_both w0.reached w1.reached w2.reached g.grows.reached h.grows.reached;
        first = g.holds known later before agrees there none_before;
        second = h.holds known later has agrees (rows_behind g known later before agrees there none_before) none;
      };
}

-- what follows
pub moved_on : {f : Facts} {s0 s1 : CodeEnv} {w0 w1 : WalkShown} (P Q : MoveClaim) → Moved f s0 s1 w0 w1 P
    → ((names : ItemNames) (later : WalkShown) (more : List ℕ) (env after : TypeEnv) → AreDistinct names → IsPrefix w1.rows later.rows → P names w1.rows later more env after → Q names w1.rows later more env after)
    → Moved f s0 s1 w0 w1 Q
moved_on {f} {s0} {s1} {w0} {w1} P Q g h = record {
  grows = g.grows;
  behind = g.behind;
  bound = g.bound;
  holds = λ known later has agrees there none.
      h (item_names f) later (drop (length w0.reached) w1.reached) (environment f s0 known later) (environment f s1 known later) agrees.distinct has.rows (g.holds known later has agrees there none);
}

-- a walk behind which names are bound
pub moves : {f : Facts} {s0 s1 s2 : CodeEnv} {w0 w1 : WalkShown} (P : Claim) (Q : MoveClaim) → WalksTo f s0 s1 w0 w1 P → IsBehind s0 s2
    → ((known : GlobalEnv) (later : WalkShown) (more : List ℕ) → HasTables w1 later → FactsHold f later known → HasRows f s0 w1 → P (item_names f) w1.rows later more (environment f s0 known later) → HasBoundRows (item_names f) w1.rows s2)
    → ((known : GlobalEnv) (later : WalkShown) (more : List ℕ) → HasTables w1 later → FactsHold f later known → HasRows f s0 w1 → P (item_names f) w1.rows later more (environment f s0 known later)
    → Q (item_names f) w1.rows later more (environment f s0 known later) (environment f s2 known later))
    → Moved f s0 s2 w0 w1 Q
moves {f} {s0} {s1} {s2} {w0} {w1} P Q g behind rows claim = record {
  grows = g.grows;
  behind = behind;
  bound = λ known later has agrees there none.
      rows known later (drop (length w0.reached) w1.reached) has agrees (rows_stay f s0 w0 w1 g.grows.tables there) (g.holds known later has agrees there none);
  holds = λ known later has agrees there none.
      claim known later (drop (length w0.reached) w1.reached) has agrees (rows_stay f s0 w0 w1 g.grows.tables there) (g.holds known later has agrees there none);
}

-- ---- statements

-- none
pub no_statements : {f : Facts} {s : CodeEnv} {w : WalkShown} {j : StatementTyping} → ((env : TypeEnv) → IsStatement j (no_statement env)) → Moved f s s w w (TypesStatements j (λ env. no_statement env))
no_statements {f} {s} {w} {j} is = record {
  grows = grows_refl w;
  behind = behind_itself s;
  bound = λ known later has agrees there none. there.bound;
  holds = λ known later has agrees there none. record { context = refl; typing = is (environment f s known later); reaches = ap (instances_at (item_names f) later.met) (all_dropped w.reached) };
}

-- and one more
pub one_statement : {f : Facts} {s0 s1 s2 : CodeEnv} {w0 w1 w2 : WalkShown} {a b j : StatementTyping} {A B : TypeEnv → StatementSeen}
    → Moved f s0 s1 w0 w1 (TypesStatements a A) → Moved f s1 s2 w1 w2 (TypesStatements b B) → ((x y : StatementSeen) → IsStatement a x → IsStatement b y → IsStatement j (both_statements x y))
    → Moved f s0 s2 w0 w2 (TypesStatements j (λ env. both_statements (A env) (B (A env).context)))
one_statement {f} {s0} {s1} {s2} {w0} {w1} {w2} {a} {b} {j} {A} {B} g h is =
    moved_on (BothMoves (TypesStatements a A) (TypesStatements b B)) (TypesStatements j (λ env. both_statements (A env) (B (A env).context)))
    (both_moves (TypesStatements a A) (TypesStatements b B) g h)
    (λ names later more env after distinct p t.
    let second : TypesStatements b B names w2.rows later t.rest (A env).context after = subst (λ (m : TypeEnv). TypesStatements b B names w2.rows later t.rest m after) t.first.context t.second in
    record {
      context = second.context;
      typing = is (A env) (B (A env).context) t.first.typing second.typing;
      reaches = reached_both names later.met more t.front t.rest (A env).reached (B (A env).context).reached t.joined t.first.reaches second.reaches;
    })

pub restated : {f : Facts} {s0 s1 : CodeEnv} {w0 w1 : WalkShown} {j : StatementTyping} {A B : TypeEnv → StatementSeen} → A ≡ B → Moved f s0 s1 w0 w1 (TypesStatements j A) → Moved f s0 s1 w0 w1 (TypesStatements j B)
restated {f} {s0} {s1} {w0} {w1} {j} e g = subst (λ (D : TypeEnv → StatementSeen). Moved f s0 s1 w0 w1 (TypesStatements j D)) e g

no_size : (n : Option ℕ) → plus_size n (Some 0) ≡ n
no_size None = refl
no_size (Some n) = ap (λ k. Some k) (omega arith)

nothing_more : (n : Option ℕ) → plus_size (Some 0) n ≡ n
nothing_more None = refl
nothing_more (Some n) = ap (λ k. Some k) (omega arith)

sizes_join : (a b c : Option ℕ) → plus_size (plus_size a b) c ≡ plus_size a (plus_size b c)
sizes_join None b c = refl
sizes_join (Some a) None c = refl
sizes_join (Some a) (Some b) None = refl
sizes_join (Some a) (Some b) (Some c) = ap (λ k. Some k) (omega arith)

-- statements with one more behind them
pub statements_then : (ss : List Statement) (s : Statement) (on_top : Bool) (env : TypeEnv)
    → both_statements (statements_typing ss on_top env) (s on_top (statements_typing ss on_top env).context) ≡ statements_typing (ss ++ s ∷ []) on_top env
statements_then [] s on_top env =
    let x = s on_top env in
    λ i. record { context = x.context; faults = sym (append_nil x.faults) i; reached = sym (append_nil x.reached) i; size = (nothing_more x.size ∙ sym (no_size x.size)) i }
statements_then (r ∷ ss) s on_top env =
    let first = r on_top env in
    let rest = statements_typing ss on_top first.context in
    let x = s on_top rest.context in
    let e = statements_then ss s on_top first.context in
    (λ i. record {
      context = x.context;
      faults = append_assoc first.faults rest.faults x.faults i;
      reached = append_assoc first.reached rest.reached x.reached i;
      size = sizes_join first.size rest.size x.size i;
    }) ∙ (λ i. record { context = (e i).context; faults = first.faults ++ (e i).faults; reached = first.reached ++ (e i).reached; size = plus_size first.size (e i).size })

-- a block of statements and a last expression, behind which what was in scope before is so again
pub block_walked : {f : Facts} {s0 s1 s2 s3 : CodeEnv} {w0 w1 w2 : WalkShown} {a : StatementTyping} {b j : Typing} {A : TypeEnv → StatementSeen} {B : TypeEnv → Judgement} (span : Span)
    → Moved f s0 s1 w0 w1 (TypesStatements a A) → WalksTo f s1 s2 w1 w2 (TypesPart b B) → s3 ≡ s0 → FromBlock span w2.rows a b j
    → WalksTo f s0 s3 w0 w2 (TypesPart j (λ env. block_of span (A env) (B (A env).context)))
block_walked {f} {s0} {s1} {s2} {s3} {w0} {w1} {w2} {a} {b} {j} {A} {B} span g h back from = record {
  grows = grows_trans w0 w1 w2 g.grows h.grows;
  sight = back;
  holds = λ known later has agrees there none.
      let names = item_names f in
      let env = environment f s0 known later in
      let before = tables_trans w1 w2 later h.grows.tables has in
      let none_before = nothing_missing w1 w2 h.grows none in
      let front = drop (length w0.reached) w1.reached in
      let rest = drop (length w1.reached) w2.reached in
      let t : TypesStatements a A names w1.rows later front env (environment f s1 known later) = g.holds known later before agrees there none_before in
      let u : TypesPart b B names w2.rows later rest (A env).context =
      subst (λ (m : TypeEnv). TypesPart b B names w2.rows later rest m) t.context (h.holds known later has agrees (rows_behind g known later before agrees there none_before) none) in
      record {
        part = from.typed names later.rows agrees.distinct has.rows (A env) (B (A env).context) t.typing u.part;
        reaches = reached_both names later.met (drop (length w0.reached) w2.reached) front rest (A env).reached (B (A env).context).reached
            (behind_both w0.reached w1.reached w2.reached g.grows.reached h.grows.reached) t.reaches u.reaches;
      };
}

-- ---- statements of a block

pub statements_next : (ss : List Stmt) (n : ℕ) (x : Stmt) (on_top : Bool) → n < length ss → x ≡ get_or ss n x
    → ◌≡◌ {A = TypeEnv → StatementSeen}
    (λ env. both_statements (statements_typing (map stmt_typed (take n ss)) on_top env) (stmt_typed x on_top (statements_typing (map stmt_typed (take n ss)) on_top env).context))
    (λ env. statements_typing (map stmt_typed (take (n + 1) ss)) on_top env)
statements_next ss n x on_top h e =
    let on : suc n ≡ n + 1 = omega arith in
    λ i env. (statements_then (map stmt_typed (take n ss)) (stmt_typed x) on_top env
    ∙ ap (λ (ks : List Statement). statements_typing ks on_top env) (take_next stmt_typed ss n x h e ∙ ap (λ k. map stmt_typed (take k ss)) on)) i

pub statements_all : (ss : List Stmt) (n : ℕ) (on_top : Bool) → length ss ≤ n
    → ◌≡◌ {A = TypeEnv → StatementSeen} (λ env. statements_typing (map stmt_typed (take n ss)) on_top env) (λ env. statements_typing (map stmt_typed ss) on_top env)
statements_all ss n on_top h = λ i env. statements_typing (map stmt_typed (take_all ss n h i)) on_top env

-- the end of a block
pub last_none : {v : Option Expr} → v ≡ None → ◌≡◌ {A = TypeEnv → Judgement} (λ env. no_value) (λ env. last_typing env (option_map expr_typed v))
last_none is = λ i env. last_typing env (option_map expr_typed (sym is i))

pub last_some : {v : Option Expr} {e : Expr} → v ≡ Some e → ◌≡◌ {A = TypeEnv → Judgement} (λ env. alone env (expr_typed e)) (λ env. last_typing env (option_map expr_typed v))
last_some is = λ i env. last_typing env (option_map expr_typed (sym is i))

-- what was in scope before a block is so again where as many names are kept
pub kept_scope : {s0 s1 s2 : CodeEnv} {names used : ℕ} {L : PatternNames} {U : List (List ℕ × Unit {0})} → IsBehind s0 s1 → s2 ≡ s1 → names ≡ length s0.locals → used ≡ length s0.used
    → L ≡ drop (length s2.locals - names) s2.locals → U ≡ drop (length s2.used - used) s2.used → record s2 { locals = L; used = U } ≡ s0
kept_scope {s0} {s1} {s2} {names} {used} {L} {U} behind same n u l k =
    let is : s2 ≡ record s0 { locals = behind.locals ++ s0.locals; used = behind.used ++ s0.used } = same ∙ behind.is in
    let locals : L ≡ s0.locals = l ∙ (λ i. drop (length (is i).locals - n i) (is i).locals) ∙ kept_before behind.locals s0.locals in
    let sites : U ≡ s0.used = k ∙ (λ i. drop (length (is i).used - u i) (is i).used) ∙ kept_before behind.used s0.used in
    λ i. record (is i) { locals = locals i; used = sites i }

-- ---- walks behind such

pub record ThenWalk (P : MoveClaim) (Q : Claim) (between : List TypeRow) (names : ItemNames) (rows : List TypeRow) (later : WalkShown) (more : List ℕ) (env after : TypeEnv) : Type 0 where
  pub grows : IsPrefix between rows
  pub middle : TypeEnv
  pub front : List ℕ
  pub rest : List ℕ
  pub joined : more ≡ front ++ rest
  pub first : P names between later front env middle
  pub second : Q names rows later rest middle
  pub same : after ≡ middle

pub then_walk : {f : Facts} {s0 s1 s2 : CodeEnv} {w0 w1 w2 : WalkShown} (P : MoveClaim) (Q : Claim) → Moved f s0 s1 w0 w1 P → WalksTo f s1 s2 w1 w2 Q → Moved f s0 s2 w0 w2 (ThenWalk P Q w1.rows)
then_walk {f} {s0} {s1} {s2} {w0} {w1} {w2} P Q g h = record {
  grows = grows_trans w0 w1 w2 g.grows h.grows;
  behind = subst (IsBehind s0) (sym h.sight) g.behind;
  bound = λ known later has agrees there none.
      let before = tables_trans w1 w2 later h.grows.tables has in
      let rows : HasRows f s1 w2 = rows_stay f s1 w1 w2 h.grows.tables (rows_behind g known later before agrees there (nothing_missing w1 w2 h.grows none)) in
      subst (HasBoundRows (item_names f) w2.rows) (sym h.sight) rows.bound;
  holds = λ known later has agrees there none.
      let before = tables_trans w1 w2 later h.grows.tables has in
      let none_before = nothing_missing w1 w2 h.grows none in
      record {
        grows = h.grows.tables.rows;
        middle = environment f s1 known later;
        front = drop (length w0.reached) w1.reached;
        rest = drop (length w1.reached) w2.reached;
        joined = behind_both w0.reached w1.reached w2.reached g.grows.reached h.grows.reached;
        first = g.holds known later before agrees there none_before;
        second = h.holds known later has agrees (rows_behind g known later before agrees there none_before) none;
        same = ap (λ (s : CodeEnv). environment f s known later) h.sight;
      };
}

-- with names bound behind it
pub moved_more : {f : Facts} {s0 s1 s2 : CodeEnv} {w0 w1 : WalkShown} (P Q : MoveClaim) → Moved f s0 s1 w0 w1 P → IsBehind s1 s2
    → ((known : GlobalEnv) (later : WalkShown) (more : List ℕ) → HasTables w1 later → FactsHold f later known → HasRows f s1 w1
    → P (item_names f) w1.rows later more (environment f s0 known later) (environment f s1 known later) → HasBoundRows (item_names f) w1.rows s2)
    → ((known : GlobalEnv) (later : WalkShown) (more : List ℕ) → HasTables w1 later → FactsHold f later known → HasRows f s1 w1
    → P (item_names f) w1.rows later more (environment f s0 known later) (environment f s1 known later)
    → Q (item_names f) w1.rows later more (environment f s0 known later) (environment f s2 known later))
    → Moved f s0 s2 w0 w1 Q
moved_more {f} {s0} {s1} {s2} {w0} {w1} P Q g behind rows claim = record {
  grows = g.grows;
  behind = behind_trans g.behind behind;
  bound = λ known later has agrees there none.
      rows known later (drop (length w0.reached) w1.reached) has agrees (rows_behind g known later has agrees there none) (g.holds known later has agrees there none);
  holds = λ known later has agrees there none.
      claim known later (drop (length w0.reached) w1.reached) has agrees (rows_behind g known later has agrees there none) (g.holds known later has agrees there none);
}

-- a walk behind which what was in scope before is so again
pub restored : {f : Facts} {s0 s1 s2 : CodeEnv} {w0 w1 : WalkShown} (P : MoveClaim) (Q : Claim) {rows : List TypeRow} → Moved f s0 s1 w0 w1 P → s2 ≡ s0 → AddsTypes w1.rows rows
    → ((names : ItemNames) (later : WalkShown) (more : List ℕ) (env after : TypeEnv) → AreDistinct names → IsPrefix rows later.rows → P names w1.rows later more env after → Q names rows later more env)
    → WalksTo f s0 s2 w0 (with_rows w1 rows) Q
restored {f} {s0} {s1} {s2} {w0} {w1} P Q {rows} g back a h = record {
  grows = grows_rows w0 w1 rows g.grows a;
  sight = back;
  holds = λ known later has agrees there none.
      h (item_names f) later (drop (length w0.reached) w1.reached) (environment f s0 known later) (environment f s1 known later) agrees.distinct has.rows
      (g.holds known later (has_rows w1 later rows a.rows has) agrees there none);
}
