-- Walks one after another, and the node of what they came to.
use Rattle.std.proofs.Common.{◌≡◌, ◌≤◌, ◌++◌, ◌∙◌, ℕ, List, [], ◌∷◌, Bool, true, false, Option, Some, None, length, drop, arith, refl, sym, ap, subst}
use Rattle.std.specs.Prelude.{Result, Ok, Err, IfOk, OnOk, if◌then◌else◌}
use Rattle.std.proofs.lemmas.List.{map-append}
use Rattle.base.specs.Lists.Prefix.{IsPrefix}
use Rattle.base.proofs.Lemmas.Lists.Prefixes.{IsPrefix-refl, IsPrefix-trans}
use Rattle.xb_span.specs.declared.span.Span.{Span}
use Rattle.xb_span.specs.declared.fault.Fault.{Fault}
use Rattle.dslx_meaning.specs.Types.{holds_token}
use Rattle.dslx_meaning.specs.declared.ty.DslxType.{DslxType}
use Rattle.dslx_meaning.specs.Rules.TypeEnvs.{Instance, Judgement, TypeEnv, limited, no_token, type_limits}
use Rattle.dslx_meaning.specs.Rules.ConstantRules.{ConstantSeen, CountSeen}
use Rattle.dslx_check_rules.specs.declared.table.row.TypeRow.{TypeRow}
use Rattle.dslx_check_rules.specs.declared.typing.Typing.{Typing}
use Rattle.dslx_check_rules.specs.Seen.{seen}
use Rattle.dslx_check_rules.specs.Interned.{AreDistinct, ItemNames, KeepsItems, HasRowIf, type_if}
use Rattle.dslx_check_facts.specs.declared.facts.Facts.{Facts}
use Rattle.dslx_check_facts.specs.declared.instances.InstanceKey.{InstanceKey}
use Rattle.dslx_check_facts.specs.declared.type_env.TypeEnv.{TypeEnv as CodeEnv}
use Rattle.dslx_check_facts.specs.Judged.{HasRows, ComesToTyping, environment}
use Rattle.dslx_check_facts.specs.Known.{item_names}
use Rattle.dslx_check_facts.specs.Typings.{IsTyping}
use Rattle.dslx_check_facts.specs.Walks.{WalkShown, HasTables, WalkGrows, OnlyMisses, instance_at, instances_at}
use Rattle.dslx_check_facts.proofs.Lemmas.Walks.{grows_refl, grows_trans, misses_grows, nothing_missing, tables_trans}
use Rattle.dslx_check_facts.proofs.Lemmas.Judged.{row_stays_if, rows_stay}
use Rattle.dslx_check_rules.specs.declared.nodes.parts.ConstantTyping.{ConstantTyping}
use Rattle.dslx_check_rules.specs.declared.nodes.parts.CountTyping.{CountTyping}
use Rattle.dslx_check_rules.specs.Nodes.Parts.{IsPart, IsConstant, FromNone, FromOne, FromTwo, FromThree, FromCount, FromPartAndCount, CountFrom, FromSlice}
use Rattle.dslx_check_leaves.specs.Named.Constants.{ConstantFrom}
use Rattle.dslx_check_leaves.specs.Walked.{Claim, WalksTo, TypesPart, TypesConstant, TypesCount}

-- ---- lists

pub front_and_rest : {A : Type 0} (ys zs : List A) → IsPrefix ys zs → zs ≡ ys ++ drop (length ys) zs
front_and_rest [] zs f = refl
front_and_rest (y ∷ ys) [] f = absurd f
front_and_rest (y ∷ ys) (z ∷ zs) f = λ i. sym f.0 i ∷ front_and_rest ys zs f.1 i

pub behind_both : {A : Type 0} (xs ys zs : List A) → IsPrefix xs ys → IsPrefix ys zs → drop (length xs) zs ≡ drop (length xs) ys ++ drop (length ys) zs
behind_both [] ys zs f g = front_and_rest ys zs g
behind_both (x ∷ xs) [] zs f g = absurd f
behind_both (x ∷ xs) (y ∷ ys) [] f g = absurd g
behind_both (x ∷ xs) (y ∷ ys) (z ∷ zs) f g = behind_both xs ys zs f.1 g.1

pub all_dropped : {A : Type 0} (xs : List A) → drop (length xs) xs ≡ []
all_dropped [] = refl
all_dropped (x ∷ xs) = all_dropped xs

abbrev tail_of : {A : Type 0} → List A → List A
tail_of [] = []
tail_of (x ∷ xs) = xs

same_rest : {A : Type 0} (xs ys zs : List A) → xs ++ ys ≡ xs ++ zs → ys ≡ zs
same_rest [] ys zs e = e
same_rest (x ∷ xs) ys zs e = same_rest xs ys zs (ap tail_of e)

-- ---- a walk whose table of types grew

abbrev pub with_rows : WalkShown → List TypeRow → WalkShown
with_rows w rows = record w { rows = rows }

pub record AddsTypes (old new : List TypeRow) : Type 0 where
  pub rows : IsPrefix old new
  pub items : KeepsItems old new

pub same_types : (rows : List TypeRow) → AddsTypes rows rows
same_types rows = record { rows = IsPrefix-refl rows; items = λ k r at h. at }

pub has_rows : (w later : WalkShown) (rows : List TypeRow) → IsPrefix w.rows rows → HasTables (with_rows w rows) later → HasTables w later
has_rows w later rows p has = record { rows = IsPrefix-trans w.rows rows later.rows p has.rows; met = has.met; prefixes = has.prefixes; asked = has.asked }

pub grows_rows : (a b : WalkShown) (rows : List TypeRow) → WalkGrows a b → AddsTypes b.rows rows → WalkGrows a (with_rows b rows)
grows_rows a b rows g p = record {
  tables = record { rows = IsPrefix-trans a.rows b.rows rows g.tables.rows p.rows; met = g.tables.met; prefixes = g.tables.prefixes; asked = g.tables.asked };
  items = λ k r at h. g.items k r (p.items k r at h) h;
  reached = g.reached;
  missing = g.missing;
}

-- what a call that may fail adds
pub by_half : {T E : Type 0} (r : Result T E) {old new : List TypeRow} {P Q : T → Type 0} → OnOk r (IsPrefix old new) → OnOk r (KeepsItems old new) → IfOk r P
    → ((t : T) → AddsTypes old new → P t → Q t) → IfOk r Q
by_half (Ok t) g i p h = h t (record { rows = g; items = i }) p
by_half (Err e) g i p h = tt

-- ---- two walks

pub record Both (P Q : Claim) (between : List TypeRow) (names : ItemNames) (rows : List TypeRow) (later : WalkShown) (more : List ℕ) (env : TypeEnv) : Type 0 where
  pub grows : IsPrefix between rows
  pub front : List ℕ
  pub rest : List ℕ
  pub joined : more ≡ front ++ rest
  pub first : P names between later front env
  pub second : Q names rows later rest env

pub both : {f : Facts} {s0 s1 s2 : CodeEnv} {w0 w1 w2 : WalkShown} (P Q : Claim) → WalksTo f s0 s1 w0 w1 P → WalksTo f s1 s2 w1 w2 Q → WalksTo f s0 s2 w0 w2 (Both P Q w1.rows)
both {f} {s0} {s1} {s2} {w0} {w1} {w2} P Q g h = record {
  grows = grows_trans w0 w1 w2 g.grows h.grows;
  sight = h.sight ∙ g.sight;
  holds = λ known later has agrees there none.
      let there_too : HasRows f s1 w1 = subst (λ (s : CodeEnv). HasRows f s w1) (sym g.sight) (rows_stay f s0 w0 w1 g.grows.tables there) in
      record {
        grows = h.grows.tables.rows;
        front = drop (length w0.reached) w1.reached;
        rest = drop (length w1.reached) w2.reached;
        joined = behind_both w0.reached w1.reached w2.reached g.grows.reached h.grows.reached;
        first = g.holds known later (tables_trans w1 w2 later h.grows.tables has) agrees there (nothing_missing w1 w2 h.grows none);
        second = subst (λ (s : CodeEnv). Q (item_names f) w2.rows later (drop (length w1.reached) w2.reached) (environment f s known later)) g.sight (h.holds known later has agrees there_too none);
      };
}

-- what both reached
pub reached_both : (names : ItemNames) (met : List InstanceKey) (more front rest : List ℕ) (xs ys : List Instance) → more ≡ front ++ rest → instances_at names met front ≡ xs → instances_at names met rest ≡ ys
    → instances_at names met more ≡ xs ++ ys
reached_both names met more front rest xs ys joined a b = ap (instances_at names met) joined ∙ map-append (instance_at names met) front rest ∙ (λ i. a i ++ b i)

-- ---- what follows of a walk

-- with more rows
pub halved : {f : Facts} {s0 s1 : CodeEnv} {w0 w1 : WalkShown} (P Q : Claim) {rows : List TypeRow} → WalksTo f s0 s1 w0 w1 P → AddsTypes w1.rows rows
    → ((names : ItemNames) (later : WalkShown) (more : List ℕ) (env : TypeEnv) → AreDistinct names → IsPrefix rows later.rows → P names w1.rows later more env → Q names rows later more env)
    → WalksTo f s0 s1 w0 (with_rows w1 rows) Q
halved {f} {s0} {s1} {w0} {w1} P Q {rows} g p h = record {
  grows = grows_rows w0 w1 rows g.grows p;
  sight = g.sight;
  holds = λ known later has agrees there none.
      h (item_names f) later (drop (length w0.reached) w1.reached) (environment f s0 known later) agrees.distinct has.rows (g.holds known later (has_rows w1 later rows p.rows has) agrees there none);
}

-- nothing but rows
pub nothing_reached : {f : Facts} {s : CodeEnv} {w : WalkShown} (Q : Claim) {rows : List TypeRow} → AddsTypes w.rows rows
    → ((names : ItemNames) (later : WalkShown) (env : TypeEnv) → AreDistinct names → IsPrefix rows later.rows → Q names rows later [] env)
    → WalksTo f s s w (with_rows w rows) Q
nothing_reached {f} {s} {w} Q {rows} p h = record {
  grows = grows_rows w w rows (grows_refl w) p;
  sight = refl;
  holds = λ known later has agrees there none.
      subst (λ (more : List ℕ). Q (item_names f) rows later more (environment f s known later)) (sym (all_dropped w.reached)) (h (item_names f) later (environment f s known later) agrees.distinct has.rows);
}

-- a part has its row in each longer table
pub part_stays : {names : ItemNames} {rows longer later : List TypeRow} {j : Typing} {x : Judgement} → IsPrefix rows longer → IsPart names rows later j x → IsPart names longer later j x
part_stays {names} {rows} {longer} {later} {j} {x} p t = record { row = row_stays_if rows longer j.ty p t.row; ty = t.ty; faults = t.faults; size = t.size }

pub constant_stays : {names : ItemNames} {rows longer later : List TypeRow} {c : ConstantTyping} {x : ConstantSeen} → IsPrefix rows longer → IsConstant names rows later c x → IsConstant names longer later c x
constant_stays p t = record { part = part_stays p t.part; untyped = t.untyped; value = t.value }

-- ---- nodes of one, of two and of three parts

pub none : {f : Facts} {s : CodeEnv} {w : WalkShown} {rows : List TypeRow} {j : Typing} {half : Judgement} → AddsTypes w.rows rows → FromNone half rows j → half.reached ≡ []
    → WalksTo f s s w (with_rows w rows) (TypesPart j (λ env. half))
none {f} {s} {w} {rows} {j} {half} p h r = nothing_reached (TypesPart j (λ env. half)) p (λ names later env distinct q. record { part = h.typed names later.rows distinct q; reaches = sym r })

pub one : {f : Facts} {s0 s1 : CodeEnv} {w0 w1 : WalkShown} {rows : List TypeRow} {a j : Typing} {A : TypeEnv → Judgement} {half : Judgement → Judgement}
    → WalksTo f s0 s1 w0 w1 (TypesPart a A) → AddsTypes w1.rows rows → FromOne half w1.rows rows a j → ((x : Judgement) → (half x).reached ≡ x.reached)
    → WalksTo f s0 s1 w0 (with_rows w1 rows) (TypesPart j (λ env. half (A env)))
one {f} {s0} {s1} {w0} {w1} {rows} {a} {j} {A} {half} g p h r = halved (TypesPart a A) (TypesPart j (λ env. half (A env))) g p
    (λ names later more env distinct q t. record { part = h.typed names later.rows distinct q (A env) t.part; reaches = t.reaches ∙ sym (r (A env)) })

pub two : {f : Facts} {s0 s1 s2 : CodeEnv} {w0 w1 w2 : WalkShown} {rows : List TypeRow} {a b j : Typing} {A B : TypeEnv → Judgement} {half : Judgement → Judgement → Judgement}
    → WalksTo f s0 s1 w0 w1 (TypesPart a A) → WalksTo f s1 s2 w1 w2 (TypesPart b B) → AddsTypes w2.rows rows → FromTwo half w2.rows rows a b j → ((x y : Judgement) → (half x y).reached ≡ x.reached ++ y.reached)
    → WalksTo f s0 s2 w0 (with_rows w2 rows) (TypesPart j (λ env. half (A env) (B env)))
two {f} {s0} {s1} {s2} {w0} {w1} {w2} {rows} {a} {b} {j} {A} {B} {half} g k p h r =
    halved (Both (TypesPart a A) (TypesPart b B) w1.rows) (TypesPart j (λ env. half (A env) (B env))) (both (TypesPart a A) (TypesPart b B) g k) p
    (λ names later more env distinct q t. record {
      part = h.typed names later.rows distinct q (A env) (B env) (part_stays t.grows t.first.part) t.second.part;
      reaches = reached_both names later.met more t.front t.rest (A env).reached (B env).reached t.joined t.first.reaches t.second.reaches ∙ sym (r (A env) (B env));
    })

pub three : {f : Facts} {s0 s1 s2 s3 : CodeEnv} {w0 w1 w2 w3 : WalkShown} {rows : List TypeRow} {a b d j : Typing} {A B D : TypeEnv → Judgement} {half : Judgement → Judgement → Judgement → Judgement}
    → WalksTo f s0 s1 w0 w1 (TypesPart a A) → WalksTo f s1 s2 w1 w2 (TypesPart b B) → WalksTo f s2 s3 w2 w3 (TypesPart d D) → AddsTypes w3.rows rows → FromThree half w3.rows rows a b d j
    → ((x y z : Judgement) → (half x y z).reached ≡ x.reached ++ y.reached ++ z.reached)
    → WalksTo f s0 s3 w0 (with_rows w3 rows) (TypesPart j (λ env. half (A env) (B env) (D env)))
three {f} {s0} {s1} {s2} {s3} {w0} {w1} {w2} {w3} {rows} {a} {b} {d} {j} {A} {B} {D} {half} g k l p h r =
    halved (Both (Both (TypesPart a A) (TypesPart b B) w1.rows) (TypesPart d D) w2.rows) (TypesPart j (λ env. half (A env) (B env) (D env)))
    (both (Both (TypesPart a A) (TypesPart b B) w1.rows) (TypesPart d D) (both (TypesPart a A) (TypesPart b B) g k) l) p
    (λ names later more env distinct q t. record {
      part = h.typed names later.rows distinct q (A env) (B env) (D env) (part_stays t.grows (part_stays t.first.grows t.first.first.part)) (part_stays t.grows t.first.second.part) t.second.part;
      reaches = reached_both names later.met more t.front t.rest ((A env).reached ++ (B env).reached) (D env).reached t.joined
          (reached_both names later.met t.front t.first.front t.first.rest (A env).reached (B env).reached t.first.joined t.first.first.reaches t.first.second.reaches) t.second.reaches
          ∙ sym (r (A env) (B env) (D env));
    })

-- the same where no type is added
pub none_kept : {f : Facts} {s : CodeEnv} {w : WalkShown} {j : Typing} {half : Judgement} → FromNone half w.rows j → half.reached ≡ [] → WalksTo f s s w w (TypesPart j (λ env. half))
none_kept {f} {s} {w} {j} {half} h r = none (same_types w.rows) h r

pub one_kept : {f : Facts} {s0 s1 : CodeEnv} {w0 w1 : WalkShown} {a j : Typing} {A : TypeEnv → Judgement} {half : Judgement → Judgement}
    → WalksTo f s0 s1 w0 w1 (TypesPart a A) → FromOne half w1.rows w1.rows a j → ((x : Judgement) → (half x).reached ≡ x.reached) → WalksTo f s0 s1 w0 w1 (TypesPart j (λ env. half (A env)))
one_kept {f} {s0} {s1} {w0} {w1} {a} {j} {A} {half} g h r = one g (same_types w1.rows) h r

pub two_kept : {f : Facts} {s0 s1 s2 : CodeEnv} {w0 w1 w2 : WalkShown} {a b j : Typing} {A B : TypeEnv → Judgement} {half : Judgement → Judgement → Judgement}
    → WalksTo f s0 s1 w0 w1 (TypesPart a A) → WalksTo f s1 s2 w1 w2 (TypesPart b B) → FromTwo half w2.rows w2.rows a b j → ((x y : Judgement) → (half x y).reached ≡ x.reached ++ y.reached)
    → WalksTo f s0 s2 w0 w2 (TypesPart j (λ env. half (A env) (B env)))
two_kept {f} {s0} {s1} {s2} {w0} {w1} {w2} g k h r = two g k (same_types w2.rows) h r

pub three_kept : {f : Facts} {s0 s1 s2 s3 : CodeEnv} {w0 w1 w2 w3 : WalkShown} {a b d j : Typing} {A B D : TypeEnv → Judgement} {half : Judgement → Judgement → Judgement → Judgement}
    → WalksTo f s0 s1 w0 w1 (TypesPart a A) → WalksTo f s1 s2 w1 w2 (TypesPart b B) → WalksTo f s2 s3 w2 w3 (TypesPart d D) → FromThree half w3.rows w3.rows a b d j
    → ((x y z : Judgement) → (half x y z).reached ≡ x.reached ++ y.reached ++ z.reached)
    → WalksTo f s0 s3 w0 w3 (TypesPart j (λ env. half (A env) (B env) (D env)))
three_kept {f} {s0} {s1} {s2} {s3} {w0} {w1} {w2} {w3} g k l h r = three g k l (same_types w3.rows) h r

-- the same by another name
pub retyped : {f : Facts} {s0 s1 : CodeEnv} {w0 w1 : WalkShown} {j : Typing} {A B : TypeEnv → Judgement} → A ≡ B → WalksTo f s0 s1 w0 w1 (TypesPart j A) → WalksTo f s0 s1 w0 w1 (TypesPart j B)
retyped {f} {s0} {s1} {w0} {w1} {j} e g = subst (λ (D : TypeEnv → Judgement). WalksTo f s0 s1 w0 w1 (TypesPart j D)) e g

pub reconstant : {f : Facts} {s0 s1 : CodeEnv} {w0 w1 : WalkShown} {c : ConstantTyping} {A B : TypeEnv → ConstantSeen} → A ≡ B → WalksTo f s0 s1 w0 w1 (TypesConstant c A) → WalksTo f s0 s1 w0 w1 (TypesConstant c B)
reconstant {f} {s0} {s1} {w0} {w1} {c} e g = subst (λ (D : TypeEnv → ConstantSeen). WalksTo f s0 s1 w0 w1 (TypesConstant c D)) e g

-- ---- constants and widths

prefix_length : {A : Type 0} (xs ys : List A) → IsPrefix xs ys → length xs ≤ length ys
prefix_length [] ys p = omega arith
prefix_length (x ∷ xs) [] p = absurd p
prefix_length (x ∷ xs) (y ∷ ys) p = let rest = prefix_length xs ys p.1 in omega arith

pub of_constant : {f : Facts} {s0 s1 : CodeEnv} {w0 w1 w2 : WalkShown} {a : Typing} {c : ConstantTyping} {A : TypeEnv → Judgement} {C : TypeEnv → ConstantSeen} {from missing : ℕ}
    → WalksTo f s0 s1 w0 w1 (TypesPart a A) → from ≡ length w0.reached → missing ≡ length w0.missing → ConstantFrom f s1 w1 w2 from missing a A C c → ((env : TypeEnv) → (C env).judgement.reached ≡ (A env).reached)
    → WalksTo f s0 s1 w0 w2 (TypesConstant c C)
of_constant {f} {s0} {s1} {w0} {w1} {w2} {a} {c} {A} {C} {from} {missing} g is as_many h r = record {
  grows = grows_trans w0 w1 w2 g.grows h.grows;
  sight = g.sight;
  holds = λ known later has agrees there none.
      let names = item_names f in
      let env = environment f s0 known later in
      let t : TypesPart a A names w1.rows later (drop (length w0.reached) w1.reached) env = g.holds known later (tables_trans w1 w2 later h.grows.tables has) agrees there (nothing_missing w1 w2 h.grows none) in
      let there_too : HasRows f s1 w1 = subst (λ (s : CodeEnv). HasRows f s w1) (sym g.sight) (rows_stay f s0 w0 w1 g.grows.tables there) in
      let few : missing ≤ length w1.missing = subst (λ (n : ℕ). n ≤ length w1.missing) (sym as_many) (prefix_length w0.missing w1.missing g.grows.missing) in
      let reaches : instances_at names later.met (drop from w1.reached) ≡ (A env).reached = ap (λ (n : ℕ). instances_at names later.met (drop n w1.reached)) is ∙ t.reaches in
      let came : (s : CodeEnv) → s1 ≡ s → IsPart names w1.rows later.rows a (A (environment f s known later)) → instances_at names later.met (drop from w1.reached) ≡ (A (environment f s known later)).reached
      → IsConstant names w2.rows later.rows c (C (environment f s known later)) =
      λ s e. subst (λ (s : CodeEnv). IsPart names w1.rows later.rows a (A (environment f s known later)) → instances_at names later.met (drop from w1.reached) ≡ (A (environment f s known later)).reached
      → IsConstant names w2.rows later.rows c (C (environment f s known later))) e (h.comes few known later has agrees there_too none) in
      record {
        constant = came s0 g.sight t.part reaches;
        reaches = ap (λ (l : List ℕ). instances_at names later.met (drop (length w0.reached) l)) h.reached ∙ t.reaches ∙ sym (r env);
      };
}

pub from_count : {f : Facts} {s0 s1 : CodeEnv} {w0 w1 : WalkShown} {rows : List TypeRow} {n : CountTyping} {j : Typing} {N : TypeEnv → CountSeen} {half : CountSeen → Judgement}
    → WalksTo f s0 s1 w0 w1 (TypesCount n N) → AddsTypes w1.rows rows → FromCount half w1.rows rows n j → ((x : CountSeen) → (half x).reached ≡ x.judgement.reached)
    → WalksTo f s0 s1 w0 (with_rows w1 rows) (TypesPart j (λ env. half (N env)))
from_count {f} {s0} {s1} {w0} {w1} {rows} {n} {j} {N} {half} g p h r = halved (TypesCount n N) (TypesPart j (λ env. half (N env))) g p
    (λ names later more env distinct q t. record { part = h.typed names later.rows distinct q (N env) t.count; reaches = t.reaches ∙ sym (r (N env)) })

pub of_count : {f : Facts} {s0 s1 : CodeEnv} {w0 w1 : WalkShown} {c : ConstantTyping} {n : CountTyping} {C : TypeEnv → ConstantSeen} {half : ConstantSeen → CountSeen}
    → WalksTo f s0 s1 w0 w1 (TypesConstant c C) → CountFrom half w1.rows c n → ((x : ConstantSeen) → (half x).judgement.reached ≡ x.judgement.reached)
    → WalksTo f s0 s1 w0 w1 (TypesCount n (λ env. half (C env)))
of_count {f} {s0} {s1} {w0} {w1} {c} {n} {C} {half} g h r = halved (TypesConstant c C) (TypesCount n (λ env. half (C env))) g (same_types w1.rows)
    (λ names later more env distinct q t. record { count = h.typed names later.rows distinct q (C env) t.constant; reaches = t.reaches ∙ sym (r (C env)) })

pub of_slice : {f : Facts} {s0 s1 s2 s3 : CodeEnv} {w0 w1 w2 w3 : WalkShown} {rows : List TypeRow} {a j : Typing} {from to : ConstantTyping} {A : TypeEnv → Judgement} {B C : TypeEnv → ConstantSeen}
    {half : Judgement → ConstantSeen → ConstantSeen → Judgement}
    → WalksTo f s0 s1 w0 w1 (TypesPart a A) → WalksTo f s1 s2 w1 w2 (TypesConstant from B) → WalksTo f s2 s3 w2 w3 (TypesConstant to C) → AddsTypes w3.rows rows → FromSlice half w3.rows rows a from to j
    → ((x : Judgement) (y z : ConstantSeen) → (half x y z).reached ≡ x.reached ++ y.judgement.reached ++ z.judgement.reached)
    → WalksTo f s0 s3 w0 (with_rows w3 rows) (TypesPart j (λ env. half (A env) (B env) (C env)))
of_slice {f} {s0} {s1} {s2} {s3} {w0} {w1} {w2} {w3} {rows} {a} {j} {from} {to} {A} {B} {C} {half} g k l p h r =
    halved (Both (Both (TypesPart a A) (TypesConstant from B) w1.rows) (TypesConstant to C) w2.rows) (TypesPart j (λ env. half (A env) (B env) (C env)))
    (both (Both (TypesPart a A) (TypesConstant from B) w1.rows) (TypesConstant to C) (both (TypesPart a A) (TypesConstant from B) g k) l) p
    (λ names later more env distinct q t. record {
      part = h.typed names later.rows distinct q (A env) (B env) (C env) (part_stays t.grows (part_stays t.first.grows t.first.first.part)) (constant_stays t.grows t.first.second.constant) t.second.constant;
      reaches = reached_both names later.met more t.front t.rest ((A env).reached ++ (B env).judgement.reached) (C env).judgement.reached t.joined
          (reached_both names later.met t.front t.first.front t.first.rest (A env).reached (B env).judgement.reached t.first.joined t.first.first.reaches t.first.second.reaches) t.second.reaches
          ∙ sym (r (A env) (B env) (C env));
    })

-- a number without a type where it may stand so
pub found_constant : {f : Facts} {s : CodeEnv} {w : WalkShown} {c : ConstantTyping} {C : ConstantSeen} → ((names : ItemNames) (rows later : List TypeRow) → IsConstant names rows later c C) → C.judgement.reached ≡ []
    → WalksTo f s s w w (TypesConstant c (λ env. C))
found_constant {f} {s} {w} {c} {C} h r = nothing_reached (TypesConstant c (λ env. C)) (same_types w.rows) (λ names later env distinct q. record { constant = h names w.rows later.rows; reaches = sym r })

-- an array of a type
pub from_part_and_count : {f : Facts} {s0 s1 s2 : CodeEnv} {w0 w1 w2 : WalkShown} {rows : List TypeRow} {a j : Typing} {n : CountTyping} {A : TypeEnv → Judgement} {N : TypeEnv → CountSeen} {half : Judgement → CountSeen → Judgement}
    → WalksTo f s0 s1 w0 w1 (TypesPart a A) → WalksTo f s1 s2 w1 w2 (TypesCount n N) → AddsTypes w2.rows rows → FromPartAndCount half w2.rows rows a n j
    → ((x : Judgement) (y : CountSeen) → (half x y).reached ≡ x.reached ++ y.judgement.reached)
    → WalksTo f s0 s2 w0 (with_rows w2 rows) (TypesPart j (λ env. half (A env) (N env)))
from_part_and_count {f} {s0} {s1} {s2} {w0} {w1} {w2} {rows} {a} {j} {n} {A} {N} {half} g k p h r =
    halved (Both (TypesPart a A) (TypesCount n N) w1.rows) (TypesPart j (λ env. half (A env) (N env))) (both (TypesPart a A) (TypesCount n N) g k) p
    (λ names later more env distinct q t. record {
      part = h.typed names later.rows distinct q (A env) (N env) (part_stays t.grows t.first.part) t.second.count;
      reaches = reached_both names later.met more t.front t.rest (A env).reached (N env).judgement.reached t.joined t.first.reaches t.second.reaches ∙ sym (r (A env) (N env));
    })

-- ---- what is looked up

-- what a walk that only looked something up came to
pub looked_up : {f : Facts} {s : CodeEnv} {w0 w1 : WalkShown} {j : Typing} {A : TypeEnv → Judgement} → OnlyMisses w0 w1 → ComesToTyping f s w0 w1 j A → WalksTo f s s w0 w1 (TypesPart j A)
looked_up {f} {s} {w0} {w1} {j} {A} m h = record {
  grows = misses_grows w0 w1 m;
  sight = refl;
  holds = λ known later has agrees there none.
      let names = item_names f in
      let met = later.met in
      let t : IsTyping names w0 w1 later j (A (environment f s known later)) = h known later has agrees there none in
      record {
        part = record { row = t.row; ty = t.ty; faults = t.faults; size = t.size };
        reaches = same_rest (instances_at names met w0.reached) (instances_at names met (drop (length w0.reached) w1.reached)) (A (environment f s known later)).reached
            (sym (map-append (instance_at names met) w0.reached (drop (length w0.reached) w1.reached))
            ∙ ap (instances_at names met) (sym (front_and_rest w0.reached w1.reached (misses_grows w0 w1 m).reached)) ∙ t.reached);
      };
}

pub if_looked_up : {E : Type 0} (f : Facts) (s : CodeEnv) (w0 w1 : WalkShown) (A : TypeEnv → Judgement) (r : Result Typing E) → OnOk r (OnlyMisses w0 w1) → IfOk r (λ j. ComesToTyping f s w0 w1 j A)
    → IfOk r (λ j. WalksTo f s s w0 w1 (TypesPart j A))
if_looked_up f s w0 w1 A (Ok j) m h = looked_up m h
if_looked_up f s w0 w1 A (Err e) m h = tt

-- and the other way round: what crates above this one say
pub judges : {f : Facts} {s0 s1 : CodeEnv} {w0 w1 : WalkShown} {j : Typing} {A : TypeEnv → Judgement} → WalksTo f s0 s1 w0 w1 (TypesPart j A) → ComesToTyping f s0 w0 w1 j A
judges {f} {s0} {s1} {w0} {w1} {j} {A} g = λ known later has agrees there none.
    let names = item_names f in
    let met = later.met in
    let t = g.holds known later has agrees there none in
    record {
      row = t.part.row;
      ty = t.part.ty;
      faults = t.part.faults;
      reached = ap (instances_at names met) (front_and_rest w0.reached w1.reached g.grows.reached)
          ∙ map-append (instance_at names met) w0.reached (drop (length w0.reached) w1.reached) ∙ ap (λ (ys : List Instance). instances_at names met w0.reached ++ ys) t.reaches;
      size = t.part.size;
    }

-- ---- tokens

-- a value that stands alone reaches what it reached
pub no_token_reached : (span : Span) (x : Judgement) → (no_token span x).reached ≡ x.reached
no_token_reached span x = by x.ty
  where
    by_test : (b : Bool) (j k : Judgement) → j.reached ≡ x.reached → k.reached ≡ x.reached → (if b then j else k).reached ≡ x.reached
    by_test true j k e h = e
    by_test false j k e h = h

    by : (t : Option DslxType) → (no_token span (record { ty = t; faults = x.faults; reached = x.reached; size = x.size })).reached ≡ x.reached
    by None = refl
    by (Some t) = by_test (holds_token t) _ _ refl refl

-- ---- limits

-- what the limits on a type add
pub limited_from : (span : Span) {rows : List TypeRow} {a j : Typing} → j.ty ≡ a.ty
    → ((names : ItemNames) (later : List TypeRow) (fs : List Fault) → IsPrefix rows later → HasRowIf rows a.ty → a.faults ≡ seen fs → j.faults ≡ seen (fs ++ type_limits span.to (type_if names later a.ty)))
    → j.size ≡ a.size → FromOne (limited span) rows rows a j
limited_from span {rows} {a} {j} t f s = record {
  typed = λ names later distinct p x k. record {
    row = subst (HasRowIf rows) (sym t) k.row;
    ty = ap (type_if names later) t ∙ k.ty;
    faults = f names later x.faults p k.row k.faults ∙ ap (λ (o : Option DslxType). seen (x.faults ++ type_limits span.to o)) k.ty;
    size = s ∙ k.size;
  };
}
