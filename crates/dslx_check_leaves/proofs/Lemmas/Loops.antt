-- Loops: the ends of the range, what it starts with, its annotation, its two patterns and its body, one after another.
use Rattle.std.proofs.Common.{◌≡◌, ◌++◌, ◌∙◌, ℕ, List, [], ◌∷◌, Option, None, map, append_assoc, sym, ap, subst}
use Rattle.base.specs.Lists.Prefix.{IsPrefix}
use Rattle.base.proofs.Lemmas.Lists.Prefixes.{IsPrefix-trans}
use Rattle.xb_span.specs.declared.span.Span.{Span}
use Rattle.dslx_meaning.specs.declared.ty.DslxType.{DslxType}
use Rattle.dslx_meaning.specs.Rules.ConstantRules.{ConstantSeen}
use Rattle.dslx_meaning.specs.Rules.ControlRules.{LoopSeen, annotation_reached, loop_with, same_ends}
use Rattle.dslx_meaning.specs.Rules.TypeEnvs.{Judgement, TypeEnv, with_typed}
use Rattle.dslx_meaning.specs.Rules.Typings.{PatternSeen}
use Rattle.dslx_check_rules.specs.declared.table.row.TypeId.{TypeId}
use Rattle.dslx_check_rules.specs.declared.table.row.TypeRow.{TypeRow}
use Rattle.dslx_check_rules.specs.declared.typing.Typing.{Typing}
use Rattle.dslx_check_rules.specs.Interned.{AreDistinct, HasRowIf, ItemNames, type_if}
use Rattle.dslx_check_facts.specs.declared.facts.Facts.{Facts}
use Rattle.dslx_check_facts.specs.declared.type_env.TypeEnv.{TypeEnv as CodeEnv}
use Rattle.dslx_check_facts.specs.Judged.{environment}
use Rattle.dslx_check_facts.specs.Known.{item_names}
use Rattle.dslx_check_facts.specs.TypeEnvs.{typed_of}
use Rattle.dslx_check_facts.specs.Walks.{WalkShown, instances_at}
use Rattle.dslx_check_rules.specs.declared.nodes.parts.ConstantTyping.{ConstantTyping}
use Rattle.dslx_check_rules.specs.Nodes.Parts.{IsConstant, IsPart, IsPartIf}
use Rattle.dslx_check_rules.specs.declared.control.control.LoopParts.{LoopParts}
use Rattle.dslx_check_rules.specs.declared.control.patterns.PatternTyping.{PatternTyping}
use Rattle.dslx_check_rules.specs.Control.Control.{FromLoop}
use Rattle.dslx_check_rules.specs.Control.Patterns.{IsPattern}
use Rattle.dslx_check_leaves.specs.Fits.Typed.{PatternFrom}
use Rattle.dslx_check_leaves.specs.Walked.{BindsAs, PatternNames, MoveClaim, Moved, WalksTo, TypesPart, TypesConstant, TypesOne, TypesPattern}
use Rattle.dslx_check_leaves.proofs.Lemmas.Walking.{AddsTypes, Both, both, constant_stays, halved, part_stays, reached_both, same_types, with_rows}
use Rattle.dslx_check_leaves.proofs.Lemmas.Moving.{ThenWalk, moved_more, moves, restored, then_walk}
use Rattle.dslx_check_leaves.proofs.Lemmas.Binding.{environment_behind, is_behind, part_if_stays, rows_in_front, scope_behind}

-- what stands in front of the patterns
pub record Heads (from to : ConstantTyping) (start : Typing) (written : Option Typing) (C D : TypeEnv → ConstantSeen) (S : TypeEnv → Judgement) (O : TypeEnv → Option Judgement)
    (names : ItemNames) (rows : List TypeRow) (later : WalkShown) (more : List ℕ) (env : TypeEnv) : Type 0 where
  pub of_from : IsConstant names rows later.rows from (C env)
  pub of_to : IsConstant names rows later.rows to (D env)
  pub of_start : IsPart names rows later.rows start (S env)
  pub of_written : IsPartIf names rows later.rows written (O env)
  pub reaches : instances_at names later.met more ≡ (C env).judgement.reached ++ (D env).judgement.reached ++ (S env).reached ++ annotation_reached (O env)

-- and the patterns and what is bound
pub record Bounds (from to : ConstantTyping) (start : Typing) (written : Option Typing) (C D : TypeEnv → ConstantSeen) (S : TypeEnv → Judgement) (O : TypeEnv → Option Judgement)
    (index : PatternTyping) (I : TypeEnv → PatternSeen)
    (names : ItemNames) (rows : List TypeRow) (later : WalkShown) (more : List ℕ) (env after : TypeEnv) : Type 0 where
  pub front : List ℕ
  pub rest : List ℕ
  pub joined : more ≡ front ++ rest
  pub heads : Heads from to start written C D S O names rows later front env
  pub of_index : IsPattern index (I env)
  pub reaches : instances_at names later.met rest ≡ (I env).reached
  pub scope : after ≡ with_typed env (I env).locals

-- and the second pattern with what it binds
pub record Accs (Q : MoveClaim) (acc : PatternTyping) (A : TypeEnv → PatternSeen) (between : List TypeRow) (names : ItemNames) (rows : List TypeRow) (later : WalkShown) (more : List ℕ) (env after : TypeEnv) : Type 0 where
  pub grows : IsPrefix between rows
  pub middle : TypeEnv
  pub front : List ℕ
  pub rest : List ℕ
  pub joined : more ≡ front ++ rest
  pub first : Q names between later front env middle
  pub of_acc : IsPattern acc (A env)
  pub reaches : instances_at names later.met rest ≡ (A env).reached
  pub scope : after ≡ with_typed env (A env).locals

pub heads_walked : {f : Facts} {s0 s1 s2 s3 s4 : CodeEnv} {w0 w1 w2 w3 w4 : WalkShown} {from to : ConstantTyping} {start : Typing} {written : Option Typing} {C D : TypeEnv → ConstantSeen} {S : TypeEnv → Judgement}
    {O : TypeEnv → Option Judgement}
    → WalksTo f s0 s1 w0 w1 (TypesConstant from C) → WalksTo f s1 s2 w1 w2 (TypesConstant to D) → WalksTo f s2 s3 w2 w3 (TypesPart start S) → WalksTo f s3 s4 w3 w4 (TypesOne IsPartIf annotation_reached written O)
    → WalksTo f s0 s4 w0 w4 (Heads from to start written C D S O)
heads_walked {f} {s0} {s1} {s2} {s3} {s4} {w0} {w1} {w2} {w3} {w4} {from} {to} {start} {written} {C} {D} {S} {O} g k l m =
    let P1 = Both (TypesConstant from C) (TypesConstant to D) w1.rows in
    let P2 = Both P1 (TypesPart start S) w2.rows in
    halved (Both P2 (TypesOne IsPartIf annotation_reached written O) w3.rows) (Heads from to start written C D S O)
    (both P2 (TypesOne IsPartIf annotation_reached written O) (both P1 (TypesPart start S) (both (TypesConstant from C) (TypesConstant to D) g k) l) m) (same_types w4.rows)
    (λ names later more env distinct q t. record {
      of_from = constant_stays t.grows (constant_stays t.first.grows (constant_stays t.first.first.grows t.first.first.first.constant));
      of_to = constant_stays t.grows (constant_stays t.first.grows t.first.first.second.constant);
      of_start = part_stays t.grows t.first.second.part;
      of_written = t.second.part;
      reaches = reached_both names later.met more t.front t.rest ((C env).judgement.reached ++ (D env).judgement.reached ++ (S env).reached) (annotation_reached (O env)) t.joined
          (reached_both names later.met t.front t.first.front t.first.rest ((C env).judgement.reached ++ (D env).judgement.reached) (S env).reached t.first.joined
          (reached_both names later.met t.first.front t.first.first.front t.first.first.rest (C env).judgement.reached (D env).judgement.reached t.first.first.joined t.first.first.first.reaches t.first.first.second.reaches)
          t.first.second.reaches) t.second.reaches;
    })

-- the first pattern, whose names are bound behind it
pub index_moves : {f : Facts} {s0 s1 s2 s3 : CodeEnv} {w0 w1 w2 : WalkShown} {from to : ConstantTyping} {start : Typing} {written : Option Typing} {C D : TypeEnv → ConstantSeen} {S : TypeEnv → Judgement}
    {O : TypeEnv → Option Judgement} {ty : Option TypeId} {index : PatternTyping} {b : PatternNames} {P : PatternFrom}
    → WalksTo f s0 s1 w0 w1 (Heads from to start written C D S O)
    → ((names : ItemNames) (later : List TypeRow) → AreDistinct names → IsPrefix w1.rows later → HasRowIf w1.rows from.typing.ty → HasRowIf w1.rows to.typing.ty
    → type_if names later ty ≡ same_ends (type_if names later from.typing.ty) (type_if names later to.typing.ty))
    → (HasRowIf w1.rows from.typing.ty → HasRowIf w1.rows ty)
    → WalksTo f s1 s2 w1 w2 (TypesPattern index w1.rows ty [] b P) → s3 ≡ scope_behind b None s2
    → Moved f s0 s3 w0 w2 (Bounds from to start written C D S O index (λ env. P env (same_ends (C env).judgement.ty (D env).judgement.ty) [] env.locals))
index_moves {f} {s0} {s1} {s2} {s3} {w0} {w1} {w2} {from} {to} {start} {written} {C} {D} {S} {O} {ty} {index} {b} {P} g is_ty there_ty l is =
    let H = Heads from to start written C D S O in
    let I : TypeEnv → PatternSeen = λ env. P env (same_ends (C env).judgement.ty (D env).judgement.ty) [] env.locals in
    let is_now : s3 ≡ scope_behind b None s0 = is ∙ (λ i. scope_behind b None ((l.sight ∙ g.sight) i)) in
    moves (Both H (TypesPattern index w1.rows ty [] b P) w1.rows) (Bounds from to start written C D S O index I) (both H (TypesPattern index w1.rows ty [] b P) g l) (is_behind b None is_now)
    (λ known later more has agrees there t. rows_in_front b None is_now (t.second.bound (there_ty t.first.of_from.part.row) tt) there.bound)
    (λ known later more has agrees there t.
    let env = environment f s0 known later in
    let names = item_names f in
    let type_is : type_if names later.rows ty ≡ same_ends (C env).judgement.ty (D env).judgement.ty =
    is_ty names later.rows agrees.distinct (IsPrefix-trans w1.rows w2.rows later.rows l.grows.tables.rows has.rows) t.first.of_from.part.row t.first.of_to.part.row
    ∙ (λ i. same_ends (t.first.of_from.part.ty i) (t.first.of_to.part.ty i)) in
    let binds : BindsAs names later t.rest index b env.locals (I env) =
    subst (λ (d : Option DslxType). BindsAs names later t.rest index b env.locals (P env d [] env.locals)) type_is (t.second.binds (there_ty t.first.of_from.part.row) tt env.locals) in
    record {
      front = t.front;
      rest = t.rest;
      joined = t.joined;
      heads = record {
        of_from = constant_stays t.grows t.first.of_from;
        of_to = constant_stays t.grows t.first.of_to;
        of_start = part_stays t.grows t.first.of_start;
        of_written = part_if_stays names w1.rows w2.rows later.rows written (O env) t.grows t.first.of_written;
        reaches = t.first.reaches;
      };
      of_index = binds.typing;
      reaches = binds.reaches;
      scope = environment_behind f s0 s3 known later b None is_now ∙ (λ i. record env { locals = sym binds.locals i });
    })

-- the second one, behind which the body is walked, and then what was in scope before is so again
pub loop_walked : {f : Facts} {s0 s1 s2 s3 s4 s5 : CodeEnv} {w0 w1 w2 w3 : WalkShown} {rows : List TypeRow} {from to : ConstantTyping} {start : Typing} {written : Option Typing} {C D : TypeEnv → ConstantSeen}
    {S : TypeEnv → Judgement} {O : TypeEnv → Option Judgement} {index acc : PatternTyping} {I : TypeEnv → PatternSeen} {b : PatternNames} {P : PatternFrom} {body j : Typing} {B : TypeEnv → Judgement} {parts : LoopParts} (span : Span)
    → Moved f s0 s1 w0 w1 (Bounds from to start written C D S O index I) → WalksTo f s1 s2 w1 w2 (TypesPattern acc w1.rows start.ty [] b P) → s3 ≡ scope_behind b None s2
    → WalksTo f s3 s4 w2 w3 (TypesPart body B) → s5 ≡ s0 → AddsTypes w3.rows rows
    → parts.from.now ≡ from → parts.to.now ≡ to → parts.written ≡ written → parts.start ≡ start → parts.index ≡ index → parts.accumulator ≡ acc → parts.body.typing ≡ body
    → FromLoop span w3.rows rows parts j
    → WalksTo f s0 s5 w0 (with_rows w3 rows) (TypesPart j (λ env.
    let i = I env in
    let a = P (with_typed env i.locals) (S env).ty [] i.locals in
    loop_with span parts.body.span (record { from = C env; to = D env; written = O env; start = S env; index = i; acc = a; body = B (with_typed env a.locals) })))
loop_walked {f} {s0} {s1} {s2} {s3} {s4} {s5} {w0} {w1} {w2} {w3} {rows} {from} {to} {start} {written} {C} {D} {S} {O} {index} {acc} {I} {b} {P} {body} {j} {B} {parts} span g k is h back adds e1 e2 e3 e4 e5 e6 e7 made =
    let Q0 = Bounds from to start written C D S O index I in
    let Q1 = ThenWalk Q0 (TypesPattern acc w1.rows start.ty [] b P) w1.rows in
    let A : TypeEnv → PatternSeen = λ env. P (with_typed env (I env).locals) (S env).ty [] (I env).locals in
    let Q2 = Accs Q0 acc A w1.rows in
    let both_patterns_walked : Moved f s0 s3 w0 w2 Q2 = moved_more Q1 Q2 (then_walk Q0 (TypesPattern acc w1.rows start.ty [] b P) g k) (is_behind b None is)
    (λ known later more has agrees there t.
    rows_in_front b None is (t.second.bound t.first.heads.of_start.row tt) there.bound)
    (λ known later more has agrees there t.
    let env = environment f s0 known later in
    let middle : t.middle ≡ with_typed env (I env).locals = t.first.scope in
    let kind : type_if (item_names f) later.rows start.ty ≡ (S env).ty = t.first.heads.of_start.ty in
    let raw : BindsAs (item_names f) later t.rest acc b t.middle.locals (P t.middle (type_if (item_names f) later.rows start.ty) [] t.middle.locals) = t.second.binds t.first.heads.of_start.row tt t.middle.locals in
    let binds : BindsAs (item_names f) later t.rest acc b (I env).locals (A env) =
    subst (λ (m : TypeEnv). BindsAs (item_names f) later t.rest acc b m.locals (P m (S env).ty [] m.locals)) middle
    (subst (λ (d : Option DslxType). BindsAs (item_names f) later t.rest acc b t.middle.locals (P t.middle d [] t.middle.locals)) kind raw) in
    record {
      grows = t.grows;
      middle = t.middle;
      front = t.front;
      rest = t.rest;
      joined = t.joined;
      first = t.first;
      of_acc = binds.typing;
      reaches = binds.reaches;
      scope = environment_behind f s2 s3 known later b None is ∙ ap (λ (m : TypeEnv). with_typed m (map (typed_of (item_names f) later.rows) b ++ m.locals)) (t.same ∙ middle)
          ∙ (λ i. record env { locals = sym binds.locals i });
    }) in
    restored (ThenWalk Q2 (TypesPart body B) w2.rows) _ (then_walk Q2 (TypesPart body B) both_patterns_walked h) back adds
    (λ names later more env after distinct q t.
    let a = A env in
    let heads = t.first.first.heads in
    let walked : TypesPart body B names w3.rows later t.rest (with_typed env a.locals) = subst (λ (m : TypeEnv). TypesPart body B names w3.rows later t.rest m) t.first.scope t.second in
    let l : LoopSeen = record { from = C env; to = D env; written = O env; start = S env; index = I env; acc = a; body = B (with_typed env a.locals) } in
    record {
      part = made.typed names later.rows distinct q l (record {
        from = subst (λ (x : ConstantTyping). IsConstant names w3.rows later.rows x (C env)) (sym e1) (constant_stays t.grows (constant_stays t.first.grows heads.of_from));
        to = subst (λ (x : ConstantTyping). IsConstant names w3.rows later.rows x (D env)) (sym e2) (constant_stays t.grows (constant_stays t.first.grows heads.of_to));
        written = subst (λ (x : Option Typing). IsPartIf names w3.rows later.rows x (O env)) (sym e3) (part_if_stays names w2.rows w3.rows later.rows written (O env) t.grows (part_if_stays names w1.rows w2.rows later.rows written (O env) t.first.grows heads.of_written));
        start = subst (λ (x : Typing). IsPart names w3.rows later.rows x (S env)) (sym e4) (part_stays t.grows (part_stays t.first.grows heads.of_start));
        index = subst (λ (x : PatternTyping). IsPattern x (I env)) (sym e5) t.first.first.of_index;
        acc = subst (λ (x : PatternTyping). IsPattern x a) (sym e6) t.first.of_acc;
        body = subst (λ (x : Typing). IsPart names w3.rows later.rows x (B (with_typed env a.locals))) (sym e7) walked.part;
      });
      reaches = reached_both names later.met more t.front t.rest
          ((C env).judgement.reached ++ (D env).judgement.reached ++ (S env).reached ++ annotation_reached (O env) ++ (I env).reached ++ a.reached) (B (with_typed env a.locals)).reached t.joined
          (reached_both names later.met t.front t.first.front t.first.rest
          ((C env).judgement.reached ++ (D env).judgement.reached ++ (S env).reached ++ annotation_reached (O env) ++ (I env).reached) a.reached t.first.joined
          (reached_both names later.met t.first.front t.first.first.front t.first.first.rest
          ((C env).judgement.reached ++ (D env).judgement.reached ++ (S env).reached ++ annotation_reached (O env)) (I env).reached t.first.first.joined heads.reaches t.first.first.reaches)
          t.first.reaches) walked.reaches;
    })

-- what is in scope behind both patterns
pub twice_behind : {s0 s1 s2 s3 s4 : CodeEnv} (b1 b2 : PatternNames) → s1 ≡ s0 → s2 ≡ scope_behind b1 None s1 → s3 ≡ s2 → s4 ≡ scope_behind b2 None s3 → s4 ≡ scope_behind (b2 ++ b1) None s0
twice_behind {s0} {s1} {s2} {s3} {s4} b1 b2 e1 e2 e3 e4 = e4 ∙ ap (scope_behind b2 None) (e3 ∙ e2 ∙ ap (scope_behind b1 None) e1) ∙ (λ i. record s0 { locals = sym (append_assoc b2 b1 s0.locals) i })
