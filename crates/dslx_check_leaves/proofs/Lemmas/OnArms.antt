-- Arms of a match: the alternatives, each from what is in scope around the arm, what they bind, the arm's value.
use Rattle.std.proofs.Common.{◌≡◌, ◌++◌, ◌∙◌, ◌<◌, ◌≤◌, ◌+◌, ◌-◌, ℕ, suc, List, [], ◌∷◌, Bool, true, false, Option, None, map, length, drop, take, get_or, append_assoc, arith, ne_eqb, refl, sym, ap, subst}
use Rattle.std.specs.Prelude.{◌&&◌, ◌||◌, ◌==◌, not}
use Rattle.std.proofs.lemmas.List.{map-append}
use Rattle.base.specs.Lists.Prefix.{IsPrefix}
use Rattle.xb_span.specs.declared.span.Span.{Span}
use Rattle.dslx_tree.specs.declared.expr.Arm.{Arm}
use Rattle.dslx_tree.specs.declared.pattern.Pattern.{Pattern}
use Rattle.dslx_meaning.specs.declared.ty.DslxType.{DslxType}
use Rattle.dslx_meaning.specs.Rules.ConstantRules.{is_empty}
use Rattle.dslx_meaning.specs.Rules.ControlRules.{AlternativesSeen, ArmTyping as ArmSeen, alternatives_seen, arm_typing, arms_reached, no_alternative, one_alternative, with_alternative}
use Rattle.dslx_meaning.specs.Rules.RuleNumbers as rule
use Rattle.dslx_meaning.specs.Rules.TypeEnvs.{Judgement, TypeEnv, Typed, alone, with_typed}
use Rattle.dslx_meaning.specs.Rules.Typings.{ArmSeen as ArmTree, PatternPair, PatternSeen}
use Rattle.dslx_check_rules.specs.declared.table.row.TypeId.{TypeId}
use Rattle.dslx_check_rules.specs.declared.table.row.TypeRow.{TypeRow}
use Rattle.dslx_check_rules.specs.declared.typing.Typing.{Typing}
use Rattle.dslx_check_rules.specs.Interned.{HasRowIf, ItemNames, type_if}
use Rattle.dslx_check_facts.specs.Bound.{bound_names}
use Rattle.dslx_check_facts.specs.declared.facts.Facts.{Facts}
use Rattle.dslx_check_facts.specs.declared.type_env.TypeEnv.{TypeEnv as CodeEnv}
use Rattle.dslx_check_facts.specs.Judged.{HasRows, environment}
use Rattle.dslx_check_facts.specs.Known.{item_names}
use Rattle.dslx_check_facts.specs.TypeEnvs.{typed_of}
use Rattle.dslx_check_facts.specs.Walks.{WalkShown, instances_at}
use Rattle.dslx_check_facts.proofs.Lemmas.Walks.{grows_trans, nothing_missing, tables_trans}
use Rattle.dslx_check_facts.proofs.Lemmas.Judged.{row_stays_if, rows_stay}
use Rattle.dslx_check_rules.specs.declared.control.matches.AlternativesTyping.{AlternativesTyping}
use Rattle.dslx_check_rules.specs.declared.control.matches.ArmTyping.{ArmTyping}
use Rattle.dslx_check_rules.specs.declared.control.patterns.PatternTyping.{PatternTyping}
use Rattle.dslx_check_rules.specs.Control.Matches.{AreArms, IsAlternatives, IsArm, alternative_behind}
use Rattle.dslx_check_rules.specs.Nodes.Parts.{IsPart}
use Rattle.dslx_check_rules.specs.Control.Patterns.{IsPattern}
use Rattle.dslx_check_leaves.specs.Fits.Typed.{arm_typed, match_half, pattern_typed}
use Rattle.dslx_check_leaves.specs.Fits.Matched.{MatchFrom, arms_at}
use Rattle.dslx_check_leaves.specs.Walked.{BindsAs, PatternNames, HasBound, JudgedAlternatives, WalksTo, TypesPart, TypesAlternatives, TypesArm, TypesArms, TypesPattern, all_bound, all_reached, arm_reached}
use Rattle.dslx_check_leaves.proofs.Lemmas.Walking.{Both, behind_both, both, halved, nothing_reached, part_stays, reached_both, same_types}
use Rattle.dslx_check_leaves.proofs.Lemmas.Each.{append_nil, each_then, each_weaker, reached_then, take_all, take_next}
use Rattle.dslx_check_leaves.proofs.Lemmas.Moving.{kept_before}
use Rattle.dslx_check_leaves.proofs.Lemmas.Binding.{all_join, environment_behind, rows_in_front, scope_behind}
use Rattle.dslx_check_leaves.proofs.Lemmas.OnPatterns.{and_assoc, bound_stays}

-- ---- alternatives as the definitions say it, from the last one on, whatever is in scope around them

abbrev pub alternatives_from : TypeEnv → Option DslxType → List PatternPair → List Typed → AlternativesSeen
alternatives_from env t [] around = record (no_alternative env) { locals = around }
alternatives_from env t (p ∷ ps) around =
    let rest = alternatives_from env t ps around in
    with_alternative (one_alternative env t p rest) rest

pub alternatives_are : (env : TypeEnv) (t : Option DslxType) (ps : List PatternPair) → alternatives_from env t ps env.locals ≡ alternatives_seen env t ps
alternatives_are env t [] = refl
alternatives_are env t (p ∷ ps) = ap (λ (rest : AlternativesSeen). with_alternative (one_alternative env t p rest) rest) (alternatives_are env t ps)

or_assoc : (a b c : Bool) → ((a || b) || c) ≡ (a || (b || c))
or_assoc true b c = refl
or_assoc false b c = refl

and_true : (b : Bool) → (b && true) ≡ b
and_true true = refl
and_true false = refl

or_false : (b : Bool) → (b || false) ≡ b
or_false true = refl
or_false false = refl

-- one more behind those that are typed from what it bound
abbrev pub last_joined : AlternativesSeen → PatternSeen → AlternativesSeen
last_joined x y = record (alternative_behind x y) { locals = x.locals }

pub alternatives_then : (env : TypeEnv) (t : Option DslxType) (ps : List PatternPair) (q : PatternPair) (around : List Typed)
    → alternatives_from env t (ps ++ q ∷ []) around ≡ last_joined (alternatives_from env t ps (q.1 true env t [] around).locals) (q.1 true env t [] around)
alternatives_then env t [] q around =
    let y = q.1 true env t [] around in
    λ i. record {
      locals = y.locals;
      faults = append_nil y.faults i;
      reached = append_nil y.reached i;
      size = (let e : y.size + 0 ≡ 0 + y.size = omega arith in e) i;
      is_known = and_true y.is_known i;
      is_sure = or_false y.is_sure i;
      binds = or_false (not (is_empty y.names)) i;
    }
alternatives_then env t (p ∷ ps) q around =
    let y = q.1 true env t [] around in
    let x = alternatives_from env t ps y.locals in
    let z = p.1 true env t [] x.locals in
    ap (λ (rest : AlternativesSeen). with_alternative (one_alternative env t p rest) rest) (alternatives_then env t ps q around)
    ∙ (λ i. record {
      locals = z.locals;
      faults = sym (append_assoc z.faults x.faults y.faults) i;
      reached = sym (append_assoc z.reached x.reached y.reached) i;
      size = (let e : z.size + (x.size + y.size) ≡ (z.size + x.size) + y.size = omega arith in e) i;
      is_known = sym (and_assoc z.is_known x.is_known y.is_known) i;
      is_sure = sym (or_assoc z.is_sure x.is_sure y.is_sure) i;
      binds = sym (or_assoc (not (is_empty z.names)) x.binds (not (is_empty y.names))) i;
    })

pub bound_then : (bs : List PatternNames) (b : PatternNames) → all_bound (bs ++ b ∷ []) ≡ all_bound bs ++ b
bound_then [] b = append_nil b
bound_then (c ∷ bs) b = ap (λ ns. c ++ ns) (bound_then bs b) ∙ sym (append_assoc c (all_bound bs) b)

pub bound_end : (bs : List PatternNames) → length bs ≡ 0 → all_bound bs ≡ []
bound_end [] e = refl
bound_end (b ∷ bs) e = absurd (omega (arith, e))

-- ---- as a walk

pub record TypesOver (j : AlternativesTyping) (old : List TypeRow) (ty : Option TypeId) (bound : List PatternNames) (patterns : List PatternPair)
    (items : ItemNames) (rows : List TypeRow) (later : WalkShown) (more : List ℕ) (env : TypeEnv) : Type 0 where
  pub there : HasRowIf old ty → HasBound rows (all_bound bound)
  pub typing : HasRowIf old ty → (around : List Typed) → IsAlternatives j (alternatives_from env (type_if items later.rows ty) patterns around)
  pub locals : HasRowIf old ty → (around : List Typed) → (alternatives_from env (type_if items later.rows ty) patterns around).locals ≡ map (typed_of items later.rows) (all_bound bound) ++ around
  pub reaches : HasRowIf old ty → (around : List Typed) → instances_at items later.met more ≡ (alternatives_from env (type_if items later.rows ty) patterns around).reached

-- these names come behind those that are there
pub record AreOver (f : Facts) (before after : CodeEnv) (old new : WalkShown) (j : AlternativesTyping) (ty : Option TypeId) (bound now : List PatternNames) (patterns : List PatternPair) : Type 0 where
  pub more : List PatternNames
  pub is : now ≡ bound ++ more
  pub walked : WalksTo f before after old new (TypesOver j old.rows ty more patterns)

pub no_alternatives : {f : Facts} {s : CodeEnv} {w : WalkShown} {j : AlternativesTyping} {ty : Option TypeId} (bound : List PatternNames) → ((env : TypeEnv) → IsAlternatives j (no_alternative env)) → AreOver f s s w w j ty bound bound []
no_alternatives {f} {s} {w} {j} {ty} bound is = record {
  more = [];
  is = sym (append_nil bound);
  walked = nothing_reached (TypesOver j w.rows ty [] []) (same_types w.rows)
      (λ items later env distinct q.
      let h = is env in
      record {
        there = λ row. tt;
        typing = λ row around. record { faults = h.faults; size = h.size; known = h.known; sure = h.sure; binds = h.binds };
        locals = λ row around. refl;
        reaches = λ row around. refl;
      });
}

pub next_alternative : {f : Facts} {s0 s1 s2 : CodeEnv} {w0 w1 w2 : WalkShown} {a j : AlternativesTyping} {p : PatternTyping} {ty : Option TypeId} {bound now now2 : List PatternNames} {b : PatternNames} {ps : List PatternPair}
    {binds : Bool} (q : PatternPair)
    → AreOver f s0 s1 w0 w1 a ty bound now ps → WalksTo f s1 s2 w1 w2 (TypesPattern p w1.rows ty [] b (λ env. q.1 true env)) → now2 ≡ now ++ b ∷ [] → binds ≡ not (is_empty (bound_names b))
    → ((x : AlternativesSeen) (y : PatternSeen) → IsAlternatives a x → IsPattern p y → binds ≡ not (is_empty y.names) → IsAlternatives j (alternative_behind x y))
    → AreOver f s0 s2 w0 w2 j ty bound now2 (ps ++ q ∷ [])
next_alternative {f} {s0} {s1} {s2} {w0} {w1} {w2} {a} {j} {p} {ty} {bound} {now} {now2} {b} {ps} {binds} q g k e eb from =
    let P = TypesOver a w0.rows ty g.more ps in
    let Q = TypesPattern p w1.rows ty [] b (λ env. q.1 true env) in
    record {
      more = g.more ++ b ∷ [];
      is = e ∙ ap (λ (ns : List PatternNames). ns ++ b ∷ []) g.is ∙ append_assoc bound g.more (b ∷ []);
      walked = halved (Both P Q w1.rows) (TypesOver j w0.rows ty (g.more ++ b ∷ []) (ps ++ q ∷ [])) (both P Q g.walked k) (same_types w2.rows)
          (λ items later more env distinct h t.
          let kind = type_if items later.rows ty in
          let there_now : HasRowIf w0.rows ty → HasRowIf w1.rows ty = λ row. row_stays_if w0.rows w1.rows ty g.walked.grows.tables.rows row in
          let last : HasRowIf w0.rows ty → (around : List Typed) → BindsAs items later t.rest p b around (q.1 true env kind [] around) = λ row around. t.second.binds (there_now row) tt around in
          record {
            there = λ row. subst (HasBound w2.rows) (sym (bound_then g.more b))
                (all_join (λ (c : List ℕ × Option TypeId). HasRowIf w2.rows c.1) (all_bound g.more) b (bound_stays w1.rows w2.rows (all_bound g.more) t.grows (t.first.there row)) (t.second.bound (there_now row) tt));
            typing = λ row around.
                let y = q.1 true env kind [] around in
                let x = alternatives_from env kind ps y.locals in
                let l = last row around in
                let m : IsAlternatives j (alternative_behind x y) = from x y (t.first.typing row y.locals) l.typing (eb ∙ ap (λ (ns : List (List ℕ)). not (is_empty ns)) (sym l.names)) in
                subst (IsAlternatives j) (sym (alternatives_then env kind ps q around)) (record { faults = m.faults; size = m.size; known = m.known; sure = m.sure; binds = m.binds });
            locals = λ row around.
                let y = q.1 true env kind [] around in
                let as_typed = typed_of items later.rows in
                ap (λ (x : AlternativesSeen). x.locals) (alternatives_then env kind ps q around) ∙ t.first.locals row y.locals ∙ ap (λ ls. map as_typed (all_bound g.more) ++ ls) (last row around).locals
                ∙ sym (append_assoc (map as_typed (all_bound g.more)) (map as_typed b) around) ∙ ap (λ ls. ls ++ around) (sym (map-append as_typed (all_bound g.more) b))
                ∙ ap (λ (ns : PatternNames). map as_typed ns ++ around) (sym (bound_then g.more b));
            reaches = λ row around.
                let y = q.1 true env kind [] around in
                let x = alternatives_from env kind ps y.locals in
                reached_both items later.met more t.front t.rest x.reached y.reached t.joined (t.first.reaches row y.locals) (last row around).reaches
                ∙ ap (λ (x : AlternativesSeen). x.reached) (sym (alternatives_then env kind ps q around));
          });
    }

-- of these patterns
pub over_by : {f : Facts} {s0 s1 : CodeEnv} {w0 w1 : WalkShown} {j : AlternativesTyping} {ty : Option TypeId} {bound now : List PatternNames} {ps qs : List PatternPair} → ps ≡ qs → AreOver f s0 s1 w0 w1 j ty bound now ps
    → AreOver f s0 s1 w0 w1 j ty bound now qs
over_by {f} {s0} {s1} {w0} {w1} {j} {ty} {bound} {now} e g = subst (AreOver f s0 s1 w0 w1 j ty bound now) e g

pub next_upto : {A B : Type 0} (g : A → B) (xs : List A) (n : ℕ) (x : A) → n < length xs → x ≡ get_or xs n x → map g (take n xs) ++ g x ∷ [] ≡ map g (take (n + 1) xs)
next_upto g xs n x h e = let on : suc n ≡ n + 1 = omega arith in take_next g xs n x h e ∙ ap (λ k. map g (take k xs)) on

-- all of them
pub alternatives_walked : {f : Facts} {s0 s1 : CodeEnv} {w0 w1 : WalkShown} {j : AlternativesTyping} {ty : Option TypeId} {bound now : List PatternNames} (ps : List Pattern) (n : ℕ) → length ps ≤ n
    → AreOver f s0 s1 w0 w1 j ty bound now (map pattern_typed (take n ps)) → JudgedAlternatives f s0 s1 w0 w1 j ty bound now (map pattern_typed ps)
alternatives_walked {f} {s0} {s1} {w0} {w1} {j} {ty} {bound} {now} ps n h g =
    let qs = map pattern_typed ps in
    let all : AreOver f s0 s1 w0 w1 j ty bound now qs = over_by (ap (map pattern_typed) (take_all ps n h)) g in
    record {
      more = all.more;
      is = all.is;
      walked = halved (TypesOver j w0.rows ty all.more qs) (TypesAlternatives j w0.rows ty all.more qs) all.walked (same_types w1.rows)
          (λ items later more env distinct p t.
          let e = alternatives_are env (type_if items later.rows ty) qs in
          record {
            there = t.there;
            typing = λ row. subst (IsAlternatives j) e (t.typing row env.locals);
            locals = λ row. ap (λ (x : AlternativesSeen). x.locals) (sym e) ∙ t.locals row env.locals;
            reaches = λ row. t.reaches row env.locals ∙ ap (λ (x : AlternativesSeen). x.reached) e;
          });
    }

-- ---- an arm

-- what was in scope before is so again where as many names are kept
pub kept_names : {s0 s2 s3 : CodeEnv} {n : ℕ} {L : PatternNames} (more : PatternNames) → s2 ≡ scope_behind more None s0 → s3 ≡ s2 → n ≡ length s0.locals → L ≡ drop (length s3.locals - n) s3.locals → record s3 { locals = L } ≡ s0
kept_names {s0} {s2} {s3} {n} {L} more is same count l =
    let back : s3 ≡ scope_behind more None s0 = same ∙ is in
    let locals : L ≡ s0.locals = l ∙ (λ i. drop (length (back i).locals - count i) (back i).locals) ∙ kept_before more s0.locals in
    λ i. record (back i) { locals = locals i }

pub arm_walked : {f : Facts} {s0 s1 s2 s3 s4 : CodeEnv} {w0 w1 w2 : WalkShown} {a : ArmTyping} {ty : Option TypeId} {now : List PatternNames} (tree : ArmTree)
    → JudgedAlternatives f s0 s1 w0 w1 a.alternatives ty [] now tree.patterns → s2 ≡ scope_behind (all_bound now) None s1 → WalksTo f s2 s3 w1 w2 (TypesPart a.value (λ env. alone env tree.value)) → s4 ≡ s0
    → a.count ≡ length tree.patterns → WalksTo f s0 s4 w0 w2 (TypesArm a w0.rows ty tree)
arm_walked {f} {s0} {s1} {s2} {s3} {s4} {w0} {w1} {w2} {a} {ty} {now} tree g is h back counts =
    let bound = all_bound g.more in
    let is_now : s2 ≡ scope_behind bound None s0 = is ∙ ap (λ (bs : List PatternNames). scope_behind (all_bound bs) None s1) g.is ∙ ap (scope_behind bound None) g.walked.sight in
    record {
      grows = grows_trans w0 w1 w2 g.walked.grows h.grows;
      sight = back;
      holds = λ known later has agrees there none.
          let names = item_names f in
          let env = environment f s0 known later in
          let kind = type_if names later.rows ty in
          let seen = alternatives_seen env kind tree.patterns in
          let front = drop (length w0.reached) w1.reached in
          let rest = drop (length w1.reached) w2.reached in
          let before = tables_trans w1 w2 later h.grows.tables has in
          let t : TypesAlternatives a.alternatives w0.rows ty g.more tree.patterns names w1.rows later front env = g.walked.holds known later before agrees there (nothing_missing w1 w2 h.grows none) in
          let there_then : HasRows f s0 w1 = rows_stay f s0 w0 w1 g.walked.grows.tables there in
          let value : HasRowIf w0.rows ty → TypesPart a.value (λ e. alone e tree.value) names w2.rows later rest (with_typed env seen.locals) = λ row.
          subst (λ (m : TypeEnv). TypesPart a.value (λ e. alone e tree.value) names w2.rows later rest m) (environment_behind f s0 s2 known later bound None is_now ∙ (λ i. record env { locals = sym (t.locals row) i }))
          (h.holds known later has agrees (record { known = there_then.known; bound = rows_in_front bound None is_now (t.there row) there_then.bound }) none) in
          record {
            is = λ row. record { count = counts; alternatives = t.typing row; value = (value row).part };
            reaches = λ row. reached_both names later.met (drop (length w0.reached) w2.reached) front rest seen.reached (alone (with_typed env seen.locals) tree.value).reached
                (behind_both w0.reached w1.reached w2.reached g.walked.grows.reached h.grows.reached) (t.reaches row) (value row).reaches;
          };
    }

-- ---- arms one after another

pub no_arms : {f : Facts} {s : CodeEnv} {w : WalkShown} {ty : Option TypeId} → WalksTo f s s w w (TypesArms [] w.rows ty [])
no_arms {f} {s} {w} {ty} = nothing_reached (TypesArms [] w.rows ty []) (same_types w.rows) (λ items later env distinct p. record { are = λ row. tt; reaches = λ row. refl })

arm_stays : (items : ItemNames) (rows longer later : List TypeRow) (a : ArmTyping) (x : ArmSeen) → IsPrefix rows longer → IsArm items rows later a x → IsArm items longer later a x
arm_stays items rows longer later a x h t = record { count = t.count; alternatives = t.alternatives; value = part_stays h t.value }

pub one_arm : {f : Facts} {s0 s1 s2 : CodeEnv} {w0 w1 w2 : WalkShown} {arms : List ArmTyping} {a : ArmTyping} {ty : Option TypeId} {trees : List ArmTree} {tree : ArmTree}
    → WalksTo f s0 s1 w0 w1 (TypesArms arms w0.rows ty trees) → WalksTo f s1 s2 w1 w2 (TypesArm a w1.rows ty tree) → WalksTo f s0 s2 w0 w2 (TypesArms (arms ++ a ∷ []) w0.rows ty (trees ++ tree ∷ []))
one_arm {f} {s0} {s1} {s2} {w0} {w1} {w2} {arms} {a} {ty} {trees} {tree} g k =
    let P = TypesArms arms w0.rows ty trees in
    let Q = TypesArm a w1.rows ty tree in
    halved (Both P Q w1.rows) (TypesArms (arms ++ a ∷ []) w0.rows ty (trees ++ tree ∷ [])) (both P Q g k) (same_types w2.rows)
    (λ items later more env distinct p t.
    let there_now : HasRowIf w0.rows ty → HasRowIf w1.rows ty = λ row. row_stays_if w0.rows w1.rows ty g.grows.tables.rows row in
    let typed = arm_typing env (type_if items later.rows ty) in
    let joined : map typed (trees ++ tree ∷ []) ≡ map typed trees ++ typed tree ∷ [] = map-append typed trees (tree ∷ []) in
    record {
      are = λ row. subst (λ (xs : List ArmSeen). AreArms items w2.rows later.rows (arms ++ a ∷ []) xs) (sym joined)
          (each_then (IsArm items w2.rows later.rows) arms (map typed trees) a (typed tree)
          (each_weaker (IsArm items w1.rows later.rows) (IsArm items w2.rows later.rows) arms (map typed trees) (λ x y. arm_stays items w1.rows w2.rows later.rows x y t.grows) (t.first.are row)) (t.second.is (there_now row)));
      reaches = λ row. reached_both items later.met more t.front t.rest (all_reached arm_reached (map typed trees)) (arm_reached (typed tree)) t.joined (t.first.reaches row) (t.second.reaches (there_now row))
          ∙ sym (reached_then arm_reached (map typed trees) (typed tree)) ∙ ap (all_reached arm_reached) (sym joined);
    })

pub arms_by : {f : Facts} {s0 s1 : CodeEnv} {w0 w1 : WalkShown} {arms : List ArmTyping} {old : List TypeRow} {ty : Option TypeId} {xs ys : List ArmTree} → xs ≡ ys → WalksTo f s0 s1 w0 w1 (TypesArms arms old ty xs)
    → WalksTo f s0 s1 w0 w1 (TypesArms arms old ty ys)
arms_by {f} {s0} {s1} {w0} {w1} {arms} {old} {ty} e g = subst (λ (ts : List ArmTree). WalksTo f s0 s1 w0 w1 (TypesArms arms old ty ts)) e g

-- ---- whether one binds a name

pub binds_some : (b : PatternNames) (n : ℕ) → n ≡ length b → not (n == 0) ≡ not (is_empty (bound_names b))
binds_some [] n e = ap (λ k. not (k == 0)) e
binds_some (x ∷ b) n e = ap not (ne_eqb n 0 (λ z. absurd (omega (arith, e, z))))

-- ---- a match

arms_reach : (arms : List ArmSeen) → arms_reached arms ≡ all_reached arm_reached arms
arms_reach [] = refl
arms_reach (a ∷ arms) = ap (λ ys. (a.seen.reached ++ a.value.reached) ++ ys) (arms_reach arms)

pub match_walked : {f : Facts} {s0 s1 s2 : CodeEnv} {w0 w1 w2 w3 : WalkShown} {v j : Typing} {V : TypeEnv → Judgement} {all : List ArmTyping} {arms : List Arm} (span : Span)
    → WalksTo f s0 s1 w0 w1 (TypesPart v V) → WalksTo f s1 s2 w1 w2 (TypesArms all w1.rows v.ty (map arm_typed arms)) → MatchFrom f s2 w2 w3 span v all arms j
    → WalksTo f s0 s2 w0 w3 (TypesPart j (λ env. match_half span env (V env, arms_at env (V env).ty arms)))
match_walked {f} {s0} {s1} {s2} {w0} {w1} {w2} {w3} {v} {j} {V} {all} {arms} span g k h =
    let P = TypesPart v V in
    let Q = TypesArms all w1.rows v.ty (map arm_typed arms) in
    let m : WalksTo f s0 s2 w0 w2 (Both P Q w1.rows) = both P Q g k in
    record {
      grows = grows_trans w0 w2 w3 m.grows h.grows;
      sight = m.sight;
      holds = λ known later has agrees there none.
          let names = item_names f in
          let env = environment f s0 known later in
          let t = m.holds known later (tables_trans w2 w3 later h.grows.tables has) agrees there (nothing_missing w2 w3 h.grows none) in
          let there_too : HasRows f s2 w2 = subst (λ (s : CodeEnv). HasRows f s w2) (sym m.sight) (rows_stay f s0 w0 w2 m.grows.tables there) in
          let js = arms_at env (V env).ty arms in
          let are : AreArms names w2.rows later.rows all js = subst (λ (d : Option DslxType). AreArms names w2.rows later.rows all (arms_at env d arms)) t.first.part.ty (t.second.are t.first.part.row) in
          record {
            part = subst (λ (s : CodeEnv). IsPart names w3.rows later.rows j (match_half span (environment f s known later) (V env, arms_at (environment f s known later) (V env).ty arms))) m.sight
                (h.comes known later has agrees there_too none (V env) (part_stays t.grows t.first.part)
                (subst (λ (s : CodeEnv). AreArms names w2.rows later.rows all (arms_at (environment f s known later) (V env).ty arms)) (sym m.sight) are));
            reaches = ap (λ (l : List ℕ). instances_at names later.met (drop (length w0.reached) l)) h.reached
                ∙ reached_both names later.met (drop (length w0.reached) w2.reached) t.front t.rest (V env).reached (all_reached arm_reached js) t.joined t.first.reaches
                (subst (λ (d : Option DslxType). instances_at names later.met t.rest ≡ all_reached arm_reached (arms_at env d arms)) t.first.part.ty (t.second.reaches t.first.part.row))
                ∙ ap (λ ys. (V env).reached ++ ys) (sym (arms_reach js));
          };
    }
