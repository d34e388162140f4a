-- The words of channels, lists of ends, and depths.
use Rattle.std.proofs.Common.{◌≡◌, ◌++◌, ◌∙◌, ℕ, List, [], ◌∷◌, Option, Some, None, length, drop, map, refl, sym, ap, subst}
use Rattle.std.proofs.lemmas.List.{map-append}
use Rattle.base.specs.Lists.Prefix.{IsPrefix}
use Rattle.xb_span.specs.declared.fault.Fault.{Fault}
use Rattle.dslx_tree.specs.declared.expr.Arg.{Arg, out-Arg}
use Rattle.dslx_tree.specs.declared.process.End.{End}
use Rattle.dslx_tree.specs.declared.type_expr.TypeExpr.{TypeExpr, out-TypeExpr}
use Rattle.dslx_meaning.specs.Rules.ConstantRules.{CountSeen, count_of}
use Rattle.dslx_meaning.specs.Rules.ItemRules.{Found, and_found, found_in, nothing_found, only_faults}
use Rattle.dslx_meaning.specs.Rules.NameRules.{local_name}
use Rattle.dslx_meaning.specs.Rules.ProcRules.{channel_end_of, channel_type, depth_found, depth_limit, ends_found, word_limit}
use Rattle.dslx_meaning.specs.Rules.TypeEnvs.{ExprPair, GlobalEnv, Judgement, TypeEnv}
use Rattle.dslx_meaning.specs.Rules.TypeRules.{inner_type}
use Rattle.dslx_meaning.specs.declared.ty.DslxType.{DslxType}
use Rattle.dslx_check_rules.specs.declared.faults.Faults.{Faults}
use Rattle.dslx_check_rules.specs.declared.table.row.TypeRow.{TypeRow}
use Rattle.dslx_check_rules.specs.declared.typing.Typing.{Typing}
use Rattle.dslx_check_rules.specs.Interned.{HasRowIf, ItemNames, type_if}
use Rattle.dslx_check_rules.specs.Seen.{seen}
use Rattle.dslx_check_facts.specs.declared.facts.Facts.{Facts}
use Rattle.dslx_check_facts.specs.declared.type_env.TypeEnv.{TypeEnv as CodeEnv}
use Rattle.dslx_check_facts.specs.Judged.{HasRows, environment}
use Rattle.dslx_check_facts.specs.Known.{FactsHold, item_names}
use Rattle.dslx_check_facts.specs.Walks.{WalkShown}
use Rattle.dslx_check_facts.proofs.Lemmas.Walks.{grows_trans, nothing_missing, tables_trans}
use Rattle.dslx_check_facts.proofs.Lemmas.Judged.{rows_stay}
use Rattle.dslx_check_rules.specs.declared.nodes.parts.CountTyping.{CountTyping}
use Rattle.dslx_check_rules.specs.Nodes.Parts.{FromOne, Pairs}
use Rattle.dslx_check_leaves.specs.Named.Constants.{expr_typed}
use Rattle.dslx_check_leaves.specs.Fits.Typed.{type_typed}
use Rattle.dslx_check_declarations.specs.declared.ends.NamedEnd.{NamedEnd}
use Rattle.dslx_check_declarations.specs.Ends.{IsNamed}
use Rattle.dslx_check_declarations.proofs.Lemmas.Ends.{named_stays}
use Rattle.dslx_check_declarations.proofs.Lemmas.Listed.{names_behind}
use Rattle.dslx_check_facts.specs.declared.type_env.MemberEnd.{MemberEnd}
use Rattle.dslx_check_leaves.specs.Walked.{TypesCount, TypesPart, WalksTo}
use Rattle.dslx_check_leaves.proofs.Lemmas.Each.{each_then, each_weaker}
use Rattle.dslx_check_leaves.proofs.Lemmas.Scopes.{arg_level}
use Rattle.dslx_check_leaves.proofs.Lemmas.Walking.{behind_both, halved, nothing_reached, same_types}
use Rattle.dslx_check_judge.specs.Instances.Inner.Bodies.{JudgesEnds, TypesEnds}
use Rattle.dslx_check_judge.specs.Instances.Inner.Found.{TypesFound}
use Rattle.dslx_check_judge.specs.declared.instances.channels.EndsSeen.{EndsSeen}
use Rattle.dslx_check_judge.proofs.OnInstances.OnPairs.{type_is}
use Rattle.dslx_check_judge.proofs.OnInstances.OnRuns.{IsFound, Joins, both_found, found_as, found_joins, nothing_behind, only_found}

-- ---- the type of a channel's words

abbrev pub worded : ℕ → Judgement → Judgement
worded end j = record { ty = j.ty; faults = j.faults ++ word_limit end j.ty; reached = j.reached; size = j.size }

pub word_from : {rows : List TypeRow} {a j : Typing} {limit : Faults} (end : ℕ) → ((names : ItemNames) (later : List TypeRow) → IsPrefix rows later → HasRowIf rows a.ty → limit ≡ seen (word_limit end (type_if names later a.ty)))
    → j.ty ≡ a.ty → ((fs gs : List Fault) → a.faults ≡ seen fs → limit ≡ seen gs → j.faults ≡ seen (fs ++ gs)) → j.size ≡ a.size → FromOne (worded end) rows rows a j
word_from {rows} {a} {j} {limit} end limited t adds s = record {
  typed = λ names later distinct p x k. record {
    row = subst (HasRowIf rows) (sym t) k.row;
    ty = ap (type_if names later) t ∙ k.ty;
    faults = adds x.faults (word_limit end x.ty) k.faults (limited names later p k.row ∙ ap (λ (o : Option DslxType). seen (word_limit end o)) k.ty);
    size = s ∙ k.size;
  };
}

pub channel_is : (t : TypeExpr) → ◌≡◌ {A = TypeEnv → Judgement} (λ env. worded (out-TypeExpr t).span.to (inner_type env (type_typed t))) (λ env. channel_type env t)
channel_is t = λ i env. worded (out-TypeExpr t).span.to (inner_type env (sym (type_is t) i))

-- ---- lists of ends

abbrev pub end_name : End → List ℕ
end_name e = e.name.name

-- one end behind these names
abbrev pub end_found : List (List ℕ) → End → TypeEnv → Found
end_found before e context = and_found (only_faults (local_name context before e.name)) (found_in (channel_type context e.word))

ends_next : (context : TypeEnv) (before : List (List ℕ)) (es : List End) (e : End)
    → and_found (ends_found context before es) (end_found (names_behind end_name before es) e context) ≡ ends_found context before (es ++ e ∷ [])
ends_next context before [] e = ap (and_found (only_faults (local_name context before e.name))) (sym (nothing_behind (found_in (channel_type context e.word))))
ends_next context before (x ∷ es) e =
    let N = only_faults (local_name context before x.name) in
    let W = found_in (channel_type context x.word) in
    let rest = ends_found context (x.name.name ∷ before) es in
    let own = end_found (names_behind end_name (x.name.name ∷ before) es) e context in
    found_joins N (and_found W rest) own ∙ ap (and_found N) (found_joins W rest own) ∙ ap (λ r. and_found N (and_found W r)) (ends_next context (x.name.name ∷ before) es e)

pub no_ends : {f : Facts} {s : CodeEnv} {w : WalkShown} {e : EndsSeen} → e.faults ≡ seen [] → e.ends.items ≡ [] → JudgesEnds f s s w w e []
no_ends {f} {s} {w} {e} none nothing =
    nothing_reached (TypesEnds e []) (same_types w.rows) (λ names later env distinct p. record { is = none; reaches = refl; ends = subst (λ (ns : List NamedEnd). Pairs (IsNamed names w.rows later.rows) ns []) (sym nothing) tt })

pub one_end : {f : Facts} {s0 s1 s2 : CodeEnv} {w0 w1 w2 : WalkShown} {word : Typing} {name mid : Faults} {e next : EndsSeen} (own : NamedEnd) (es : List End) (x : End)
    → JudgesEnds f s0 s1 w0 w1 e es
    → ((known : GlobalEnv) (later : WalkShown) (context : TypeEnv) → FactsHold f later known → context.known.whole ≡ known.whole → name ≡ seen (local_name context (names_behind end_name [] es) x.name))
    → WalksTo f s1 s2 w1 w2 (TypesPart word (λ context. channel_type context x.word))
    → Joins e.faults name mid → Joins mid word.faults next.faults
    → (own.name.now ≡ x.name.name) × (own.end ≡ record { direction = x.direction; word = word.ty }) → next.ends.items ≡ e.ends.items ++ own ∷ []
    → JudgesEnds f s0 s2 w0 w2 next (es ++ x ∷ [])
one_end {f} {s0} {s1} {s2} {w0} {w1} {w2} {word} {name} {mid} {e} {next} own es x g named h join1 join2 is pushed = record {
  grows = grows_trans w0 w1 w2 g.grows h.grows;
  sight = h.sight ∙ g.sight;
  holds = λ known later has agrees there none.
      let names = item_names f in
      let env = environment f s0 known later in
      let before_has = tables_trans w1 w2 later h.grows.tables has in
      let t = g.holds known later before_has agrees there (nothing_missing w1 w2 h.grows none) in
      let there_too : HasRows f s1 w1 = subst (λ (s : CodeEnv). HasRows f s w1) (sym g.sight) (rows_stay f s0 w0 w1 g.grows.tables there) in
      let u : TypesPart word (λ context. channel_type context x.word) names w2.rows later (drop (length w1.reached) w2.reached) env =
      subst (λ (s : CodeEnv). TypesPart word (λ context. channel_type context x.word) names w2.rows later (drop (length w1.reached) w2.reached) (environment f s known later)) g.sight
      (h.holds known later has agrees there_too none) in
      let before = names_behind end_name [] es in
      let F = ends_found env [] es in
      let N = local_name env before x.name in
      let W = channel_type env x.word in
      let front : IsFound names later (drop (length w0.reached) w1.reached) e.faults F = record { is = t.is; reaches = t.reaches } in
      let head : IsFound names later (drop (length w0.reached) w1.reached) mid (and_found F (only_faults N)) = only_found N front (named known later env agrees refl) join1 in
      let rest : IsFound names later (drop (length w1.reached) w2.reached) word.faults (found_in W) = record { is = u.part.faults; reaches = u.reaches } in
      let all = found_as (found_joins F (only_faults N) (found_in W) ∙ ends_next env [] es x) (both_found (behind_both w0.reached w1.reached w2.reached g.grows.reached h.grows.reached) head rest join2) in
      record {
        is = all.is;
        reaches = all.reaches;
        ends = paired names later.rows env (each_weaker (IsNamed names w1.rows later.rows) (IsNamed names w2.rows later.rows) e.ends.items (map (channel_end_of env) es)
            (λ n o. named_stays names w1.rows w2.rows later.rows h.grows.tables.rows n o) t.ends) u.part.row u.part.ty;
      };
}
  where
    paired : (names : ItemNames) (later : List TypeRow) (env : TypeEnv) → Pairs (IsNamed names w2.rows later) e.ends.items (map (channel_end_of env) es) → HasRowIf w2.rows word.ty
        → type_if names later word.ty ≡ (channel_type env x.word).ty → Pairs (IsNamed names w2.rows later) next.ends.items (map (channel_end_of env) (es ++ x ∷ []))
    paired names later env before row ty =
        subst (λ (ns : List NamedEnd). Pairs (IsNamed names w2.rows later) ns (map (channel_end_of env) (es ++ x ∷ []))) (sym pushed)
        (subst (Pairs (IsNamed names w2.rows later) (e.ends.items ++ own ∷ [])) (sym (map-append (channel_end_of env) es (x ∷ [])))
        (each_then (IsNamed names w2.rows later) e.ends.items (map (channel_end_of env) es) own (channel_end_of env x) before
        (record {
          name = is.0;
          end = record {
            row = subst (λ (m : MemberEnd). HasRowIf w2.rows m.word) (sym is.1) row;
            direction = ap (λ (m : MemberEnd). m.direction) is.1;
            word = ap (λ (m : MemberEnd). type_if names later m.word) is.1 ∙ ty;
          };
        })))

-- ---- depths

abbrev depth_by : ℕ → CountSeen → Found
depth_by end n = record { faults = n.judgement.faults ++ depth_limit end n.count; reached = n.judgement.reached }

pub no_depth : {f : Facts} {s : CodeEnv} {w : WalkShown} {faults : Faults} (depth : Option Arg) → depth ≡ None → faults ≡ seen [] → WalksTo f s s w w (TypesFound faults (λ context. depth_found context depth))
no_depth {f} {s} {w} {faults} depth is none =
    subst (λ (d : Option Arg). WalksTo f s s w w (TypesFound faults (λ context. depth_found context d))) (sym is)
    (nothing_reached (TypesFound faults (λ context. nothing_found)) (same_types w.rows) (λ names later env distinct p. record { is = none; reaches = refl }))

pub one_depth : {f : Facts} {s0 s1 : CodeEnv} {w0 w1 : WalkShown} {n : CountTyping} {limit faults : Faults} (depth : Option Arg) (a : Arg) → depth ≡ Some a
    → WalksTo f s0 s1 w0 w1 (TypesCount n (λ context. count_of context (expr_typed (out-Arg a).value))) → limit ≡ seen (depth_limit (out-Arg a).span.to n.count) → Joins n.typing.faults limit faults
    → WalksTo f s0 s1 w0 w1 (TypesFound faults (λ context. depth_found context depth))
one_depth {f} {s0} {s1} {w0} {w1} {n} {limit} {faults} depth a is g limited joins =
    subst (λ (d : Option Arg). WalksTo f s0 s1 w0 w1 (TypesFound faults (λ context. depth_found context d))) (sym is)
    (subst (λ (e : ExprPair). WalksTo f s0 s1 w0 w1 (TypesFound faults (λ context. depth_by (out-Arg a).span.to (count_of context e)))) (sym (arg_level a))
    (halved (TypesCount n (λ context. count_of context (expr_typed (out-Arg a).value))) (TypesFound faults (λ context. depth_by (out-Arg a).span.to (count_of context (expr_typed (out-Arg a).value)))) g (same_types w1.rows)
    (λ names later more env distinct p t.
    let x = count_of env (expr_typed (out-Arg a).value) in
    record {
      is = joins x.judgement.faults (depth_limit (out-Arg a).span.to x.count) t.count.part.faults (limited ∙ ap (λ o. seen (depth_limit (out-Arg a).span.to o)) t.count.count);
      reaches = t.reaches;
    })))
