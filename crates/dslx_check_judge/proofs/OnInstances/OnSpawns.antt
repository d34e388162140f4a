-- Procs that are spawned.
use Rattle.std.proofs.Common.{◌≡◌, ◌++◌, ◌∙◌, ◌≤◌, ◌==◌, ◌&&◌, ◌||◌, ℕ, Bool, true, false, not, List, [], ◌∷◌, Option, Some, None, length, drop, map, nat_lt, ltb-false, slice_get, refl, sym, ap, subst, if◌then◌else◌}
use mathlib.Core.Bool.{true≢false}
use Rattle.std.specs.List.{AllByRecursion}
use Rattle.std.proofs.lemmas.Bool.{not-true}
use Rattle.std.proofs.lemmas.List.{append-nil, map-append}
use Rattle.base.specs.Lists.Prefix.{IsPrefix}
use Rattle.base.proofs.Lemmas.Lists.Prefixes.{IsPrefix-append, IsPrefix-refl}
use Rattle.xb_span.specs.declared.span.Span.{Span}
use Rattle.dslx_tree.specs.declared.expr.Arg.{Arg}
use Rattle.dslx_tree.specs.declared.ident.Ident.{Ident}
use Rattle.dslx_tree.specs.declared.item.Definition.TheVariants as d
use Rattle.dslx_tree.specs.declared.item.Parametric.{Parametric}
use Rattle.dslx_tree.specs.declared.process.ConfigStatement.TheVariants as config_statement
use Rattle.dslx_tree.specs.declared.process.End.{End}
use Rattle.dslx_tree.specs.declared.process.Proc.{Proc}
use Rattle.dslx_tree.specs.declared.process.Spawn.{Spawn}
use Rattle.dslx_meaning.specs.Items.{item_named}
use Rattle.dslx_meaning.specs.Lists.{all_some}
use Rattle.dslx_meaning.specs.Network.{as_proc}
use Rattle.dslx_meaning.specs.declared.value.DslxValue.{DslxValue}
use Rattle.dslx_meaning.specs.Inference.{Inferred}
use Rattle.dslx_meaning.specs.Rules.CallRules.{ParametricArgument as GivenSeen, ParametricArgsSeen, given_judgements, is_refused, known_before, nothing_there, parametric_args_seen, reached_by, signature_seen, typing_there}
use Rattle.dslx_meaning.specs.Rules.ConstantRules.{untyped_typing}
use Rattle.dslx_meaning.specs.Rules.ItemRules.{Found, and_found, only_faults}
use Rattle.dslx_meaning.specs.Rules.ModuleRules.{no_signature}
use Rattle.dslx_meaning.specs.Rules.ProcRules as the
use Rattle.dslx_meaning.specs.Rules.RuleNumbers as rule
use Rattle.dslx_meaning.specs.Rules.TypeEnvs.{GlobalEnv, TypeEnv, breaks, breaks_if, faults_of_all}
use Rattle.dslx_check_rules.specs.declared.faults.Faults.{Faults}
use Rattle.dslx_check_rules.specs.declared.table.row.TypeId.{TypeId}
use Rattle.dslx_check_rules.specs.declared.table.row.TypeRow.{TypeRow}
use Rattle.dslx_check_rules.specs.Seen.{seen}
use Rattle.dslx_check_rules.specs.Interned.{AreDistinct, HasRowIf, ItemNames, type_if}
use Rattle.dslx_check_facts.specs.declared.facts.Facts.{Facts}
use Rattle.dslx_check_facts.specs.declared.facts.SignatureThere.{SignatureThere}
use Rattle.dslx_check_facts.specs.declared.instances.InstanceKey.{InstanceKey}
use Rattle.dslx_check_facts.specs.declared.type_env.TypeEnv.{TypeEnv as CodeEnv}
use Rattle.dslx_check_facts.specs.Firsts.{IsMeant, meant_by}
use Rattle.dslx_check_facts.specs.Judged.{HasRows, environment}
use Rattle.dslx_check_facts.specs.Keys.{list_or_none, values_or_none}
use Rattle.dslx_check_facts.specs.Known.{FactsHold, Has, HasKnownRows, is_cyclic, item_names}
use Rattle.dslx_check_facts.specs.Names.{name_or}
use Rattle.dslx_check_facts.specs.Typings.{IsSignature}
use Rattle.dslx_check_facts.specs.Walks.{HasTables, WalkGrows, WalkShown, instance_at, instances_at}
use Rattle.dslx_check_facts.proofs.Lemmas.Items.{cyclic_is, means}
use Rattle.dslx_check_facts.proofs.Lemmas.Judged.{known_rows_stay, rows_stay}
use Rattle.dslx_check_facts.proofs.Lemmas.Walks.{grows_refl, grows_trans, instance_is, nothing_missing, tables_trans}
use Rattle.dslx_check_rules.proofs.Lemmas.Nodes.Lists.{pairs_long}
use Rattle.dslx_check_rules.specs.declared.control.calls.ParametricArgument.{ParametricArgument}
use Rattle.dslx_check_rules.specs.Control.Calls.{AreGiven, IsGiven}
use Rattle.dslx_check_uses.specs.declared.parametrics.CalledItem.{CalledItem}
use Rattle.dslx_check_uses.specs.declared.parametrics.ParametricArgs.{ParametricArgs}
use Rattle.dslx_check_uses.specs.Arguments.{AreArgs, ArgsFrom, Sees}
use Rattle.dslx_check_declarations.specs.declared.config.Made.{Made}
use Rattle.dslx_check_declarations.specs.Config.{AreMadeOf, AreMeant, AreStrings, MeansEnds, UsesNames}
use Rattle.dslx_check_declarations.proofs.Lemmas.Ends.{end_stays}
use Rattle.dslx_check_leaves.specs.Typed.{given_at}
use Rattle.dslx_check_leaves.specs.Walked.{TypesEach, WalksTo, given_reached}
use Rattle.dslx_check_leaves.proofs.Lemmas.OnCalls.{args_are}
use Rattle.dslx_check_leaves.proofs.Lemmas.Walking.{all_dropped, behind_both}
use Rattle.dslx_check_leaves.proofs.Lemmas.Whole.{given_reach}
use Rattle.dslx_check_judge.specs.Instances.Inner.Config.{StepsStatement}
use Rattle.dslx_check_judge.specs.Instances.Inner.Spawns.{HandsOver, ReachesInstance, RightSpawn, SpawnsNamed}
use Rattle.dslx_check_judge.specs.Instances.Reached.{ReachesProc, proc_reached}
use Rattle.dslx_check_judge.proofs.OnInstances.OnRuns.{IsFound, Joins, both_found, found_as, found_joins, only_found}

-- ---- what is reached

dropped_front : {A : Type 0} (xs ys : List A) → drop (length xs) (xs ++ ys) ≡ ys
dropped_front [] ys = refl
dropped_front (x ∷ xs) ys = dropped_front xs ys

met_grows : (w0 w1 : WalkShown) → IsPrefix w0.met w1.met → w1 ≡ record w0 { met = w1.met } → WalkGrows w0 w1
met_grows w0 w1 p e = subst (WalkGrows w0) (sym e) (record {
  tables = record { rows = IsPrefix-refl w0.rows; met = p; prefixes = IsPrefix-refl w0.prefixes; asked = IsPrefix-refl w0.asked };
  items = λ k r at h. at;
  reached = IsPrefix-refl w0.reached;
  missing = IsPrefix-refl w0.missing;
})

reach_grows : (w0 w1 : WalkShown) (more : List ℕ) → w1 ≡ record w0 { reached = w0.reached ++ more } → WalkGrows w0 w1
reach_grows w0 w1 more e = subst (WalkGrows w0) (sym e) (record {
  tables = record { rows = IsPrefix-refl w0.rows; met = IsPrefix-refl w0.met; prefixes = IsPrefix-refl w0.prefixes; asked = IsPrefix-refl w0.asked };
  items = λ k r at h. at;
  reached = IsPrefix-append w0.reached more;
  missing = IsPrefix-refl w0.missing;
})

-- one instance
pub instance_reached : {w0 w1 w2 : WalkShown} (key : InstanceKey) (n : ℕ) → IsPrefix w0.met w1.met → slice_get w1.met n ≡ Some key → w1 ≡ record w0 { met = w1.met } → w2 ≡ record w1 { reached = w1.reached ++ n ∷ [] }
    → ReachesInstance w0 w2 key
instance_reached {w0} {w1} {w2} key n grows at one two = record {
  grows = grows_trans w0 w1 w2 (met_grows w0 w1 grows one) (reach_grows w1 w2 (n ∷ []) two);
  says = λ names later has.
      let met : IsPrefix w1.met later.met = subst (λ (l : List InstanceKey). IsPrefix l later.met) (ap (λ (w : WalkShown). w.met) two) has.met in
      let all : w2.reached ≡ w0.reached ++ n ∷ [] = ap (λ (w : WalkShown). w.reached) two ∙ ap (λ (w : WalkShown). w.reached ++ n ∷ []) one in
      ap (λ l. instances_at names later.met (drop (length w0.reached) l)) all ∙ ap (instances_at names later.met) (dropped_front w0.reached (n ∷ [])) ∙ ap (λ i. i ∷ []) (instance_is names w1.met later.met n key met at);
}

or_wrong : (c w v : Bool) → w ≡ v → (c || w) ≡ (c || v)
or_wrong c w v e = ap (λ b. c || b) e

-- where rule 3 or rule 10 is broken, nothing
pub refused_reaches : {f : Facts} {callee : CalledItem} {w : WalkShown} {args : ParametricArgs} → (callee.is_cyclic || args.is_wrong) ≡ true → ReachesProc f callee w w args
refused_reaches {f} {callee} {w} {args} refused = record {
  grows = grows_refl w;
  says = λ later has x are.
      let owner = (item_names f).item callee.item in
      let is : true ≡ (callee.is_cyclic || x.is_wrong) = sym refused ∙ ap (λ b. callee.is_cyclic || b) are.wrong in
      ap (instances_at (item_names f) later.met) (all_dropped w.reached) ∙ ap (λ b. if b then [] else x.declared.reached ++ reached_by false owner x.values) is;
}

neither : (c w : Bool) → (c || w) ≡ false → c ≡ false
neither false w e = refl
neither true w e = absurd (true≢false e)

-- what the parametrics do, where they haven't all values
pub parametrics_reach : {f : Facts} {callee : CalledItem} {w0 w1 : WalkShown} {args : ParametricArgs} → (callee.is_cyclic || args.is_wrong) ≡ false → w1 ≡ record w0 { reached = w0.reached ++ args.reached.items }
    → None ≡ (if args.are_known then all_some args.values.items else None) → ReachesProc f callee w0 w1 args
parametrics_reach {f} {callee} {w0} {w1} {args} right e none = record {
  grows = reach_grows w0 w1 args.reached.items e;
  says = λ later has x are.
      let names = item_names f in
      let owner = names.item callee.item in
      let is : false ≡ (callee.is_cyclic || x.is_wrong) = sym right ∙ ap (λ b. callee.is_cyclic || b) are.wrong in
      let more : drop (length w0.reached) w1.reached ≡ args.reached.items = ap (λ (w : WalkShown). drop (length w0.reached) w.reached) e ∙ dropped_front w0.reached args.reached.items in
      ap (instances_at names later.met) more ∙ are.reaches (neither callee.is_cyclic args.is_wrong right) ∙ sym (append-nil x.declared.reached)
      ∙ ap (λ vs. x.declared.reached ++ reached_by false owner vs) (none ∙ are.values) ∙ ap (λ b. if b then [] else x.declared.reached ++ reached_by false owner x.values) is;
}

-- and the instance, where they have
pub proc_is_reached : {f : Facts} {callee : CalledItem} {w0 w1 w2 : WalkShown} {args : ParametricArgs} {values : List DslxValue} → (callee.is_cyclic || args.is_wrong) ≡ false
    → w1 ≡ record w0 { reached = w0.reached ++ args.reached.items } → Some values ≡ (if args.are_known then all_some args.values.items else None)
    → ReachesInstance w1 w2 (record { item = callee.item; parametric_args = values }) → ReachesProc f callee w0 w2 args
proc_is_reached {f} {callee} {w0} {w1} {w2} {args} {values} right e all one = record {
  grows = grows_trans w0 w1 w2 front one.grows;
  says = λ later has x are.
      let names = item_names f in
      let met = later.met in
      let owner = names.item callee.item in
      let is : false ≡ (callee.is_cyclic || x.is_wrong) = sym right ∙ ap (λ b. callee.is_cyclic || b) are.wrong in
      let more : drop (length w0.reached) w1.reached ≡ args.reached.items = ap (λ (w : WalkShown). drop (length w0.reached) w.reached) e ∙ dropped_front w0.reached args.reached.items in
      let both : drop (length w0.reached) w2.reached ≡ drop (length w0.reached) w1.reached ++ drop (length w1.reached) w2.reached = behind_both w0.reached w1.reached w2.reached front.reached one.grows.reached in
      ap (instances_at names met) both ∙ map-append (instance_at names met) (drop (length w0.reached) w1.reached) (drop (length w1.reached) w2.reached)
      ∙ (λ i. (ap (instances_at names met) more ∙ are.reaches (neither callee.is_cyclic args.is_wrong right)) i ++ one.says names later has i)
      ∙ ap (λ vs. x.declared.reached ++ reached_by false owner vs) (all ∙ are.values) ∙ ap (λ b. if b then [] else x.declared.reached ++ reached_by false owner x.values) is;
}
  where
    front : WalkGrows w0 w1
    front = reach_grows w0 w1 args.reached.items e

-- ---- parametrics

-- the ends of a proc infer nothing
pub by_nothing : {A B : Type 0} {f : Facts} {callee : CalledItem} {w0 w1 : WalkShown} {ps qs : List Parametric} (g : A → Inferred) (h : B → List ℕ) (given : List ParametricArgument) {ns : List A} {ms : List B} {args : ParametricArgs}
    → ps ≡ qs → ns ≡ [] → ms ≡ [] → ArgsFrom f callee w0 w1 ps given (map g ns) (map h ms) args → ArgsFrom f callee w0 w1 qs given [] [] args
by_nothing {A} {B} {f} {callee} {w0} {w1} {ps} {qs} g h given {ns} {ms} {args} p n m from =
    subst (λ (l : List Parametric). ArgsFrom f callee w0 w1 l given [] [] args) p
    (subst (λ (l : List A). ArgsFrom f callee w0 w1 ps given (map g l) [] args) n (subst (λ (l : List B). ArgsFrom f callee w0 w1 ps given (map g ns) (map h l) args) m from))

-- ---- ends that are handed over

pub wrong_hands : {f : Facts} {callee : CalledItem} {w : WalkShown} {made : Made} {ends : List End} {idents : List Ident} {args : ParametricArgs} {faults : Faults} → args.is_wrong ≡ true → faults ≡ seen []
    → HandsOver f callee w w made ends idents args faults
wrong_hands {f} {callee} {w} {made} {ends} {idents} {args} {faults} wrong none = record {
  grows = grows_refl w;
  reached = refl;
  says = λ shown known seen_as later has agrees sees rows missing x m are means.
      none ∙ ap (λ b. seen (if b then [] else the.handed_faults m (signature_seen seen_as ((item_names f).item callee.item) x).arguments ends idents)) (sym wrong ∙ are.wrong);
}

pub cut_hands : {f : Facts} {callee : CalledItem} {w : WalkShown} {made : Made} {ends : List End} {idents : List Ident} {args : ParametricArgs} {faults : Faults} → args.is_whole ≡ false
    → HandsOver f callee w w made ends idents args faults
cut_hands {f} {callee} {w} {made} {ends} {idents} {args} {faults} cut = record {
  grows = grows_refl w;
  reached = refl;
  says = λ shown known seen_as later has agrees sees rows missing x m are means. absurd (true≢false (sym are.whole ∙ cut));
}

-- nothing is known of the signature
pub unseen_hands : {f : Facts} {callee : CalledItem} {w0 w1 : WalkShown} {made : Made} {ends : List End} {idents : List Ident} {args : ParametricArgs} {faults : Faults} {signature : Option SignatureThere} → WalkGrows w0 w1
    → w1.reached ≡ w0.reached → ((rows : List TypeRow) → HasKnownRows rows f → w1.missing ≡ [] → Has signature (λ s. AllByRecursion (HasRowIf rows) s.arguments.items × HasRowIf rows s.result)) → signature ≡ None
    → HandsOver f callee w0 w1 made ends idents args faults
unseen_hands {f} {callee} {w0} {w1} {made} {ends} {idents} {args} {faults} {signature} grows reached there none = record {
  grows = grows;
  reached = reached;
  says = λ shown known seen_as later has agrees sees rows missing x m are means.
      absurd (subst (λ (o : Option SignatureThere). Has o (λ s. AllByRecursion (HasRowIf w0.rows) s.arguments.items × HasRowIf w0.rows s.result)) none (there w0.rows rows missing));
}

-- where it is known
pub seen_hands : {f : Facts} {callee : CalledItem} {w0 w1 : WalkShown} {made : Made} {ends : List End} {idents : List Ident} {args : ParametricArgs} {faults : Faults} {signature : Option SignatureThere} (t : SignatureThere) (words : List (Option TypeId)) (es : List End) (is' : List Ident)
    → args.is_wrong ≡ false → WalkGrows w0 w1 → w1.reached ≡ w0.reached
    → ((rows : List TypeRow) → HasKnownRows rows f → w1.missing ≡ [] → Has signature (λ s. AllByRecursion (HasRowIf rows) s.arguments.items × HasRowIf rows s.result))
    → ((known : GlobalEnv) (later : WalkShown) → HasTables w1 later → FactsHold f later known → w1.missing ≡ []
    → Has signature (λ s. IsSignature (item_names f) later s (known.signature_in ((item_names f).item callee.item) (list_or_none later.prefixes args.prefix))))
    → signature ≡ Some t
    → words ≡ t.arguments.items → es ≡ ends → is' ≡ idents
    → ((names : ItemNames) (later : List TypeRow) (m : the.Made) → AreDistinct names → IsPrefix w1.rows later → MeansEnds names w1.rows later made m → AllByRecursion (HasRowIf w1.rows) words
    → faults ≡ seen (the.handed_faults m (map (type_if names later) words) es is'))
    → HandsOver f callee w0 w1 made ends idents args faults
seen_hands {f} {callee} {w0} {w1} {made} {ends} {idents} {args} {faults} {signature} t words es is' right grows reached there is some words_are ends_are idents_are handed = record {
  grows = grows;
  reached = reached;
  says = λ shown known seen_as later has agrees sees rows missing x m are means.
      let names = item_names f in
      let owner = names.item callee.item in
      let before : list_or_none later.prefixes args.prefix ≡ x.bound.values = ap values_or_none are.at in
      let own : known.signature_in owner x.bound.values ≡ seen_as.signature_in owner x.bound.values =
      ap (λ b. if b then no_signature else known.signature_in owner x.bound.values) (sym shown) ∙ sym (sees.signature x.bound.values) in
      let own_rows : AllByRecursion (HasRowIf w1.rows) t.arguments.items × HasRowIf w1.rows t.result =
      subst (λ (o : Option SignatureThere). Has o (λ s. AllByRecursion (HasRowIf w1.rows) s.arguments.items × HasRowIf w1.rows s.result)) some (there w1.rows (known_rows_stay w0.rows w1.rows f grows.tables.rows rows) missing) in
      let own_is : IsSignature names later t (seen_as.signature_in owner x.bound.values) =
      subst (IsSignature names later t) (ap (known.signature_in owner) before ∙ own)
      (subst (λ (o : Option SignatureThere). Has o (λ s. IsSignature names later s (known.signature_in owner (list_or_none later.prefixes args.prefix)))) some (is known later has agrees missing)) in
      let stays : MeansEnds names w1.rows later.rows made m = λ name. end_stays names w0.rows w1.rows later.rows grows.tables.rows _ _ (means name) in
      handed names later.rows m agrees.distinct has.rows stays (subst (AllByRecursion (HasRowIf w1.rows)) (sym words_are) own_rows.0)
      ∙ (λ i. seen (the.handed_faults m (map (type_if names later.rows) (words_are i)) (ends_are i) (idents_are i))) ∙ ap (λ ts. seen (the.handed_faults m ts ends idents)) own_is.arguments
      ∙ ap (λ b. seen (if b then [] else the.handed_faults m (signature_seen seen_as owner x).arguments ends idents)) (sym right ∙ are.wrong);
}

-- ---- a spawn with the right numbers

refused_is : (b : Bool) (span : Span) (x : ParametricArgsSeen) → is_refused (breaks_if b rule.NO_ITEM_REACHES_ITSELF span) x ≡ (b || x.is_wrong)
refused_is true span x = refl
refused_is false span x = refl

reached_is : (b : Bool) (span : Span) (name : List ℕ) (x : ParametricArgsSeen)
    → proc_reached b name x ≡ (typing_there (breaks_if b rule.NO_ITEM_REACHES_ITSELF span) x).reached ++ reached_by (is_refused (breaks_if b rule.NO_ITEM_REACHES_ITSELF span) x) name x.values
reached_is b span name x =
    by (b || x.is_wrong) ∙ ap (λ r. (if r then nothing_there else x.declared).reached ++ reached_by r name x.values) (sym (refused_is b span x))
  where
    by : (r : Bool) → (if r then [] else x.declared.reached ++ reached_by false name x.values) ≡ (if r then nothing_there else x.declared).reached ++ reached_by r name x.values
    by true = refl
    by false = refl

declared_is : (names : ItemNames) (later : WalkShown) (b : Bool) (span : Span) (args : ParametricArgs) (x : ParametricArgsSeen) → AreArgs names later b args x
    → (if b || args.is_wrong then seen [] else args.declared) ≡ seen (typing_there (breaks_if b rule.NO_ITEM_REACHES_ITSELF span) x).faults
declared_is names later b span args x are =
    ap (λ w. if b || w then seen [] else args.declared) are.wrong ∙ by b x.is_wrong are.declared
    ∙ ap (λ r. seen (if r then nothing_there else x.declared).faults) (sym (refused_is b span x))
  where
    by : (b w : Bool) → (b ≡ false → args.declared ≡ seen x.declared.faults) → (if b || w then seen [] else args.declared) ≡ seen (if b || w then nothing_there else x.declared).faults
    by true w h = refl
    by false true h = refl
    by false false h = h refl

pub spawned : {f : Facts} {callee : CalledItem} {w0 w1 w2 w3 : WalkShown} {made : Made} {args : ParametricArgs} {cyclic declared wrong handed mid1 mid2 mid3 all : Faults} (s : Spawn) (target : Proc) (given : List ParametricArgument)
    → ArgsFrom f callee w0 w1 target.parametrics given [] [] args → HandsOver f callee w1 w2 made target.config.ends s.ends args handed → ReachesProc f callee w2 w3 args
    → cyclic ≡ seen (breaks_if callee.is_cyclic rule.NO_ITEM_REACHES_ITSELF s.span) → declared ≡ (if callee.is_cyclic || args.is_wrong then seen [] else args.declared)
    → wrong ≡ seen (breaks_if args.is_wrong rule.ARGUMENTS_FIT s.span) → Joins cyclic args.faults mid1 → Joins mid1 declared mid2 → Joins mid2 wrong mid3 → Joins mid3 handed all
    → RightSpawn f callee w0 w3 made s target given all
spawned {f} {callee} {w0} {w1} {w2} {w3} {made} {args} {cyclic} {declared} {wrong} {handed} {mid1} {mid2} {mid3} {all} s target given from hands reaches cyclic_is declared_by wrong_is join1 join2 join3 join4 = record {
  grows = grows_trans w0 w1 w3 from.grows (grows_trans w1 w2 w3 hands.grows reaches.grows);
  says = λ shown known context later has agrees sees rows missing called count gs m are_given means.
      let names = item_names f in
      let span = s.span in
      let cyc = breaks_if callee.is_cyclic rule.NO_ITEM_REACHES_ITSELF span in
      let has2 = tables_trans w2 w3 later reaches.grows.tables has in
      let none2 = nothing_missing w2 w3 reaches.grows missing in
      let has1 = tables_trans w1 w2 later hands.grows.tables has2 in
      let none1 = nothing_missing w1 w2 hands.grows none2 in
      let x : ParametricArgsSeen = the.proc_parametric_args context.known target gs in
      let are : AreArgs names later callee.is_cyclic args x =
      subst (λ (owner : List ℕ). AreArgs names later callee.is_cyclic args (parametric_args_seen context.known owner [] [] (known_before []) target.parametrics gs)) called
      (from.says known context.known later has1 agrees sees rows none1 gs are_given count) in
      let stays : MeansEnds names w1.rows later.rows made m = λ name. end_stays names w0.rows w1.rows later.rows from.grows.tables.rows _ _ (means name) in
      let hand : handed ≡ seen (if x.is_wrong then [] else the.handed_faults m (signature_seen context.known target.name.name x).arguments target.config.ends s.ends) =
      hands.says shown known context.known later has2 agrees sees (known_rows_stay w0.rows w1.rows f from.grows.tables.rows rows) none2 x m are stays
      ∙ ap (λ (owner : List ℕ). seen (if x.is_wrong then [] else the.handed_faults m (signature_seen context.known owner x).arguments target.config.ends s.ends)) called in
      let D = (typing_there cyc x).faults in
      let R = breaks_if x.is_wrong rule.ARGUMENTS_FIT span in
      let H = if x.is_wrong then [] else the.handed_faults m (signature_seen context.known target.name.name x).arguments target.config.ends s.ends in
      let first : mid1 ≡ seen (cyc ++ x.faults) = join1 cyc x.faults cyclic_is are.faults in
      let second : mid2 ≡ seen (cyc ++ x.faults ++ D) = join2 (cyc ++ x.faults) D first (declared_by ∙ declared_is names later callee.is_cyclic span args x are) in
      let third : mid3 ≡ seen (cyc ++ x.faults ++ D ++ R) = join3 (cyc ++ x.faults ++ D) R second (wrong_is ∙ ap (λ b. seen (breaks_if b rule.ARGUMENTS_FIT span)) are.wrong) in
      let same : drop (length w0.reached) w3.reached ≡ drop (length w2.reached) w3.reached = ap (λ (l : List ℕ). drop (length l) w3.reached) (sym (hands.reached ∙ from.reached)) in (
        join4 (cyc ++ x.faults ++ D ++ R) H third hand,
        ap (instances_at names later.met) same ∙ reaches.says later has x are ∙ ap (λ (owner : List ℕ). proc_reached callee.is_cyclic owner x) called ∙ reached_is callee.is_cyclic span target.name.name x,
      );
}

-- ---- what a name means

-- what a place sees of a proc, outside what declarations ask for
sees_plainly : (f : Facts) (s : CodeEnv) (later : WalkShown) (known : GlobalEnv) (callee : CalledItem) → s.is_declaring ≡ false → callee.is_hidden ≡ false → Sees f callee known (environment f s known later).known
sees_plainly f s later known callee plain shown =
    let owner = (item_names f).item s.owner in
    let item = (item_names f).item callee.item in
    let is : (s.is_declaring && known.is_cyclic owner item) ≡ callee.is_hidden = ap (λ b. b && known.is_cyclic owner item) plain ∙ sym shown in
    record {
      parameter = λ before. ap (λ b. if b then untyped_typing else known.parameter_in item before) is;
      default = λ before. ap (λ b. if b then record { judgement = untyped_typing; value = None } else known.default_in item before) is;
      signature = λ before. ap (λ b. if b then no_signature else known.signature_in item before) is;
      size = λ i. refl;
    }

-- the claim on what a spawn comes to
abbrev SpawnIs : Facts → WalkShown → WalkShown → WalkShown → Faults → Found → Type 0
SpawnIs f w0 w1 later faults x = (faults ≡ seen x.faults) × (instances_at (item_names f) later.met (drop (length w0.reached) w1.reached) ≡ x.reached)

-- by what the name means in the text
by_name : {f : Facts} {later : WalkShown} {known : GlobalEnv} {faults : Faults} (s0 : CodeEnv) (w0 w1 : WalkShown) (context : TypeEnv) (m : the.Made) (s : Spawn) (gs : List GivenSeen) (o : Option Proc) → FactsHold f later known
    → environment f s0 known later ≡ the.behind_ends context m → as_proc (meant_by f s.target.name) ≡ o → SpawnIs f w0 w1 later faults (the.spawn_of context m s gs o)
    → SpawnIs f w0 w1 later faults (the.spawn_of context m s gs (as_proc (item_named s.target.name context.known.whole.items)))
by_name {f} {later} {known} {faults} s0 w0 w1 context m s gs o agrees here meant h =
    let whole : meant_by f s.target.name ≡ item_named s.target.name context.known.whole.items = sym (means f later known s.target.name agrees) ∙ ap (λ (E : TypeEnv). item_named s.target.name E.known.whole.items) here in
    subst (λ (q : Option Proc). SpawnIs f w0 w1 later faults (the.spawn_of context m s gs q)) (sym meant ∙ ap as_proc whole) h

pub none_spawned : {f : Facts} {s0 : CodeEnv} {w : WalkShown} {made : Made} {faults : Faults} (s : Spawn) (given : List ParametricArgument) → as_proc (meant_by f s.target.name) ≡ None
    → faults ≡ seen (breaks rule.NAME_IS_DECLARED s.target.span ∷ []) → SpawnsNamed f s0 w w made s given faults
none_spawned {f} {s0} {w} {made} {faults} s given none is = record {
  grows = grows_refl w;
  holds = λ plain known later has agrees there missing context m gs here means are.
      by_name s0 w w context m s gs None agrees here none (is, ap (instances_at (item_names f) later.met) (all_dropped w.reached));
}

-- a proc of this number
called_by : (f : Facts) (name : List ℕ) (item : ℕ) (target : Proc) → IsMeant f name item (d.Proc target) → (item_names f).item item ≡ target.name.name
called_by f name item target meant = ap (name_or item) meant.at

right_count : (b : Bool) (k l : ℕ) → (b && not (nat_lt k l)) ≡ true → l ≤ k
right_count true k l e = ltb-false k l (not-true (nat_lt k l) e)
right_count false k l e = absurd (true≢false (sym e))

pub proc_spawned : {f : Facts} {s0 : CodeEnv} {w0 w1 : WalkShown} {made : Made} {callee : CalledItem} {faults : Faults} (s : Spawn) (target : Proc) (given : List ParametricArgument)
    → IsMeant f s.target.name callee.item (d.Proc target) → callee.is_cyclic ≡ is_cyclic f s0.owner callee.item → callee.is_hidden ≡ false
    → (length s.ends == length target.config.ends && not (nat_lt (length target.parametrics) (length given))) ≡ true
    → RightSpawn f callee w0 w1 made s target given faults → SpawnsNamed f s0 w0 w1 made s given faults
proc_spawned {f} {s0} {w0} {w1} {made} {callee} {faults} s target given meant cyclic shown right from = record {
  grows = from.grows;
  holds = λ plain known later has agrees there missing context m gs here means are.
      let names = item_names f in
      let env = environment f s0 known later in
      let called = called_by f s.target.name callee.item target meant in
      let count : length given ≤ length target.parametrics = right_count (length s.ends == length target.config.ends) (length target.parametrics) (length given) right in
      let own : callee.is_cyclic ≡ env.known.is_cyclic env.owner target.name.name = cyclic ∙ cyclic_is f s0 later known callee.item target.name.name agrees called in
      let test : true ≡ (length s.ends == length target.config.ends && not (nat_lt (length target.parametrics) (length gs))) =
      sym right ∙ (λ i. length s.ends == length target.config.ends && not (nat_lt (length target.parametrics) (pairs_long (IsGiven names w0.rows later.rows) given gs are i))) in
      let x : TypeEnv → ParametricArgsSeen = λ E. the.proc_parametric_args E.known target gs in
      let said : SpawnIs f w0 w1 later faults (the.right_spawn env m s target (breaks_if callee.is_cyclic rule.NO_ITEM_REACHES_ITSELF s.span) (x env)) =
      from.says shown known env later has agrees (sees_plainly f s0 later known callee plain shown) there.known missing called count gs m are means in
      by_name s0 w0 w1 context m s gs (Some target) agrees here (ap as_proc meant.meant)
      (subst (λ (E : TypeEnv). SpawnIs f w0 w1 later faults (the.spawn_of E m s gs (Some target))) here
      (subst (λ (b : Bool). SpawnIs f w0 w1 later faults (if b then the.right_spawn env m s target (breaks_if (env.known.is_cyclic env.owner target.name.name) rule.NO_ITEM_REACHES_ITSELF s.span) (x env)
      else only_faults (breaks_if (env.known.is_cyclic env.owner target.name.name) rule.NO_ITEM_REACHES_ITSELF s.span ++ breaks rule.ARGUMENTS_FIT s.span ∷ []))) test
      (subst (λ (b : Bool). SpawnIs f w0 w1 later faults (the.right_spawn env m s target (breaks_if b rule.NO_ITEM_REACHES_ITSELF s.span) (x env))) own said)));
}

pub wrongly_spawned : {f : Facts} {s0 : CodeEnv} {w : WalkShown} {made : Made} {item : ℕ} {cyclic wrong faults : Faults} (s : Spawn) (target : Proc) (given : List ParametricArgument)
    → IsMeant f s.target.name item (d.Proc target) → (length s.ends == length target.config.ends && not (nat_lt (length target.parametrics) (length given))) ≡ false
    → cyclic ≡ seen (breaks_if (is_cyclic f s0.owner item) rule.NO_ITEM_REACHES_ITSELF s.span) → wrong ≡ seen (breaks rule.ARGUMENTS_FIT s.span ∷ []) → Joins cyclic wrong faults
    → SpawnsNamed f s0 w w made s given faults
wrongly_spawned {f} {s0} {w} {made} {item} {cyclic} {wrong} {faults} s target given meant bad cyclic_by wrong_is joins = record {
  grows = grows_refl w;
  holds = λ plain known later has agrees there missing context m gs here means are.
      let names = item_names f in
      let env = environment f s0 known later in
      let called = called_by f s.target.name item target meant in
      let by_cycle = breaks_if (env.known.is_cyclic env.owner target.name.name) rule.NO_ITEM_REACHES_ITSELF s.span in
      let is : cyclic ≡ seen by_cycle = cyclic_by ∙ ap (λ b. seen (breaks_if b rule.NO_ITEM_REACHES_ITSELF s.span)) (cyclic_is f s0 later known item target.name.name agrees called) in
      let test : false ≡ (length s.ends == length target.config.ends && not (nat_lt (length target.parametrics) (length gs))) =
      sym bad ∙ (λ i. length s.ends == length target.config.ends && not (nat_lt (length target.parametrics) (pairs_long (IsGiven names w.rows later.rows) given gs are i))) in
      by_name s0 w w context m s gs (Some target) agrees here (ap as_proc meant.meant)
      (subst (λ (E : TypeEnv). SpawnIs f w w later faults (the.spawn_of E m s gs (Some target))) here
      (subst (λ (b : Bool). SpawnIs f w w later faults (if b then the.right_spawn env m s target by_cycle (the.proc_parametric_args env.known target gs) else only_faults (by_cycle ++ breaks rule.ARGUMENTS_FIT s.span ∷ []))) test
      (joins by_cycle (breaks rule.ARGUMENTS_FIT s.span ∷ []) is wrong_is, ap (instances_at names later.met) (all_dropped w.reached))));
}

-- ---- the whole spawn

pub same_ends : (s0 s1 : CodeEnv) → s1 ≡ s0 → s1 ≡ record s0 { ends = s1.ends }
same_ends s0 s1 e = e ∙ sym (ap (λ (s : CodeEnv). record s0 { ends = s.ends }) e)

-- what is made stays so where types are added
pub made_stays : {names : ItemNames} {rows longer later : List TypeRow} {made : Made} {m : the.Made} {used : List (List ℕ)} → IsPrefix rows longer → AreMadeOf names rows later made m used → AreMadeOf names longer later made m used
made_stays {names} {rows} {longer} {later} p h = record { ends = λ name. end_stays names rows longer later p _ _ (h.ends name); meant = h.meant; strings = h.strings; used = h.used }

pub spawn_walked : {f : Facts} {s0 s1 : CodeEnv} {w0 w1 w2 : WalkShown} {made next : Made} {given : List ParametricArgument} {parts unknown own mid faults : Faults} (s : Spawn)
    → WalksTo f s0 s1 w0 w1 (TypesEach IsGiven given_reached given (λ context. map (given_at context) s.arguments))
    → ((names : ItemNames) (rows later : List TypeRow) (gs : List GivenSeen) → AreGiven names rows later given gs → parts ≡ seen (faults_of_all (given_judgements gs)))
    → ((names : List (List ℕ)) → AreMeant made names → unknown ≡ seen (the.unknown_ends names s.ends)) → SpawnsNamed f s1 w1 w2 made s given own → UsesNames made next (the.ident_names s.ends)
    → Joins parts unknown mid → Joins mid own faults → StepsStatement f s0 s1 w0 w2 made next faults (config_statement.Spawn s)
spawn_walked {f} {s0} {s1} {w0} {w1} {w2} {made} {next} {given} {parts} {unknown} {own} {mid} {faults} s g parts_are unknown_is h uses join1 join2 = record {
  scope = same_ends s0 s1 g.sight;
  grows = grows_trans w0 w1 w2 g.grows h.grows;
  holds = λ plain known later has agrees there none context m so_far here made_of.
      let names = item_names f in
      let env = environment f s0 known later in
      let E = the.behind_ends context m in
      let has1 = tables_trans w1 w2 later h.grows.tables has in
      let none1 = nothing_missing w1 w2 h.grows none in
      let gs = map (given_at E) s.arguments in
      let same : environment f s1 known later ≡ env = ap (λ (s : CodeEnv). environment f s known later) g.sight in
      let t : TypesEach IsGiven given_reached given (λ context. map (given_at context) s.arguments) names w1.rows later (drop (length w0.reached) w1.reached) E =
      subst (TypesEach IsGiven given_reached given (λ context. map (given_at context) s.arguments) names w1.rows later (drop (length w0.reached) w1.reached)) here (g.holds known later has1 agrees there none1) in
      let there_too : HasRows f s1 w1 = subst (λ (s : CodeEnv). HasRows f s w1) (sym g.sight) (rows_stay f s0 w0 w1 g.grows.tables there) in
      let stays1 = made_stays g.grows.tables.rows made_of in
      let target : Found = the.spawn_of context m s gs (as_proc (item_named s.target.name context.known.whole.items)) in
      let k : SpawnIs f w1 w2 later own target =
      h.holds (ap (λ (s : CodeEnv). s.is_declaring) g.sight ∙ plain) known later has agrees there_too none context m gs (same ∙ here) stays1.ends t.parts in
      let U = the.unknown_ends m.names s.ends in
      let front : IsFound names later (drop (length w0.reached) w1.reached) parts (the.given_found gs) = record { is = parts_are names w1.rows later.rows gs t.parts; reaches = t.reaches ∙ sym (given_reach gs) } in
      let head : IsFound names later (drop (length w0.reached) w1.reached) mid (and_found (the.given_found gs) (only_faults U)) = only_found U front (unknown_is m.names made_of.meant) join1 in
      let rest : IsFound names later (drop (length w1.reached) w2.reached) own target = record { is = k.0; reaches = k.1 } in
      let by_given : List GivenSeen → Found = λ l. and_found (the.given_found l) (and_found (only_faults U) (the.spawn_of context m s l (as_proc (item_named s.target.name context.known.whole.items)))) in
      let all : IsFound names later (drop (length w0.reached) w2.reached) faults (the.spawn_found context m s) =
      found_as (found_joins (the.given_found gs) (only_faults U) target ∙ ap by_given (sym (args_are E s.arguments)))
      (both_found (behind_both w0.reached w1.reached w2.reached g.grows.reached h.grows.reached) head rest join2) in
      let stays2 = made_stays h.grows.tables.rows stays1 in
      record {
        is = all.is;
        reaches = all.reaches;
        scope = same ∙ here;
        made = record {
          ends = subst (λ (k : Made). MeansEnds names w2.rows later.rows k m) (sym uses.rest) stays2.ends;
          meant = subst (λ (k : Made). AreMeant k m.names) (sym uses.rest) made_of.meant;
          strings = subst (λ (k : Made). AreStrings k m.strings) (sym uses.rest) made_of.strings;
          used = uses.used so_far made_of.used;
        };
      };
}

-- by slices of what is written and of what was given
pub spawn_sliced : {f : Facts} {s0 s1 : CodeEnv} {w0 w1 w2 : WalkShown} {made next : Made} {given : List ParametricArgument} {parts unknown own mid faults : Faults} (s : Spawn) (args : List Arg) (slice all : List ParametricArgument)
    (idents : List Ident) → args ≡ s.arguments → slice ≡ given → all ≡ given → idents ≡ s.ends
    → WalksTo f s0 s1 w0 w1 (TypesEach IsGiven given_reached given (λ context. map (given_at context) args))
    → ((names : ItemNames) (rows later : List TypeRow) (gs : List GivenSeen) → AreGiven names rows later all gs → parts ≡ seen (faults_of_all (given_judgements gs)))
    → ((names : List (List ℕ)) → AreMeant made names → unknown ≡ seen (the.unknown_ends names idents)) → SpawnsNamed f s1 w1 w2 made s slice own → UsesNames made next (the.ident_names idents)
    → Joins parts unknown mid → Joins mid own faults → StepsStatement f s0 s1 w0 w2 made next faults (config_statement.Spawn s)
spawn_sliced {f} {s0} {s1} {w0} {w1} {w2} {made} {next} {given} {parts} {unknown} {own} {mid} {faults} s args slice all idents args_are slice_is all_is idents_are g parts_are unknown_is h uses join1 join2 =
    spawn_walked s (subst (λ (l : List Arg). WalksTo f s0 s1 w0 w1 (TypesEach IsGiven given_reached given (λ context. map (given_at context) l))) args_are g)
    (λ names rows later gs are. parts_are names rows later gs (subst (λ (l : List ParametricArgument). AreGiven names rows later l gs) (sym all_is) are))
    (λ names meant. unknown_is names meant ∙ ap (λ l. seen (the.unknown_ends names l)) idents_are) (subst (λ (l : List ParametricArgument). SpawnsNamed f s1 w1 w2 made s l own) slice_is h)
    (subst (λ (l : List Ident). UsesNames made next (the.ident_names l)) idents_are uses) join1 join2
