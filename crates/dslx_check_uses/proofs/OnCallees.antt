-- Calls of functions by what is found of their parametrics.
use Rattle.std.proofs.Common.{◌≡◌, ◌∙◌, ◌≤◌, ◌++◌, ◌∷◌, ◌==◌, ◌&&◌, ◌||◌, [], ℕ, Bool, true, false, not, is_some, List, Option, Some, None, drop, length, ltb-false, map, nat_lt, slice_get, refl, sym, ap, subst, append_assoc, if◌then◌else◌}
use mathlib.Core.Bool.{true≢false}
use Rattle.std.specs.List.{AllByRecursion}
use Rattle.std.proofs.lemmas.Bool.{not-true}
use Rattle.std.proofs.lemmas.List.{append-nil, map-append}
use Rattle.std.proofs.lemmas.List.Folds.{list_any-append}
use Rattle.base.specs.Lists.Prefix.{IsPrefix}
use Rattle.base.proofs.Lemmas.Lists.Prefixes.{IsPrefix-append, IsPrefix-refl, IsPrefix-trans}
use Rattle.xb_span.specs.declared.fault.Fault.{Fault}
use Rattle.xb_span.specs.declared.span.Span.{Span}
use Rattle.dslx_tree.specs.declared.ident.Ident.{Ident}
use Rattle.dslx_tree.specs.declared.item.Definition.TheVariants as d
use Rattle.dslx_tree.specs.declared.item.Field.{Field}
use Rattle.dslx_tree.specs.declared.item.Function.{Function}
use Rattle.dslx_tree.specs.declared.item.Parametric.{Parametric}
use Rattle.dslx_meaning.specs.Inference.{Inferred as InferredNumber}
use Rattle.dslx_meaning.specs.Items.{as_function, item_named}
use Rattle.dslx_meaning.specs.Lists.{all_some, and_then}
use Rattle.dslx_meaning.specs.declared.ty.DslxType.{DslxType}
use Rattle.dslx_meaning.specs.declared.value.DslxValue.{DslxValue}
use Rattle.dslx_meaning.specs.Rules.AggregateRules.{when_all}
use Rattle.dslx_meaning.specs.Rules.CallRules.{Before, JudgedThere, ParametricArgument as GivenSeen, ParametricArgsSeen, callee_size, call_parts_faults, call_parts_reached, given_judgements, inferred_by, known_before, maybe_inferred, parametric_args_seen, reached_by, wrong_call}
use Rattle.dslx_meaning.specs.Rules.ConstantRules.{untyped_typing}
use Rattle.dslx_meaning.specs.Rules.ModuleRules.{no_signature}
use Rattle.dslx_meaning.specs.Rules.RuleNumbers as rule
use Rattle.dslx_meaning.specs.Rules.TypeEnvs.{GlobalEnv, Instance, Judgement, Signature, breaks_if, faults_of_all, has_broken, is_rule, one_and, plus_size, settled, size_of_all, types_of}
use Rattle.dslx_check_rules.specs.declared.faults.Faults.{Faults}
use Rattle.dslx_check_rules.specs.declared.table.row.TypeId.{TypeId}
use Rattle.dslx_check_rules.specs.declared.table.row.TypeRow.{TypeRow}
use Rattle.dslx_check_rules.specs.declared.typing.Typing.{Typing}
use Rattle.dslx_check_rules.specs.Seen.{capped, seen}
use Rattle.dslx_check_rules.specs.Interned.{HasRowIf, ItemNames, type_if}
use Rattle.dslx_check_facts.specs.declared.facts.Facts.{Facts}
use Rattle.dslx_check_facts.specs.declared.facts.SignatureThere.{SignatureThere}
use Rattle.dslx_check_facts.specs.declared.type_env.TypeEnv.{TypeEnv as CodeEnv}
use Rattle.dslx_check_facts.specs.Firsts.{IsMeant, meant_by}
use Rattle.dslx_check_facts.specs.Judged.{environment}
use Rattle.dslx_check_facts.specs.Keys.{list_or_none, values_or_none}
use Rattle.dslx_check_facts.specs.Known.{FactsHold, Has, HasKnownRows, is_cyclic, item_names}
use Rattle.dslx_check_facts.specs.Names.{name_or}
use Rattle.dslx_check_facts.specs.TypeEnvs.{known_to}
use Rattle.dslx_check_facts.specs.Typings.{IsSignature}
use Rattle.dslx_check_facts.specs.Walks.{WalkShown, WalkGrows, HasTables, OnlyMisses, instance_at, instance_of, instances_at}
use Rattle.dslx_check_facts.proofs.Lemmas.Items.{cyclic_is, means}
use Rattle.dslx_check_facts.proofs.Lemmas.Judged.{known_rows_stay, row_stays_if}
use Rattle.dslx_check_facts.proofs.Lemmas.Walks.{grows_refl, grows_trans, instance_is, misses_grows, nothing_missing, tables_trans}
use Rattle.dslx_check_rules.specs.declared.nodes.parts.Spanned.{Spanned}
use Rattle.dslx_check_rules.specs.Nodes.Parts.{ArePlaced, IsPart, IsPlaced, Pairs, Placed, judgements}
use Rattle.dslx_check_rules.proofs.Lemmas.Nodes.Lists.{pairs_long}
use Rattle.dslx_check_rules.specs.declared.control.calls.CalleeParts.{CalleeParts}
use Rattle.dslx_check_rules.specs.declared.control.calls.ParametricArgument.{ParametricArgument}
use Rattle.dslx_check_rules.specs.Control.Calls.{AreGiven, CalleeSeen, FromCall, IsCallee, IsGiven, IsTypeIf, misfits, right_call_of, undeclared_call_of}
use Rattle.dslx_check_rules.proofs.Lemmas.Control.Grouped.{broken_alike}
use Rattle.dslx_check_uses.specs.declared.parametrics.CalledItem.{CalledItem}
use Rattle.dslx_check_uses.specs.declared.parametrics.ParametricArgs.{ParametricArgs}
use Rattle.dslx_check_uses.specs.Arguments.{AreArgs, ArgsFrom, Sees}
use Rattle.dslx_check_uses.specs.Inner.Calls.{ArePartsOf, CallArgs, ReachesCallee, ReachesOne, RightFrom, SignatureFrom, args_of_call, arguments_of, reached_there, result_of, size_there}
use Rattle.dslx_check_uses.specs.Called.{CallFrom, call_by_parts, call_if, right_call_by}

-- ---- rules that are broken

broken_front : (xs ys : List Fault) → has_broken xs ≡ true → has_broken (xs ++ ys) ≡ true
broken_front xs ys e = list_any-append is_rule xs ys ∙ ap (λ b. b || has_broken ys) e

or_true : (b : Bool) → (b || true) ≡ true
or_true true = refl
or_true false = refl

broken_back : (xs ys : List Fault) → has_broken ys ≡ true → has_broken (xs ++ ys) ≡ true
broken_back xs ys e = list_any-append is_rule xs ys ∙ ap (λ b. has_broken xs || b) e ∙ or_true (has_broken xs)

-- ---- a call from what is known of the callee

abbrev pub callee_as : GlobalEnv → List ℕ → Bool → ParametricArgsSeen → CalleeSeen
callee_as known owner cyclic x = record {
  is_cyclic = cyclic;
  is_wrong = x.is_wrong;
  parametrics = x.faults;
  declared = if cyclic then [] else x.declared.faults;
  arguments = if x.is_wrong then [] else (known.signature_in owner x.bound.values).arguments;
  result = if x.is_wrong then None else and_then x.values (λ vs. (known.signature_in owner x.bound.values).result);
  size = size_there cyclic known owner x;
}

none_after : (o : Option (List DslxType)) (t : Option DslxType) → t ≡ None → and_then o (λ ts. t) ≡ None
none_after None t e = refl
none_after (Some us) t e = e

when_nothing : (ts : List (Option DslxType)) → when_all ts None ≡ None
when_nothing ts = none_after (all_some ts) None refl

when_swap : (ts : List (Option DslxType)) (vs : Option (List DslxValue)) (t : Option DslxType) → when_all ts (and_then vs (λ v. t)) ≡ and_then vs (λ v. when_all ts t)
when_swap ts None t = when_nothing ts
when_swap ts (Some v) t = refl

pub right_is : (span : Span) (known : GlobalEnv) (f : Function) (gs : List GivenSeen) (xs : List Placed) (cyclic : Bool) (x : ParametricArgsSeen)
    → right_call_of span (faults_of_all (given_judgements gs)) (right_call_by span known f gs xs (breaks_if cyclic rule.NO_ITEM_REACHES_ITSELF span) x).reached (callee_as known f.name.name cyclic x) xs
    ≡ right_call_by span known f gs xs (breaks_if cyclic rule.NO_ITEM_REACHES_ITSELF span) x
right_is span known f gs xs cyclic x = by cyclic x.is_wrong x.values x.bound x.faults x.declared
  where
    js : List Judgement
    js = judgements xs

    parts : List Fault
    parts = faults_of_all (given_judgements gs) ++ faults_of_all js

    refused : List Fault
    refused = breaks_if true rule.NO_ITEM_REACHES_ITSELF span

    wrong : List Fault
    wrong = breaks_if true rule.ARGUMENTS_FIT span

    by : (c w : Bool) (values : Option (List DslxValue)) (bound : Before) (faults : List Fault) (declared : JudgedThere)
        → right_call_of span (faults_of_all (given_judgements gs))
        (right_call_by span known f gs xs (breaks_if c rule.NO_ITEM_REACHES_ITSELF span) (record { values = values; bound = bound; is_wrong = w; faults = faults; declared = declared })).reached
        (callee_as known f.name.name c (record { values = values; bound = bound; is_wrong = w; faults = faults; declared = declared })) xs
        ≡ right_call_by span known f gs xs (breaks_if c rule.NO_ITEM_REACHES_ITSELF span) (record { values = values; bound = bound; is_wrong = w; faults = faults; declared = declared })
    by false false values bound faults declared =
        let s : Signature = known.signature_in f.name.name bound.values in
        ap (λ t. settled span t (parts ++ [] ++ faults ++ declared.faults ++ [] ++ misfits s.arguments xs)
        (call_parts_reached gs js ++ declared.reached ++ reached_by false f.name.name values)
        (one_and (plus_size (size_of_all js) (callee_size known f.name.name values)))) (when_swap (types_of js) values s.result)
    by false true values bound faults declared =
        broken_alike span _ _ (parts ++ [] ++ faults ++ [] ++ wrong ++ []) _ _ _
        (broken_front (parts ++ [] ++ faults ++ [] ++ wrong) [] (broken_back (parts ++ [] ++ faults ++ []) wrong refl))
    by true true values bound faults declared =
        broken_alike span _ _ (parts ++ refused ++ faults ++ [] ++ wrong ++ []) _ _ _
        (broken_front (parts ++ refused ++ faults ++ [] ++ wrong) [] (broken_back (parts ++ refused ++ faults ++ []) wrong refl))
    by true false values bound faults declared =
        let s : Signature = known.signature_in f.name.name bound.values in
        broken_alike span _ _ (parts ++ refused ++ faults ++ [] ++ [] ++ misfits s.arguments xs) _ _ _
        (broken_front (parts ++ refused ++ faults ++ [] ++ []) (misfits s.arguments xs) (broken_front (parts ++ refused ++ faults ++ []) [] (broken_front (parts ++ refused ++ faults) []
        (broken_front (parts ++ refused) faults (broken_back parts refused refl)))))

-- what it reaches itself comes behind what its parts reach
pub reached_is : (span : Span) (known : GlobalEnv) (f : Function) (gs : List GivenSeen) (xs : List Placed) (cyclic : Bool) (x : ParametricArgsSeen)
    → call_parts_reached gs (judgements xs) ++ reached_there cyclic f.name.name x ≡ (right_call_by span known f gs xs (breaks_if cyclic rule.NO_ITEM_REACHES_ITSELF span) x).reached
reached_is span known f gs xs cyclic x = by cyclic x.is_wrong x.values x.bound x.faults x.declared
  where
    all : List Instance
    all = call_parts_reached gs (judgements xs)

    by : (c w : Bool) (values : Option (List DslxValue)) (bound : Before) (faults : List Fault) (declared : JudgedThere)
        → all ++ reached_there c f.name.name (record { values = values; bound = bound; is_wrong = w; faults = faults; declared = declared })
        ≡ (right_call_by span known f gs xs (breaks_if c rule.NO_ITEM_REACHES_ITSELF span) (record { values = values; bound = bound; is_wrong = w; faults = faults; declared = declared })).reached
    by true true values bound faults declared = sym (append-nil (all ++ []))
    by true false values bound faults declared = sym (append-nil (all ++ []))
    by false true values bound faults declared = sym (append-nil (all ++ []))
    by false false values bound faults declared = sym (append_assoc all declared.reached (reached_by false f.name.name values))

-- ---- parts stay

pairs_stay : {A B : Type 0} (R Q : A → B → Type 0) (as' : List A) (bs : List B) → ((a : A) (b : B) → R a b → Q a b) → Pairs R as' bs → Pairs Q as' bs
pairs_stay R Q [] [] weaker h = h
pairs_stay R Q [] (b ∷ bs) weaker h = absurd h
pairs_stay R Q (a ∷ as') [] weaker h = absurd h
pairs_stay R Q (a ∷ as') (b ∷ bs) weaker h = (weaker a b h.0, pairs_stay R Q as' bs weaker h.1)

placed_stay : (names : ItemNames) (rows longer later : List TypeRow) (operands : List Spanned) (xs : List Placed) → IsPrefix rows longer → ArePlaced names rows later operands xs → ArePlaced names longer later operands xs
placed_stay names rows longer later operands xs p h = pairs_stay (IsPlaced names rows later) (IsPlaced names longer later) operands xs (λ a b is. record {
  span = is.span;
  part = record { row = row_stays_if rows longer a.typing.ty p is.part.row; ty = is.part.ty; faults = is.part.faults; size = is.part.size };
}) h

-- ---- what is reached

front_and_rest : {A : Type 0} (ys zs : List A) → IsPrefix ys zs → zs ≡ ys ++ drop (length ys) zs
front_and_rest [] zs f = refl
front_and_rest (y ∷ ys) [] f = absurd f
front_and_rest (y ∷ ys) (z ∷ zs) f = λ i. sym f.0 i ∷ front_and_rest ys zs f.1 i

behind_both : {A : Type 0} (xs ys zs : List A) → IsPrefix xs ys → IsPrefix ys zs → drop (length xs) zs ≡ drop (length xs) ys ++ drop (length ys) zs
behind_both [] ys zs f g = front_and_rest ys zs g
behind_both (x ∷ xs) [] zs f g = absurd f
behind_both (x ∷ xs) (y ∷ ys) [] f g = absurd g
behind_both (x ∷ xs) (y ∷ ys) (z ∷ zs) f g = behind_both xs ys zs f.1 g.1

all_dropped : {A : Type 0} (xs : List A) → drop (length xs) xs ≡ []
all_dropped [] = refl
all_dropped (x ∷ xs) = all_dropped xs

dropped_front : {A : Type 0} (xs ys : List A) → drop (length xs) (xs ++ ys) ≡ ys
dropped_front [] ys = refl
dropped_front (x ∷ xs) ys = dropped_front xs ys

-- one instance more
pub one_reached : {f : Facts} {w0 w1 w2 w3 : WalkShown} {item : ℕ} {args : List DslxValue} {size : Option ℕ} (n : ℕ) → IsPrefix w0.met w1.met → slice_get w1.met n ≡ Some (record { item = item; parametric_args = args })
    → w1 ≡ record w0 { met = w1.met } → w2 ≡ record w1 { reached = w1.reached ++ n ∷ [] } → OnlyMisses w2 w3
    → ((known : GlobalEnv) (later : WalkShown) → FactsHold f later known → w3.missing ≡ [] → size ≡ capped (known.body_size (instance_at (item_names f) later.met n)))
    → ReachesOne f w0 w3 (record { name = (item_names f).item item; parametric_args = args }) size
one_reached {f} {w0} {w1} {w2} {w3} {item} {args} {size} n grows at one two misses sized = record {
  grows = grows_trans w0 w1 w3 met_grows (grows_trans w1 w2 w3 reach_grows (misses_grows w2 w3 misses));
  says = λ known later has holds missing.
      let met : IsPrefix w1.met later.met = IsPrefix-trans w1.met w3.met later.met (subst (IsPrefix w1.met) (sym (misses.met ∙ ap (λ (w : WalkShown). w.met) two)) (IsPrefix-refl w1.met)) has.met in
      let is : instance_at (item_names f) later.met n ≡ instance_of (item_names f) (record { item = item; parametric_args = args }) = instance_is (item_names f) w1.met later.met n (record { item = item; parametric_args = args }) met at in
      let all : w3.reached ≡ w0.reached ++ n ∷ [] = misses.reached ∙ ap (λ (w : WalkShown). w.reached) two ∙ ap (λ (w : WalkShown). w.reached ++ n ∷ []) one in (
        ap (λ l. instances_at (item_names f) later.met (drop (length w0.reached) l)) all ∙ ap (instances_at (item_names f) later.met) (dropped_front w0.reached (n ∷ [])) ∙ ap (λ i. i ∷ []) is,
        sized known later holds missing ∙ ap (λ i. capped (known.body_size i)) is,
      );
}
  where
    met_grows : WalkGrows w0 w1
    met_grows = subst (WalkGrows w0) (sym one) (record {
      tables = record { rows = IsPrefix-refl w0.rows; met = grows; prefixes = IsPrefix-refl w0.prefixes; asked = IsPrefix-refl w0.asked };
      items = λ k r at h. at;
      reached = IsPrefix-refl w0.reached;
      missing = IsPrefix-refl w0.missing;
    })

    reach_grows : WalkGrows w1 w2
    reach_grows = subst (WalkGrows w1) (sym two) (record {
      tables = record { rows = IsPrefix-refl w1.rows; met = IsPrefix-refl w1.met; prefixes = IsPrefix-refl w1.prefixes; asked = IsPrefix-refl w1.asked };
      items = λ k r at h. at;
      reached = IsPrefix-append w1.reached (n ∷ []);
      missing = IsPrefix-refl w1.missing;
    })

-- a call that is refused reaches nothing
pub none_cyclic : {f : Facts} {callee : CalledItem} {w : WalkShown} {args : ParametricArgs} → callee.is_cyclic ≡ true → ReachesCallee f callee w w args None
none_cyclic {f} {callee} {w} {args} cyclic = record {
  grows = grows_refl w;
  says = λ known seen_as later has holds sees missing x are.
      let owner = (item_names f).item callee.item in
      (ap (instances_at (item_names f) later.met) (all_dropped w.reached) ∙ ap (λ b. reached_there b owner x) (sym cyclic), ap (λ b. capped (size_there b seen_as owner x)) (sym cyclic));
}

pub none_wrong : {f : Facts} {callee : CalledItem} {w : WalkShown} {args : ParametricArgs} → callee.is_cyclic ≡ false → args.is_wrong ≡ true → ReachesCallee f callee w w args None
none_wrong {f} {callee} {w} {args} acyclic wrong = record {
  grows = grows_refl w;
  says = λ known seen_as later has holds sees missing x are.
      let owner = (item_names f).item callee.item in
      let is : x.is_wrong ≡ true = sym are.wrong ∙ wrong in (
        ap (instances_at (item_names f) later.met) (all_dropped w.reached) ∙ ap (λ b. if b then [] else x.declared.reached ++ reached_by false owner x.values) (sym is) ∙ ap (λ b. reached_there b owner x) (sym acyclic),
        ap (λ b. capped (if b then None else callee_size seen_as owner x.values)) (sym is) ∙ ap (λ b. capped (size_there b seen_as owner x)) (sym acyclic),
      );
}

reach_grows : (w0 w1 : WalkShown) (more : List ℕ) → w1 ≡ record w0 { reached = w0.reached ++ more } → WalkGrows w0 w1
reach_grows w0 w1 more e = subst (WalkGrows w0) (sym e) (record {
  tables = record { rows = IsPrefix-refl w0.rows; met = IsPrefix-refl w0.met; prefixes = IsPrefix-refl w0.prefixes; asked = IsPrefix-refl w0.asked };
  items = λ k r at h. at;
  reached = IsPrefix-append w0.reached more;
  missing = IsPrefix-refl w0.missing;
})

-- without all values it reaches what its parametrics do
pub none_known : {f : Facts} {callee : CalledItem} {w0 w1 : WalkShown} {args : ParametricArgs} → callee.is_cyclic ≡ false → args.is_wrong ≡ false → w1 ≡ record w0 { reached = w0.reached ++ args.reached.items }
    → None ≡ (if args.are_known then all_some args.values.items else None) → ReachesCallee f callee w0 w1 args None
none_known {f} {callee} {w0} {w1} {args} acyclic right e none = record {
  grows = reach_grows w0 w1 args.reached.items e;
  says = λ known seen_as later has holds sees missing x are.
      let names = item_names f in
      let owner = names.item callee.item in
      let is : x.is_wrong ≡ false = sym are.wrong ∙ right in
      let values : None ≡ x.values = none ∙ are.values in
      let more : drop (length w0.reached) w1.reached ≡ args.reached.items = ap (λ (w : WalkShown). drop (length w0.reached) w.reached) e ∙ dropped_front w0.reached args.reached.items in (
        ap (instances_at names later.met) more ∙ are.reaches acyclic ∙ sym (append-nil x.declared.reached) ∙ ap (λ vs. x.declared.reached ++ reached_by false owner vs) values
            ∙ ap (λ b. if b then [] else x.declared.reached ++ reached_by false owner x.values) (sym is) ∙ ap (λ b. reached_there b owner x) (sym acyclic),
        ap (λ vs. capped (callee_size seen_as owner vs)) values ∙ ap (λ b. capped (if b then None else callee_size seen_as owner x.values)) (sym is) ∙ ap (λ b. capped (size_there b seen_as owner x)) (sym acyclic),
      );
}

-- and the instance where there are
pub one_known : {f : Facts} {callee : CalledItem} {w0 w1 w2 : WalkShown} {args : ParametricArgs} {values : List DslxValue} {size : Option ℕ} → callee.is_cyclic ≡ false → args.is_wrong ≡ false
    → w1 ≡ record w0 { reached = w0.reached ++ args.reached.items } → Some values ≡ (if args.are_known then all_some args.values.items else None)
    → ReachesOne f w1 w2 (record { name = (item_names f).item callee.item; parametric_args = values }) size → ReachesCallee f callee w0 w2 args size
one_known {f} {callee} {w0} {w1} {w2} {args} {values} {size} acyclic right e all one = record {
  grows = grows_trans w0 w1 w2 front one.grows;
  says = λ known seen_as later has holds sees missing x are.
      let names = item_names f in
      let met = later.met in
      let owner = names.item callee.item in
      let instance : Instance = record { name = owner; parametric_args = values } in
      let is : x.is_wrong ≡ false = sym are.wrong ∙ right in
      let there : Some values ≡ x.values = all ∙ are.values in
      let last = one.says known later has holds missing in
      let more : drop (length w0.reached) w1.reached ≡ args.reached.items = ap (λ (w : WalkShown). drop (length w0.reached) w.reached) e ∙ dropped_front w0.reached args.reached.items in
      let both : drop (length w0.reached) w2.reached ≡ drop (length w0.reached) w1.reached ++ drop (length w1.reached) w2.reached = behind_both w0.reached w1.reached w2.reached front.reached one.grows.reached in (
        ap (instances_at names met) both ∙ map-append (instance_at names met) (drop (length w0.reached) w1.reached) (drop (length w1.reached) w2.reached)
            ∙ (λ i. (ap (instances_at names met) more ∙ are.reaches acyclic) i ++ last.0 i) ∙ ap (λ vs. x.declared.reached ++ reached_by false owner vs) there
            ∙ ap (λ b. if b then [] else x.declared.reached ++ reached_by false owner x.values) (sym is) ∙ ap (λ b. reached_there b owner x) (sym acyclic),
        last.1 ∙ ap capped (sym (sees.size instance)) ∙ ap (λ vs. capped (callee_size seen_as owner vs)) there
            ∙ ap (λ b. capped (if b then None else callee_size seen_as owner x.values)) (sym is) ∙ ap (λ b. capped (size_there b seen_as owner x)) (sym acyclic),
      );
}
  where
    front : WalkGrows w0 w1
    front = reach_grows w0 w1 args.reached.items e

-- ---- signatures

types_paired : (names : ItemNames) (rows later : List TypeRow) (ids : List (Option TypeId)) (ts : List (Option DslxType)) → AllByRecursion (HasRowIf rows) ids → map (type_if names later) ids ≡ ts → Pairs (IsTypeIf names rows later) ids ts
types_paired names rows later ids ts there e = subst (Pairs (IsTypeIf names rows later) ids) e (by ids there)
  where
    by : (ids : List (Option TypeId)) → AllByRecursion (HasRowIf rows) ids → Pairs (IsTypeIf names rows later) ids (map (type_if names later) ids)
    by [] h = tt
    by (t ∷ ids) h = (record { row = h.0; same = refl }, by ids h.1)

-- nothing is seen of a declaration that is hidden
pub hidden_signature : {f : Facts} {callee : CalledItem} {w : WalkShown} {args : ParametricArgs} → callee.is_hidden ≡ true → SignatureFrom f callee w w args None
hidden_signature {f} {callee} {w} {args} hidden = record {
  grows = grows_refl w;
  reached = refl;
  refused = λ wrong. refl;
  says = λ known seen_as later has holds sees rows missing x are right.
      let names = item_names f in
      let none : no_signature ≡ seen_as.signature_in (names.item callee.item) x.bound.values =
      ap (λ b. if b then no_signature else known.signature_in (names.item callee.item) x.bound.values) (sym hidden) ∙ sym (sees.signature x.bound.values) in
      subst (λ (s : Signature). Pairs (IsTypeIf names w.rows later.rows) [] s.arguments × IsTypeIf names w.rows later.rows None s.result) none (tt, record { row = tt; same = refl });
}

pub wrong_signature : {f : Facts} {callee : CalledItem} {w : WalkShown} {args : ParametricArgs} → args.is_wrong ≡ true → SignatureFrom f callee w w args None
wrong_signature {f} {callee} {w} {args} wrong = record {
  grows = grows_refl w;
  reached = refl;
  refused = λ w. refl;
  says = λ known seen_as later has holds sees rows missing x are right. absurd (true≢false (sym wrong ∙ are.wrong ∙ right));
}

pub cut_signature : {f : Facts} {callee : CalledItem} {w : WalkShown} {args : ParametricArgs} → args.is_whole ≡ false → SignatureFrom f callee w w args None
cut_signature {f} {callee} {w} {args} cut = record {
  grows = grows_refl w;
  reached = refl;
  refused = λ wrong. refl;
  says = λ known seen_as later has holds sees rows missing x are right. absurd (true≢false (sym are.whole ∙ cut));
}

signature_by : (names : ItemNames) (later : WalkShown) (rows : List TypeRow) (signature : Option SignatureThere) (s : Signature) → Has signature (λ t. IsSignature names later t s)
    → Has signature (λ t. AllByRecursion (HasRowIf rows) t.arguments.items × HasRowIf rows t.result)
    → Pairs (IsTypeIf names rows later.rows) (arguments_of signature) s.arguments × IsTypeIf names rows later.rows (result_of signature) s.result
signature_by names later rows None s is there = absurd is
signature_by names later rows (Some t) s is there = (types_paired names rows later.rows t.arguments.items s.arguments there.0 is.arguments, record { row = there.1; same = is.result })

pub signature_there : {f : Facts} {callee : CalledItem} {w0 w1 : WalkShown} {args : ParametricArgs} {signature : Option SignatureThere} → callee.is_hidden ≡ false → args.is_wrong ≡ false → WalkGrows w0 w1 → w1.reached ≡ w0.reached
    → ((rows : List TypeRow) → HasKnownRows rows f → w1.missing ≡ [] → Has signature (λ s. AllByRecursion (HasRowIf rows) s.arguments.items × HasRowIf rows s.result))
    → ((known : GlobalEnv) (later : WalkShown) → HasTables w1 later → FactsHold f later known → w1.missing ≡ []
    → Has signature (λ s. IsSignature (item_names f) later s (known.signature_in ((item_names f).item callee.item) (list_or_none later.prefixes args.prefix))))
    → SignatureFrom f callee w0 w1 args signature
signature_there {f} {callee} {w0} {w1} {args} {signature} shown right grows reached there is = record {
  grows = grows;
  reached = reached;
  refused = λ wrong. absurd (true≢false (sym wrong ∙ right));
  says = λ known seen_as later has holds sees rows missing x are acyclic.
      let names = item_names f in
      let owner = names.item callee.item in
      let before : list_or_none later.prefixes args.prefix ≡ x.bound.values = ap values_or_none are.at in
      let own : known.signature_in owner x.bound.values ≡ seen_as.signature_in owner x.bound.values =
      ap (λ b. if b then no_signature else known.signature_in owner x.bound.values) (sym shown) ∙ sym (sees.signature x.bound.values) in
      signature_by names later w1.rows signature (seen_as.signature_in owner x.bound.values)
      (subst (λ (s : Signature). Has signature (λ t. IsSignature names later t s)) (ap (known.signature_in owner) before ∙ own) (is known later has holds missing))
      (there w1.rows (known_rows_stay w0.rows w1.rows f grows.tables.rows rows) missing);
}

-- ---- the parametrics of a call

pub right_count : (b : Bool) (k l : ℕ) → (b && not (nat_lt k l)) ≡ true → l ≤ k
right_count true k l e = ltb-false k l (not-true (nat_lt k l) e)
right_count false k l e = absurd (true≢false (sym e))

types_are : (names : ItemNames) (rows later : List TypeRow) (operands : List Spanned) (xs : List Placed) → ArePlaced names rows later operands xs
    → map (type_if names later) (map (λ (o : Spanned). o.typing.ty) operands) ≡ types_of (judgements xs)
types_are names rows later [] [] h = refl
types_are names rows later [] (x ∷ xs) h = absurd h
types_are names rows later (o ∷ operands) [] h = absurd h
types_are names rows later (o ∷ operands) (x ∷ xs) h = λ i. h.0.part.ty i ∷ types_are names rows later operands xs h.1 i

pub call_args_from : {f : Facts} {callee : CalledItem} {w0 w1 : WalkShown} {args : ParametricArgs} {numbers : List InferredNumber} {maybe : List (List ℕ)} (function : Function) (given : List ParametricArgument) (operands : List Spanned)
    (arguments : List Field) (parametrics : List Parametric) (types : List (Option TypeId)) → arguments ≡ function.arguments → parametrics ≡ function.parametrics → types ≡ map (λ (o : Spanned). o.typing.ty) operands
    → ((names : ItemNames) (later : List TypeRow) → IsPrefix w0.rows later → numbers ≡ inferred_by arguments (map (type_if names later) types))
    → ((names : ItemNames) (later : List TypeRow) → maybe ≡ maybe_inferred arguments (map (type_if names later) types))
    → ArgsFrom f callee w0 w1 parametrics given numbers maybe args → CallArgs f callee w0 w1 function given operands args
call_args_from {f} {callee} {w0} {w1} {args} {numbers} {maybe} function given operands arguments parametrics types a p t n m from = record {
  grows = from.grows;
  reached = from.reached;
  says = λ known seen_as later has holds sees rows missing gs xs are placed count.
      let names = item_names f in
      let longer : IsPrefix w0.rows later.rows = IsPrefix-trans w0.rows w1.rows later.rows from.grows.tables.rows has.rows in
      let ts : map (type_if names later.rows) types ≡ types_of (judgements xs) = ap (map (type_if names later.rows)) t ∙ types_are names w0.rows later.rows operands xs placed in
      let numbers_are : numbers ≡ inferred_by function.arguments (types_of (judgements xs)) = n names later.rows longer ∙ (λ i. inferred_by (a i) (ts i)) in
      let maybe_are : maybe ≡ maybe_inferred function.arguments (types_of (judgements xs)) = m names later.rows ∙ (λ i. maybe_inferred (a i) (ts i)) in
      subst (AreArgs names later callee.is_cyclic args) (λ i. parametric_args_seen seen_as (names.item callee.item) (numbers_are i) (maybe_are i) (known_before []) (p i) gs)
      (from.says known seen_as later has holds sees rows missing gs are (subst (λ (ps : List Parametric). length given ≤ length ps) (sym p) count));
}

-- ---- a call from all of this

result_there : (names : ItemNames) (rows later : List TypeRow) (b : Bool) (vs : Option (List DslxValue)) (ty : Option TypeId) (t : Option DslxType) → b ≡ is_some vs → IsTypeIf names rows later ty t
    → IsTypeIf names rows later (if b then ty else None) (and_then vs (λ v. t))
result_there names rows later b None ty t e is = subst (λ k. IsTypeIf names rows later (if k then ty else None) None) (sym e) (record { row = tt; same = refl })
result_there names rows later b (Some v) ty t e is = subst (λ k. IsTypeIf names rows later (if k then ty else None) t) (sym e) is

-- the signature where rule 10 isn't broken, none where it is
fitting : (names : ItemNames) (rows later : List TypeRow) (w : Bool) (signature : Option SignatureThere) (s : Signature) → (w ≡ true → signature ≡ None)
    → (w ≡ false → Pairs (IsTypeIf names rows later) (arguments_of signature) s.arguments × IsTypeIf names rows later (result_of signature) s.result)
    → Pairs (IsTypeIf names rows later) (arguments_of signature) (if w then [] else s.arguments) × IsTypeIf names rows later (result_of signature) (if w then None else s.result)
fitting names rows later true signature s none there =
    subst (λ (o : Option SignatureThere). Pairs (IsTypeIf names rows later) (arguments_of o) [] × IsTypeIf names rows later (result_of o) None) (sym (none refl)) (tt, record { row = tt; same = refl })
fitting names rows later false signature s none there = there refl

moved_if : (w : Bool) (vs : Option (List DslxValue)) (t : Option DslxType) → and_then vs (λ v. if w then None else t) ≡ (if w then None else and_then vs (λ v. t))
moved_if true None t = refl
moved_if true (Some v) t = refl
moved_if false vs t = refl

declared_by : (cyclic : Bool) (declared : Faults) (fs : List Fault) → (cyclic ≡ false → declared ≡ seen fs) → (if cyclic then seen [] else declared) ≡ seen (if cyclic then [] else fs)
declared_by true declared fs e = refl
declared_by false declared fs e = e refl

callee_is : (names : ItemNames) (rows : List TypeRow) (later : WalkShown) (known : GlobalEnv) (owner : List ℕ) (callee : CalledItem) (args : ParametricArgs) (signature : Option SignatureThere) (size : Option ℕ) (parts : CalleeParts)
    (x : ParametricArgsSeen) → AreArgs names later callee.is_cyclic args x → ArePartsOf callee args signature size parts → (args.is_wrong ≡ true → signature ≡ None)
    → (x.is_wrong ≡ false → Pairs (IsTypeIf names rows later.rows) (arguments_of signature) (known.signature_in owner x.bound.values).arguments
    × IsTypeIf names rows later.rows (result_of signature) (known.signature_in owner x.bound.values).result)
    → size ≡ capped (size_there callee.is_cyclic known owner x) → IsCallee names rows later.rows parts (callee_as known owner callee.is_cyclic x)
callee_is names rows later known owner callee args signature size parts x are of none there sized =
    let s : Signature = known.signature_in owner x.bound.values in
    let fits = fitting names rows later.rows x.is_wrong signature s (λ w. none (are.wrong ∙ w)) there in
    let result = result_there names rows later.rows args.are_known x.values (result_of signature) (if x.is_wrong then None else s.result) are.all_known fits.1 in
    record {
      cyclic = of.cyclic;
      wrong = of.wrong ∙ are.wrong;
      parametrics = of.parametrics ∙ are.faults;
      declared = of.declared ∙ declared_by callee.is_cyclic args.declared x.declared.faults are.declared;
      arguments = subst (λ l. Pairs (IsTypeIf names rows later.rows) l (if x.is_wrong then [] else s.arguments)) (sym of.arguments) fits.0;
      row = subst (HasRowIf rows) (sym of.result) result.row;
      result = ap (type_if names later.rows) of.result ∙ result.same ∙ moved_if x.is_wrong x.values s.result;
      size = of.body_size ∙ sized;
    }

pub right_from : {f : Facts} {callee : CalledItem} {w0 w1 w2 w3 : WalkShown} {span : Span} {function : Function} {given : List ParametricArgument} {operands : List Spanned} {args : ParametricArgs} {size : Option ℕ} {signature : Option SignatureThere}
    {parts : CalleeParts} {faults : Faults} {j : Typing} → CallArgs f callee w0 w1 function given operands args → ReachesCallee f callee w1 w2 args size → SignatureFrom f callee w2 w3 args signature → ArePartsOf callee args signature size parts
    → ((names : ItemNames) (rows later : List TypeRow) (gs : List GivenSeen) → AreGiven names rows later given gs → faults ≡ seen (faults_of_all (given_judgements gs))) → FromCall span w3.rows faults parts operands j
    → RightFrom f callee w0 w3 span function given operands j
right_from {f} {callee} {w0} {w1} {w2} {w3} {span} {function} {given} {operands} {args} {size} {signature} {parts} {faults} {j} found reach sign of faulty typed = record {
  grows = grows_trans w0 w1 w3 found.grows (grows_trans w1 w2 w3 reach.grows sign.grows);
  says = λ known seen_as later has holds sees rows missing owner count gs xs are placed.
      let names = item_names f in
      let item = names.item callee.item in
      let two : HasTables w2 later = tables_trans w2 w3 later sign.grows.tables has in
      let one : HasTables w1 later = tables_trans w1 w2 later reach.grows.tables two in
      let missing_two : w2.missing ≡ [] = nothing_missing w2 w3 sign.grows missing in
      let missing_one : w1.missing ≡ [] = nothing_missing w1 w2 reach.grows missing_two in
      let x : ParametricArgsSeen = args_of_call seen_as function.name.name function gs xs in
      let shown : AreArgs names later callee.is_cyclic args x =
      subst (λ o. AreArgs names later callee.is_cyclic args (args_of_call seen_as o function gs xs)) owner (found.says known seen_as later one holds sees rows missing_one gs xs are placed count) in
      let there = reach.says known seen_as later two holds sees missing_two x shown in
      let front : WalkGrows w0 w2 = grows_trans w0 w1 w2 found.grows reach.grows in
      let rows_two : HasKnownRows w2.rows f = known_rows_stay w0.rows w2.rows f front.tables.rows rows in
      let fits = λ (right : x.is_wrong ≡ false). subst (λ o. Pairs (IsTypeIf names w3.rows later.rows) (arguments_of signature) (seen_as.signature_in o x.bound.values).arguments
      × IsTypeIf names w3.rows later.rows (result_of signature) (seen_as.signature_in o x.bound.values).result) owner (sign.says known seen_as later has holds sees rows_two missing x shown right) in
      let size_is : size ≡ capped (size_there callee.is_cyclic seen_as function.name.name x) = there.1 ∙ ap (λ o. capped (size_there callee.is_cyclic seen_as o x)) owner in
      let is : IsCallee names w3.rows later.rows parts (callee_as seen_as function.name.name callee.is_cyclic x) =
      callee_is names w3.rows later seen_as function.name.name callee args signature size parts x shown of sign.refused fits size_is in
      let call = right_call_by span seen_as function gs xs (breaks_if callee.is_cyclic rule.NO_ITEM_REACHES_ITSELF span) x in
      let operands_are : ArePlaced names w3.rows later.rows operands xs = placed_stay names w0.rows w3.rows later.rows operands xs (IsPrefix-trans w0.rows w2.rows w3.rows front.tables.rows sign.grows.tables.rows) placed in
      let reached : drop (length w0.reached) w3.reached ≡ drop (length w1.reached) w2.reached = λ i. drop (length (sym found.reached i)) (sign.reached i) in (
        subst (IsPart names w3.rows later.rows j) (right_is span seen_as function gs xs callee.is_cyclic x)
            (typed.typed names later.rows holds.distinct has.rows (faults_of_all (given_judgements gs)) call.reached (callee_as seen_as function.name.name callee.is_cyclic x) xs
            (faulty names w0.rows later.rows gs are) is operands_are),
        ap (λ l. call_parts_reached gs (judgements xs) ++ instances_at names later.met l) reached
            ∙ ap (λ is. call_parts_reached gs (judgements xs) ++ is) (there.0 ∙ ap (λ o. reached_there callee.is_cyclic o x) owner) ∙ reached_is span seen_as function gs xs callee.is_cyclic x,
      );
}

-- ---- calls by the name

-- what a place sees of a callee
sees_there : (f : Facts) (s : CodeEnv) (later : WalkShown) (known : GlobalEnv) (callee : CalledItem) → FactsHold f later known → callee.is_cyclic ≡ is_cyclic f s.owner callee.item
    → callee.is_hidden ≡ (s.is_declaring && callee.is_cyclic) → Sees f callee known (known_to s.is_declaring ((item_names f).item s.owner) known)
sees_there f s later known callee holds cyclic hidden =
    let owner = (item_names f).item s.owner in
    let item = (item_names f).item callee.item in
    let is : (s.is_declaring && known.is_cyclic owner item) ≡ callee.is_hidden = ap (λ b. s.is_declaring && b) (holds.cyclic s.owner callee.item ∙ sym cyclic) ∙ sym hidden in
    record {
      parameter = λ before. ap (λ b. if b then untyped_typing else known.parameter_in item before) is;
      default = λ before. ap (λ b. if b then record { judgement = untyped_typing; value = None } else known.default_in item before) is;
      signature = λ before. ap (λ b. if b then no_signature else known.signature_in item before) is;
      size = λ i. refl;
    }

-- a name of no function
pub none_called : {f : Facts} {s : CodeEnv} {w : WalkShown} {given : List ParametricArgument} {operands : List Spanned} {j : Typing} (span : Span) (name : Ident) → as_function (meant_by f name.name) ≡ None
    → ((names : ItemNames) (later : List TypeRow) (gs : List GivenSeen) (xs : List Placed) → IsPrefix w.rows later → AreGiven names w.rows later given gs → ArePlaced names w.rows later operands xs
    → IsPart names w.rows later j (undeclared_call_of span name.span (call_parts_faults gs (judgements xs)) (call_parts_reached gs (judgements xs))))
    → CallFrom f s w w given operands j (call_by_parts span name)
none_called {f} {s} {w} {given} {operands} {j} span name none typed = record {
  grows = grows_refl w;
  comes = λ known later has holds rows missing gs xs are placed.
      let names = item_names f in
      let env = environment f s known later in
      let nothing : None ≡ as_function (item_named name.name env.known.whole.items) = sym (ap as_function (means f later known name.name holds) ∙ none) in
      let cpr = call_parts_reached gs (judgements xs) in
      subst (λ (o : Option Function). IsPart names w.rows later.rows j (call_if span env name gs xs o) × (cpr ++ instances_at names later.met (drop (length w.reached) w.reached) ≡ (call_if span env name gs xs o).reached)) nothing
      (typed names later.rows gs xs has.rows are placed, ap (λ l. cpr ++ instances_at names later.met l) (all_dropped w.reached) ∙ append-nil cpr);
}

called_by : (f : Facts) (name : List ℕ) (item : ℕ) (function : Function) → IsMeant f name item (d.Function function) → (item_names f).item item ≡ function.name.name
called_by f name item function meant = ap (name_or item) meant.at

-- a function, with as many operands as arguments
pub one_called : {f : Facts} {s : CodeEnv} {w0 w1 : WalkShown} {span : Span} {given : List ParametricArgument} {operands : List Spanned} {j : Typing} {callee : CalledItem} {function : Function} (name : Ident)
    → IsMeant f name.name callee.item (d.Function function) → callee.is_cyclic ≡ is_cyclic f s.owner callee.item → callee.is_hidden ≡ (s.is_declaring && callee.is_cyclic)
    → (length operands == length function.arguments && not (nat_lt (length function.parametrics) (length given))) ≡ true → length given ≤ length function.parametrics
    → RightFrom f callee w0 w1 span function given operands j → CallFrom f s w0 w1 given operands j (call_by_parts span name)
one_called {f} {s} {w0} {w1} {span} {given} {operands} {j} {callee} {function} name meant cyclic hidden right count from = record {
  grows = from.grows;
  comes = λ known later has holds rows missing gs xs are placed.
      let names = item_names f in
      let env = environment f s known later in
      let there : Some function ≡ as_function (item_named name.name env.known.whole.items) = sym (ap as_function (means f later known name.name holds ∙ meant.meant)) in
      let test : true ≡ (length xs == length function.arguments && not (nat_lt (length function.parametrics) (length gs))) =
      sym right ∙ (λ i. pairs_long (IsPlaced names w0.rows later.rows) operands xs placed i == length function.arguments && not (nat_lt (length function.parametrics) (pairs_long (IsGiven names w0.rows later.rows) given gs are i))) in
      let own : callee.is_cyclic ≡ env.known.is_cyclic env.owner name.name = cyclic ∙ cyclic_is f s later known callee.item name.name holds meant.called in
      let claim : Judgement → Type 0 = λ x. IsPart names w1.rows later.rows j x × (call_parts_reached gs (judgements xs) ++ instances_at names later.met (drop (length w0.reached) w1.reached) ≡ x.reached) in
      let said = from.says known env.known later has holds (sees_there f s later known callee holds cyclic hidden) rows.known missing (called_by f name.name callee.item function meant) count gs xs are placed in
      let x : ParametricArgsSeen = args_of_call env.known function.name.name function gs xs in
      let by_cycle : List Fault = breaks_if (env.known.is_cyclic env.owner name.name) rule.NO_ITEM_REACHES_ITSELF span in
      subst (λ (o : Option Function). claim (call_if span env name gs xs o)) there
      (subst (λ (b : Bool). claim (if b then right_call_by span env.known function gs xs by_cycle x else wrong_call span gs (judgements xs) by_cycle)) test
      (subst (λ (b : Bool). claim (right_call_by span env.known function gs xs (breaks_if b rule.NO_ITEM_REACHES_ITSELF span) x)) own said));
}

-- with another number
pub wrongly_called : {f : Facts} {s : CodeEnv} {w : WalkShown} {given : List ParametricArgument} {operands : List Spanned} {j : Typing} {item : ℕ} {function : Function} {cyclic : Faults} (span : Span) (name : Ident)
    → IsMeant f name.name item (d.Function function) → (length operands == length function.arguments && not (nat_lt (length function.parametrics) (length given))) ≡ false
    → cyclic ≡ seen (breaks_if (is_cyclic f s.owner item) rule.NO_ITEM_REACHES_ITSELF span)
    → ((names : ItemNames) (later : List TypeRow) (gs : List GivenSeen) (xs : List Placed) (ms : List Fault) → IsPrefix w.rows later → AreGiven names w.rows later given gs → ArePlaced names w.rows later operands xs
    → cyclic ≡ seen ms → IsPart names w.rows later j (wrong_call span gs (judgements xs) ms))
    → CallFrom f s w w given operands j (call_by_parts span name)
wrongly_called {f} {s} {w} {given} {operands} {j} {item} {function} {cyclic} span name meant wrong refused typed = record {
  grows = grows_refl w;
  comes = λ known later has holds rows missing gs xs are placed.
      let names = item_names f in
      let env = environment f s known later in
      let there : Some function ≡ as_function (item_named name.name env.known.whole.items) = sym (ap as_function (means f later known name.name holds ∙ meant.meant)) in
      let test : false ≡ (length xs == length function.arguments && not (nat_lt (length function.parametrics) (length gs))) =
      sym wrong ∙ (λ i. pairs_long (IsPlaced names w.rows later.rows) operands xs placed i == length function.arguments && not (nat_lt (length function.parametrics) (pairs_long (IsGiven names w.rows later.rows) given gs are i))) in
      let by_cycle : List Fault = breaks_if (env.known.is_cyclic env.owner name.name) rule.NO_ITEM_REACHES_ITSELF span in
      let is : cyclic ≡ seen by_cycle = refused ∙ ap (λ b. seen (breaks_if b rule.NO_ITEM_REACHES_ITSELF span)) (cyclic_is f s later known item name.name holds meant.called) in
      let cpr = call_parts_reached gs (judgements xs) in
      let claim : Judgement → Type 0 = λ x. IsPart names w.rows later.rows j x × (cpr ++ instances_at names later.met (drop (length w.reached) w.reached) ≡ x.reached) in
      let x : ParametricArgsSeen = args_of_call env.known function.name.name function gs xs in
      subst (λ (o : Option Function). claim (call_if span env name gs xs o)) there
      (subst (λ (b : Bool). claim (if b then right_call_by span env.known function gs xs by_cycle x else wrong_call span gs (judgements xs) by_cycle)) test
      (typed names later.rows gs xs by_cycle has.rows are placed is, ap (λ l. cpr ++ instances_at names later.met l) (all_dropped w.reached) ∙ append-nil cpr));
}
