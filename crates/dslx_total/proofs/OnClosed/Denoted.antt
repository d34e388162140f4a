-- What is known of a text's checked items, with what calls denote, is what its own global environment has.
use Rattle.std.proofs.Common.{◌*◌, ◌≡◌, ◌≤◌, ◌&&◌, ◌++◌, ℕ, suc, length, Bool, true, false, if◌then◌else◌, List, [], ◌∷◌, map, Option, Some, None, arith, refl, sym, ap, subst, ◌∙◌}
use mathlib.Core.Bool.{true≢false}
use Rattle.std.specs.List.{list_all}
use Rattle.xb_span.specs.Spans.{nowhere}
use Rattle.dslx_tree.specs.declared.expr.Expr.{Expr}
use Rattle.dslx_tree.specs.declared.item.Definition.{Definition}
use Rattle.dslx_tree.specs.declared.item.Definition.TheVariants as d
use Rattle.dslx_tree.specs.declared.item.Function.{Function}
use Rattle.dslx_tree.specs.declared.item.Module.{Module}
use Rattle.dslx_tree.specs.declared.item.Parametric.{Parametric}
use Rattle.dslx_tree.specs.declared.process.Proc.{Proc}
use Rattle.dslx_meaning.specs.Environment.{Env, Given, Meanings}
use Rattle.dslx_meaning.specs.Items.{as_function, inferred_from, item_named, meanings_of, with_number}
use Rattle.dslx_meaning.specs.Meaning.{value_of, written_type}
use Rattle.dslx_meaning.specs.Network.{top_proc}
use Rattle.dslx_meaning.specs.Values.{type_of_value}
use Rattle.dslx_meaning.specs.declared.ty.DslxType.{DslxType}
use Rattle.dslx_meaning.specs.declared.value.DslxValue.{DslxValue}
use Rattle.dslx_meaning.specs.Rules.CallRules.{known_before, parametric_type}
use Rattle.dslx_meaning.specs.Rules.ItemRules.{FunctionSeen, function_seen}
use Rattle.dslx_meaning.specs.Rules.Mentions.{AsEnum, AsFunction, AsPattern, AsProc, AsStruct, AsType, AsValue, Use, definition_mentions, expr_if, is_of_use, item_reaches, mentioned, mentioned_in_type, mentions_of, names_mentioned, field_names, parametric_names, parametrics_mentions}
use Rattle.dslx_meaning.specs.Rules.ModuleRules.{found_of_instance, found_of_item, globals_of, globals_over, top_found}
use Rattle.dslx_meaning.specs.Rules.ProcRules.{proc_seen}
use Rattle.dslx_meaning.specs.Rules.TypeEnvs.{GlobalEnv, Instance, Judgement, breaks}
use Rattle.dslx_meaning.specs.Rules.TypeRules.{unless_unit}
use Rattle.dslx_core.proofs.Lemmas.Typing.Accepted.{IsAccepted}
use Rattle.dslx_core.proofs.Lemmas.Typing.Complete.{none_own}
use Rattle.dslx_core.proofs.Lemmas.Typing.Denotation.{known_kinds, of_kinds}
use Rattle.dslx_core.proofs.Lemmas.Typing.Depends.{Stage, agreeing, den_parts, function_at, function_parts, mentions_pass, reached_in, stage_sight, stands_first, uses_over, uses_settle}
use Rattle.dslx_core.proofs.Lemmas.Typing.Laws.{AllGiven, and_true, given_agree, given_here, given_more, parametric_args_one, value_depends, written_type_depends}
use Rattle.dslx_core.proofs.Lemmas.Typing.Sound.{some_fault}
use Rattle.dslx_core.proofs.Lemmas.Typing.Typed.{none_some}
use Rattle.dslx_core.proofs.Lemmas.Typing.TypingRelations.{den_reach, function_is, instances_reach, item_so_named, whole_is}
use Rattle.dslx_core.specs.Typing.Complete.HasValue.{AreTyped}
use Rattle.dslx_core.specs.Typing.Depends.Alike.{DeclaredAlike, GlobalsAgree, NamesAlike, UseAlike}
use Rattle.dslx_core.specs.Typing.GlobalEnv.Filled.{refused}
use Rattle.dslx_core.specs.Typing.Typed.Complete.{EachParametricKnown, IsComplete, IsDefaultKnown, IsFunctionKnown, IsTypeKnown, IsWellTypedPart}
use Rattle.dslx_core.specs.Typing.Typed.Given.{GivesOf, HasNarrowLeaves}
use Rattle.dslx_core.specs.Typing.Typed.Numbers.{FitParametricArgs, ParametricsMean}
use Rattle.dslx_core.specs.Typing.TypingRelations.Closed.{IsOneOf}
use Rattle.dslx_core.specs.Typing.TypingRelations.Reached.{IsClosed}
use Rattle.dslx_total.specs.Instances.Checked.{is_checked_item}
use Rattle.dslx_total.specs.Instances.Denoted.{KnowsChecked, checked_globals, refused_default, with_calls}
use Rattle.dslx_total.proofs.OnClosed.OfTexts.{checked_named}
use Rattle.dslx_total.proofs.OnClosed.Procs.{BlocksDepend, proc_alike, top_alike}
use Rattle.dslx_total.proofs.OnExpressions.Parts.{all_sound as each_of_both}
use Rattle.dslx_total.proofs.OnFamilies.Parametrics.{LoopsHaveNoValue, globals_alike, parametrics_known, proc_declared, proc_known}
use Rattle.dslx_total.proofs.OnFamilies.Reached.{IsProcOf, K, ProcWithin, Within, all, proc_within}

-- ---- what is declared

module _ (P : List ℕ → Bool) (call : List ℕ → List DslxValue → List DslxValue → Option DslxValue) (known : GlobalEnv) where
  abbrev other : GlobalEnv
  other = with_calls P call known

  -- what has a type there has it here
  type_there : (owner : List ℕ) (before : List (Option DslxValue)) (t : DslxType) → (other.parameter_in owner before).ty ≡ Some t → (known.parameter_in owner before).ty ≡ Some t
  type_there owner before t e = by_test (P owner) e
    where
      by_test : (b : Bool) → (if b then known.parameter_in owner before else refused).ty ≡ Some t → (known.parameter_in owner before).ty ≡ Some t
      by_test true q = q
      by_test false q = none_some t q

  parametric_there : (owner : List ℕ) (before : List (Option DslxValue)) (t : DslxType) → parametric_type other owner (known_before before) ≡ Some t → parametric_type known owner (known_before before) ≡ Some t
  parametric_there owner before t e = by_test (P owner) e
    where
      by_test : (b : Bool) → unless_unit (if b then known.parameter_in owner before else refused).ty ≡ Some t → unless_unit (known.parameter_in owner before).ty ≡ Some t
      by_test true q = q
      by_test false q = none_some t q

  fit_there : (owner : List ℕ) (before : List (Option DslxValue)) (ps : List Parametric) (vs : List DslxValue) → FitParametricArgs other owner before ps vs → FitParametricArgs known owner before ps vs
  fit_there owner before [] [] h = tt
  fit_there owner before (p ∷ ps) (v ∷ vs) h = ((h.0.0, parametric_there owner before h.0.0 h.0.1, h.0.2), fit_there owner (Some v ∷ before) ps vs h.1)
  fit_there owner before [] (v ∷ vs) h = absurd h
  fit_there owner before (p ∷ ps) [] h = absurd h

  part_there : (j : Judgement) → IsWellTypedPart other j → IsWellTypedPart known j
  part_there j w = record { faults = w.faults; reached = each_of_both other.is_sound known.is_sound (λ i q. (and_true (P i.name) (known.is_sound i) q).1) j.reached w.reached }

  pub parametrics_there : (owner : List ℕ) (before : List (Option DslxValue)) (ps : List Parametric) → EachParametricKnown known owner before ps → EachParametricKnown other owner before ps
  parametrics_there owner before [] h = tt
  parametrics_there owner before (p ∷ ps) h = (
    record {
      declared = λ t e. h.0.declared t (type_there owner before t e);
      typed = by_type (P owner);
      narrow = by_narrow (P owner);
      default = by_default (P owner);
    },
    λ t v e g. parametrics_there owner (Some v ∷ before) ps (h.1 t v (parametric_there owner before t e) g),
  )
    where
      by_type : (b : Bool) → IsWellTypedPart other (if b then known.parameter_in owner before else refused) → IsTypeKnown (if b then known.parameter_in owner before else refused).ty
      by_type true w = h.0.typed (part_there (known.parameter_in owner before) w)
      by_type false w = some_fault (breaks 1 nowhere) [] w.faults

      by_narrow : (b : Bool) → (if b then known.parameter_in owner before else refused).faults ≡ [] → (t : DslxType) → (if b then known.parameter_in owner before else refused).ty ≡ Some t → HasNarrowLeaves t
      by_narrow true f t e = h.0.narrow f t e
      by_narrow false f t e = none_some t e

      by_default : (b : Bool) → (e : Expr) → p.default ≡ Some e → IsWellTypedPart other (if b then known.default_in owner before else refused_default).judgement → IsDefaultKnown known.items.type_named (if b then known.default_in owner before else refused_default)
      by_default true e q w = h.0.default e q (part_there (known.default_in owner before).judgement w)
      by_default false e q w = some_fault (breaks 1 nowhere) [] w.faults

-- ---- what is known of checked items

module _ (m : Module) (top : Option (List ℕ)) (s : IsAccepted m top) (closed : IsClosed (is_checked_item m top) m)
    (calls : (name : List ℕ) (f : Function) → item_named name m.items ≡ Some (d.Function f) → is_checked_item m top name ≡ true → (given operands : List DslxValue) → (globals_of m).items.call name given operands ≡ (meanings_of m).call name given operands) where
  abbrev own : GlobalEnv
  own = K m top s

  abbrev P : List ℕ → Bool
  P = is_checked_item m top

  abbrev known : GlobalEnv
  known = checked_globals m top

  agree : GlobalsAgree P own known
  agree = record { whole = refl; kinds = λ name. refl; cyclic = λ owner name. refl; sound = λ i h t. sym h t && own.is_sound i; unbroken = λ i h. refl }

  pub names_alike : (names : List (List ℕ)) → NamesAlike own known names
  names_alike [] = tt
  names_alike (n ∷ ns) = (refl, names_alike ns)

  declared_there : (owner : List ℕ) → P owner ≡ true → DeclaredAlike own known owner
  declared_there owner h = record {
    parameter = λ before t. if sym h t then own.parameter_in owner before else refused;
    default = λ before t. if sym h t then own.default_in owner before else refused_default;
    signature = λ values many. refl;
  }

  -- a call, of whatever item
  call_there : (name : List ℕ) (o : Option Definition) → item_named name m.items ≡ o → (is_of_use AsFunction o ≡ true → P name ≡ true) → (given operands : List DslxValue) → own.items.call name given operands ≡ known.items.call name given operands
  call_there name o q h given operands = by_use (is_of_use AsFunction (item_named name m.items)) refl
    where
      function_there : (x : Option Definition) → item_named name m.items ≡ x → is_of_use AsFunction x ≡ true → own.items.call name given operands ≡ known.items.call name given operands
      function_there (Some (d.Function f)) r e = calls name f r (h (ap (is_of_use AsFunction) (sym q ∙ r) ∙ e)) given operands
      function_there (Some (d.Proc x)) r e = absurd (true≢false (sym e))
      function_there (Some (d.Constant x)) r e = absurd (true≢false (sym e))
      function_there (Some (d.Alias x)) r e = absurd (true≢false (sym e))
      function_there (Some (d.Struct x)) r e = absurd (true≢false (sym e))
      function_there (Some (d.Enum x)) r e = absurd (true≢false (sym e))
      function_there None r e = absurd (true≢false (sym e))

      by_use : (b : Bool) → is_of_use AsFunction (item_named name m.items) ≡ b → own.items.call name given operands ≡ known.items.call name given operands
      by_use true e = function_there (item_named name m.items) refl e
      by_use false e = (known_kinds m).calls name e given operands ∙ sym ((of_kinds m (length m.items)).calls name e given operands)

  uses : (u : Use) (name : List ℕ) → (is_of_use u (item_named name m.items) ≡ true → P name ≡ true) → UseAlike own known u name
  uses AsValue name h = refl
  uses AsPattern name h = refl
  uses AsType name h = refl
  uses AsProc name h = tt
  uses AsEnum name h = record { ty = λ e q. refl; members = λ member. refl }
  uses AsStruct name h = refl
  uses AsFunction name h = record {
    call = call_there name (item_named name m.items) refl h;
    function = λ f e.
        let q : item_named name m.items ≡ Some (d.Function f) = function_is (item_named name m.items) f ((λ t. as_function (item_named name (sym (whole_is m (2 * length m.items)) t).items)) ∙ e) in
        record { declared = declared_there f.name.name (ap P (item_so_named m.items name (d.Function f) q) ∙ h (ap (is_of_use AsFunction) q)); size = λ parametric_args many. refl };
  }

  pub stage : Stage P m own known
  stage = record {
    text = whole_is m (2 * length m.items);
    known = agree;
    uses = uses;
    reach = λ owner ms h. den_reach P m closed (2 * length m.items) owner ms h;
    reached = λ i h. instances_reach P m closed (2 * length m.items) i h;
  }

  -- what an item mentions that is checked
  pub mentions_there : (name : List ℕ) (x : Definition) → item_named name m.items ≡ Some x → P name ≡ true → list_all P (names_mentioned m (definition_mentions x)) ≡ true
  mentions_there name x q h = (λ t. list_all P (mentions_of m (sym q t))) ∙ closed name h

  -- ---- what instances break and reach

  pub function_alike : (f : Function) → item_named f.name.name m.items ≡ Some (d.Function f) → P f.name.name ≡ true → (parametric_args : List DslxValue) → function_seen own f parametric_args ≡ function_seen known f parametric_args
  function_alike f q h parametric_args =
      function_at P (mentions_pass P m) (λ owner. P) m own known (stage_sight P m own known closed stage) f (closed f.name.name h) (function_parts (λ owner. P) m f (mentions_there f.name.name (d.Function f) q h))
      (names_alike (parametric_names f.parametrics)) (names_alike (field_names f.arguments)) parametric_args

  within : (p : Proc) → IsProcOf m p → P p.name.name ≡ true → ProcWithin P m p
  within p q h = proc_within P m p (mentions_there p.name.name (d.Proc p) q h)

  module _ (blocks : BlocksDepend) where
    pub proc_there : (p : Proc) → IsProcOf m p → P p.name.name ≡ true → (parametric_args : List DslxValue) → proc_seen own p parametric_args ≡ proc_seen known p parametric_args
    proc_there p q h parametric_args =
        proc_alike P (meanings_of m).call m own (whole_is m (2 * length m.items)) agree p
        (λ bound ms k. (stage_sight P m own known closed stage).sees p.name.name (closed p.name.name h) bound (names_alike bound) ms k) blocks (within p q h) parametric_args

    pub found_there : (i : Instance) → IsOneOf i (all m top s) → found_of_instance known i ≡ found_of_instance own i
    found_there i one = sym (seen_as (item_named i.name m.items) refl)
      where
        named : P i.name ≡ true
        named = checked_named m top i one

        by_item : (o : Option Definition) → item_named i.name m.items ≡ o → found_of_item own i.parametric_args o ≡ found_of_item known i.parametric_args o
        by_item (Some (d.Function f)) q =
            let same : f.name.name ≡ i.name = item_so_named m.items i.name (d.Function f) q in
            ap (λ (x : FunctionSeen). x.found) (function_alike f ((λ t. item_named (same t) m.items) ∙ q) (ap P same ∙ named) i.parametric_args)
        by_item (Some (d.Proc p)) q =
            let same : p.name.name ≡ i.name = item_so_named m.items i.name (d.Proc p) q in
            proc_there p ((λ t. item_named (same t) m.items) ∙ q) (ap P same ∙ named) i.parametric_args
        by_item (Some (d.Constant x)) q = refl
        by_item (Some (d.Alias x)) q = refl
        by_item (Some (d.Struct x)) q = refl
        by_item (Some (d.Enum x)) q = refl
        by_item None q = refl

        text : item_named i.name own.whole.items ≡ item_named i.name m.items
        text = λ t. item_named i.name (whole_is m (2 * length m.items) t).items

        seen_as : (o : Option Definition) → item_named i.name m.items ≡ o → found_of_instance own i ≡ found_of_instance known i
        seen_as o q = (λ t. found_of_item own i.parametric_args (text t)) ∙ by_item (item_named i.name m.items) refl ∙ sym (λ t. found_of_item known i.parametric_args (text t))

  -- ---- what is declared

  three : (owner : List ℕ) → P owner ≡ true → DeclaredAlike own (globals_over own) owner → DeclaredAlike (globals_over own) (globals_over known) owner → DeclaredAlike known (globals_over known) owner
  three owner h settled over =
      let there = declared_there owner h in
      record {
        parameter = λ before. sym (there.parameter before) ∙ (settled.parameter before ∙ over.parameter before);
        default = λ before. sym (there.default before) ∙ (settled.default before ∙ over.default before);
        signature = λ values many. settled.signature values many ∙ over.signature values many;
      }

  pub function_declared : (f : Function) → item_named f.name.name m.items ≡ Some (d.Function f) → P f.name.name ≡ true → DeclaredAlike known (globals_over known) f.name.name
  function_declared f q h =
      let n = length m.items in
      let least : 2 * n ≤ 2 * n = omega arith in
      let more : 2 * n ≤ suc (2 * n) = omega arith in
      let of : as_function (item_named f.name.name own.whole.items) ≡ Some f = (λ t. as_function (item_named f.name.name (whole_is m (2 * n) t).items)) ∙ ap as_function q in
      let settled = (uses_settle m (2 * n) (suc (2 * n)) least more AsFunction f.name.name).function f of in
      let over = (uses_over P (mentions_pass P m) (λ owner. P) m own known (stage_sight P m own known closed stage) (λ owner k. k) AsFunction f.name.name (λ e. closed f.name.name h)).function f of in
      three f.name.name h settled.declared over.declared

  pub proc_declares : LoopsHaveNoValue m → (p : Proc) → IsProcOf m p → P p.name.name ≡ true → DeclaredAlike known (globals_over known) p.name.name
  proc_declares loops p q h =
      let w = within p q h in
      three p.name.name h (globals_alike m p q loops)
      (proc_declared P m own known closed stage p.name.name (λ name e u. reached_in P m closed (length m.items) p.name.name name (closed p.name.name h) (reaches name e)) p q (names_alike (parametric_names p.parametrics)) w.parametrics w.ends)
    where
      reaches : (name : List ℕ) → item_reaches own.whole p.name.name name ≡ true → item_reaches m p.name.name name ≡ true
      reaches name e = (λ t. item_reaches (sym (whole_is m (2 * length m.items)) t) p.name.name name) ∙ e

  -- ---- all items are known

  abbrev env_of : Meanings → List Given → Env
  env_of items bound = record { items = items; bound = bound }

  -- what parametrics mean
  means_there : (owner : List ℕ) (before : List (Option DslxValue)) (so_far : List Given) (names : List (List ℕ)) → AllGiven names so_far → (ps : List Parametric) → (P owner ≡ true → Within P m (parametrics_mentions ps names))
      → ParametricsMean own own.items owner before so_far ps → ParametricsMean known known.items owner before so_far ps
  means_there owner before so_far names given [] w h = tt
  means_there owner before so_far names given (p ∷ ps) w h = (
    record { types = λ t e. by_type (P owner) refl t e; defaults = λ e v q r. by_default (P owner) refl e v q r },
    λ t v e g. means_there owner (Some v ∷ before) (with_number so_far p v) (p.name.name ∷ names) ((v, given_here p.name.name v so_far), given_more names p.name.name v so_far given) ps (λ k. (front k).1)
        (h.1 t v (parametric_there P (meanings_of m).call own owner before t e) g),
  )
    where
      front : P owner ≡ true → Within P m (mentioned_in_type p.ty names ++ expr_if p.default names) × Within P m (parametrics_mentions ps (p.name.name ∷ names))
      front k = den_parts P m (mentioned_in_type p.ty names ++ expr_if p.default names) (parametrics_mentions ps (p.name.name ∷ names)) (w k)

      first : P owner ≡ true → Within P m (mentioned_in_type p.ty names) × Within P m (expr_if p.default names)
      first k = den_parts P m (mentioned_in_type p.ty names) (expr_if p.default names) (front k).0

      by_type : (b : Bool) → P owner ≡ b → (t : DslxType) → (if b then own.parameter_in owner before else refused).ty ≡ Some t → written_type p.ty (env_of known.items so_far) ≡ Some t
      by_type true k t e =
          sym (written_type_depends p.ty names (env_of own.items so_far) (env_of known.items so_far) (given_agree own.items known.items names so_far given) (agreeing P m own known closed stage (mentioned_in_type p.ty names) (first k).0 so_far))
          ∙ h.0.types t e
      by_type false k t e = none_some t e

      mentioned_by : (e : Expr) → p.default ≡ Some e → P owner ≡ true → Within P m (mentioned e names)
      mentioned_by e q k = (λ t. list_all P (names_mentioned m (expr_if (sym q t) names))) ∙ (first k).1

      by_default : (b : Bool) → P owner ≡ b → (e : Expr) (v : DslxValue) → p.default ≡ Some e → (if b then own.default_in owner before else refused_default).value ≡ Some v → value_of e (env_of known.items so_far) ≡ Some v
      by_default true k e v q r =
          sym (value_depends e names (env_of own.items so_far) (env_of known.items so_far) (given_agree own.items known.items names so_far given) (agreeing P m own known closed stage (mentioned e names) (mentioned_by e q k) so_far))
          ∙ h.0.defaults e v q r
      by_default false k e v q r = none_some v r

  module _ (complete : IsComplete own) where
    -- a function, by its name
    function_known : (name : List ℕ) (f : Function) → as_function (item_named name own.whole.items) ≡ Some f → IsFunctionKnown own name f → IsFunctionKnown known name f
    function_known name f e h = record {
      mean = means_there f.name.name [] [] [] tt f.parametrics parametrics_pass h.mean;
      parametrics = parametrics_there P (meanings_of m).call own f.name.name [] f.parametrics h.parametrics;
      arguments = λ parametric_args fit. h.arguments parametric_args (fit_there P (meanings_of m).call own f.name.name [] f.parametrics parametric_args fit);
      calls = λ parametric_args fit sound.
          let q = and_true (P f.name.name) (own.is_sound (record { name = f.name.name; parametric_args = parametric_args })) sound in
          let k = h.calls parametric_args (fit_there P (meanings_of m).call own f.name.name [] f.parametrics parametric_args fit) q.1 in
          record {
            result = k.result;
            typed = k.typed;
            gives = λ given operands found fits. subst (GivesOf own.items.type_named k.result) (calls name f named (ap P (sym same) ∙ q.0) given operands)
                (k.gives given operands (parametric_args_one own.items known.items (inferred_from f.arguments (map type_of_value operands)) [] [] tt f.parametrics given (agreeing P m own known closed stage (parametrics_mentions f.parametrics []) (parametrics_pass q.0)) ∙ found) fits);
            sized = k.sized;
          };
    }
      where
        named : item_named name m.items ≡ Some (d.Function f)
        named = function_is (item_named name m.items) f ((λ t. as_function (item_named name (sym (whole_is m (2 * length m.items)) t).items)) ∙ e)

        same : f.name.name ≡ name
        same = item_so_named m.items name (d.Function f) named

        parametrics_pass : P f.name.name ≡ true → Within P m (parametrics_mentions f.parametrics [])
        parametrics_pass k = (function_parts (λ owner. P) m f (mentions_there f.name.name (d.Function f) ((λ t. item_named (same t) m.items) ∙ named) k)).parametrics

    pub all_known : IsComplete known
    all_known = record {
      kinds = complete.kinds;
      constants = complete.constants;
      types = complete.types;
      declared = complete.declared;
      parts = complete.parts;
      structs = complete.structs;
      functions = λ name f e. function_known name f e (complete.functions name f e);
    }

  pub all_typed : AreTyped own → AreTyped known
  all_typed typed = record { constants = typed.constants; members = typed.members }

  -- ---- the whole

  pub knows_checked : (blocks : BlocksDepend) → LoopsHaveNoValue m → IsComplete own → AreTyped own → known.items ≡ meanings_of m → ((p : Proc) → top_proc m top ≡ Some p → P p.name.name ≡ true) → KnowsChecked m top known
  knows_checked blocks loops complete typed denoted tops = record {
    text = whole_is m (2 * length m.items);
    denoted = denoted;
    complete = all_known complete;
    typed = all_typed typed;
    found = found_there blocks;
    tops = by_top (top_proc m top) refl;
    parametrics = λ p q. parametrics_there P (meanings_of m).call own p.name.name [] p.parametrics
        (parametrics_known own complete typed p.name.name (d.Proc p) (proc_known m p q) (globals_alike m p q loops) [] [] (none_own own) p.parametrics (stands_first p.name.name (d.Proc p)));
    functions = function_declared;
    procs = proc_declares loops;
  }
    where
      by_top : (o : Option Proc) → top_proc m top ≡ o → top_found known o ≡ top_found own o
      by_top None q = refl
      by_top (Some p) q = sym (top_alike P (meanings_of m).call own p (tops p q))
