-- Written types: they mean what is known of them, and where nothing is wrong with them they are known.
use Rattle.std.proofs.Common.{◌≡◌, ◌++◌, ℕ, Bool, true, false, List, [], ◌∷◌, map, Option, Some, None, refl, sym, ap, ◌∙◌}
use Rattle.std.specs.List.{list_all}
use Rattle.xb_span.specs.declared.fault.Fault.{Fault}
use Rattle.xb_span.specs.declared.limit.What.TheVariants as what
use Rattle.xb_span.specs.declared.span.Span.{Span}
use Rattle.dslx_meaning.specs.Lists.{all_some, and_then, with_both}
use Rattle.dslx_meaning.specs.Environment.{Env}
use Rattle.dslx_meaning.specs.Items.{item_named}
use Rattle.dslx_meaning.specs.Meaning.{ExprDen, TypeDen, size_of}
use Rattle.dslx_meaning.specs.Types.{leaves_of, levels_of}
use Rattle.dslx_meaning.specs.declared.ty.DslxType as ty
use Rattle.dslx_meaning.specs.declared.ty.DslxType.{DslxType}
use Rattle.dslx_meaning.specs.Rules.ConstantRules.{count_faults, count_of}
use Rattle.dslx_meaning.specs.Rules.TypeEnvs.{ExprPair, Instance, TypeEnv, breaks, breaks_if, faults_of_all, leaf_widths, passes, passes_widths, reached_of_all, settled, type_limits, types_of, size_if_typed, unless_broken}
use Rattle.dslx_meaning.specs.Rules.Typings.{TypePair}
use Rattle.dslx_meaning.specs.Rules.Mentions.{AsType, is_of_use}
use Rattle.dslx_meaning.specs.Rules.TypeRules.{array_of, counted_type, inner_type, inner_types, named_bits, named_type, span_of_type, unit_faults}
use Rattle.dslx_core.specs.Typing.Typed.Complete.{IsWellTypedPart}
use Rattle.dslx_core.specs.Typing.Typed.Given.{EachTypeMeans, HasNarrowLeaves}
use Rattle.dslx_core.specs.Typing.Typed.WellTyped.{IsWellTypedEnv, types_at}
use Rattle.dslx_core.proofs.Lemmas.Typing.Typed.{all_are, array_means, bits_mean, name_means, none_some, tuple_means, wide_means}
use Rattle.dslx_core.specs.Typing.Sound.Sound.{EachTypeHasDen, ExprGives, TypeHasDen}
use Rattle.dslx_core.proofs.OnTyping.OnSound.WellTypedParts.{all_in, none_in, none_in_three, settled_well_typed, some_fault}
use Rattle.dslx_core.proofs.OnTyping.OnSound.OfConstants.{count_has, count_is}

-- a written type that has a type counts nothing
counts_nothing : (own : Option DslxType) (t : DslxType) → own ≡ Some t → size_if_typed own (Some 0) ≡ Some 0
counts_nothing own t e = ap (λ o. size_if_typed o (Some 0)) e

-- without faults no limit is passed
settled_narrow : (span : Span) (own : Option DslxType) (named : List Fault) (found : List Instance) (size : Option ℕ) → (settled span own named found size).faults ≡ [] → (t : DslxType) → (settled span own named found size).ty ≡ Some t
    → HasNarrowLeaves t
settled_narrow span own named found size f t e =
    let limits = (none_in named (type_limits span.to (unless_broken named own)) f).1 in
    (span.to, (none_in_three (passes_widths span.to (leaf_widths t)) (passes what.Leaves 256 span.to (leaves_of t)) (passes what.Levels 64 span.to (levels_of t)) ((λ i. type_limits span.to (sym e i)) ∙ limits)).0)

pub plain_has_den : (span : Span) (s : Bool) (w : ℕ) → TypeHasDen (λ context. named_bits span s w) (λ env. Some (ty.Bits s w))
plain_has_den span s w = record {
  means = λ context env h. bits_mean (types_at context) span s w;
  known = λ context env h well_typed. (ty.Bits s w, (settled_well_typed context.known span (Some (ty.Bits s w)) (count_faults span (Some w)) [] (Some 0) well_typed).ty);
  sized = λ context t e. counts_nothing _ t e;
  narrow = λ context. settled_narrow span (Some (ty.Bits s w)) (count_faults span (Some w)) [] (Some 0);
}

pub wide_has_den : (span : Span) (s : Bool) (e : ExprPair) (x : ExprDen) → ExprGives e x
    → TypeHasDen (λ context. counted_type span (and_then (count_of context e).count (λ w. Some (ty.Bits s w))) [] (count_of context e)) (λ env. and_then (size_of x env) (λ w. Some (ty.Bits s w)))
wide_has_den span s e x g = record {
  means = λ context env h. wide_means (types_at context) span s (count_of context e) (size_of x env) (count_is context env e x g h);
  known = λ context env h well_typed.
      let n = count_of context e in
      let q = settled_well_typed context.known span (and_then n.count (λ w. Some (ty.Bits s w))) n.judgement.faults n.judgement.reached (Some 0) well_typed in
      let k = count_has context env e x g h (record { faults = q.faults; reached = q.reached }) in
      (ty.Bits s k.0, q.ty ∙ ap (λ o. and_then o (λ w. Some (ty.Bits s w))) k.1);
  sized = λ context t e. counts_nothing _ t e;
  narrow = λ context. let n = count_of context e in settled_narrow span (and_then n.count (λ w. Some (ty.Bits s w))) n.judgement.faults n.judgement.reached (Some 0);
}

pub name_has_den : (span : Span) (name : List ℕ) → TypeHasDen (λ context. named_type span context name (is_of_use AsType (item_named name context.known.whole.items))) (λ env. env.items.type_named name)
name_has_den span name = record {
  means = λ context env h t q.
      let r = name_means span context name (is_of_use AsType (item_named name context.known.whole.items)) (h.known.declared name) t q in
      ((λ i. (h.items i).type_named name) ∙ r.0, r.1);
  known = λ context env h well_typed. by_use context env h (is_of_use AsType (item_named name context.known.whole.items)) refl well_typed;
  sized = λ context t e. by_kind context t (is_of_use AsType (item_named name context.known.whole.items)) e;
  narrow = λ context f t e. by_name context t (is_of_use AsType (item_named name context.known.whole.items)) f e;
}
  where
    by_kind : (context : TypeEnv) (t : DslxType) (b : Bool) → (named_type span context name b).ty ≡ Some t → (named_type span context name b).size ≡ Some 0
    by_kind context t true e = counts_nothing _ t e
    by_kind context t false e = counts_nothing _ t e

    by_name : (context : TypeEnv) (t : DslxType) (b : Bool) → (named_type span context name b).faults ≡ [] → (named_type span context name b).ty ≡ Some t → HasNarrowLeaves t
    by_name context t true f e = settled_narrow span (context.known.items.type_named name) (breaks_if (context.known.is_cyclic context.owner name) 3 span) [] (Some 0) f t e
    by_name context t false f e = none_some t e

    by_use : (context : TypeEnv) (env : Env) → IsWellTypedEnv context env → (b : Bool) → is_of_use AsType (item_named name context.known.whole.items) ≡ b → IsWellTypedPart context.known (named_type span context name b)
        → (t : DslxType) × ((named_type span context name b).ty ≡ Some t)
    by_use context env h false q well_typed = some_fault (breaks 1 span) [] (settled_well_typed context.known span None (breaks 1 span ∷ []) [] (Some 0) well_typed).faults
    by_use context env h true q well_typed =
        let t = h.known.types name q in
        (t.0, (settled_well_typed context.known span (types_at context name) (breaks_if (context.known.is_cyclic context.owner name) 3 span) [] (Some 0) well_typed).ty ∙ t.1)

-- ---- tuples

each_means : (context : TypeEnv) (env : Env) → IsWellTypedEnv context env → (ps : List TypePair) (fs : List TypeDen) → EachTypeHasDen ps fs → EachTypeMeans (types_at context) context ps (map (λ (t : TypeDen). t env) fs)
each_means context env h [] [] k = tt
each_means context env h [] (f ∷ fs) k = absurd k
each_means context env h (p ∷ ps) [] k = absurd k
each_means context env h (p ∷ ps) (f ∷ fs) k = (k.0.means context env h, each_means context env h ps fs k.1)

-- a type inside another
inner_globals : (context : TypeEnv) (env : Env) → IsWellTypedEnv context env → (p : TypePair) (f : TypeDen) → TypeHasDen p.1 f → IsWellTypedPart context.known (inner_type context p) → (t : DslxType) × ((inner_type context p).ty ≡ Some t)
inner_globals context env h p f k well_typed =
    let j = p.1 context in
    k.known context env h (record { faults = (none_in j.faults (unit_faults (span_of_type p) j.ty) well_typed.faults).0; reached = well_typed.reached })

each_known : (context : TypeEnv) (env : Env) → IsWellTypedEnv context env → (ps : List TypePair) (fs : List TypeDen) → EachTypeHasDen ps fs → faults_of_all (inner_types context ps) ≡ []
    → list_all context.known.is_sound (reached_of_all (inner_types context ps)) ≡ true → (ts : List DslxType) × (types_of (inner_types context ps) ≡ map Some ts)
each_known context env h [] [] k f r = ([], refl)
each_known context env h [] (g ∷ gs) k f r = absurd k
each_known context env h (p ∷ ps) [] k f r = absurd k
each_known context env h (p ∷ ps) (g ∷ gs) k f r =
    let first = inner_type context p in
    let q = none_in first.faults (faults_of_all (inner_types context ps)) f in
    let s = all_in context.known.is_sound first.reached (reached_of_all (inner_types context ps)) r in
    let one = inner_globals context env h p g k.0 (record { faults = q.0; reached = s.0 }) in
    let more = each_known context env h ps gs k.1 q.1 s.1 in
    (one.0 ∷ more.0, λ i. one.1 i ∷ more.1 i)

pub tuple_has_den : (span : Span) (ps : List TypePair) (fs : List TypeDen) → EachTypeHasDen ps fs
    → TypeHasDen (λ context. settled span (and_then (all_some (types_of (inner_types context ps))) (λ ts. Some (ty.Tuple ts))) (faults_of_all (inner_types context ps)) (reached_of_all (inner_types context ps)) (Some 0))
    (λ env. and_then (all_some (map (λ (t : TypeDen). t env) fs)) (λ ts. Some (ty.Tuple ts)))
tuple_has_den span ps fs k = record {
  means = λ context env h. tuple_means (types_at context) span context ps (map (λ (t : TypeDen). t env) fs) (each_means context env h ps fs k);
  known = λ context env h well_typed.
      let js = inner_types context ps in
      let q = settled_well_typed context.known span (and_then (all_some (types_of js)) (λ ts. Some (ty.Tuple ts))) (faults_of_all js) (reached_of_all js) (Some 0) well_typed in
      let ts = each_known context env h ps fs k q.faults q.reached in
      (ty.Tuple ts.0, q.ty ∙ ap (λ o. and_then o (λ ts. Some (ty.Tuple ts))) (ap all_some ts.1 ∙ all_are ts.0));
  sized = λ context t e. counts_nothing _ t e;
  narrow = λ context. let js = inner_types context ps in settled_narrow span (and_then (all_some (types_of js)) (λ ts. Some (ty.Tuple ts))) (faults_of_all js) (reached_of_all js) (Some 0);
}

-- ---- arrays

pub array_has_den : (span : Span) (p : TypePair) (f : TypeDen) (e : ExprPair) (x : ExprDen) → TypeHasDen p.1 f → ExprGives e x
    → TypeHasDen (λ context. array_of span (inner_type context p) (count_of context e)) (λ env. with_both (f env) (size_of x env) (λ t n. Some (ty.Array t n)))
array_has_den span p f e x k g = record {
  means = λ context env h. array_means (types_at context) span context (inner_type context p) e (f env) (size_of x env) (k.means context env h) (count_is context env e x g h);
  known = λ context env h well_typed.
      let element = inner_type context p in
      let n = count_of context e in
      let r = all_in context.known.is_sound element.reached n.judgement.reached well_typed.reached in
      let own = with_both element.ty n.count (λ t n. Some (ty.Array t n)) in
      let q = settled_well_typed context.known span own (element.faults ++ n.judgement.faults) n.judgement.reached (Some 0) (record { faults = well_typed.faults; reached = r.1 }) in
      let s = none_in element.faults n.judgement.faults q.faults in
      let t = inner_globals context env h p f k (record { faults = s.0; reached = r.0 }) in
      let m = count_has context env e x g h (record { faults = s.1; reached = r.1 }) in
      (ty.Array t.0 m.0, q.ty ∙ (λ i. with_both (t.1 i) (m.1 i) (λ t n. Some (ty.Array t n))));
  sized = λ context t e. counts_nothing _ t e;
  narrow = λ context.
      let element = inner_type context p in
      let n = count_of context e in
      settled_narrow span (with_both element.ty n.count (λ t n. Some (ty.Array t n))) (element.faults ++ n.judgement.faults) n.judgement.reached (Some 0);
}
