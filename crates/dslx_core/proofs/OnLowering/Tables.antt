-- Instances of functions, each of which calls those before it, give what the text's functions give.
use Rattle.std.proofs.Common.{◌≡◌, ◌&&◌, ◌++◌, ◌==◌, ◌+◌, ◌<◌, ℕ, zero, suc, length, Bool, true, false, not, if◌then◌else◌, List, [], ◌∷◌, map, Some, None, refl, sym, ap, subst, ◌∙◌, inl, inr, arith}
use mathlib.Core.Bool.{true≢false}
use Rattle.std.specs.Prelude.{slice_get, ◌⊎◌}
use Rattle.std.specs.Str.{bytes_eq}
use Rattle.std.proofs.lemmas.Bool.Decides.{Decides-eqb}
use Rattle.std.proofs.lemmas.Slice.Eq.{bytes_eq-Decides}
use Rattle.std.proofs.lemmas.List.{append_assoc}
use Rattle.std.proofs.lemmas.Option.{slice_get_within}
use Rattle.dslx_tree.specs.declared.item.Module.{Module}
use Rattle.dslx_tree.specs.declared.item.Function.{Function}
use Rattle.dslx_tree.specs.declared.item.Field.{Field}
use Rattle.dslx_meaning.specs.Lists.{and_then, pairwise}
use Rattle.dslx_meaning.specs.Values.{plain_value, type_of_value}
use Rattle.dslx_meaning.specs.Environment.{Meanings, Given, given_in}
use Rattle.dslx_meaning.specs.Meaning.{value_of_block}
use Rattle.dslx_meaning.specs.Items.{all_parametric_args, as_function, call_of, function_value, inferred_from, item_named, meanings_over, parametric_args_bound, operands_bound}
use Rattle.dslx_meaning.specs.declared.ty.DslxType.{DslxType}
use Rattle.dslx_meaning.specs.declared.value.DslxValue.{DslxValue}
use Rattle.dslx_core.proofs.Lemmas.Typing.Laws.{and_true, one_value_by_test}
use Rattle.dslx_core.specs.Typing.Typed.Kinds.{each_of, is_of}
use Rattle.dslx_core.proofs.Lemmas.Typing.Typed.{none_some, one_type, same_some}
use Rattle.dslx_core.specs.CoreValues.{Bindings, Functions, core_value}
use Rattle.dslx_core.specs.Designs.{and_function, functions_from, no_function}
use Rattle.dslx_core.specs.declared.design.Function as core
use Rattle.dslx_core.specs.Lowering.CoreScopes.{CoreCallee, BodyEnv, CoreScope, with_local}
use Rattle.dslx_core.specs.Lowering.EqualTypes.{equal_type}
use Rattle.dslx_core.specs.Lowering.Trees.{lower_block_of_text}
use Rattle.dslx_core.specs.Lowering.Correspondence.{CallsSimulate, HidesNoConstant, IsOwn, SimulatesInScope, BodyEnvSimulates}
use Rattle.dslx_core.specs.Lowering.Functions.{CoreInstance, Instantiated, LoweredFunction, argument_types, arguments_in_scope, lower_function_body, callee_in, callee_of, core_function, instance_globals, instance_in, lower_instance, instances_from, is_instance, next_instance, parametric_args_are_well_typed, outer_scope}
use Rattle.dslx_core.specs.Lowering.Instances.{CallSettles, CallsSettle, InstanceSimulates, InstancesSimulate, ItemsAreOwn, functions_of_instances}
use Rattle.dslx_core.proofs.OnLowering.Joined.{block_of_text_means}
use Rattle.dslx_core.proofs.OnLowering.Kept.{from_then, from_where}
use Rattle.dslx_meaning.specs.Rules.EqualValues.{equal_value}
use Rattle.dslx_core.proofs.OnLowering.OneType.{one_by_test}
use Rattle.dslx_core.proofs.OnLowering.Slots.{named_simulates}

-- ---- parametrics

pub parametric_args_own : (items : Meanings) (gs : List Given) → parametric_args_are_well_typed items gs ≡ true → (name : List ℕ) (v : DslxValue) → given_in name gs ≡ Some v → IsOwn v
parametric_args_own items [] h name v e = none_some v e
parametric_args_own items (g ∷ gs) h name v e = by_name (bytes_eq name g.name) e (parametric_args_own items gs (parts.1) name v)
  where
    parts : ((not (items.is_constant g.name) && is_of (type_of_value g.value) g.value) ≡ true) × (parametric_args_are_well_typed items gs ≡ true)
    parts = and_true (not (items.is_constant g.name) && is_of (type_of_value g.value) g.value) (parametric_args_are_well_typed items gs) h

    by_name : (b : Bool) → (if b then Some g.value else given_in name gs) ≡ Some v → (given_in name gs ≡ Some v → IsOwn v) → IsOwn v
    by_name true q rest = subst IsOwn (same_some g.value v q) (and_true (not (items.is_constant g.name)) (is_of (type_of_value g.value) g.value) parts.0).1
    by_name false q rest = rest q

pub parametric_args_hide : (items : Meanings) (gs : List Given) → parametric_args_are_well_typed items gs ≡ true → HidesNoConstant items gs
parametric_args_hide items [] h name c = refl
parametric_args_hide items (g ∷ gs) h name c = by_name (bytes_eq name g.name) refl (parametric_args_hide items gs parts.1 name c)
  where
    parts : ((not (items.is_constant g.name) && is_of (type_of_value g.value) g.value) ≡ true) × (parametric_args_are_well_typed items gs ≡ true)
    parts = and_true (not (items.is_constant g.name) && is_of (type_of_value g.value) g.value) (parametric_args_are_well_typed items gs) h

    by_name : (b : Bool) → bytes_eq name g.name ≡ b → given_in name gs ≡ None → (if b then Some g.value else given_in name gs) ≡ None
    by_name true q rest =
        let free = (and_true (not (items.is_constant g.name)) (is_of (type_of_value g.value) g.value) parts.0).0 in
        absurd (true≢false (sym free ∙ ap (λ n. not (items.is_constant n)) (sym ((bytes_eq-Decides name g.name).0 q)) ∙ ap not c))
    by_name false q rest = rest

-- ---- arguments

record ArgumentsInScope (outer scope : CoreScope) (calls : Functions) (given : List Given) (bound : Bindings) : Type 0 where
  pub known : scope.known ≡ outer.known
  pub stands : SimulatesInScope scope calls given bound

arguments_simulate : (fs : List Field) (ts : List DslxType) (outer scope : CoreScope) → arguments_in_scope fs ts outer ≡ Some scope → (calls : Functions) (given : List Given) (bound : Bindings) → SimulatesInScope outer calls given bound
    → (vs : List DslxValue) → each_of (map is_of ts) vs ≡ true → ArgumentsInScope outer scope calls (operands_bound given fs vs) (bound ++ map plain_value vs)
arguments_simulate [] (t ∷ ts) outer scope e calls given bound h vs of = none_some scope e
arguments_simulate (f ∷ fs) [] outer scope e calls given bound h vs of = none_some scope e
arguments_simulate [] [] outer scope e calls given bound h (v ∷ vs) of = absurd (true≢false (sym of))
arguments_simulate [] [] outer scope e calls given bound h [] of =
    subst (λ p. ArgumentsInScope outer p calls given (bound ++ [])) (same_some outer scope e)
    (record { known = refl; stands = subst (SimulatesInScope outer calls given) (sym (nothing_behind bound)) h })
  where
    nothing_behind : (bs : Bindings) → (bs ++ []) ≡ bs
    nothing_behind [] = refl
    nothing_behind (b ∷ bs) = ap (λ cs. b ∷ cs) (nothing_behind bs)
arguments_simulate (f ∷ fs) (t ∷ ts) outer scope e calls given bound h [] of = absurd (true≢false (sym of))
arguments_simulate (f ∷ fs) (t ∷ ts) outer scope e calls given bound h (v ∷ vs) of =
    by_kind (outer.known.items.is_constant f.name.name) refl e
    (λ free k. arguments_simulate fs ts (with_local f.name.name t outer) scope k calls (record { name = f.name.name; value = v } ∷ given) (bound ++ plain_value v ∷ [])
    (named_simulates outer calls given bound f.name.name t v free q.0 h) vs q.1)
  where
    q : (is_of t v ≡ true) × (each_of (map is_of ts) vs ≡ true)
    q = and_true (is_of t v) (each_of (map is_of ts) vs) of

    by_kind : (b : Bool) → outer.known.items.is_constant f.name.name ≡ b → (if b then None else arguments_in_scope fs ts (with_local f.name.name t outer)) ≡ Some scope
        → (outer.known.items.is_constant f.name.name ≡ false → arguments_in_scope fs ts (with_local f.name.name t outer) ≡ Some scope
        → ArgumentsInScope (with_local f.name.name t outer) scope calls (operands_bound (record { name = f.name.name; value = v } ∷ given) fs vs) ((bound ++ plain_value v ∷ []) ++ map plain_value vs))
        → ArgumentsInScope outer scope calls (operands_bound given (f ∷ fs) (v ∷ vs)) (bound ++ map plain_value (v ∷ vs))
    by_kind true r k rest = none_some scope k
    by_kind false r k rest =
        let p = rest r k in
        record {
          known = p.known;
          stands = subst (SimulatesInScope scope calls (operands_bound (record { name = f.name.name; value = v } ∷ given) fs vs)) (append_assoc bound (plain_value v ∷ []) (map plain_value vs)) p.stands;
        }

each_length : (ts : List DslxType) (vs : List DslxValue) → each_of (map is_of ts) vs ≡ true → length vs ≡ length ts
each_length [] [] e = refl
each_length [] (v ∷ vs) e = absurd (true≢false (sym e))
each_length (t ∷ ts) [] e = absurd (true≢false (sym e))
each_length (t ∷ ts) (v ∷ vs) e = ap suc (each_length ts vs (and_true (is_of t v) (each_of (map is_of ts) vs) e).1)

length_of_plain : (vs : List DslxValue) → length (map plain_value vs) ≡ length vs
length_of_plain [] = refl
length_of_plain (v ∷ vs) = ap suc (length_of_plain vs)

-- an instance over what its calls give
pub instance_gives : (known : BodyEnv) (f : Function) (l : LoweredFunction) (calls : Functions) → BodyEnvSimulates known calls → lower_instance known f ≡ Some l
    → (operands : List DslxValue) (v : DslxValue) → each_of (map is_of l.arguments) operands ≡ true
    → value_of_block f.body (record { items = known.items; bound = operands_bound known.parametric_args f.arguments operands }) ≡ Some v
    → (is_of l.result v ≡ true) × (core_value l.body calls (map plain_value operands) ≡ Some (plain_value v))
instance_gives known f l calls stands e operands v of k =
    let w = from_where (parametric_args_are_well_typed known.items known.parametric_args) (and_then (argument_types known f.arguments) (lower_function_body known f)) l e in
    let ts = from_then (argument_types known f.arguments) (lower_function_body known f) l w.1 in
    let p = from_then (arguments_in_scope f.arguments ts.0 (outer_scope known)) (λ scope. and_then (lower_block_of_text f.body scope) (λ e. Some (record { arguments = ts.0; result = e.ty; body = e.core }))) l ts.2 in
    let b = from_then (lower_block_of_text f.body p.0) (λ e. Some (record { arguments = ts.0; result = e.ty; body = e.core })) l p.2 in
    let is = same_some (record { arguments = ts.0; result = b.0.ty; body = b.0.core }) l b.2 in
    let outer : SimulatesInScope (outer_scope known) calls known.parametric_args [] = record { known = stands; count = refl; slots = refl; hides = stands.hides } in
    let elaborated = arguments_simulate f.arguments ts.0 (outer_scope known) p.0 p.1 calls known.parametric_args [] outer operands (ap (λ (x : LoweredFunction). each_of (map is_of x.arguments) operands) is ∙ of) in
    let body = block_of_text_means f.body p.0 calls (operands_bound known.parametric_args f.arguments operands) (map plain_value operands) elaborated.stands b.0 b.1 v
    (ap (λ (g : BodyEnv). value_of_block f.body (record { items = g.items; bound = operands_bound known.parametric_args f.arguments operands })) elaborated.known ∙ k) in
    (ap (λ (x : LoweredFunction). is_of x.result v) (sym is) ∙ body.of, ap (λ (x : LoweredFunction). core_value x.body calls (map plain_value operands)) (sym is) ∙ body.core)

-- ---- the instance of a name and parametric arguments

pub all_one_number : (vs ws : List DslxValue) → pairwise equal_value vs ws ≡ true → vs ≡ ws
all_one_number [] [] e = refl
all_one_number [] (w ∷ ws) e = absurd (true≢false (sym e))
all_one_number (v ∷ vs) [] e = absurd (true≢false (sym e))
all_one_number (v ∷ vs) (w ∷ ws) e = let q = and_true (equal_value v w) (pairwise equal_value vs ws) e in λ i. one_value_by_test v w q.0 i ∷ all_one_number vs ws q.1 i

each_equal : (ts us : List DslxType) → pairwise equal_type ts us ≡ true → ts ≡ us
each_equal [] [] e = refl
each_equal [] (u ∷ us) e = absurd (true≢false (sym e))
each_equal (t ∷ ts) [] e = absurd (true≢false (sym e))
each_equal (t ∷ ts) (u ∷ us) e = let q = and_true (equal_type t u) (pairwise equal_type ts us) e in λ i. one_by_test t u q.0 i ∷ each_equal ts us q.1 i

record FoundInstance (name : List ℕ) (parametric_args : List DslxValue) (n : ℕ) (is : List CoreInstance) (p : ℕ × CoreInstance) : Type 0 where
  pub place : ℕ
  pub number : p.0 ≡ n + place
  pub there : slice_get is place ≡ Some p.1
  pub named : name ≡ p.1.name
  pub numbered : parametric_args ≡ p.1.parametric_args

found_instance : (name : List ℕ) (parametric_args : List DslxValue) (n : ℕ) (is : List CoreInstance) (p : ℕ × CoreInstance) → instance_in name parametric_args n is ≡ Some p → FoundInstance name parametric_args n is p
found_instance name parametric_args n [] p e = none_some p e
found_instance name parametric_args n (i ∷ is) p e = by_test (is_instance name parametric_args i) refl e (found_instance name parametric_args (suc n) is p)
  where
    further : (n k : ℕ) → (suc n + k) ≡ (n + suc k)
    further n k = omega arith

    by_test : (b : Bool) → is_instance name parametric_args i ≡ b → (if b then Some (n, i) else instance_in name parametric_args (suc n) is) ≡ Some p
        → (instance_in name parametric_args (suc n) is ≡ Some p → FoundInstance name parametric_args (suc n) is p) → FoundInstance name parametric_args n (i ∷ is) p
    by_test true q k rest =
        let t = and_true (bytes_eq name i.name) (pairwise equal_value parametric_args i.parametric_args) q in
        subst (FoundInstance name parametric_args n (i ∷ is)) (same_some (n, i) p k)
        (record { place = 0; number = omega arith; there = refl; named = (bytes_eq-Decides name i.name).0 t.0; numbered = all_one_number parametric_args i.parametric_args t.1 })
    by_test false q k rest =
        let r = rest k in
        record { place = suc r.place; number = r.number ∙ further n r.place; there = r.there; named = r.named; numbered = r.numbered }

-- ---- calls

each_own_type : (ts : List DslxType) (vs : List DslxValue) → each_of (map is_of ts) vs ≡ true → map type_of_value vs ≡ ts
each_own_type [] [] e = refl
each_own_type [] (v ∷ vs) e = absurd (true≢false (sym e))
each_own_type (t ∷ ts) [] e = absurd (true≢false (sym e))
each_own_type (t ∷ ts) (v ∷ vs) e = let q = and_true (is_of t v) (each_of (map is_of ts) vs) e in λ i. one_type t v q.0 i ∷ each_own_type ts vs q.1 i

-- instances that stand for those of the text, of functions that have what their texts give
abbrev pub AllStand : Module → Meanings → List CoreInstance → Functions → Type 0
AllStand m items instances calls = (k : ℕ) (i : CoreInstance) → slice_get instances k ≡ Some i → InstanceSimulates m items calls k i × CallSettles m items i.name

-- all functions have, where the items do
pub calls_settle : (m : Module) (items : Meanings) → meanings_over m items ≡ items → (is : List Instantiated) → CallsSettle m items is
calls_settle m items settled [] = tt
calls_settle m items settled (i ∷ is) = (λ given operands. ap (λ (x : Meanings). x.call i.name given operands) settled, calls_settle m items settled is)

pub calls_simulate : (m : Module) (items : Meanings) (instances : List CoreInstance) (calls : Functions) → AllStand m items instances calls → (parametric_args : List Given)
    → CallsSimulate (record { items = items; parametric_args = parametric_args; callee = callee_in m items instances }) calls
calls_simulate m items instances calls h bound name given operands types callee v low of source =
    let f = from_then (as_function (item_named name m.items)) (λ f. and_then (all_parametric_args items (inferred_from f.arguments types) [] f.parametrics given) (λ parametric_args. and_then (instance_in name parametric_args 0 instances) (callee_of types))) callee low in
    let n = from_then (all_parametric_args items (inferred_from f.0.arguments types) [] f.0.parametrics given) (λ parametric_args. and_then (instance_in name parametric_args 0 instances) (callee_of types)) callee f.2 in
    let p = from_then (instance_in name n.0 0 instances) (callee_of types) callee n.2 in
    let w = from_where (pairwise equal_type p.0.1.function.arguments types) (Some (record { number = p.0.0; result = p.0.1.function.result })) callee p.2 in
    let found = found_instance name n.0 0 instances p.0 p.1 in
    let is = same_some (record { number = p.0.0; result = p.0.1.function.result }) callee w.1 in
    let own : map type_of_value operands ≡ types = each_own_type types operands of in
    let there = h found.place p.0.1 found.there in
    let denotation : and_then (as_function (item_named name m.items)) (λ f. call_of items f given operands) ≡ Some v = subst (CallSettles m items) (sym found.named) there.1 given operands ∙ source in
    let called : call_of items f.0 given operands ≡ Some v = sym (ap (λ o. and_then o (λ f. call_of items f given operands)) f.1) ∙ denotation in
    let parametric_args : all_parametric_args items (inferred_from f.0.arguments (map type_of_value operands)) [] f.0.parametrics given ≡ Some n.0 = ap (λ ts. all_parametric_args items (inferred_from f.0.arguments ts) [] f.0.parametrics given) own ∙ n.1 in
    let gives : function_value items f.0 n.0 operands ≡ Some v = sym (ap (λ o. and_then o (λ parametric_args. function_value items f.0 parametric_args operands)) parametric_args) ∙ called in
    let stands =
    there.0 f.0 operands v (ap (λ n. as_function (item_named n m.items)) (sym found.named) ∙ f.1)
    (ap (λ ts. each_of (map is_of ts) operands) (each_equal p.0.1.function.arguments types w.0) ∙ of) (ap (λ ns. function_value items f.0 ns operands) (sym found.numbered) ∙ gives) in (
      ap (λ (c : CoreCallee). is_of c.result v) (sym is) ∙ stands.0,
      ap (λ (c : CoreCallee). calls c.number (map plain_value operands)) (sym is) ∙ ap (λ k. calls k (map plain_value operands)) (found.number ∙ nothing_added found.place) ∙ stands.1,
    )
  where
    nothing_added : (k : ℕ) → (0 + k) ≡ k
    nothing_added k = omega arith

-- ---- one more instance

pub at_the_end : {A : Type 0} (as' : List A) (b : A) (k : ℕ) (a : A) → slice_get (as' ++ b ∷ []) k ≡ Some a → (slice_get as' k ≡ Some a) ⊎ ((k ≡ length as') × (b ≡ a))
at_the_end [] b zero a e = inr (refl, same_some b a e)
at_the_end [] b (suc k) a e = none_some a e
at_the_end (x ∷ xs) b zero a e = inl e
at_the_end (x ∷ xs) b (suc k) a e = further (at_the_end xs b k a e)
  where
    further : (slice_get xs k ≡ Some a) ⊎ ((k ≡ length xs) × (b ≡ a)) → (slice_get xs k ≡ Some a) ⊎ ((suc k ≡ suc (length xs)) × (b ≡ a))
    further (inl p) = inl p
    further (inr p) = inr (ap suc p.0, p.1)

pub not_the_end : (k n : ℕ) → k < n → (k == n) ≡ false
not_the_end k n h = by_test (k == n) refl
  where
    by_test : (b : Bool) → (k == n) ≡ b → b ≡ false
    by_test true q = let same : k ≡ n = (Decides-eqb k n).0 q in absurd (omega (arith, h, same))
    by_test false q = refl

-- what stands for them, where one more comes behind them
grown : (m : Module) (items : Meanings) → ItemsAreOwn items → (before : List CoreInstance) (calls : Functions) → AllStand m items before calls → (i : Instantiated) (c : CoreInstance) → CallSettles m items i.name
    → next_instance m items before i ≡ Some c → AllStand m items (before ++ c ∷ []) (and_function (length before) (core_function c) calls)
grown m items own before calls h i c settled e k j there = by_scope (at_the_end before c k j there)
  where
    function : (f : Function) × (l : LoweredFunction) × (as_function (item_named i.name m.items) ≡ Some f) × (lower_instance (instance_globals m items before f i.parametric_args) f ≡ Some l)
        × (record { name = i.name; parametric_args = i.parametric_args; function = l } ≡ c)
    function =
        let f = from_then (as_function (item_named i.name m.items)) (λ f. and_then (lower_instance (instance_globals m items before f i.parametric_args) f) (λ l. Some (record { name = i.name; parametric_args = i.parametric_args; function = l }))) c e in
        let l = from_then (lower_instance (instance_globals m items before f.0 i.parametric_args) f.0) (λ l. Some (record { name = i.name; parametric_args = i.parametric_args; function = l })) c f.2 in
        (f.0, l.0, f.1, l.1, same_some (record { name = i.name; parametric_args = i.parametric_args; function = l.0 }) c l.2)

    own_globals : (f : Function) (l : LoweredFunction) → lower_instance (instance_globals m items before f i.parametric_args) f ≡ Some l → BodyEnvSimulates (instance_globals m items before f i.parametric_args) calls
    own_globals f l low =
        let known = instance_globals m items before f i.parametric_args in
        let test = (from_where (parametric_args_are_well_typed items known.parametric_args) (and_then (argument_types known f.arguments) (lower_function_body known f)) l low).0 in
        record {
          parametric_args = parametric_args_own items known.parametric_args test;
          constants = own.constants;
          members = own.members;
          hides = parametric_args_hide items known.parametric_args test;
          callees = calls_simulate m items before calls h known.parametric_args;
        }

    last : (f : Function) (l : LoweredFunction) → as_function (item_named i.name m.items) ≡ Some f → lower_instance (instance_globals m items before f i.parametric_args) f ≡ Some l
        → InstanceSimulates m items (and_function (length before) (core_function (record { name = i.name; parametric_args = i.parametric_args; function = l })) calls) (length before) (record { name = i.name; parametric_args = i.parametric_args; function = l })
    last f l found low g operands v named of source =
        let one : g ≡ f = same_some g f (sym named ∙ found) in
        let value = from_where (length operands == length f.arguments) (value_of_block f.body (record { items = items; bound = operands_bound (parametric_args_bound [] f.parametrics i.parametric_args) f.arguments operands })) v
        (ap (λ x. function_value items x i.parametric_args operands) (sym one) ∙ source) in
        let gives = instance_gives (instance_globals m items before f i.parametric_args) f l calls (own_globals f l low) low operands v of value.1 in
        let count : (length (map plain_value operands) == length l.arguments) ≡ true =
        (Decides-eqb (length (map plain_value operands)) (length l.arguments)).1 (length_of_plain operands ∙ each_length l.arguments operands of) in (
          gives.0,
          ap (λ b. if b then (if length (map plain_value operands) == length l.arguments then core_value l.body calls (map plain_value operands) else None) else calls (length before) (map plain_value operands))
              ((Decides-eqb (length before) (length before)).1 refl)
              ∙ ap (λ b. if b then core_value l.body calls (map plain_value operands) else None) count ∙ gives.1,
        )

    earlier : slice_get before k ≡ Some j → InstanceSimulates m items (and_function (length before) (core_function c) calls) k j
    earlier p f operands v named of source =
        let stands = (h k j p).0 f operands v named of source in (
          stands.0,
          ap (λ b. if b then (if length (map plain_value operands) == length c.function.arguments then core_value c.function.body calls (map plain_value operands) else None) else calls k (map plain_value operands))
              (not_the_end k (length before) (slice_get_within before k j p))
              ∙ stands.1,
        )

    by_scope : (slice_get before k ≡ Some j) ⊎ ((k ≡ length before) × (c ≡ j)) → InstanceSimulates m items (and_function (length before) (core_function c) calls) k j × CallSettles m items j.name
    by_scope (inl p) = (earlier p, (h k j p).1)
    by_scope (inr p) =
        let q = function in (
          subst (λ n. InstanceSimulates m items (and_function (length before) (core_function c) calls) n j) (sym p.0)
              (subst (InstanceSimulates m items (and_function (length before) (core_function c) calls) (length before)) p.1
              (subst (λ x. InstanceSimulates m items (and_function (length before) (core_function x) calls) (length before) x) q.4 (last q.0 q.1 q.2 q.3))),
          subst (λ (x : CoreInstance). CallSettles m items x.name) (q.4 ∙ p.1) settled,
        )

functions_behind : (n : ℕ) (fs : List core.Function) (f : core.Function) (before : Functions) → functions_from n (fs ++ f ∷ []) before ≡ and_function (n + length fs) f (functions_from n fs before)
functions_behind n [] f before = ap (λ k. and_function k f before) (nothing n)
  where
    nothing : (n : ℕ) → n ≡ (n + 0)
    nothing n = omega arith
functions_behind n (g ∷ fs) f before = functions_behind (suc n) fs f (and_function n g before) ∙ ap (λ k. and_function k f (functions_from (suc n) fs (and_function n g before))) (further n (length fs))
  where
    further : (n k : ℕ) → (suc n + k) ≡ (n + suc k)
    further n k = omega arith

one_more_function : (before : List CoreInstance) (c : CoreInstance) → functions_of_instances (before ++ c ∷ []) ≡ and_function (length before) (core_function c) (functions_of_instances before)
one_more_function before c =
    ap (λ fs. functions_from 0 fs no_function) (each before) ∙ functions_behind 0 (map core_function before) (core_function c) no_function
    ∙ ap (λ k. and_function k (core_function c) (functions_of_instances before)) (nothing_added (length (map core_function before)) ∙ as_long before)
  where
    each : (is : List CoreInstance) → map core_function (is ++ c ∷ []) ≡ (map core_function is ++ core_function c ∷ [])
    each [] = refl
    each (i ∷ is) = ap (λ fs. core_function i ∷ fs) (each is)

    as_long : (is : List CoreInstance) → length (map core_function is) ≡ length is
    as_long [] = refl
    as_long (i ∷ is) = ap suc (as_long is)

    nothing_added : (k : ℕ) → (0 + k) ≡ k
    nothing_added k = omega arith

instances_simulate_behind : (m : Module) (items : Meanings) → ItemsAreOwn items → (is : List Instantiated) → CallsSettle m items is → (before table : List CoreInstance)
    → AllStand m items before (functions_of_instances before) → instances_from m items before is ≡ Some table → AllStand m items table (functions_of_instances table)
instances_simulate_behind m items own [] settled before table h e = subst (λ t. AllStand m items t (functions_of_instances t)) (same_some before table e) h
instances_simulate_behind m items own (i ∷ is) settled before table h e =
    let c = from_then (next_instance m items before i) (λ c. instances_from m items (before ++ c ∷ []) is) table e in
    instances_simulate_behind m items own is settled.1 (before ++ c.0 ∷ []) table
    (subst (AllStand m items (before ++ c.0 ∷ [])) (sym (one_more_function before c.0)) (grown m items own before (functions_of_instances before) h i c.0 settled.0 c.1)) c.2

-- all instances, each of which calls those before it
pub instances_stand : (m : Module) (items : Meanings) → ItemsAreOwn items → (is : List Instantiated) (table : List CoreInstance) → CallsSettle m items is → instances_from m items [] is ≡ Some table
    → AllStand m items table (functions_of_instances table)
instances_stand m items own is table settled e = instances_simulate_behind m items own is settled [] table (λ k i q. none_some i q) e

pub instances_simulate : (m : Module) (items : Meanings) → ItemsAreOwn items → (is : List Instantiated) (table : List CoreInstance) → CallsSettle m items is → instances_from m items [] is ≡ Some table → InstancesSimulate m items table
instances_simulate m items own is table settled e k i q = (instances_stand m items own is table settled e k i q).0
