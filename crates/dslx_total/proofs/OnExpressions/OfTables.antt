-- Tables of instances, in which each calls those before it.
use Rattle.dslx_meaning.specs.declared.ty.DslxType.{DslxType}
use Rattle.dslx_tree.specs.declared.item.Definition.TheVariants as d
use mathlib.Core.Bool.{true≢false}
use Rattle.std.specs.Str.{bytes_eq}
use Rattle.std.specs.List.{list_all}
use Rattle.std.proofs.lemmas.List.{append-nil, append_assoc}
use Rattle.std.proofs.lemmas.Slice.Eq.{bytes_eq-Decides}
use Rattle.std.proofs.Common.{Bool, List, None, Option, Some, [], ap, false, if◌then◌else◌, length, map, not, refl, subst, suc, sym, true, ℕ, ◌&&◌, ◌++◌, ◌||◌, ◌∙◌, ◌∷◌, ◌≡◌}
use Rattle.dslx_core.proofs.Lemmas.Typing.Typed.{list_parts, none_some, own_bound, same_some}
use Rattle.dslx_tree.specs.declared.item.Item.{Item}
use Rattle.dslx_tree.specs.declared.item.Function.{Function}
use Rattle.dslx_tree.specs.declared.item.Field.{Field}
use Rattle.dslx_tree.specs.declared.item.Definition.{Definition}
use Rattle.dslx_core.proofs.Lemmas.Typing.Complete.{item_typed, none_own}
use Rattle.dslx_core.proofs.Lemmas.Typing.Sound.{some_fault}
use Rattle.dslx_meaning.specs.Rules.TypeEnvs.{Signature, Instance, GlobalEnv}
use Rattle.dslx_meaning.specs.Rules.ItemRules.{function_type_env, item_type_env, typing_of_inner}
use Rattle.dslx_meaning.specs.Rules.ModuleRules.{declared_type}
use Rattle.dslx_meaning.specs.Rules.TypeRules.{unless_unit}
use Rattle.dslx_meaning.specs.declared.value.DslxValue.{DslxValue}
use Rattle.dslx_meaning.specs.Types.{is_unit}
use Rattle.dslx_meaning.specs.Lists.{and_then, pairwise, where_true}
use Rattle.dslx_meaning.specs.Items.{all_parametric_args, as_function, inferred_from, inferred_value, item_named, name_of_definition, parametric_args_bound, put_first, with_number}
use Rattle.dslx_meaning.specs.Environment.{Given, Meanings}
use Rattle.dslx_meaning.specs.Inference.{Inferred, inferred_for}
use Rattle.dslx_tree.specs.declared.item.Parametric.{Parametric}
use Rattle.dslx_total.specs.Expressions.Instances.{InstanceLowers}
use Rattle.dslx_total.specs.Expressions.InstanceLists.{AreThere, CanLower, EachReachesThoseBefore, HaveTable, IsAsTyped, ReachesThese, is_among}
use Rattle.dslx_total.specs.Expressions.Beside.{AreDeclaredFor, CallsAreKnown, ScopeMatchesEnv}
use Rattle.dslx_total.proofs.OnExpressions.OfInstances.{instance_is_lowered}
use Rattle.dslx_total.proofs.OnExpressions.Equal.{equal_itself}
use Rattle.dslx_core.specs.Lowering.Functions.{CoreInstance, Instantiated, LoweredFunction, callee_in, callee_of, instance_in, instance_globals, lower_instance, instances_from, is_instance, next_instance, outer_scope}
use Rattle.dslx_meaning.specs.Rules.EqualValues.{equal_value}
use Rattle.dslx_core.specs.Lowering.EqualTypes.{equal_type}
use Rattle.dslx_core.proofs.Lemmas.Typing.Laws.{and_true}
use Rattle.dslx_core.proofs.Lemmas.Lowering.{all_one_number}

-- ---- names

-- a function has the name by which it is found
function_named : (name : List ℕ) (is : List Item) (f : Function) → as_function (item_named name is) ≡ Some f → f.name.name ≡ name
function_named name [] f e = none_some f e
function_named name (i ∷ is) f e = by_name (bytes_eq name (name_of_definition i.definition)) refl e (function_named name is f)
  where
    by_definition : (x : Definition) → as_function (Some x) ≡ Some f → f.name.name ≡ name_of_definition x
    by_definition (d.Function g) q = ap (λ (g : Function). g.name.name) (sym (same_some g f q))
    by_definition (d.Proc p) q = none_some f q
    by_definition (d.Constant c) q = none_some f q
    by_definition (d.Alias a) q = none_some f q
    by_definition (d.Struct s) q = none_some f q
    by_definition (d.Enum x) q = none_some f q

    by_name : (b : Bool) → bytes_eq name (name_of_definition i.definition) ≡ b → as_function (if b then Some i.definition else item_named name is) ≡ Some f → (as_function (item_named name is) ≡ Some f → f.name.name ≡ name)
        → f.name.name ≡ name
    by_name true q r rest = by_definition i.definition r ∙ sym ((bytes_eq-Decides name (name_of_definition i.definition)).0 q)
    by_name false q r rest = rest r

-- ---- instances of the table

-- an instance of a function of the text, of the types that are judged
pub record IsInTable (known : GlobalEnv) (i : Instantiated) (c : CoreInstance) : Type 0 where
  pub name : c.name ≡ i.name
  pub parametric_args : c.parametric_args ≡ i.parametric_args
  pub function : Function
  pub is : as_function (item_named i.name known.whole.items) ≡ Some function
  pub types : IsAsTyped known function
  pub lowered : InstanceLowers known function i.parametric_args (Some c.function)

abbrev pub TableHas : GlobalEnv → List Instantiated → List CoreInstance → Type 0
TableHas known [] [] = Unit {0}
TableHas known (i ∷ is) (c ∷ cs) = IsInTable known i c × TableHas known is cs
TableHas known [] (c ∷ cs) = ⊥
TableHas known (i ∷ is) [] = ⊥

pub one_more : (known : GlobalEnv) (is : List Instantiated) (cs : List CoreInstance) (i : Instantiated) (c : CoreInstance) → TableHas known is cs → IsInTable known i c → TableHas known (is ++ i ∷ []) (cs ++ c ∷ [])
one_more known [] [] i c h k = (k, tt)
one_more known [] (d ∷ ds) i c h k = absurd h
one_more known (j ∷ js) [] i c h k = absurd h
one_more known (j ∷ js) (d ∷ ds) i c h k = (h.0, one_more known js ds i c h.1 k)

-- what is found
record FoundThere (known : GlobalEnv) (name : List ℕ) (parametric_args : List DslxValue) (n : ℕ) (cs : List CoreInstance) : Type 0 where
  found : ℕ × CoreInstance
  is : instance_in name parametric_args n cs ≡ Some found
  function : Function
  named : as_function (item_named name known.whole.items) ≡ Some function
  types : IsAsTyped known function
  lowered : InstanceLowers known function parametric_args (Some found.1.function)

found_there : (known : GlobalEnv) (name : List ℕ) (parametric_args : List DslxValue) (n : ℕ) (is : List Instantiated) (cs : List CoreInstance) → TableHas known is cs → is_among is (record { name = name; parametric_args = parametric_args }) ≡ true
    → FoundThere known name parametric_args n cs
found_there known name parametric_args n [] [] h e = absurd (true≢false (sym e))
found_there known name parametric_args n [] (c ∷ cs) h e = absurd h
found_there known name parametric_args n (i ∷ is) [] h e = absurd h
found_there known name parametric_args n (i ∷ is) (c ∷ cs) h e =
    by_test (bytes_eq name i.name && pairwise equal_value parametric_args i.parametric_args) refl e (found_there known name parametric_args (suc n) is cs h.1)
  where
    same : is_instance name parametric_args c ≡ (bytes_eq name i.name && pairwise equal_value parametric_args i.parametric_args)
    same = λ k. bytes_eq name (h.0.name k) && pairwise equal_value parametric_args (h.0.parametric_args k)

    by_test : (b : Bool) → (bytes_eq name i.name && pairwise equal_value parametric_args i.parametric_args) ≡ b → (b || is_among is (record { name = name; parametric_args = parametric_args })) ≡ true
        → (is_among is (record { name = name; parametric_args = parametric_args }) ≡ true → FoundThere known name parametric_args (suc n) cs) → FoundThere known name parametric_args n (c ∷ cs)
    by_test true q r rest =
        let t = and_true (bytes_eq name i.name) (pairwise equal_value parametric_args i.parametric_args) q in
        let one = (bytes_eq-Decides name i.name).0 t.0 in
        record {
          found = (n, c);
          is = ap (λ b. if b then Some (n, c) else instance_in name parametric_args (suc n) cs) (same ∙ q);
          function = h.0.function;
          named = ap (λ n. as_function (item_named n known.whole.items)) one ∙ h.0.is;
          types = h.0.types;
          lowered = subst (λ vs. InstanceLowers known h.0.function vs (Some c.function)) (sym (all_one_number parametric_args i.parametric_args t.1)) h.0.lowered;
        }
    by_test false q r rest =
        let f = rest r in
        record { found = f.found; is = ap (λ b. if b then Some (n, c) else instance_in name parametric_args (suc n) cs) (same ∙ q) ∙ f.is; function = f.function; named = f.named; types = f.types; lowered = f.lowered }

-- ---- calls

-- types that are declared for the arguments are those of the function
arguments_equal : (known : GlobalEnv) (owner : List ℕ) (bound : List Given) (fs : List Field) (us ts : List DslxType)
    → map (λ (a : Field). (typing_of_inner (item_type_env known owner bound) a.ty).ty) fs ≡ map Some us → list_all (λ t. not (is_unit t)) us ≡ true → AreDeclaredFor (map (λ (a : Field). declared_type (item_type_env known owner bound) a.ty) fs) ts → pairwise equal_type us ts ≡ true
arguments_equal known owner bound [] [] [] j u d = refl
arguments_equal known owner bound [] [] (t ∷ ts) j u d = absurd d
arguments_equal known owner bound [] (x ∷ us) ts j u d = some_fault (Some x) (map Some us) (sym j)
arguments_equal known owner bound (g ∷ fs) us [] j u d = absurd d
arguments_equal known owner bound (g ∷ fs) [] (t ∷ ts) j u d = some_fault (typing_of_inner (item_type_env known owner bound) g.ty).ty (map (λ (a : Field). (typing_of_inner (item_type_env known owner bound) a.ty).ty) fs) j
arguments_equal known owner bound (g ∷ fs) (x ∷ us) (t ∷ ts) j u d =
    let context = item_type_env known owner bound in
    let p = list_parts (typing_of_inner context g.ty).ty (Some x) (map (λ (a : Field). (typing_of_inner context a.ty).ty) fs) (map Some us) j in
    let q = and_true (not (is_unit x)) (list_all (λ t. not (is_unit t)) us) u in
    let declared : declared_type context g.ty ≡ Some x = ap unless_unit p.0 ∙ ap (λ b. if b then None else Some x) (is_false (is_unit x) q.0) in
    λ i. (ap (equal_type x) (sym (d.0 x declared)) ∙ equal_itself x) i && arguments_equal known owner bound fs us ts p.1 q.1 d.1 i
  where
    is_false : (b : Bool) → not b ≡ true → b ≡ false
    is_false true e = absurd (true≢false (sym e))
    is_false false e = refl

-- all parametrics have values, as many as they are
put_many : (v : DslxValue) (o : Option (List DslxValue)) (vs : List DslxValue) (n : ℕ) → ((ws : List DslxValue) → o ≡ Some ws → length ws ≡ n) → put_first v o ≡ Some vs → length vs ≡ suc n
put_many v (Some ws) vs n h e = sym (ap length (same_some (v ∷ ws) vs e)) ∙ ap suc (h ws refl)
put_many v None vs n h e = none_some vs e

args_many : (items : Meanings) (inferred : List Inferred) (so_far : List Given) (ps : List Parametric) (given vs : List DslxValue) → all_parametric_args items inferred so_far ps given ≡ Some vs → length vs ≡ length ps
args_many items inferred so_far [] [] vs e = sym (ap length (same_some [] vs e))
args_many items inferred so_far [] (g ∷ given) vs e = none_some vs e
args_many items inferred so_far (p ∷ ps) (g ∷ given) vs e =
    put_many g (all_parametric_args items inferred (with_number so_far p g) ps given) vs (length ps) (args_many items inferred (with_number so_far p g) ps given) e
args_many items inferred so_far (p ∷ ps) [] vs e =
    by_value (inferred_value (record { items = items; bound = so_far }) p (inferred_for p.name.name inferred)) e (λ v. args_many items inferred (with_number so_far p v) ps [])
  where
    by_value : (o : Option DslxValue) → and_then o (λ v. put_first v (all_parametric_args items inferred (with_number so_far p v) ps [])) ≡ Some vs
        → ((v : DslxValue) (ws : List DslxValue) → all_parametric_args items inferred (with_number so_far p v) ps [] ≡ Some ws → length ws ≡ length ps) → length vs ≡ suc (length ps)
    by_value None q rest = none_some vs q
    by_value (Some v) q rest = put_many v (all_parametric_args items inferred (with_number so_far p v) ps []) vs (length ps) (rest v) q

pub calls_known : (known : GlobalEnv) → (is : List Instantiated) (cs : List CoreInstance) → TableHas known is cs → (here : Instance → Bool) → AreThere here known is → (parametric_args : List Given)
    → CallsAreKnown here known (record { items = known.items; parametric_args = parametric_args; callee = callee_in known.whole known.items cs })
calls_known known is cs table here among outer name f given parametric_args types named found own reached fits =
    let same = function_named name known.whole.items f named in
    let again = ap (λ n. as_function (item_named n known.whole.items)) same ∙ named in
    let there = subst (λ n. is_among is (record { name = n; parametric_args = parametric_args }) ≡ true) same (among (record { name = f.name.name; parametric_args = parametric_args }) f again own reached) in
    let c = found_there known name parametric_args 0 is cs table there in
    let one = same_some c.function f (sym c.named ∙ named) in
    let typing = subst (IsAsTyped known) one c.types parametric_args (args_many known.items (inferred_from f.arguments types) [] f.parametrics given parametric_args found) in
    let lowered = subst (λ g. InstanceLowers known g parametric_args (Some c.found.1.function)) one c.lowered in
    let function = same_some c.found.1.function lowered.function lowered.is in
    let bound = parametric_args_bound [] f.parametrics parametric_args in
    let equal = arguments_equal known f.name.name bound f.arguments lowered.function.arguments types lowered.arguments lowered.inner
    (subst (λ (x : Signature). AreDeclaredFor x.arguments types) typing fits) in
    record {
      callee = record { number = c.found.0; result = c.found.1.function.result };
      is = ap (λ o. and_then o (λ f. and_then (all_parametric_args known.items (inferred_from f.arguments types) [] f.parametrics given) (λ parametric_args. and_then (instance_in name parametric_args 0 cs) (callee_of types)))) named
          ∙ ap (λ o. and_then o (λ parametric_args. and_then (instance_in name parametric_args 0 cs) (callee_of types))) found
          ∙ ap (λ o. and_then o (callee_of types)) c.is
          ∙ ap (λ b. where_true b (Some (record { number = c.found.0; result = c.found.1.function.result }))) (ap (λ (l : LoweredFunction). pairwise equal_type l.arguments types) function ∙ equal);
      result = ap (λ (x : Signature). x.result) typing ∙ lowered.result ∙ ap (λ (l : LoweredFunction). Some l.result) (sym function);
    }

-- ---- all instances

pub next_there : (known : GlobalEnv) → CanLower known → (is : List Instantiated) (cs : List CoreInstance) → TableHas known is cs → (i : Instantiated) → ReachesThese known is i
    → (c : CoreInstance) × (next_instance known.whole known.items cs i ≡ Some c) × IsInTable known i c
next_there known can is cs table i r =
    let core = instance_globals known.whole known.items cs r.function i.parametric_args in
    let bound = parametric_args_bound [] r.function.parametrics i.parametric_args in
    let at : ScopeMatchesEnv r.here (function_type_env known r.function i.parametric_args) (outer_scope core) = record {
      items = refl;
      parametric_args = refl;
      locals = refl;
      sound = r.sound;
      calls = calls_known known is cs table r.here r.there bound;
      widths = can.widths;
      constants = λ name v q. (can.typed.constants name v q).declared;
    } in
    let typed = item_typed known can.complete can.typed r.function.name.name bound (own_bound known.items.type_named [] r.function.parametrics i.parametric_args (none_own known) r.own) in
    let l = instance_is_lowered r.here known r.function i.parametric_args core r.own typed at r.clean in
    let c : CoreInstance = record { name = i.name; parametric_args = i.parametric_args; function = l.function } in (
      c,
      ap (λ o. and_then o (λ f. and_then (lower_instance (instance_globals known.whole known.items cs f i.parametric_args) f) (λ l. Some (record { name = i.name; parametric_args = i.parametric_args; function = l })))) r.is
          ∙ ap (λ o. and_then o (λ l. Some (record { name = i.name; parametric_args = i.parametric_args; function = l }))) l.is,
      record { name = refl; parametric_args = refl; function = r.function; is = r.is; types = r.types; lowered = record { function = l.function; is = refl; arguments = l.arguments; inner = l.inner; result = l.result } },
    )

-- those behind the ones of a table
more_there : (known : GlobalEnv) → CanLower known → (before : List Instantiated) (cs : List CoreInstance) → TableHas known before cs → (is : List Instantiated) → EachReachesThoseBefore known before is
    → (table : List CoreInstance) × (instances_from known.whole known.items cs is ≡ Some table) × TableHas known (before ++ is) table
more_there known can before cs table [] r = (cs, refl, subst (λ xs. TableHas known xs cs) (sym (append-nil before)) table)
more_there known can before cs table (i ∷ is) r =
    let c = next_there known can before cs table i r.0 in
    let more = more_there known can (before ++ i ∷ []) (cs ++ c.0 ∷ []) (one_more known before cs i c.0 table c.2) is r.1 in (
      more.0,
      ap (λ o. and_then o (λ c. instances_from known.whole known.items (cs ++ c ∷ []) is)) c.1 ∙ more.1,
      subst (λ xs. TableHas known xs more.0) (append_assoc before (i ∷ []) is) more.2,
    )

as_many : (known : GlobalEnv) (is : List Instantiated) (cs : List CoreInstance) → TableHas known is cs → length cs ≡ length is
as_many known [] [] h = refl
as_many known [] (c ∷ cs) h = absurd h
as_many known (i ∷ is) [] h = absurd h
as_many known (i ∷ is) (c ∷ cs) h = ap suc (as_many known is cs h.1)

pub instances_have_table : (known : GlobalEnv) → CanLower known → (is : List Instantiated) → EachReachesThoseBefore known [] is → HaveTable known is
instances_have_table known can is r =
    let t = more_there known can [] [] tt is r in
    record { table = t.0; lowered = t.1; many = as_many known is t.0 t.2; calls = λ here among parametric_args. calls_known known is t.0 t.2 here among parametric_args }
