-- Tables of instances have types.
use Rattle.std.proofs.Common.{◌≡◌, ◌++◌, ◌+◌, ℕ, zero, suc, Bool, true, false, if◌then◌else◌, List, [], ◌∷◌, map, length, Some, refl, sym, ap, subst, ◌∙◌, arith, length-append}
use Rattle.std.specs.Prelude.{slice_get}
use Rattle.std.specs.Str.{bytes_eq}
use Rattle.std.proofs.lemmas.List.{append_assoc, append-nil}
use Rattle.dslx_tree.specs.declared.item.Function.{Function}
use Rattle.dslx_tree.specs.declared.item.Module.{Module}
use Rattle.dslx_tree.specs.declared.item.Parametric.{Parametric}
use Rattle.dslx_meaning.specs.Environment.{Given, Meanings, given_in}
use Rattle.dslx_meaning.specs.Items.{all_parametric_args, as_function, inferred_from, item_named, parametric_args_bound, with_number}
use Rattle.dslx_meaning.specs.Lists.{and_then, pairwise}
use Rattle.dslx_meaning.specs.Types.{plain_type}
use Rattle.dslx_meaning.specs.declared.ty.DslxType.{DslxType}
use Rattle.dslx_meaning.specs.declared.value.DslxValue.{DslxValue}
use Rattle.dslx_meaning.specs.Rules.ItemRules.{function_type_env}
use Rattle.dslx_meaning.specs.Rules.TypeEnvs.{GlobalEnv}
use Rattle.dslx_core.proofs.Lemmas.Lowering.{from_then, from_where}
use Rattle.dslx_core.proofs.Lemmas.Typing.Complete.{item_typed, none_own}
use Rattle.dslx_core.proofs.Lemmas.Typing.Laws.{and_true}
use Rattle.dslx_core.proofs.Lemmas.Typing.Typed.{none_some, own_bound, same_some}
use Rattle.dslx_core.specs.Lowering.CoreScopes.{CoreCallee}
use Rattle.dslx_core.specs.Lowering.EqualTypes.{equal_type}
use Rattle.dslx_core.specs.Lowering.Functions.{CoreInstance, Instantiated, callee_in, callee_of, core_function, instance_globals, instance_in, instances_from, is_instance, lower_instance, next_instance, outer_scope}
use Rattle.dslx_core.specs.Types.Designs.{AreTypedFunctions, IsTypedFunction, and_signature, no_types, types_from}
use Rattle.dslx_core.specs.Types.Typing.{FunctionTypes, is_type}
use Rattle.dslx_core.proofs.Lemmas.Types.{where_so}
use Rattle.dslx_total.proofs.Lemmas.Expressions.{TableHas, calls_known, next_there, one_instance_more}
use Rattle.dslx_total.specs.Expressions.Beside.{ScopeMatchesEnv}
use Rattle.dslx_total.specs.Expressions.InstanceLists.{CanLower, EachReachesThoseBefore, ReachesThese}
use Rattle.dslx_total.specs.Typed.Functions.{AllSound, AreSoundItems, EachSound, FunctionIsTyped, functions_of, signature_of_function, signatures_of}
use Rattle.dslx_total.specs.Typed.Scopes.{IsSoundValue, TypedBody, is_sound_type}
use Rattle.dslx_total.proofs.OnTyped.OfFunctions.{instance_is_typed}
use Rattle.dslx_total.proofs.OnTyped.OnOneType.{one_by_test}
use Rattle.dslx_total.proofs.OnTyped.OnSignatures.{all_plain_sound, one_of_them, one_signature_more, own_operands}

-- ---- what calls come to

abbrev EachResultSound : List CoreInstance → Type 0
EachResultSound [] = Unit {0}
EachResultSound (c ∷ cs) = (is_sound_type c.function.result ≡ true) × EachResultSound cs

found_at : (name : List ℕ) (parametric_args : List DslxValue) (n : ℕ) (cs : List CoreInstance) (p : ℕ × CoreInstance) → instance_in name parametric_args n cs ≡ Some p → (j : ℕ) × (p.0 ≡ n + j) × (slice_get cs j ≡ Some p.1)
found_at name parametric_args n [] p e = none_some p e
found_at name parametric_args n (c ∷ cs) p e = by (is_instance name parametric_args c) e (λ later. found_at name parametric_args (suc n) cs p later)
  where
    by : (b : Bool) → (if b then Some (n, c) else instance_in name parametric_args (suc n) cs) ≡ Some p → (instance_in name parametric_args (suc n) cs ≡ Some p → (j : ℕ) × (p.0 ≡ suc n + j) × (slice_get cs j ≡ Some p.1))
        → (j : ℕ) × (p.0 ≡ n + j) × (slice_get (c ∷ cs) j ≡ Some p.1)
    by true q rest =
        let same = same_some (n, c) p q in
        let first : p.0 ≡ n = ap (λ (p : ℕ × CoreInstance). p.0) (sym same) in
        (0, first ∙ omega arith, ap (λ (p : ℕ × CoreInstance). Some p.1) same)
    by false q rest =
        let f = rest q in
        (suc f.0, f.1 ∙ omega arith, f.2)

result_at : (cs : List CoreInstance) (j : ℕ) (c : CoreInstance) → EachResultSound cs → slice_get cs j ≡ Some c → is_sound_type c.function.result ≡ true
result_at [] j c h e = none_some c e
result_at (d ∷ cs) zero c h e = ap (λ (c : CoreInstance). is_sound_type c.function.result) (sym (same_some d c e)) ∙ h.0
result_at (d ∷ cs) (suc j) c h e = result_at cs j c h.1 e

signature_at : (cs : List CoreInstance) (j : ℕ) (c : CoreInstance) → slice_get cs j ≡ Some c → slice_get (signatures_of cs) j ≡ Some (signature_of_function c.function)
signature_at [] j c e = none_some c e
signature_at (d ∷ cs) zero c e = ap (λ (c : CoreInstance). Some (signature_of_function c.function)) (same_some d c e)
signature_at (d ∷ cs) (suc j) c e = signature_at cs j c e

all_one : (us ts : List DslxType) → pairwise equal_type us ts ≡ true → us ≡ ts
all_one [] [] e = refl
all_one [] (t ∷ ts) e = absurd (cc)
all_one (u ∷ us) [] e = absurd (cc)
all_one (u ∷ us) (t ∷ ts) e =
    let q = and_true (equal_type u t) (pairwise equal_type us ts) e in
    λ i. one_by_test u t q.0 i ∷ all_one us ts q.1 i

pub callee_typed : (m : Module) (items : Meanings) (cs : List CoreInstance) → EachResultSound cs → (name : List ℕ) (given : List DslxValue) (ts : List DslxType) (callee : CoreCallee) → callee_in m items cs name given ts ≡ Some callee
    → (types_from 0 (signatures_of cs) no_types callee.number (map plain_type ts) ≡ Some (plain_type callee.result)) × (is_sound_type callee.result ≡ true)
callee_typed m items cs h name given ts callee e =
    let f = from_then (as_function (item_named name m.items)) (λ f. and_then (all_parametric_args items (inferred_from f.arguments ts) [] f.parametrics given) (λ parametric_args. and_then (instance_in name parametric_args 0 cs) (callee_of ts))) callee e in
    let a = from_then (all_parametric_args items (inferred_from f.0.arguments ts) [] f.0.parametrics given) (λ parametric_args. and_then (instance_in name parametric_args 0 cs) (callee_of ts)) callee f.2 in
    let p = from_then (instance_in name a.0 0 cs) (callee_of ts) callee a.2 in
    let c = from_where (pairwise equal_type p.0.1.function.arguments ts) (Some (record { number = p.0.0; result = p.0.1.function.result })) callee p.2 in
    let at = found_at name a.0 0 cs p.0 p.1 in
    let sig = signature_of_function p.0.1.function in
    let same = all_one p.0.1.function.arguments ts c.0 in
    subst (λ (k : CoreCallee). (types_from 0 (signatures_of cs) no_types k.number (map plain_type ts) ≡ Some (plain_type k.result)) × (is_sound_type k.result ≡ true)) (same_some (record { number = p.0.0; result = p.0.1.function.result }) callee c.1) (
      ap (λ n. types_from 0 (signatures_of cs) no_types n (map plain_type ts)) at.1
          ∙ one_of_them 0 (signatures_of cs) no_types at.0 sig (map plain_type ts) (signature_at cs at.0 p.0.1 at.2)
          ∙ where_so (pairwise is_type sig.arguments (map plain_type ts)) (Some sig.result) (ap (λ us. pairwise is_type (map plain_type us) (map plain_type ts)) same ∙ own_operands (map plain_type ts)),
      result_at cs at.0 p.0.1 h at.2,
    )

-- ---- parametrics

bound_sound : (so_far : List Given) (ps : List Parametric) (vs : List DslxValue) → AllSound vs → ((name : List ℕ) (v : DslxValue) → given_in name so_far ≡ Some v → IsSoundValue v)
    → (name : List ℕ) (v : DslxValue) → given_in name (parametric_args_bound so_far ps vs) ≡ Some v → IsSoundValue v
bound_sound so_far [] vs h k name v e = k name v e
bound_sound so_far (p ∷ ps) [] h k name v e = k name v e
bound_sound so_far (p ∷ ps) (w ∷ vs) h k name v e = bound_sound (with_number so_far p w) ps vs h.1 one name v e
  where
    one : (name : List ℕ) (v : DslxValue) → given_in name (with_number so_far p w) ≡ Some v → IsSoundValue v
    one name v q = by (bytes_eq name p.name.name) q
      where
        by : (b : Bool) → (if b then Some w else given_in name so_far) ≡ Some v → IsSoundValue v
        by true r = subst IsSoundValue (same_some w v r) h.0
        by false r = k name v r

-- ---- one instance

as_many : (ts : List DslxType) → length (map plain_type ts) ≡ length ts
as_many [] = refl
as_many (t ∷ ts) = ap suc (as_many ts)

function_typed : (functions : FunctionTypes) (c : CoreInstance) → FunctionIsTyped functions c.function → IsTypedFunction functions (signature_of_function c.function) (core_function c)
function_typed functions c k = record { arity = as_many c.function.arguments; sound = all_plain_sound c.function.arguments k.arguments; body = k.body }

body_typed : (known : GlobalEnv) → AreSoundItems known.items → (cs : List CoreInstance) → EachResultSound cs → (f : Function) (vs : List DslxValue) → AllSound vs → TypedBody (types_from 0 (signatures_of cs) no_types) (instance_globals known.whole known.items cs f vs)
body_typed known items cs results f vs h = record {
  constants = items.constants;
  parametric_args = bound_sound [] f.parametrics vs h (λ name v e. none_some v e);
  members = items.members;
  callees = λ name given types callee e. callee_typed known.whole known.items cs results name given types callee e;
}

next_typed : (known : GlobalEnv) → CanLower known → AreSoundItems known.items → (before : List Instantiated) (cs : List CoreInstance) → TableHas known before cs → EachResultSound cs → (i : Instantiated) → ReachesThese known before i
    → AllSound i.parametric_args → (c : CoreInstance) → next_instance known.whole known.items cs i ≡ Some c → FunctionIsTyped (types_from 0 (signatures_of cs) no_types) c.function
next_typed known can items before cs table results i r sound c e =
    let core = instance_globals known.whole known.items cs r.function i.parametric_args in
    let bound = parametric_args_bound [] r.function.parametrics i.parametric_args in
    let at : ScopeMatchesEnv r.here (function_type_env known r.function i.parametric_args) (outer_scope core) = record {
      items = refl;
      parametric_args = refl;
      locals = refl;
      sound = r.sound;
      calls = calls_known known before cs table r.here r.there bound;
      widths = can.widths;
      constants = λ name v q. (can.typed.constants name v q).declared;
    } in
    let typed = item_typed known can.complete can.typed r.function.name.name bound (own_bound known.items.type_named [] r.function.parametrics i.parametric_args (none_own known) r.own) in
    let f = from_then (as_function (item_named i.name known.whole.items)) (λ f. and_then (lower_instance (instance_globals known.whole known.items cs f i.parametric_args) f) (λ l. Some (record { name = i.name; parametric_args = i.parametric_args; function = l }))) c e in
    let l = from_then (lower_instance (instance_globals known.whole known.items cs f.0 i.parametric_args) f.0) (λ l. Some (record { name = i.name; parametric_args = i.parametric_args; function = l })) c f.2 in
    let same : f.0 ≡ r.function = same_some f.0 r.function (sym f.1 ∙ r.is) in
    let there : lower_instance core r.function ≡ Some l.0 = ap (λ f. lower_instance (instance_globals known.whole known.items cs f i.parametric_args) f) (sym same) ∙ l.1 in
    let k = instance_is_typed r.here known r.function i.parametric_args core (types_from 0 (signatures_of cs) no_types) r.own typed at (body_typed known items cs results r.function i.parametric_args sound) r.clean l.0 there in
    subst (λ (c : CoreInstance). FunctionIsTyped (types_from 0 (signatures_of cs) no_types) c.function) (same_some (record { name = i.name; parametric_args = i.parametric_args; function = l.0 }) c l.2) k

-- ---- all instances

results_more : (cs : List CoreInstance) (c : CoreInstance) → EachResultSound cs → is_sound_type c.function.result ≡ true → EachResultSound (cs ++ c ∷ [])
results_more [] c h k = (k, tt)
results_more (d ∷ cs) c h k = (h.0, results_more cs c h.1 k)

signatures_more : (cs : List CoreInstance) (c : CoreInstance) → signatures_of (cs ++ c ∷ []) ≡ signatures_of cs ++ signature_of_function c.function ∷ []
signatures_more [] c = refl
signatures_more (d ∷ cs) c = ap (λ ss. signature_of_function d.function ∷ ss) (signatures_more cs c)

signatures_many : (cs : List CoreInstance) → length (signatures_of cs) ≡ length cs
signatures_many [] = refl
signatures_many (c ∷ cs) = ap suc (signatures_many cs)

-- those behind the ones of a table
record TypedBehind (cs table : List CoreInstance) : Type 0 where
  new : List CoreInstance
  is : table ≡ cs ++ new
  typed : AreTypedFunctions (length cs) (types_from 0 (signatures_of cs) no_types) (signatures_of new) (functions_of new)

more_typed : (known : GlobalEnv) → CanLower known → AreSoundItems known.items → (before : List Instantiated) (cs : List CoreInstance) → TableHas known before cs → EachResultSound cs → (is : List Instantiated)
    → EachReachesThoseBefore known before is → EachSound is → (table : List CoreInstance) → instances_from known.whole known.items cs is ≡ Some table → TypedBehind cs table
more_typed known can items before cs has results [] r sound table e = record { new = []; is = sym (same_some cs table e) ∙ sym (append-nil cs); typed = tt }
more_typed known can items before cs has results (i ∷ is) r sound table e =
    let c = from_then (next_instance known.whole known.items cs i) (λ c. instances_from known.whole known.items (cs ++ c ∷ []) is) table e in
    let k = next_typed known can items before cs has results i r.0 sound.0 c.0 c.1 in
    let t = next_there known can before cs has i r.0 in
    let same : t.0 ≡ c.0 = same_some t.0 c.0 (sym t.1 ∙ c.1) in
    let sig = signature_of_function c.0.function in
    let more = more_typed known can items (before ++ i ∷ []) (cs ++ c.0 ∷ []) (subst (λ d. TableHas known (before ++ i ∷ []) (cs ++ d ∷ [])) same (one_instance_more known before cs i t.0 has t.2)) (results_more cs c.0 results k.result) is r.1 sound.1 table c.2 in
    let many : length (cs ++ c.0 ∷ []) ≡ suc (length cs) = length-append cs (c.0 ∷ []) ∙ omega arith in
    let functions : types_from 0 (signatures_of (cs ++ c.0 ∷ [])) no_types ≡ and_signature (length cs) sig (types_from 0 (signatures_of cs) no_types) =
    ap (λ ss. types_from 0 ss no_types) (signatures_more cs c.0) ∙ one_signature_more 0 (signatures_of cs) sig no_types ∙ ap (λ n. and_signature n sig (types_from 0 (signatures_of cs) no_types)) (omega arith ∙ signatures_many cs) in
    record {
      new = c.0 ∷ more.new;
      is = more.is ∙ append_assoc cs (c.0 ∷ []) more.new;
      typed = (
        function_typed (types_from 0 (signatures_of cs) no_types) c.0 k,
        subst (λ n. AreTypedFunctions n (and_signature (length cs) sig (types_from 0 (signatures_of cs) no_types)) (signatures_of more.new) (functions_of more.new)) many
            (subst (λ g. AreTypedFunctions (length (cs ++ c.0 ∷ [])) g (signatures_of more.new) (functions_of more.new)) functions more.typed),
      );
    }

pub tables_are_typed : (known : GlobalEnv) → CanLower known → AreSoundItems known.items → (is : List Instantiated) → EachReachesThoseBefore known [] is → EachSound is → (table : List CoreInstance)
    → instances_from known.whole known.items [] is ≡ Some table → AreTypedFunctions 0 no_types (signatures_of table) (functions_of table)
tables_are_typed known can items is r sound table e =
    let t = more_typed known can items [] [] tt tt is r sound table e in
    subst (λ cs. AreTypedFunctions 0 no_types (signatures_of cs) (functions_of cs)) (sym t.is) t.typed
