-- What a map from keys to functions says of the instances that it stands for.
use Rattle.std.proofs.Common.{◌≡◌, ◌∙◌, ◌+◌, ℕ, zero, suc, Bool, true, false, List, [], ◌∷◌, ◌++◌, map, slice_get, Option, Some, None, refl, ap, arith, true≢false, is_some, cond, if◌then◌else◌}
use Rattle.std.specs.List.{position, position_from}
use Rattle.std.specs.Map.{keys_of, lookup, values_of}
use Rattle.std.specs.Option.{option_map}
use Rattle.std.proofs.lemmas.Iterator.Adapters.{position_from-zero}
use Rattle.indexmap.specs.IndexMap.{insert_entry}
use Rattle.dslx_core.specs.Lowering.Functions.{CoreInstance, LoweredFunction, core_function, instance_in}
use Rattle.dslx_instance.specs.Table.Keys.{function_made, instance_of, same_key}
use Rattle.dslx_instance.specs.declared.table.key.InstanceKey.{InstanceKey}

abbrev Entries : Type 0
Entries = List (InstanceKey × LoweredFunction)

-- the first instance of a key, with its number
abbrev among : InstanceKey → ℕ → Entries → Option (ℕ × CoreInstance)
among k n es = instance_in k.name k.parametric_args n (map instance_of es)

-- ---- what is found

first_number : (b : Bool) (n : ℕ) (i : CoreInstance) (found : Option (ℕ × CoreInstance)) (rest : Option ℕ) → rest ≡ option_map (λ (p : ℕ × CoreInstance). p.0) found
    → cond b (Some n) rest ≡ option_map (λ (p : ℕ × CoreInstance). p.0) (if b then Some (n, i) else found)
first_number true n i found rest e = refl
first_number false n i found rest e = e

numbers_from : (k : InstanceKey) (n : ℕ) (es : Entries) → position_from (same_key k) n (keys_of es) ≡ option_map (λ (p : ℕ × CoreInstance). p.0) (among k n es)
numbers_from k n [] = refl
numbers_from k n (e ∷ es) =
    let next : n + 1 ≡ suc n = omega arith in
    first_number (same_key k e.0) n (instance_of e) (among k (suc n) es) _ (ap (λ m. position_from (same_key k) m (keys_of es)) next ∙ numbers_from k (suc n) es)

-- the place of a key is the number of its instance
pub number_found : (k : InstanceKey) (es : Entries) → position (same_key k) (keys_of es) ≡ option_map (λ (p : ℕ × CoreInstance). p.0) (instance_in k.name k.parametric_args 0 (map instance_of es))
number_found k es = position_from-zero (same_key k) (keys_of es) ∙ numbers_from k 0 es

first_function : (b : Bool) (n : ℕ) (i : CoreInstance) (found : Option (ℕ × CoreInstance)) (rest : Option LoweredFunction) → rest ≡ option_map (λ (p : ℕ × CoreInstance). p.1.function) found
    → cond b (Some i.function) rest ≡ option_map (λ (p : ℕ × CoreInstance). p.1.function) (if b then Some (n, i) else found)
first_function true n i found rest e = refl
first_function false n i found rest e = e

functions_from : (k : InstanceKey) (n : ℕ) (es : Entries) → lookup (same_key k) es ≡ option_map (λ (p : ℕ × CoreInstance). p.1.function) (among k n es)
functions_from k n [] = refl
functions_from k n (e ∷ es) = first_function (same_key k e.0) n (instance_of e) (among k (suc n) es) (lookup (same_key k) es) (functions_from k (suc n) es)

-- the value of a key is the function of its instance
pub function_found : (k : InstanceKey) (es : Entries) → lookup (same_key k) es ≡ option_map (λ (p : ℕ × CoreInstance). p.1.function) (instance_in k.name k.parametric_args 0 (map instance_of es))
function_found k es = functions_from k 0 es

there_by : (found : Option (ℕ × CoreInstance)) → is_some (option_map (λ (p : ℕ × CoreInstance). p.1.function) found) ≡ is_some found
there_by None = refl
there_by (Some p) = refl

pub is_there : (k : InstanceKey) (es : Entries) → is_some (lookup (same_key k) es) ≡ is_some (instance_in k.name k.parametric_args 0 (map instance_of es))
is_there k es = ap is_some (function_found k es) ∙ there_by (instance_in k.name k.parametric_args 0 (map instance_of es))

-- ---- the function at a place

pub function_at : (es : Entries) (i : ℕ) → option_map (λ (e : InstanceKey × LoweredFunction). e.1) (slice_get es i) ≡ option_map (λ (c : CoreInstance). c.function) (slice_get (map instance_of es) i)
function_at [] i = refl
function_at (e ∷ es) zero = refl
function_at (e ∷ es) (suc i) = function_at es i

-- ---- what is new goes last

passed : {A : Type 0} (b : Bool) (x : A) (found : Option A) → is_some (cond b (Some x) found) ≡ false → (b ≡ false) × (is_some found ≡ false)
passed true x found e = absurd (true≢false e)
passed false x found e = (refl, e)

pub goes_last : {V : Type 0} (k : InstanceKey) (v : V) (es : List (InstanceKey × V)) → is_some (lookup (same_key k) es) ≡ false → insert_entry same_key es k v ≡ es ++ (k, v) ∷ []
goes_last k v [] none = refl
goes_last k v (e ∷ es) none =
    let p = passed (same_key k e.0) e.1 (lookup (same_key k) es) none in
    ap (λ b. if b then (e.0, v) ∷ es else e ∷ insert_entry same_key es k v) p.0 ∙ ap (λ rest. e ∷ rest) (goes_last k v es p.1)

with_last : (es : Entries) (k : InstanceKey) (f : LoweredFunction) → map instance_of (es ++ (k, f) ∷ []) ≡ map instance_of es ++ instance_of (k, f) ∷ []
with_last [] k f = refl
with_last (e ∷ es) k f = ap (λ rest. instance_of e ∷ rest) (with_last es k f)

put_by : (new : Bool) (i : CoreInstance) (es : Entries)
    → map instance_of (if new then es ++ (record { name = i.name; parametric_args = i.parametric_args }, i.function) ∷ [] else es) ≡ (if new then map instance_of es ++ i ∷ [] else map instance_of es)
put_by true i es = with_last es (record { name = i.name; parametric_args = i.parametric_args }) i.function
put_by false i es = refl

pub put_last : (new : Bool) (i : CoreInstance) (es all : Entries) → all ≡ (if new then es ++ (record { name = i.name; parametric_args = i.parametric_args }, i.function) ∷ [] else es)
    → map instance_of all ≡ (if new then map instance_of es ++ i ∷ [] else map instance_of es)
put_last new i es all is = ap (map instance_of) is ∙ put_by new i es

-- ---- all at once

pub functions_at_once : (es : Entries) → map function_made (values_of es) ≡ map core_function (map instance_of es)
functions_at_once [] = refl
functions_at_once (e ∷ es) = ap (λ fs. core_function (instance_of e) ∷ fs) (functions_at_once es)
