-- What functions give, by their numbers.
use Rattle.std.proofs.Common.{◌≡◌, ◌<◌, ◌≤◌, ◌+◌, ◌==◌, ℕ, zero, suc, Bool, true, false, List, ◌∷◌, map, Option, Some, None, take, length, refl, sym, ap, ap₂, subst, ◌∙◌, arith, if◌then◌else◌, []}
use Rattle.std.specs.Prelude.{slice_get}
use Rattle.std.proofs.lemmas.Bool.Decides.{nat_tests}
use Rattle.std.proofs.lemmas.List.{length-map}
use Rattle.xb_value.specs.declared.ty.Ty.{Ty}
use Rattle.xb_value.specs.declared.value.Value.{Value}
use Rattle.ir_tree.specs.declared.node.Operand.{Operand}
use Rattle.ir_tree.specs.NodeValues.{operand_value}
use Rattle.ir_rebuild.specs.declared.putting.nodes.Nodes.{Nodes}
use Rattle.ir_rebuild.specs.Putting.Types.{ir_type_of}
use Rattle.ir_rebuild.proofs.Lemmas.Putting.{grows_twice, values_earlier}
use Rattle.dslx_meaning.specs.Lists.{all_some, and_then, pairwise, where_true}
use Rattle.dslx_core.specs.declared.design.Function.{Function}
use Rattle.dslx_core.specs.declared.expr.CoreExpr.{CoreExpr}
use Rattle.dslx_core.specs.declared.expr.CoreExpr.TheOpen.{CoreExpr-F}
use Rattle.dslx_core.specs.CoreValues.{Functions, core_value, core_step}
use Rattle.dslx_core.specs.Designs.{no_function, and_function, functions_from}
use Rattle.dslx_core.proofs.Lemmas.Typing.Typed.OfLists.{all_there, all_are}
use Rattle.dslx_core.specs.Types.Typing.{FunctionTypes, Typing, is_type, types_in}
use Rattle.dslx_core.specs.Types.Designs.{FunctionSignature, and_signature, no_types, types_from}
use Rattle.dslx_core.proofs.Lemmas.Types.{then_is, if_alike_is}
use Rattle.ir_lower_nodes.proofs.Lemmas.Patterns.{have_length}
use Rattle.ir_lower_nodes.specs.Exprs.NodeTypes.{node_step, node_type}
use Rattle.ir_lower_nodes.specs.Exprs.Calls.{calls_below, types_below, AreNodeFunctions}
use Rattle.ir_lower_nodes.specs.Exprs.Lowered.{bound_by, LowersBy, EachLowersBy, Lowers}
use Rattle.ir_lower_nodes.proofs.OnExprs.OnOptions.{some_same, both, where_is}
use Rattle.ir_lower_nodes.proofs.OnExprs.OnLayers.{limited}

-- ---- what the functions of a table give

unlike : (k f : ℕ) (g : Function) (before : Functions) (vs : List Value) → (f == k) ≡ false → and_function k g before f vs ≡ before f vs
unlike k f g before vs e = ap (λ b. if b then (if length vs == g.arity then core_value g.body before vs else None) else before f vs) e

alike : (k f : ℕ) (g : Function) (before : Functions) (vs : List Value) → (f == k) ≡ true → and_function k g before f vs ≡ (if length vs == g.arity then core_value g.body before vs else None)
alike k f g before vs e = ap (λ b. if b then (if length vs == g.arity then core_value g.body before vs else None) else before f vs) e

functions_below : (fs : List Function) (k : ℕ) (before : Functions) (f : ℕ) (vs : List Value) → f < k → functions_from k fs before f vs ≡ before f vs
functions_below [] k before f vs h = refl
functions_below (g ∷ gs) k before f vs h =
    let other : (f == k) ≡ false = grind (arith, nat_tests) in
    functions_below gs (suc k) (and_function k g before) f vs (omega (arith, h)) ∙ unlike k f g before vs other

function_at : (fs : List Function) (k j f : ℕ) (before : Functions) (vs : List Value) (g : Function) → f ≡ k + j → slice_get fs j ≡ Some g
    → functions_from k fs before f vs ≡ (if length vs == g.arity then core_value g.body (functions_from k (take j fs) before) vs else None)
function_at [] k zero f before vs g at h = absurd (cc)
function_at [] k (suc j) f before vs g at h = absurd (cc)
function_at (x ∷ xs) k zero f before vs g at h =
    let same : (f == k) ≡ true = grind (arith, nat_tests) in
    let it : x ≡ g = cc in
    functions_below xs (suc k) (and_function k x before) f vs (omega (arith, at)) ∙ (alike k f x before vs same
    ∙ ap (λ (y : Function). if length vs == y.arity then core_value y.body before vs else None) it)
function_at (x ∷ xs) k (suc j) f before vs g at h =
    function_at xs (suc k) j f (and_function k x before) vs g (omega (arith, at)) h

get_within : {A : Type 0} (xs : List A) (n j : ℕ) → j < n → slice_get (take n xs) j ≡ slice_get xs j
get_within xs zero j h = absurd (omega (arith, h))
get_within [] (suc n) j h = refl
get_within (x ∷ xs) (suc n) zero h = refl
get_within (x ∷ xs) (suc n) (suc j) h = get_within xs n j (omega (arith, h))

take_within : {A : Type 0} (xs : List A) (n j : ℕ) → j < n → take j (take n xs) ≡ take j xs
take_within xs zero j h = absurd (omega (arith, h))
take_within [] (suc n) zero h = refl
take_within [] (suc n) (suc j) h = refl
take_within (x ∷ xs) (suc n) zero h = refl
take_within (x ∷ xs) (suc n) (suc j) h = ap (λ ys. x ∷ ys) (take_within xs n j (omega (arith, h)))

-- a function before the one of number n gives what its body does, over those before it
pub call_is : (fs : List Function) (n k : ℕ) (vs : List Value) (g : Function) → k < n → slice_get fs k ≡ Some g → length vs ≡ g.arity → calls_below n fs k vs ≡ core_value g.body (calls_below k fs) vs
call_is fs n k vs g less there count =
    let zero_first : k ≡ 0 + k = omega arith in
    let same : (length vs == g.arity) ≡ true = grind (arith, nat_tests, count) in
    function_at (take n fs) 0 k k no_function vs g zero_first (get_within fs n k less ∙ there)
    ∙ (ap (λ b. if b then core_value g.body (functions_from 0 (take k (take n fs)) no_function) vs else None) same
    ∙ ap (λ gs. core_value g.body (functions_from 0 gs no_function) vs) (take_within fs n k less))

-- ---- and their types

pub record IsSigned (signatures : List FunctionSignature) (k : ℕ) (ts : List Ty) (t : Ty) : Type 0 where
  pub signature : FunctionSignature
  pub there : slice_get signatures k ≡ Some signature
  pub arguments : signature.arguments ≡ ts
  pub result : signature.result ≡ t

heads : {A : Type 0} (x y : A) (xs ys : List A) → x ≡ y → xs ≡ ys → (x ∷ xs) ≡ (y ∷ ys)
heads x y xs ys e h = ap₂ (λ z zs. z ∷ zs) e h

one_type : (t u : Ty) → is_type t u ≡ true → t ≡ u
one_type t u h = let found = if_alike_is t t (Some u) (ap (λ b. where_true b (Some t)) h) in sym (some_same u t found.1)

same_types : (ts us : List Ty) → pairwise is_type ts us ≡ true → ts ≡ us
same_types [] [] h = refl
same_types [] (u ∷ us) h = absurd (cc)
same_types (t ∷ ts) [] h = absurd (cc)
same_types (t ∷ ts) (u ∷ us) h =
    let parts = both (is_type t u) (pairwise is_type ts us) h in
    heads t u ts us (one_type t u parts.0) (same_types ts us parts.1)

record IsNumbered (before : FunctionTypes) (n : ℕ) (ss : List FunctionSignature) (f : ℕ) (ts : List Ty) (t : Ty) : Type 0 where
  number : ℕ
  is : f ≡ n + number
  within : number < length ss
  signed : IsSigned ss number ts t

-- behind its number, a function is none of these
stays_past : (m : ℕ) (rs : List FunctionSignature) (own : FunctionTypes) (f : ℕ) (ts : List Ty) → f < m → types_from m rs own f ts ≡ own f ts
stays_past m [] own f ts l = refl
stays_past m (r ∷ rs) own f ts l =
    let other : (f == m) ≡ false = grind (arith, nat_tests, l) in
    stays_past (suc m) rs (and_signature m r own) f ts (omega (arith, l)) ∙ ap (λ b. if b then where_true (pairwise is_type r.arguments ts) (Some r.result) else own f ts) other

signed_at : (n : ℕ) (ss : List FunctionSignature) (before : FunctionTypes) (f : ℕ) (ts : List Ty) (t : Ty) → types_from n ss before f ts ≡ Some t → (before f ts ≡ Some t → ⊥) → IsNumbered before n ss f ts t
signed_at n [] before f ts t h never = absurd (never h)
signed_at n (s ∷ ss) before f ts t h never = by (f == n) refl (λ other. signed_at (suc n) ss (and_signature n s before) f ts t h other)
  where
    later : IsNumbered (and_signature n s before) (suc n) ss f ts t → IsNumbered before n (s ∷ ss) f ts t
    later rest =
        let is = rest.is in
        let less = rest.within in
        record {
          number = suc rest.number;
          is = omega (arith, is);
          within = omega (arith, less);
          signed = record { signature = rest.signed.signature; there = rest.signed.there; arguments = rest.signed.arguments; result = rest.signed.result };
        }

    here : (f == n) ≡ true → and_signature n s before f ts ≡ Some t → IsNumbered before n (s ∷ ss) f ts t
    here e k =
        let own : where_true (pairwise is_type s.arguments ts) (Some s.result) ≡ Some t = sym (ap (λ b. if b then where_true (pairwise is_type s.arguments ts) (Some s.result) else before f ts) e) ∙ k in
        let test = where_is (pairwise is_type s.arguments ts) (Some s.result) t own in
        let first : f ≡ n + 0 = grind (arith, nat_tests, e) in
        record { number = 0; is = first; within = omega arith; signed = record { signature = s; there = refl; arguments = same_types s.arguments ts test.0; result = some_same s.result t test.1 } }

    by : (b : Bool) → (f == n) ≡ b → ((and_signature n s before f ts ≡ Some t → ⊥) → IsNumbered (and_signature n s before) (suc n) ss f ts t) → IsNumbered before n (s ∷ ss) f ts t
    by false e next = later (next (λ k. never (sym (ap (λ b. if b then where_true (pairwise is_type s.arguments ts) (Some s.result) else before f ts) e) ∙ k)))
    by true e next =
        let less : f < suc n = grind (arith, nat_tests, e) in
        here e (sym (stays_past (suc n) ss (and_signature n s before) f ts less) ∙ h)

pub record IsBelow (signatures : List FunctionSignature) (n k : ℕ) (ts : List Ty) (t : Ty) : Type 0 where
  pub less : k < n
  pub signed : IsSigned signatures k ts t

length_take : {A : Type 0} (n : ℕ) (xs : List A) → length (take n xs) ≤ n
length_take zero xs = omega arith
length_take (suc n) [] = omega arith
length_take (suc n) (x ∷ xs) = let rest = length_take n xs in omega (arith, rest)

-- a function that has a type below number n is one before it
pub type_below : (signatures : List FunctionSignature) (n k : ℕ) (ts : List Ty) (t : Ty) → types_below n signatures k ts ≡ Some t → IsBelow signatures n k ts t
type_below signatures n k ts t h =
    let found = signed_at 0 (take n signatures) no_types k ts t h (λ e. absurd (cc)) in
    let same = found.is in
    let within = found.within in
    let few = length_take n signatures in
    let less : found.number < n = omega (arith, within, few) in
    let is : found.number ≡ k = omega (arith, same) in
    record {
      less = subst (λ j. j < n) is less;
      signed = record {
        signature = found.signed.signature;
        there = subst (λ j. slice_get signatures j ≡ Some found.signed.signature) is (sym (get_within signatures n found.number less) ∙ found.signed.there);
        arguments = found.signed.arguments;
        result = found.signed.result;
      };
    }

-- ---- calls

pub call_by : (fs : List Function) (signatures : List FunctionSignature) (n k : ℕ) (g : Function) (es : List CoreExpr) (slots : List Operand) (s0 s1 s2 : Nodes) (os : List Operand) (o : Operand) → AreNodeFunctions signatures fs
    → slice_get fs k ≡ Some g → EachLowersBy (types_below n signatures) (calls_below n fs) (map node_type es) (map core_value es) slots s0 s1 os → Lowers fs g.body os s1 s2 o
    → LowersBy (types_below n signatures) (calls_below n fs) (node_step (CoreExpr-F.Call k (map node_type es))) (core_step (CoreExpr-F.Call k (map core_value es))) slots s0 s2 o
call_by fs signatures n k g es slots s0 s1 s2 os o given there each body types t built have h =
    let functions = types_below n signatures in
    let here = limited (and_then (types_in (map node_type es) functions types) (functions k)) t h in
    let found = then_is (types_in (map node_type es) functions types) (functions k) t here.is in
    let us = found.first in
    let below = type_below signatures n k us t found.gives in
    let s = below.signed.signature in
    let own = given k s below.signed.there in
    let same : own.function ≡ g = some_same own.function g (sym own.there ∙ there) in
    let one = each types us built have (all_there (map (λ (q : Typing). q functions types) (map node_type es)) us found.is) in
    let typed : node_type g.body (types_below k signatures) us ≡ Some t =
    ap₂ (λ (f : Function) ts. node_type f.body (types_below k signatures) ts) (sym same) (sym below.signed.arguments) ∙ (own.body ∙ ap Some below.signed.result) in
    let two = body signatures k given us t one.grows.built one.have typed in
    record {
      grows = grows_twice s0 s1 s2 one.grows two.grows;
      has = two.has;
      value = λ s' values v.
          let vs = bound_by os s' values in
          let count : length vs ≡ g.arity =
          length-map os (operand_value s' values)
          ∙ (have_length s1 os (map ir_type_of us) one.have
          ∙ (length-map us ir_type_of ∙ (ap length (sym below.signed.arguments) ∙ (own.arity ∙ ap (λ (f : Function). f.arity) same)))) in
          ap (λ xs. and_then (all_some xs) (calls_below n fs k)) (one.values s' values (values_earlier s1 s2 two.grows s' values v))
          ∙ (ap (λ p. and_then p (calls_below n fs k)) (all_are vs)
          ∙ (call_is fs n k vs g below.less there count ∙ two.value s' values v));
    }

-- one that isn't there has no type
pub no_call : (fs : List Function) (signatures : List FunctionSignature) (n k : ℕ) (es : List CoreExpr) (slots : List Operand) (s0 s1 : Nodes) (o : Operand) → AreNodeFunctions signatures fs → slice_get fs k ≡ None
    → LowersBy (types_below n signatures) (calls_below n fs) (node_step (CoreExpr-F.Call k (map node_type es))) (core_step (CoreExpr-F.Call k (map core_value es))) slots s0 s1 o
no_call fs signatures n k es slots s0 s1 o given none types t built have h =
    let functions = types_below n signatures in
    let here = limited (and_then (types_in (map node_type es) functions types) (functions k)) t h in
    let found = then_is (types_in (map node_type es) functions types) (functions k) t here.is in
    let below = type_below signatures n k found.first t found.gives in
    let own = given k below.signed.signature below.signed.there in
    let never : None ≡ Some own.function = sym none ∙ own.there in
    absurd (cc)
