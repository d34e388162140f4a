-- What a function of a table gives.
use Rattle.std.proofs.Common.{◌≡◌, ◌<◌, ◌≤◌, ◌+◌, ◌==◌, ℕ, zero, suc, Bool, true, false, List, [], ◌∷◌, Option, Some, None, take, length, nat_lt, refl, ap, ◌∙◌, arith, if◌then◌else◌}
use Rattle.std.specs.Prelude.{slice_get}
use Rattle.std.proofs.lemmas.Bool.Decides.{nat_tests}
use Rattle.std.proofs.lemmas.List.{take_all}
use Rattle.xb_value.specs.declared.value.Value.{Value}
use Rattle.dslx_core.specs.CoreValues.{Functions, core_value}
use Rattle.dslx_core.specs.Designs.{functions_from, and_function, no_function}
use Rattle.dslx_core.specs.declared.design.Function.{Function}
use Rattle.dslx_interp.specs.Eval.Inner.Machine.{callee}

-- what the first functions give
abbrev pub calls_before : List Function → ℕ → Functions
calls_before fs n = functions_from 0 (take n fs) no_function

-- what a function gives, if it is there
abbrev pub body_value : List Function → Option Function → ℕ → List Value → Option Value
body_value fs None f vs = None
body_value fs (Some g) f vs = if length vs == g.arity then core_value g.body (calls_before fs f) vs else None

unlike : (k f : ℕ) (g : Function) (before : Functions) (vs : List Value) → (f == k) ≡ false → and_function k g before f vs ≡ before f vs
unlike k f g before vs e = ap (λ b. if b then (if length vs == g.arity then core_value g.body before vs else None) else before f vs) e

alike : (k f : ℕ) (g : Function) (before : Functions) (vs : List Value) → (f == k) ≡ true → and_function k g before f vs ≡ (if length vs == g.arity then core_value g.body before vs else None)
alike k f g before vs e = ap (λ b. if b then (if length vs == g.arity then core_value g.body before vs else None) else before f vs) e

functions_below : (fs : List Function) (k : ℕ) (before : Functions) (f : ℕ) (vs : List Value) → f < k → functions_from k fs before f vs ≡ before f vs
functions_below [] k before f vs h = refl
functions_below (g ∷ gs) k before f vs h =
    let other : (f == k) ≡ false = grind (arith, nat_tests) in
    functions_below gs (suc k) (and_function k g before) f vs (omega (arith, h)) ∙ unlike k f g before vs other

pub function_at : (fs : List Function) (k j f : ℕ) (before : Functions) (vs : List Value) (g : Function) → f ≡ k + j → slice_get fs j ≡ Some g
    → functions_from k fs before f vs ≡ (if length vs == g.arity then core_value g.body (functions_from k (take j fs) before) vs else None)
function_at [] k zero f before vs g at h = absurd (cc)
function_at [] k (suc j) f before vs g at h = absurd (cc)
function_at (x ∷ xs) k zero f before vs g at h =
    let same : (f == k) ≡ true = grind (arith, nat_tests) in
    let it : x ≡ g = cc in
    functions_below xs (suc k) (and_function k x before) f vs (omega (arith, at)) ∙ (alike k f x before vs same
    ∙ ap (λ (y : Function). if length vs == y.arity then core_value y.body before vs else None) it)
function_at (x ∷ xs) k (suc j) f before vs g at h =
    function_at xs (suc k) j f (and_function k x before) vs g (omega (arith, at)) h

pub function_none : (fs : List Function) (k j f : ℕ) (before : Functions) (vs : List Value) → f ≡ k + j → slice_get fs j ≡ None → functions_from k fs before f vs ≡ before f vs
function_none [] k j f before vs at h = refl
function_none (x ∷ xs) k zero f before vs at h = absurd (cc)
function_none (x ∷ xs) k (suc j) f before vs at h =
    let other : (f == k) ≡ false = grind (arith, nat_tests) in
    function_none xs (suc k) j f (and_function k x before) vs (omega (arith, at)) h ∙ unlike k f x before vs other

get_within : (fs : List Function) (n f : ℕ) → f < n → slice_get (take n fs) f ≡ slice_get fs f
get_within fs zero f h = absurd (omega (arith, h))
get_within [] (suc n) f h = refl
get_within (x ∷ xs) (suc n) zero h = refl
get_within (x ∷ xs) (suc n) (suc f) h = get_within xs n f (omega (arith, h))

abbrev no_functions : List Function
no_functions = []

none_in : (f : ℕ) → slice_get no_functions f ≡ None
none_in zero = refl
none_in (suc f) = refl

get_past : (fs : List Function) (n f : ℕ) → n ≤ f → slice_get (take n fs) f ≡ None
get_past fs zero f h = none_in f
get_past [] (suc n) f h = none_in f
get_past (x ∷ xs) (suc n) zero h = absurd (omega (arith, h))
get_past (x ∷ xs) (suc n) (suc f) h = get_past xs n f (omega (arith, h))

take_less : (fs : List Function) (n f : ℕ) → f < n → take f (take n fs) ≡ take f fs
take_less fs zero f h = absurd (omega (arith, h))
take_less fs (suc n) zero h = refl
take_less [] (suc n) (suc f) h = refl
take_less (x ∷ xs) (suc n) (suc f) h = ap (λ ys. x ∷ ys) (take_less xs n f (omega (arith, h)))

-- what is called at a place where only the first functions may be
pub called_gives : (fs : List Function) (n f : ℕ) (vs : List Value) → calls_before fs n f vs ≡ body_value fs (callee fs n f) f vs
called_gives fs n f vs = by (nat_lt f n) refl
  where
    found : (o : Option Function) → slice_get fs f ≡ o → f < n → calls_before fs n f vs ≡ body_value fs o f vs
    found None e h = function_none (take n fs) 0 f f no_function vs (omega arith) (get_within fs n f h ∙ e)
    found (Some g) e h =
        function_at (take n fs) 0 f f no_function vs g (omega arith) (get_within fs n f h ∙ e)
        ∙ ap (λ gs. if length vs == g.arity then core_value g.body (functions_from 0 gs no_function) vs else None) (take_less fs n f h)

    by : (b : Bool) → nat_lt f n ≡ b → calls_before fs n f vs ≡ body_value fs (if b then slice_get fs f else None) f vs
    by true e =
        let h : f < n = grind (arith, nat_tests) in
        found (slice_get fs f) refl h
    by false e =
        let h : n ≤ f = grind (arith, nat_tests) in
        function_none (take n fs) 0 f f no_function vs (omega arith) (get_past fs n f h)

pub all_calls : (fs : List Function) → calls_before fs (length fs) ≡ functions_from 0 fs no_function
all_calls fs = ap (λ gs. functions_from 0 gs no_function) (take_all (length fs) fs (omega arith))
