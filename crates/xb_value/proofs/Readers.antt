-- Several values, one at a time.
use Rattle.std.proofs.Common.{◌≡◌, ℕ, suc, ◌+◌, ◌-◌, ◌<◌, List, [], ◌∷◌, ◌++◌, append_assoc, length, map, drop, get_or, drop-cons, add-one, Ok, Err, refl, sym, ap, ◌∙◌, arith}
use Rattle.xb_value.specs.declared.token.Token.{Token}
use Rattle.xb_value.specs.declared.ty.Ty.{Ty}
use Rattle.xb_value.specs.declared.value.Value.{Value}
use Rattle.xb_value.specs.Inner.Reading.{ListAnswer, Reader, more_than, and_more, read_each, read_times, read_as}

-- the values that were read before the others
abbrev pub before : List Value → ListAnswer → ListAnswer
before vs (Ok r) = Ok (vs ++ r.0, r.1)
before vs (Err at) = Err at

before_more : (vs : List Value) (v : Value) (r : ListAnswer) → before vs (more_than v r) ≡ before (vs ++ v ∷ []) r
before_more vs v (Ok r) = ap (λ us. Ok (us, r.1)) (sym (append_assoc vs (v ∷ []) r.0))
before_more vs v (Err at) = refl

-- one more type's value
pub each_more : (ps : List Ty) (i : ℕ) (t : Ty) (vs : List Value) (v : Value) (ts us : List Token) (all : ListAnswer)
    → i < length ps → t ≡ get_or ps i t
    → all ≡ before vs (read_each (map read_as (drop i ps)) ts)
    → read_as t ts ≡ Ok (v, us)
    → all ≡ before (vs ++ v ∷ []) (read_each (map read_as (drop (i + 1) ps)) us)
each_more ps i t vs v ts us all h is so_far read =
    so_far
    ∙ ap (λ qs. before vs (read_each (map read_as qs) ts)) (drop-cons ps i t h)
    ∙ ap (λ q. before vs (and_more (read_each (map read_as (drop (suc i) ps))) (read_as q ts))) (sym is)
    ∙ ap (λ r. before vs (and_more (read_each (map read_as (drop (suc i) ps))) r)) read
    ∙ before_more vs v (read_each (map read_as (drop (suc i) ps)) us)
    ∙ ap (λ k. before (vs ++ v ∷ []) (read_each (map read_as (drop k ps)) us)) (sym (add-one i))

-- the type whose value does not fit
pub each_fault : (ps : List Ty) (i : ℕ) (t : Ty) (vs : List Value) (ts : List Token) (at : ℕ) (all : ListAnswer)
    → i < length ps → t ≡ get_or ps i t
    → all ≡ before vs (read_each (map read_as (drop i ps)) ts)
    → read_as t ts ≡ Err at
    → all ≡ Err at
each_fault ps i t vs ts at all h is so_far read =
    so_far
    ∙ ap (λ qs. before vs (read_each (map read_as qs) ts)) (drop-cons ps i t h)
    ∙ ap (λ q. before vs (and_more (read_each (map read_as (drop (suc i) ps))) (read_as q ts))) (sym is)
    ∙ ap (λ r. before vs (and_more (read_each (map read_as (drop (suc i) ps))) r)) read

-- one more turn
pub times_more : (n i : ℕ) (r : Reader) (vs : List Value) (v : Value) (ts us : List Token) (all : ListAnswer)
    → i < n
    → all ≡ before vs (read_times (n - i) r ts)
    → r ts ≡ Ok (v, us)
    → all ≡ before (vs ++ v ∷ []) (read_times (n - (i + 1)) r us)
times_more n i r vs v ts us all h so_far read =
    let left : n - i ≡ suc (n - (i + 1)) = omega arith in
    so_far
    ∙ ap (λ k. before vs (read_times k r ts)) left
    ∙ ap (λ a. before vs (and_more (read_times (n - (i + 1)) r) a)) read
    ∙ before_more vs v (read_times (n - (i + 1)) r us)

pub times_fault : (n i : ℕ) (r : Reader) (vs : List Value) (ts : List Token) (at : ℕ) (all : ListAnswer)
    → i < n
    → all ≡ before vs (read_times (n - i) r ts)
    → r ts ≡ Err at
    → all ≡ Err at
times_fault n i r vs ts at all h so_far read =
    let left : n - i ≡ suc (n - (i + 1)) = omega arith in
    so_far
    ∙ ap (λ k. before vs (read_times k r ts)) left
    ∙ ap (λ a. before vs (and_more (read_times (n - (i + 1)) r) a)) read
