-- The procs of a network, by the numbers of their instances.
use Rattle.std.proofs.Common.{◌≡◌, ◌+◌, ◌<◌, ◌++◌, ℕ, zero, suc, List, [], ◌∷◌, length, map, take, get_or, Some, refl, sym, ap, ◌∙◌, arith}
use Rattle.std.specs.Prelude.{slice_get}
use Rattle.std.proofs.lemmas.List.{length-map}
use Rattle.net_core.specs.Behavior.{KeepsTypes}
use Rattle.net_core.specs.WellFormed.{EachKeepsTypes}
use Rattle.dslx_core.specs.Designs.{CoreElaborated, core_behavior, core_behaviors, core_family}
use Rattle.dslx_core.specs.declared.design.Design.{Design}
use Rattle.dslx_core.specs.declared.design.Instance.{Instance}
use Rattle.dslx_core.proofs.Lemmas.Typing.Typed.{same_some}
use Rattle.dslx_interp.specs.Network.Bodies.{behavior_at, own_instance, proc_at}
use Rattle.dslx_interp.proofs.OnNetwork.OnBody.There.{map_at}

-- a proc that is there, and its instance
pub record IsThere (is : List Instance) (ps : List CoreElaborated) (k n : ℕ) : Type 0 where
  pub proc : CoreElaborated
  pub there : slice_get ps k ≡ Some proc
  pub instance : slice_get is n ≡ Some proc.instance

pub proc_there : (is : List Instance) (ns : List ℕ) (ps : List CoreElaborated) → map (slice_get is) ns ≡ map own_instance ps → (k : ℕ) → k < length ns → IsThere is ps k (get_or ns k 0)
proc_there is [] ps same k within = absurd (omega (arith, within))
proc_there is (m ∷ ns) [] same k within = absurd (cc)
proc_there is (m ∷ ns) (p ∷ ps) same zero within =
    let first : slice_get is m ≡ Some p.instance = cc in
    record { proc = p; there = refl; instance = first }
proc_there is (m ∷ ns) (p ∷ ps) same (suc k) within =
    let rest : map (slice_get is) ns ≡ map own_instance ps = cc in
    let h = proc_there is ns ps rest k (omega (arith, within)) in
    record { proc = h.proc; there = h.there; instance = h.instance }

got_there : {A : Type 0} (xs : List A) (k : ℕ) (x other : A) → slice_get xs k ≡ Some x → get_or xs k other ≡ x
got_there [] k x other e = absurd (cc)
got_there (y ∷ ys) zero x other e = cc
got_there (y ∷ ys) (suc k) x other e = got_there ys k x other e

module _ (design : Design) (k n : ℕ) (found : Instance) (h : IsThere design.procs (core_family design).procs k n) (at : slice_get design.procs n ≡ Some found) where
  pub proc_found : proc_at design k found ≡ h.proc
  proc_found = got_there (core_family design).procs k h.proc (record { path = []; instance = found; channels = [] }) h.there

  pub instance_is : (h.proc).instance ≡ found
  instance_is = same_some (h.proc).instance found (sym h.instance ∙ at)

  pub instance_found : (proc_at design k found).instance ≡ found
  instance_found = ap (λ (p : CoreElaborated). p.instance) proc_found ∙ instance_is

  pub behavior_found : slice_get (core_behaviors design) k ≡ Some (behavior_at design k found)
  behavior_found = map_at (core_behavior design) (core_family design).procs k h.proc h.there ∙ ap (λ p. Some (core_behavior design p)) (sym proc_found)

  pub keeps_found : EachKeepsTypes (core_behaviors design) → KeepsTypes (behavior_at design k found)
  keeps_found keep = keep k (behavior_at design k found) behavior_found

pub as_many : (design : Design) (ns : List ℕ) → map (slice_get design.procs) ns ≡ map own_instance (core_family design).procs → length (core_behaviors design) ≡ length ns
as_many design ns same =
    length-map (core_family design).procs (core_behavior design)
    ∙ sym (length-map (core_family design).procs own_instance) ∙ ap length (sym same) ∙ length-map ns (slice_get design.procs)

-- ---- one more

pub take_one_more : {A : Type 0} (xs : List A) (n : ℕ) (x : A) → slice_get xs n ≡ Some x → take (n + 1) xs ≡ take n xs ++ x ∷ []
take_one_more [] n x e = absurd (cc)
take_one_more {A} (y ∷ ys) zero x e = let same : y ≡ x = cc in ap (λ (z : A). z ∷ []) same
take_one_more {A} (y ∷ ys) (suc n) x e =
    let more = take_one_more ys n x e in
    let at : suc n + 1 ≡ suc (n + 1) = omega arith in
    ap (λ (k : ℕ). take k (y ∷ ys)) at ∙ ap (λ (zs : List A). y ∷ zs) more

pub take_all : {A : Type 0} (xs : List A) (n : ℕ) → length xs ≡ n → take n xs ≡ xs
take_all [] zero e = refl
take_all [] (suc n) e = absurd (cc)
take_all (x ∷ xs) zero e = absurd (cc)
take_all {A} (x ∷ xs) (suc n) e = ap (λ (zs : List A). x ∷ zs) (take_all xs n (omega (arith, e)))

pub map_one_more : {A : Type 0} {B : Type 0} (f : A → B) (xs : List A) (x : A) → map f (xs ++ x ∷ []) ≡ map f xs ++ f x ∷ []
map_one_more f [] x = refl
map_one_more {A} {B} f (y ∷ ys) x = ap (λ (zs : List B). f y ∷ zs) (map_one_more f ys x)
