-- Bodies of procs, in the order of the procs of a run.
use Rattle.std.proofs.Common.{◌≡◌, ℕ, zero, suc, ◌<◌, List, [], ◌∷◌, length, map, get_or, refl, sym, ap, ◌∙◌, subst, arith, Some, None, Option}
use Rattle.std.specs.Prelude.{slice_get, option_map}
use Rattle.std.proofs.lemmas.List.{length-map}
use Rattle.std.proofs.lemmas.Option.{slice_get-map, slice_get_read}
use Rattle.net_core.specs.declared.net.ProcHead.{ProcHead}
use Rattle.net_core.specs.Behavior.{Behavior, KeepsTypes}
use Rattle.net_core.specs.Cuts.{Proc, Run}
use Rattle.net_core.specs.WellFormed.{EachKeepsTypes, procs_of}
use Rattle.net_core.specs.Outcomes.{behaviors_of}
use Rattle.net_core.specs.Shows.{IsBehaviorOf}

has_behavior : (o : Option Proc) (b : Behavior) → option_map (λ (proc : Proc). proc.behavior) o ≡ Some b → (proc : Proc) × (o ≡ Some proc) × (proc.behavior ≡ b)
has_behavior None b e = cc
has_behavior (Some proc) b e = (proc, refl, cc)

-- the body of a place has the behavior of the proc of that place
pub behavior_there : {X : Type 0} (behavior : X → Behavior) (run : Run) (bodies : List X) (p : ℕ) (body : X) → behaviors_of run ≡ map behavior bodies
    → p < length bodies → body ≡ get_or bodies p body → IsBehaviorOf run p (behavior body)
behavior_there behavior run bodies p body e l read =
    let there = slice_get_read bodies (length bodies) p body refl l read in
    has_behavior (slice_get run.procs p) (behavior body)
    (sym (slice_get-map (λ (proc : Proc). proc.behavior) run.procs p) ∙ (ap (λ bs. slice_get bs p) e ∙ (slice_get-map behavior bodies p ∙ ap (λ o. option_map behavior o) there)))

pub count_behaviors : {X : Type 0} (behavior : X → Behavior) (run : Run) (bodies : List X) → behaviors_of run ≡ map behavior bodies → length run.procs ≡ length bodies
count_behaviors behavior run bodies e =
    sym (length-map run.procs (λ (proc : Proc). proc.behavior)) ∙ (ap length e ∙ length-map bodies behavior)

pub each_keeps : {X : Type 0} (behavior : X → Behavior) → ((x : X) → KeepsTypes (behavior x)) → (bodies : List X) → EachKeepsTypes (map behavior bodies)
each_keeps behavior keep [] p b e = cc
each_keeps behavior keep (x ∷ xs) zero b e = let same : behavior x ≡ b = cc in subst (λ (y : Behavior). KeepsTypes y) same (keep x)
each_keeps behavior keep (x ∷ xs) (suc p) b e = each_keeps behavior keep xs p b e

-- the procs of a run do what they were given to do
pub behaviors_zipped : (heads : List ProcHead) (bs : List Behavior) → length bs ≡ length heads → map (λ (proc : Proc). proc.behavior) (procs_of heads bs) ≡ bs
behaviors_zipped [] [] e = refl
behaviors_zipped [] (b ∷ bs) e = absurd (omega (arith, e))
behaviors_zipped (h ∷ heads) [] e = absurd (omega (arith, e))
behaviors_zipped (h ∷ heads) (b ∷ bs) e = ap (λ xs. b ∷ xs) (behaviors_zipped heads bs (omega (arith, e)))
