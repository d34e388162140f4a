-- The first assignment whose target depends on itself, and what wires read of one another.
use Rattle.std.specs.Prelude.{◌≡◌, ℕ, ◌<◌, List, [], ◌∷◌, if◌then◌else◌, length, slice_get, slice_set, ◌++◌, Option, Some, None, unwrap_or, Bool, MatchBool}
use Rattle.vlog_tree.specs.Forms.{reads}
use Rattle.vlog_tree.specs.declared.module.VModule.{VModule}
use Rattle.vlog_tree.specs.declared.module.Assignment.{Assignment}
use Rattle.base.specs.TopoOrder.Needs.{Needs}
use Rattle.vlog_tree.specs.Verifier.Parts.{count_of, role_at, is_driven}
use Rattle.vlog_tree.specs.Verifier.Loops.{ReadsWire, Depends}

abbrev pub IsFree : VModule → Assignment → Type 0
IsFree m a = ¬ (Depends m a.target.0 a.target.0)

-- the assignments before index i have targets that don't depend on themselves
abbrev pub AreFreeBefore : VModule → ℕ → Type 0
AreFreeBefore m i = (j : ℕ) (b : Assignment) → j < i → slice_get m.assignments j ≡ Some b → IsFree m b

abbrev pub IsFirstLoop : VModule → Option ℕ → Type 0
IsFirstLoop m None = (i : ℕ) (a : Assignment) → slice_get m.assignments i ≡ Some a → IsFree m a
IsFirstLoop m (Some i) = (a : Assignment) × (slice_get m.assignments i ≡ Some a) × Depends m a.target.0 a.target.0 × AreFreeBefore m i

-- the needs of each signal are the wires that it reads, by assignments before index i
pub record AreNeedsBefore (m : VModule) (i : ℕ) (needs : List (List ℕ)) : Type 0 where
  pub size : length needs ≡ count_of m
  pub sound : (t s : ℕ) → Needs needs t s → ReadsWire m t s
  pub complete : (t s : ℕ) (r : ReadsWire m t s) → r.at < i → Needs needs t s

abbrev pub AreNeeds : VModule → List (List ℕ) → Type 0
AreNeeds m needs = AreNeedsBefore m (length m.assignments) needs

-- of each signal whether it is a wire that depends on itself
pub record AreLoops (m : VModule) (loops : List Bool) : Type 0 where
  pub size : length loops ≡ count_of m
  pub are : (s : ℕ) (does : Bool) → slice_get loops s ≡ Some does → MatchBool does (Depends m s s) (¬ (Depends m s s))

-- the wires among signals
abbrev pub wires_among : VModule → List ℕ → List ℕ
wires_among m [] = []
wires_among m (s ∷ signals) = if is_driven (role_at m s) then s ∷ wires_among m signals else wires_among m signals

-- the needs behind an assignment
abbrev pub needs_with : VModule → List (List ℕ) → Assignment → List (List ℕ)
needs_with m needs a =
    if is_driven (role_at m a.target.0) then slice_set needs a.target.0 (unwrap_or (slice_get needs a.target.0) [] ++ wires_among m (reads a.value)) else needs
