-- What lies in a worker's deque, and what its passes know.
use Rattle.std.specs.Prelude.{◌≡◌, ℕ, ◌+◌, ◌-◌, ◌<◌, Bool, true, false, List, [], ◌∷◌, ◌++◌, sum_by, Option, Some, None}
use mathlib.Core.Option.{some}
use lib.ListN.{get_elem?}
use Rattle.task_queue.specs.declared.lane.tally.Tally.{Tally}
use Rattle.task_queue.specs.declared.lane.item.Item.{Item}
use Rattle.task_queue.specs.declared.lane.item.Item.TheVariants as item

-- a deque at a moment: of which run it is, and whether it holds that alone
pub record Standing (N : Type 0) : Type 0 where
  pub run : Option N
  pub opens : Bool

module _ {N : Type 0} where
  -- a pass knows it
  pub record KnowsLane (at : Standing N) (v : Tally N) : Type 0 where
    pub run : v.run ≡ at.run
    pub opens : v.opens ≡ at.opens

  -- of a pass without a part nothing is known, and it has put and taken nothing
  pub record IsIdle (v : Tally N) : Type 0 where
    pub put : v.put ≡ []
    pub taken : v.taken ≡ []

  -- the pass of a new deque, and when the deque is of a run
  abbrev pub unused : Tally N
  unused = record { parts = 1024; opens = false; run = None; put = []; taken = [] }

  abbrev pub opened : N → Tally N
  opened r = record { parts = 1024; opens = false; run = Some r; put = []; taken = [] }

  -- the two passes that are made of one, and one that is made of two
  abbrev pub keeping : Tally N → Tally N
  keeping v = record v { parts = v.parts - 1 }

  abbrev pub giving : Tally N → Tally N
  giving v = record v { parts = 1; put = []; taken = [] }

  abbrev pub both : Tally N → Tally N → Tally N
  both v w = record v { parts = v.parts + w.parts; put = v.put ++ w.put; taken = v.taken ++ w.taken }

  abbrev pub spent : Tally N
  spent = record { parts = 0; opens = false; run = None; put = []; taken = [] }

module _ {T N : Type 0} (number : T → ℕ) where
  -- what a function gives for the number of a task
  abbrev pub weigh : (ℕ → ℕ) → Item N T → ℕ
  weigh h (item.Run r) = 0
  weigh h (item.Task x) = h (number x)

module _ {T N : Type 0} (number : T → ℕ) (run : T → N) (fact : T → Type 0) where
  -- it is a task of this run, and its fact holds
  abbrev pub IsTaskThere : Option N → Item N T → Type 0
  IsTaskThere runtime (item.Run r) = ⊥
  IsTaskThere runtime (item.Task x) = (runtime ≡ Some (run x)) × fact x

  abbrev pub AreTasksThere : Option N → List (Item N T) → Type 0
  AreTasksThere runtime [] = Unit {0}
  AreTasksThere runtime (x ∷ xs) = IsTaskThere runtime x × AreTasksThere runtime xs

  -- what the deque holds: of which run it is alone, or tasks of that run
  abbrev pub LiesThere : Bool → Option N → List (Item N T) → Type 0
  LiesThere true runtime items = (r : N) × (items ≡ item.Run r ∷ [])
  LiesThere false runtime items = AreTasksThere runtime items

  -- the rule of a deque: what was put there is what was taken and what lies there, whatever is added up over the numbers
  pub record IsDeque (items : List (Item N T)) (views : List (Tally N)) : Type 0 where
    pub at : Standing N
    pub parts : sum_by (λ (v : Tally N). v.parts) views ≡ 1024
    pub once : (h : ℕ → ℕ) → sum_by (λ (v : Tally N). sum_by h v.put) views
        ≡ sum_by (λ (v : Tally N). sum_by h v.taken) views + sum_by (weigh number h) items
    pub lies : LiesThere at.opens at.run items
    pub knows : (pass : ℕ) (v : Tally N) → get_elem? views pass ≡ some v → 0 < v.parts → KnowsLane at v
    pub idle : (pass : ℕ) (v : Tally N) → get_elem? views pass ≡ some v → v.parts ≡ 0 → IsIdle v
