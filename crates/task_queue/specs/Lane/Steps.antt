-- What a step tells the pass that makes it.
use Rattle.std.specs.Prelude.{◌≡◌, ℕ, true, List, [], ◌∷◌, ◌++◌, sum_by, Some}
use Rattle.task_queue.specs.declared.lane.tally.Tally.{Tally}
use Rattle.task_queue.specs.declared.lane.item.Item.{Item}
use Rattle.task_queue.specs.declared.lane.item.Item.TheVariants as item

module _ {N : Type 0} where
  -- of which run the deque is
  abbrev pub OpensAs : {T : Type 0} → Tally N → Item N T → Tally N → Type 0
  OpensAs v (item.Run r) w = w ≡ record v { opens = true; run = Some r }
  OpensAs v (item.Task x) w = Unit {0}

  abbrev pub OpensBy : {T : Type 0} → Tally N → List (Item N T) → Tally N → Type 0
  OpensBy v [] w = Unit {0}
  OpensBy v (x ∷ xs) w = OpensAs v x w

  -- if the pass has all parts, what was put there was taken, whatever is added up over the numbers
  abbrev pub IsExhausted : Tally N → Type 0
  IsExhausted v = v.parts ≡ 1024 → (h : ℕ → ℕ) → sum_by h v.put ≡ sum_by h v.taken

module _ {T N : Type 0} (number : T → ℕ) where
  -- a task is put there
  abbrev pub PutsAs : Tally N → Item N T → Tally N → Type 0
  PutsAs v (item.Run r) w = Unit {0}
  PutsAs v (item.Task x) w = w ≡ record v { put = v.put ++ number x ∷ [] }

  abbrev pub PutsBy : Tally N → List (Item N T) → Tally N → Type 0
  PutsBy v [] w = Unit {0}
  PutsBy v (x ∷ xs) w = PutsAs v x w

  -- a task of the run is taken
  abbrev pub TakesBy : (T → N) → (T → Type 0) → Tally N → List (Item N T) → Tally N → Type 0
  TakesBy run fact v xs w = (x : T) × (xs ≡ item.Task x ∷ []) × (w ≡ record v { taken = v.taken ++ number x ∷ [] }) × (v.run ≡ Some (run x)) × fact x
