-- Which stages move.
use Rattle.std.proofs.Common.{◌≡◌, ℕ, zero, suc, ◌-◌, ◌<◌, [], refl, arith, true, false, Bool, Option, Some, None}
use Rattle.std.specs.Prelude.{◌||◌, ◌&&◌, not, is_some}
use Rattle.net_core.specs.declared.event.Event.{Event}
use Rattle.block_stage.specs.Machine.Pipeline.{Pipeline, first}
use Rattle.block_stage.specs.Machine.Cycle.{Ports, Registers, stopped, in_stage, moves_before, moves}

pub and_left : (x y : Bool) → (x && y) ≡ true → x ≡ true
and_left true y e = refl
and_left false y e = e

pub and_right : (x y : Bool) → (x && y) ≡ true → y ≡ true
and_right true y e = e
and_right false y e = cc

none_is : (stall : Option Event) → not (is_some stall) ≡ true → stall ≡ None
none_is None e = refl
none_is (Some w) e = cc

pub record IsMoving (q : Pipeline) (c : Registers) (ports : Ports) (j : ℕ) : Type 0 where
  pub full : c.full j ≡ true
  pub stall : (in_stage q c ports j).stall ≡ None

moving_before : (q : Pipeline) (c : Registers) (ports : Ports) (n j : ℕ) → moves_before q c ports n j ≡ true → IsMoving q c ports j
moving_before q c ports zero j e = record { full = and_left (c.full j) _ e; stall = none_is _ (and_right (c.full j) _ e) }
moving_before q c ports (suc n) j e =
    let here = and_left (c.full j && not (is_some (in_stage q c ports j).stall)) _ e in
    record { full = and_left (c.full j) _ here; stall = none_is _ (and_right (c.full j) _ here) }

-- a stage that moves holds an activation, which waits for nothing
pub moving : (q : Pipeline) (c : Registers) (ports : Ports) (j : ℕ) → moves q c ports j ≡ true → IsMoving q c ports j
unfolding moves
moving q c ports j e = moving_before q c ports (q.stages - suc j) j e

next_moves : (x y z : Bool) → (x && (not y || z)) ≡ true → y ≡ true → z ≡ true
next_moves true true z e h = e
next_moves true false z e h = cc
next_moves false y z e h = cc

-- it moves into no stage that keeps its activation
pub next_is_free : (q : Pipeline) (c : Registers) (ports : Ports) (j : ℕ) → suc j < q.stages → moves q c ports j ≡ true → c.full (suc j) ≡ true → moves q c ports (suc j) ≡ true
unfolding moves
next_is_free q c ports j l e f =
    let h : q.stages - suc j ≡ suc (q.stages - suc (suc j)) = omega arith in
    next_moves (c.full j && not (is_some (in_stage q c ports j).stall)) _ _ (rw h at e) f

-- a stage that holds no activation does nothing
pub idle : (q : Pipeline) (c : Registers) (ports : Ports) (j : ℕ) → c.full j ≡ false → in_stage q c ports j ≡ stopped (first q j) [] None
unfolding in_stage
idle q c ports j e = rw e

pub still : (q : Pipeline) (c : Registers) (ports : Ports) (j : ℕ) → c.full j ≡ false → moves q c ports j ≡ false
still q c ports j e = go (moves q c ports j) refl
  where
    go : (x : Bool) → moves q c ports j ≡ x → x ≡ false
    go false h = refl
    go true h = let m = moving q c ports j h in let f = m.full in cc
