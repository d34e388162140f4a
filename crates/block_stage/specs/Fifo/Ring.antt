-- A FIFO as a ring of registers and two pointers, which count modulo twice the depth: so the same slot under both tells
-- an empty ring from a full one.
use Rattle.std.specs.Prelude.{◌≡◌, ℕ, suc, ◌+◌, ◌-◌, ◌<◌, Bool, ◌&&◌, not, List, length, slice_get, nat_lt, if◌then◌else◌, ◌==◌, is_some, unwrap_or, Option, Some}

pub record Ring (A : Type 0) : Type 0 where
  pub read : ℕ
  pub write : ℕ
  pub slot : ℕ → A

-- the slot of a pointer
abbrev pub place : ℕ → ℕ → ℕ
place depth p = if nat_lt p depth then p else p - depth

-- a pointer counts up, to 0 behind the last
abbrev pub up : ℕ → ℕ → ℕ
up depth p = if suc p == depth + depth then 0 else suc p

abbrev pub has_word : {A : Type 0} → Ring A → Bool
has_word ring = not (ring.read == ring.write)

abbrev pub has_room : {A : Type 0} → ℕ → Ring A → Bool
has_room depth ring = not ((place depth ring.read == place depth ring.write) && has_word ring)

abbrev pub first_word : {A : Type 0} → ℕ → Ring A → A
first_word depth ring = ring.slot (place depth ring.read)

abbrev pub gives : {A : Type 0} → Ring A → Bool → Bool
gives ring ready = ready && has_word ring

abbrev pub takes : {A : Type 0} → ℕ → Ring A → Option A → Bool
takes depth ring valid_data = is_some valid_data && has_room depth ring

abbrev pub ring_after : {A : Type 0} → ℕ → Ring A → Bool → Option A → Ring A
ring_after depth ring ready valid_data = record {
  read = if gives ring ready then up depth ring.read else ring.read;
  write = if takes depth ring valid_data then up depth ring.write else ring.write;
  slot = λ x. if takes depth ring valid_data && (place depth ring.write == x) then unwrap_or valid_data (ring.slot x) else ring.slot x;
}

-- a pointer so many positions further on
abbrev pub on_by : ℕ → ℕ → ℕ → ℕ
on_by depth p k = if nat_lt (p + k) (depth + depth) then p + k else p + k - (depth + depth)

-- the ring holds these words, of which there are at most as many as slots
pub record RingHolds (A : Type 0) (depth : ℕ) (ring : Ring A) (words : List A) : Type 0 where
  pub read : ring.read < depth + depth
  pub write : ring.write ≡ on_by depth ring.read (length words)
  pub slots : (k : ℕ) → k < length words → slice_get words k ≡ Some (ring.slot (place depth (on_by depth ring.read k)))
