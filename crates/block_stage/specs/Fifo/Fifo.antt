-- A FIFO as the list of the words that are in it, the oldest first.
use Rattle.std.specs.Prelude.{ℕ, Bool, List, [], ◌∷◌, ◌++◌, length, take, drop, nat_lt, if◌then◌else◌, Option, Some, None, option_to_list}

-- the word that can be taken, and whether there is room for one more: by what is in it before the cycle
abbrev pub next_word : {A : Type 0} → List A → Option A
next_word [] = None
next_word (w ∷ ws) = Some w

abbrev pub has_room : {A : Type 0} → ℕ → List A → Bool
has_room depth words = nat_lt (length words) depth

-- in a cycle in which the reader is ready or not, and the writer has valid a word or none: what is given, and what is put in
abbrev pub given_in : {A : Type 0} → List A → Bool → List A
given_in words ready = if ready then take 1 words else []

abbrev pub put_in : {A : Type 0} → ℕ → List A → Option A → List A
put_in depth words valid_data = if has_room depth words then option_to_list valid_data else []

abbrev pub after_cycle : {A : Type 0} → ℕ → List A → Bool → Option A → List A
after_cycle depth words ready valid_data = (if ready then drop 1 words else words) ++ put_in depth words valid_data

-- the words that are in it, and all that were given and put in since it was empty
pub record SinceReset (A : Type 0) : Type 0 where
  pub words : List A
  pub given : List A
  pub put : List A

abbrev pub empty : {A : Type 0} → SinceReset A
empty = record { words = []; given = []; put = [] }

abbrev pub one_more : {A : Type 0} → ℕ → SinceReset A → Bool → Option A → SinceReset A
one_more depth since ready valid_data = record {
  words = after_cycle depth since.words ready valid_data;
  given = since.given ++ given_in since.words ready;
  put = since.put ++ put_in depth since.words valid_data;
}

-- a cycle: whether the reader is ready, and what the writer has valid
pub record Cycle (A : Type 0) : Type 0 where
  pub ready : Bool
  pub valid_data : Option A

abbrev pub after_cycles : {A : Type 0} → ℕ → SinceReset A → List (Cycle A) → SinceReset A
after_cycles depth since [] = since
after_cycles depth since (cycle ∷ more) = after_cycles depth (one_more depth since cycle.ready cycle.valid_data) more
