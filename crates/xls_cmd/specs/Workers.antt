-- Which words want several workers.
use Rattle.std.specs.Prelude.{◌≡◌, ℕ, Bool, true, false, List, Option, Some, None, nat_lt}
use Rattle.cmd_line.specs.CommandLine.{arguments_of}
use Rattle.cmd_line.specs.declared.request.Request.{Request}
use Rattle.cmd_line.specs.declared.request.Request.TheVariants as request
use Rattle.cmd_line.specs.declared.request.Run.{Run}

-- a run by two or more workers
abbrev pub has_workers : Run (List ℕ) → Bool
has_workers arguments = nat_lt 1 arguments.how.workers

abbrev pub is_by_workers : Request (List ℕ) → Bool
is_by_workers (request.Run arguments) = has_workers arguments
is_by_workers (request.Gen arguments) = true
is_by_workers _ = false

abbrev pub wants_workers_for : Option (Request (List ℕ)) → Bool
wants_workers_for (Some arguments) = is_by_workers arguments
wants_workers_for None = false

-- words that say a run by two or more workers, or `gen`, one of whose runs is by four
abbrev pub wants_workers : List (List ℕ) → Bool
wants_workers words = wants_workers_for (arguments_of words)

-- The words say such a run, and what the program may touch stayed as it was.
pub record IsLeftToWorkers (words : List (List ℕ)) (same_files same_out same_err : Type 0) : Type 0 where
  pub wants : wants_workers words ≡ true
  pub files : same_files
  pub out : same_out
  pub err : same_err
