-- What the program answers: its status, its output and its error line together.
use Rattle.std.specs.Prelude.{ℕ, List, ◌++◌, Result, Ok, Err, codes}
use Rattle.base.specs.Lists.Prefix.{IsPrefix}
use Rattle.xls_cmd.specs.Shared.Fault.{Fault, line_of, status_of}
use Rattle.xls_cmd.specs.Shared.Events.{FileEvents, SinkEvents, PutsOrBreaksOff}
use Rattle.xls_cmd.specs.Shared.Done.{IsBackedByBytes, IsLast}

pub data Answers (expected : Result (List ℕ) Fault → Type 0) (files : FileEvents) (names : List (List ℕ)) (out err : SinkEvents) : ℕ → Type 0 where
  -- the text that is expected was written
  wrote : (text : List ℕ) → expected (Ok text) → files.sound → out.puts text → err.untouched → Answers expected files names out err 0
  -- the fault that is expected was named
  refused : (fault : Fault) → expected (Err fault) → files.sound → IsBackedByBytes files fault → out.untouched → PutsOrBreaksOff err (line_of fault) → Answers expected files names out err (status_of fault)
  -- memory was wanting
  no_memory : files.sound → out.untouched → PutsOrBreaksOff err (codes "out of memory\n") → Answers expected files names out err 3
  -- the last file that was asked for couldn't be read
  unread : (name : List ℕ) → IsLast names name → files.faulted → out.untouched → PutsOrBreaksOff err (codes "cannot read " ++ name ++ codes "\n") → Answers expected files names out err 4
  -- the text that is expected couldn't be written, or a prefix of it alone
  unwritten : (text : List ℕ) → expected (Ok text) → files.sound → out.breaks_off text → PutsOrBreaksOff err (codes "cannot write\n") → Answers expected files names out err 5

-- Of the files that the words name, the program asked for the first ones in their order, each once, and answered so.
pub record IsAnswered (expected : Result (List ℕ) Fault → Type 0) (named_files : List (List ℕ)) (files : FileEvents) (out err : SinkEvents) (status : ℕ) : Type 0 where
  pub names : List (List ℕ)
  pub in_order : IsPrefix names named_files
  pub asked : files.asks names
  pub answers : Answers expected files names out err status
