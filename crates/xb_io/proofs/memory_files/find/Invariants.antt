use Rattle.std.proofs.Common.{◌≡◌, drop}
use Rattle.xb_io.specs.MemFile.{contents_of}
use Rattle.xb_io.proofs.memory_files.find.Given as goal

abbrev pub invariant-loop-file : goal.invariant-loop-file
invariant-loop-file l = contents_of l.files l.name ≡ contents_of (drop l.file-index l.files) l.name
