use Rattle.std.proofs.Common.{None, take}
use Rattle.dslx_meaning.specs.Network.{last_proc_of}
use Rattle.dslx_meaning.specs.Rules.Namesakes.{told_apart}
use Rattle.dslx_check_facts.specs.Known.{text_of}
use Rattle.dslx_check_declarations.specs.Tops.{IsProcIf}
use Rattle.dslx_check_declarations.proofs.tops.last_proc.Given as goal

abbrev pub invariant-items : goal.invariant-items
invariant-items l = IsProcIf l.f (last_proc_of (take l.item (told_apart (text_of l.f)).items) None) l.found
