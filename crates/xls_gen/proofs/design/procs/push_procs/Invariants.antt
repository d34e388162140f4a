use Rattle.std.proofs.Common.{◌≡◌, ◌++◌}
use Rattle.std.specs.Prelude.{string_bytes}
use Rattle.xls_gen.specs.Design.Draw.{drawn}
use Rattle.xls_gen.specs.Design.ProcText.{procs_text}
use Rattle.xls_gen.proofs.design.procs.push_procs.Given as goal

abbrev pub invariant-procs : goal.invariant-procs
invariant-procs l = record {
  number : l.number ≡ drawn l.seed l.index;
  text : string_bytes l.text ≡ string_bytes l.fn.text ++ procs_text l.seed l.index;
}
