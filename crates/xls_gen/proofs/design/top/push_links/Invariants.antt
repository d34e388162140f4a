use Rattle.std.proofs.Common.{◌≡◌, ◌++◌}
use Rattle.std.specs.Prelude.{string_bytes}
use Rattle.xls_gen.specs.Design.Draw.{drawn}
use Rattle.xls_gen.specs.Design.TopText.{links_text}
use Rattle.xls_gen.proofs.design.top.push_links.Given as goal

abbrev pub invariant-links : goal.invariant-links
invariant-links l = record {
  number : l.number ≡ drawn l.seed l.index;
  text : string_bytes l.text ≡ string_bytes l.fn.text ++ links_text l.seed l.index;
}
