use Rattle.std.proofs.Common.{None, take, arith}
use Rattle.dslx_meaning.specs.Network.{last_proc_of}
use Rattle.dslx_meaning.specs.Rules.Namesakes.{told_apart}
use Rattle.dslx_check_facts.specs.Known.{text_of}
use Rattle.dslx_check_declarations.proofs.OnTops.{last_next, last_of_all}
use Rattle.dslx_check_declarations.proofs.tops.last_proc.Goals as goal

pub items-init : goal.items-init
items-init c = tt

pub items-preserved : goal.items-preserved
items-preserved c = last_next c.args.f.now _ (told_apart (text_of c.args.f.now)).items c.items.item (c.later-found.ensures (last_proc_of (take c.items.item (told_apart (text_of c.args.f.now)).items) None) c.items.invariant)

pub returns : goal.returns
returns c = last_of_all c.args.f.now _ c.items.item (omega (arith, c.len-item-end.ensures)) c.items.invariant
