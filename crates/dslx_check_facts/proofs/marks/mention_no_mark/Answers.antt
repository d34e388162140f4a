use Rattle.std.proofs.Common.{arith, subst, sym}
use Rattle.dslx_check_facts.specs.Names.{IsUnmarked}
use Rattle.dslx_check_facts.proofs.OnMarks.{NamesNoMark, all_seen, all_shown, one_more}
use Rattle.dslx_check_facts.proofs.marks.mention_no_mark.Goals as goal

pub mentions-init : goal.mentions-init
mentions-init c h = h

pub mentions-preserved : goal.mentions-preserved
mentions-preserved c = one_more NamesNoMark c.args.mentions.now c.mentions.i c.index-mentions-i.result (omega arith) c.index-mentions-i.is (subst NamesNoMark (sym c.index-mentions-i.is) c.unmarked-name.ensures) c.mentions.invariant

pub returns : goal.returns
returns c = all_shown c.args.mentions.now (all_seen NamesNoMark c.args.mentions.now c.mentions.i (omega arith) c.mentions.invariant)
