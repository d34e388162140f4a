use Rattle.std.proofs.Common.{arith}
use Rattle.dslx_check_items.specs.Inner.Parts.{pattern_names}
use Rattle.dslx_check_items.specs.Inner.Plain.{walk_shown}
use Rattle.dslx_check_items.proofs.OnMentions.Bindings.{begun, ended, went_on}
use Rattle.dslx_check_items.proofs.binds.+bind.Goals as goal

pub bind_patterns-patterns-init : goal.bind_patterns-patterns-init
bind_patterns-patterns-init t c = begun pattern_names c.args.patterns.now (walk_shown c.args.w.now)

pub bind_patterns-patterns-preserved : goal.bind_patterns-patterns-preserved
bind_patterns-patterns-preserved t c =
    went_on pattern_names c.args.patterns.now c.patterns.i _ c.index-patterns-at.result (walk_shown c.args.w.now) (walk_shown c.patterns.w) (walk_shown c.bind_pattern.new.w)
    (omega arith) c.index-patterns-at.is c.patterns.invariant c.in_ok-bind_pattern.ensures

pub bind_patterns-returns : goal.bind_patterns-returns
bind_patterns-returns t c = ended pattern_names c.args.patterns.now c.patterns.i (walk_shown c.args.w.now) (walk_shown c.patterns.w) (omega arith) c.patterns.invariant
