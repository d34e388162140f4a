use Rattle.std.proofs.Common.{◌+◌, ◌++◌, ◌∙◌, List, ap, drop, map, sym, arith}
use Rattle.dslx_meaning.specs.Network.{outer_ends}
use Rattle.dslx_config.specs.Configs.Shown.{held}
use Rattle.dslx_config.specs.declared.configs.end.NumberedEnd.{NumberedEnd}
use Rattle.dslx_config.proofs.OnConfigs.Numbered.{next_given}
use Rattle.dslx_config.proofs.configs.end.number_given.Goals as goal

pub given-preserved : goal.given-preserved
given-preserved c =
    ap (λ (es : List NumberedEnd). map held es ++ outer_ends (c.given.i + 1) (drop (c.given.i + 1) c.args.given.now)) c.in_ok-push.ensures.items
    ∙ next_given c.given.ends.items _ c.args.given.now c.given.i c.index-given-i.result (omega arith) c.index-given-i.is
    (λ k. record { name = (sym c.index-given-i.is k).name.name; channel = c.given.i })
    ∙ c.given.invariant
