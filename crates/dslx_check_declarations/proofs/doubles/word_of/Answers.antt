use Rattle.std.proofs.Common.{◌∙◌, sym}
use Rattle.dslx_check_declarations.proofs.OnDoubles.{kind_is}
use Rattle.dslx_check_declarations.proofs.doubles.word_of.Goals as goal

pub returns-then-same_kind : goal.returns-then-same_kind
returns-then-same_kind c =
    kind_is c.args.kind c.kind_of.result c.in-Bits.signed c.in-Bits.word c.value.result c.args.value.now (sym c.same_kind.ensures ∙ c.if-same_kind.true) c.in-Bits.is c.kind_of.ensures c.value.ensures.value
