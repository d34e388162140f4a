use Rattle.std.proofs.Common.{◌≡◌, ◌∙◌, List, true, ap, sym, subst}
use Rattle.std.proofs.lemmas.Result.{IfOk-weaker}
use Rattle.xb_bits.specs.Word.{Word}
use Rattle.xls_gen.specs.Feed.Feeding.{Feeds, is_feedable}
use Rattle.xls_gen.specs.Level.{level_line}
use Rattle.xls_gen.specs.declared.level.Level.TheVariants.{Verilog}
use Rattle.xls_cmd.proofs.generate.hardware.fed_line.Goals as goal

pub feed-requires-clause-fits : goal.feed-requires-clause-fits
feed-requires-clause-fits c = sym c.can_be_fed.ensures ∙ c.if-can_be_fed.true

pub returns-in_ok-moved : goal.returns-in_ok-moved
returns-in_ok-moved c =
    let design = c.args.design in
    let moved = c.in_ok-moved.moved in
    IfOk-weaker c.line_of.result _ _
    (λ line is. record {
      moved = moved;
      takes = subst (λ (words : List Word). is_feedable design 0 1 words ≡ true) c.words_of_a-words.ensures (sym c.can_be_fed.ensures ∙ c.if-can_be_fed.true);
      feeds = subst (λ (words : List Word). Feeds design 0 1 words c.args.rows moved) c.words_of_a-words.ensures c.in_ok-moved.ensures;
      is = is ∙ ap (level_line Verilog) c.as_slice.ensures;
    })
    c.line_of.ensures
