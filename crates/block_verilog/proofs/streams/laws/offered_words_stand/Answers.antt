use Rattle.block_verilog.proofs.OnStreams.Standing.{word_stands}
use Rattle.block_verilog.proofs.streams.laws.offered_words_stand.Goals as goal

pub returns : goal.returns
returns c m ir schedules depths is = word_stands c.offers_stand.ensures m ir schedules depths is (c.scheduled_packages_are_blocks.ensures ir is.clock schedules depths is.verified is.legal)
