use Rattle.block_verilog.proofs.OnStreams.OnNetworks.{module_moves_its_words}
use Rattle.block_verilog.proofs.streams.laws.modules_move_the_networks_words.Goals as goal

pub returns : goal.returns
returns c m ir schedules depths is =
    module_moves_its_words c.words_move_where_both_sides_are_ready.ensures.outputs c.words_move_where_both_sides_are_ready.ensures.inputs c.block_words_are_the_networks.ensures.outputs c.block_words_are_the_networks.ensures.inputs
    m ir schedules depths is (c.scheduled_packages_are_blocks.ensures ir is.clock schedules depths is.verified is.legal)
