use Rattle.block_verilog.proofs.OnStreams.Steadiness.{each_in_its_row, all_in_their_rows, within_depth}
use Rattle.block_verilog.proofs.streams.laws.always_fed_words_move_in_their_rows.Goals as goal

pub returns-clause-each : goal.returns-clause-each
returns-clause-each c m ir schedules depths is =
    each_in_its_row c.words_move_where_both_sides_are_ready.ensures.outputs c.words_move_where_both_sides_are_ready.ensures.inputs c.always_fed_words_move_in_their_row.ensures c.procs_fit_their_network.ensures.net m ir schedules depths is
    (c.scheduled_packages_are_blocks.ensures ir is.clock schedules depths is.verified is.legal)

pub returns-clause-all : goal.returns-clause-all
returns-clause-all c m ir schedules depths is =
    all_in_their_rows c.words_move_where_both_sides_are_ready.ensures.outputs c.words_move_where_both_sides_are_ready.ensures.inputs c.always_fed_words_move_in_their_row.ensures c.procs_fit_their_network.ensures.net m ir schedules depths is
    (c.scheduled_packages_are_blocks.ensures ir is.clock schedules depths is.verified is.legal)

pub returns-clause-stage : goal.returns-clause-stage
returns-clause-stage c = within_depth
