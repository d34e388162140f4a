use Rattle.std.proofs.Common.{◌∙◌}
use Rattle.proc_task.proofs.OnOutcome.Streams.{input_stream, output_stream, inner_stream}
use Rattle.proc_task.proofs.outcome.outcomes.stream.Goals as goal

pub returns-in_ok-words-in-Input : goal.returns-in_ok-words-in-Input
returns-in_ok-words-in-Input g c chan e k =
    input_stream _ _ c.args.c chan e (k ∙ c.in-Input.is) c.args.outside.now c.in_ok-words-in-Input.words c.received_on-received.result c.requires.outside c.received_on-received.ensures (c.in_ok-words-in-Input.ensures ∙ c.first.ensures)

pub returns-in_ok-words-in-Output : goal.returns-in_ok-words-in-Output
returns-in_ok-words-in-Output g c chan e k =
    output_stream _ _ c.args.c chan e (k ∙ c.in-Output.is) c.in_ok-words-in-Output.words (c.in_ok-words-in-Output.ensures ∙ c.sent_on.ensures)

pub returns-in_ok-words-in-Inner : goal.returns-in_ok-words-in-Inner
returns-in_ok-words-in-Inner g c chan e k =
    inner_stream _ _ c.args.c chan e (k ∙ c.in-Inner.is) c.in_ok-words-in-Inner.words c.received_on-received-in-Inner.result (c.in_ok-words-in-Inner.ensures ∙ c.sent_on-in-Inner.ensures) c.received_on-received-in-Inner.ensures
