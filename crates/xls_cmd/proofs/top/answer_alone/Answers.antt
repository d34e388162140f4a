use Rattle.std.proofs.Common.{map, string_bytes, refl}
use Rattle.xb_io.specs.Counts.{HasRisen}
use Rattle.xls_cmd.specs.Shared.Events.{file_events, sink_events}
use Rattle.xls_cmd.proofs.Lemmas.Shared.{answered}
use Rattle.xls_cmd.specs.Answer.{expected, named_files}
use Rattle.xls_cmd.proofs.Answering.{completely}
use Rattle.xls_cmd.proofs.top.answer_alone.Goals as goal

pub returns-in-Some-clause-answered : goal.returns-in-Some-clause-answered
returns-in-Some-clause-answered g c =
    answered (λ text. text.items) (expected (map string_bytes c.args.words.now) (g.F.Files.told c.args.files.now)) (named_files (map string_bytes c.args.words.now))
    (file_events g.F.Files.asked g.F.Files.faults g.F.Files.taken c.args.files.now c.execute_alone.new.files)
    (sink_events g.O.Sink.written g.O.Sink.faults c.args.out.now c.respond.new.out) (sink_events g.E.Sink.written g.E.Sink.faults c.args.err.now c.respond.new.err)
    c.in-Some.given c.respond.result c.in-Some.ensures c.respond.ensures

pub returns-in-Some-clause-complete : goal.returns-in-Some-clause-complete
returns-in-Some-clause-complete g c =
    let all = answered (λ text. text.items) (expected (map string_bytes c.args.words.now) (g.F.Files.told c.args.files.now)) (named_files (map string_bytes c.args.words.now))
    (file_events g.F.Files.asked g.F.Files.faults g.F.Files.taken c.args.files.now c.execute_alone.new.files)
    (sink_events g.O.Sink.written g.O.Sink.faults c.args.out.now c.respond.new.out) (sink_events g.E.Sink.written g.E.Sink.faults c.args.err.now c.respond.new.err)
    c.in-Some.given c.respond.result c.in-Some.ensures c.respond.ensures in
    completely c.one_answer.ensures.agrees (map string_bytes c.args.words.now) (g.F.Files.told c.args.files.now)
    (file_events g.F.Files.asked g.F.Files.faults g.F.Files.taken c.args.files.now c.execute_alone.new.files) all.names
    (sink_events g.O.Sink.written g.O.Sink.faults c.args.out.now c.respond.new.out) (sink_events g.E.Sink.written g.E.Sink.faults c.args.err.now c.respond.new.err)
    c.respond.result (HasRisen (g.F.Files.faults c.args.files.now) (g.F.Files.faults c.execute_alone.new.files)) (HasRisen (g.O.Sink.faults c.args.out.now) (g.O.Sink.faults c.respond.new.out))
    (λ risen. risen) (λ bytes broke. broke.1) all.answers

pub returns-in-None-clause-answered : goal.returns-in-None-clause-answered
returns-in-None-clause-answered g c = record { wants = c.in-None.ensures.0; files = c.in-None.ensures.1; out = refl; err = refl }
