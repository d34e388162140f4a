use Rattle.std.proofs.Common.{◌++◌}
use Rattle.std.specs.Prelude.{codes, flat_map}
use Rattle.xb_span.specs.PieceText.{piece_text}
use Rattle.xls_cmd.proofs.OnShared.Putting.{breaks_in_first, breaks_in_second, breaks_in_last, on_err, on_err_map}
use Rattle.xls_cmd.proofs.shared.fault.put_in_file.Goals as goal

pub returns-in_err-put_pieces-clause-failed : goal.returns-in_err-put_pieces-clause-failed
returns-in_err-put_pieces-clause-failed g c =
    on_err c.from_residual.result (breaks_in_first _ _ (c.args.name.now ++ codes ": ") (flat_map piece_text c.args.message.now) (codes "\n") _ _ c.in_err-put_pieces.ensures.failed.0 c.in_err-put_pieces.ensures.failed.1)

pub returns-in_err-put_pieces-2-clause-failed : goal.returns-in_err-put_pieces-2-clause-failed
returns-in_err-put_pieces-2-clause-failed g c =
    on_err c.from_residual-in_err-put_pieces-2.result (breaks_in_second _ (g.S.Sink.written c.put_pieces.new.sink) _ (c.args.name.now ++ codes ": ") (flat_map piece_text c.args.message.now) (codes "\n") _ _ _
    c.in_ok-put_pieces.ensures.ok.0 c.in_ok-put_pieces.ensures.ok.1 c.in_err-put_pieces-2.ensures.failed.0 c.in_err-put_pieces-2.ensures.failed.1)

pub returns-clause-failed : goal.returns-clause-failed
returns-clause-failed g c = on_err_map c.put_pieces-3.result (λ broken. breaks_in_last _ (g.S.Sink.written c.put_pieces.new.sink) (g.S.Sink.written c.put_pieces-2.new.sink) _ (c.args.name.now ++ codes ": ") (flat_map piece_text c.args.message.now) (codes "\n") _ _ _ _
    c.in_ok-put_pieces.ensures.ok.0 c.in_ok-put_pieces.ensures.ok.1 c.in_ok-put_pieces-2.ensures.ok.0 c.in_ok-put_pieces-2.ensures.ok.1 broken.0 broken.1) c.put_pieces-3.ensures.failed
