-- What a piece of a message says.
use Rattle.std.specs.Prelude.{ℕ, List}
use Rattle.std.specs.Fmt.{decimal}
use Rattle.xb_span.specs.declared.piece.Piece.{Piece}
use Rattle.xb_span.specs.declared.piece.Piece.TheVariants.{Text, Number}

abbrev pub piece_text : Piece → List ℕ
piece_text (Text text) = text.now
piece_text (Number number) = decimal number
