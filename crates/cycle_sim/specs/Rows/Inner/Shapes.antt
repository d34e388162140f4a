-- How code holds the pieces of a line.
use Rattle.std.specs.Prelude.{ℕ, suc, List, [], ◌∷◌, Option, None, Some, if◌then◌else◌}
use denote.Ref.{Bor}
use Rattle.cycle_sim.specs.Rows.Forms.{open_behind, parts_here, pieces_of}

abbrev pub pieces_left : Option (Bor (List ℕ)) → List (List ℕ)
pieces_left None = []
pieces_left (Some line) = pieces_of 0 line.now

-- how far the first piece goes, where so many brackets are open
abbrev pub piece_len : ℕ → List ℕ → ℕ
piece_len depth [] = 0
piece_len depth (c ∷ cs) = if parts_here depth c then 0 else suc (piece_len (open_behind depth c) cs)

-- the pieces behind the first one, where this is left of the line from its end on
abbrev pub more_pieces : List ℕ → List (List ℕ)
more_pieces [] = []
more_pieces (c ∷ cs) = pieces_of 0 cs
