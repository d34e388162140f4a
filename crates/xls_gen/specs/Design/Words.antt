-- The words of a design's inputs.
use Rattle.std.specs.Prelude.{ℕ, zero, suc, List, [], ◌∷◌, ◌++◌, replicate}
use Rattle.xb_bits.specs.Word.{Word, word}

-- the numbers from 0 to below n, of 32 bits
abbrev pub words_below : ℕ → List Word
words_below zero = []
words_below (suc n) = words_below n ++ word 32 n ∷ []

-- for each channel of the design with k procs its words: 64 for the outer input, and none for the outer output and the k - 1 channels between procs
abbrev pub design_words : ℕ → List (List Word)
design_words k = words_below 64 ∷ replicate k []
