-- The limits: their indices, and the words that messages name them by.
use Rattle.std.specs.Prelude.{ℕ, List, [], ◌∷◌, codes}
use Rattle.xb_span.specs.declared.limit.What.{What}
use Rattle.xb_span.specs.declared.limit.What.TheVariants.{File, Nesting, Width, Leaves, Levels, Word, Turns, Size, Sites, Depth, Instances, Procs, Channels, Cycles}

abbrev pub word_of : What → List ℕ
word_of File = codes "file"
word_of Nesting = codes "nesting"
word_of Width = codes "width"
word_of Leaves = codes "leaves"
word_of Levels = codes "levels"
word_of Word = codes "word"
word_of Turns = codes "turns"
word_of Size = codes "size"
word_of Sites = codes "sites"
word_of Depth = codes "depth"
word_of Instances = codes "instances"
word_of Procs = codes "procs"
word_of Channels = codes "channels"
word_of Cycles = codes "cycles"

-- the index of a limit in the table of limits: of those that one end passes, the first is named
abbrev pub index_of : What → ℕ
index_of File = 0
index_of Nesting = 1
index_of Width = 2
index_of Leaves = 3
index_of Levels = 4
index_of Word = 5
index_of Turns = 6
index_of Size = 7
index_of Sites = 8
index_of Depth = 9
index_of Instances = 10
index_of Procs = 11
index_of Channels = 12
index_of Cycles = 13

-- the limits in their order
abbrev pub limits : List What
limits = File ∷ Nesting ∷ Width ∷ Leaves ∷ Levels ∷ Word ∷ Turns ∷ Size ∷ Sites ∷ Depth ∷ Instances ∷ Procs ∷ Channels ∷ Cycles ∷ []
