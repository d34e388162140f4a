use Rattle.std.specs.Prelude.{ℕ, List, Option}

-- what files hold: by a file's name its bytes, or None where there is no such file
abbrev pub Contents : Type 0
Contents = List ℕ → Option (List ℕ)
