-- The text of the proc that makes the channels and spawns the others: the channel cI, whose ends are pI and cI, leads from the proc before I to the proc I.
use Rattle.std.specs.Prelude.{ℕ, zero, suc, ◌==◌, ◌-◌, List, [], ◌++◌, codes, decimal, if◌then◌else◌}
use Rattle.xls_gen.specs.Design.Draw.{drawn, out_depth}
use Rattle.xls_gen.specs.Design.ProcText.{config_start}

unfoldable pub top_name : List ℕ
top_name = codes "proc Main {\n"

unfoldable pub top_start : List ℕ
top_start = top_name ++ (config_start ++ codes "\n")

-- `let (pN, cN) = `
unfoldable pub channel_ends : ℕ → List ℕ
channel_ends n = codes "    let (p" ++ (decimal n ++ (codes ", c" ++ (decimal n ++ codes ") = ")))

-- `chan<u32, u32:DEPTH>("cN"); `
unfoldable pub channel_made : ℕ → ℕ → List ℕ
channel_made n depth = codes "chan<u32, u32:" ++ (decimal depth ++ (codes ">(\"c" ++ (decimal n ++ codes "\"); ")))

-- from where the proc with the index i receives: from the outside, or from the channel before it
abbrev pub input_end : ℕ → List ℕ
input_end i = if i == 0 then codes "a" else (codes "c" ++ decimal i)

-- `spawn PI(INPUT, `
unfoldable pub spawn_start : ℕ → List ℕ
spawn_start i = codes "spawn P" ++ (decimal i ++ (codes "(" ++ (input_end i ++ codes ", ")))

unfoldable pub output_end : ℕ → List ℕ
output_end n = codes "p" ++ (decimal n ++ codes ");\n")

-- the line of the proc with the index i, and of the channel behind it
abbrev pub link_text : ℕ → ℕ → List ℕ
link_text i depth = channel_ends (suc i) ++ (channel_made (suc i) depth ++ (spawn_start i ++ output_end (suc i)))

-- the lines of the first k procs
abbrev pub links_text : ℕ → ℕ → List ℕ
links_text seed zero = []
links_text seed (suc k) = links_text seed k ++ link_text k (out_depth (drawn seed (suc k)))

-- the line of the last proc, which sends to the outside
unfoldable pub last_spawn : ℕ → List ℕ
last_spawn i = codes "    " ++ (spawn_start i ++ codes "b); }\n")

unfoldable pub top_end : List ℕ
top_end = codes "  init { () }\n  next(s: ()) { s } }\n"

-- the proc over k others, of which there is one at least
abbrev pub top_text : ℕ → ℕ → List ℕ
top_text seed k = top_start ++ (links_text seed (k - 1) ++ (last_spawn (k - 1) ++ top_end))
