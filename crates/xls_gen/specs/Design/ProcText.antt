-- The texts of the procs in the chain.
use Rattle.std.specs.Prelude.{ℕ, zero, suc, List, [], ◌++◌, codes, decimal}
use Rattle.xls_gen.specs.declared.design.draw.ProcKind.{ProcKind}
use Rattle.xls_gen.specs.declared.design.draw.ProcKind.TheVariants as kinds
use Rattle.xls_gen.specs.Design.Draw.{drawn, proc_kind}

unfoldable pub members : List ℕ
members = codes " { a: chan<u32> in; b: chan<u32> out;\n"

-- `proc PI` and the members
unfoldable pub proc_start : ℕ → List ℕ
proc_start i = codes "proc P" ++ (decimal i ++ members)

unfoldable pub config_start : List ℕ
config_start = codes "  config(a: chan<u32> in, b: chan<u32> out) {"

unfoldable pub proc_config : List ℕ
proc_config = config_start ++ codes " (a, b) }\n"

unfoldable pub proc_init : List ℕ
proc_init = codes "  init { u32:0 }\n"

unfoldable pub proc_receive : List ℕ
proc_receive = codes "  next(s: u32) { let (t, x) = recv(join(), a); let y = "

-- what a proc of this kind with the number v sends for the word x in the state s
abbrev pub sent_text : ProcKind → ℕ → List ℕ
sent_text kinds.Adds v = codes "x + u32:" ++ decimal v
sent_text kinds.Xors v = codes "x ^ u32:" ++ decimal v
sent_text kinds.Subtracts v = codes "x - u32:" ++ decimal v
sent_text kinds.Sums v = codes "s + x"

-- the state behind it: the same, but for a sum
abbrev pub next_state : ProcKind → List ℕ
next_state kinds.Adds = codes "s"
next_state kinds.Xors = codes "s"
next_state kinds.Subtracts = codes "s"
next_state kinds.Sums = codes "y"

unfoldable pub proc_send : List ℕ
proc_send = codes "; send(t, b, y); "

unfoldable pub proc_end : ProcKind → List ℕ
proc_end kind = proc_send ++ (next_state kind ++ codes " } }\n")

-- the proc with the index i and the number v
unfoldable pub proc_text : ℕ → ℕ → List ℕ
proc_text i v = proc_start i ++ (proc_config ++ (proc_init ++ (proc_receive ++ (sent_text (proc_kind v) v ++ proc_end (proc_kind v)))))

-- the first k procs
abbrev pub procs_text : ℕ → ℕ → List ℕ
procs_text seed zero = []
procs_text seed (suc k) = procs_text seed k ++ proc_text k (drawn seed (suc k))
