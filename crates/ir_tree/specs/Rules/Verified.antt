-- The rules and limits of a package.
use Rattle.std.specs.Prelude.{◌≡◌, ◌-◌, slice_get, ℕ, suc, false, nat_lt, List, [], ◌∷◌, ◌++◌, length, get_or, replicate, Option, None, Some}
use Rattle.xb_span.specs.declared.span.Span.{Span}
use Rattle.xb_span.specs.declared.fault.Fault.{Fault}
use Rattle.xb_span.specs.declared.fault.Fault.TheVariants.{Passed}
use Rattle.xb_span.specs.declared.limit.What.TheVariants as what
use Rattle.xb_span.specs.Spans.{nowhere}
use Rattle.ir_tree.specs.declared.ir_type.IrType.{IrType}
use Rattle.ir_tree.specs.declared.node.Node.{Node}
use Rattle.ir_tree.specs.declared.package.Channel.{Channel}
use Rattle.ir_tree.specs.declared.package.Proc.{Proc}
use Rattle.ir_tree.specs.declared.package.Package.{Package}
use Rattle.ir_tree.specs.Activations.{sites_of}
use Rattle.ir_tree.specs.declared.rules.line_spans.LineSpans.{LineSpans}
use Rattle.ir_tree.specs.declared.rules.line_spans.ProcSpans.{ProcSpans}
use Rattle.ir_tree.specs.Rules.Checks.{Check, noted}
use Rattle.ir_tree.specs.Rules.Lines.{Seen, see, package_checks, channel_checks, head_checks, node_checks, next_checks}

abbrev pub nowhere_proc : ProcSpans
nowhere_proc = record { head = nowhere; nodes = []; next = nowhere; end = 0 }

abbrev pub nowhere_at_all : LineSpans
nowhere_at_all = record { name = nowhere; channels = []; procs = [] }

-- a count past its limit, which is found to be one more
abbrev pub count_check : Fault → ℕ → ℕ → Check
count_check fault most count = record { broken = nat_lt most count; fault = fault }

-- the channels from index i on, behind those of these names
abbrev pub channels_checks : List Span → List (List ℕ) → ℕ → List Channel → List Check
channels_checks spans names i [] = []
channels_checks spans names i (c ∷ cs) =
    channel_checks (get_or spans i nowhere) names i c ++ channels_checks spans (names ++ c.name ∷ []) (suc i) cs

-- the nodes from index i on, behind those before
abbrev pub nodes_checks : List Channel → IrType → List Span → List Node → ℕ → Seen → List Node → List Check
nodes_checks channels state spans before i seen [] = []
nodes_checks channels state spans before i seen (n ∷ ns) =
    node_checks channels state before (get_or spans i nowhere) i seen n
    ++ nodes_checks channels state spans (before ++ n ∷ []) (suc i) (see i n seen) ns

-- what a list of nodes leaves
abbrev pub seen_after : ℕ → Seen → List Node → Seen
seen_after i seen [] = seen
seen_after i seen (n ∷ ns) = seen_after (suc i) (see i n seen) ns

-- a proc begins with no `after_all` and no site; ends keep the sites of the procs before
abbrev pub at_start : Seen → Seen
at_start seen = record { after_all = false; site = None; received = seen.received; sent = seen.sent }

abbrev pub proc_checks : List Channel → ProcSpans → List (List ℕ) → Seen → Proc → List Check
proc_checks channels line_spans names seen p =
    head_checks line_spans.head names p
    ++ (nodes_checks channels p.state line_spans.nodes [] 0 (at_start seen) p.nodes
    ++ (next_checks line_spans.next p
    ++ count_check (Passed line_spans.end (record { what = what.Sites; found = 33; most = 32 })) 32 (length (sites_of p.nodes)) ∷ []))

-- the procs from index i on, behind those of these names
abbrev pub procs_checks : List Channel → List ProcSpans → List (List ℕ) → ℕ → Seen → List Proc → List Check
procs_checks channels line_spans names i seen [] = []
procs_checks channels line_spans names i seen (p ∷ ps) =
    proc_checks channels (get_or line_spans i nowhere_proc) names seen p
    ++ procs_checks channels line_spans (names ++ p.name ∷ []) (suc i) (seen_after 0 (at_start seen) p.nodes) ps

abbrev pub end_of : Option ProcSpans → ℕ
end_of None = 0
end_of (Some p) = p.end

-- where the last proc ends
abbrev pub last_end : List ProcSpans → ℕ
last_end ps = end_of (slice_get ps (length ps - 1))

abbrev pub nothing_seen : List Channel → Seen
nothing_seen channels =
    record { after_all = false; site = None; received = replicate (length channels) false; sent = replicate (length channels) false }

-- each rule and limit of a package, whose lines have these spans
abbrev pub checks_of : Package → LineSpans → List Check
checks_of ir line_spans =
    package_checks line_spans.name ir.name ir.procs
    ++ (channels_checks line_spans.channels [] 0 ir.channels
    ++ (procs_checks ir.channels line_spans.procs [] 0 (nothing_seen ir.channels) ir.procs
    ++ count_check (Passed (last_end line_spans.procs) (record { what = what.Procs; found = 257; most = 256 })) 256 (length ir.procs)
    ∷ count_check (Passed (last_end line_spans.procs) (record { what = what.Channels; found = 1025; most = 1024 })) 1024 (length ir.channels)
    ∷ []))

-- the fault that is named, if there is one
unfoldable pub first_fault : Package → LineSpans → Option Fault
first_fault ir line_spans = noted None (checks_of ir line_spans)

-- a package that breaks no rule and passes no limit
abbrev pub IsVerified : Package → Type 0
IsVerified ir = first_fault ir nowhere_at_all ≡ None
