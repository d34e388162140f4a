-- A package that breaks no rule where its lines stand breaks none wherever they stand.
use Rattle.std.proofs.Common.{◌≡◌, ℕ, suc, Bool, true, false, List, [], ◌∷◌, ◌++◌, map, length, Option, Some, None, refl, ap, sym, ◌∙◌}
use Rattle.xb_span.specs.declared.fault.Fault.{Fault}
use Rattle.xb_span.specs.declared.limit.What.TheVariants as what
use Rattle.xb_span.specs.declared.span.Span.{Span}
use Rattle.xb_span.specs.Fault.{precedes}
use Rattle.xb_span.specs.Spans.{nowhere}
use Rattle.ir_tree.specs.declared.ir_type.IrType.{IrType}
use Rattle.ir_tree.specs.declared.node.Node.{Node}
use Rattle.ir_tree.specs.declared.package.Channel.{Channel}
use Rattle.ir_tree.specs.declared.package.Package.{Package}
use Rattle.ir_tree.specs.declared.package.Proc.{Proc}
use Rattle.ir_tree.specs.declared.rules.line_spans.LineSpans.{LineSpans}
use Rattle.ir_tree.specs.declared.rules.line_spans.ProcSpans.{ProcSpans}
use Rattle.ir_tree.specs.Rules.Checks.{Check, limit_at, note, noted}
use Rattle.ir_tree.specs.Rules.Lines.{Seen, see, channel_checks, head_checks, next_checks, node_checks, own_levels, type_limits}
use Rattle.ir_tree.specs.NodeTypes.Types.{widths_in}
use Rattle.ir_tree.specs.NodeValues.{role_of}
use Rattle.ir_tree.specs.Rules.Verified.{IsVerified, at_start, channels_checks, checks_of, first_fault, nodes_checks, nothing_seen, nowhere_at_all, nowhere_proc, proc_checks, procs_checks, seen_after}
use Rattle.std.specs.Prelude.{get_or, if◌then◌else◌}

-- The two lists of checks say the same of what is broken.
data SameVerdicts : List Check → List Check → Type 0 where
  none : SameVerdicts [] []
  one : (c d : Check) (cs ds : List Check) → c.broken ≡ d.broken → SameVerdicts cs ds → SameVerdicts (c ∷ cs) (d ∷ ds)

both : (es fs cs ds : List Check) → SameVerdicts es fs → SameVerdicts cs ds → SameVerdicts (es ++ cs) (fs ++ ds)
both es fs cs ds none more = more
both es fs cs ds (one a b xs ys e rest) more = one a b (xs ++ cs) (ys ++ ds) e (both xs ys cs ds rest more)

limits_same : (a b : ℕ) (ws : List ℕ) → SameVerdicts (map (λ w. limit_at a what.Width w 128) ws) (map (λ w. limit_at b what.Width w 128) ws)
limits_same a b [] = none
limits_same a b (w ∷ ws) = one _ _ _ _ refl (limits_same a b ws)

types_same : (a b : ℕ) (t : IrType) (own : ℕ) → SameVerdicts (type_limits a t own) (type_limits b t own)
types_same a b t own = both _ _ _ _ (limits_same a b (widths_in t)) (one _ _ _ _ refl (one _ _ _ _ refl none))

channel_same : (a b : Span) (names : List (List ℕ)) (i : ℕ) (c : Channel) → SameVerdicts (channel_checks a names i c) (channel_checks b names i c)
channel_same a b names i c = one _ _ _ _ refl (one _ _ _ _ refl (one _ _ _ _ refl (one _ _ _ _ refl (types_same a.to b.to c.ty 0))))

channels_same : (here there : List Span) (names : List (List ℕ)) (i : ℕ) (cs : List Channel) → SameVerdicts (channels_checks here names i cs) (channels_checks there names i cs)
channels_same here there names i [] = none
channels_same here there names i (c ∷ cs) =
    both _ _ _ _ (channel_same (get_or here i nowhere) (get_or there i nowhere) names i c) (channels_same here there (names ++ c.name ∷ []) (suc i) cs)

node_same : (channels : List Channel) (state : IrType) (before : List Node) (a b : Span) (i : ℕ) (seen : Seen) (n : Node) → SameVerdicts (node_checks channels state before a i seen n) (node_checks channels state before b i seen n)
node_same channels state before a b i seen n =
    one _ _ _ _ refl (one _ _ _ _ refl (one _ _ _ _ refl (one _ _ _ _ refl (one _ _ _ _ refl (types_same a.to b.to n.ty (own_levels (role_of n)))))))

nodes_same : (channels : List Channel) (state : IrType) (here there : List Span) (before : List Node) (i : ℕ) (seen : Seen) (ns : List Node) → SameVerdicts (nodes_checks channels state here before i seen ns) (nodes_checks channels state there before i seen ns)
nodes_same channels state here there before i seen [] = none
nodes_same channels state here there before i seen (n ∷ ns) =
    both _ _ _ _ (node_same channels state before (get_or here i nowhere) (get_or there i nowhere) i seen n) (nodes_same channels state here there (before ++ n ∷ []) (suc i) (see i n seen) ns)

proc_same : (channels : List Channel) (a b : ProcSpans) (names : List (List ℕ)) (seen : Seen) (p : Proc) → SameVerdicts (proc_checks channels a names seen p) (proc_checks channels b names seen p)
proc_same channels a b names seen p =
    both _ _ _ _ (one _ _ _ _ refl (one _ _ _ _ refl (types_same a.head.to b.head.to p.state 0)))
    (both _ _ _ _ (nodes_same channels p.state a.nodes b.nodes [] 0 (at_start seen) p.nodes)
    (both _ _ _ _ (one _ _ _ _ refl (one _ _ _ _ refl none)) (one _ _ _ _ refl none)))

procs_same : (channels : List Channel) (here there : List ProcSpans) (names : List (List ℕ)) (i : ℕ) (seen : Seen) (ps : List Proc) → SameVerdicts (procs_checks channels here names i seen ps) (procs_checks channels there names i seen ps)
procs_same channels here there names i seen [] = none
procs_same channels here there names i seen (p ∷ ps) =
    both _ _ _ _ (proc_same channels (get_or here i nowhere_proc) (get_or there i nowhere_proc) names seen p)
    (procs_same channels here there (names ++ p.name ∷ []) (suc i) (seen_after 0 (at_start seen) p.nodes) ps)

all_same : (ir : Package) (a b : LineSpans) → SameVerdicts (checks_of ir a) (checks_of ir b)
all_same ir a b =
    one _ _ _ _ refl (both _ _ _ _ (channels_same a.channels b.channels [] 0 ir.channels)
    (both _ _ _ _ (procs_same ir.channels a.procs b.procs [] 0 (nothing_seen ir.channels) ir.procs) (one _ _ _ _ refl (one _ _ _ _ refl none))))

-- ---- no fault is named

held_or : (b : Bool) (g f : Fault) (cs : List Check) → ((h : Fault) → noted (Some h) cs ≡ None → ⊥) → noted (if b then Some g else Some f) cs ≡ None → ⊥
held_or true g f cs k e = k g e
held_or false g f cs k e = k f e

note_or : (b : Bool) (g f : Fault) (cs : List Check) → ((h : Fault) → noted (Some h) cs ≡ None → ⊥) → noted (note b g (Some f)) cs ≡ None → ⊥
note_or false g f cs k e = k f e
note_or true g f cs k e = held_or (precedes g f) g f cs k e

-- a fault that was found stays
some_stays : (cs : List Check) (f : Fault) → noted (Some f) cs ≡ None → ⊥
some_stays [] f e = cc
some_stays (c ∷ cs) f e = note_or c.broken c.fault f cs (some_stays cs) e

step_said : (a b : Bool) (f g : Fault) (cs ds : List Check) → a ≡ b → (noted None cs ≡ None → noted None ds ≡ None) → noted (note a f None) cs ≡ None → noted (note b g None) ds ≡ None
step_said true b f g cs ds same rest e = absurd (some_stays cs f e)
step_said false true f g cs ds same rest e = absurd (cc)
step_said false false f g cs ds same rest e = rest e

none_said : (cs ds : List Check) → SameVerdicts cs ds → noted None cs ≡ None → noted None ds ≡ None
none_said cs ds none e = refl
none_said cs ds (one c d xs ys same rest) e = step_said c.broken d.broken c.fault d.fault xs ys same (none_said xs ys rest) e

pub verified_anywhere : (ir : Package) (line_spans : LineSpans) → first_fault ir line_spans ≡ None → IsVerified ir
unfolding first_fault
verified_anywhere ir line_spans e = none_said (checks_of ir line_spans) (checks_of ir nowhere_at_all) (all_same ir line_spans nowhere_at_all) e
