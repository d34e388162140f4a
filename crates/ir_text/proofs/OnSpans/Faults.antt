-- A rule that is broken is named at a line.
use Rattle.std.proofs.Common.{◌≡◌, ◌<◌, ◌+◌, ◌^◌, ℕ, zero, suc, Bool, true, false, List, [], ◌∷◌, ◌++◌, length, map, get_or, Option, None, Some, Result, Err, refl, sym, ap, subst, ◌∙◌, arith}
use Rattle.std.specs.Prelude.{IfSome, if◌then◌else◌, option_map}
use Rattle.std.specs.List.{Contains}
use Rattle.std.proofs.lemmas.List.{get_or_default}
use Rattle.xb_span.specs.Fault.{earlier, error_of, precedes}
use Rattle.xb_span.specs.declared.fault.Fault.{Fault}
use Rattle.xb_span.specs.declared.fault.Fault.TheVariants as fault
use Rattle.xb_span.specs.declared.read_error.ReadError.{ReadError}
use Rattle.xb_span.specs.declared.read_error.ReadError.TheVariants.{Broken}
use Rattle.xb_span.specs.declared.limit.What.TheVariants as what
use Rattle.xb_span.specs.declared.span.Rule.{Rule}
use Rattle.xb_span.specs.declared.span.Span.{Span}
use Rattle.xb_span.specs.Spans.{nowhere}
use Rattle.dslx_token.specs.Lexeme.{Lexeme}
use Rattle.ir_tree.specs.Activations.{sites_of}
use Rattle.ir_tree.specs.NodeTypes.Types.{widths_in}
use Rattle.ir_tree.specs.NodeValues.{role_of}
use Rattle.ir_tree.specs.declared.ir_type.IrType.{IrType}
use Rattle.ir_tree.specs.declared.node.Node.{Node}
use Rattle.ir_tree.specs.declared.package.Channel.{Channel}
use Rattle.ir_tree.specs.declared.package.Package.{Package}
use Rattle.ir_tree.specs.declared.package.Proc.{Proc}
use Rattle.ir_tree.specs.Rules.Checks.{Check, limit_at, note, noted}
use Rattle.ir_tree.specs.Rules.Lines.{Seen, channel_checks, head_checks, next_checks, node_checks, own_levels, package_checks, see, type_limits}
use Rattle.ir_tree.specs.Rules.Verified.{at_start, channels_checks, checks_of, count_check, first_fault, last_end, nodes_checks, nothing_seen, nowhere_proc, proc_checks, procs_checks, seen_after}
use Rattle.ir_tree.specs.declared.rules.line_spans.LineSpans.{LineSpans}
use Rattle.ir_tree.specs.declared.rules.line_spans.ProcSpans.{ProcSpans}
use Rattle.ir_text.specs.Parser.Texts.{GivesPackage, accepted, cut_off, misplaced, too_deep, faulty}
use Rattle.ir_text.specs.Parser.Spans.Along.{IsLineSpanIn, IsOneOfLines, of_name, of_channel, of_head, of_node, of_next}
use Rattle.ir_text.specs.Parser.Spans.Lines.{FollowInTurn}
use Rattle.ir_text.specs.Parser.Spans.Lines as spans
use Rattle.ir_text.specs.Parser.Spans.Whole.{AreProcLines, ArePackageLines}
use Rattle.ir_text.proofs.OnSpans.Pieces.{as_many}
use Rattle.ir_text.proofs.OnSpans.Whole.{text_lines}

-- ---- faults

-- where the fault is that of a rule, the claim holds of its span
abbrev pub At : (Span → Type 0) → Fault → Type 0
At Q (fault.Whole l) = Unit {0}
At Q (fault.Broken rule span) = Q span
At Q (fault.Passed end l) = Unit {0}

abbrev pub Each : (Span → Type 0) → List Check → Type 0
Each Q [] = Unit {0}
Each Q (c ∷ cs) = (At Q c.fault) × (Each Q cs)

joined : (Q : Span → Type 0) (xs ys : List Check) → Each Q xs → Each Q ys → Each Q (xs ++ ys)
joined Q [] ys a b = b
joined Q (x ∷ xs) ys a b = (a.0, joined Q xs ys a.1 b)

either : (Q : Span → Type 0) (b : Bool) (f g : Fault) → At Q f → At Q g → IfSome (if b then Some f else Some g) (λ x. At Q x)
either Q true f g a b = a
either Q false f g a b = b

earlier_at : (Q : Span → Type 0) (held : Option Fault) (f : Fault) → IfSome held (λ x. At Q x) → At Q f → IfSome (earlier held f) (λ x. At Q x)
earlier_at Q None f h a = a
earlier_at Q (Some g) f h a = either Q (precedes f g) f g a h

note_at : (Q : Span → Type 0) (broken : Bool) (held : Option Fault) (f : Fault) → IfSome held (λ x. At Q x) → At Q f → IfSome (note broken f held) (λ x. At Q x)
note_at Q true held f h a = earlier_at Q held f h a
note_at Q false held f h a = h

noted_at : (Q : Span → Type 0) (cs : List Check) (held : Option Fault) → IfSome held (λ x. At Q x) → Each Q cs → IfSome (noted held cs) (λ x. At Q x)
noted_at Q [] held h each = h
noted_at Q (c ∷ cs) held h each = noted_at Q cs (note c.broken c.fault held) (note_at Q c.broken held c.fault h each.0) each.1

-- ---- the checks of a line

widths_at : (Q : Span → Type 0) (end : ℕ) (ws : List ℕ) → Each Q (map (λ w. limit_at end what.Width w 128) ws)
widths_at Q end [] = tt
widths_at Q end (w ∷ ws) = (tt, widths_at Q end ws)

limits_at : (Q : Span → Type 0) (end : ℕ) (t : IrType) (own : ℕ) → Each Q (type_limits end t own)
limits_at Q end t own = joined Q (map (λ w. limit_at end what.Width w 128) (widths_in t)) _ (widths_at Q end (widths_in t)) (tt, (tt, tt))

channel_at : (Q : Span → Type 0) (span : Span) (names : List (List ℕ)) (i : ℕ) (c : Channel) → Q span → Each Q (channel_checks span names i c)
channel_at Q span names i c q = (q, (q, (tt, (tt, limits_at Q span.to c.ty 0))))

head_at : (Q : Span → Type 0) (span : Span) (names : List (List ℕ)) (p : Proc) → Q span → Each Q (head_checks span names p)
head_at Q span names p q = (q, (q, limits_at Q span.to p.state 0))

node_at : (Q : Span → Type 0) (channels : List Channel) (state : IrType) (before : List Node) (span : Span) (i : ℕ) (seen : Seen) (n : Node) → Q span → Each Q (node_checks channels state before span i seen n)
node_at Q channels state before span i seen n q = (q, (q, (q, (q, (q, limits_at Q span.to n.ty (own_levels (role_of n)))))))

next_at : (Q : Span → Type 0) (span : Span) (p : Proc) → Q span → Each Q (next_checks span p)
next_at Q span p q = (q, (q, tt))

-- ---- the checks of many lines

channels_at : (Q : Span → Type 0) (ss : List Span) (names : List (List ℕ)) (i : ℕ) (cs : List Channel) → ((j : ℕ) → j < i + length cs → Q (get_or ss j nowhere)) → Each Q (channels_checks ss names i cs)
channels_at Q ss names i [] h = tt
channels_at Q ss names i (c ∷ cs) h =
    joined Q (channel_checks (get_or ss i nowhere) names i c) _
    (channel_at Q (get_or ss i nowhere) names i c (h i (omega arith)))
    (channels_at Q ss (names ++ c.name ∷ []) (suc i) cs (λ j less. h j (omega (arith, less))))

nodes_at : (Q : Span → Type 0) (channels : List Channel) (state : IrType) (ss : List Span) (before : List Node) (i : ℕ) (seen : Seen) (ns : List Node) → ((j : ℕ) → j < i + length ns → Q (get_or ss j nowhere)) → Each Q (nodes_checks channels state ss before i seen ns)
nodes_at Q channels state ss before i seen [] h = tt
nodes_at Q channels state ss before i seen (n ∷ ns) h =
    joined Q (node_checks channels state before (get_or ss i nowhere) i seen n) _
    (node_at Q channels state before (get_or ss i nowhere) i seen n (h i (omega arith)))
    (nodes_at Q channels state ss (before ++ n ∷ []) (suc i) (see i n seen) ns (λ j less. h j (omega (arith, less))))

-- what is claimed of the spans of a proc
record OfProc (Q : Span → Type 0) (at : ProcSpans) : Type 0 where
  head : Q at.head
  nodes : (j : ℕ) → j < length at.nodes → Q (get_or at.nodes j nowhere)
  next : Q at.next

abbrev sites_checks : ProcSpans → Proc → List Check
sites_checks at p = count_check (fault.Passed at.end (record { what = what.Sites; found = 33; most = 32 })) 32 (length (sites_of p.nodes)) ∷ []

proc_at : (Q : Span → Type 0) (channels : List Channel) (at : ProcSpans) (names : List (List ℕ)) (seen : Seen) (p : Proc) → length p.nodes ≡ length at.nodes → OfProc Q at → Each Q (proc_checks channels at names seen p)
proc_at Q channels at names seen p same q =
    joined Q (head_checks at.head names p) _ (head_at Q at.head names p q.head)
    (joined Q (nodes_checks channels p.state at.nodes [] 0 (at_start seen) p.nodes) _
    (nodes_at Q channels p.state at.nodes [] 0 (at_start seen) p.nodes (λ j less. q.nodes j (omega (arith, less, same))))
    (joined Q (next_checks at.next p) (sites_checks at p) (next_at Q at.next p q.next) (tt, tt)))

procs_at : (Q : Span → Type 0) (channels : List Channel) (ats : List ProcSpans) (names : List (List ℕ)) (i : ℕ) (seen : Seen) (ps : List Proc) → ((j : ℕ) (d : Proc) → j < length ps → length (get_or ps j d).nodes ≡ length (get_or ats (i + j) nowhere_proc).nodes) → ((j : ℕ) → j < i + length ps → OfProc Q (get_or ats j nowhere_proc)) → Each Q (procs_checks channels ats names i seen ps)
procs_at Q channels ats names i seen [] same q = tt
procs_at Q channels ats names i seen (p ∷ ps) same q =
    let here : i + 0 ≡ i = omega arith in
    let first : length p.nodes ≡ length (get_or ats i nowhere_proc).nodes = same 0 p (omega arith) ∙ ap (λ k. length (get_or ats k nowhere_proc).nodes) here in
    joined Q (proc_checks channels (get_or ats i nowhere_proc) names seen p) _
    (proc_at Q channels (get_or ats i nowhere_proc) names seen p first (q i (omega arith)))
    (procs_at Q channels ats (names ++ p.name ∷ []) (suc i) (seen_after 0 (at_start seen) p.nodes) ps
    (λ j d less. same (suc j) d (omega (arith, less)) ∙ ap (λ k. length (get_or ats k nowhere_proc).nodes) (one_on i j))
    (λ j less. q j (omega (arith, less))))
  where
    one_on : (n j : ℕ) → n + suc j ≡ suc n + j
    one_on n j = omega arith

-- ---- the lines of a text

within : {T : Type 0} (xs : List T) (j : ℕ) (d : T) → j < length xs → Contains xs (get_or xs j d)
within xs j d less = (j, less, get_or_default xs j (get_or xs j d) d less)

node_counts : {own : List Lexeme} {ps : List Proc} {ats : List ProcSpans} → FollowInTurn AreProcLines own ps ats → (j : ℕ) (d : Proc) → j < length ps → length (get_or ps j d).nodes ≡ length (get_or ats j nowhere_proc).nodes
node_counts spans.none j d less = absurd (omega (arith, less))
node_counts (spans.more line lines) zero d less = as_many line.node_lines
node_counts (spans.more line lines) (suc j) d less = node_counts lines j d (omega (arith, less))

abbrev counts_checks : Package → LineSpans → List Check
counts_checks ir at =
    count_check (fault.Passed (last_end at.procs) (record { what = what.Procs; found = 257; most = 256 })) 256 (length ir.procs)
    ∷ count_check (fault.Passed (last_end at.procs) (record { what = what.Channels; found = 1025; most = 1024 })) 1024 (length ir.channels)
    ∷ []

all_at : (ls : List Lexeme) (ir : Package) (at : LineSpans) → ArePackageLines ls ir at → Each (IsOneOfLines at) (checks_of ir at)
all_at ls ir at lines =
    let channels = as_many lines.channel_lines in
    let procs = as_many lines.proc_lines in
    joined (IsOneOfLines at) (package_checks at.name ir.name ir.procs) _ (of_name, tt)
    (joined (IsOneOfLines at) (channels_checks at.channels [] 0 ir.channels) _
    (channels_at (IsOneOfLines at) at.channels [] 0 ir.channels (λ j less. of_channel (get_or at.channels j nowhere) (within at.channels j nowhere (omega (arith, less, channels)))))
    (joined (IsOneOfLines at) (procs_checks ir.channels at.procs [] 0 (nothing_seen ir.channels) ir.procs) (counts_checks ir at)
    (procs_at (IsOneOfLines at) ir.channels at.procs [] 0 (nothing_seen ir.channels) ir.procs
    (λ j d less. node_counts lines.proc_lines j d less ∙ ap (λ k. length (get_or at.procs k nowhere_proc).nodes) (sym (none_on j)))
    (λ j less. of_proc j (omega (arith, less, procs))))
    (tt, (tt, tt))))
  where
    none_on : (j : ℕ) → 0 + j ≡ j
    none_on j = omega arith

    of_proc : (j : ℕ) → j < length at.procs → OfProc (IsOneOfLines at) (get_or at.procs j nowhere_proc)
    of_proc j less =
        let p = get_or at.procs j nowhere_proc in
        let there = within at.procs j nowhere_proc less in
        record { head = of_head p there; nodes = λ k below. of_node p (get_or p.nodes k nowhere) there (within p.nodes k nowhere below); next = of_next p there }

first_at : (ls : List Lexeme) (ir : Package) (at : LineSpans) → ArePackageLines ls ir at → IfSome (first_fault ir at) (λ f. At (IsOneOfLines at) f)
unfolding first_fault
first_at ls ir at lines = noted_at (IsOneOfLines at) (checks_of ir at) None tt (all_at ls ir at lines)

fault_is : (Q : Span → Type 0) (f : Fault) (rule : Rule) (span : Span) → error_of f ≡ Broken rule span → At Q f → Q span
fault_is Q (fault.Whole l) rule span e a = absurd (cc)
fault_is Q (fault.Broken r s) rule span e a = let same : s ≡ span = cc in subst Q same a
fault_is Q (fault.Passed end l) rule span e a = absurd (cc)

some_is : (Q : Span → Type 0) (o : Option Fault) (rule : Rule) (span : Span) → option_map error_of o ≡ Some (Broken rule span) → IfSome o (λ f. At Q f) → Q span
some_is Q None rule span e a = absurd (cc)
some_is Q (Some f) rule span e a = let same : error_of f ≡ Broken rule span = cc in fault_is Q f rule span same a

refused_by : (text : List ℕ) (r : Result Package ReadError) (rule : Rule) (span : Span) → length text + 1 < 2 ^ 64 → GivesPackage text r → r ≡ Err (Broken rule span) → IsLineSpanIn text span
refused_by text r rule span short (accepted spanned is sound) e = absurd (cc)
refused_by text r rule span short (cut_off at odd) e = absurd (cc)
refused_by text r rule span short (misplaced tokens at cut is) e = absurd (cc)
refused_by text r rule span short (too_deep tokens limit cut is) e = absurd (cc)
refused_by text r rule span short (faulty spanned error is named) e =
    let same : error ≡ Broken rule span = cc in
    record {
      spanned = spanned;
      shown = is;
      one = some_is (IsOneOfLines spanned.line_spans) (first_fault spanned.tree spanned.line_spans) rule span (named ∙ ap Some same)
          (first_at is.tokens spanned.tree spanned.line_spans (text_lines text spanned short is));
    }

pub refused_at_line : (text : List ℕ) (rule : Rule) (span : Span) → length text + 1 < 2 ^ 64 → GivesPackage text (Err (Broken rule span)) → IsLineSpanIn text span
refused_at_line text rule span short given = refused_by text (Err (Broken rule span)) rule span short given refl
