-- One step of each walk over a list of lines.
use Rattle.std.proofs.Common.{suc, ◌≡◌, ℕ, ◌+◌, ◌<◌, List, [], ◌∷◌, ◌++◌, map, take, drop, length, get_or, refl, sym, ap, ◌∙◌, drop-cons, add-one, Bool, true, false, Option}
use Rattle.std.specs.Prelude.{◌||◌}
use Rattle.std.specs.Str.{bytes_eq}
use Rattle.std.specs.List.{list_any}
use Rattle.std.proofs.Math.Seq.{take-suc}
use Rattle.std.proofs.lemmas.List.{map-append}
use Rattle.xb_span.specs.declared.fault.Fault.{Fault}
use Rattle.xb_span.specs.declared.span.Span.{Span}
use Rattle.xb_span.specs.Spans.{nowhere}
use Rattle.ir_tree.specs.declared.ir_type.IrType.{IrType}
use Rattle.ir_tree.specs.declared.node.Node.{Node}
use Rattle.ir_tree.specs.declared.package.Channel.{Channel}
use Rattle.ir_tree.specs.declared.package.Proc.{Proc}
use Rattle.ir_tree.specs.declared.rules.line_spans.ProcSpans.{ProcSpans}
use Rattle.ir_tree.specs.Rules.Checks.{noted}
use Rattle.ir_tree.specs.Rules.Lines.{Seen, see, is_among, channel_checks, node_checks}
use Rattle.ir_tree.specs.Rules.Verified.{nowhere_proc, channels_checks, nodes_checks, seen_after, at_start, proc_checks, procs_checks}
use Rattle.ir_tree.proofs.OnRules.Noted.{noted-append}

-- ---- names

any_last : (p : List ℕ → Bool) (xs : List (List ℕ)) (x : List ℕ) → list_any p (xs ++ x ∷ []) ≡ (p x || list_any p xs)
any_last p [] x = refl
any_last p (y ∷ ys) x = ap (λ b. p y || b) (any_last p ys x) ∙ swapped (p y) (p x) (list_any p ys)
  where
    swapped : (a b c : Bool) → (a || (b || c)) ≡ (b || (a || c))
    swapped true true c = refl
    swapped true false c = refl
    swapped false true c = refl
    swapped false false c = refl

abbrev pub channel_names : List Channel → List (List ℕ)
channel_names cs = map (λ (c : Channel). c.name) cs

abbrev pub proc_names : List Proc → List (List ℕ)
proc_names ps = map (λ (p : Proc). p.name) ps

channel_names-more : (cs : List Channel) (i : ℕ) (c : Channel) → i < length cs → c ≡ get_or cs i c → channel_names (take (suc i) cs) ≡ channel_names (take i cs) ++ c.name ∷ []
channel_names-more cs i c h e =
    ap channel_names (take-suc cs i c h ∙ ap (λ x. take i cs ++ x ∷ []) (sym e)) ∙ map-append (λ (c : Channel). c.name) (take i cs) (c ∷ [])

proc_names-more : (ps : List Proc) (i : ℕ) (p : Proc) → i < length ps → p ≡ get_or ps i p → proc_names (take (suc i) ps) ≡ proc_names (take i ps) ++ p.name ∷ []
proc_names-more ps i p h e =
    ap proc_names (take-suc ps i p h ∙ ap (λ x. take i ps ++ x ∷ []) (sym e)) ∙ map-append (λ (p : Proc). p.name) (take i ps) (p ∷ [])

pub channel_seen : (cs : List Channel) (i : ℕ) (c : Channel) (old new : List ℕ → Bool) → i < length cs → c ≡ get_or cs i c → ((q : List ℕ) → new q ≡ (bytes_eq c.name q || old q)) → ((q : List ℕ) → old q ≡ is_among (channel_names (take i cs)) q) → (q : List ℕ) → new q ≡ is_among (channel_names (take (i + 1) cs)) q
channel_seen cs i c old new h e f g q =
    f q
    ∙ ap (λ b. bytes_eq c.name q || b) (g q)
    ∙ sym (any_last (λ n. bytes_eq n q) (channel_names (take i cs)) c.name)
    ∙ ap (λ ns. is_among ns q) (sym (rw add-one (channel_names-more cs i c h e)))

pub proc_seen : (ps : List Proc) (i : ℕ) (p : Proc) (old new : List ℕ → Bool) → i < length ps → p ≡ get_or ps i p → ((q : List ℕ) → new q ≡ (bytes_eq p.name q || old q)) → ((q : List ℕ) → old q ≡ is_among (proc_names (take i ps)) q) → (q : List ℕ) → new q ≡ is_among (proc_names (take (i + 1) ps)) q
proc_seen ps i p old new h e f g q =
    f q
    ∙ ap (λ b. bytes_eq p.name q || b) (g q)
    ∙ sym (any_last (λ n. bytes_eq n q) (proc_names (take i ps)) p.name)
    ∙ ap (λ ns. is_among ns q) (sym (rw add-one (proc_names-more ps i p h e)))

-- ---- what is left of a list at a place

front : {A : Type 0} (xs : List A) (i : ℕ) (x : A) → i < length xs → x ≡ get_or xs i x → drop i xs ≡ x ∷ drop (suc i) xs
front xs i x h e = drop-cons xs i x h ∙ ap (λ y. y ∷ drop (suc i) xs) (sym e)

-- ---- channels

pub channels_step : (spans : List Span) (cs : List Channel) (i : ℕ) (c : Channel) (held new all : Option Fault) → i < length cs → c ≡ get_or cs i c → new ≡ noted held (channel_checks (get_or spans i nowhere) (channel_names (take i cs)) i c) → noted held (channels_checks spans (channel_names (take i cs)) i (drop i cs)) ≡ all → noted new (channels_checks spans (channel_names (take (i + 1) cs)) (i + 1) (drop (i + 1) cs)) ≡ all
channels_step spans cs i c held new all h e f g = rw add-one (
    ap (λ o. noted o (channels_checks spans (channel_names (take (suc i) cs)) (suc i) (drop (suc i) cs))) f
    ∙ ap (λ ns. noted (noted held (channel_checks (get_or spans i nowhere) (channel_names (take i cs)) i c)) (channels_checks spans ns (suc i) (drop (suc i) cs))) (channel_names-more cs i c h e)
    ∙ sym (noted-append (channel_checks (get_or spans i nowhere) (channel_names (take i cs)) i c) (channels_checks spans (channel_names (take i cs) ++ c.name ∷ []) (suc i) (drop (suc i) cs)) held)
    ∙ ap (λ xs. noted held (channels_checks spans (channel_names (take i cs)) i xs)) (sym (front cs i c h e))
    ∙ g)

-- ---- nodes

pub nodes_step : (channels : List Channel) (state : IrType) (spans : List Span) (ns : List Node) (i : ℕ) (n : Node) (seen next : Seen) (held new all : Option Fault) → i < length ns → n ≡ get_or ns i n → next ≡ see i n seen → new ≡ noted held (node_checks channels state (take i ns) (get_or spans i nowhere) i seen n) → noted held (nodes_checks channels state spans (take i ns) i seen (drop i ns)) ≡ all → noted new (nodes_checks channels state spans (take (i + 1) ns) (i + 1) next (drop (i + 1) ns)) ≡ all
nodes_step channels state spans ns i n seen next held new all h e s f g = rw add-one (
    ap (λ o. noted o (nodes_checks channels state spans (take (suc i) ns) (suc i) next (drop (suc i) ns))) f
    ∙ ap (λ xs. noted (noted held (node_checks channels state (take i ns) (get_or spans i nowhere) i seen n)) (nodes_checks channels state spans xs (suc i) next (drop (suc i) ns))) (take-suc ns i n h ∙ ap (λ x. take i ns ++ x ∷ []) (sym e))
    ∙ ap (λ z. noted (noted held (node_checks channels state (take i ns) (get_or spans i nowhere) i seen n)) (nodes_checks channels state spans (take i ns ++ n ∷ []) (suc i) z (drop (suc i) ns))) s
    ∙ sym (noted-append (node_checks channels state (take i ns) (get_or spans i nowhere) i seen n) (nodes_checks channels state spans (take i ns ++ n ∷ []) (suc i) (see i n seen) (drop (suc i) ns)) held)
    ∙ ap (λ xs. noted held (nodes_checks channels state spans (take i ns) i seen xs)) (sym (front ns i n h e))
    ∙ g)

pub seen_step : (ns : List Node) (i : ℕ) (n : Node) (seen next all : Seen) → i < length ns → n ≡ get_or ns i n → next ≡ see i n seen → seen_after i seen (drop i ns) ≡ all → seen_after (i + 1) next (drop (i + 1) ns) ≡ all
seen_step ns i n seen next all h e s g = rw add-one (
    ap (λ z. seen_after (suc i) z (drop (suc i) ns)) s ∙ ap (seen_after i seen) (sym (front ns i n h e)) ∙ g)

-- ---- procs

pub procs_step : (channels : List Channel) (line_spans : List ProcSpans) (ps : List Proc) (i : ℕ) (p : Proc) (seen next : Seen) (held new all : Option Fault) → i < length ps → p ≡ get_or ps i p → next ≡ seen_after 0 (at_start seen) p.nodes → new ≡ noted held (proc_checks channels (get_or line_spans i nowhere_proc) (proc_names (take i ps)) seen p) → noted held (procs_checks channels line_spans (proc_names (take i ps)) i seen (drop i ps)) ≡ all → noted new (procs_checks channels line_spans (proc_names (take (i + 1) ps)) (i + 1) next (drop (i + 1) ps)) ≡ all
procs_step channels line_spans ps i p seen next held new all h e s f g = rw add-one (
    ap (λ o. noted o (procs_checks channels line_spans (proc_names (take (suc i) ps)) (suc i) next (drop (suc i) ps))) f
    ∙ ap (λ ns. noted (noted held (proc_checks channels (get_or line_spans i nowhere_proc) (proc_names (take i ps)) seen p)) (procs_checks channels line_spans ns (suc i) next (drop (suc i) ps))) (proc_names-more ps i p h e)
    ∙ ap (λ z. noted (noted held (proc_checks channels (get_or line_spans i nowhere_proc) (proc_names (take i ps)) seen p)) (procs_checks channels line_spans (proc_names (take i ps) ++ p.name ∷ []) (suc i) z (drop (suc i) ps))) s
    ∙ sym (noted-append (proc_checks channels (get_or line_spans i nowhere_proc) (proc_names (take i ps)) seen p) (procs_checks channels line_spans (proc_names (take i ps) ++ p.name ∷ []) (suc i) (seen_after 0 (at_start seen) p.nodes) (drop (suc i) ps)) held)
    ∙ ap (λ xs. noted held (procs_checks channels line_spans (proc_names (take i ps)) i seen xs)) (sym (front ps i p h e))
    ∙ g)
