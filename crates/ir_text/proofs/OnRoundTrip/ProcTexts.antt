-- Procs and packages in printed texts.
use Rattle.std.proofs.Common.{◌≡◌, ◌<◌, ◌≤◌, ℕ, suc, ◌^◌, true, List, [], ◌∷◌, ◌++◌, map, take, drop, length, reverse, codes, refl, sym, ap, ap₂, subst, ◌∙◌, append_assoc, append-nil}
use Rattle.xb_span.specs.declared.span.Span.{Span}
use Rattle.dslx_token.specs.Blank.{after_blank}
use Rattle.ir_builder.specs.declared.token.rules.generated.kind.TheConstants as kinds
use Rattle.ir_builder.specs.declared.token.rules.generated.nonterminal.TheConstants as nonterminals
use Rattle.ir_builder.specs.declared.token.rules.generated.production.TheConstants as productions
use Rattle.ir_builder.specs.Token.Rules.Ir.{ir}
use Rattle.ir_builder.specs.Token.Rules.Rules.{named_rules}
use Rattle.ir_builder.specs.Token.Kinds.{Context, ir_plain_kind}
use Rattle.ir_tree.specs.declared.node.Node.{Node}
use Rattle.ir_tree.specs.declared.node.Operand.{Operand}
use Rattle.ir_tree.specs.declared.package.Channel.{Channel}
use Rattle.ir_tree.specs.declared.package.Proc.{Proc}
use Rattle.ir_tree.specs.declared.package.Package.{Package}
use Rattle.ir_tree.specs.declared.rules.line_spans.ProcSpans.{ProcSpans}
use Rattle.ir_text.specs.Printer.Parts.{constant_text, node_name, operand_text, type_text}
use Rattle.ir_text.specs.Printer.Lines.{channel_text, lines_text, node_text, package_text, proc_end, proc_init, proc_start, proc_text}
use Rattle.ir_builder.specs.declared.state.State.{State}
use Rattle.ir_builder.specs.Building.{package_of}
use Rattle.ir_builder.specs.Rules.{spans_made, proc_made, proc_of, token_of}
use Rattle.ir_text.proofs.OnRoundTrip.Writable.{is_one_word}
use Rattle.ir_text.proofs.OnRoundTrip.Held.{constant_held, type_held}
use Rattle.ir_text.proofs.OnRoundTrip.Walks.{Due, Goes, IsReadTo, Point, a_token, a_tree, at_once, beginning, complete, complete_then, lexeme_of, walk_reads}
use Rattle.ir_text.proofs.OnRoundTrip.Lists.{all_taken, left_over, onto, taken}
use Rattle.ir_text.proofs.OnRoundTrip.Steps.{behind, by_rule, close_then, colon, comma, equals, keyword_then, left_brace, left_parenthesis, mark_then, open_then, right_brace, right_parenthesis, spot, the_init, the_next, the_package, the_proc, the_st}
use Rattle.ir_text.proofs.OnRoundTrip.TypeTexts.{type_nesting, type_reads}
use Rattle.ir_text.proofs.OnRoundTrip.ValueTexts.{constant_nesting, constant_reads}
use Rattle.ir_text.proofs.OnRoundTrip.Names.{any_word, begins_nodes, kind_kept, name_reads}
use Rattle.ir_text.proofs.OnRoundTrip.Operands.{IsSaid, operand_reads}
use Rattle.ir_text.proofs.OnRoundTrip.NodeTexts.{AreNodesSaid, nodes_read}
use Rattle.ir_text.proofs.OnRoundTrip.ChannelTexts.{AreChannelsSaid, channels_read, names_of}

-- ---- the end of a proc

-- what is built where a proc of these nodes ends
abbrev finished : State → List Node → List Node → List ℕ → State
finished z ns base counts = record z {
  tokens = drop 1 z.tokens;
  counts = counts;
  nodes = base;
  node_spans = drop (length ns) z.node_spans;
  node_names = [];
  names = drop 1 z.names;
  types = drop 1 z.types;
  constants = drop 1 z.constants;
  operands = drop 1 z.operands;
  heads = drop 1 z.heads;
  nexts = drop 1 z.nexts;
  procs = proc_made ns z ∷ z.procs;
  proc_spans = spans_made (reverse (take (length ns) z.node_spans)) (token_of z.tokens).span.to z ∷ z.proc_spans;
}

proc_of_nodes : (z : State) (ns base : List Node) (counts : List ℕ) → proc_of (record z { nodes = onto ns base; counts = length ns ∷ counts }) ≡ finished z ns base counts
proc_of_nodes z ns base counts = ap₂ (λ (us : List Node) (ls : List Node). record (finished z ns base counts) { nodes = ls; procs = proc_made us z ∷ z.procs }) (taken ns base) (left_over ns base)

proc_of_is : (z : State) (ns base : List Node) (counts : List ℕ) → z.nodes ≡ onto ns base → z.counts ≡ length ns ∷ counts → proc_of z ≡ finished z ns base counts
proc_of_is z ns base counts e f = ap₂ (λ (us : List Node) (ms : List ℕ). proc_of (record z { nodes = us; counts = ms })) e f ∙ proc_of_nodes z ns base counts

finish_then : {text : List ℕ} {P : Point → Type 0} {a : Point} {s : List Due} (ns base : List Node) (counts : List ℕ) → (a.state).nodes ≡ onto ns base → (a.state).counts ≡ length ns ∷ counts → Goes text P s (record a { state = finished a.state ns base counts }) → Goes text P (complete productions.PROC ∷ s) a
finish_then {text} {P} {a} {s} ns base counts e f g = complete_then (subst (λ z. Goes text P s (record a { state = z })) (sym (proc_of_is a.state ns base counts e f)) g)

-- `next(OPERAND)` and the closing brace
proc_ends : {P : Point → Type 0} → (text : List ℕ) (nodes : List Node) (o : Operand) (rest here : List ℕ) (c : Context) (d q : ℕ) (st : State) (ns base : List Node) (counts : List ℕ) → IsSaid nodes st.node_names o → st.nodes ≡ onto ns base → st.counts ≡ length ns ∷ counts → after_blank here ≡ after_blank (codes "  next(" ++ (operand_text nodes o ++ (codes ")\n}\n" ++ rest))) → (s : List Due)
    → ((c : Context) (spans : List Span) (line_spans : ProcSpans) → Goes text P s (spot (10 ∷ rest) c d (suc (suc q)) (record st {
      counts = counts;
      nodes = base;
      node_spans = spans;
      node_names = [];
      names = drop 1 st.names;
      types = drop 1 st.types;
      constants = drop 1 st.constants;
      heads = drop 1 st.heads;
      procs = proc_made ns (record st { operands = o ∷ st.operands }) ∷ st.procs;
      proc_spans = line_spans ∷ st.proc_spans;
    })))
    → Goes text P (a_tree nonterminals.NEXT ∷ a_token kinds.RBRACE ∷ complete productions.PROC ∷ s) (spot here c (suc d) (suc q) st)
unfolding ir named_rules
proc_ends text nodes o rest here c d q st ns base counts said nodes_are counts_are e s k =
    by_rule productions.NEXT refl
    (keyword_then the_next (40 ∷ (operand_text nodes o ++ (codes ")\n}\n" ++ rest))) e refl
    (open_then left_parenthesis _ q refl refl
    (operand_reads text nodes o (codes ")\n}\n" ++ rest) _ _ (suc (suc d)) q _ said refl refl refl _ λ here1 last1 second1 e1.
    close_then right_parenthesis (codes "\n}\n" ++ rest) (suc d) refl e1
    (complete_then
    (close_then right_brace (10 ∷ rest) d refl refl
    (finish_then ns base counts nodes_are counts_are (k _ _ _)))))))

-- ---- a proc

-- the parts of a proc can be read where so many brackets may be opened inside a call of it
pub record IsProcSaid (channels : List Channel) (channel_names names : List (List ℕ)) (room : ℕ) (p : Proc) : Type 0 where
  pub one : is_one_word p.name ≡ true
  pub state : type_held p.state ≡ true
  pub state_nesting : type_nesting p.state ≤ suc room
  pub init : constant_held p.init ≡ true
  pub init_nesting : constant_nesting p.init ≤ suc room
  pub nodes : AreNodesSaid channels channel_names p.nodes room names p.nodes
  pub few : length p.nodes < 2 ^ 64
  pub next : IsSaid p.nodes (onto (map node_name p.nodes) names) p.next

abbrev rest_of_nodes : Proc → List ℕ → List ℕ
rest_of_nodes p rest = codes "  next(" ++ (operand_text p.nodes p.next ++ (codes ")\n}\n" ++ rest))

abbrev rest_of_init : List Channel → Proc → List ℕ → List ℕ
rest_of_init channels p rest = codes ") {\n" ++ (lines_text (map (node_text channels p.nodes) p.nodes) ++ rest_of_nodes p rest)

abbrev rest_of_state : List Channel → Proc → List ℕ → List ℕ
rest_of_state channels p rest = codes ", init=" ++ (constant_text p.init ++ rest_of_init channels p rest)

proc_flat : (channels : List Channel) (p : Proc) (rest : List ℕ) → proc_text channels p ++ rest ≡ codes "proc " ++ (p.name ++ (codes "(st: " ++ (type_text p.state ++ rest_of_state channels p rest)))
unfolding proc_start proc_init proc_end
proc_flat channels p rest = simp append_assoc

-- what stands between the braces, and the closing one
body_reads : {P : Point → Type 0} → (text : List ℕ) (channels : List Channel) (p : Proc) (rest here : List ℕ) (c : Context) (d q : ℕ) (st : State) → AreNodesSaid channels st.channel_names p.nodes q st.node_names p.nodes → length p.nodes < 2 ^ 64 → IsSaid p.nodes (onto (map node_name p.nodes) st.node_names) p.next → begins_nodes c ≡ true → after_blank here ≡ after_blank (lines_text (map (node_text channels p.nodes) p.nodes) ++ rest_of_nodes p rest) → (s : List Due)
    → ((c : Context) (spans : List Span) (line_spans : ProcSpans) → Goes text P s (spot (10 ∷ rest) c d (suc (suc q)) (record st {
      node_spans = spans;
      node_names = [];
      names = drop 1 st.names;
      types = drop 1 st.types;
      constants = drop 1 st.constants;
      heads = drop 1 st.heads;
      procs = proc_made p.nodes (record st { operands = p.next ∷ st.operands }) ∷ st.procs;
      proc_spans = line_spans ∷ st.proc_spans;
    })))
    → Goes text P (a_tree nonterminals.NODES ∷ a_tree nonterminals.NEXT ∷ a_token kinds.RBRACE ∷ complete productions.PROC ∷ s) (spot here c (suc d) (suc q) st)
body_reads text channels p rest here c d q st said few next begins e s k =
    nodes_read text channels p.nodes p.nodes (rest_of_nodes p rest) here c (suc d) q st said few begins e _ λ here3 c3 spans e3.
    proc_ends text p.nodes p.next rest here3 c3 d q _ p.nodes st.nodes st.counts next refl refl e3 s λ c4 spans4 line_spans. k c4 spans4 line_spans

-- its first line
head_reads : {P : Point → Type 0} → (text : List ℕ) (channels : List Channel) (p : Proc) (rest here : List ℕ) (c : Context) (d q : ℕ) (st : State) → IsProcSaid channels st.channel_names st.node_names q p → after_blank here ≡ after_blank (proc_text channels p ++ rest) → (s : List Due)
    → ((here : List ℕ) (c : Context) (head : Span) → begins_nodes c ≡ true → after_blank here ≡ after_blank (lines_text (map (node_text channels p.nodes) p.nodes) ++ rest_of_nodes p rest) → Goes text P s (spot here c (suc d) (suc q) (record st {
      names = lexeme_of text p.name (codes "(st: " ++ (type_text p.state ++ rest_of_state channels p rest)) (ir_plain_kind p.name) ∷ st.names;
      types = p.state ∷ st.types;
      constants = p.init ∷ st.constants;
      heads = head ∷ st.heads;
    })))
    → Goes text P (a_tree nonterminals.PROC_HEAD ∷ s) (spot here c d (suc (suc q)) st)
unfolding ir named_rules
head_reads text channels p rest here c d q st said e s k =
    let after_name = codes "(st: " ++ (type_text p.state ++ rest_of_state channels p rest) in
    by_rule productions.PROC_HEAD refl
    (keyword_then the_proc (32 ∷ (p.name ++ after_name)) (e ∙ ap after_blank (proc_flat channels p rest)) refl
    (name_reads text p.name after_name (32 ∷ (p.name ++ after_name)) (behind kinds.PROC c.last c.node) d (suc (suc q)) _ (ir_plain_kind p.name) (any_word p.name said.one) said.one refl refl refl (kind_kept (behind kinds.PROC c.last c.node) (ir_plain_kind p.name) p.name refl) _
    (open_then left_parenthesis _ (suc q) refl refl
    (by_rule productions.STATE refl
    (keyword_then the_st (58 ∷ 32 ∷ (type_text p.state ++ rest_of_state channels p rest)) refl refl
    (mark_then colon _ refl
    (type_reads p.state text (rest_of_state channels p rest) _ _ (suc d) (suc q) _ said.state said.state_nesting refl refl _ λ here1 last1 second1 e1.
    complete_then
    (mark_then comma _ e1
    (by_rule productions.INIT refl
    (keyword_then the_init (61 ∷ (constant_text p.init ++ rest_of_init channels p rest)) refl refl
    (mark_then equals _ refl
    (constant_reads p.init text (rest_of_init channels p rest) _ _ (suc d) (suc q) _ said.init said.init_nesting refl refl refl _ λ here2 last2 second2 e2.
    complete_then
    (close_then right_parenthesis _ d refl e2
    (open_then left_brace _ (suc q) refl refl
    (complete_then
    (k _ _ _ refl refl))))))))))))))))

proc_reads : {P : Point → Type 0} → (text : List ℕ) (channels : List Channel) (p : Proc) (rest here : List ℕ) (c : Context) (d q : ℕ) (st : State) → IsProcSaid channels st.channel_names st.node_names q p → after_blank here ≡ after_blank (proc_text channels p ++ rest) → (s : List Due)
    → ((c : Context) (spans : List Span) (line_spans : ProcSpans) → Goes text P s (spot (10 ∷ rest) c d (suc (suc q)) (record st { node_spans = spans; node_names = []; procs = p ∷ st.procs; proc_spans = line_spans ∷ st.proc_spans })))
    → Goes text P (a_tree nonterminals.PROC ∷ s) (spot here c d (suc (suc q)) st)
unfolding ir named_rules
proc_reads text channels p rest here c d q st said e s k =
    by_rule productions.PROC refl
    (head_reads text channels p rest here c d q st said e (a_tree nonterminals.NODES ∷ a_tree nonterminals.NEXT ∷ a_token kinds.RBRACE ∷ complete productions.PROC ∷ s) λ here1 c1 head begins e1.
    body_reads text channels p rest here1 c1 d q _ said.nodes said.few said.next begins e1 s λ c4 spans4 line_spans. k c4 spans4 line_spans)

-- ---- all procs

abbrev pub AreProcsSaid : List Channel → List (List ℕ) → List (List ℕ) → ℕ → List Proc → Type 0
AreProcsSaid channels channel_names names room [] = Unit {0}
AreProcsSaid channels channel_names names room (p ∷ ps) = IsProcSaid channels channel_names names room p × AreProcsSaid channels channel_names [] room ps

procs_read : {P : Point → Type 0} → (text : List ℕ) (channels : List Channel) (ps : List Proc) (rest here : List ℕ) (c : Context) (d q : ℕ) (st : State) → AreProcsSaid channels st.channel_names st.node_names q ps → after_blank here ≡ after_blank (lines_text (map (proc_text channels) ps) ++ rest) → (s : List Due)
    → ((here : List ℕ) (c : Context) (spans : List Span) (names : List (List ℕ)) (line_spans : List ProcSpans) → after_blank here ≡ after_blank rest → Goes text P s (spot here c d (suc (suc q)) (record st { node_spans = spans; node_names = names; procs = onto ps st.procs; proc_spans = line_spans })))
    → Goes text P (a_tree nonterminals.PROCS ∷ s) (spot here c d (suc (suc q)) st)
unfolding ir named_rules
procs_read text channels [] rest here c d q st said e s k = by_rule productions.PROCS__NONE refl (complete_then (k here c st.node_spans st.node_names st.proc_spans e))
procs_read text channels (p ∷ ps) rest here c d q st said e s k =
    let lines = lines_text (map (proc_text channels) ps) in
    by_rule productions.PROCS__PROC refl
    (proc_reads text channels p (lines ++ rest) here c d q st said.0 (e ∙ ap after_blank (append_assoc (proc_text channels p) lines rest)) _ λ c1 spans1 places1.
    procs_read text channels ps rest (10 ∷ (lines ++ rest)) c1 d q _ said.1 refl _ λ here2 c2 spans2 names2 places2 e2.
    complete_then (k here2 c2 spans2 names2 places2 e2))

-- ---- a package

-- its name, its channels and its procs can be read
pub record IsPackageSaid (name : List ℕ) (channels : List Channel) (first : Proc) (others : List Proc) : Type 0 where
  pub one : is_one_word name ≡ true
  pub lines : AreChannelsSaid 127 channels
  pub head : IsProcSaid channels (onto (names_of channels) []) [] 126 first
  pub tail : AreProcsSaid channels (onto (names_of channels) []) [] 126 others

abbrev pub IsEnd : Package → Point → Type 0
IsEnd ir b = (after_blank b.rest ≡ []) × (package_of b.state ≡ ir)

package_walk : (name : List ℕ) (channels : List Channel) (p : Proc) (ps : List Proc) → IsPackageSaid name channels p ps → Goes (package_text (record { name = name; channels = channels; procs = p ∷ ps })) (IsEnd (record { name = name; channels = channels; procs = p ∷ ps })) (a_tree nonterminals.PACKAGE ∷ []) (beginning (package_text (record { name = name; channels = channels; procs = p ∷ ps })))
unfolding ir named_rules
package_walk name channels p ps said =
    let text = package_text (record { name = name; channels = channels; procs = p ∷ ps }) in
    let lines = lines_text (map (proc_text channels) ps) in
    let after_channels = proc_text channels p ++ lines in
    let after_name = 10 ∷ (lines_text (map channel_text channels) ++ after_channels) in
    by_rule productions.PACKAGE refl
    (keyword_then the_package (32 ∷ (name ++ after_name)) refl refl
    (name_reads text name after_name (32 ∷ (name ++ after_name)) (behind kinds.PACKAGE kinds.END []) 0 128 _ (ir_plain_kind name) (any_word name said.one) said.one refl refl refl (kind_kept (behind kinds.PACKAGE kinds.END []) (ir_plain_kind name) name refl) _
    (channels_read text channels after_channels after_name _ _ 0 127 _ said.lines refl _ λ here1 last1 second1 spans1 e1.
    proc_reads text channels p lines here1 (behind last1 second1 []) 0 126 _ said.head e1 _ λ c2 spans2 places2.
    procs_read text channels ps [] (10 ∷ lines) c2 0 126 _ said.tail (ap after_blank (sym (append-nil lines))) _ λ here3 c3 spans3 names3 places3 e3.
    complete_then (at_once (e3, ap₂ (λ (chs : List Channel) (us : List Proc). record { name = name; channels = chs; procs = us }) (all_taken channels) (all_taken (p ∷ ps)))))))

-- the text of a package says it
pub package_reads : (name : List ℕ) (channels : List Channel) (p : Proc) (ps : List Proc) → IsPackageSaid name channels p ps → IsReadTo (package_text (record { name = name; channels = channels; procs = p ∷ ps })) (IsEnd (record { name = name; channels = channels; procs = p ∷ ps }))
package_reads name channels p ps said = walk_reads _ _ (λ b h. h.0) (package_walk name channels p ps said)
