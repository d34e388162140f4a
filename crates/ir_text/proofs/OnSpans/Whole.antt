-- The lines of a whole text.
use Rattle.std.proofs.Common.{◌≡◌, ◌≤◌, ◌<◌, ◌+◌, ◌^◌, ℕ, List, [], ◌∷◌, ◌++◌, length, map, reverse, refl, sym, ap, subst, ◌∙◌, arith, append-nil}
use Rattle.std.specs.Prelude.{Some, option_map}
use Rattle.std.proofs.lemmas.List.{length-append}
use Rattle.base.specs.Grammar.Derivation.{start_of}
use Rattle.base.specs.Grammar.Steps.{steps_of}
use Rattle.base.specs.Grammar.Tree.{Forest}
use Rattle.xb_span.specs.declared.span.Span.{Span}
use Rattle.xb_span.specs.Spans.{nowhere}
use Rattle.dslx_token.specs.Lexeme.{Lexeme}
use Rattle.base.specs.Stacks.Tops.{top_or}
use Rattle.ir_builder.specs.Token.Kinds.{id_part, is_id, op_part}
use Rattle.ir_builder.specs.Token.Rules.Ir.{ir}
use Rattle.ir_tree.specs.declared.node.Node.{Node}
use Rattle.ir_tree.specs.declared.package.Proc.{Proc}
use Rattle.ir_tree.specs.declared.rules.line_spans.LineSpans.{LineSpans}
use Rattle.ir_tree.specs.declared.rules.line_spans.ProcSpans.{ProcSpans}
use Rattle.ir_builder.specs.declared.builder.Spanned.{Spanned}
use Rattle.ir_builder.specs.declared.state.State.{State}
use Rattle.ir_builder.specs.Building.{built, package_of, spans_of}
use Rattle.ir_builder.specs.Empty.{empty}
use Rattle.ir_builder.specs.Rules.{token_of}
use Rattle.ir_text.specs.Parser.Reads.{Reads}
use Rattle.ir_text.specs.Parser.Texts.{IsIrTextOf}
use Rattle.ir_text.specs.Parser.Spans.Along.{AreLinesAlong, AreTokensAlong, AreTokensIn}
use Rattle.ir_text.specs.Parser.Spans.Lines.{FollowInTurn, IsNamedLine, package_form}
use Rattle.ir_text.specs.Parser.Spans.Lines as spans
use Rattle.ir_text.specs.Parser.Spans.Whole.{AreProcLines, ArePackageLines, IsNodeLine}
use Rattle.ir_text.proofs.OnRoundTrip.Lists.{all_taken}
use Rattle.ir_text.proofs.OnSpans.Going.{Goes, whole}
use Rattle.ir_text.proofs.OnSpans.InOrder.{package_along}
use Rattle.ir_text.proofs.OnSpans.OpIds.{NameTheirOps, first_named, op_there, others_named, token_named, tokens_named}
use Rattle.ir_text.proofs.OnSpans.Parts.{IsNodeKey, IsProcKey, PackagePart, Parts, after, final}
use Rattle.ir_text.proofs.OnSpans.Parts as sorts
use Rattle.ir_text.proofs.OnSpans.TokensAlong.{tokens_along}
use Rattle.ir_text.proofs.OnSpans.View.{NodeKey, View, shown, viewed}
use Rattle.ir_text.proofs.OnSpans.Views.{key_of, map_reversed, proc_key, view, views}

-- ---- from keys to what they are keys of

by_keys : {T K S : Type 0} (key : T → K) (Is : List Lexeme → K → S → Type 0) {own : List Lexeme} {ks : List K} {ats : List S} (xs : List T) → FollowInTurn Is own ks ats → ks ≡ map key xs → FollowInTurn (λ o x at. Is o (key x) at) own xs ats
by_keys key Is [] spans.none e = spans.none
by_keys key Is (x ∷ xs) spans.none e = absurd (cc)
by_keys key Is [] (spans.more line lines) e = absurd (cc)
by_keys {K = K} key Is (x ∷ xs) (spans.more {own = own} {x = k} {xs = ks} {at = at} line lines) e =
    let first : k ≡ key x = cc in
    let others : ks ≡ map key xs = cc in
    spans.more (subst (λ (y : K). Is own y at) first line) (by_keys key Is xs lines others)

each : {T S : Type 0} {Is Becomes : List Lexeme → T → S → Type 0} → ((own : List Lexeme) (x : T) (at : S) → NameTheirOps own → Is own x at → Becomes own x at) → {own : List Lexeme} {xs : List T} {ats : List S} → NameTheirOps own → FollowInTurn Is own xs ats → FollowInTurn Becomes own xs ats
each f named spans.none = spans.none
each f named (spans.more {own = own} {others = others} {x = x} {at = at} line lines) =
    spans.more (f own x at (first_named own others named) line) (each f (others_named own others named) lines)

node_line : (own : List Lexeme) (n : Node) (span : Span) → NameTheirOps own → IsNodeKey own (key_of n) span → IsNodeLine own n span
node_line own n span named is = record {
  line = is.line;
  word = is.token.bytes;
  named = ap (option_map (λ l. l.bytes)) is.first;
  id_is = ap (λ (k : NodeKey). k.id) is.key_is;
  op_is = op_there (op_part is.token.bytes) (is_id (id_part is.token.bytes)) (token_named own is.token named is.first is.kind_is) ∙ ap Some (sym (ap (λ (k : NodeKey). k.op) is.key_is));
}

proc_lines : (own : List Lexeme) (p : Proc) (at : ProcSpans) → NameTheirOps own → IsProcKey own (proc_key p) at → AreProcLines own p at
proc_lines own p at named is =
    let inside = others_named is.head (is.nodes ++ (is.next ++ is.brace ∷ [])) (subst (λ (o : List Lexeme). NameTheirOps o) is.own_is named) in
    record {
      head = is.head;
      nodes = is.nodes;
      next = is.next;
      brace = is.brace;
      own_is = is.own_is;
      head_line = is.head_line;
      node_lines = each node_line (first_named is.nodes (is.next ++ is.brace ∷ []) inside) (by_keys key_of IsNodeKey p.nodes is.node_lines refl);
      next_line = is.next_line;
      closes = is.closes;
      ends = is.ends;
    }

-- ---- what a text's tokens leave

-- the tokens but for the mark at the end, and what they leave
record Ended (ls : List Lexeme) (t : State) : Type 0 where
  own : List Lexeme
  mark : Lexeme
  ls_are : ls ≡ own ++ mark ∷ []
  marked : mark.kind ≡ ir.end
  part : PackagePart own
  is : view t ≡ shown mark (after sorts.whole own part (view empty))

start_ended : (ls : List Lexeme) (t : State) → (parts : Parts (start_of ir) ls) → view t ≡ final (start_of ir) ls parts (view empty) → Ended ls t
start_ended ls t (own, others, cut, tree, part, (mark, rest, is, kind, nil)) e = record {
  own = own;
  mark = mark;
  ls_are = cut.is ∙ ap (λ (o : List Lexeme). own ++ o) (is ∙ ap (λ (o : List Lexeme). mark ∷ o) nil);
  marked = kind;
  part = part;
  is = e;
}

viewed_whole : (f : Forest) (ls : List Lexeme) (goes : Goes (start_of ir) f ls) (v : View) → viewed (steps_of f) ls v ≡ final (start_of ir) ls goes.parts v
unfolding viewed
viewed_whole f ls goes v =
    ap (λ steps. viewed steps ls v) (sym (append-nil (steps_of f)))
    ∙ ap (λ (o : List Lexeme). viewed (steps_of f ++ []) o v) (sym (append-nil ls))
    ∙ goes.leads [] [] v

read_ended : (ls : List Lexeme) (m : Spanned) (r : Reads ls m) → length ls ≤ 18446744073709551615 → Ended ls (built (steps_of r.forest) ls empty)
read_ended ls m r short =
    let goes = whole r.forest ls r.derived.grows r.derived.tokens short in
    start_ended ls (built (steps_of r.forest) ls empty) goes.parts
    (views (steps_of r.forest) ls empty ∙ viewed_whole r.forest ls goes (view empty))

-- ---- lines and their spans

module _ (ls : List Lexeme) (t : State) (e : Ended ls t) where
  abbrev spans_are : LineSpans
  spans_are = record { name = e.part.span; channels = e.part.spans; procs = e.part.ats }

  spans_there : spans_of t ≡ spans_are
  spans_there =
      let name : top_or nowhere t.heads ≡ e.part.span = ap (λ (v : View). top_or nowhere v.heads) e.is in
      let channels : reverse t.channel_spans ≡ e.part.spans = ap (λ (v : View). reverse v.channel_spans) e.is ∙ all_taken e.part.spans in
      let procs : reverse t.proc_spans ≡ e.part.ats = ap (λ (v : View). reverse v.proc_spans) e.is ∙ all_taken e.part.ats in
      λ i. record { name = name i; channels = channels i; procs = procs i }

  named : IsNamedLine package_form e.part.line (token_of t.names).bytes e.part.span
  named =
      let name : (token_of t.names).bytes ≡ e.part.name.bytes = ap (λ (v : View). (token_of v.names).bytes) e.is in
      subst (λ (n : List ℕ). IsNamedLine package_form e.part.line n e.part.span) (sym name) e.part.line_is

  channel_names : e.part.names ≡ map (λ c. c.name) (reverse t.channels)
  channel_names = sym (map_reversed (λ c. c.name) t.channels ∙ ap (λ (v : View). reverse v.channels) e.is ∙ all_taken e.part.names)

  proc_keys : e.part.keys ≡ map proc_key (reverse t.procs)
  proc_keys = sym (map_reversed proc_key t.procs ∙ ap (λ (v : View). reverse v.procs) e.is ∙ all_taken e.part.keys)

  procs_named : NameTheirOps ls → NameTheirOps e.part.procs
  procs_named names =
      let own = first_named e.own (e.mark ∷ []) (subst (λ (o : List Lexeme). NameTheirOps o) e.ls_are names) in
      let behind = others_named e.part.line (e.part.channels ++ e.part.procs) (subst (λ (o : List Lexeme). NameTheirOps o) e.part.own_is own) in
      others_named e.part.channels e.part.procs behind

  lines_there : NameTheirOps ls → ArePackageLines ls (package_of t) spans_are
  unfolding ir
  lines_there names = record {
    line = e.part.line;
    channels = e.part.channels;
    procs = e.part.procs;
    mark = e.mark;
    ls_are = e.ls_are ∙ ap (λ (o : List Lexeme). o ++ e.mark ∷ []) e.part.own_is;
    name_line = named;
    channel_lines = by_keys (λ c. c.name) _ (reverse t.channels) e.part.channels_are channel_names;
    proc_lines = each proc_lines (procs_named names) (by_keys proc_key IsProcKey (reverse t.procs) e.part.procs_are proc_keys);
    marked = e.marked;
  }

  lines_are : NameTheirOps ls → ArePackageLines ls (package_of t) (spans_of t)
  lines_are names = subst (λ (at : LineSpans). ArePackageLines ls (package_of t) at) (sym spans_there) (lines_there names)

  lines_along : (text : List ℕ) (to : ℕ) → AreTokensAlong text e.own 0 to → AreLinesAlong (spans_of t) 0 to
  lines_along text to k = subst (λ (at : LineSpans). AreLinesAlong at 0 to) (sym spans_there) (package_along text e.part 0 to k)

-- ---- a text

words_few : (text : List ℕ) (ls : List Lexeme) (a b : ℕ) → AreTokensAlong text ls a b → a + length ls ≤ b
words_few text [] a b k = omega (arith, k)
words_few text (l ∷ ls) a b k =
    let p = k.0 in let q = k.1 in let r = words_few text ls l.span.to b k.3 in
    omega (arith, p, q, r)

tokens_few : (text : List ℕ) (ls : List Lexeme) → length text + 1 < 2 ^ 64 → AreTokensIn text ls → length ls ≤ 18446744073709551615
tokens_few text ls short is =
    let few = words_few text is.words 0 (length text) is.along in
    let a = ap length is.ls_are in let b = length-append is.words (is.mark ∷ []) in
    omega (arith, short, few, a, b)

same_front : (xs ys : List Lexeme) (x y : Lexeme) → xs ++ x ∷ [] ≡ ys ++ y ∷ [] → xs ≡ ys
same_front [] [] x y e = refl
same_front [] (z ∷ []) x y e = absurd (cc)
same_front [] (z ∷ w ∷ ys) x y e = absurd (cc)
same_front (z ∷ []) [] x y e = absurd (cc)
same_front (z ∷ w ∷ xs) [] x y e = absurd (cc)
same_front (z ∷ xs) (w ∷ ys) x y e =
    let first : z ≡ w = cc in
    let others : xs ++ x ∷ [] ≡ ys ++ y ∷ [] = cc in
    ap (λ a. a ∷ xs) first ∙ ap (λ (o : List Lexeme). w ∷ o) (same_front xs ys x y others)

pub text_lines : (text : List ℕ) (m : Spanned) → length text + 1 < 2 ^ 64 → (t : IsIrTextOf text m) → ArePackageLines t.tokens m.tree m.line_spans
text_lines text m short t =
    let few = tokens_few text t.tokens short (tokens_along text t.tokens t.cut) in
    let state = built (steps_of t.reads.forest) t.tokens empty in
    subst (λ (x : Spanned). ArePackageLines t.tokens x.tree x.line_spans) (sym t.reads.spanned_is) (lines_are t.tokens state (read_ended t.tokens m t.reads few) (tokens_named text t.tokens t.cut))

pub text_along : (text : List ℕ) (m : Spanned) → length text + 1 < 2 ^ 64 → IsIrTextOf text m → AreLinesAlong m.line_spans 0 (length text)
text_along text m short t =
    let is = tokens_along text t.tokens t.cut in
    let few = tokens_few text t.tokens short is in
    let state = built (steps_of t.reads.forest) t.tokens empty in
    let ended = read_ended t.tokens m t.reads few in
    let same = same_front is.words ended.own is.mark ended.mark (sym is.ls_are ∙ ended.ls_are) in
    let own_along = subst (λ (ls : List Lexeme). AreTokensAlong text ls 0 (length text)) same is.along in
    subst (λ (x : Spanned). AreLinesAlong x.line_spans 0 (length text)) (sym t.reads.spanned_is) (lines_along t.tokens state ended text (length text) own_along)
