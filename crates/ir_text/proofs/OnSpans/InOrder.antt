-- Lines whose tokens stand one behind the other do so too.
use Rattle.std.proofs.Common.{◌≡◌, ◌≤◌, ◌<◌, ℕ, List, [], ◌∷◌, ◌++◌, sym, subst, ◌∙◌, arith}
use Rattle.xb_span.specs.declared.span.Span.{Span}
use Rattle.dslx_token.specs.Lexeme.{Lexeme}
use Rattle.ir_tree.specs.declared.rules.line_spans.ProcSpans.{ProcSpans}
use Rattle.ir_text.specs.Parser.Spans.Along.{AreLinesAlong, AreProcsAlong, AreSpansAlong, AreTokensAlong}
use Rattle.ir_text.specs.Parser.Spans.Lines.{FollowInTurn, IsSpanOf}
use Rattle.ir_text.specs.Parser.Spans.Lines as spans
use Rattle.ir_text.proofs.OnSpans.Parts.{IsProcKey, PackagePart}
use Rattle.ir_text.proofs.OnSpans.View.{ProcKey}

-- ---- tokens

tokens_go : (text : List ℕ) (ls : List Lexeme) (a b : ℕ) → AreTokensAlong text ls a b → a ≤ b
tokens_go text [] a b k = k
tokens_go text (l ∷ ls) a b k = let p = k.0 in let q = k.1 in let r = tokens_go text ls l.span.to b k.3 in omega (arith, p, q, r)

-- tokens up to some byte, and tokens from there on
record Apart (text : List ℕ) (own others : List Lexeme) (a b : ℕ) : Type 0 where
  mid : ℕ
  here : AreTokensAlong text own a mid
  there : AreTokensAlong text others mid b

apart : (text : List ℕ) (own others : List Lexeme) (a b : ℕ) → AreTokensAlong text (own ++ others) a b → Apart text own others a b
apart text [] others a b k = record { mid = a; here = omega arith; there = k }
apart text (l ∷ own) others a b k =
    let rest = apart text own others l.span.to b k.3 in
    record { mid = rest.mid; here = (k.0, k.1, k.2, rest.here); there = rest.there }

cut_apart : (text : List ℕ) {all own others : List Lexeme} (a b : ℕ) → all ≡ own ++ others → AreTokensAlong text all a b → Apart text own others a b
cut_apart text {own = own} {others = others} a b e k = apart text own others a b (subst (λ (ls : List Lexeme). AreTokensAlong text ls a b) e k)

-- ---- a line

-- a span between two bytes, not an empty one
record Within (s : Span) (a b : ℕ) : Type 0 where
  first : a ≤ s.from
  goes : s.from < s.to
  last : s.to ≤ b

last_within : (text : List ℕ) (front : List Lexeme) (l : Lexeme) (a b : ℕ) → AreTokensAlong text (front ++ l ∷ []) a b → Within l.span a b
last_within text front l a b k =
    let at = apart text front (l ∷ []) a b k in
    let p = tokens_go text front a at.mid at.here in let q = at.there.0 in
    record { first = omega (arith, p, q); goes = at.there.1; last = at.there.3 }

same_first : (l m : Lexeme) (ls ms : List Lexeme) → l ∷ ls ≡ m ∷ ms → l ≡ m
same_first l m ls ms e = cc

first_by_last : (text : List ℕ) (first last : Lexeme) (behind front : List Lexeme) (a b : ℕ) → first ∷ behind ≡ front ++ last ∷ [] → AreTokensAlong text (front ++ last ∷ []) a b → first.span.from < last.span.to
first_by_last text first last behind [] a b e k = subst (λ (l : Lexeme). l.span.from < last.span.to) (sym (same_first first last behind [] e)) k.1
first_by_last text first last behind (x ∷ front) a b e k =
    let p = last_within text front last x.span.to b k.3 in
    let q = k.1 in let r = p.first in let s = p.goes in
    let less : x.span.from < last.span.to = omega (arith, q, r, s) in
    subst (λ (l : Lexeme). l.span.from < last.span.to) (sym (same_first first x behind (front ++ last ∷ []) e)) less

line_within : (text : List ℕ) {own : List Lexeme} {span : Span} (a b : ℕ) → IsSpanOf own span → AreTokensAlong text own a b → Within span a b
line_within text {own} {span} a b s k =
    let by_first : AreTokensAlong text (s.first ∷ s.behind) a b = subst (λ (ls : List Lexeme). AreTokensAlong text ls a b) s.begins k in
    let by_last : AreTokensAlong text (s.front ++ s.last ∷ []) a b = subst (λ (ls : List Lexeme). AreTokensAlong text ls a b) s.ends k in
    let last = last_within text s.front s.last a b by_last in
    let here : Within (record { from = s.first.span.from; to = s.last.span.to }) a b = record {
      first = by_first.0;
      goes = first_by_last text s.first s.last s.behind s.front a b (sym s.begins ∙ s.ends) by_last;
      last = last.last;
    } in
    subst (λ (x : Span). Within x a b) (sym s.span_is) here

-- ---- lines

spans_by : (ss : List Span) (a b c : ℕ) → AreSpansAlong ss a b → c ≤ a → AreSpansAlong ss c b
spans_by [] a b c k le = omega (arith, k, le)
spans_by (s ∷ ss) a b c k le = let p = k.0 in (omega (arith, p, le), k.1, k.2)

in_front : (s : Span) (ss : List Span) (a m b : ℕ) → Within s a m → AreSpansAlong ss m b → AreSpansAlong (s ∷ ss) a b
in_front s ss a m b w k = (w.first, w.goes, spans_by ss m b s.to k w.last)

joined : (ss ts : List Span) (a m b : ℕ) → AreSpansAlong ss a m → AreSpansAlong ts m b → AreSpansAlong (ss ++ ts) a b
joined [] ts a m b k h = spans_by ts m b a h k
joined (s ∷ ss) ts a m b k h = (k.0, k.1, joined ss ts s.to m b k.2 h)

lines_within : {T : Type 0} (Is : List Lexeme → T → Span → Type 0) → ((own : List Lexeme) (x : T) (span : Span) → Is own x span → IsSpanOf own span) → (text : List ℕ) {own : List Lexeme} {xs : List T} {ss : List Span} → FollowInTurn Is own xs ss → (a b : ℕ) → AreTokensAlong text own a b → AreSpansAlong ss a b
lines_within Is spanned text spans.none a b k = k
lines_within Is spanned text (spans.more {own = own} {others = others} {x = x} {at = at} {ats = ats} line lines) a b k =
    let cut = apart text own others a b k in
    in_front at ats a cut.mid b (line_within text a cut.mid (spanned own x at line) cut.here) (lines_within Is spanned text lines cut.mid b cut.there)

-- ---- procs

brace_within : (text : List ℕ) (brace : Lexeme) (a b : ℕ) → AreTokensAlong text (brace ∷ []) a b → (a < brace.span.to) × (brace.span.to ≤ b)
brace_within text brace a b k = let p = k.0 in let q = k.1 in (omega (arith, p, q), k.3)

-- the lines of a proc stand up to its brace, which ends there
record ProcAlong (p : ProcSpans) (a b : ℕ) : Type 0 where
  brace : ℕ
  lines : AreSpansAlong (p.head ∷ (p.nodes ++ p.next ∷ [])) a brace
  goes : brace < p.end
  ends : p.end ≤ b

proc_along : (text : List ℕ) {own : List Lexeme} {k : ProcKey} {p : ProcSpans} (a b : ℕ) → IsProcKey own k p → AreTokensAlong text own a b → ProcAlong p a b
proc_along text {own} {k} {p} a b is tokens =
    let head = cut_apart text {own = is.head} {others = is.nodes ++ (is.next ++ is.brace ∷ [])} a b is.own_is tokens in
    let nodes = apart text is.nodes (is.next ++ is.brace ∷ []) head.mid b head.there in
    let next = apart text is.next (is.brace ∷ []) nodes.mid b nodes.there in
    let first = line_within text a head.mid is.head_line.line.spanned head.here in
    let inner = lines_within _ (λ o x s line. line.line.spanned) text is.node_lines head.mid nodes.mid nodes.here in
    let last = line_within text nodes.mid next.mid is.next_line.spanned next.here in
    let end = brace_within text is.brace next.mid b next.there in
    let e = is.ends in
    let last_alone : AreSpansAlong (p.next ∷ []) nodes.mid next.mid = (last.first, last.goes, last.last) in
    record {
      brace = next.mid;
      lines = in_front p.head (p.nodes ++ p.next ∷ []) a head.mid next.mid first (joined p.nodes (p.next ∷ []) head.mid nodes.mid next.mid inner last_alone);
      goes = (let q = end.0 in omega (arith, e, q));
      ends = (let q = end.1 in omega (arith, e, q));
    }

pub procs_along : (text : List ℕ) {own : List Lexeme} {ks : List ProcKey} {ats : List ProcSpans} → FollowInTurn IsProcKey own ks ats → (a b : ℕ) → AreTokensAlong text own a b → AreProcsAlong ats a b
procs_along text spans.none a b k = k
procs_along text (spans.more {own = own} {others = others} {at = at} {ats = ats} is others_are) a b k =
    let cut = apart text own others a b k in
    let one = proc_along text a cut.mid is cut.here in
    let rest = procs_along text others_are cut.mid b cut.there in
    (one.brace, one.lines, one.goes, procs_by ats cut.mid b at.end rest one.ends)
  where
    procs_by : (ps : List ProcSpans) (m to c : ℕ) → AreProcsAlong ps m to → c ≤ m → AreProcsAlong ps c to
    procs_by [] m to c k le = omega (arith, k, le)
    procs_by (p ∷ ps) m to c k le = (k.0, spans_by (p.head ∷ (p.nodes ++ p.next ∷ [])) m k.0 c k.1 le, k.2, k.3)

-- ---- a package

pub package_along : (text : List ℕ) {own : List Lexeme} (p : PackagePart own) (a b : ℕ) → AreTokensAlong text own a b → AreLinesAlong (record { name = p.span; channels = p.spans; procs = p.ats }) a b
package_along text p a b k =
    let line = cut_apart text {own = p.line} {others = p.channels ++ p.procs} a b p.own_is k in
    let channels = apart text p.channels p.procs line.mid b line.there in
    record {
      behind = channels.mid;
      first = in_front p.span p.spans a line.mid channels.mid (line_within text a line.mid p.line_is.line.spanned line.here) (lines_within _ (λ o x s named. named.line.spanned) text p.channels_are line.mid channels.mid channels.here);
      procs = procs_along text p.procs_are channels.mid b channels.there;
    }
