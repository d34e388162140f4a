-- Lists of tokens that are put together.
use Rattle.std.proofs.Common.{◌≡◌, ◌≤◌, ℕ, zero, suc, List, [], ◌∷◌, ◌++◌, length, reverse, take, drop, Some, refl, sym, ap, subst, ◌∙◌, arith, append_assoc, append-nil}
use Rattle.std.specs.Prelude.{slice_get}
use Rattle.std.proofs.lemmas.List.{length-append}
use Rattle.base.specs.declared.grammar.table.Symbol.{Symbol}
use Rattle.base.specs.declared.grammar.table.Symbol.TheVariants.{Nonterminal}
use Rattle.base.specs.Grammar.Tree.{leaves_of}
use Rattle.base.specs.Grammar.Tree.Forest.{token}
use Rattle.base.specs.Grammar.Tree.Grows.{leaf}
use Rattle.xb_span.specs.declared.span.Span.{Span}
use Rattle.dslx_token.specs.Lexeme.{Lexeme}
use Rattle.ir_builder.specs.declared.token.rules.generated.kind.TheConstants.{OPID, PACKAGE}
use Rattle.ir_builder.specs.Rules.{reach}
use Rattle.ir_text.specs.Parser.Spans.Lines.{AreTokensOf, FollowInTurn, IsLineOfForm, IsNamedLine, IsSpanOf, bytes_at, node_form, package_form}
use Rattle.ir_text.specs.Parser.Spans.Lines as spans
use Rattle.ir_text.proofs.OnRoundTrip.Lists.{left_over, onto, taken}
use Rattle.ir_text.proofs.OnSpans.View.{NodeKey, View, node_key, proc_counted, proc_seen}
use Rattle.ir_text.proofs.OnSpans.Parts.{Cut, EndWith, IsNodeKey, Part, call, capped, four}

-- ---- one behind the other

pub alone : {own others : List Lexeme} {l : Lexeme} → own ≡ l ∷ others → others ≡ [] → own ≡ l ∷ []
alone {l = l} is nil = is ∙ ap (λ (o : List Lexeme). l ∷ o) nil

pub only : {own first others : List Lexeme} → Cut own first others → others ≡ [] → own ≡ first
only {first = first} cut nil = cut.is ∙ ap (λ (o : List Lexeme). first ++ o) nil ∙ append-nil first

pub both : {own first others second rest : List Lexeme} → Cut own first others → Cut others second rest → rest ≡ [] → own ≡ first ++ second
both {first = first} cut also nil = cut.is ∙ ap (λ (o : List Lexeme). first ++ o) (only also nil)

-- ---- the last one

pub here : {own others : List Lexeme} {l : Lexeme} → own ≡ l ∷ others → others ≡ [] → EndWith own l
here is nil = ([], alone is nil)

pub past_token : {own others : List Lexeme} {l last : Lexeme} → own ≡ l ∷ others → EndWith others last → EndWith own last
past_token {l = l} is end = (l ∷ end.0, is ∙ ap (λ (o : List Lexeme). l ∷ o) end.1)

pub past_tree : {own first others : List Lexeme} {last : Lexeme} → Cut own first others → EndWith others last → EndWith own last
past_tree {first = first} {last = last} cut end = (first ++ end.0, cut.is ∙ ap (λ (o : List Lexeme). first ++ o) end.1 ∙ sym (append_assoc first end.0 (last ∷ [])))

pub in_tree : {own first others : List Lexeme} {last : Lexeme} → Cut own first others → others ≡ [] → EndWith first last → EndWith own last
in_tree cut nil end = (end.0, only cut nil ∙ end.1)

abbrev pub call_of : {own first : List Lexeme} (a b : Lexeme) → Part four first → ((f : Lexeme) → EndWith first f → EndWith own f) → Part call own
call_of a b p ends = (a, b, p.0, p.1, p.2, p.3, ends p.3 p.4)

-- ---- lines

pub spanned : {own others : List Lexeme} {l last : Lexeme} → own ≡ l ∷ others → EndWith own last → IsSpanOf own (reach l last)
spanned {others = others} {l = l} {last = last} is end =
    record { first = l; last = last; behind = others; front = end.0; begins = is; ends = end.1; span_is = refl }

pub line_of : {form : List Symbol} {own others : List Lexeme} {l last : Lexeme} → AreTokensOf form own → own ≡ l ∷ others → EndWith own last → IsLineOfForm form own (reach l last)
line_of tree is end = record { derived = tree; spanned = spanned is end }

named_second : {own others first rest : List Lexeme} {l n : Lexeme} → own ≡ l ∷ others → Cut others first rest → first ≡ n ∷ [] → bytes_at own 1 ≡ Some n.bytes
named_second {rest = rest} {l = l} is also name =
    ap (λ (o : List Lexeme). bytes_at o 1) (is ∙ ap (λ (o : List Lexeme). l ∷ o) (also.is ∙ ap (λ (o : List Lexeme). o ++ rest) name))

pub named_line : {form : List Symbol} {own others first rest : List Lexeme} {l n last : Lexeme} → AreTokensOf form own → own ≡ l ∷ others → Cut others first rest → first ≡ n ∷ [] → EndWith own last → IsNamedLine form own n.bytes (reach l last)
named_line tree is also name end = record { line = line_of tree is end; named = named_second is also name }

pub node_line : {own others : List Lexeme} {l last : Lexeme} → AreTokensOf node_form own → own ≡ l ∷ others → l.kind ≡ OPID → EndWith own last → IsNodeKey own (node_key l.bytes) (reach l last)
node_line {l = l} tree is kind end =
    record { line = line_of tree is end; token = l; first = ap (λ (o : List Lexeme). slice_get o 0) is; kind_is = kind; key_is = refl }

-- `package`, and the name behind it
pub package_tokens : {l : Lexeme} {first : List Lexeme} → l.kind ≡ PACKAGE → AreTokensOf (Nonterminal 3 ∷ []) first → AreTokensOf package_form (l ∷ first)
package_tokens {l} {first} kind name = record {
  tree = token PACKAGE name.tree;
  grows = leaf name.grows;
  leaves = ap (λ k. k ∷ leaves_of name.tree) (sym kind) ∙ ap (λ ks. l.kind ∷ ks) name.leaves;
}

pub package_line : {l n : Lexeme} {first : List Lexeme} → l.kind ≡ PACKAGE → AreTokensOf (Nonterminal 3 ∷ []) first → first ≡ n ∷ [] → IsNamedLine package_form (l ∷ first) n.bytes (reach l n)
package_line {l} {n} {first} kind name is =
    named_line (package_tokens kind name) refl (record { is = sym (append-nil first) }) is (l ∷ [], ap (λ (o : List Lexeme). l ∷ o) is)

-- ---- lists of lines

pub one_more_line : {T S : Type 0} {Is : List Lexeme → T → S → Type 0} {own first others second rest : List Lexeme} {x : T} {xs : List T} {at : S} {ats : List S} → Cut own first others → Cut others second rest → rest ≡ [] → Is first x at → FollowInTurn Is second xs ats → FollowInTurn Is own (x ∷ xs) (at ∷ ats)
one_more_line {Is = Is} {x = x} {xs = xs} {at = at} {ats = ats} is also nil line lines =
    subst (λ (o : List Lexeme). FollowInTurn Is o (x ∷ xs) (at ∷ ats)) (sym (both is also nil)) (spans.more line lines)

pub no_line : {T S : Type 0} {Is : List Lexeme → T → S → Type 0} {own : List Lexeme} → own ≡ [] → FollowInTurn Is own [] []
no_line {Is = Is} nil = subst (λ (o : List Lexeme). FollowInTurn Is o [] []) (sym nil) spans.none

pub as_many : {T S : Type 0} {Is : List Lexeme → T → S → Type 0} {own : List Lexeme} {xs : List T} {ats : List S} → FollowInTurn Is own xs ats → length xs ≡ length ats
as_many spans.none = refl
as_many (spans.more line lines) = ap suc (as_many lines)

long_enough : {own : List Lexeme} {span : Span} → IsSpanOf own span → 1 ≤ length own
long_enough {own} s = let e = ap length s.begins in omega (arith, e)

pub few : {own : List Lexeme} {ks : List NodeKey} {places : List Span} → FollowInTurn IsNodeKey own ks places → length places ≤ length own
few spans.none = omega arith
few (spans.more {own = own} {others = others} line lines) =
    let some = long_enough line.line.spanned in
    let rest = few lines in
    let all = length-append own others in
    omega (arith, some, rest, all)

-- ---- a proc

capped_is : (n : ℕ) → n ≤ 18446744073709551615 → capped n ≡ n
capped_is zero h = refl
capped_is (suc n) h = let e = capped_is n (omega (arith, h)) in rw e (omega (arith, h))

short_inside : {own head nodes others rest : List Lexeme} → Cut own head others → Cut others nodes rest → length nodes ≤ length own
short_inside {head = head} {nodes = nodes} {others = others} {rest = rest} is also =
    let a = ap length is.is in let b = length-append head others in let c = ap length also.is in let d = length-append nodes rest in
    omega (arith, a, b, c, d)

counted_lists : (ks : List NodeKey) (spans : List Span) (v : View) (nodes : List NodeKey) (node_spans : List Span) → length ks ≡ length spans → v.nodes ≡ onto ks nodes → v.node_spans ≡ onto spans node_spans → proc_counted (length spans) v ≡ proc_seen ks spans nodes node_spans v
counted_lists ks spans v nodes node_spans same is also =
    let a : reverse (take (length spans) v.nodes) ≡ ks = ap (λ n. reverse (take n v.nodes)) (sym same) ∙ ap (λ l. reverse (take (length ks) l)) is ∙ taken ks nodes in
    let b : reverse (take (length spans) v.node_spans) ≡ spans = ap (λ l. reverse (take (length spans) l)) also ∙ taken spans node_spans in
    let c : drop (length spans) v.nodes ≡ nodes = ap (λ n. drop n v.nodes) (sym same) ∙ ap (λ l. drop (length ks) l) is ∙ left_over ks nodes in
    let d : drop (length spans) v.node_spans ≡ node_spans = ap (λ l. drop (length spans) l) also ∙ left_over spans node_spans in
    λ i. proc_seen (a i) (b i) (c i) (d i) v

pub proc_taken : {own head tokens others rest : List Lexeme} {ks : List NodeKey} {spans : List Span} (v : View) (nodes : List NodeKey) (node_spans : List Span) → length own ≤ 18446744073709551615 → Cut own head others → Cut others tokens rest → FollowInTurn IsNodeKey tokens ks spans → v.nodes ≡ onto ks nodes → v.node_spans ≡ onto spans node_spans → proc_counted (capped (length spans)) v ≡ proc_seen ks spans nodes node_spans v
proc_taken {tokens = tokens} {ks = ks} {spans = spans} v nodes node_spans short is also lines n s =
    let fit = few lines in
    let within = short_inside is also in
    let count = capped_is (length spans) (omega (arith, short, fit, within)) in
    ap (λ c. proc_counted c v) count ∙ counted_lists ks spans v nodes node_spans (as_many lines) n s

-- what is shown before the tree of a proc is complete
abbrev pub proc_before : Lexeme → Lexeme → List NodeKey → List Span → Span → Span → View → View
proc_before name brace ks spans head next v = record v {
  tokens = brace ∷ v.tokens;
  counts = capped (length spans) ∷ v.counts;
  names = name ∷ v.names;
  nodes = onto ks v.nodes;
  node_spans = onto spans v.node_spans;
  heads = head ∷ v.heads;
  nexts = next ∷ v.nexts;
}

pub proc_parts : {own head others nodes more next others_2 rest : List Lexeme} {brace : Lexeme} → Cut own head others → Cut others nodes more → Cut more next others_2 → others_2 ≡ brace ∷ rest → rest ≡ [] → own ≡ head ++ (nodes ++ (next ++ brace ∷ []))
proc_parts {head = head} {nodes = nodes} {next = next} a b c d nil =
    a.is ∙ ap (λ (o : List Lexeme). head ++ o) (b.is ∙ ap (λ (o : List Lexeme). nodes ++ o) (c.is ∙ ap (λ (o : List Lexeme). next ++ o) (alone d nil)))

pub package_parts : {own others first more channels behind proc rest procs last : List Lexeme} {l : Lexeme} → own ≡ l ∷ others → Cut others first more → Cut more channels behind → Cut behind proc rest → Cut rest procs last → last ≡ [] → own ≡ (l ∷ first) ++ (channels ++ (proc ++ procs))
package_parts {first = first} {channels = channels} {l = l} a b c d e nil =
    a ∙ ap (λ (o : List Lexeme). l ∷ o) (b.is ∙ ap (λ (o : List Lexeme). first ++ o) (c.is ∙ ap (λ (o : List Lexeme). channels ++ o) (both d e nil)))
