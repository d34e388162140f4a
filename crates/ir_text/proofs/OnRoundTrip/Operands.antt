-- Operands in printed texts.
use Rattle.std.proofs.Common.{◌≡◌, ◌<◌, ℕ, suc, ◌-◌, ◌^◌, min, true, false, List, [], ◌∷◌, ◌++◌, map, length, codes, Option, Some, None, refl, sym, ap, subst, ◌∙◌, arith, append_assoc}
use Rattle.std.specs.Prelude.{slice_get}
use Rattle.dslx_token.specs.Blank.{after_blank}
use Rattle.xb_value.specs.Text.{listed}
use Rattle.ir_builder.specs.declared.token.rules.generated.kind.TheConstants as kinds
use Rattle.ir_builder.specs.declared.token.rules.generated.nonterminal.TheConstants as nonterminals
use Rattle.ir_builder.specs.declared.token.rules.generated.production.TheConstants as productions
use Rattle.ir_builder.specs.Token.Rules.Ir.{ir}
use Rattle.ir_builder.specs.Token.Rules.Rules.{named_rules}
use Rattle.ir_builder.specs.Token.Kinds.{Context, kind_in}
use Rattle.ir_tree.specs.declared.node.Node.{Node}
use Rattle.ir_tree.specs.declared.node.Operand.{Operand}
use Rattle.ir_tree.specs.declared.node.Operand.TheVariants as operands
use Rattle.ir_text.specs.Printer.Parts.{name_there, node_name, operand_text, operands_text}
use Rattle.ir_text.specs.Printer.Lines.{default_text, predicate_text}
use Rattle.ir_builder.specs.declared.state.State.{State}
use Rattle.ir_builder.specs.Building.{shifted}
use Rattle.ir_builder.specs.Named.{numbered, index_in}
use Rattle.ir_text.proofs.OnRoundTrip.Walks.{Goes, Point, complete, complete_then, lexeme_of, stays, token_then}
use Rattle.ir_text.proofs.OnRoundTrip.Words.{ends_words, word_prefix, word_shown}
use Rattle.ir_text.proofs.OnRoundTrip.OpWords.{op_id_kind, op_id_word}
use Rattle.ir_text.proofs.OnRoundTrip.Lists.{one_more, onto}
use Rattle.ir_text.proofs.OnRoundTrip.Steps.{Reads, behind, by_rule, comma, complete_as, equals, keyword_then, mark_then, spot, the_default, the_predicate, the_st}
use Rattle.ir_text.proofs.OnRoundTrip.Names.{begins_nodes, node_kept}
use Rattle.ir_text.proofs.OnRoundTrip.TypeTexts.{more_ends}

-- ---- operands that are there

-- the node of this place is there, and the last one of its name
pub record IsNamed (nodes : List Node) (names : List (List ℕ)) (place : ℕ) : Type 0 where
  pub node : Node
  pub there : slice_get nodes place ≡ Some node
  pub named : index_in names (node_name node) ≡ Some place
  pub small : place < 2 ^ 32
  pub id : node.id < 2 ^ 32

abbrev pub IsSaid : List Node → List (List ℕ) → Operand → Type 0
IsSaid nodes names operands.State = Unit {0}
IsSaid nodes names (operands.Node place) = IsNamed nodes names place

abbrev pub AreSaid : List Node → List (List ℕ) → List Operand → Type 0
AreSaid nodes names [] = Unit {0}
AreSaid nodes names (o ∷ os) = IsSaid nodes names o × AreSaid nodes names os

abbrev pub IsSaidIf : List Node → List (List ℕ) → Option Operand → Type 0
IsSaidIf nodes names None = Unit {0}
IsSaidIf nodes names (Some o) = IsSaid nodes names o

-- ---- one operand

pub small_min : (n : ℕ) → n < 2 ^ 32 → min n (2 ^ 32 - 1) ≡ n
small_min n h = omega arith

pub operand_reads : {P : Point → Type 0} → (text : List ℕ) (nodes : List Node) (o : Operand) (rest here : List ℕ) (c : Context) (d r : ℕ) (st : State) → IsSaid nodes st.node_names o → ends_words rest ≡ true → after_blank here ≡ after_blank (operand_text nodes o ++ rest) → begins_nodes c ≡ false → Reads text P nonterminals.OPERAND (spot here c d r st) rest (record st { operands = o ∷ st.operands })
unfolding ir named_rules
operand_reads {P} text nodes operands.State rest here c d r st said stop e free s k =
    by_rule productions.OPERAND__ST refl (keyword_then the_st rest e stop (complete_then (k rest kinds.ST c.last refl)))
operand_reads {P} text nodes (operands.Node place) rest here c d r st said stop e free s k =
    let n = said.node in
    let name = node_name n in
    let one = op_id_word n.op n.id said.id in
    let shown : after_blank here ≡ name ++ rest = e ∙ ap (λ o. after_blank (name_there o ++ rest)) said.there ∙ word_shown name rest one in
    by_rule productions.OPERAND__OPID refl
    (token_then name rest d r shown (word_prefix name rest one stop) (ap (λ x. kind_in c x name) (op_id_kind n.op n.id said.id)) (stays d r)
    (subst (λ node. Goes text P (complete productions.OPERAND__OPID ∷ s) (spot rest (behind kinds.OPID c.last node) d r (shifted (lexeme_of text name rest kinds.OPID) st))) (sym (node_kept c kinds.OPID name free))
    (complete_as (record st { operands = operands.Node place ∷ st.operands })
    (ap (λ p. record st { operands = operands.Node (numbered p) ∷ st.operands }) said.named ∙ ap (λ m. record st { operands = operands.Node m ∷ st.operands }) (small_min place said.small))
    (k rest kinds.OPID c.last refl))))

-- ---- operands with `, ` behind each

pub operands_read : {P : Point → Type 0} → (text : List ℕ) (nodes : List Node) (os : List Operand) (rest here : List ℕ) (c : Context) (d r : ℕ) (st : State) → AreSaid nodes st.node_names os → length os < 2 ^ 64 → after_blank here ≡ after_blank (operands_text nodes os ++ rest) → begins_nodes c ≡ false → Reads text P nonterminals.OPERANDS (spot here c d r st) rest (record st { operands = onto os st.operands; counts = length os ∷ st.counts })
unfolding ir named_rules
operands_read text nodes [] rest here c d r st said few e free s k = by_rule productions.OPERANDS__NONE refl (complete_then (k here c.last c.second e))
operands_read text nodes (o ∷ os) rest here c d r st said few e free s k =
    by_rule productions.OPERANDS__OPERAND refl
    (operand_reads text nodes o (44 ∷ 32 ∷ (operands_text nodes os ++ rest)) here c d r st said.0 refl (e ∙ ap after_blank (append_assoc (operand_text nodes o) (44 ∷ 32 ∷ operands_text nodes os) rest)) free _ λ here1 last1 second1 e1.
    mark_then comma (32 ∷ (operands_text nodes os ++ rest)) e1
    (operands_read text nodes os rest (32 ∷ (operands_text nodes os ++ rest)) _ d r _ said.1 (omega arith) refl refl _ λ here2 last2 second2 e2.
    complete_as (record st { operands = onto (o ∷ os) st.operands; counts = suc (length os) ∷ st.counts })
    (ap (λ n. record st { operands = onto (o ∷ os) st.operands; counts = n ∷ st.counts }) (one_more (length os) few))
    (k here2 last2 second2 e2)))

-- ---- operands with `, ` between them

more_cases : {P : Point → Type 0} → (text : List ℕ) (nodes : List Node) (os : List Operand) (rest here : List ℕ) (c : Context) (d r : ℕ) (st : State) → AreSaid nodes st.node_names os → length os < 2 ^ 64 → ends_words rest ≡ true → after_blank here ≡ after_blank (listed (codes ", ") (map (operand_text nodes) os) ++ rest) → Reads text P nonterminals.CASE_MORE (spot here c d r st) rest (record st { operands = onto os st.operands; counts = length os ∷ st.counts })
unfolding ir named_rules
more_cases text nodes [] rest here c d r st said few stop e s k = by_rule productions.CASE_MORE__NONE refl (complete_then (k here c.last c.second e))
more_cases text nodes (o ∷ os) rest here c d r st said few stop e s k =
    let later = listed (codes ", ") (map (operand_text nodes) os) in
    by_rule productions.CASE_MORE__COMMA refl
    (mark_then comma _ e
    (operand_reads text nodes o (later ++ rest) _ _ d r _ said.0 (more_ends (map (operand_text nodes) os) rest stop) (ap after_blank (append_assoc (operand_text nodes o) later rest)) refl _ λ here1 last1 second1 e1.
    more_cases text nodes os rest here1 _ d r _ said.1 (omega arith) stop e1 _ λ here2 last2 second2 e2.
    complete_as (record st { operands = onto (o ∷ os) st.operands; counts = suc (length os) ∷ st.counts })
    (ap (λ n. record st { operands = onto (o ∷ os) st.operands; counts = n ∷ st.counts }) (one_more (length os) few))
    (k here2 last2 second2 e2)))

pub cases_read : {P : Point → Type 0} → (text : List ℕ) (nodes : List Node) (os : List Operand) (rest here : List ℕ) (c : Context) (d r : ℕ) (st : State) → AreSaid nodes st.node_names os → length os < 2 ^ 64 → ends_words rest ≡ true → after_blank here ≡ after_blank (listed [] (map (operand_text nodes) os) ++ rest) → begins_nodes c ≡ false → Reads text P nonterminals.CASE_LIST (spot here c d r st) rest (record st { operands = onto os st.operands; counts = length os ∷ st.counts })
unfolding ir named_rules
cases_read text nodes [] rest here c d r st said few stop e free s k = by_rule productions.CASE_LIST__NONE refl (complete_then (k here c.last c.second e))
cases_read text nodes (o ∷ os) rest here c d r st said few stop e free s k =
    let later = listed (codes ", ") (map (operand_text nodes) os) in
    by_rule productions.CASE_LIST__OPERAND refl
    (operand_reads text nodes o (later ++ rest) here c d r st said.0 (more_ends (map (operand_text nodes) os) rest stop) (e ∙ ap after_blank (append_assoc (operand_text nodes o) later rest)) free _ λ here1 last1 second1 e1.
    more_cases text nodes os rest here1 _ d r _ said.1 (omega arith) stop e1 _ λ here2 last2 second2 e2.
    complete_as (record st { operands = onto (o ∷ os) st.operands; counts = suc (length os) ∷ st.counts })
    (ap (λ n. record st { operands = onto (o ∷ os) st.operands; counts = n ∷ st.counts }) (one_more (length os) few))
    (k here2 last2 second2 e2))

-- ---- an operand that may be absent

pub default_reads : {P : Point → Type 0} → (text : List ℕ) (nodes : List Node) (o : Option Operand) (rest here : List ℕ) (c : Context) (d r : ℕ) (st : State) → IsSaidIf nodes st.node_names o → after_blank here ≡ after_blank (default_text nodes o ++ rest) → Reads text P nonterminals.DEFAULT (spot here c d r st) rest (record st { options = o ∷ st.options })
unfolding ir named_rules
default_reads text nodes None rest here c d r st said e s k = by_rule productions.DEFAULT__NONE refl (complete_then (k here c.last c.second e))
default_reads text nodes (Some o) rest here c d r st said e s k =
    by_rule productions.DEFAULT__DEFAULT refl
    (keyword_then the_default (61 ∷ ((operand_text nodes o ++ (44 ∷ 32 ∷ [])) ++ rest)) e refl
    (mark_then equals _ refl
    (operand_reads text nodes o (44 ∷ 32 ∷ rest) _ _ d r _ said refl (ap after_blank (append_assoc (operand_text nodes o) (44 ∷ 32 ∷ []) rest)) refl _ λ here1 last1 second1 e1.
    mark_then comma (32 ∷ rest) e1
    (complete_then (k (32 ∷ rest) _ _ refl)))))

pub predicate_reads : {P : Point → Type 0} → (text : List ℕ) (nodes : List Node) (o : Option Operand) (rest here : List ℕ) (c : Context) (d r : ℕ) (st : State) → IsSaidIf nodes st.node_names o → after_blank here ≡ after_blank (predicate_text nodes o ++ rest) → Reads text P nonterminals.PREDICATE (spot here c d r st) rest (record st { options = o ∷ st.options })
unfolding ir named_rules
predicate_reads text nodes None rest here c d r st said e s k = by_rule productions.PREDICATE__NONE refl (complete_then (k here c.last c.second e))
predicate_reads text nodes (Some o) rest here c d r st said e s k =
    by_rule productions.PREDICATE__PREDICATE refl
    (keyword_then the_predicate (61 ∷ ((operand_text nodes o ++ (44 ∷ 32 ∷ [])) ++ rest)) e refl
    (mark_then equals _ refl
    (operand_reads text nodes o (44 ∷ 32 ∷ rest) _ _ d r _ said refl (ap after_blank (append_assoc (operand_text nodes o) (44 ∷ 32 ∷ []) rest)) refl _ λ here1 last1 second1 e1.
    mark_then comma (32 ∷ rest) e1
    (complete_then (k (32 ∷ rest) _ _ refl)))))
