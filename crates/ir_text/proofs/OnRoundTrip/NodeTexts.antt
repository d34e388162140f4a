-- Lines of nodes in printed texts.
use Rattle.std.proofs.Common.{◌≡◌, ◌<◌, ◌≤◌, ℕ, suc, ◌^◌, true, List, [], ◌∷◌, ◌++◌, map, length, decimal, refl, sym, ap, ap₂, subst, ◌∙◌, arith, append_assoc}
use Rattle.std.specs.Prelude.{if◌then◌else◌}
use Rattle.std.proofs.lemmas.Bool.{cond-true}
use Rattle.xb_span.specs.declared.span.Span.{Span}
use Rattle.delay_model.specs.declared.op.Op.{Op}
use Rattle.delay_model.specs.Names.{name_of, op_named}
use Rattle.delay_model.specs.Signatures.{attribute_kind_of}
use Rattle.delay_model.proofs.Lemmas.Naming.{named_by_name}
use Rattle.dslx_token.specs.Blank.{after_blank}
use Rattle.ir_builder.specs.declared.token.rules.generated.kind.TheConstants as kinds
use Rattle.ir_builder.specs.declared.token.rules.generated.nonterminal.TheConstants as nonterminals
use Rattle.ir_builder.specs.declared.token.rules.generated.production.TheConstants as productions
use Rattle.ir_builder.specs.Token.Rules.Ir.{ir}
use Rattle.ir_builder.specs.Token.Rules.Rules.{named_rules}
use Rattle.ir_builder.specs.Token.Kinds.{Context, class_by, kind_in}
use Rattle.ir_tree.specs.declared.node.Node.{Node}
use Rattle.ir_tree.specs.declared.package.Channel.{Channel}
use Rattle.ir_text.specs.Printer.Parts.{node_name, operands_text, type_text}
use Rattle.ir_text.specs.Printer.Lines.{attributes_text, lines_text, node_call, node_end, node_start, node_text}
use Rattle.ir_builder.specs.declared.state.State.{State}
use Rattle.ir_builder.specs.Building.{shifted}
use Rattle.ir_builder.specs.Empty.{join}
use Rattle.ir_builder.specs.Rules.{op_or}
use Rattle.ir_text.proofs.OnRoundTrip.Held.{attributes_held, type_held}
use Rattle.ir_text.proofs.OnRoundTrip.Walks.{Due, Goes, Point, a_tree, complete, complete_then, a_token, lexeme_of, stays, token_then}
use Rattle.ir_text.proofs.OnRoundTrip.Words.{word_prefix, word_shown}
use Rattle.ir_text.proofs.OnRoundTrip.OpWords.{id_said_is, op_id_kind, op_id_word, op_part_is}
use Rattle.ir_text.proofs.OnRoundTrip.Lists.{one_more, onto}
use Rattle.ir_text.proofs.OnRoundTrip.Steps.{behind, by_rule, colon, complete_as, equals, mark_then, spot}
use Rattle.ir_text.proofs.OnRoundTrip.TypeTexts.{type_nesting, type_reads}
use Rattle.ir_text.proofs.OnRoundTrip.Names.{begins_nodes}
use Rattle.ir_text.proofs.OnRoundTrip.Operands.{AreSaid}
use Rattle.ir_text.proofs.OnRoundTrip.Calls.{AttributesSaid, attributes_nesting, call_reads, class_like}

-- the parts of a node can be read behind nodes of these names, where so many brackets may be opened inside its call
pub record IsNodeSaid (channels : List Channel) (channel_names : List (List ℕ)) (nodes : List Node) (names : List (List ℕ)) (room : ℕ) (n : Node) : Type 0 where
  pub id : n.id < 2 ^ 32
  pub ty : type_held n.ty ≡ true
  pub ty_nesting : type_nesting n.ty ≤ suc room
  pub class : class_by (attribute_kind_of n.op) ≡ class_like n.attributes
  pub operands : AreSaid nodes names n.operands
  pub few : length n.operands < 2 ^ 64
  pub attributes : AttributesSaid channels channel_names nodes names n.attributes
  pub numbers : attributes_held n.attributes ≡ true
  pub nesting : attributes_nesting n.attributes ≤ room

-- the text of a node, in front of this rest
abbrev rest_of_call : List Channel → List Node → Node → List ℕ → List ℕ
rest_of_call channels nodes n rest =
    operands_text nodes n.operands ++ (attributes_text channels nodes n.attributes ++ (105 ∷ 100 ∷ 61 ∷ (decimal n.id ++ (41 ∷ 10 ∷ rest))))

abbrev rest_of_type : List Channel → List Node → Node → List ℕ → List ℕ
rest_of_type channels nodes n rest = 32 ∷ 61 ∷ 32 ∷ (name_of n.op ++ (40 ∷ rest_of_call channels nodes n rest))

abbrev rest_of_name : List Channel → List Node → Node → List ℕ → List ℕ
rest_of_name channels nodes n rest = 58 ∷ 32 ∷ (type_text n.ty ++ rest_of_type channels nodes n rest)

node_flat : (channels : List Channel) (nodes : List Node) (n : Node) (rest : List ℕ) → node_text channels nodes n ++ rest ≡ 32 ∷ 32 ∷ (node_name n ++ rest_of_name channels nodes n rest)
unfolding node_start node_call node_end
node_flat channels nodes n rest = simp append_assoc

-- where a node begins, its name is the node's
begun : (c : Context) (word : List ℕ) → begins_nodes c ≡ true → (if begins_nodes c then word else c.node) ≡ word
begun c word h = cond-true (begins_nodes c) word c.node h

pub node_reads : {P : Point → Type 0} → (text : List ℕ) (channels : List Channel) (nodes : List Node) (n : Node) (rest here : List ℕ) (c : Context) (d q : ℕ) (st : State) → IsNodeSaid channels st.channel_names nodes st.node_names q n → begins_nodes c ≡ true → after_blank here ≡ after_blank (node_text channels nodes n ++ rest) → (s : List Due)
    → ((span : Span) → Goes text P s (spot (10 ∷ rest) (behind kinds.RPAREN kinds.OWN (node_name n)) d (suc q) (record st { nodes = n ∷ st.nodes; node_spans = span ∷ st.node_spans; node_names = node_name n ∷ st.node_names })))
    → Goes text P (a_tree nonterminals.NODE ∷ s) (spot here c d (suc q) st)
unfolding ir named_rules
node_reads {P} text channels nodes n rest here c d q st said begins e s k =
    let name = node_name n in
    let one = op_id_word n.op n.id said.id in
    let after_name = rest_of_name channels nodes n rest in
    let shown : after_blank here ≡ name ++ after_name = e ∙ ap after_blank (node_flat channels nodes n rest) ∙ word_shown name after_name one in
    by_rule productions.NODE refl
    (token_then name after_name d (suc q) shown (word_prefix name after_name one refl) (ap (λ x. kind_in c x name) (op_id_kind n.op n.id said.id)) (stays d (suc q))
    (subst (λ node. Goes text P (a_token kinds.COLON ∷ a_tree nonterminals.TYPE ∷ a_token kinds.ASSIGN ∷ a_tree nonterminals.CALL ∷ complete productions.NODE ∷ s) (spot after_name (behind kinds.OPID c.last node) d (suc q) (shifted (lexeme_of text name after_name kinds.OPID) st))) (sym (begun c name begins))
    (mark_then colon _ refl
    (type_reads n.ty text (rest_of_type channels nodes n rest) (32 ∷ (type_text n.ty ++ rest_of_type channels nodes n rest)) _ d (suc q) _ said.ty said.ty_nesting refl refl _ λ here1 last1 second1 e1.
    mark_then equals (32 ∷ (name_of n.op ++ (40 ∷ rest_of_call channels nodes n rest))) e1
    (call_reads text channels nodes n.op n.id n.operands n.attributes rest (32 ∷ (name_of n.op ++ (40 ∷ rest_of_call channels nodes n rest))) _ d q _ said.id said.class said.operands said.few said.attributes said.numbers said.nesting refl _ λ l1 l2 l3 l4 l5 l6.
    let span = join (lexeme_of text name after_name kinds.OPID).span l6.span in
    complete_as (record st { nodes = n ∷ st.nodes; node_spans = span ∷ st.node_spans; node_names = name ∷ st.node_names })
    (ap₂ (λ (i : ℕ) (o : Op). record st { nodes = record { id = i; ty = n.ty; op = o; operands = n.operands; attributes = n.attributes } ∷ st.nodes; node_spans = span ∷ st.node_spans; node_names = name ∷ st.node_names })
    (id_said_is n.op n.id said.id) (ap (λ w. op_or (op_named w)) (op_part_is n.op n.id) ∙ ap op_or (named_by_name n.op)))
    (k span))))))

-- ---- all nodes of a proc

-- each can be read behind those before it
abbrev pub AreNodesSaid : List Channel → List (List ℕ) → List Node → ℕ → List (List ℕ) → List Node → Type 0
AreNodesSaid channels channel_names nodes room names [] = Unit {0}
AreNodesSaid channels channel_names nodes room names (n ∷ ns) =
    IsNodeSaid channels channel_names nodes names room n × AreNodesSaid channels channel_names nodes room (node_name n ∷ names) ns

pub nodes_read : {P : Point → Type 0} → (text : List ℕ) (channels : List Channel) (nodes ns : List Node) (rest here : List ℕ) (c : Context) (d q : ℕ) (st : State) → AreNodesSaid channels st.channel_names nodes q st.node_names ns → length ns < 2 ^ 64 → begins_nodes c ≡ true → after_blank here ≡ after_blank (lines_text (map (node_text channels nodes) ns) ++ rest) → (s : List Due)
    → ((here : List ℕ) (c : Context) (spans : List Span) → after_blank here ≡ after_blank rest → Goes text P s (spot here c d (suc q) (record st { nodes = onto ns st.nodes; node_spans = spans; node_names = onto (map node_name ns) st.node_names; counts = length ns ∷ st.counts })))
    → Goes text P (a_tree nonterminals.NODES ∷ s) (spot here c d (suc q) st)
unfolding ir named_rules
nodes_read text channels nodes [] rest here c d q st said few begins e s k = by_rule productions.NODES__NONE refl (complete_then (k here c st.node_spans e))
nodes_read text channels nodes (n ∷ ns) rest here c d q st said few begins e s k =
    let lines = lines_text (map (node_text channels nodes) ns) in
    by_rule productions.NODES__NODE refl
    (node_reads text channels nodes n (lines ++ rest) here c d q st said.0 begins (e ∙ ap after_blank (append_assoc (node_text channels nodes n) lines rest)) _ λ span.
    nodes_read text channels nodes ns rest (10 ∷ (lines ++ rest)) _ d q _ said.1 (omega arith) refl refl _ λ here2 c2 spans e2.
    complete_as (record st { nodes = onto (n ∷ ns) st.nodes; node_spans = spans; node_names = onto (map node_name (n ∷ ns)) st.node_names; counts = suc (length ns) ∷ st.counts })
    (ap (λ m. record st { nodes = onto (n ∷ ns) st.nodes; node_spans = spans; node_names = onto (map node_name (n ∷ ns)) st.node_names; counts = m ∷ st.counts }) (one_more (length ns) few))
    (k here2 c2 spans e2))
