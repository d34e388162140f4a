-- Attributes and calls in printed texts.
use Rattle.std.proofs.Common.{◌≡◌, ◌<◌, ◌≤◌, ℕ, zero, suc, ◌^◌, Bool, true, false, ◌&&◌, ◌||◌, List, [], ◌∷◌, ◌++◌, map, take, drop, length, reverse, codes, decimal, bytes_eq, Option, Some, refl, sym, ap, ap₂, subst, ◌∙◌, arith, append_assoc}
use Rattle.std.specs.Prelude.{◌==◌, nat_lt, slice_get, if◌then◌else◌}
use Rattle.std.proofs.lemmas.Bool.{and_left, and_parts, cond_both, cond-false, cond-true}
use Rattle.std.proofs.lemmas.Bool.Decides.{nat_tests}
use Rattle.std.proofs.lemmas.Slice.Eq.{bytes_eq-Decides}
use Rattle.xb_value.specs.Text.{listed}
use Rattle.base.specs.declared.grammar.table.Symbol.{Symbol}
use Rattle.base.specs.declared.grammar.table.Symbol.TheVariants.{Terminal, Nonterminal}
use Rattle.base.specs.Grammar.Derivation.{IsRule}
use Rattle.delay_model.specs.declared.op.Op.{Op}
use Rattle.delay_model.specs.Names.{name_of, op_named}
use Rattle.delay_model.specs.Signatures.{attribute_kind_of}
use Rattle.delay_model.proofs.Lemmas.Naming.{named_by_name}
use Rattle.xb_span.specs.declared.nesting.bracket_class.BracketClass.TheVariants.{Plain}
use Rattle.dslx_token.specs.Blank.{after_blank}
use Rattle.dslx_token.specs.Lexeme.{Lexeme}
use Rattle.ir_builder.specs.declared.token.rules.generated.kind.TheConstants as kinds
use Rattle.ir_builder.specs.declared.token.rules.generated.nonterminal.TheConstants as nonterminals
use Rattle.ir_builder.specs.declared.token.rules.generated.production.TheConstants as productions
use Rattle.ir_builder.specs.Token.Rules.Ir.{ir}
use Rattle.ir_builder.specs.Token.Rules.Rules.{named_rules}
use Rattle.ir_builder.specs.Token.Kinds.{Context, class_by, class_of, id_part, ir_plain_kind, kind_in, op_part}
use Rattle.ir_tree.specs.declared.constant.Constant.{Constant}
use Rattle.ir_tree.specs.declared.node.Attributes.{Attributes}
use Rattle.ir_tree.specs.declared.node.Attributes.TheVariants as attributes
use Rattle.ir_tree.specs.declared.node.Node.{Node}
use Rattle.ir_tree.specs.declared.node.Operand.{Operand}
use Rattle.ir_tree.specs.declared.package.Channel.{Channel}
use Rattle.ir_text.specs.Printer.Parts.{constant_text, operand_text, operands_text}
use Rattle.ir_text.specs.Printer.Lines.{attributes_text, channel_name, default_text, predicate_text}
use Rattle.ir_builder.specs.declared.state.State.{State}
use Rattle.ir_builder.specs.Building.{shifted}
use Rattle.ir_builder.specs.Named.{numbered, index_in}
use Rattle.ir_text.specs.Parser.BracketClasses.{role_of}
use Rattle.ir_text.specs.RoundTrip.InRange.{is_held}
use Rattle.ir_text.proofs.OnRoundTrip.Writable.{is_one_word}
use Rattle.ir_text.proofs.OnRoundTrip.Held.{attributes_held, constant_held}
use Rattle.ir_text.proofs.OnRoundTrip.Walks.{Due, Goes, Point, Turns, a_token, a_tree, complete, complete_then, due_of, lexeme_of, stays, token_then}
use Rattle.ir_text.proofs.OnRoundTrip.Words.{number_prefix_is, number_kind, number_shown, word_prefix, word_shown}
use Rattle.ir_text.proofs.OnRoundTrip.OpWords.{id_part_is, name_kind, op_id, op_part_is, word_is_one}
use Rattle.ir_text.proofs.OnRoundTrip.Lists.{left_over, onto, taken}
use Rattle.ir_text.proofs.OnRoundTrip.Steps.{Reads, behind, by_rule, close_then, comma, complete_as, equals, keyword_then, left_bracket, left_parenthesis, mark_then, open_then, right_bracket, right_parenthesis, spot, the_cases, the_channel, the_id, the_index, the_indices, the_new_bit_count, the_start, the_value, the_width}
use Rattle.ir_text.proofs.OnRoundTrip.Numbers.{number_reads}
use Rattle.ir_text.proofs.OnRoundTrip.TypeTexts.{held_below, short_below}
use Rattle.ir_text.proofs.OnRoundTrip.ValueTexts.{constant_nesting, constant_reads}
use Rattle.ir_text.proofs.OnRoundTrip.Names.{any_word, IsAnyName, name_reads, site_name}
use Rattle.ir_text.proofs.OnRoundTrip.Operands.{AreSaid, IsSaid, IsSaidIf, cases_read, default_reads, operand_reads, operands_read, predicate_reads, small_min}

-- ---- numbers under a name

start_reads : {P : Point → Type 0} → (text : List ℕ) (n : ℕ) (rest here : List ℕ) (c : Context) (d r : ℕ) (st : State) → is_held n ≡ true → after_blank here ≡ after_blank ((codes "start=" ++ (decimal n ++ codes ", ")) ++ rest) → Reads text P nonterminals.START (spot here c d r st) rest (record st { numbers = n ∷ st.numbers })
unfolding ir named_rules
start_reads text n rest here c d r st held e s k =
    by_rule productions.START refl
    (keyword_then the_start (61 ∷ ((decimal n ++ (44 ∷ 32 ∷ [])) ++ rest)) e refl
    (mark_then equals _ refl
    (number_reads text n (44 ∷ 32 ∷ rest) _ _ d r _ (held_below n held) refl (ap after_blank (append_assoc (decimal n) (44 ∷ 32 ∷ []) rest)) refl _ λ here1 last1 second1 e1.
    mark_then comma (32 ∷ rest) e1
    (complete_then (k (32 ∷ rest) _ _ refl)))))

width_reads : {P : Point → Type 0} → (text : List ℕ) (n : ℕ) (rest here : List ℕ) (c : Context) (d r : ℕ) (st : State) → is_held n ≡ true → after_blank here ≡ after_blank ((codes "width=" ++ (decimal n ++ codes ", ")) ++ rest) → Reads text P nonterminals.WIDTH (spot here c d r st) rest (record st { numbers = n ∷ st.numbers })
unfolding ir named_rules
width_reads text n rest here c d r st held e s k =
    by_rule productions.WIDTH refl
    (keyword_then the_width (61 ∷ ((decimal n ++ (44 ∷ 32 ∷ [])) ++ rest)) e refl
    (mark_then equals _ refl
    (number_reads text n (44 ∷ 32 ∷ rest) _ _ d r _ (held_below n held) refl (ap after_blank (append_assoc (decimal n) (44 ∷ 32 ∷ []) rest)) refl _ λ here1 last1 second1 e1.
    mark_then comma (32 ∷ rest) e1
    (complete_then (k (32 ∷ rest) _ _ refl)))))

count_reads : {P : Point → Type 0} → (text : List ℕ) (n : ℕ) (rest here : List ℕ) (c : Context) (d r : ℕ) (st : State) → is_held n ≡ true → after_blank here ≡ after_blank ((codes "new_bit_count=" ++ (decimal n ++ codes ", ")) ++ rest) → Reads text P nonterminals.COUNT (spot here c d r st) rest (record st { numbers = n ∷ st.numbers })
unfolding ir named_rules
count_reads text n rest here c d r st held e s k =
    by_rule productions.COUNT refl
    (keyword_then the_new_bit_count (61 ∷ ((decimal n ++ (44 ∷ 32 ∷ [])) ++ rest)) e refl
    (mark_then equals _ refl
    (number_reads text n (44 ∷ 32 ∷ rest) _ _ d r _ (held_below n held) refl (ap after_blank (append_assoc (decimal n) (44 ∷ 32 ∷ []) rest)) refl _ λ here1 last1 second1 e1.
    mark_then comma (32 ∷ rest) e1
    (complete_then (k (32 ∷ rest) _ _ refl)))))

index_reads : {P : Point → Type 0} → (text : List ℕ) (n : ℕ) (rest here : List ℕ) (c : Context) (d r : ℕ) (st : State) → is_held n ≡ true → after_blank here ≡ after_blank ((codes "index=" ++ (decimal n ++ codes ", ")) ++ rest) → Reads text P nonterminals.INDEX (spot here c d r st) rest (record st { numbers = n ∷ st.numbers })
unfolding ir named_rules
index_reads text n rest here c d r st held e s k =
    by_rule productions.INDEX refl
    (keyword_then the_index (61 ∷ ((decimal n ++ (44 ∷ 32 ∷ [])) ++ rest)) e refl
    (mark_then equals _ refl
    (number_reads text n (44 ∷ 32 ∷ rest) _ _ d r _ (held_below n held) refl (ap after_blank (append_assoc (decimal n) (44 ∷ 32 ∷ []) rest)) refl _ λ here1 last1 second1 e1.
    mark_then comma (32 ∷ rest) e1
    (complete_then (k (32 ∷ rest) _ _ refl)))))

-- ---- other attributes

value_reads : {P : Point → Type 0} → (text : List ℕ) (v : Constant) (rest here : List ℕ) (c : Context) (d r : ℕ) (st : State) → constant_held v ≡ true → constant_nesting v ≤ r → after_blank here ≡ after_blank ((codes "value=" ++ (constant_text v ++ codes ", ")) ++ rest) → Reads text P nonterminals.LITERAL_VALUE (spot here c d r st) rest (record st { constants = v ∷ st.constants })
unfolding ir named_rules
value_reads text v rest here c d r st held deep e s k =
    by_rule productions.LITERAL_VALUE refl
    (keyword_then the_value (61 ∷ ((constant_text v ++ (44 ∷ 32 ∷ [])) ++ rest)) e refl
    (mark_then equals _ refl
    (constant_reads v text (44 ∷ 32 ∷ rest) _ _ d r _ held deep refl (ap after_blank (append_assoc (constant_text v) (44 ∷ 32 ∷ []) rest)) refl _ λ here1 last1 second1 e1.
    mark_then comma (32 ∷ rest) e1
    (complete_then (k (32 ∷ rest) _ _ refl)))))

indices_read : {P : Point → Type 0} → (text : List ℕ) (nodes : List Node) (o : Operand) (rest here : List ℕ) (c : Context) (d q : ℕ) (st : State) → IsSaid nodes st.node_names o → after_blank here ≡ after_blank ((codes "indices=[" ++ (operand_text nodes o ++ codes "], ")) ++ rest) → Reads text P nonterminals.INDICES (spot here c d (suc q) st) rest (record st { operands = o ∷ st.operands })
unfolding ir named_rules
indices_read text nodes o rest here c d q st said e s k =
    by_rule productions.INDICES refl
    (keyword_then the_indices (61 ∷ 91 ∷ ((operand_text nodes o ++ (93 ∷ 44 ∷ 32 ∷ [])) ++ rest)) e refl
    (mark_then equals _ refl
    (open_then left_bracket _ q refl refl
    (operand_reads text nodes o (93 ∷ 44 ∷ 32 ∷ rest) _ _ (suc d) q _ said refl (ap after_blank (append_assoc (operand_text nodes o) (93 ∷ 44 ∷ 32 ∷ []) rest)) refl _ λ here1 last1 second1 e1.
    close_then right_bracket _ d refl e1
    (mark_then comma (32 ∷ rest) refl
    (complete_then (k (32 ∷ rest) _ _ refl)))))))

some_cases_read : {P : Point → Type 0} → (text : List ℕ) (nodes : List Node) (os : List Operand) (later rest here : List ℕ) (c : Context) (d q : ℕ) (st : State) → AreSaid nodes st.node_names os → length os < 2 ^ 64 → after_blank here ≡ after_blank ((codes "cases=[" ++ (listed [] (map (operand_text nodes) os) ++ (codes "], " ++ later))) ++ rest) → Reads text P nonterminals.CASES (spot here c d (suc q) st) (later ++ rest) (record st { operands = onto os st.operands; counts = length os ∷ st.counts })
unfolding ir named_rules
some_cases_read text nodes os later rest here c d q st said few e s k =
    let all = listed [] (map (operand_text nodes) os) in
    by_rule productions.CASES refl
    (keyword_then the_cases (61 ∷ 91 ∷ ((all ++ (93 ∷ 44 ∷ 32 ∷ later)) ++ rest)) e refl
    (mark_then equals _ refl
    (open_then left_bracket _ q refl refl
    (cases_read text nodes os (93 ∷ 44 ∷ 32 ∷ (later ++ rest)) _ _ (suc d) q _ said few refl (ap after_blank (append_assoc all (93 ∷ 44 ∷ 32 ∷ later) rest)) refl _ λ here1 last1 second1 e1.
    close_then right_bracket _ d refl e1
    (mark_then comma (32 ∷ (later ++ rest)) refl
    (complete_then (k (32 ∷ (later ++ rest)) _ _ refl)))))))

-- the channel of this number is there, and the last one of its name
pub record IsChannelNamed (channels : List Channel) (names : List (List ℕ)) (place : ℕ) : Type 0 where
  pub channel : Channel
  pub there : slice_get channels place ≡ Some channel
  pub named : index_in names channel.name ≡ Some place
  pub small : place < 2 ^ 32
  pub one : is_one_word channel.name ≡ true

never : (q : Bool) → (q && false) ≡ true → false ≡ true
never true h = h
never false h = h

-- behind `channel=` also the word of a site's own operation is a name
site_any : (o : Op) (id : ℕ) (name : List ℕ) → class_by (attribute_kind_of o) ≡ kinds.SITE → is_one_word name ≡ true → IsAnyName (kind_in (behind kinds.ASSIGN kinds.CHANNEL (op_id o id)) (ir_plain_kind name) name)
site_any o id name class one =
    cond_both ((ir_plain_kind name == kinds.NAME) && bytes_eq name (op_part (op_id o id))) (class_of (op_named name)) _ IsAnyName own
    (λ other. cond_both _ kinds.OWN (ir_plain_kind name) IsAnyName (λ h. absurd (let odd = never _ h in cc)) (λ h. any_word name one))
  where
    own : ((ir_plain_kind name == kinds.NAME) && bytes_eq name (op_part (op_id o id))) ≡ true → IsAnyName (class_of (op_named name))
    own h =
        let parts = and_parts (ir_plain_kind name == kinds.NAME) (bytes_eq name (op_part (op_id o id))) h in
        let same : name ≡ name_of o = (bytes_eq-Decides name (op_part (op_id o id))).0 parts.1 ∙ op_part_is o id in
        let site : class_of (op_named name) ≡ kinds.SITE = ap (λ w. class_of (op_named w)) same ∙ ap class_of (named_by_name o) ∙ class in
        subst IsAnyName (sym site) site_name

channel_reads : {P : Point → Type 0} → (text : List ℕ) (channels : List Channel) (place : ℕ) (o : Op) (id : ℕ) (rest here : List ℕ) (last second : ℕ) (d r : ℕ) (st : State) → class_by (attribute_kind_of o) ≡ kinds.SITE → IsChannelNamed channels st.channel_names place → after_blank here ≡ after_blank ((codes "channel=" ++ (channel_name (slice_get channels place) ++ codes ", ")) ++ rest) → Reads text P nonterminals.SITE_CHANNEL (spot here (behind last second (op_id o id)) d r st) rest (record st { site_channels = place ∷ st.site_channels })
unfolding ir named_rules
channel_reads text channels place o id rest here last second d r st class is e s k =
    let name = (is.channel).name in
    by_rule productions.SITE_CHANNEL refl
    (keyword_then the_channel (61 ∷ ((name ++ (44 ∷ 32 ∷ [])) ++ rest)) (e ∙ ap (λ (x : Option Channel). after_blank ((codes "channel=" ++ (channel_name x ++ codes ", ")) ++ rest)) is.there) refl
    (mark_then equals _ refl
    (name_reads text name (44 ∷ 32 ∷ rest) _ (behind kinds.ASSIGN kinds.CHANNEL (op_id o id)) d r _ _ (site_any o id name class is.one) is.one refl (ap after_blank (append_assoc name (44 ∷ 32 ∷ []) rest)) refl refl _
    (mark_then comma (32 ∷ rest) refl
    (complete_as (record st { site_channels = place ∷ st.site_channels })
    (ap (λ p. record st { site_channels = numbered p ∷ st.site_channels }) is.named ∙ ap (λ m. record st { site_channels = m ∷ st.site_channels }) (small_min place is.small))
    (k (32 ∷ rest) _ _ refl))))))

-- ---- the beginning and the end of a call

not_begun : (c : Context) (kind : ℕ) (word : List ℕ) → (kind == kinds.OPID) ≡ false → (if (kind == kinds.OPID) && ((c.last == kinds.LBRACE) || (c.last == kinds.RPAREN)) then word else c.node) ≡ c.node
not_begun c kind word h = cond-false _ word c.node (and_left (kind == kinds.OPID) _ h)

same_bytes : (x y : List ℕ) → x ≡ y → bytes_eq x y ≡ true
same_bytes x y e = (bytes_eq-Decides x y).1 e

class_here : (o : Op) (id kind second : ℕ) → class_by (attribute_kind_of o) ≡ kind → kind_in (behind kinds.ASSIGN second (op_id o id)) (ir_plain_kind (name_of o)) (name_of o) ≡ kind
class_here o id kind second class =
    ap (λ x. kind_in (behind kinds.ASSIGN second (op_id o id)) x (name_of o)) (name_kind o)
    ∙ cond-true (bytes_eq (name_of o) (op_part (op_id o id))) (class_of (op_named (name_of o))) _ (same_bytes _ _ (sym (op_part_is o id)))
    ∙ ap class_of (named_by_name o) ∙ class

-- the text behind `OP(`, in front of this rest
abbrev call_text : List Channel → List Node → ℕ → List Operand → Attributes → List ℕ → List ℕ
call_text channels nodes id os a rest =
    operands_text nodes os ++ (attributes_text channels nodes a ++ (105 ∷ 100 ∷ 61 ∷ (decimal id ++ (41 ∷ 10 ∷ rest))))

abbrev id_text : ℕ → List ℕ → List ℕ
id_text id rest = 105 ∷ 100 ∷ 61 ∷ (decimal id ++ (41 ∷ 10 ∷ rest))

-- from the operation up to the attributes
call_by : {P : Point → Type 0} → (text : List ℕ) (nodes : List Node) (o : Op) (id : ℕ) (os : List Operand) (later here : List ℕ) (second d q : ℕ) (st : State) (kind number : ℕ) (tail : List Symbol) → IsRule ir.rules number nonterminals.CALL (Terminal kind ∷ Terminal kinds.LPAREN ∷ Nonterminal nonterminals.OPERANDS ∷ tail) → (kind == kinds.OPID) ≡ false → role_of kind ≡ Plain → class_by (attribute_kind_of o) ≡ kind → AreSaid nodes st.node_names os → length os < 2 ^ 64 → after_blank here ≡ after_blank (name_of o ++ (40 ∷ (operands_text nodes os ++ later))) → (s : List Due)
    → ((l1 l2 : Lexeme) (here : List ℕ) (last second : ℕ) → after_blank here ≡ after_blank later → Goes text P (due_of tail ++ complete number ∷ s) (spot here (behind last second (op_id o id)) (suc d) q (record st { tokens = l2 ∷ l1 ∷ st.tokens; operands = onto os st.operands; counts = length os ∷ st.counts })))
    → Goes text P (a_tree nonterminals.CALL ∷ s) (spot here (behind kinds.ASSIGN second (op_id o id)) d (suc q) st)
call_by {P} text nodes o id os later here second d q st kind number tail rule odd role class said few e s k =
    let word = name_of o in
    let rest = 40 ∷ (operands_text nodes os ++ later) in
    by_rule number rule
    (token_then word rest d (suc q) (e ∙ word_shown word rest (word_is_one o)) (word_prefix word rest (word_is_one o) refl) (class_here o id kind second class) (subst (λ x. Turns x d (suc q) d (suc q)) (sym role) (stays d (suc q)))
    (subst (λ node. Goes text P (a_token kinds.LPAREN ∷ a_tree nonterminals.OPERANDS ∷ (due_of tail ++ complete number ∷ s)) (spot rest (behind kind kinds.ASSIGN node) d (suc q) (shifted (lexeme_of text word rest kind) st))) (sym (not_begun (behind kinds.ASSIGN second (op_id o id)) kind word odd))
    (open_then left_parenthesis _ q refl refl
    (operands_read text nodes os later (operands_text nodes os ++ later) _ (suc d) q _ said few refl refl _ λ here1 last1 second1 e1. k _ _ here1 last1 second1 e1))))

own_id : (o : Op) (id : ℕ) → id < 2 ^ 32 → kind_in (behind kinds.ASSIGN kinds.ID (op_id o id)) (ir_plain_kind (decimal id)) (decimal id) ≡ kinds.OWN
own_id o id small =
    let enough : id < 2 ^ 128 = omega arith in
    let below : nat_lt id (2 ^ 32) ≡ true = grind (arith, nat_tests) in
    ap (λ x. kind_in (behind kinds.ASSIGN kinds.ID (op_id o id)) x (decimal id)) (number_kind id enough ∙ cond-true _ kinds.SMALL kinds.LARGE below)
    ∙ cond-true (bytes_eq (decimal id) (id_part (op_id o id))) kinds.OWN kinds.SMALL (same_bytes _ _ (sym (id_part_is o id)))

-- `id=ID)`
id_then : {P : Point → Type 0} → (text : List ℕ) (o : Op) (id : ℕ) (rest here : List ℕ) (last second d q : ℕ) (st : State) → id < 2 ^ 32 → after_blank here ≡ after_blank (id_text id rest) → (s : List Due)
    → ((l1 l2 l3 l4 : Lexeme) → Goes text P s (spot (10 ∷ rest) (behind kinds.RPAREN kinds.OWN (op_id o id)) d (suc q) (record st { tokens = l4 ∷ l3 ∷ l2 ∷ l1 ∷ st.tokens })))
    → Goes text P (a_tree nonterminals.ID ∷ s) (spot here (behind last second (op_id o id)) (suc d) q st)
unfolding ir named_rules
id_then text o id rest here last second d q st small e s k =
    let enough : id < 2 ^ 128 = omega arith in
    by_rule productions.ID refl
    (keyword_then the_id (61 ∷ (decimal id ++ (41 ∷ 10 ∷ rest))) e refl
    (mark_then equals _ refl
    (token_then (decimal id) (41 ∷ 10 ∷ rest) (suc d) q (number_shown id (41 ∷ 10 ∷ rest) enough) (number_prefix_is id (41 ∷ 10 ∷ rest) enough refl) (own_id o id small) (stays (suc d) q)
    (close_then right_parenthesis (10 ∷ rest) d refl refl
    (complete_then (k _ _ _ _))))))

-- what is called is a call of these operands and attributes
called_is : (st : State) (tokens : List Lexeme) (os : List Operand) (a : Attributes) → ◌≡◌ {A = State}
    (record st { tokens = tokens; operands = drop (length os) (onto os st.operands); calls = record { operands = reverse (take (length os) (onto os st.operands)); attributes = a } ∷ st.calls })
    (record st { tokens = tokens; calls = record { operands = os; attributes = a } ∷ st.calls })
called_is st tokens os a = ap₂ (λ (us : List Operand) (ls : List Operand). record st { tokens = tokens; operands = ls; calls = record { operands = us; attributes = a } ∷ st.calls }) (taken os st.operands) (left_over os st.operands)

-- ---- calls

-- the class of what has such attributes
abbrev pub class_like : Attributes → ℕ
class_like attributes.None = kinds.PLAIN
class_like (attributes.StartAndWidth start width) = kinds.SLICE
class_like (attributes.Width width) = kinds.DYNAMIC
class_like (attributes.NewBitCount width) = kinds.EXTEND
class_like (attributes.Cases cases default) = kinds.SEL
class_like (attributes.Index i) = kinds.TUPLEINDEX
class_like (attributes.Indices o) = kinds.ARRAYAT
class_like (attributes.Value c) = kinds.LITERAL
class_like (attributes.Channel predicate c) = kinds.SITE

-- how many brackets are open at once in attributes
abbrev pub attributes_nesting : Attributes → ℕ
attributes_nesting attributes.None = 0
attributes_nesting (attributes.StartAndWidth start width) = 0
attributes_nesting (attributes.Width width) = 0
attributes_nesting (attributes.NewBitCount width) = 0
attributes_nesting (attributes.Cases cases default) = 1
attributes_nesting (attributes.Index i) = 0
attributes_nesting (attributes.Indices o) = 1
attributes_nesting (attributes.Value c) = constant_nesting c
attributes_nesting (attributes.Channel predicate c) = 0

-- what they name is there
abbrev pub AttributesSaid : List Channel → List (List ℕ) → List Node → List (List ℕ) → Attributes → Type 0
AttributesSaid channels channel_names nodes names attributes.None = Unit {0}
AttributesSaid channels channel_names nodes names (attributes.StartAndWidth start width) = Unit {0}
AttributesSaid channels channel_names nodes names (attributes.Width width) = Unit {0}
AttributesSaid channels channel_names nodes names (attributes.NewBitCount width) = Unit {0}
AttributesSaid channels channel_names nodes names (attributes.Cases cases default) = AreSaid nodes names cases × IsSaidIf nodes names default
AttributesSaid channels channel_names nodes names (attributes.Index i) = Unit {0}
AttributesSaid channels channel_names nodes names (attributes.Indices o) = IsSaid nodes names o
AttributesSaid channels channel_names nodes names (attributes.Value c) = Unit {0}
AttributesSaid channels channel_names nodes names (attributes.Channel predicate c) = IsSaidIf nodes names predicate × IsChannelNamed channels channel_names c

pub call_reads : {P : Point → Type 0} → (text : List ℕ) (channels : List Channel) (nodes : List Node) (o : Op) (id : ℕ) (os : List Operand) (a : Attributes) (rest here : List ℕ) (second d q : ℕ) (st : State) → id < 2 ^ 32 → class_by (attribute_kind_of o) ≡ class_like a → AreSaid nodes st.node_names os → length os < 2 ^ 64 → AttributesSaid channels st.channel_names nodes st.node_names a → attributes_held a ≡ true → attributes_nesting a ≤ q → after_blank here ≡ after_blank (name_of o ++ (40 ∷ call_text channels nodes id os a rest)) → (s : List Due)
    → ((l1 l2 l3 l4 l5 l6 : Lexeme) → Goes text P s (spot (10 ∷ rest) (behind kinds.RPAREN kinds.OWN (op_id o id)) d (suc q) (record st { tokens = l6 ∷ l5 ∷ l4 ∷ l3 ∷ l2 ∷ l1 ∷ st.tokens; calls = record { operands = os; attributes = a } ∷ st.calls })))
    → Goes text P (a_tree nonterminals.CALL ∷ s) (spot here (behind kinds.ASSIGN second (op_id o id)) d (suc q) st)
unfolding ir named_rules
call_reads text channels nodes o id os attributes.None rest here second d q st small class said few there held deep e s k =
    call_by text nodes o id os (attributes_text channels nodes attributes.None ++ id_text id rest) here second d q st kinds.PLAIN productions.CALL__PLAIN _ refl refl refl class said few e s λ l1 l2 here1 last1 second1 e1.
    id_then text o id rest here1 last1 second1 d q _ small e1 _ λ l3 l4 l5 l6.
    complete_as (record st { tokens = l6 ∷ l5 ∷ l4 ∷ l3 ∷ l2 ∷ l1 ∷ st.tokens; calls = record { operands = os; attributes = attributes.None } ∷ st.calls })
    (called_is st (l6 ∷ l5 ∷ l4 ∷ l3 ∷ l2 ∷ l1 ∷ st.tokens) os attributes.None)
    (k l1 l2 l3 l4 l5 l6)
call_reads text channels nodes o id os (attributes.StartAndWidth start width) rest here second d q st small class said few there held deep e s k =
    call_by text nodes o id os (attributes_text channels nodes (attributes.StartAndWidth start width) ++ id_text id rest) here second d q st kinds.SLICE productions.CALL__SLICE _ refl refl refl class said few e s λ l1 l2 here1 last1 second1 e1.
    let parts = and_parts (is_held start) (is_held width) held in
    let first = codes "start=" ++ (decimal start ++ codes ", ") in
    let other = codes "width=" ++ (decimal width ++ codes ", ") in
    start_reads text start (other ++ id_text id rest) here1 _ (suc d) q _ parts.0 (e1 ∙ ap after_blank (append_assoc first other (id_text id rest))) _ λ here2 last2 second2 e2.
    width_reads text width (id_text id rest) here2 _ (suc d) q _ parts.1 e2 _ λ here3 last3 second3 e3.
    id_then text o id rest here3 last3 second3 d q _ small e3 _ λ l3 l4 l5 l6.
    complete_as (record st { tokens = l6 ∷ l5 ∷ l4 ∷ l3 ∷ l2 ∷ l1 ∷ st.tokens; calls = record { operands = os; attributes = (attributes.StartAndWidth start width) } ∷ st.calls })
    (called_is st (l6 ∷ l5 ∷ l4 ∷ l3 ∷ l2 ∷ l1 ∷ st.tokens) os (attributes.StartAndWidth start width))
    (k l1 l2 l3 l4 l5 l6)
call_reads text channels nodes o id os (attributes.Width width) rest here second d q st small class said few there held deep e s k =
    call_by text nodes o id os (attributes_text channels nodes (attributes.Width width) ++ id_text id rest) here second d q st kinds.DYNAMIC productions.CALL__DYNAMIC _ refl refl refl class said few e s λ l1 l2 here1 last1 second1 e1.
    width_reads text width (id_text id rest) here1 _ (suc d) q _ held e1 _ λ here2 last2 second2 e2.
    id_then text o id rest here2 last2 second2 d q _ small e2 _ λ l3 l4 l5 l6.
    complete_as (record st { tokens = l6 ∷ l5 ∷ l4 ∷ l3 ∷ l2 ∷ l1 ∷ st.tokens; calls = record { operands = os; attributes = (attributes.Width width) } ∷ st.calls })
    (called_is st (l6 ∷ l5 ∷ l4 ∷ l3 ∷ l2 ∷ l1 ∷ st.tokens) os (attributes.Width width))
    (k l1 l2 l3 l4 l5 l6)
call_reads text channels nodes o id os (attributes.NewBitCount width) rest here second d q st small class said few there held deep e s k =
    call_by text nodes o id os (attributes_text channels nodes (attributes.NewBitCount width) ++ id_text id rest) here second d q st kinds.EXTEND productions.CALL__EXTEND _ refl refl refl class said few e s λ l1 l2 here1 last1 second1 e1.
    count_reads text width (id_text id rest) here1 _ (suc d) q _ held e1 _ λ here2 last2 second2 e2.
    id_then text o id rest here2 last2 second2 d q _ small e2 _ λ l3 l4 l5 l6.
    complete_as (record st { tokens = l6 ∷ l5 ∷ l4 ∷ l3 ∷ l2 ∷ l1 ∷ st.tokens; calls = record { operands = os; attributes = (attributes.NewBitCount width) } ∷ st.calls })
    (called_is st (l6 ∷ l5 ∷ l4 ∷ l3 ∷ l2 ∷ l1 ∷ st.tokens) os (attributes.NewBitCount width))
    (k l1 l2 l3 l4 l5 l6)
call_reads text channels nodes o id os (attributes.Index i) rest here second d q st small class said few there held deep e s k =
    call_by text nodes o id os (attributes_text channels nodes (attributes.Index i) ++ id_text id rest) here second d q st kinds.TUPLEINDEX productions.CALL__TUPLEINDEX _ refl refl refl class said few e s λ l1 l2 here1 last1 second1 e1.
    index_reads text i (id_text id rest) here1 _ (suc d) q _ held e1 _ λ here2 last2 second2 e2.
    id_then text o id rest here2 last2 second2 d q _ small e2 _ λ l3 l4 l5 l6.
    complete_as (record st { tokens = l6 ∷ l5 ∷ l4 ∷ l3 ∷ l2 ∷ l1 ∷ st.tokens; calls = record { operands = os; attributes = (attributes.Index i) } ∷ st.calls })
    (called_is st (l6 ∷ l5 ∷ l4 ∷ l3 ∷ l2 ∷ l1 ∷ st.tokens) os (attributes.Index i))
    (k l1 l2 l3 l4 l5 l6)
call_reads text channels nodes o id os (attributes.Value v) rest here second d q st small class said few there held deep e s k =
    call_by text nodes o id os (attributes_text channels nodes (attributes.Value v) ++ id_text id rest) here second d q st kinds.LITERAL productions.CALL__LITERAL _ refl refl refl class said few e s λ l1 l2 here1 last1 second1 e1.
    value_reads text v (id_text id rest) here1 _ (suc d) q _ held deep e1 _ λ here2 last2 second2 e2.
    id_then text o id rest here2 last2 second2 d q _ small e2 _ λ l3 l4 l5 l6.
    complete_as (record st { tokens = l6 ∷ l5 ∷ l4 ∷ l3 ∷ l2 ∷ l1 ∷ st.tokens; calls = record { operands = os; attributes = (attributes.Value v) } ∷ st.calls })
    (called_is st (l6 ∷ l5 ∷ l4 ∷ l3 ∷ l2 ∷ l1 ∷ st.tokens) os (attributes.Value v))
    (k l1 l2 l3 l4 l5 l6)
call_reads text channels nodes o id os (attributes.Cases cases default) rest here second d zero st small class said few there held deep e s k = absurd (omega arith)
call_reads text channels nodes o id os (attributes.Cases cases default) rest here second d (suc q) st small class said few there held deep e s k =
    call_by text nodes o id os (attributes_text channels nodes (attributes.Cases cases default) ++ id_text id rest) here second d (suc q) st kinds.SEL productions.CALL__SEL _ refl refl refl class said few e s λ l1 l2 here1 last1 second1 e1.
    some_cases_read text nodes cases (default_text nodes default) (id_text id rest) here1 _ (suc d) q _ there.0 (short_below cases held) e1 _ λ here2 last2 second2 e2.
    default_reads text nodes default (id_text id rest) here2 _ (suc d) (suc q) _ there.1 e2 _ λ here3 last3 second3 e3.
    id_then text o id rest here3 last3 second3 d (suc q) _ small e3 _ λ l3 l4 l5 l6.
    complete_as (record st { tokens = l6 ∷ l5 ∷ l4 ∷ l3 ∷ l2 ∷ l1 ∷ st.tokens; calls = record { operands = os; attributes = (attributes.Cases cases default) } ∷ st.calls })
    (ap₂ (λ (us : List Operand) (ls : List Operand). record st { tokens = l6 ∷ l5 ∷ l4 ∷ l3 ∷ l2 ∷ l1 ∷ st.tokens; operands = drop (length os) ls; calls = record { operands = reverse (take (length os) ls); attributes = attributes.Cases us default } ∷ st.calls }) (taken cases (onto os st.operands)) (left_over cases (onto os st.operands))
    ∙ called_is st (l6 ∷ l5 ∷ l4 ∷ l3 ∷ l2 ∷ l1 ∷ st.tokens) os (attributes.Cases cases default))
    (k l1 l2 l3 l4 l5 l6)
call_reads text channels nodes o id os (attributes.Indices i) rest here second d zero st small class said few there held deep e s k = absurd (omega arith)
call_reads text channels nodes o id os (attributes.Indices i) rest here second d (suc q) st small class said few there held deep e s k =
    call_by text nodes o id os (attributes_text channels nodes (attributes.Indices i) ++ id_text id rest) here second d (suc q) st kinds.ARRAYAT productions.CALL__ARRAYAT _ refl refl refl class said few e s λ l1 l2 here1 last1 second1 e1.
    indices_read text nodes i (id_text id rest) here1 _ (suc d) q _ there e1 _ λ here2 last2 second2 e2.
    id_then text o id rest here2 last2 second2 d (suc q) _ small e2 _ λ l3 l4 l5 l6.
    complete_as (record st { tokens = l6 ∷ l5 ∷ l4 ∷ l3 ∷ l2 ∷ l1 ∷ st.tokens; calls = record { operands = os; attributes = (attributes.Indices i) } ∷ st.calls })
    (called_is st (l6 ∷ l5 ∷ l4 ∷ l3 ∷ l2 ∷ l1 ∷ st.tokens) os (attributes.Indices i))
    (k l1 l2 l3 l4 l5 l6)
call_reads text channels nodes o id os (attributes.Channel predicate place) rest here second d q st small class said few there held deep e s k =
    call_by text nodes o id os (attributes_text channels nodes (attributes.Channel predicate place) ++ id_text id rest) here second d q st kinds.SITE productions.CALL__SITE _ refl refl refl class said few e s λ l1 l2 here1 last1 second1 e1.
    let first = predicate_text nodes predicate in
    let other = codes "channel=" ++ (channel_name (slice_get channels place) ++ codes ", ") in
    predicate_reads text nodes predicate (other ++ id_text id rest) here1 _ (suc d) q _ there.0 (e1 ∙ ap after_blank (append_assoc first other (id_text id rest))) _ λ here2 last2 second2 e2.
    channel_reads text channels place o id (id_text id rest) here2 _ _ (suc d) q _ class there.1 e2 _ λ here3 last3 second3 e3.
    id_then text o id rest here3 last3 second3 d q _ small e3 _ λ l3 l4 l5 l6.
    complete_as (record st { tokens = l6 ∷ l5 ∷ l4 ∷ l3 ∷ l2 ∷ l1 ∷ st.tokens; calls = record { operands = os; attributes = (attributes.Channel predicate place) } ∷ st.calls })
    (called_is st (l6 ∷ l5 ∷ l4 ∷ l3 ∷ l2 ∷ l1 ∷ st.tokens) os (attributes.Channel predicate place))
    (k l1 l2 l3 l4 l5 l6)
