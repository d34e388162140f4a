-- The steps of walks over printed texts: a word with a kind of its own, a mark, a rule, and a tree that is complete.
use Rattle.std.proofs.Common.{◌≡◌, ℕ, suc, true, List, [], ◌∷◌, ◌++◌, codes, Some, refl, sym, ap, subst, ◌∙◌}
use Rattle.base.specs.declared.grammar.table.Symbol.{Symbol}
use Rattle.base.specs.Grammar.Derivation.{IsRule}
use Rattle.xb_span.specs.declared.nesting.bracket_class.BracketClass.{BracketClass}
use Rattle.xb_span.specs.declared.nesting.bracket_class.BracketClass.TheVariants.{Open, Close, Plain}
use Rattle.dslx_token.specs.Blank.{after_blank}
use Rattle.ir_builder.specs.declared.token.rules.generated.kind.TheConstants as kinds
use Rattle.ir_builder.specs.Token.Rules.Ir.{ir}
use Rattle.ir_builder.specs.Token.TokenPrefixes.{token_prefix}
use Rattle.ir_builder.specs.Token.Kinds.{Context, ir_plain_kind, ir_word_kind, kind_in}
use Rattle.ir_builder.specs.declared.state.State.{State}
use Rattle.ir_builder.specs.Building.{reduced, rule_of}
use Rattle.ir_text.specs.Parser.BracketClasses.{role_of}
use Rattle.ir_text.proofs.OnRoundTrip.Writable.{is_one_word}
use Rattle.ir_text.proofs.OnRoundTrip.Walks.{Due, a_token, a_tree, complete, Goes, IsPrefix, Point, Turns, beyond, complete_then, due_of, opens, closes, rule_then, stays, token_then}
use Rattle.ir_text.proofs.OnRoundTrip.Words.{ends_words, word_prefix}

-- ---- where a walk stands

abbrev pub spot : List ℕ → Context → ℕ → ℕ → State → Point
spot rest before depth room state = record { rest = rest; before = before; depth = depth; room = room; state = state }

abbrev pub behind : ℕ → ℕ → List ℕ → Context
behind last second node = record { last = last; second = second; node = node }

-- Behind whatever is due here, the text has a tree of the nonterminal in front of this rest, which makes this state of what was
-- built. What the last two tokens before the rest are is left open.
abbrev pub Reads : List ℕ → (Point → Type 0) → ℕ → Point → List ℕ → State → Type 0
Reads text P head a rest state =
    (s : List Due) → ((here : List ℕ) (last second : ℕ) → after_blank here ≡ after_blank rest → Goes text P s (spot here (behind last second a.before.node) a.depth a.room state)) → Goes text P (a_tree head ∷ s) a

-- ---- rules

pub by_rule : {text : List ℕ} {P : Point → Type 0} {a : Point} {head : ℕ} {body : List Symbol} {s : List Due} (number : ℕ) → IsRule ir.rules number head body → Goes text P (due_of body ++ complete number ∷ s) a → Goes text P (a_tree head ∷ s) a
by_rule number rule g = rule_then (record { rule = rule }) g

-- a tree is complete, and makes this state
pub complete_as : {text : List ℕ} {P : Point → Type 0} {a : Point} {number : ℕ} {s : List Due} (state : State) → reduced (rule_of number) a.state ≡ state → Goes text P s (record a { state = state }) → Goes text P (complete number ∷ s) a
complete_as {text} {P} {a} {number} {s} state e g = complete_then (subst (λ z. Goes text P s (record a { state = z })) (sym e) g)

-- ---- words with a kind of their own

pub record Keyword (word : List ℕ) (kind : ℕ) : Type 0 where
  pub one : is_one_word word ≡ true
  pub plain : ir_plain_kind word ≡ kind
  pub own : (c : Context) → kind_in c kind word ≡ kind
  pub role : role_of kind ≡ Plain

pub keyword_then : {text : List ℕ} {P : Point → Type 0} {a : Point} {s : List Due} {word : List ℕ} {kind : ℕ} → Keyword word kind → (rest : List ℕ) → after_blank a.rest ≡ word ++ rest → ends_words rest ≡ true → Goes text P s (beyond text a word rest kind a.depth a.room) → Goes text P (a_token kind ∷ s) a
keyword_then {text} {P} {a} {s} {word} {kind} k rest e stop g =
    token_then word rest a.depth a.room e (word_prefix word rest k.one stop) (ap (λ x. kind_in a.before x word) k.plain ∙ k.own a.before)
    (subst (λ r. Turns r a.depth a.room a.depth a.room) (sym k.role) (stays a.depth a.room)) g

pub the_package : Keyword (codes "package") kinds.PACKAGE
unfolding ir_word_kind
the_package = record { one = refl; plain = refl; own = λ c. refl; role = refl }

pub the_chan : Keyword (codes "chan") kinds.CHAN
unfolding ir_word_kind
the_chan = record { one = refl; plain = refl; own = λ c. refl; role = refl }

pub the_proc : Keyword (codes "proc") kinds.PROC
unfolding ir_word_kind
the_proc = record { one = refl; plain = refl; own = λ c. refl; role = refl }

pub the_st : Keyword (codes "st") kinds.ST
unfolding ir_word_kind
the_st = record { one = refl; plain = refl; own = λ c. refl; role = refl }

pub the_init : Keyword (codes "init") kinds.INIT
unfolding ir_word_kind
the_init = record { one = refl; plain = refl; own = λ c. refl; role = refl }

pub the_next : Keyword (codes "next") kinds.NEXT
unfolding ir_word_kind
the_next = record { one = refl; plain = refl; own = λ c. refl; role = refl }

pub the_id : Keyword (codes "id") kinds.ID
unfolding ir_word_kind
the_id = record { one = refl; plain = refl; own = λ c. refl; role = refl }

pub the_kind : Keyword (codes "kind") kinds.KIND
unfolding ir_word_kind
the_kind = record { one = refl; plain = refl; own = λ c. refl; role = refl }

pub the_input : Keyword (codes "input") kinds.INPUT
unfolding ir_word_kind
the_input = record { one = refl; plain = refl; own = λ c. refl; role = refl }

pub the_output : Keyword (codes "output") kinds.OUTPUT
unfolding ir_word_kind
the_output = record { one = refl; plain = refl; own = λ c. refl; role = refl }

pub the_inner : Keyword (codes "inner") kinds.INNER
unfolding ir_word_kind
the_inner = record { one = refl; plain = refl; own = λ c. refl; role = refl }

pub the_depth : Keyword (codes "depth") kinds.DEPTH
unfolding ir_word_kind
the_depth = record { one = refl; plain = refl; own = λ c. refl; role = refl }

pub the_bits : Keyword (codes "bits") kinds.BITS
unfolding ir_word_kind
the_bits = record { one = refl; plain = refl; own = λ c. refl; role = refl }

pub the_token : Keyword (codes "token") kinds.TOKEN
unfolding ir_word_kind
the_token = record { one = refl; plain = refl; own = λ c. refl; role = refl }

pub the_predicate : Keyword (codes "predicate") kinds.PREDICATE
unfolding ir_word_kind
the_predicate = record { one = refl; plain = refl; own = λ c. refl; role = refl }

pub the_channel : Keyword (codes "channel") kinds.CHANNEL
unfolding ir_word_kind
the_channel = record { one = refl; plain = refl; own = λ c. refl; role = refl }

pub the_cases : Keyword (codes "cases") kinds.CASES
unfolding ir_word_kind
the_cases = record { one = refl; plain = refl; own = λ c. refl; role = refl }

pub the_default : Keyword (codes "default") kinds.DEFAULT
unfolding ir_word_kind
the_default = record { one = refl; plain = refl; own = λ c. refl; role = refl }

pub the_indices : Keyword (codes "indices") kinds.INDICES
unfolding ir_word_kind
the_indices = record { one = refl; plain = refl; own = λ c. refl; role = refl }

pub the_index : Keyword (codes "index") kinds.INDEX
unfolding ir_word_kind
the_index = record { one = refl; plain = refl; own = λ c. refl; role = refl }

pub the_start : Keyword (codes "start") kinds.START
unfolding ir_word_kind
the_start = record { one = refl; plain = refl; own = λ c. refl; role = refl }

pub the_width : Keyword (codes "width") kinds.WIDTH
unfolding ir_word_kind
the_width = record { one = refl; plain = refl; own = λ c. refl; role = refl }

pub the_value : Keyword (codes "value") kinds.VALUE
unfolding ir_word_kind
the_value = record { one = refl; plain = refl; own = λ c. refl; role = refl }

pub the_new_bit_count : Keyword (codes "new_bit_count") kinds.COUNT
unfolding ir_word_kind
the_new_bit_count = record { one = refl; plain = refl; own = λ c. refl; role = refl }

-- ---- marks

pub record Mark (role : BracketClass) (c kind : ℕ) : Type 0 where
  pub plain : ir_plain_kind (c ∷ []) ≡ kind
  pub own : (x : Context) → kind_in x kind (c ∷ []) ≡ kind
  pub front : (rest : List ℕ) → token_prefix (c ∷ rest) ≡ Some 1
  pub turns : role_of kind ≡ role

mark_prefix : {role : BracketClass} {c kind : ℕ} → Mark role c kind → (rest : List ℕ) → IsPrefix (c ∷ []) rest
mark_prefix m rest = record { some = λ e. cc; front = m.front rest }

mark_kind : {role : BracketClass} {c kind : ℕ} (x : Context) → Mark role c kind → kind_in x (ir_plain_kind (c ∷ [])) (c ∷ []) ≡ kind
mark_kind {c = c} x m = ap (λ k. kind_in x k (c ∷ [])) m.plain ∙ m.own x

pub mark_then : {text : List ℕ} {P : Point → Type 0} {a : Point} {s : List Due} {c kind : ℕ} → Mark Plain c kind → (rest : List ℕ) → after_blank a.rest ≡ c ∷ rest → Goes text P s (beyond text a (c ∷ []) rest kind a.depth a.room) → Goes text P (a_token kind ∷ s) a
mark_then {text} {P} {a} {s} {c} {kind} m rest e g =
    token_then (c ∷ []) rest a.depth a.room e (mark_prefix m rest) (mark_kind a.before m)
    (subst (λ r. Turns r a.depth a.room a.depth a.room) (sym m.turns) (stays a.depth a.room)) g

pub open_then : {text : List ℕ} {P : Point → Type 0} {a : Point} {s : List Due} {c kind : ℕ} → Mark Open c kind → (rest : List ℕ) (room : ℕ) → a.room ≡ suc room → after_blank a.rest ≡ c ∷ rest → Goes text P s (beyond text a (c ∷ []) rest kind (suc a.depth) room) → Goes text P (a_token kind ∷ s) a
open_then {text} {P} {a} {s} {c} {kind} m rest room more e g =
    token_then (c ∷ []) rest (suc a.depth) room e (mark_prefix m rest) (mark_kind a.before m)
    (subst (λ r. Turns r a.depth a.room (suc a.depth) room) (sym m.turns) (subst (λ n. Turns Open a.depth n (suc a.depth) room) (sym more) (opens a.depth room))) g

pub close_then : {text : List ℕ} {P : Point → Type 0} {a : Point} {s : List Due} {c kind : ℕ} → Mark Close c kind → (rest : List ℕ) (depth : ℕ) → a.depth ≡ suc depth → after_blank a.rest ≡ c ∷ rest → Goes text P s (beyond text a (c ∷ []) rest kind depth (suc a.room)) → Goes text P (a_token kind ∷ s) a
close_then {text} {P} {a} {s} {c} {kind} m rest depth more e g =
    token_then (c ∷ []) rest depth (suc a.room) e (mark_prefix m rest) (mark_kind a.before m)
    (subst (λ r. Turns r a.depth a.room depth (suc a.room)) (sym m.turns) (subst (λ n. Turns Close n a.room depth (suc a.room)) (sym more) (closes depth a.room))) g

pub comma : Mark Plain 44 kinds.COMMA
comma = record { plain = refl; own = λ x. refl; front = λ rest. refl; turns = refl }

pub equals : Mark Plain 61 kinds.ASSIGN
equals = record { plain = refl; own = λ x. refl; front = λ rest. refl; turns = refl }

pub colon : Mark Plain 58 kinds.COLON
colon = record { plain = refl; own = λ x. refl; front = λ rest. refl; turns = refl }

pub left_parenthesis : Mark Open 40 kinds.LPAREN
left_parenthesis = record { plain = refl; own = λ x. refl; front = λ rest. refl; turns = refl }

pub right_parenthesis : Mark Close 41 kinds.RPAREN
right_parenthesis = record { plain = refl; own = λ x. refl; front = λ rest. refl; turns = refl }

pub left_bracket : Mark Open 91 kinds.LBRACKET
left_bracket = record { plain = refl; own = λ x. refl; front = λ rest. refl; turns = refl }

pub right_bracket : Mark Close 93 kinds.RBRACKET
right_bracket = record { plain = refl; own = λ x. refl; front = λ rest. refl; turns = refl }

pub left_brace : Mark Open 123 kinds.LBRACE
left_brace = record { plain = refl; own = λ x. refl; front = λ rest. refl; turns = refl }

pub right_brace : Mark Close 125 kinds.RBRACE
right_brace = record { plain = refl; own = λ x. refl; front = λ rest. refl; turns = refl }
