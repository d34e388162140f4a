-- A walk of the grammar along a text: token by token, with all that is built of it, and each tree where it is complete.
use Rattle.std.proofs.Common.{◌≡◌, ◌≢◌, ◌≤◌, ℕ, zero, suc, ◌+◌, false, List, [], ◌∷◌, ◌++◌, take, drop, length, sum, Some, None, refl, sym, ap, subst, ◌∙◌, arith, append_assoc, append-nil}
use Rattle.std.specs.List.{position_from}
use Rattle.std.proofs.lemmas.Bool.{cond-false}
use Rattle.std.proofs.lemmas.Bool.Decides.{nat_tests}
use Rattle.std.proofs.lemmas.List.Sums.{sum_by-cons}
use Rattle.base.specs.declared.grammar.table.Symbol.{Symbol}
use Rattle.base.specs.declared.grammar.table.Symbol.TheVariants.{Terminal, Nonterminal}
use Rattle.base.specs.declared.grammar.bottom_up.Step.{Step}
use Rattle.base.specs.declared.grammar.bottom_up.Step.TheVariants.{Shift, Reduce}
use Rattle.base.specs.Grammar.Derivation.{IsRule}
use Rattle.base.specs.Grammar.Steps.{steps_of}
use Rattle.base.specs.Grammar.Tree.{Forest, Grows, leaves_of, productions_of}
use Rattle.base.specs.Grammar.Tree.Forest.{nothing, token, node}
use Rattle.base.specs.Grammar.Tree.Grows.{empty, leaf, branch}
use Rattle.xb_span.specs.declared.nesting.bracket_class.BracketClass.{BracketClass}
use Rattle.xb_span.specs.declared.nesting.bracket_class.BracketClass.TheVariants.{Open, Close, Plain}
use Rattle.xb_span.specs.Nesting.Nesting.{Around, depth_of, is_past, nestings_from}
use Rattle.dslx_token.specs.Blank.{after_blank}
use Rattle.dslx_token.specs.Lexeme.{Lexeme}
use Rattle.dslx_token.specs.Tokens.{offset_of}
use Rattle.ir_builder.specs.declared.token.rules.generated.kind.TheConstants as kinds
use Rattle.ir_builder.specs.declared.token.rules.generated.nonterminal.TheConstants as nonterminals
use Rattle.ir_builder.specs.Token.Rules.Ir.{ir}
use Rattle.ir_builder.specs.Token.TokenPrefixes.{token_prefix}
use Rattle.ir_builder.specs.Token.Kinds.{Context, context_behind, ir_plain_kind, kind_in, no_context, settled_in}
use Rattle.ir_builder.specs.Token.Tokens.{ir_lexeme_at, IsCutInto}
use Rattle.ir_builder.specs.Token.Tokens.IsCutInto.{ends, goes}
use Rattle.ir_builder.specs.declared.state.State.{State}
use Rattle.ir_builder.specs.Building.{built, spanned_of, reduced, rule_of, shifted}
use Rattle.ir_builder.specs.Empty.{empty as nothing_built}
use Rattle.ir_text.specs.Parser.Reads.{kinds_of, bracket_classes_of}
use Rattle.ir_text.specs.Parser.BracketClasses.{role_of}
use Rattle.ir_text.specs.Parser.Texts.{IsIrTextOf}

-- ---- walks

-- a place of a walk: what is left of the text, the tokens before, the brackets that are open and that still may be opened, and
-- what has been built
pub record Point : Type 0 where
  pub rest : List ℕ
  pub before : Context
  pub depth : ℕ
  pub room : ℕ
  pub state : State

-- what is due next: a token of a kind, a tree of a nonterminal, or that the tree of a rule is complete
pub data Due : Type 0 where
  a_token : ℕ → Due
  a_tree : ℕ → Due
  complete : ℕ → Due

abbrev pub due_of : List Symbol → List Due
due_of [] = []
due_of (Terminal kind ∷ s) = a_token kind ∷ due_of s
due_of (Nonterminal n ∷ s) = a_tree n ∷ due_of s

-- what a token does to the numbers of brackets that are open and that may be opened
pub data Turns : BracketClass → ℕ → ℕ → ℕ → ℕ → Type 0 where
  opens : (depth room : ℕ) → Turns Open depth (suc room) (suc depth) room
  closes : (depth room : ℕ) → Turns Close (suc depth) room depth (suc room)
  stays : (depth room : ℕ) → Turns Plain depth room depth room

-- the word is the token at the front of a text with this rest behind it
pub record IsPrefix (word behind : List ℕ) : Type 0 where
  pub some : word ≢ []
  pub front : token_prefix (word ++ behind) ≡ Some (length word)

-- the number's rule rewrites the nonterminal to the body
pub record HasRule (number head : ℕ) (body : List Symbol) : Type 0 where
  pub rule : IsRule ir.rules number head body

abbrev pub lexeme_of : List ℕ → List ℕ → List ℕ → ℕ → Lexeme
lexeme_of text word behind kind = record (ir_lexeme_at (offset_of text (word ++ behind)) word) { kind = kind }

-- the place behind a token
abbrev pub beyond : List ℕ → Point → List ℕ → List ℕ → ℕ → ℕ → ℕ → Point
beyond text a word behind kind depth room = record {
  rest = behind;
  before = context_behind a.before kind word;
  depth = depth;
  room = room;
  state = shifted (lexeme_of text word behind kind) a.state;
}

abbrev pub completed : ℕ → Point → Point
completed number a = record a { state = reduced (rule_of number) a.state }

-- From a place on the text has what is due, and that leads to a place of which the claim holds.
pub data Goes (text : List ℕ) (P : Point → Type 0) : List Due → Point → Type 0 where
  at_once : {a : Point} → P a → Goes text P [] a
  token_then : {a : Point} {kind : ℕ} {s : List Due} (word behind : List ℕ) (depth room : ℕ) → after_blank a.rest ≡ word ++ behind → IsPrefix word behind → kind_in a.before (ir_plain_kind word) word ≡ kind → Turns (role_of kind) a.depth a.room depth room → Goes text P s (beyond text a word behind kind depth room) → Goes text P (a_token kind ∷ s) a
  rule_then : {a : Point} {number head : ℕ} {body : List Symbol} {s : List Due} → HasRule number head body → Goes text P (due_of body ++ complete number ∷ s) a → Goes text P (a_tree head ∷ s) a
  complete_then : {a : Point} {number : ℕ} {s : List Due} → Goes text P s (completed number a) → Goes text P (complete number ∷ s) a

-- ---- the trees of a walk

-- a tree of a nonterminal
record Tree (head : ℕ) : Type 0 where
  number : ℕ
  body : List Symbol
  below : Forest
  rule : IsRule ir.rules number head body
  grows : Grows ir.rules body below

-- a tree for each that is due
abbrev Trees : List Due → Type 0
Trees [] = Unit {0}
Trees (a_token kind ∷ s) = Trees s
Trees (a_tree head ∷ s) = Tree head × Trees s
Trees (complete number ∷ s) = Trees s

abbrev steps_along : (s : List Due) → Trees s → List Step
steps_along [] u = []
steps_along (a_token kind ∷ s) ts = Shift ∷ steps_along s ts
steps_along (a_tree head ∷ s) ts = steps_of (ts.0).below ++ Reduce (ts.0).number ∷ steps_along s ts.1
steps_along (complete number ∷ s) ts = Reduce number ∷ steps_along s ts

abbrev leaves_along : (s : List Due) → Trees s → List ℕ
leaves_along [] u = []
leaves_along (a_token kind ∷ s) ts = kind ∷ leaves_along s ts
leaves_along (a_tree head ∷ s) ts = leaves_of (ts.0).below ++ leaves_along s ts.1
leaves_along (complete number ∷ s) ts = leaves_along s ts

-- the trees below a rule, side by side, and those behind it
record Gathered (body : List Symbol) (number : ℕ) (s : List Due) (ts : Trees (due_of body ++ complete number ∷ s)) : Type 0 where
  below : Forest
  grows : Grows ir.rules body below
  others : Trees s
  steps : steps_along (due_of body ++ complete number ∷ s) ts ≡ steps_of below ++ Reduce number ∷ steps_along s others
  leaves : leaves_along (due_of body ++ complete number ∷ s) ts ≡ leaves_of below ++ leaves_along s others

gather : (body : List Symbol) (number : ℕ) (s : List Due) (ts : Trees (due_of body ++ complete number ∷ s)) → Gathered body number s ts
gather [] number s ts = record { below = nothing; grows = empty; others = ts; steps = refl; leaves = refl }
gather (Terminal kind ∷ body) number s ts =
    let g = gather body number s ts in
    record {
      below = token kind g.below;
      grows = leaf g.grows;
      others = g.others;
      steps = ap (λ x. Shift ∷ x) g.steps;
      leaves = ap (λ x. kind ∷ x) g.leaves;
    }
gather (Nonterminal head ∷ body) number s ts =
    let g = gather body number s ts.1 in
    let t = ts.0 in
    record {
      below = node t.number t.below g.below;
      grows = branch t.body t.rule t.grows g.grows;
      others = g.others;
      steps = ap (λ x. steps_of t.below ++ Reduce t.number ∷ x) g.steps
          ∙ sym (append_assoc (steps_of t.below) (Reduce t.number ∷ steps_of g.below) (Reduce number ∷ steps_along s g.others));
      leaves = ap (λ x. leaves_of t.below ++ x) g.leaves ∙ sym (append_assoc (leaves_of t.below) (leaves_of g.below) (leaves_along s g.others));
    }

-- ---- nesting

zeros : ℕ → List ℕ
zeros zero = []
zeros (suc n) = 0 ∷ zeros n

abbrev around : ℕ → Around
around depth = record { brackets = zeros depth; outside = 0; heads = 0 }

length_zeros : (n : ℕ) → length (zeros n) ≡ n
unfolding zeros
length_zeros zero = refl
length_zeros (suc n) = ap suc (length_zeros n)

sum_zeros : (n : ℕ) → sum (zeros n) ≡ 0
unfolding zeros
sum_zeros zero = refl
sum_zeros (suc n) = sum_by-cons (λ x. x) 0 (zeros n) ∙ (let none = sum_zeros n in omega arith)

not_past : (n : ℕ) → n ≤ 128 → is_past n ≡ false
not_past n h = grind (arith, nat_tests)

depth_past : (depth room : ℕ) → depth + room ≡ 128 → is_past (depth_of (around depth)) ≡ false
depth_past depth room level =
    let some = length_zeros depth in
    let none = sum_zeros depth in
    not_past (depth_of (around depth)) (omega (arith, some, none, level))

abbrev NonePast : ℕ → List BracketClass → Type 0
NonePast depth bracket_classes = (i : ℕ) → position_from is_past i (nestings_from (around depth) bracket_classes) ≡ None

turned : (role : BracketClass) (depth room later left : ℕ) → Turns role depth room later left → depth + room ≡ 128 → (bracket_classes : List BracketClass) → NonePast later bracket_classes → NonePast depth (role ∷ bracket_classes)
unfolding zeros
turned role depth room later left (opens d r) level bracket_classes none i = cond-false _ (Some i) _ (depth_past d (suc r) level) ∙ none (i + 1)
turned role depth room later left (closes d r) level bracket_classes none i = cond-false _ (Some i) _ (depth_past (suc d) r level) ∙ none (i + 1)
turned role depth room later left (stays d r) level bracket_classes none i = cond-false _ (Some i) _ (depth_past d r level) ∙ none (i + 1)

levelled : (role : BracketClass) (depth room later left : ℕ) → Turns role depth room later left → depth + room ≡ 128 → later + left ≡ 128
levelled role depth room later left (opens d r) level = omega arith
levelled role depth room later left (closes d r) level = omega arith
levelled role depth room later left (stays d r) level = level

-- ---- tokens

take_prefix : (a b : List ℕ) → take (length a) (a ++ b) ≡ a
take_prefix [] b = refl
take_prefix (x ∷ xs) b = ap (λ t. x ∷ t) (take_prefix xs b)

drop_prefix : (a b : List ℕ) → drop (length a) (a ++ b) ≡ b
drop_prefix [] b = refl
drop_prefix (x ∷ xs) b = drop_prefix xs b

none_before : (a b : List ℕ) → a ++ b ≡ [] → a ≡ []
none_before [] b e = refl
none_before (x ∷ xs) b e = absurd (cc)

cut_word : (text rest word behind : List ℕ) (more : List Lexeme) → after_blank rest ≡ word ++ behind → IsPrefix word behind → IsCutInto text behind more → IsCutInto text rest (ir_lexeme_at (offset_of text (word ++ behind)) word ∷ more)
cut_word text rest word behind more e front cut =
    subst (λ w. IsCutInto text rest (ir_lexeme_at (offset_of text (word ++ behind)) w ∷ more)) (take_prefix word behind)
    (subst (λ x. IsCutInto text rest (ir_lexeme_at (offset_of text x) (take (length word) x) ∷ more)) e
    (goes rest (length word) more (λ none. front.some (none_before word behind (sym e ∙ none))) (ap token_prefix e ∙ front.front)
    (subst (λ x. IsCutInto text x more) (sym (ap (drop (length word)) e ∙ drop_prefix word behind)) cut)))

-- ---- a walk is a derivation, and what it builds is what the derivation's steps build

-- where all begins
abbrev pub beginning : List ℕ → Point
beginning text = record { rest = text; before = no_context; depth = 0; room = 128; state = nothing_built }

-- the mark at the text's end
abbrev mark : List ℕ → Lexeme
mark text = ir_lexeme_at (length text) []

-- with the mark behind the walk
record Walked (text : List ℕ) (P : Point → Type 0) (s : List Due) (a : Point) : Type 0 where
  last : Point
  holds : P last
  plain : List Lexeme
  trees : Trees s
  cut : IsCutInto text a.rest plain
  kinds : kinds_of (settled_in a.before plain) ≡ leaves_along s trees ++ kinds_of (settled_in last.before (mark text ∷ []))
  builds : (steps : List Step) → built (steps_along s trees ++ steps) (settled_in a.before plain) a.state ≡ built steps (settled_in last.before (mark text ∷ [])) last.state
  level : a.depth + a.room ≡ 128 → last.depth + last.room ≡ 128
  shallow : a.depth + a.room ≡ 128 → NonePast last.depth (bracket_classes_of (settled_in last.before (mark text ∷ []))) → NonePast a.depth (bracket_classes_of (settled_in a.before plain))

own_walked : (text : List ℕ) (P : Point → Type 0) (s : List Due) (a : Point) (word behind : List ℕ) (depth room : ℕ) → after_blank a.rest ≡ word ++ behind → IsPrefix word behind → Turns (role_of (kind_in a.before (ir_plain_kind word) word)) a.depth a.room depth room → Walked text P s (beyond text a word behind (kind_in a.before (ir_plain_kind word) word) depth room) → Walked text P (a_token (kind_in a.before (ir_plain_kind word) word) ∷ s) a
unfolding built
own_walked text P s a word behind depth room e front turns w =
    let kind = kind_in a.before (ir_plain_kind word) word in
    record {
      last = w.last;
      holds = w.holds;
      plain = ir_lexeme_at (offset_of text (word ++ behind)) word ∷ w.plain;
      trees = w.trees;
      cut = cut_word text a.rest word behind w.plain e front w.cut;
      kinds = ap (λ ks. kind ∷ ks) w.kinds;
      builds = λ steps. w.builds steps;
      level = λ level. w.level (levelled (role_of kind) a.depth a.room depth room turns level);
      shallow = λ level none. turned (role_of kind) a.depth a.room depth room turns level (bracket_classes_of (settled_in (context_behind a.before kind word) w.plain)) (w.shallow (levelled (role_of kind) a.depth a.room depth room turns level) none);
    }

token_walked : (text : List ℕ) (P : Point → Type 0) (s : List Due) (a : Point) (kind : ℕ) (word behind : List ℕ) (depth room : ℕ) → after_blank a.rest ≡ word ++ behind → IsPrefix word behind → kind_in a.before (ir_plain_kind word) word ≡ kind → Turns (role_of kind) a.depth a.room depth room → Walked text P s (beyond text a word behind kind depth room) → Walked text P (a_token kind ∷ s) a
token_walked text P s a kind word behind depth room e front own =
    subst (λ k. Turns (role_of k) a.depth a.room depth room → Walked text P s (beyond text a word behind k depth room) → Walked text P (a_token k ∷ s) a) own
    (own_walked text P s a word behind depth room e front)

rule_walked : (text : List ℕ) (P : Point → Type 0) (s : List Due) (a : Point) (number head : ℕ) (body : List Symbol) → HasRule number head body → Walked text P (due_of body ++ complete number ∷ s) a → Walked text P (a_tree head ∷ s) a
rule_walked text P s a number head body rule w =
    let g = gather body number s w.trees in
    record {
      last = w.last;
      holds = w.holds;
      plain = w.plain;
      trees = (record { number = number; body = body; below = g.below; rule = rule.rule; grows = g.grows }, g.others);
      cut = w.cut;
      kinds = w.kinds ∙ ap (λ ks. ks ++ kinds_of (settled_in (w.last).before (mark text ∷ []))) g.leaves;
      builds = λ steps. ap (λ ss. built (ss ++ steps) (settled_in a.before w.plain) a.state) (sym g.steps) ∙ w.builds steps;
      level = w.level;
      shallow = w.shallow;
    }

complete_walked : (text : List ℕ) (P : Point → Type 0) (s : List Due) (a : Point) (number : ℕ) → Walked text P s (completed number a) → Walked text P (complete number ∷ s) a
unfolding built
complete_walked text P s a number w = record {
  last = w.last;
  holds = w.holds;
  plain = w.plain;
  trees = w.trees;
  cut = w.cut;
  kinds = w.kinds;
  builds = λ steps. w.builds steps;
  level = w.level;
  shallow = w.shallow;
}

ended : (text : List ℕ) (P : Point → Type 0) (a : Point) → ((b : Point) → P b → after_blank b.rest ≡ []) → P a → Walked text P [] a
ended text P a blank h = record {
  last = a;
  holds = h;
  plain = mark text ∷ [];
  trees = tt;
  cut = ends a.rest (blank a h);
  kinds = refl;
  builds = λ steps. refl;
  level = λ level. level;
  shallow = λ level none. none;
}

walked : {text : List ℕ} {P : Point → Type 0} {s : List Due} {a : Point} → ((b : Point) → P b → after_blank b.rest ≡ []) → Goes text P s a → Walked text P s a
walked {text} {P} blank (at_once {a = a} h) = ended text P a blank h
walked {text} {P} blank (token_then {a = a} {kind = kind} {s = s} word behind depth room e front own turns g) =
    token_walked text P s a kind word behind depth room e front own turns (walked blank g)
walked {text} {P} blank (rule_then {a = a} {number = number} {head = head} {body = body} {s = s} rule g) =
    rule_walked text P s a number head body rule (walked blank g)
walked {text} {P} blank (complete_then {a = a} {number = number} {s = s} g) = complete_walked text P s a number (walked blank g)

-- ---- a whole text

end_shallow : (text : List ℕ) (b : Point) → b.depth + b.room ≡ 128 → NonePast b.depth (bracket_classes_of (settled_in b.before (mark text ∷ [])))
end_shallow text b level = turned Plain b.depth b.room b.depth b.room (stays b.depth b.room) level [] (λ i. refl)

-- the text is what was built where the walk ended
pub record IsReadTo (text : List ℕ) (P : Point → Type 0) : Type 0 where
  pub last : Point
  pub holds : P last
  pub is : IsIrTextOf text (spanned_of last.state)

reads_to : (text : List ℕ) (P : Point → Type 0) → (w : Walked text P (a_tree nonterminals.PACKAGE ∷ []) (beginning text)) → IsIrTextOf text (spanned_of (w.last).state)
unfolding built ir zeros
reads_to text P w =
    let t = (w.trees).0 in
    let forest = node t.number t.below (token kinds.END nothing) in
    let tokens = settled_in no_context w.plain in
    record {
      tokens = tokens;
      cut = record { plain = w.plain; cut = w.cut; settled = refl };
      reads = record {
        productions = productions_of forest;
        forest = forest;
        derived = record {
          grows = branch t.body t.rule t.grows (leaf empty);
          productions = refl;
          tokens = ap (λ ks. ks ++ kinds.END ∷ []) (sym (append-nil (leaves_of t.below))) ∙ sym w.kinds;
        };
        spanned_is = sym (ap (λ ss. spanned_of (built ss tokens nothing_built)) (sym (append_assoc (steps_of t.below) (Reduce t.number ∷ []) (Shift ∷ []))) ∙ ap spanned_of (w.builds (Shift ∷ [])));
      };
      shallow = w.shallow refl (end_shallow text w.last (w.level refl)) 0;
    }

-- a walk over the whole text says what the text is
pub walk_reads : (text : List ℕ) (P : Point → Type 0) → ((b : Point) → P b → after_blank b.rest ≡ []) → Goes text P (a_tree nonterminals.PACKAGE ∷ []) (beginning text) → IsReadTo text P
walk_reads text P blank g =
    let w = walked blank g in
    record { last = w.last; holds = w.holds; is = reads_to text P w }
