-- Trees of the grammar make parts, and what makes parts are trees of the grammar.
use Rattle.std.proofs.Common.{◌≡◌, ◌∙◌, ℕ, zero, suc, List, [], ◌∷◌, ◌++◌, map, ap, sym, refl, subst}
use Rattle.std.specs.Prelude.{Some, slice_get}
use Rattle.base.specs.declared.grammar.table.Symbol.{Symbol}
use Rattle.base.specs.declared.grammar.table.Symbol.TheVariants.{Terminal, Nonterminal}
use Rattle.base.specs.Grammar.Syntax.{Rule}
use Rattle.base.specs.Grammar.Tree.{Forest, token, node, Grows, leaves_of}
use Rattle.dslx_token.specs.Lexeme.{Lexeme}
use Rattle.dslx_parser.specs.Syntax.SymbolParts.{SemanticAction, PartsOf, made_from}
use Rattle.dslx_parser.specs.Syntax.Trees.{Makes, empty, leaf, branch, semantic_actions, rule_of}

abbrev pub kinds_of : List Lexeme → List ℕ
kinds_of ls = map (λ l. l.kind) ls

-- ---- the rule at a place

rule_mapped : (rs : List SemanticAction) (p : ℕ) (r : SemanticAction) → slice_get rs p ≡ Some r → slice_get (map rule_of rs) p ≡ Some (rule_of r)
rule_mapped [] p r found = absurd (none_there p found)
  where
    none_there : (n : ℕ) → slice_get {X = SemanticAction} [] n ≡ Some r → ⊥
    none_there n e = cc
rule_mapped (q ∷ rs) zero r found = ap (λ (x : SemanticAction). Some (rule_of x)) (first_is q r found)
  where
    first_is : (a b : SemanticAction) → Some a ≡ Some b → a ≡ b
    first_is a b e = cc
rule_mapped (q ∷ rs) (suc p) r found = rule_mapped rs p r found

pub record HasRule (rs : List SemanticAction) (p : ℕ) (rule : Rule) : Type 0 where
  pub of : SemanticAction
  pub found : slice_get rs p ≡ Some of
  pub same : rule_of of ≡ rule

rule_found : (rs : List SemanticAction) (p : ℕ) (rule : Rule) → slice_get (map rule_of rs) p ≡ Some rule → HasRule rs p rule
rule_found [] p rule found = absurd (none_there p found)
  where
    none_there : (n : ℕ) → slice_get {X = Rule} [] n ≡ Some rule → ⊥
    none_there n e = cc
rule_found (q ∷ rs) zero rule found = record { of = q; found = refl; same = first_is (rule_of q) rule found }
  where
    first_is : (a b : Rule) → Some a ≡ Some b → a ≡ b
    first_is a b e = cc
rule_found (q ∷ rs) (suc p) rule found =
    let there = rule_found rs p rule found in
    record { of = there.of; found = there.found; same = there.same }

-- ---- what makes parts are trees

kinds_append : (a b : List Lexeme) → kinds_of (a ++ b) ≡ kinds_of a ++ kinds_of b
kinds_append [] b = refl
kinds_append (l ∷ a) b = ap (λ (t : List ℕ). l.kind ∷ t) (kinds_append a b)

pub made_grows : (rules : List Rule) → map rule_of semantic_actions ≡ rules → {symbols : List Symbol} {f : Forest} {ls : List Lexeme} {parts : PartsOf symbols} → Makes symbols f ls parts → Grows rules symbols f
made_grows rules same empty = Grows.empty
made_grows rules same (leaf l makes) = Grows.leaf (made_grows rules same makes)
made_grows rules same (branch {p = p} r inner found makes more) =
    Grows.branch r.body (subst (λ (rs : List Rule). slice_get rs p ≡ Some (rule_of r)) same (rule_mapped semantic_actions p r found)) (made_grows rules same makes) (made_grows rules same more)

pub made_kinds : {symbols : List Symbol} {f : Forest} {ls : List Lexeme} {parts : PartsOf symbols} → Makes symbols f ls parts → leaves_of f ≡ kinds_of ls
made_kinds empty = refl
made_kinds (leaf l makes) = ap (λ (t : List ℕ). l.kind ∷ t) (made_kinds makes)
made_kinds (branch {below = below} {right = right} {own = own} {others = others} r inner found makes more) =
    ap (λ (t : List ℕ). t ++ leaves_of right) (made_kinds makes) ∙ ap (λ (t : List ℕ). kinds_of own ++ t) (made_kinds more) ∙ sym (kinds_append own others)

-- ---- trees make parts

-- tokens whose kinds are two lists, one behind the other
pub record Split (ls : List Lexeme) (a b : List ℕ) : Type 0 where
  pub own : List Lexeme
  pub others : List Lexeme
  pub whole : own ++ others ≡ ls
  pub own_kinds : kinds_of own ≡ a
  pub others_kinds : kinds_of others ≡ b

head_is : (x y : ℕ) (xs ys : List ℕ) → x ∷ xs ≡ y ∷ ys → x ≡ y
head_is x y xs ys e = cc

tail_is : (x y : ℕ) (xs ys : List ℕ) → x ∷ xs ≡ y ∷ ys → xs ≡ ys
tail_is x y xs ys e = cc

no_tokens : (x : ℕ) (xs : List ℕ) → [] ≡ x ∷ xs → ⊥
no_tokens x xs e = cc

some_tokens : (x : ℕ) (xs : List ℕ) → x ∷ xs ≡ [] → ⊥
some_tokens x xs e = cc

split : (ls : List Lexeme) (a b : List ℕ) → kinds_of ls ≡ a ++ b → Split ls a b
split ls [] b e = record { own = []; others = ls; whole = refl; own_kinds = refl; others_kinds = e }
split [] (k ∷ a) b e = absurd (no_tokens k (a ++ b) e)
split (l ∷ ls) (k ∷ a) b e =
    let rest = split ls a b (tail_is l.kind k (kinds_of ls) (a ++ b) e) in
    record {
      own = l ∷ rest.own;
      others = rest.others;
      whole = ap (λ (t : List Lexeme). l ∷ t) rest.whole;
      own_kinds = λ i. head_is l.kind k (kinds_of ls) (a ++ b) e i ∷ rest.own_kinds i;
      others_kinds = rest.others_kinds;
    }

abbrev pub IsMade : List Symbol → Forest → List Lexeme → Type 0
IsMade symbols f ls = (parts : PartsOf symbols) × Makes symbols f ls parts

token_made : {s : List Symbol} {right : Forest} {ls : List Lexeme} (t : ℕ) (l : Lexeme) → l.kind ≡ t → IsMade s right ls → IsMade (Terminal t ∷ s) (token t right) (l ∷ ls)
token_made {s} {right} {ls} t l same made =
    subst (λ (k : ℕ). IsMade (Terminal k ∷ s) (token k right) (l ∷ ls)) same ((l, made.0), leaf l made.1)

node_made : {s : List Symbol} {p n : ℕ} {b : List Symbol} {below right : Forest} {own others ls : List Lexeme} → HasRule semantic_actions p (record { head = n; body = b }) → own ++ others ≡ ls → IsMade b below own → IsMade s right others → IsMade (Nonterminal n ∷ s) (node p below right) ls
node_made {s} {p} {n} {b} {below} {right} {own} {others} {ls} rule whole inner more =
    let inside : IsMade rule.of.body below own = subst (λ (x : Rule). IsMade x.body below own) (sym rule.same) inner in
    let here : IsMade (Nonterminal rule.of.head ∷ s) (node p below right) (own ++ others) =
    ((made_from rule.of.body rule.of.part inside.0, more.0), branch rule.of inside.0 rule.found inside.1 more.1) in
    subst (λ (tokens : List Lexeme). IsMade (Nonterminal n ∷ s) (node p below right) tokens) whole
    (subst (λ (x : Rule). IsMade (Nonterminal x.head ∷ s) (node p below right) (own ++ others)) rule.same here)

pub grown_is_made : (rules : List Rule) → map rule_of semantic_actions ≡ rules → {symbols : List Symbol} {f : Forest} → Grows rules symbols f → (ls : List Lexeme) → kinds_of ls ≡ leaves_of f → IsMade symbols f ls
grown_is_made rules same Grows.empty [] e = (tt, empty)
grown_is_made rules same Grows.empty (l ∷ ls) e = absurd (some_tokens l.kind (kinds_of ls) e)
grown_is_made rules same (Grows.leaf {t = t} {f = f} right) [] e = absurd (no_tokens t (leaves_of f) e)
grown_is_made rules same (Grows.leaf {t = t} {f = f} right) (l ∷ ls) e =
    token_made t l (head_is l.kind t (kinds_of ls) (leaves_of f) e) (grown_is_made rules same right ls (tail_is l.kind t (kinds_of ls) (leaves_of f) e))
grown_is_made rules same (Grows.branch {p = p} {n = n} b {below = below} {right = right} rule inside more) ls e =
    let parts = split ls (leaves_of below) (leaves_of right) e in
    node_made (rule_found semantic_actions p (record { head = n; body = b }) (subst (λ (rs : List Rule). slice_get rs p ≡ Some (record { head = n; body = b })) (sym same) rule))
    parts.whole
    (grown_is_made rules same inside parts.own parts.own_kinds)
    (grown_is_made rules same more parts.others parts.others_kinds)
