-- Trees leave what their symbols do.
use Rattle.std.proofs.Common.{◌≡◌, ◌≤◌, ℕ, zero, suc, ◌+◌, List, [], ◌∷◌, ◌++◌, length, Some, refl, ap, subst, ◌∙◌, arith, append_assoc, append-nil}
use Rattle.std.specs.Prelude.{slice_get}
use Rattle.std.proofs.lemmas.List.{length-append}
use Rattle.base.specs.declared.grammar.bottom_up.Step.{Step}
use Rattle.base.specs.declared.grammar.bottom_up.Step.TheVariants.{Reduce}
use Rattle.base.specs.declared.grammar.table.Symbol.{Symbol}
use Rattle.base.specs.declared.grammar.table.Symbol.TheVariants.{Terminal, Nonterminal}
use Rattle.base.specs.Grammar.Derivation.{IsRule, start_of}
use Rattle.base.specs.Grammar.Steps.{steps_of}
use Rattle.base.specs.Grammar.Syntax.{Rule}
use Rattle.base.specs.Grammar.Tree.{Forest, Grows, leaves_of}
use Rattle.base.specs.Grammar.Tree.Forest.{nothing, token, node}
use Rattle.base.specs.Grammar.Tree.Grows.{empty, leaf, branch}
use Rattle.dslx_token.specs.Lexeme.{Lexeme}
use Rattle.ir_builder.specs.Token.Rules.Ir.{ir}
use Rattle.ir_text.specs.Parser.Reads.{kinds_of}
use Rattle.ir_text.specs.Parser.Spans.Lines.{AreTokensOf}
use Rattle.ir_text.proofs.OnSpans.View.{View, shown, viewed}
use Rattle.ir_text.proofs.OnSpans.Parts.{AllKeep, ◌&◌, Cut, Keeps, Makes, Parts, after, final, sort_of}
use Rattle.ir_text.proofs.OnSpans.KeepsNames as keeps_names
use Rattle.ir_text.proofs.OnSpans.KeepsTypes as keeps_types
use Rattle.ir_text.proofs.OnSpans.KeepsProcs as keeps_procs
use Rattle.ir_text.proofs.OnSpans.KeepsOperands as keeps_operands

-- ---- every rule

every_rule : AllKeep 0 ir.rules
every_rule = keeps_names.keep (keeps_types.keep (keeps_procs.keep keeps_operands.keep))

found_first : (q r : Rule) → Some q ≡ Some r → q ≡ r
found_first q r e = cc

keeps_at : (rs : List Rule) (from p number : ℕ) (r : Rule) → AllKeep from rs → from + p ≡ number → slice_get rs p ≡ Some r → Keeps number r
keeps_at [] from p number r keep e found = absurd (none_there p found)
  where
    none_there : (n : ℕ) → slice_get {X = Rule} [] n ≡ Some r → ⊥
    none_there n e = cc
keeps_at (q ∷ rs) from zero number r (keep & keeps) e found =
    let same : from ≡ number = omega (arith, e) in
    subst (λ n. Keeps n r) same (subst (λ x. Keeps from x) (found_first q r found) keep)
keeps_at (q ∷ rs) from (suc p) number r (keep & keeps) e found = keeps_at rs (suc from) p number r keeps (omega (arith, e)) found

-- ---- tokens

-- tokens of two kinds of kinds are two lists of tokens
record Halves (xs ys : List ℕ) (own : List Lexeme) : Type 0 where
  first : List Lexeme
  others : List Lexeme
  cut : Cut own first others
  here : xs ≡ kinds_of first
  there : ys ≡ kinds_of others

halves : (xs ys : List ℕ) (own : List Lexeme) → xs ++ ys ≡ kinds_of own → Halves xs ys own
halves [] ys own e = record { first = []; others = own; cut = record { is = refl }; here = refl; there = e }
halves (x ∷ xs) ys [] e = absurd (cc)
halves (x ∷ xs) ys (l ∷ ls) e =
    let head : x ≡ l.kind = cc in
    let tail : xs ++ ys ≡ kinds_of ls = cc in
    let rest = halves xs ys ls tail in
    record {
      first = l ∷ rest.first;
      others = rest.others;
      cut = record { is = ap (λ (o : List Lexeme). l ∷ o) rest.cut.is };
      here = ap (λ k. k ∷ xs) head ∙ ap (λ ks. l.kind ∷ ks) rest.here;
      there = rest.there;
    }

first_short : {own first others : List Lexeme} (n : ℕ) → Cut own first others → length own ≤ n → length first ≤ n
first_short {first = first} {others = others} n cut h = let a = ap length cut.is in let b = length-append first others in omega (arith, a, b, h)

others_short : {own first others : List Lexeme} (n : ℕ) → Cut own first others → length own ≤ n → length others ≤ n
others_short {first = first} {others = others} n cut h = let a = ap length cut.is in let b = length-append first others in omega (arith, a, b, h)

-- ---- trees

-- the tokens are those of the symbols in turn, and the steps leave what these do
pub record Goes (symbols : List Symbol) (f : Forest) (own : List Lexeme) : Type 0 where
  pub parts : Parts symbols own
  pub leads : (rest : List Lexeme) (steps : List Step) (v : View) → viewed (steps_of f ++ steps) (own ++ rest) v ≡ viewed steps rest (final symbols own parts v)

goes_empty : (own : List Lexeme) → own ≡ [] → Goes [] nothing own
goes_empty own nil = record { parts = nil; leads = λ rest steps v. ap (λ (o : List Lexeme). viewed steps (o ++ rest) v) nil }

goes_leaf : (t : ℕ) (s : List Symbol) (right : Forest) (l : Lexeme) (ls : List Lexeme) → l.kind ≡ t → Goes s right ls → Goes (Terminal t ∷ s) (token t right) (l ∷ ls)
unfolding viewed
goes_leaf t s right l ls kind goes = record { parts = (l, ls, refl, kind, goes.parts); leads = λ rest steps v. goes.leads rest steps (shown l v) }

module _ (p n : ℕ) (b s : List Symbol) (below right : Forest) (own first others : List Lexeme) (cut : Cut own first others) (tree : AreTokensOf (Nonterminal n ∷ []) first) (one : Goes b below first) (other : Goes s right others) (made : Makes p (record { head = n; body = b }) first one.parts) where
  steps_apart : (steps : List Step) → steps_of (node p below right) ++ steps ≡ steps_of below ++ (Reduce p ∷ (steps_of right ++ steps))
  steps_apart steps = append_assoc (steps_of below) (Reduce p ∷ steps_of right) steps

  tokens_apart : (rest : List Lexeme) → own ++ rest ≡ first ++ (others ++ rest)
  tokens_apart rest = ap (λ (o : List Lexeme). o ++ rest) cut.is ∙ append_assoc first others rest

  reduced_then : (rest : List Lexeme) (steps : List Step) (v : View) → viewed (Reduce p ∷ (steps_of right ++ steps)) (others ++ rest) (final b first one.parts v) ≡ viewed (steps_of right ++ steps) (others ++ rest) (after (sort_of n) first made.part v)
  unfolding viewed
  reduced_then rest steps v = ap (λ (w : View). viewed (steps_of right ++ steps) (others ++ rest) w) (made.is v)

  goes_branch : Goes (Nonterminal n ∷ s) (node p below right) own
  goes_branch = record {
    parts = (first, others, cut, tree, made.part, other.parts);
    leads = λ rest steps v.
        ap (λ (x : List Step). viewed x (own ++ rest) v) (steps_apart steps)
        ∙ ap (λ (o : List Lexeme). viewed (steps_of below ++ (Reduce p ∷ (steps_of right ++ steps))) o v) (tokens_apart rest)
        ∙ one.leads (others ++ rest) (Reduce p ∷ (steps_of right ++ steps)) v
        ∙ reduced_then rest steps v
        ∙ other.leads rest steps (after (sort_of n) first made.part v);
  }

tree_of : (p n : ℕ) (b : List Symbol) (below : Forest) (first : List Lexeme) → IsRule ir.rules p n b → Grows ir.rules b below → leaves_of below ≡ kinds_of first → AreTokensOf (Nonterminal n ∷ []) first
tree_of p n b below first rule inner e = record { tree = node p below nothing; grows = branch b rule inner empty; leaves = append-nil (leaves_of below) ∙ e }

nothing_left : (own : List Lexeme) → [] ≡ kinds_of own → own ≡ []
nothing_left [] e = refl
nothing_left (l ∷ ls) e = absurd (cc)

pub go : {symbols : List Symbol} {f : Forest} → Grows ir.rules symbols f → (own : List Lexeme) → leaves_of f ≡ kinds_of own → length own ≤ 18446744073709551615 → Goes symbols f own
go empty own e short = goes_empty own (nothing_left own e)
go (leaf {t = t} {s = s} {f = right} grows) [] e short = absurd (cc)
go (leaf {t = t} {s = s} {f = right} grows) (l ∷ ls) e short =
    let kind : l.kind ≡ t = cc in
    let tail : leaves_of right ≡ kinds_of ls = cc in
    goes_leaf t s right l ls kind (go grows ls tail (omega (arith, short)))
go (branch {p = p} {n = n} b {s = s} {below = below} {right = right} rule inner grows) own e short =
    let at = halves (leaves_of below) (leaves_of right) own e in
    let within = first_short 18446744073709551615 at.cut short in
    let one = go inner at.first at.here within in
    let tree = tree_of p n b below at.first rule inner at.here in
    goes_branch p n b s below right own at.first at.others at.cut tree one
    (go grows at.others at.there (others_short 18446744073709551615 at.cut short))
    (keeps_at ir.rules 0 p p (record { head = n; body = b }) every_rule (omega arith) rule at.first within tree one.parts)

-- all tokens of a text
pub whole : (f : Forest) (ls : List Lexeme) → Grows ir.rules (start_of ir) f → leaves_of f ≡ kinds_of ls → length ls ≤ 18446744073709551615 → Goes (start_of ir) f ls
whole f ls grows e short = go grows ls e short
