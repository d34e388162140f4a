-- What words of a text grow from by the grammar, and what they do to what is being built.
use Rattle.std.proofs.Common.{◌≡◌, ◌∙◌, ℕ, List, [], ◌∷◌, ◌++◌, map, refl, sym, ap, ap₂, subst, append_assoc, append-nil}
use Rattle.std.proofs.lemmas.List.{map-append}
use Rattle.base.specs.declared.grammar.bottom_up.Step.{Step}
use Rattle.base.specs.declared.grammar.bottom_up.Step.TheVariants.{Shift, Reduce}
use Rattle.base.specs.declared.grammar.table.Symbol.{Symbol}
use Rattle.base.specs.declared.grammar.table.Symbol.TheVariants.{Terminal, Nonterminal}
use Rattle.base.specs.Grammar.Derivation.{IsRule}
use Rattle.base.specs.Grammar.Steps.{steps_of}
use Rattle.base.specs.Grammar.Syntax.{Rule as GrammarRule}
use Rattle.base.specs.Grammar.Tree.{Forest, Grows, leaves_of, node, nothing, token}
use Rattle.base.specs.Grammar.Tree.Grows.{branch, empty, leaf}
use Rattle.dslx_token.specs.Lexeme.{Lexeme}
use Rattle.vlog_text.specs.Token.Rules.Verilog.{verilog}
use Rattle.vlog_text.specs.Token.Kinds.{verilog_kind}
use Rattle.vlog_text.specs.Token.Tokens.{verilog_lexeme_at}
use Rattle.vlog_text.specs.Builder.Building.{built, reduced, rule_of, shifted}
use Rattle.vlog_text.specs.declared.builder.rule.Rule.{Rule}
use Rattle.vlog_text.specs.declared.builder.state.State.{State}
use Rattle.vlog_text.proofs.OnRoundTrip.Core.{Core, core, core-reduced, core-shifted, reduced_core, shifted_core}

-- ---- trees side by side

beside : Forest → Forest → Forest
beside nothing g = g
beside (token t right) g = token t (beside right g)
beside (node p below right) g = node p below (beside right g)

grows-beside : (rules : List GrammarRule) (xs ys : List Symbol) (f g : Forest) → Grows rules xs f → Grows rules ys g → Grows rules (xs ++ ys) (beside f g)
unfolding beside
grows-beside rules _ ys _ g empty h = h
grows-beside rules _ ys _ g (leaf {s = s} {f = f} grows) h = leaf (grows-beside rules s ys f g grows h)
grows-beside rules _ ys _ g (branch b {s = s} {right = right} rule inside grows) h = branch b rule inside (grows-beside rules s ys right g grows h)

leaves-beside : (f g : Forest) → leaves_of (beside f g) ≡ leaves_of f ++ leaves_of g
unfolding beside
leaves-beside nothing g = refl
leaves-beside (token t right) g = ap (λ ls. t ∷ ls) (leaves-beside right g)
leaves-beside (node p below right) g = ap (λ ls. leaves_of below ++ ls) (leaves-beside right g) ∙ sym (append_assoc (leaves_of below) (leaves_of right) (leaves_of g))

steps-beside : (f g : Forest) → steps_of (beside f g) ≡ steps_of f ++ steps_of g
unfolding beside
steps-beside nothing g = refl
steps-beside (token t right) g = ap (λ ss. Shift ∷ ss) (steps-beside right g)
steps-beside (node p below right) g = ap (λ ss. steps_of below ++ Reduce p ∷ ss) (steps-beside right g) ∙ sym (append_assoc (steps_of below) (Reduce p ∷ steps_of right) (steps_of g))

-- ---- steps

built-shift : (more : List Step) (l : Lexeme) (ls : List Lexeme) (s : State) → built (Shift ∷ more) (l ∷ ls) s ≡ built more ls (shifted l s)
unfolding built
built-shift more l ls s = refl

built-reduce : (p : ℕ) (more : List Step) (ls : List Lexeme) (s : State) → built (Reduce p ∷ more) ls s ≡ built more ls (reduced (rule_of p) s)
unfolding built
built-reduce p more ls s = refl

-- ---- tokens with these words

abbrev pub AreOf : List Lexeme → List (List ℕ) → Type 0
AreOf [] [] = Unit {0}
AreOf (l ∷ ls) (w ∷ ws) = ((from : ℕ) × (l ≡ verilog_lexeme_at from w)) × AreOf ls ws
AreOf _ _ = ⊥

pub are-append : (ls ms : List Lexeme) (ws vs : List (List ℕ)) → AreOf ls ws → AreOf ms vs → AreOf (ls ++ ms) (ws ++ vs)
are-append [] ms [] vs a b = b
are-append [] ms (w ∷ ws) vs a b = absurd a
are-append (l ∷ ls) ms [] vs a b = absurd a
are-append (l ∷ ls) ms (w ∷ ws) vs a b = (a.0, are-append ls ms ws vs a.1 b)

pub are-kinds : (ls : List Lexeme) (ws : List (List ℕ)) → AreOf ls ws → map (λ (l : Lexeme). l.kind) ls ≡ map verilog_kind ws
are-kinds [] [] a = refl
are-kinds [] (w ∷ ws) a = absurd a
are-kinds (l ∷ ls) [] a = absurd a
are-kinds (l ∷ ls) (w ∷ ws) a = ap₂ (λ k ks. k ∷ ks) (ap (λ (x : Lexeme). x.kind) a.0.1) (are-kinds ls ws a.1)

-- ---- what words say

-- the steps lead from here to where these words are read, and change what is being built so
pub record Made (steps more : List Step) (behind : List (List ℕ)) (ls : List Lexeme) (s : State) (f : Core → Core) : Type 0 where
  pub after : State
  pub rest : List Lexeme
  pub are : AreOf rest behind
  pub built_is : built steps ls s ≡ built more rest after
  pub core_is : core after ≡ f (core s)

-- the symbols grow to these words, which change what is being built so
pub record Says (symbols : List Symbol) (words : List (List ℕ)) (f : Core → Core) : Type 0 where
  pub forest : Forest
  pub grows : Grows verilog.rules symbols forest
  pub leaves : leaves_of forest ≡ map verilog_kind words
  pub makes : (more : List Step) (behind : List (List ℕ)) (ls : List Lexeme) (s : State) → AreOf ls (words ++ behind) → Made (steps_of forest ++ more) more behind ls s f

pub says_nothing : Says [] [] (λ c. c)
says_nothing = record {
  forest = nothing;
  grows = empty;
  leaves = refl;
  makes = λ more behind ls s are. record { after = s; rest = ls; are = are; built_is = refl; core_is = refl };
}

token_made : (w : List ℕ) (more : List Step) (behind : List (List ℕ)) (ls : List Lexeme) (s : State) → AreOf ls (w ∷ behind) → Made (Shift ∷ more) more behind ls s (shifted_core w)
token_made w more behind [] s are = absurd are
token_made w more behind (l ∷ ls) s are = record {
  after = shifted l s;
  rest = ls;
  are = are.1;
  built_is = built-shift more l ls s;
  core_is = ap (λ x. core (shifted x s)) are.0.1 ∙ core-shifted are.0.0 w s;
}

pub says_token : (w : List ℕ) → Says (Terminal (verilog_kind w) ∷ []) (w ∷ []) (shifted_core w)
says_token w = record {
  forest = token (verilog_kind w) nothing;
  grows = leaf empty;
  leaves = refl;
  makes = token_made w;
}

next_made : {xs ys : List Symbol} {ws vs : List (List ℕ)} {f g : Core → Core} (x : Says xs ws f) (y : Says ys vs g) (more : List Step) (behind : List (List ℕ)) (ls : List Lexeme) (s : State)
    → AreOf ls ((ws ++ vs) ++ behind) → Made (steps_of (beside x.forest y.forest) ++ more) more behind ls s (λ c. g (f c))
next_made {xs} {ys} {ws} {vs} {f} {g} x y more behind ls s are =
    let a = x.makes (steps_of y.forest ++ more) (vs ++ behind) ls s (subst (AreOf ls) (append_assoc ws vs behind) are) in
    let b = y.makes more behind a.rest a.after a.are in
    record {
      after = b.after;
      rest = b.rest;
      are = b.are;
      built_is =
          ap (λ steps. built steps ls s) (ap (λ steps. steps ++ more) (steps-beside x.forest y.forest) ∙ append_assoc (steps_of x.forest) (steps_of y.forest) more)
          ∙ a.built_is
          ∙ b.built_is;
      core_is = b.core_is ∙ ap g a.core_is;
    }

pub says_next : {xs ys : List Symbol} {ws vs : List (List ℕ)} {f g : Core → Core} → Says xs ws f → Says ys vs g → Says (xs ++ ys) (ws ++ vs) (λ c. g (f c))
says_next {xs} {ys} {ws} {vs} {f} {g} x y = record {
  forest = beside x.forest y.forest;
  grows = grows-beside verilog.rules xs ys x.forest y.forest x.grows y.grows;
  leaves = leaves-beside x.forest y.forest ∙ ap₂ (λ a b. a ++ b) x.leaves y.leaves ∙ sym (map-append verilog_kind ws vs);
  makes = next_made x y;
}

rule_made : {body : List Symbol} {ws : List (List ℕ)} {f : Core → Core} (p : ℕ) (r : Rule) → rule_of p ≡ r → (x : Says body ws f) (more : List Step) (behind : List (List ℕ)) (ls : List Lexeme) (s : State)
    → AreOf ls (ws ++ behind) → Made (steps_of (node p x.forest nothing) ++ more) more behind ls s (λ c. reduced_core r (f c))
rule_made {body} {ws} {f} p r is x more behind ls s are =
    let a = x.makes (Reduce p ∷ more) behind ls s are in
    record {
      after = reduced r a.after;
      rest = a.rest;
      are = a.are;
      built_is =
          ap (λ steps. built steps ls s) (append_assoc (steps_of x.forest) (Reduce p ∷ []) more)
          ∙ a.built_is
          ∙ built-reduce p more a.rest a.after
          ∙ ap (λ (q : Rule). built more a.rest (reduced q a.after)) is;
      core_is = core-reduced r a.after ∙ ap (reduced_core r) a.core_is;
    }

pub says_rule : {body : List Symbol} {ws : List (List ℕ)} {f : Core → Core} (p n : ℕ) (r : Rule) → IsRule verilog.rules p n body → rule_of p ≡ r → Says body ws f → Says (Nonterminal n ∷ []) ws (λ c. reduced_core r (f c))
says_rule {body} {ws} {f} p n r rule is x = record {
  forest = node p x.forest nothing;
  grows = branch body rule x.grows empty;
  leaves = append-nil (leaves_of x.forest) ∙ x.leaves;
  makes = rule_made p r is x;
}

pub says_is : {xs : List Symbol} {ws : List (List ℕ)} {f g : Core → Core} → Says xs ws f → ((c : Core) → f c ≡ g c) → Says xs ws g
says_is x same = record {
  forest = x.forest;
  grows = x.grows;
  leaves = x.leaves;
  makes = λ more behind ls s are.
      let a = x.makes more behind ls s are in
      record { after = a.after; rest = a.rest; are = a.are; built_is = a.built_is; core_is = a.core_is ∙ same (core s) };
}
