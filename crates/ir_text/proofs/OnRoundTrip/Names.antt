-- Names in printed texts: each word is one.
use Rattle.std.proofs.Common.{◌≡◌, ℕ, suc, length, Bool, true, false, ◌&&◌, ◌||◌, List, [], ◌∷◌, ◌++◌, bytes_eq, refl, sym, ap, subst, ◌∙◌}
use Rattle.std.specs.Prelude.{◌==◌, if◌then◌else◌}
use Rattle.std.proofs.lemmas.Bool.{and_parts, and_right, cond_both, cond-false, cond-true}
use Rattle.base.specs.declared.grammar.table.Symbol.TheVariants.{Terminal, Nonterminal}
use Rattle.base.specs.Grammar.Derivation.{IsRule}
use Rattle.xb_span.specs.declared.nesting.bracket_class.BracketClass.TheVariants.{Plain}
use Rattle.dslx_token.specs.Blank.{after_blank}
use Rattle.dslx_token.specs.Spelling.{Spelling, kind_among}
use Rattle.base.specs.Texts.Words.{begins_word}
use Rattle.ir_builder.specs.declared.token.rules.generated.kind.TheConstants as kinds
use Rattle.ir_builder.specs.declared.token.rules.generated.nonterminal.TheConstants as nonterminals
use Rattle.ir_builder.specs.declared.token.rules.generated.production.TheConstants as productions
use Rattle.ir_builder.specs.Token.Rules.Ir.{ir}
use Rattle.ir_builder.specs.Token.Rules.Rules.{named_rules}
use Rattle.ir_builder.specs.Token.TokenPrefixes.{name_len}
use Rattle.delay_model.specs.Names.{op_named}
use Rattle.ir_builder.specs.Token.Kinds.{Context, class_of, id_part, op_part, ir_plain_kind, ir_word_kind, ir_words, is_op_id, kind_in}
use Rattle.ir_builder.specs.declared.rule.Rule.TheVariants.{Keep, Name}
use Rattle.ir_builder.specs.declared.state.State.{State}
use Rattle.ir_builder.specs.Building.{reduced, rule_of, shifted}
use Rattle.ir_text.specs.Parser.BracketClasses.{role_of}
use Rattle.ir_text.proofs.OnRoundTrip.Writable.{is_one_word}
use Rattle.ir_text.proofs.OnRoundTrip.Walks.{Due, Goes, Point, Turns, a_tree, complete, lexeme_of, stays, token_then}
use Rattle.ir_text.proofs.OnRoundTrip.Words.{ends_words, word_prefix, word_shown}
use Rattle.ir_text.proofs.OnRoundTrip.Steps.{behind, by_rule, complete_as, spot}

-- ---- kinds of names

-- the grammar takes a token of this kind where a name is due
pub data IsAnyName : ℕ → Type 0 where
  bare : {k : ℕ} (number : ℕ) → IsRule ir.rules number nonterminals.ANY_NAME (Terminal k ∷ []) → rule_of number ≡ Name → role_of k ≡ Plain → IsAnyName k
  among : {k : ℕ} (number through head : ℕ) → IsRule ir.rules number nonterminals.ANY_NAME (Nonterminal head ∷ []) → rule_of number ≡ Name → IsRule ir.rules through head (Terminal k ∷ []) → rule_of through ≡ Keep → role_of k ≡ Plain → IsAnyName k

head : {k : ℕ} (through : ℕ) → IsRule ir.rules through nonterminals.HEAD_WORD (Terminal k ∷ []) → rule_of through ≡ Keep → role_of k ≡ Plain → IsAnyName k
unfolding ir named_rules
head through rule keeps role = among productions.ANY_NAME__HEAD_WORD through nonterminals.HEAD_WORD refl refl rule keeps role

attribute : {k : ℕ} (through : ℕ) → IsRule ir.rules through nonterminals.ATTRIBUTE_WORD (Terminal k ∷ []) → rule_of through ≡ Keep → role_of k ≡ Plain → IsAnyName k
unfolding ir named_rules
attribute through rule keeps role = among productions.ANY_NAME__ATTRIBUTE_WORD through nonterminals.ATTRIBUTE_WORD refl refl rule keeps role

plain_name : IsAnyName kinds.NAME
unfolding ir named_rules
plain_name = bare productions.ANY_NAME__NAME refl refl refl

op_id_name : IsAnyName kinds.OPID
unfolding ir named_rules
op_id_name = bare productions.ANY_NAME__OPID refl refl refl

pub site_name : IsAnyName kinds.SITE
unfolding ir named_rules
site_name = bare productions.ANY_NAME__SITE refl refl refl

abbrev EachIsName : List Spelling → Type 0
EachIsName [] = Unit {0}
EachIsName (s ∷ ss) = IsAnyName s.1 × EachIsName ss

words_are_names : EachIsName ir_words
unfolding ir named_rules
words_are_names = (
  head productions.HEAD_WORD__PACKAGE refl refl refl,
  (
    head productions.HEAD_WORD__CHAN refl refl refl,
    (
      head productions.HEAD_WORD__PROC refl refl refl,
      (
        head productions.HEAD_WORD__ST refl refl refl,
        (
          head productions.HEAD_WORD__INIT refl refl refl,
          (
            head productions.HEAD_WORD__NEXT refl refl refl,
            (
              head productions.HEAD_WORD__ID refl refl refl,
              (
                head productions.HEAD_WORD__KIND refl refl refl,
                (
                  head productions.HEAD_WORD__INPUT refl refl refl,
                  (
                    head productions.HEAD_WORD__OUTPUT refl refl refl,
                    (
                      head productions.HEAD_WORD__INNER refl refl refl,
                      (
                        head productions.HEAD_WORD__DEPTH refl refl refl,
                        (
                          head productions.HEAD_WORD__BITS refl refl refl,
                          (
                            head productions.HEAD_WORD__TOKEN refl refl refl,
                            (
                              attribute productions.ATTRIBUTE_WORD__PREDICATE refl refl refl,
                              (
                                attribute productions.ATTRIBUTE_WORD__CHANNEL refl refl refl,
                                (
                                  attribute productions.ATTRIBUTE_WORD__CASES refl refl refl,
                                  (
                                    attribute productions.ATTRIBUTE_WORD__DEFAULT refl refl refl,
                                    (
                                      attribute productions.ATTRIBUTE_WORD__INDICES refl refl refl,
                                      (
                                        attribute productions.ATTRIBUTE_WORD__INDEX refl refl refl,
                                        (
                                          attribute productions.ATTRIBUTE_WORD__START refl refl refl,
                                          (
                                            attribute productions.ATTRIBUTE_WORD__WIDTH refl refl refl,
                                            (
                                              attribute productions.ATTRIBUTE_WORD__COUNT refl refl refl,
                                              (
                                                attribute productions.ATTRIBUTE_WORD__VALUE refl refl refl,
                                                tt,
                                              ),
                                            ),
                                          ),
                                        ),
                                      ),
                                    ),
                                  ),
                                ),
                              ),
                            ),
                          ),
                        ),
                      ),
                    ),
                  ),
                ),
              ),
            ),
          ),
        ),
      ),
    ),
  ),
)

among_names : (ss : List Spelling) → EachIsName ss → (word : List ℕ) (other : ℕ) → IsAnyName other → IsAnyName (kind_among ss word other)
among_names [] each word other is = is
among_names (s ∷ ss) each word other is =
    cond_both (bytes_eq s.0 word) s.1 (kind_among ss word other) IsAnyName (λ same. each.0) (λ differs. among_names ss each.1 word other is)

-- each word is one
pub any_word : (word : List ℕ) → is_one_word word ≡ true → IsAnyName (ir_plain_kind word)
unfolding ir_word_kind
any_word [] h = absurd (cc)
any_word (c ∷ cs) h =
    let parts = and_parts (begins_word c) (name_len (c ∷ cs) == suc (length cs)) h in
    subst IsAnyName (sym (cond-true (begins_word c) (ir_word_kind (c ∷ cs)) _ parts.0))
    (cond_both (is_op_id (c ∷ cs)) kinds.OPID (kind_among ir_words (c ∷ cs) kinds.NAME) IsAnyName (λ op. op_id_name) (λ word. among_names ir_words words_are_names (c ∷ cs) kinds.NAME plain_name))

-- ---- reading them

-- an `OP.ID` here begins a node
abbrev pub begins_nodes : Context → Bool
begins_nodes c = (c.last == kinds.LBRACE) || (c.last == kinds.RPAREN)

-- the node stays
pub node_kept : (c : Context) (kind : ℕ) (word : List ℕ) → begins_nodes c ≡ false → (if (kind == kinds.OPID) && begins_nodes c then word else c.node) ≡ c.node
node_kept c kind word free = cond-false ((kind == kinds.OPID) && begins_nodes c) word c.node (and_right (kind == kinds.OPID) (begins_nodes c) free)

pub name_reads : {P : Point → Type 0} → (text name rest here : List ℕ) (c : Context) (d r : ℕ) (st : State) (kind : ℕ) → IsAnyName kind → is_one_word name ≡ true → ends_words rest ≡ true → after_blank here ≡ after_blank (name ++ rest) → begins_nodes c ≡ false → kind_in c (ir_plain_kind name) name ≡ kind → (s : List Due) → Goes text P s (spot rest (behind kind c.last c.node) d r (record st { names = lexeme_of text name rest kind ∷ st.names })) → Goes text P (a_tree nonterminals.ANY_NAME ∷ s) (spot here c d r st)
name_reads {P} text name rest here c d r st kind (bare number rule names role) one stop e free own s g =
    by_rule number rule
    (token_then name rest d r (e ∙ word_shown name rest one) (word_prefix name rest one stop) own (subst (λ x. Turns x d r d r) (sym role) (stays d r))
    (subst (λ node. Goes text P (complete number ∷ s) (spot rest (behind kind c.last node) d r (shifted (lexeme_of text name rest kind) st))) (sym (node_kept c kind name free))
    (complete_as (record st { names = lexeme_of text name rest kind ∷ st.names }) (ap (λ x. reduced x (shifted (lexeme_of text name rest kind) st)) names) g)))
name_reads {P} text name rest here c d r st kind (among number through head rule names inner keeps role) one stop e free own s g =
    by_rule number rule
    (by_rule through inner
    (token_then name rest d r (e ∙ word_shown name rest one) (word_prefix name rest one stop) own (subst (λ x. Turns x d r d r) (sym role) (stays d r))
    (subst (λ node. Goes text P (complete through ∷ complete number ∷ s) (spot rest (behind kind c.last node) d r (shifted (lexeme_of text name rest kind) st))) (sym (node_kept c kind name free))
    (complete_as (shifted (lexeme_of text name rest kind) st) (ap (λ x. reduced x (shifted (lexeme_of text name rest kind) st)) keeps)
    (complete_as (record st { names = lexeme_of text name rest kind ∷ st.names }) (ap (λ x. reduced x (shifted (lexeme_of text name rest kind) st)) names) g)))))

-- the kind of a word that doesn't stand behind `=` is its own
pub kind_kept : (c : Context) (kind : ℕ) (word : List ℕ) → (c.last == kinds.ASSIGN) ≡ false → kind_in c kind word ≡ kind
kind_kept c kind word h = kept (c.last == kinds.ASSIGN) (kind == kinds.NAME) (bytes_eq word (op_part c.node)) ((kind == kinds.SMALL) || (kind == kinds.LARGE)) ((c.second == kinds.ID) && bytes_eq word (id_part c.node)) kind (class_of (op_named word)) h
  where
    kept : (p x y q z : Bool) (k class : ℕ) → p ≡ false → (if x && (p && y) then class else if q && (p && z) then kinds.OWN else k) ≡ k
    kept true x y q z k class h = absurd (cc)
    kept false true y true z k class h = refl
    kept false true y false z k class h = refl
    kept false false y true z k class h = refl
    kept false false y false z k class h = refl
