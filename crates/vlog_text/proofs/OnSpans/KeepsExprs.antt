-- Atoms, expressions and what they are made of: the widths that are kept are those of their literals.
use Rattle.std.proofs.Common.{◌≡◌, ◌∙◌, ◌+◌, ℕ, zero, suc, true, false, length, List, [], ◌∷◌, ◌++◌, drop, take, refl, sym, ap, append_assoc, append-nil, arith}
use Rattle.std.specs.Prelude.{◌==◌, ◌&&◌, flat_map, min, reverse, if◌then◌else◌}
use Rattle.std.proofs.lemmas.List.{length-append, length-reverse, map-append, reverse-append, reverse-reverse}
use Rattle.base.specs.declared.grammar.table.Symbol.TheVariants.{Terminal, Nonterminal}
use Rattle.dslx_token.specs.Lexeme.{Lexeme}
use Rattle.vlog_text.specs.declared.token.rules.generated.kind.TheConstants.{ASSIGN, LITERAL}
use Rattle.vlog_text.specs.declared.token.rules.generated.kind.TheConstants as kind
use Rattle.vlog_text.specs.declared.token.rules.generated.nonterminal.TheConstants as nonterminal
use Rattle.vlog_tree.specs.declared.expression.Binary.{Binary}
use Rattle.vlog_tree.specs.declared.expression.Order.{Order}
use Rattle.vlog_tree.specs.declared.expression.Unary.{Unary}
use Rattle.vlog_text.specs.declared.builder.rule.Rule.{Rule}
use Rattle.vlog_text.specs.declared.builder.rule.Rule.TheVariants.{Keep, NameAtom, LiteralAtom, NameExpr, LiteralExpr, SimpleExpr, SignedExpr, NameSimple, LiteralSimple, UnaryOf, ConcatOf, More, Start, BinaryTail, NoTail, ChoiceTail, SliceTail, OrderTail, ShiftTail, UnaryIs, BinaryIs, OrderedBinary, OrderIs}
use Rattle.vlog_text.specs.Builder.Parts.{literal_of, most}
use Rattle.vlog_text.specs.Parser.Spans.{NameToken, literal_ends, literal_widths, literals_in}
use Rattle.vlog_text.proofs.OnSpans.Effects.{Keeps, Kept, MoreAtoms, RunOf, TokenOf, last_of, onto}
use Rattle.vlog_text.proofs.OnSpans.Effects as sorts
use Rattle.vlog_text.proofs.OnSpans.KeepsItems.{ends_at, endless, endless_name, widths_at}
use Rattle.vlog_text.proofs.OnSpans.KeepsPlain.{is_plain_kind, literals_behind, plain_kept, plain_run}
use Rattle.vlog_text.proofs.OnSpans.Marks.{Marks, mark_rule}
use Rattle.vlog_text.proofs.OnSpans.Widths.{Widths, choice, signed, simple, width_by, width_rule, width_token, with_tail}

-- ---- literals in front of others

literal_first : (l : TokenOf LITERAL) (ls : List Lexeme) → literals_in (l.token ∷ ls) ≡ l.token ∷ literals_in ls
literal_first l ls = ap (λ k. if k == LITERAL then l.token ∷ literals_in ls else literals_in ls) l.is

-- an operator in front of an atom
behind_operator : (x : sorts.Operator) (ls : List Lexeme) → literals_in ls ≡ literals_in (x.tokens ++ ls)
behind_operator x ls = sym (literals_behind x.tokens ls ∙ ap (λ ms. ms ++ literals_in ls) x.none)

-- ---- atoms

pub name_atom : Keeps NameAtom nonterminal.ATOM (Nonterminal nonterminal.NAME ∷ [])
name_atom (n, _) _ = record {
  part = n.token ∷ [];
  are = refl;
  does = λ m. ap (λ es. record m { last = n.token.span; ends = es }) (sym (append-nil m.ends)) ∙ ap (λ ls. record m { last = n.token.span; ends = m.ends ++ ends_at ls }) (sym (endless_name n []));
  puts = λ fits w. ap (λ ls. record w { atoms = widths_at ls ∷ w.atoms }) (sym (endless_name n []));
}

pub literal_atom : Keeps LiteralAtom nonterminal.ATOM (Terminal LITERAL ∷ [])
literal_atom (l, _) _ =
    plain_kept sorts.atom LiteralAtom (Terminal LITERAL ∷ []) refl refl (λ m. refl) (l, tt) (l.token ∷ []) refl
    (λ w. ap (λ ls. record w { atoms = widths_at ls ∷ w.atoms }) (sym (literal_first l [])))

-- ---- expressions

-- the marks of a name, and what stands behind it
name_in_front : (n : NameToken) (behind : List Lexeme) (m : Marks) → record m { last = last_of behind n.token.span; ends = m.ends ++ literal_ends behind } ≡ record m { last = last_of behind n.token.span; ends = m.ends ++ literal_ends (n.token ∷ behind) }
name_in_front n behind m = ap (λ ls. record m { last = last_of behind n.token.span; ends = m.ends ++ ends_at ls }) (sym (endless_name n behind))

pub name_expr : Keeps NameExpr nonterminal.EXPR (Nonterminal nonterminal.NAME ∷ Nonterminal nonterminal.NAME_WHOLE ∷ [])
name_expr (n, (x, _)) _ = record {
  part = n.token ∷ x.tokens;
  are = ap (λ ls. n.token ∷ ls) (sym (append-nil x.tokens));
  does = name_in_front n x.tokens;
  puts = λ fits w. ap (λ ws. record w { exprs = ws ∷ w.exprs }) (x.all [] (literal_widths x.tokens) ∙ ap widths_at (sym (endless_name n x.tokens)));
}

pub literal_expr : Keeps LiteralExpr nonterminal.EXPR (Terminal LITERAL ∷ Nonterminal nonterminal.LITERAL_WHOLE ∷ [])
literal_expr (l, (x, _)) _ =
    plain_kept sorts.expr LiteralExpr (Terminal LITERAL ∷ Nonterminal nonterminal.LITERAL_WHOLE ∷ []) refl refl (λ m. refl) (l, (x, tt)) (l.token ∷ x.tokens)
    (ap (λ ls. l.token ∷ ls) (sym (append-nil x.tokens)))
    (λ w.
    ap (λ ws. record w { exprs = ws ∷ w.exprs }) (x.all ((literal_of l.token.bytes).width ∷ []) (literal_widths x.tokens) ∙ ap widths_at (sym (literal_first l x.tokens))))

pub simple_expr : Keeps SimpleExpr nonterminal.EXPR (Nonterminal nonterminal.OTHER ∷ [])
simple_expr (x, _) _ = plain_kept sorts.expr SimpleExpr (Nonterminal nonterminal.OTHER ∷ []) refl refl (λ m. refl) (x, tt) x (sym (append-nil x)) (λ w. refl)

pub signed_expr : Keeps SignedExpr nonterminal.EXPR (Terminal kind.SIGNED ∷ Terminal kind.LPAREN ∷ Nonterminal nonterminal.NAME ∷ Terminal kind.RPAREN ∷ Nonterminal nonterminal.SIGNED_END ∷ [])
signed_expr (word, (bracket, (n, (close, (behind, _))))) _ =
    let same : literals_in behind ≡ literals_in (word.token ∷ bracket.token ∷ n.token ∷ close.token ∷ behind) =
    sym (endless word (bracket.token ∷ n.token ∷ close.token ∷ behind) refl ∙ (endless bracket (n.token ∷ close.token ∷ behind) refl ∙ (endless_name n (close.token ∷ behind) ∙ endless close behind refl))) in
    record {
      part = word.token ∷ bracket.token ∷ n.token ∷ close.token ∷ behind;
      are = ap (λ ls. word.token ∷ bracket.token ∷ n.token ∷ close.token ∷ ls) (sym (append-nil behind));
      does = λ m. ap (λ ls. record m { last = last_of behind close.token.span; ends = m.ends ++ ends_at ls }) same;
      puts = λ fits w. ap (λ ls. record w { exprs = widths_at ls ∷ w.exprs }) same;
    }

pub name_simple : Keeps NameSimple nonterminal.SIMPLE (Nonterminal nonterminal.NAME ∷ Nonterminal nonterminal.NAME_END ∷ [])
name_simple (n, (behind, _)) _ = record {
  part = n.token ∷ behind;
  are = ap (λ ls. n.token ∷ ls) (sym (append-nil behind));
  does = name_in_front n behind;
  puts = λ fits w. ap (λ ls. record w { simples = widths_at ls ∷ w.simples }) (sym (endless_name n behind));
}

pub literal_simple : Keeps LiteralSimple nonterminal.SIMPLE (Terminal LITERAL ∷ Nonterminal nonterminal.LITERAL_END ∷ [])
literal_simple (l, (behind, _)) _ =
    plain_kept sorts.simple_expr LiteralSimple (Terminal LITERAL ∷ Nonterminal nonterminal.LITERAL_END ∷ []) refl refl (λ m. refl) (l, (behind, tt)) (l.token ∷ behind)
    (ap (λ ls. l.token ∷ ls) (sym (append-nil behind))) (λ w. ap (λ ls. record w { simples = widths_at ls ∷ w.simples }) (sym (literal_first l behind)))

pub other_simple : Keeps Keep nonterminal.SIMPLE (Nonterminal nonterminal.OTHER ∷ [])
other_simple (x, _) _ = plain_kept sorts.simple_expr Keep (Nonterminal nonterminal.OTHER ∷ []) refl refl (λ m. refl) (x, tt) x (sym (append-nil x)) (λ w. refl)

pub unary_of : Keeps UnaryOf nonterminal.OTHER (Nonterminal nonterminal.UNARY ∷ Nonterminal nonterminal.ATOM ∷ [])
unary_of (x, (atom, _)) _ =
    plain_kept sorts.simple_expr UnaryOf (Nonterminal nonterminal.UNARY ∷ Nonterminal nonterminal.ATOM ∷ []) refl refl (λ m. refl) (x, (atom, tt)) (x.tokens ++ atom)
    (ap (λ ls. x.tokens ++ ls) (sym (append-nil atom))) (λ w. ap (λ ls. record w { simples = widths_at ls ∷ w.simples }) (behind_operator x atom))

-- ---- lists in braces

onto_is : (xs stack : List (List ℕ)) → onto xs stack ≡ reverse xs ++ stack
onto_is [] stack = refl
onto_is (x ∷ xs) stack = onto_is xs (x ∷ stack) ∙ (sym (append_assoc (reverse xs) (x ∷ []) stack) ∙ ap (λ ys. ys ++ stack) (sym (reverse-append (x ∷ []) xs)))

drop_front : (xs stack : List (List ℕ)) (n : ℕ) → n ≡ length xs → drop n (xs ++ stack) ≡ stack
drop_front [] stack zero e = refl
drop_front [] stack (suc n) e = absurd (omega (arith, e))
drop_front (x ∷ xs) stack zero e = absurd (omega (arith, e))
drop_front (x ∷ xs) stack (suc n) e = drop_front xs stack n (omega (arith, e))

take_front : (xs stack : List (List ℕ)) (n : ℕ) → n ≡ length xs → take n (xs ++ stack) ≡ xs
take_front [] stack zero e = refl
take_front [] stack (suc n) e = absurd (omega (arith, e))
take_front (x ∷ xs) stack zero e = absurd (omega (arith, e))
take_front (x ∷ xs) stack (suc n) e = ap (λ ys. x ∷ ys) (take_front xs stack n (omega (arith, e)))

-- the atoms of a list are taken from the stack in their order
list_taken : (xs stack : List (List ℕ)) (n : ℕ) → n ≡ length xs → (drop n (onto xs stack) ≡ stack) × (reverse (take n (onto xs stack)) ≡ xs)
list_taken xs stack n e =
    let size : n ≡ length (reverse xs) = e ∙ sym (length-reverse xs) in (
      ap (drop n) (onto_is xs stack) ∙ drop_front (reverse xs) stack n size,
      ap (λ ys. reverse (take n ys)) (onto_is xs stack) ∙ (ap reverse (take_front (reverse xs) stack n size) ∙ reverse-reverse xs),
    )

zero_counted : 0 ≡ min 0 most
zero_counted = omega arith

pub no_more_atoms : Keeps Start nonterminal.ATOMS_MORE []
no_more_atoms run _ =
    plain_kept sorts.more_atoms Start [] refl refl (λ m. refl) run (record { tokens = []; atoms = []; are = refl; fewer = omega arith }) refl
    (λ w. ap (λ n. record w { counts = n ∷ w.counts }) zero_counted)

pub more_atoms : Keeps More nonterminal.ATOMS_MORE (Terminal kind.COMMA ∷ Nonterminal nonterminal.ATOM ∷ Nonterminal nonterminal.ATOMS_MORE ∷ [])
more_atoms (comma, (atom, (x, _))) _ =
    let fewer = x.fewer in
    let long = length-append atom x.tokens in
    let one_more : min (min (length x.atoms) most + 1) most ≡ min (length (literal_widths atom ∷ x.atoms)) most = omega arith in
    plain_kept sorts.more_atoms More (Terminal kind.COMMA ∷ Nonterminal nonterminal.ATOM ∷ Nonterminal nonterminal.ATOMS_MORE ∷ []) refl refl (λ m. refl) (comma, (atom, (x, tt)))
    (record {
      tokens = comma.token ∷ (atom ++ x.tokens);
      atoms = literal_widths atom ∷ x.atoms;
      are =
          ap (λ ws. literal_widths atom ++ ws) x.are
          ∙ sym
          (ap widths_at (endless comma (atom ++ x.tokens) refl ∙ literals_behind atom x.tokens) ∙ map-append (λ (l : Lexeme). (literal_of l.bytes).width) (literals_in atom) (literals_in x.tokens));
      fewer = omega (arith, fewer, long);
    })
    (ap (λ ls. comma.token ∷ (atom ++ ls)) (sym (append-nil x.tokens)))
    (λ w. ap (λ n. record w { atoms = onto x.atoms (literal_widths atom ∷ w.atoms); counts = n ∷ w.counts }) one_more)

concat_literals : (opening : TokenOf kind.LBRACE) (atom : List Lexeme) (x : MoreAtoms) (closing : TokenOf kind.RBRACE)
    → literal_widths atom ++ literal_widths x.tokens ≡ literal_widths (opening.token ∷ (atom ++ (x.tokens ++ closing.token ∷ [])))
concat_literals opening atom x closing =
    let same : literals_in (opening.token ∷ (atom ++ (x.tokens ++ closing.token ∷ []))) ≡ literals_in atom ++ literals_in x.tokens =
    endless opening (atom ++ (x.tokens ++ closing.token ∷ [])) refl
    ∙ (literals_behind atom (x.tokens ++ closing.token ∷ [])
    ∙ ap (λ ls. literals_in atom ++ ls) (literals_behind x.tokens (closing.token ∷ []) ∙ (ap (λ ls. literals_in x.tokens ++ ls) (endless closing [] refl) ∙ append-nil (literals_in x.tokens)))) in
    sym (ap widths_at same ∙ map-append (λ (l : Lexeme). (literal_of l.bytes).width) (literals_in atom) (literals_in x.tokens))

pub concat_of : Keeps ConcatOf nonterminal.OTHER (Terminal kind.LBRACE ∷ Nonterminal nonterminal.ATOM ∷ Nonterminal nonterminal.ATOMS_MORE ∷ Terminal kind.RBRACE ∷ [])
concat_of (opening, (atom, (x, (closing, _)))) _ =
    let own = opening.token ∷ (atom ++ (x.tokens ++ closing.token ∷ [])) in
    let body = Terminal kind.LBRACE ∷ Nonterminal nonterminal.ATOM ∷ Nonterminal nonterminal.ATOMS_MORE ∷ Terminal kind.RBRACE ∷ [] in
    let all = literal_widths atom ∷ x.atoms in
    record {
      part = own;
      are = refl;
      does = λ m. plain_run body refl (opening, (atom, (x, (closing, tt)))) m;
      puts = λ fits w.
          let few = x.fewer in
          let long = length-append atom (x.tokens ++ closing.token ∷ []) in
          let longer = length-append x.tokens (closing.token ∷ []) in
          let count : min (min (length x.atoms) most + 1) most ≡ length all = omega (arith, fits, few, long, longer) in
          let taken = list_taken all w.atoms (min (min (length x.atoms) most + 1) most) count in
          λ i. record w {
            atoms = taken.0 i;
            simples = (ap (flat_map (λ ws. ws)) taken.1 ∙ (ap (λ ws. literal_widths atom ++ ws) x.are ∙ concat_literals opening atom x closing)) i ∷ w.simples;
          };
    }

-- ---- what stands behind a name or a literal

pub name_choice : Keeps Keep nonterminal.NAME_WHOLE (Nonterminal nonterminal.CONDITION ∷ [])
name_choice (x, _) _ =
    plain_kept sorts.whole_tail Keep (Nonterminal nonterminal.CONDITION ∷ []) refl refl (λ m. refl) (x, tt) (record { tokens = x; kind = choice; all = λ front back. refl }) (sym (append-nil x)) (λ w. refl)

pub name_end : Keeps Keep nonterminal.NAME_WHOLE (Nonterminal nonterminal.NAME_END ∷ [])
name_end (x, _) _ =
    plain_kept sorts.whole_tail Keep (Nonterminal nonterminal.NAME_END ∷ []) refl refl (λ m. refl) (x, tt) (record { tokens = x; kind = simple; all = λ front back. refl }) (sym (append-nil x)) (λ w. refl)

pub literal_choice : Keeps Keep nonterminal.LITERAL_WHOLE (Nonterminal nonterminal.CONDITION ∷ [])
literal_choice (x, _) _ =
    plain_kept sorts.whole_tail Keep (Nonterminal nonterminal.CONDITION ∷ []) refl refl (λ m. refl) (x, tt) (record { tokens = x; kind = choice; all = λ front back. refl }) (sym (append-nil x)) (λ w. refl)

pub literal_end : Keeps Keep nonterminal.LITERAL_WHOLE (Nonterminal nonterminal.LITERAL_END ∷ [])
literal_end (x, _) _ =
    plain_kept sorts.whole_tail Keep (Nonterminal nonterminal.LITERAL_END ∷ []) refl refl (λ m. refl) (x, tt) (record { tokens = x; kind = simple; all = λ front back. refl }) (sym (append-nil x)) (λ w. refl)

pub name_slice : Keeps Keep nonterminal.NAME_END (Nonterminal nonterminal.SLICE ∷ [])
name_slice (x, _) _ = plain_kept sorts.end_tail Keep (Nonterminal nonterminal.SLICE ∷ []) refl refl (λ m. refl) (x, tt) x (sym (append-nil x)) (λ w. refl)

pub name_as_literal : Keeps Keep nonterminal.NAME_END (Nonterminal nonterminal.LITERAL_END ∷ [])
name_as_literal (x, _) _ = plain_kept sorts.end_tail Keep (Nonterminal nonterminal.LITERAL_END ∷ []) refl refl (λ m. refl) (x, tt) x (sym (append-nil x)) (λ w. refl)

pub binary_tail : Keeps BinaryTail nonterminal.LITERAL_END (Nonterminal nonterminal.BINARY ∷ Nonterminal nonterminal.ATOM ∷ [])
binary_tail (x, (atom, _)) _ =
    plain_kept sorts.end_tail BinaryTail (Nonterminal nonterminal.BINARY ∷ Nonterminal nonterminal.ATOM ∷ []) refl refl (λ m. refl) (x, (atom, tt)) (x.tokens ++ atom)
    (ap (λ ls. x.tokens ++ ls) (sym (append-nil atom))) (λ w. ap (λ ls. with_tail simple (widths_at ls) w) (behind_operator x atom))

pub no_tail : Keeps NoTail nonterminal.LITERAL_END []
no_tail run _ = plain_kept sorts.end_tail NoTail [] refl refl (λ m. refl) run [] refl (λ w. refl)

pub choice_tail : Keeps ChoiceTail nonterminal.CONDITION (Terminal kind.QUESTION ∷ Nonterminal nonterminal.SIMPLE ∷ Terminal kind.COLON ∷ Nonterminal nonterminal.SIMPLE ∷ [])
choice_tail (question, (x, (colon, (y, _)))) _ =
    let same : literals_in (question.token ∷ (x ++ colon.token ∷ y)) ≡ literals_in x ++ literals_in y =
    endless question (x ++ colon.token ∷ y) refl ∙ (literals_behind x (colon.token ∷ y) ∙ ap (λ ls. literals_in x ++ ls) (endless colon y refl)) in
    plain_kept sorts.choice_tail ChoiceTail (Terminal kind.QUESTION ∷ Nonterminal nonterminal.SIMPLE ∷ Terminal kind.COLON ∷ Nonterminal nonterminal.SIMPLE ∷ []) refl refl (λ m. refl)
    (question, (x, (colon, (y, tt)))) (question.token ∷ (x ++ colon.token ∷ y)) (ap (λ ls. question.token ∷ (x ++ colon.token ∷ ls)) (sym (append-nil y)))
    (λ w. ap (λ ws. with_tail choice ws w) (sym (ap widths_at same ∙ map-append (λ (l : Lexeme). (literal_of l.bytes).width) (literals_in x) (literals_in y))))

pub slice_tail : Keeps SliceTail nonterminal.SLICE (Terminal kind.LBRACKET ∷ Nonterminal nonterminal.NUMBER ∷ Terminal kind.COLON ∷ Nonterminal nonterminal.NUMBER ∷ Terminal kind.RBRACKET ∷ [])
slice_tail (bracket, (high, (colon, (low, (close, _))))) _ =
    let own = bracket.token ∷ (high.tokens ++ colon.token ∷ (low.tokens ++ close.token ∷ [])) in
    let none : [] ≡ literals_in own =
    sym
    (endless bracket (high.tokens ++ colon.token ∷ (low.tokens ++ close.token ∷ [])) refl
    ∙ (high.literals (colon.token ∷ (low.tokens ++ close.token ∷ [])) ∙ (endless colon (low.tokens ++ close.token ∷ []) refl ∙ (low.literals (close.token ∷ []) ∙ endless close [] refl)))) in
    record {
      part = own;
      are = refl;
      does = λ m. ap (λ es. record m { last = close.token.span; ends = es }) (sym (append-nil m.ends)) ∙ ap (λ ls. record m { last = close.token.span; ends = m.ends ++ ends_at ls }) none;
      puts = λ fits w. ap (λ ls. with_tail simple (widths_at ls) w) none;
    }

pub order_tail : Keeps OrderTail nonterminal.SIGNED_END (Nonterminal nonterminal.COMPARISON ∷ Terminal kind.SIGNED ∷ Terminal kind.LPAREN ∷ Nonterminal nonterminal.NAME ∷ Terminal kind.RPAREN ∷ [])
order_tail (sign, (word, (bracket, (n, (close, _))))) _ =
    let rest = word.token ∷ bracket.token ∷ n.token ∷ close.token ∷ [] in
    let none : literals_in rest ≡ [] =
    endless word (bracket.token ∷ n.token ∷ close.token ∷ []) refl ∙ (endless bracket (n.token ∷ close.token ∷ []) refl ∙ (endless_name n (close.token ∷ []) ∙ endless close [] refl)) in
    record {
      part = sign.tokens ++ rest;
      are = refl;
      does = λ m.
          ap (λ ls. record m { last = close.token.span; ends = m.ends ++ ends_at ls })
          (sym (literals_behind sign.tokens rest ∙ (ap (λ ls. literals_in sign.tokens ++ ls) none ∙ append-nil (literals_in sign.tokens))));
      puts = λ fits w. ap (λ ls. with_tail signed (widths_at ls) w) (sym none ∙ behind_operator sign rest);
    }

pub shift_tail : Keeps ShiftTail nonterminal.SIGNED_END (Terminal kind.ASHR ∷ Nonterminal nonterminal.ATOM ∷ [])
shift_tail (sign, (atom, _)) _ =
    plain_kept sorts.signed_tail ShiftTail (Terminal kind.ASHR ∷ Nonterminal nonterminal.ATOM ∷ []) refl refl (λ m. refl) (sign, (atom, tt)) (sign.token ∷ atom)
    (ap (λ ls. sign.token ∷ ls) (sym (append-nil atom))) (λ w. ap (λ ls. with_tail signed (widths_at ls) w) (sym (endless sign atom refl)))

-- ---- operators

sign_kept : (rule : Rule) (k : ℕ) → (k == LITERAL) ≡ false → is_plain_kind k ≡ true → ((m : Marks) → mark_rule rule m ≡ m) → ((w : Widths) → width_rule rule w ≡ w)
    → (run : RunOf (Terminal k ∷ [])) → Kept sorts.operator rule (Terminal k ∷ []) run
sign_kept rule k isnt plain inert idle run =
    let l = run.0 in
    plain_kept sorts.operator rule (Terminal k ∷ []) refl (ap (λ b. b && true) plain) inert run (record { tokens = l.token ∷ []; none = endless l [] isnt }) refl
    (λ w. idle (width_token k l.token w) ∙ ap (λ b. width_by b l.token w) isnt)

pub unary_is : (u : Unary) (k : ℕ) → (k == LITERAL) ≡ false → is_plain_kind k ≡ true → Keeps (UnaryIs u) nonterminal.UNARY (Terminal k ∷ [])
unary_is u k isnt plain run _ = sign_kept (UnaryIs u) k isnt plain (λ m. refl) (λ w. refl) run

pub binary_is : (b : Binary) (k : ℕ) → (k == LITERAL) ≡ false → is_plain_kind k ≡ true → Keeps (BinaryIs b) nonterminal.BINARY (Terminal k ∷ [])
binary_is b k isnt plain run _ = sign_kept (BinaryIs b) k isnt plain (λ m. refl) (λ w. refl) run

pub order_is : (o : Order) (k : ℕ) → (k == LITERAL) ≡ false → is_plain_kind k ≡ true → Keeps (OrderIs o) nonterminal.COMPARISON (Terminal k ∷ [])
order_is o k isnt plain run _ = sign_kept (OrderIs o) k isnt plain (λ m. refl) (λ w. refl) run

pub ordered_binary : Keeps OrderedBinary nonterminal.BINARY (Nonterminal nonterminal.COMPARISON ∷ [])
ordered_binary (x, _) _ = plain_kept sorts.operator OrderedBinary (Nonterminal nonterminal.COMPARISON ∷ []) refl refl (λ m. refl) (x, tt) x (sym (append-nil x.tokens)) (λ w. refl)
