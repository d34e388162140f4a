-- Each phrase of a printed module says what it is made of.
use Rattle.std.proofs.Common.{◌≡◌, ◌+◌, ◌-◌, ◌<◌, ◌≤◌, ◌==◌, ◌||◌, ◌⊎◌, inl, inr, ◌∙◌, ℕ, Bool, true, false, List, [], ◌∷◌, ◌++◌, map, drop, take, length, Some, None, refl, sym, ap, ap₂, subst, append_assoc, append-nil, arith}
use Rattle.std.specs.Prelude.{codes, decimal, min, reverse, if◌then◌else◌}
use Rattle.std.specs.List.{AllByRecursion}
use Rattle.std.proofs.lemmas.Bool.{eqb-true}
use Rattle.std.proofs.lemmas.List.{length-reverse, length-map, reverse-append, reverse-reverse}
use Rattle.base.specs.declared.grammar.table.Symbol.TheVariants.{Terminal, Nonterminal}
use Rattle.vlog_text.specs.declared.token.rules.generated.kind.TheConstants as kind
use Rattle.vlog_text.specs.declared.token.rules.generated.nonterminal.TheConstants as nonterminal
use Rattle.vlog_tree.specs.declared.module.VModule.{VModule}
use Rattle.vlog_tree.specs.declared.module.Port.{Port}
use Rattle.vlog_tree.specs.declared.module.Declaration.{Declaration}
use Rattle.vlog_tree.specs.declared.module.Assignment.{Assignment}
use Rattle.vlog_tree.specs.declared.module.Set.{Set}
use Rattle.vlog_tree.specs.declared.module.Direction.{Direction}
use Rattle.vlog_tree.specs.declared.module.Direction.TheVariants as directions
use Rattle.vlog_tree.specs.declared.module.Storage.{Storage}
use Rattle.vlog_tree.specs.declared.module.Storage.TheVariants as storages
use Rattle.vlog_tree.specs.declared.expression.Atom.{Atom}
use Rattle.vlog_tree.specs.declared.expression.Atom.TheVariants as atom
use Rattle.vlog_tree.specs.declared.expression.Literal.{Literal}
use Rattle.vlog_tree.specs.declared.expression.Binary.{Binary}
use Rattle.vlog_tree.specs.declared.expression.Binary.TheVariants as binary
use Rattle.vlog_tree.specs.declared.expression.Order.{Order}
use Rattle.vlog_tree.specs.declared.expression.Order.TheVariants as order
use Rattle.vlog_tree.specs.declared.expression.Unary.{Unary}
use Rattle.vlog_tree.specs.declared.expression.Unary.TheVariants as unary
use Rattle.vlog_tree.specs.declared.expression.Simple.{Simple}
use Rattle.vlog_tree.specs.declared.expression.Simple.TheVariants as simple
use Rattle.vlog_tree.specs.declared.expression.Expr.{Expr}
use Rattle.vlog_tree.specs.declared.expression.Expr.TheVariants as expr
use Rattle.vlog_tree.specs.Signals.{signals}
use Rattle.vlog_tree.specs.Sound.{IsKnown, IsKnownAtom, IsKnownSimple}
use Rattle.vlog_text.specs.Token.TokenPrefixes.{width_said}
use Rattle.vlog_text.specs.Token.Kinds.{digits_kind, verilog_kind}
use Rattle.vlog_text.specs.Builder.Building.{is_name, is_number}
use Rattle.vlog_text.specs.Builder.Parts.{literal_of, most, name_text}
use Rattle.vlog_text.specs.declared.builder.tail.Tail.TheVariants as tail
use Rattle.vlog_text.specs.Printer.Parts.{atom_text, literal_text, signal_text, unary_text}
use Rattle.vlog_text.proofs.OnRoundTrip.Core.{Core, kept_by, shifted_core}
use Rattle.vlog_text.proofs.OnRoundTrip.Says.{Says, says_is, says_next, says_nothing, says_token}
use Rattle.vlog_text.proofs.OnRoundTrip.Spelling.{drop_prefix, literal-is_literal, number-is_number, take_prefix}
use Rattle.vlog_text.proofs.OnRoundTrip.Words.{AreNamed, IsShort, IsShortExpr, IsWrittenAssignment, IsWrittenDeclaration, IsWrittenPort, IsWrittenSet, always_words, assignment_words, assignments_words, binary_word, choice_words, clock_words, declaration_words, declaration_names, declarations_words, direction_word, expr_words, listed_words, more_ports_words, more_words, order_word, port_names, port_words, range_words, reset_words, said_assignment, said_atom, said_declaration, said_expr, said_number, said_port, said_range, said_set, said_simple, set_words, sets_words, simple_words, slice_words, storage_word}
use Rattle.vlog_text.proofs.OnRoundTrip.Grammar as g

-- ---- names, numbers and literals

either : (a b : Bool) → (a || b) ≡ true → (a ≡ true) ⊎ (b ≡ true)
either true b h = inl refl
either false b h = inr h

name_cases : (k : ℕ) → is_name k ≡ true → (k ≡ kind.NAME) ⊎ ((k ≡ kind.CLK) ⊎ (k ≡ kind.RST))
name_cases k h = first (either (k == kind.NAME) ((k == kind.CLK) || (k == kind.RST)) h)
  where
    second : ((k == kind.CLK) ≡ true) ⊎ ((k == kind.RST) ≡ true) → (k ≡ kind.CLK) ⊎ (k ≡ kind.RST)
    second (inl e) = inl (eqb-true k kind.CLK e)
    second (inr e) = inr (eqb-true k kind.RST e)

    first : ((k == kind.NAME) ≡ true) ⊎ (((k == kind.CLK) || (k == kind.RST)) ≡ true) → (k ≡ kind.NAME) ⊎ ((k ≡ kind.CLK) ⊎ (k ≡ kind.RST))
    first (inl e) = inl (eqb-true k kind.NAME e)
    first (inr e) = inr (second (either (k == kind.CLK) (k == kind.RST) e))

-- a word of this kind
of_kind : (w : List ℕ) (k : ℕ) → verilog_kind w ≡ k → Says (Terminal k ∷ []) (w ∷ []) (shifted_core w)
of_kind w k e = subst (λ n. Says (Terminal n ∷ []) (w ∷ []) (shifted_core w)) e (says_token w)

name_by : (w : List ℕ) → (verilog_kind w ≡ kind.NAME) ⊎ ((verilog_kind w ≡ kind.CLK) ⊎ (verilog_kind w ≡ kind.RST)) → Says (Nonterminal nonterminal.NAME ∷ []) (w ∷ []) (shifted_core w)
name_by w (inl e) = g.by_NAME__NAME (of_kind w kind.NAME e)
name_by w (inr (inl e)) = g.by_NAME__CLK (of_kind w kind.CLK e)
name_by w (inr (inr e)) = g.by_NAME__RST (of_kind w kind.RST e)

pub says_name : (w : List ℕ) → is_name (verilog_kind w) ≡ true → Says (Nonterminal nonterminal.NAME ∷ []) (w ∷ []) (λ c. record c { names = name_text w ∷ c.names })
says_name w h =
    says_is (name_by w (name_cases (verilog_kind w) h))
    (λ c. ap (λ b. kept_by b (verilog_kind w == kind.LITERAL) (is_number (verilog_kind w)) w c) h)

number_cases : (k : ℕ) → is_number k ≡ true → (k ≡ kind.NUMBER) ⊎ (k ≡ kind.ZERO)
number_cases k h = first (either (k == kind.NUMBER) (k == kind.ZERO) h)
  where
    first : ((k == kind.NUMBER) ≡ true) ⊎ ((k == kind.ZERO) ≡ true) → (k ≡ kind.NUMBER) ⊎ (k ≡ kind.ZERO)
    first (inl e) = inl (eqb-true k kind.NUMBER e)
    first (inr e) = inr (eqb-true k kind.ZERO e)

number_by : (w : List ℕ) → (verilog_kind w ≡ kind.NUMBER) ⊎ (verilog_kind w ≡ kind.ZERO) → Says (Nonterminal nonterminal.NUMBER ∷ []) (w ∷ []) (λ c. record c { numbers = min (width_said w) most ∷ c.numbers })
number_by w (inl e) = says_is (g.by_NUMBER__NUMBER (of_kind w kind.NUMBER e)) (λ c. ap (λ k. kept_by (is_name k) (k == kind.LITERAL) (is_number k) w c) e)
number_by w (inr e) = says_is (g.by_NUMBER__ZERO (of_kind w kind.ZERO e)) (λ c. ap (λ k. kept_by (is_name k) (k == kind.LITERAL) (is_number k) w c) e)

says_number : (n : ℕ) → n ≤ 128 → Says (Nonterminal nonterminal.NUMBER ∷ []) (decimal n ∷ []) (λ c. record c { numbers = said_number n ∷ c.numbers })
says_number n h = number_by (decimal n) (number_cases (verilog_kind (decimal n)) (number-is_number n h))

says_literal : (l : Literal) → l.width ≤ 128 → Says (Terminal kind.LITERAL ∷ []) (literal_text l ∷ []) (λ c. record c { literals = literal_of (literal_text l) ∷ c.literals })
says_literal l h =
    let e = literal-is_literal l h in
    says_is (of_kind (literal_text l) kind.LITERAL e) (λ c. ap (λ k. kept_by (is_name k) (k == kind.LITERAL) (is_number k) (literal_text l) c) e)

word_ZERO : Says (Terminal kind.ZERO ∷ []) (codes "0" ∷ []) (λ c. record c { numbers = min (width_said (codes "0")) most ∷ c.numbers })
unfolding digits_kind
word_ZERO = says_is (says_token (codes "0")) (λ c. refl)

word_CLK : Says (Terminal kind.CLK ∷ []) (codes "clk" ∷ []) (λ c. record c { names = name_text (codes "clk") ∷ c.names })
word_CLK = says_is (says_token (codes "clk")) (λ c. refl)

word_RST : Says (Terminal kind.RST ∷ []) (codes "rst" ∷ []) (λ c. record c { names = name_text (codes "rst") ∷ c.names })
word_RST = says_is (says_token (codes "rst")) (λ c. refl)

-- ---- operators

says_comparison : (o : Order) → Says (Nonterminal nonterminal.COMPARISON ∷ []) (order_word o ∷ []) (λ c. record c { orders = o ∷ c.orders })
says_comparison order.Less = g.by_COMPARISON__LT g.word_LT
says_comparison order.LessOrEqual = g.by_COMPARISON__LE g.word_LE
says_comparison order.Greater = g.by_COMPARISON__GT g.word_GT
says_comparison order.GreaterOrEqual = g.by_COMPARISON__GE g.word_GE

says_operator : (o : Binary) → Says (Nonterminal nonterminal.BINARY ∷ []) (binary_word o ∷ []) (λ c. record c { binaries = o ∷ c.binaries })
says_operator binary.Add = g.by_BINARY__PLUS g.word_PLUS
says_operator binary.Subtract = g.by_BINARY__MINUS g.word_MINUS
says_operator binary.Multiply = g.by_BINARY__STAR g.word_STAR
says_operator binary.Divide = g.by_BINARY__SLASH g.word_SLASH
says_operator binary.Remainder = g.by_BINARY__PERCENT g.word_PERCENT
says_operator binary.And = g.by_BINARY__AMP g.word_AMP
says_operator binary.Or = g.by_BINARY__PIPE g.word_PIPE
says_operator binary.Xor = g.by_BINARY__CARET g.word_CARET
says_operator binary.Equal = g.by_BINARY__EQ g.word_EQ
says_operator binary.NotEqual = g.by_BINARY__NE g.word_NE
says_operator (binary.Ordered o) = says_is (g.by_BINARY__COMPARISON (says_comparison o)) (λ c. refl)
says_operator binary.ShiftLeft = g.by_BINARY__SHL g.word_SHL
says_operator binary.ShiftRight = g.by_BINARY__SHR g.word_SHR

says_unary : (o : Unary) → Says (Nonterminal nonterminal.UNARY ∷ []) (unary_text o ∷ []) (λ c. record c { unaries = o ∷ c.unaries })
says_unary unary.Negate = g.by_UNARY__MINUS g.word_MINUS
says_unary unary.Complement = g.by_UNARY__TILDE g.word_TILDE
says_unary unary.AllOnes = g.by_UNARY__AMP g.word_AMP
says_unary unary.SomeOne = g.by_UNARY__PIPE g.word_PIPE
says_unary unary.Parity = g.by_UNARY__CARET g.word_CARET

-- ---- expressions

-- atoms on a stack
abbrev pushed : List Atom → List Atom → List Atom
pushed [] stack = stack
pushed (a ∷ atoms) stack = pushed atoms (a ∷ stack)

abbrev counted : List Atom → ℕ
counted [] = 0
counted (a ∷ atoms) = min (counted atoms + 1) most

pushed_is : (atoms stack : List Atom) → pushed atoms stack ≡ reverse atoms ++ stack
pushed_is [] stack = refl
pushed_is (a ∷ atoms) stack =
    pushed_is atoms (a ∷ stack)
    ∙ sym (append_assoc (reverse atoms) (a ∷ []) stack)
    ∙ ap (λ xs. xs ++ stack) (sym (reverse-append (a ∷ []) atoms))

counted_is : (atoms : List Atom) → length atoms ≤ 128 → counted atoms ≡ length atoms
counted_is [] h = refl
counted_is (a ∷ atoms) h =
    let before : counted atoms ≡ length atoms = counted_is atoms (omega (arith, h)) in
    omega (arith, before, h)

take_prefix_of : (xs ys : List Atom) (k : ℕ) → k ≡ length xs → take k (xs ++ ys) ≡ xs
take_prefix_of xs ys k e = ap (λ n. take n (xs ++ ys)) e ∙ take_prefix xs ys

drop_prefix_of : (xs ys : List Atom) (k : ℕ) → k ≡ length xs → drop k (xs ++ ys) ≡ ys
drop_prefix_of xs ys k e = ap (λ n. drop n (xs ++ ys)) e ∙ drop_prefix xs ys

braced : (atoms : List Atom) (count : ℕ) (c : Core) → count ≡ length atoms
    → ◌≡◌ {A = Core} (record c { atoms = drop count (pushed atoms c.atoms); simples = simple.Concat (reverse (take count (pushed atoms c.atoms))) ∷ c.simples })
    (record c { simples = simple.Concat atoms ∷ c.simples })
braced atoms count c e =
    let size : count ≡ length (reverse atoms) = e ∙ sym (length-reverse atoms) in
    ap₂ {C = Core} (λ rest front. record c { atoms = rest; simples = simple.Concat (reverse front) ∷ c.simples })
    (ap (drop count) (pushed_is atoms c.atoms) ∙ drop_prefix_of (reverse atoms) c.atoms count size)
    (ap (take count) (pushed_is atoms c.atoms) ∙ take_prefix_of (reverse atoms) c.atoms count size)
    ∙ ap (λ xs. record c { simples = simple.Concat xs ∷ c.simples }) (reverse-reverse atoms)

module _ (m : VModule) (named : AreNamed m) where
  says_signal : (s : ℕ) → s < length (signals m) → Says (Nonterminal nonterminal.NAME ∷ []) (signal_text m s ∷ []) (λ c. record c { names = name_text (signal_text m s) ∷ c.names })
  says_signal s h = says_name (signal_text m s) (named s h).1

  says_atom : (a : Atom) → IsKnownAtom (length (signals m)) a → Says (Nonterminal nonterminal.ATOM ∷ []) (atom_text m a ∷ []) (λ c. record c { atoms = said_atom m c.signals a ∷ c.atoms })
  says_atom (atom.Signal s) h = says_is (g.by_ATOM__NAME (says_signal s.0 h)) (λ c. refl)
  says_atom (atom.Literal l) h = says_is (g.by_ATOM__LITERAL (says_literal l h)) (λ c. refl)

  says_alone : Says (Nonterminal nonterminal.LITERAL_END ∷ []) [] (λ c. record c { tails = tail.Alone ∷ c.tails })
  says_alone = says_is (g.by_LITERAL_END__NONE says_nothing) (λ c. refl)

  says_operation : (o : Binary) (b : Atom) → IsKnownAtom (length (signals m)) b
      → Says (Nonterminal nonterminal.LITERAL_END ∷ []) (binary_word o ∷ atom_text m b ∷ []) (λ c. record c { tails = tail.Binary o (said_atom m c.signals b) ∷ c.tails })
  says_operation o b h = says_is (g.by_LITERAL_END__BINARY (says_next (says_operator o) (says_atom b h))) (λ c. refl)

  says_slice : (high low : ℕ) → high ≤ 128 → low ≤ 128 → Says (Nonterminal nonterminal.SLICE ∷ []) (slice_words high low) (λ c. record c { tails = tail.Slice (said_number high) (said_number low) ∷ c.tails })
  says_slice high low h l =
      says_is (g.by_SLICE (says_next g.word_LBRACKET (says_next (says_number high h) (says_next g.word_COLON (says_next (says_number low l) g.word_RBRACKET))))) (λ c. refl)

  says_more : (atoms : List Atom) → AllByRecursion (IsKnownAtom (length (signals m))) atoms
      → Says (Nonterminal nonterminal.ATOMS_MORE ∷ []) (more_words m atoms) (λ c. record c { atoms = pushed (map (said_atom m c.signals) atoms) c.atoms; counts = counted atoms ∷ c.counts })
  says_more [] h = says_is (g.by_ATOMS_MORE__NONE says_nothing) (λ c. refl)
  says_more (a ∷ atoms) h = says_is (g.by_ATOMS_MORE__COMMA (says_next g.word_COMMA (says_next (says_atom a h.0) (says_more atoms h.1)))) (λ c. refl)

  says_concat : (atoms : List Atom) → AllByRecursion (IsKnownAtom (length (signals m))) atoms → 1 ≤ length atoms → length atoms ≤ 128
      → Says (Nonterminal nonterminal.OTHER ∷ []) (codes "{" ∷ (listed_words m atoms ++ codes "}" ∷ [])) (λ c. record c { simples = simple.Concat (map (said_atom m c.signals) atoms) ∷ c.simples })
  says_concat [] h some few = absurd (omega (arith, some))
  says_concat (a ∷ atoms) h some few =
      says_is (g.by_OTHER__LBRACE (says_next g.word_LBRACE (says_next (says_atom a h.0) (says_next (says_more atoms h.1) g.word_RBRACE))))
      (λ c. braced (map (said_atom m c.signals) (a ∷ atoms)) (counted (a ∷ atoms)) c (counted_is (a ∷ atoms) few ∙ sym (length-map (a ∷ atoms) (said_atom m c.signals))))

  says_unary_of : (o : Unary) (a : Atom) → IsKnownAtom (length (signals m)) a
      → Says (Nonterminal nonterminal.OTHER ∷ []) (unary_text o ∷ atom_text m a ∷ []) (λ c. record c { simples = simple.Unary o (said_atom m c.signals a) ∷ c.simples })
  says_unary_of o a h = says_is (g.by_OTHER__UNARY (says_next (says_unary o) (says_atom a h))) (λ c. refl)

  says_simple : (x : Simple) → IsKnownSimple (length (signals m)) x → IsShort x → Says (Nonterminal nonterminal.SIMPLE ∷ []) (simple_words m x) (λ c. record c { simples = said_simple m c.signals x ∷ c.simples })
  says_simple (simple.Atom (atom.Signal s)) h short = says_is (g.by_SIMPLE__NAME (says_next (says_signal s.0 h) (g.by_NAME_END__LITERAL_END says_alone))) (λ c. refl)
  says_simple (simple.Atom (atom.Literal l)) h short = says_is (g.by_SIMPLE__LITERAL (says_next (says_literal l h) says_alone)) (λ c. refl)
  says_simple (simple.Binary o (atom.Signal s) b) h short = says_is (g.by_SIMPLE__NAME (says_next (says_signal s.0 h.0) (g.by_NAME_END__LITERAL_END (says_operation o b h.1)))) (λ c. refl)
  says_simple (simple.Binary o (atom.Literal l) b) h short = says_is (g.by_SIMPLE__LITERAL (says_next (says_literal l h.0) (says_operation o b h.1))) (λ c. refl)
  says_simple (simple.Unary o a) h short = says_is (g.by_SIMPLE__OTHER (says_unary_of o a h)) (λ c. refl)
  says_simple (simple.Slice s high low) h short = says_is (g.by_SIMPLE__NAME (says_next (says_signal s.0 h) (g.by_NAME_END__SLICE (says_slice high low short.0 short.1)))) (λ c. refl)
  says_simple (simple.Concat atoms) h short = says_is (g.by_SIMPLE__OTHER (says_concat atoms h short.0 short.1)) (λ c. refl)

  says_choice : (a b : Simple) → IsKnownSimple (length (signals m)) a → IsKnownSimple (length (signals m)) b → IsShort a → IsShort b
      → Says (Nonterminal nonterminal.CONDITION ∷ []) (choice_words m a b) (λ c. record c { tails = tail.Choice (said_simple m c.signals a) (said_simple m c.signals b) ∷ c.tails })
  says_choice a b h k p q = says_is (g.by_CONDITION (says_next g.word_QUESTION (says_next (says_simple a h p) (says_next g.word_COLON (says_simple b k q))))) (λ c. refl)

  pub says_expr : (x : Expr) → IsKnown (length (signals m)) x → IsShortExpr x → Says (Nonterminal nonterminal.EXPR ∷ []) (expr_words m x) (λ c. record c { exprs = said_expr m c.signals x ∷ c.exprs })
  says_expr (expr.Simple (simple.Atom (atom.Signal s))) h short =
      says_is (g.by_EXPR__NAME (says_next (says_signal s.0 h) (g.by_NAME_WHOLE__NAME_END (g.by_NAME_END__LITERAL_END says_alone)))) (λ c. refl)
  says_expr (expr.Simple (simple.Atom (atom.Literal l))) h short = says_is (g.by_EXPR__LITERAL (says_next (says_literal l h) (g.by_LITERAL_WHOLE__LITERAL_END says_alone))) (λ c. refl)
  says_expr (expr.Simple (simple.Binary o (atom.Signal s) b)) h short =
      says_is (g.by_EXPR__NAME (says_next (says_signal s.0 h.0) (g.by_NAME_WHOLE__NAME_END (g.by_NAME_END__LITERAL_END (says_operation o b h.1))))) (λ c. refl)
  says_expr (expr.Simple (simple.Binary o (atom.Literal l) b)) h short =
      says_is (g.by_EXPR__LITERAL (says_next (says_literal l h.0) (g.by_LITERAL_WHOLE__LITERAL_END (says_operation o b h.1)))) (λ c. refl)
  says_expr (expr.Simple (simple.Unary o a)) h short = says_is (g.by_EXPR__OTHER (says_unary_of o a h)) (λ c. refl)
  says_expr (expr.Simple (simple.Slice s high low)) h short =
      says_is (g.by_EXPR__NAME (says_next (says_signal s.0 h) (g.by_NAME_WHOLE__NAME_END (g.by_NAME_END__SLICE (says_slice high low short.0 short.1))))) (λ c. refl)
  says_expr (expr.Simple (simple.Concat atoms)) h short = says_is (g.by_EXPR__OTHER (says_concat atoms h short.0 short.1)) (λ c. refl)
  says_expr (expr.SignedOrder o a b) h short =
      says_is (g.by_EXPR__SIGNED (says_next g.word_SIGNED (says_next g.word_LPAREN (says_next (says_signal a.0 h.0) (says_next g.word_RPAREN
      (g.by_SIGNED_END__COMPARISON (says_next (says_comparison o) (says_next g.word_SIGNED (says_next g.word_LPAREN (says_next (says_signal b.0 h.1) g.word_RPAREN)))))))))) (λ c. refl)
  says_expr (expr.SignedShift a k) h short =
      says_is (g.by_EXPR__SIGNED (says_next g.word_SIGNED (says_next g.word_LPAREN (says_next (says_signal a.0 h.0) (says_next g.word_RPAREN
      (g.by_SIGNED_END__ASHR (says_next g.word_ASHR (says_atom k h.1)))))))) (λ c. refl)
  says_expr (expr.Choice (atom.Signal s) a b) h short =
      says_is (g.by_EXPR__NAME (says_next (says_signal s.0 h.0) (g.by_NAME_WHOLE__CONDITION (says_choice a b h.1 h.2 short.0 short.1)))) (λ c. refl)
  says_expr (expr.Choice (atom.Literal l) a b) h short =
      says_is (g.by_EXPR__LITERAL (says_next (says_literal l h.0) (g.by_LITERAL_WHOLE__CONDITION (says_choice a b h.1 h.2 short.0 short.1)))) (λ c. refl)

  -- ---- assignments and sets

  pub says_assignment : (a : Assignment) → a.target.0 < length (signals m) → IsKnown (length (signals m)) a.value → IsShortExpr a.value
      → Says (Nonterminal nonterminal.ASSIGNMENT ∷ []) (assignment_words m a) (λ c. record c { assignments = c.assignments ++ said_assignment m c.signals a ∷ [] })
  says_assignment a t h short =
      says_is (g.by_ASSIGNMENT (says_next g.word_ASSIGN (says_next (says_signal a.target.0 t) (says_next g.word_EQUALS (says_next (says_expr a.value h short) g.word_SEMI))))) (λ c. refl)

  pub says_assignments : (all : List Assignment) → AllByRecursion (IsWrittenAssignment m) all
      → Says (Nonterminal nonterminal.ASSIGNMENTS ∷ []) (assignments_words m all) (λ c. record c { assignments = c.assignments ++ map (said_assignment m c.signals) all })
  says_assignments [] h = says_is (g.by_ASSIGNMENTS__NONE says_nothing) (λ c. ap (λ all. record c { assignments = all }) (sym (append-nil c.assignments)))
  says_assignments (a ∷ all) h =
      says_is (g.by_ASSIGNMENTS__ASSIGNMENT (says_next (says_assignment a h.0.0 h.0.1 h.0.2) (says_assignments all h.1)))
      (λ c. ap (λ xs. record c { assignments = xs }) (append_assoc c.assignments (said_assignment m c.signals a ∷ []) (map (said_assignment m c.signals) all)))

  says_set : (set : Set) → IsWrittenSet m set → Says (Nonterminal nonterminal.SET ∷ []) (set_words m set) (λ c. record c { sets = c.sets ++ said_set m c.signals set ∷ [] })
  says_set set h = says_is (g.by_SET (says_next (says_signal set.target.0 h.0) (says_next g.word_LE (says_next (says_atom set.value h.1) g.word_SEMI)))) (λ c. refl)

  says_sets : (sets : List Set) → AllByRecursion (IsWrittenSet m) sets → Says (Nonterminal nonterminal.SETS ∷ []) (sets_words m sets) (λ c. record c { sets = c.sets ++ map (said_set m c.signals) sets })
  says_sets [] h = says_is (g.by_SETS__NONE says_nothing) (λ c. ap (λ xs. record c { sets = xs }) (sym (append-nil c.sets)))
  says_sets (set ∷ sets) h =
      says_is (g.by_SETS__SET (says_next (says_set set h.0) (says_sets sets h.1)))
      (λ c. ap (λ xs. record c { sets = xs }) (append_assoc c.sets (said_set m c.signals set ∷ []) (map (said_set m c.signals) sets)))

  says_edge : Says (Nonterminal nonterminal.EDGE ∷ []) (codes "@" ∷ codes "(" ∷ codes "posedge" ∷ codes "clk" ∷ codes ")" ∷ []) (λ c. c)
  says_edge = says_is (g.by_EDGE (says_next g.word_AT (says_next g.word_LPAREN (says_next g.word_POSEDGE (says_next word_CLK g.word_RPAREN))))) (λ c. refl)

  says_resets : (sets : List Set) → AllByRecursion (IsWrittenSet m) sets
      → Says (Nonterminal nonterminal.RESET_BRANCH ∷ []) (reset_words m sets) (λ c. record c { resets = c.sets ++ map (said_set m c.signals) sets; sets = [] })
  says_resets sets h =
      says_is (g.by_RESET_BRANCH (says_next g.word_IF (says_next g.word_LPAREN (says_next word_RST (says_next g.word_RPAREN (says_next g.word_BEGIN (says_next (says_sets sets h) g.word_ENDBLOCK))))))) (λ c. refl)

  says_clocks : (sets : List Set) → AllByRecursion (IsWrittenSet m) sets
      → Says (Nonterminal nonterminal.CLOCK_BRANCH ∷ []) (clock_words m sets) (λ c. record c { clocks = c.sets ++ map (said_set m c.signals) sets; sets = [] })
  says_clocks sets h = says_is (g.by_CLOCK_BRANCH (says_next g.word_ELSE (says_next g.word_BEGIN (says_next (says_sets sets h) g.word_ENDBLOCK)))) (λ c. refl)

  pub says_always : (resets clocks : List Set) → AllByRecursion (IsWrittenSet m) resets → AllByRecursion (IsWrittenSet m) clocks
      → Says (Nonterminal nonterminal.CLOCKED ∷ []) (always_words m resets clocks)
      (λ c. record c { resets = c.sets ++ map (said_set m c.signals) resets; clocks = map (said_set m c.signals) clocks; sets = [] })
  says_always resets clocks h k =
      says_is (g.by_CLOCKED__ALWAYS (says_next g.word_ALWAYS (says_next says_edge (says_next g.word_BEGIN (says_next (says_resets resets h) (says_next (says_clocks clocks k) g.word_ENDBLOCK)))))) (λ c. refl)

-- ---- ports and declarations

range_by : (b : Bool) (width : ℕ) → width ≤ 128
    → Says (Nonterminal nonterminal.RANGE ∷ []) (if b then [] else (codes "[" ∷ decimal (width - 1) ∷ codes ":" ∷ codes "0" ∷ codes "]" ∷ []))
    (λ c. record c { ranges = (if b then None else Some (said_number (width - 1))) ∷ c.ranges })
range_by true width h = says_is (g.by_RANGE__NONE says_nothing) (λ c. refl)
range_by false width h =
    says_is (g.by_RANGE__LBRACKET (says_next g.word_LBRACKET (says_next (says_number (width - 1) (omega (arith, h))) (says_next g.word_COLON (says_next word_ZERO g.word_RBRACKET))))) (λ c. refl)

says_range : (width : ℕ) → width ≤ 128 → Says (Nonterminal nonterminal.RANGE ∷ []) (range_words width) (λ c. record c { ranges = said_range width ∷ c.ranges })
says_range width h = range_by (width == 1) width h

says_direction : (d : Direction) → Says (Nonterminal nonterminal.DIRECTION ∷ []) (direction_word d ∷ []) (λ c. record c { directions = d ∷ c.directions })
says_direction directions.Input = g.by_DIRECTION__INPUT g.word_INPUT
says_direction directions.Output = g.by_DIRECTION__OUTPUT g.word_OUTPUT

says_storage : (s : Storage) → Says (Nonterminal nonterminal.STORAGE ∷ []) (storage_word s ∷ []) (λ c. record c { storages = s ∷ c.storages })
says_storage storages.Wire = g.by_STORAGE__WIRE g.word_WIRE
says_storage storages.Register = g.by_STORAGE__REG g.word_REG

pub says_port : (p : Port) → IsWrittenPort p → Says (Nonterminal nonterminal.PORT ∷ []) (port_words p) (λ c. record c { signals = c.signals ++ name_text p.name ∷ []; ports = c.ports ++ said_port p ∷ [] })
says_port p h = says_is (g.by_PORT (says_next (says_direction p.direction) (says_next g.word_WIRE (says_next (says_range p.width h.0) (says_name p.name h.1.1))))) (λ c. refl)

pub says_ports : (ps : List Port) → AllByRecursion IsWrittenPort ps
    → Says (Nonterminal nonterminal.PORTS_MORE ∷ []) (more_ports_words ps) (λ c. record c { signals = c.signals ++ port_names ps; ports = c.ports ++ map said_port ps })
says_ports [] h = says_is (g.by_PORTS_MORE__NONE says_nothing) (λ c. ap₂ {C = Core} (λ ss ps. record c { signals = ss; ports = ps }) (sym (append-nil c.signals)) (sym (append-nil c.ports)))
says_ports (p ∷ ps) h =
    says_is (g.by_PORTS_MORE__COMMA (says_next g.word_COMMA (says_next (says_port p h.0) (says_ports ps h.1))))
    (λ c. ap₂ {C = Core} (λ ss qs. record c { signals = ss; ports = qs }) (append_assoc c.signals (name_text p.name ∷ []) (port_names ps)) (append_assoc c.ports (said_port p ∷ []) (map said_port ps)))

says_declaration : (d : Declaration) → IsWrittenDeclaration d
    → Says (Nonterminal nonterminal.DECLARATION ∷ []) (declaration_words d) (λ c. record c { signals = c.signals ++ name_text d.name ∷ []; declarations = c.declarations ++ said_declaration d ∷ [] })
says_declaration d h = says_is (g.by_DECLARATION (says_next (says_storage d.storage) (says_next (says_range d.width h.0) (says_next (says_name d.name h.1.1) g.word_SEMI)))) (λ c. refl)

pub says_declarations : (ds : List Declaration) → AllByRecursion IsWrittenDeclaration ds
    → Says (Nonterminal nonterminal.DECLARATIONS ∷ []) (declarations_words ds) (λ c. record c { signals = c.signals ++ declaration_names ds; declarations = c.declarations ++ map said_declaration ds })
says_declarations [] h = says_is (g.by_DECLARATIONS__NONE says_nothing) (λ c. ap₂ {C = Core} (λ ss ds. record c { signals = ss; declarations = ds }) (sym (append-nil c.signals)) (sym (append-nil c.declarations)))
says_declarations (d ∷ ds) h =
    says_is (g.by_DECLARATIONS__DECLARATION (says_next (says_declaration d h.0) (says_declarations ds h.1)))
    (λ c. ap₂ {C = Core} (λ ss es. record c { signals = ss; declarations = es }) (append_assoc c.signals (name_text d.name ∷ []) (declaration_names ds)) (append_assoc c.declarations (said_declaration d ∷ []) (map said_declaration ds)))
