-- Every tree of the grammar does what its nonterminal says.
use Rattle.std.proofs.Common.{◌≡◌, ◌∙◌, ◌+◌, ◌≤◌, length, ℕ, zero, suc, Bool, true, false, List, [], ◌∷◌, ◌++◌, map, refl, sym, ap, subst, append_assoc, append-nil, arith}
use Rattle.std.proofs.lemmas.List.{length-append}
use Rattle.std.specs.Prelude.{◌==◌, if◌then◌else◌, Some, slice_get}
use Rattle.base.specs.declared.grammar.bottom_up.Step.{Step}
use Rattle.base.specs.declared.grammar.bottom_up.Step.TheVariants.{Shift, Reduce}
use Rattle.base.specs.declared.grammar.table.Symbol.{Symbol}
use Rattle.base.specs.declared.grammar.table.Symbol.TheVariants.{Terminal, Nonterminal}
use Rattle.base.specs.Grammar.Derivation.{IsRule}
use Rattle.base.specs.Grammar.Steps.{steps_of}
use Rattle.base.specs.Grammar.Syntax.{NamedRule, Rule}
use Rattle.base.specs.Grammar.Tree.{Forest, Grows, leaves_of, node, nothing}
use Rattle.base.specs.Grammar.Tree.Grows.{branch, empty, leaf}
use Rattle.dslx_token.specs.Lexeme.{Lexeme}
use Rattle.vlog_text.specs.Token.Rules.Rules.{named_rules}
use Rattle.vlog_text.specs.Token.Rules.Verilog.{verilog}
use Rattle.vlog_tree.specs.declared.expression.Binary.TheVariants as binaries
use Rattle.vlog_tree.specs.declared.expression.Order.TheVariants as orders
use Rattle.vlog_tree.specs.declared.expression.Unary.TheVariants as unaries
use Rattle.vlog_tree.specs.declared.module.Direction.TheVariants as directions
use Rattle.vlog_tree.specs.declared.module.Storage.TheVariants as storages
use Rattle.vlog_text.specs.declared.token.rules.generated.kind.TheConstants.{ASSIGN, LITERAL}
use Rattle.vlog_text.specs.declared.token.rules.generated.kind.TheConstants as kind
use Rattle.xb_span.specs.declared.span.Span.{Span}
use Rattle.vlog_text.specs.Builder.Building.{built, is_name, reduced, rule_of, shifted}
use Rattle.vlog_text.specs.declared.builder.rule.Rule.{Rule as BuilderRule}
use Rattle.vlog_text.specs.declared.builder.state.State.{State}
use Rattle.vlog_text.specs.Builder.Parts.{most}
use Rattle.vlog_text.specs.Parser.Reads.{kinds_of}
use Rattle.vlog_text.specs.Parser.Spans.{IsPhrase, literal_ends}
use Rattle.vlog_text.proofs.OnSpans.Effects.{Keeps, Kept, RunOf, Sort, after, change, effect, last_of, put_all, run_tokens, sort_of, tokens_in}
use Rattle.vlog_text.proofs.OnSpans.KeepsExprs as exprs
use Rattle.vlog_text.proofs.OnSpans.KeepsItems as items
use Rattle.vlog_text.proofs.OnSpans.KeepsLists as lists
use Rattle.vlog_text.proofs.OnSpans.KeepsPlain.{ends_behind}
use Rattle.vlog_text.proofs.OnSpans.Widths.{Widths, no_literal_name, width_rule, width_token, widths, widths-reduced, widths-shifted}
use Rattle.vlog_text.proofs.OnSpans.Marks.{Marks, ends-reduced, mark_by, mark_rule, mark_token, marks, marks-reduced, marks-shifted}

-- ---- every rule

-- rules with these numbers, one behind the other, keep what they say
pub data AllKeep : ℕ → List NamedRule → Type 0 where
  none : {from : ℕ} → AllKeep from []
  ◌&◌ : {from : ℕ} {r : NamedRule} {rs : List NamedRule} → Keeps (rule_of from) r.rule.head r.rule.body → AllKeep (suc from) rs → AllKeep from (r ∷ rs)

infixr 40 ◌&◌
every_rule : AllKeep 0 named_rules
unfolding named_rules
every_rule =
    lists.module_is &
    lists.items_are &
    items.name_kept kind.NAME refl &
    items.name_kept kind.CLK refl &
    items.name_kept kind.RST refl &
    items.number_is &
    items.zero_is &
    items.range_is &
    items.no_range_is &
    items.port_is &
    items.direction_is directions.Input kind.INPUT refl refl refl &
    items.direction_is directions.Output kind.OUTPUT refl refl refl &
    lists.more_ports &
    lists.no_more_ports &
    lists.more_declarations &
    lists.no_declarations &
    items.declaration_is &
    items.storage_is storages.Wire kind.WIRE refl refl refl &
    items.storage_is storages.Register kind.REG refl refl refl &
    lists.more_assignments &
    lists.no_assignments &
    items.assignment_is &
    lists.clocked_is &
    lists.no_clocked &
    lists.edge_is &
    lists.reset_branch_is &
    lists.clock_branch_is &
    lists.more_sets &
    lists.no_sets &
    items.set_is &
    exprs.name_atom &
    exprs.literal_atom &
    exprs.name_expr &
    exprs.literal_expr &
    exprs.simple_expr &
    exprs.signed_expr &
    exprs.name_simple &
    exprs.literal_simple &
    exprs.other_simple &
    exprs.unary_of &
    exprs.concat_of &
    exprs.more_atoms &
    exprs.no_more_atoms &
    exprs.name_choice &
    exprs.name_end &
    exprs.literal_choice &
    exprs.literal_end &
    exprs.name_slice &
    exprs.name_as_literal &
    exprs.binary_tail &
    exprs.no_tail &
    exprs.choice_tail &
    exprs.slice_tail &
    exprs.order_tail &
    exprs.shift_tail &
    exprs.unary_is unaries.Negate kind.MINUS refl refl &
    exprs.unary_is unaries.Complement kind.TILDE refl refl &
    exprs.unary_is unaries.AllOnes kind.AMP refl refl &
    exprs.unary_is unaries.SomeOne kind.PIPE refl refl &
    exprs.unary_is unaries.Parity kind.CARET refl refl &
    exprs.binary_is binaries.Add kind.PLUS refl refl &
    exprs.binary_is binaries.Subtract kind.MINUS refl refl &
    exprs.binary_is binaries.Multiply kind.STAR refl refl &
    exprs.binary_is binaries.Divide kind.SLASH refl refl &
    exprs.binary_is binaries.Remainder kind.PERCENT refl refl &
    exprs.binary_is binaries.And kind.AMP refl refl &
    exprs.binary_is binaries.Or kind.PIPE refl refl &
    exprs.binary_is binaries.Xor kind.CARET refl refl &
    exprs.binary_is binaries.Equal kind.EQ refl refl &
    exprs.binary_is binaries.NotEqual kind.NE refl refl &
    exprs.binary_is binaries.ShiftLeft kind.SHL refl refl &
    exprs.binary_is binaries.ShiftRight kind.SHR refl refl &
    exprs.ordered_binary &
    exprs.order_is orders.Less kind.LT refl refl &
    exprs.order_is orders.LessOrEqual kind.LE refl refl &
    exprs.order_is orders.Greater kind.GT refl refl &
    exprs.order_is orders.GreaterOrEqual kind.GE refl refl &
    none

found_first : (r : NamedRule) (q : Rule) → Some r.rule ≡ Some q → r.rule ≡ q
found_first r q e = cc

none_there : (n : ℕ) (q : Rule) → slice_get {X = Rule} [] n ≡ Some q → ⊥
none_there n q e = cc

keeps_at : (from p : ℕ) (rs : List NamedRule) (q : Rule) → AllKeep from rs → slice_get (map (λ (r : NamedRule). r.rule) rs) p ≡ Some q → Keeps (rule_of (from + p)) q.head q.body
keeps_at from p [] q keep found = absurd (none_there p q found)
keeps_at from zero (r ∷ rs) q (keep & keeps) found =
    let same : from + zero ≡ from = omega arith in
    subst (λ (x : Rule). Keeps (rule_of (from + zero)) x.head x.body) (found_first r q found) (subst (λ n. Keeps (rule_of n) r.rule.head r.rule.body) (sym same) keep)
keeps_at from (suc p) (r ∷ rs) q (keep & keeps) found =
    let same : suc from + p ≡ from + suc p = omega arith in
    subst (λ n. Keeps (rule_of n) q.head q.body) same (keeps_at (suc from) p rs q keeps found)

pub rule_keeps : (p n : ℕ) (b : List Symbol) → IsRule verilog.rules p n b → Keeps (rule_of p) n b
unfolding verilog
rule_keeps p n b rule =
    let same : 0 + p ≡ p = omega arith in
    subst (λ k. Keeps (rule_of k) n b) same (keeps_at 0 p named_rules (record { head = n; body = b }) every_rule rule)

-- ---- the last token

last_behind : (xs ys : List Lexeme) (z : Span) → last_of (xs ++ ys) z ≡ last_of ys (last_of xs z)
last_behind [] ys z = refl
last_behind (l ∷ xs) ys z = last_behind xs ys l.span

token_last : (name literal start : Bool) (l : Lexeme) (m : Marks) → (mark_by name literal start l m).last ≡ l.span
token_last true literal start l m = refl
token_last false true start l m = refl
token_last false false true l m = refl
token_last false false false l m = refl

last_after : (symbols : List Symbol) (run : RunOf symbols) (m : Marks) → (after symbols run m).last ≡ last_of (run_tokens symbols run) m.last
last_after [] run m = refl
last_after (Terminal k ∷ symbols) run m =
    last_after symbols run.1 (mark_token k run.0.token m) ∙ ap (λ z. last_of (run_tokens symbols run.1) z) (token_last (is_name k) (k == LITERAL) (k == ASSIGN) run.0.token m)
last_after (Nonterminal n ∷ symbols) run m =
    last_after symbols run.1 (effect (sort_of n) run.0 m) ∙ sym (last_behind (tokens_in (sort_of n) run.0) (run_tokens symbols run.1) m.last)

-- a tree does what its sort says
whole_effect : {k : Sort} {rule : BuilderRule} {body : List Symbol} {run : RunOf body} (kept : Kept k rule body run) (m : Marks) → mark_rule rule (after body run m) ≡ effect k kept.part m
whole_effect {k} {rule} {body} {run} kept m =
    kept.does m ∙ ap (λ z. record (change k kept.part m) { last = z }) (last_after body run m ∙ ap (λ ls. last_of ls m.last) (sym kept.are))

-- ---- steps

built-shift : (more : List Step) (l : Lexeme) (ls : List Lexeme) (s : State) → built (Shift ∷ more) (l ∷ ls) s ≡ built more ls (shifted l s)
unfolding built
built-shift more l ls s = refl

built-reduce : (p : ℕ) (more : List Step) (ls : List Lexeme) (s : State) → built (Reduce p ∷ more) ls s ≡ built more ls (reduced (rule_of p) s)
unfolding built
built-reduce p more ls s = refl

-- ---- literals

ends_by : (name literal start : Bool) (l : Lexeme) (m : Marks) → (name ≡ true → literal ≡ false) → (mark_by name literal start l m).ends ≡ m.ends ++ map (λ (l : Lexeme). l.span.to) (if literal then l ∷ [] else [])
ends_by true true start l m one = let wrong : true ≡ false = one refl in absurd (cc)
ends_by true false start l m one = sym (append-nil m.ends)
ends_by false true start l m one = refl
ends_by false false true l m one = sym (append-nil m.ends)
ends_by false false false l m one = sym (append-nil m.ends)

ends-shifted : (l : Lexeme) (s : State) → (shifted l s).literal_ends ≡ s.literal_ends ++ literal_ends (l ∷ [])
ends-shifted l s = ap (λ (m : Marks). m.ends) (marks-shifted l s) ∙ ends_by (is_name l.kind) (l.kind == LITERAL) (l.kind == ASSIGN) l (marks s) (no_literal_name l.kind)

-- ---- tokens of some kinds

pub record Cut (ls : List Lexeme) (ks js : List ℕ) : Type 0 where
  pub own : List Lexeme
  pub others : List Lexeme
  pub are : own ++ others ≡ ls
  pub kinds : kinds_of own ≡ ks
  pub more : kinds_of others ≡ js

pub cut : (ks js : List ℕ) (ls : List Lexeme) → kinds_of ls ≡ ks ++ js → Cut ls ks js
cut [] js ls e = record { own = []; others = ls; are = refl; kinds = refl; more = e }
cut (k ∷ ks) js [] e = absurd (cc)
cut (k ∷ ks) js (l ∷ ls) e =
    let first : l.kind ≡ k = cc in
    let rest : kinds_of ls ≡ ks ++ js = cc in
    let c = cut ks js ls rest in
    record { own = l ∷ c.own; others = c.others; are = ap (λ xs. l ∷ xs) c.are; kinds = ap (λ n. n ∷ kinds_of c.own) first ∙ ap (λ ns. k ∷ ns) c.kinds; more = c.more }

-- ---- trees

-- where the steps lead
pub record Leads (steps more : List Step) (ls others : List Lexeme) (s : State) (m : Marks) (fits : Type 0) (w : Widths) (ends : List ℕ) : Type 0 where
  pub state : State
  pub goes : built steps ls s ≡ built more others state
  pub marked : marks state ≡ m
  pub sized : fits → widths state ≡ w
  pub noted : state.literal_ends ≡ s.literal_ends ++ ends

-- the symbols' trees have these tokens, and leave what their sorts say
pub record Ran (symbols : List Symbol) (f : Forest) (ls : List Lexeme) : Type 0 where
  pub run : RunOf symbols
  pub are : run_tokens symbols run ≡ ls
  pub leads : (more : List Step) (others : List Lexeme) (s : State) → Leads (steps_of f ++ more) more (ls ++ others) others s (after symbols run (marks s)) (length ls ≤ most) (put_all symbols run (widths s)) (literal_ends ls)

one_tree : (p n : ℕ) (b : List Symbol) (below : Forest) (ls : List Lexeme) → IsRule verilog.rules p n b → Grows verilog.rules b below → leaves_of below ≡ kinds_of ls → IsPhrase n ls
one_tree p n b below ls rule grows leaves = record { tree = node p below nothing; grows = branch b rule grows empty; leaves = append-nil (leaves_of below) ∙ leaves }

pub go : {symbols : List Symbol} {f : Forest} → Grows verilog.rules symbols f → (ls : List Lexeme) → kinds_of ls ≡ leaves_of f → Ran symbols f ls
go empty [] e = record { run = tt; are = refl; leads = λ more others s. record { state = s; goes = refl; marked = refl; sized = λ fits. refl; noted = sym (append-nil s.literal_ends) } }
go empty (l ∷ ls) e = absurd (cc)
go (leaf grows) [] e = absurd (cc)
go (leaf {t = t} {s = symbols} {f = f} grows) (l ∷ ls) e =
    let first : l.kind ≡ t = cc in
    let rest : kinds_of ls ≡ leaves_of f = cc in
    let r = go grows ls rest in
    record {
      run = (record { token = l; is = first }, r.run);
      are = ap (λ xs. l ∷ xs) r.are;
      leads = λ more others s.
          let way = r.leads more others (shifted l s) in
          record {
            state = way.state;
            goes = built-shift (steps_of f ++ more) l (ls ++ others) s ∙ way.goes;
            marked = way.marked ∙ ap (after symbols r.run) (marks-shifted l s ∙ ap (λ k. mark_token k l (marks s)) first);
            sized = λ fits. way.sized (omega (arith, fits)) ∙ ap (put_all symbols r.run) (widths-shifted l s ∙ ap (λ k. width_token k l (widths s)) first);
            noted =
                way.noted
                ∙ (ap (λ es. es ++ literal_ends ls) (ends-shifted l s)
                ∙ (append_assoc s.literal_ends (literal_ends (l ∷ [])) (literal_ends ls) ∙ ap (λ es. s.literal_ends ++ es) (sym (ends_behind (l ∷ []) ls))));
          };
    }
go (branch {p = p} {n = n} b {s = symbols} {below = below} {right = right} rule inside grows) ls e =
    let c = cut (leaves_of below) (leaves_of right) ls e in
    let r = go inside c.own c.kinds in
    let t = go grows c.others c.more in
    let kept = rule_keeps p n b rule r.run (one_tree p n b below (run_tokens b r.run) rule inside (sym (ap kinds_of r.are ∙ c.kinds))) in
    record {
      run = (kept.part, t.run);
      are = ap (λ xs. xs ++ run_tokens symbols t.run) (kept.are ∙ r.are) ∙ ap (λ xs. c.own ++ xs) t.are ∙ c.are;
      leads = λ more others s.
          let way = r.leads (Reduce p ∷ (steps_of right ++ more)) (c.others ++ others) s in
          let behind = t.leads more others (reduced (rule_of p) way.state) in
          record {
            state = behind.state;
            goes =
                ap (λ steps. built steps (ls ++ others) s) (append_assoc (steps_of below) (Reduce p ∷ steps_of right) more)
                ∙ (ap (λ xs. built (steps_of below ++ Reduce p ∷ (steps_of right ++ more)) xs s) (ap (λ xs. xs ++ others) (sym c.are) ∙ append_assoc c.own c.others others)
                ∙ (way.goes ∙ (built-reduce p (steps_of right ++ more) (c.others ++ others) way.state ∙ behind.goes)));
            marked =
                behind.marked
                ∙ ap (after symbols t.run) (marks-reduced (rule_of p) way.state ∙ (ap (mark_rule (rule_of p)) way.marked ∙ whole_effect kept (marks s)));
            sized = λ fits.
                let long : length c.own + length c.others ≡ length ls = sym (length-append c.own c.others) ∙ ap length c.are in
                behind.sized (omega (arith, fits, long))
                ∙ ap (put_all symbols t.run)
                (widths-reduced (rule_of p) way.state
                ∙ (ap (width_rule (rule_of p)) (way.sized (omega (arith, fits, long)))
                ∙ kept.puts (subst (λ (xs : List Lexeme). length xs ≤ most) (sym r.are) (omega (arith, fits, long))) (widths s)));
            noted =
                behind.noted
                ∙ (ap (λ es. es ++ literal_ends c.others) (ends-reduced (rule_of p) way.state ∙ way.noted)
                ∙ (append_assoc s.literal_ends (literal_ends c.own) (literal_ends c.others)
                ∙ ap (λ es. s.literal_ends ++ es) (sym (ends_behind c.own c.others) ∙ ap literal_ends c.are)));
          };
    }
