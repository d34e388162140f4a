-- The text of each part of a module is cut into its words.
use Rattle.std.proofs.Common.{◌≡◌, ◌-◌, ◌<◌, ◌≤◌, ◌==◌, ◌∙◌, ℕ, Bool, true, false, List, [], ◌∷◌, ◌++◌, map, length, refl, sym, ap, subst, append_assoc, arith}
use Rattle.std.specs.Prelude.{codes, decimal, flat_map, if◌then◌else◌}
use Rattle.std.specs.List.{AllByRecursion}
use Rattle.std.proofs.lemmas.List.Concat.{flat_map-cons}
use Rattle.xb_value.specs.Text.{listed}
use Rattle.base.specs.Texts.Words.{is_word}
use Rattle.vlog_tree.specs.declared.module.VModule.{VModule}
use Rattle.vlog_tree.specs.declared.module.Port.{Port}
use Rattle.vlog_tree.specs.declared.module.Declaration.{Declaration}
use Rattle.vlog_tree.specs.declared.module.Assignment.{Assignment}
use Rattle.vlog_tree.specs.declared.module.Set.{Set}
use Rattle.vlog_tree.specs.declared.module.Direction.{Direction}
use Rattle.vlog_tree.specs.declared.module.Direction.TheVariants as directions
use Rattle.vlog_tree.specs.declared.module.Storage.{Storage}
use Rattle.vlog_tree.specs.declared.module.Storage.TheVariants as storages
use Rattle.vlog_tree.specs.declared.expression.Atom.{Atom}
use Rattle.vlog_tree.specs.declared.expression.Atom.TheVariants as atom
use Rattle.vlog_tree.specs.declared.expression.Binary.{Binary}
use Rattle.vlog_tree.specs.declared.expression.Binary.TheVariants as binary
use Rattle.vlog_tree.specs.declared.expression.Order.{Order}
use Rattle.vlog_tree.specs.declared.expression.Order.TheVariants as order
use Rattle.vlog_tree.specs.declared.expression.Unary.{Unary}
use Rattle.vlog_tree.specs.declared.expression.Unary.TheVariants as unary
use Rattle.vlog_tree.specs.declared.expression.Simple.{Simple}
use Rattle.vlog_tree.specs.declared.expression.Simple.TheVariants as simple
use Rattle.vlog_tree.specs.declared.expression.Expr.{Expr}
use Rattle.vlog_tree.specs.declared.expression.Expr.TheVariants as expr
use Rattle.vlog_tree.specs.Signals.{signals}
use Rattle.vlog_tree.specs.Sound.{IsKnown, IsKnownAtom, IsKnownSimple}
use Rattle.vlog_text.specs.Printer.Parts.{atom_text, binary_text, bounds_text, expr_text, order_text, signal_text, signed_text, simple_text, unary_text}
use Rattle.vlog_text.specs.Printer.ModuleText.{assignment_start, assignment_text, clocked_middle, clocked_start, clocked_text, declaration_text, direction_text, module_start, module_text, port_text, range_text, set_text, storage_text}
use Rattle.vlog_text.proofs.OnRoundTrip.Cuts as cuts
use Rattle.vlog_text.proofs.OnRoundTrip.Cuts.{Cuts, Opens, as_cuts, cuts_cuts, cuts_opens, opens_cuts, opens_opens, cuts_literal, cuts_number, cuts_word, opens_line, opens_nothing, opens_space, spaced_word}
use Rattle.vlog_text.proofs.OnRoundTrip.Spelling.{stops}
use Rattle.vlog_text.proofs.OnRoundTrip.Words.{AreNamed, IsShort, IsShortExpr, IsWrittenAssignment, IsWrittenDeclaration, IsWrittenModule, IsWrittenPort, IsWrittenSet, always_words, assignment_words, assignments_words, binary_word, clocked_words, declaration_words, declarations_words, direction_word, expr_words, is_unclocked, items_words, listed_words, module_words, more_ports_words, more_words, order_word, port_words, ports_words, range_words, set_words, sets_words, simple_words, slice_words, storage_word}

-- ---- ends of lines and lists

comma : Opens (codes ", ") (codes "," ∷ [])
comma = opens_opens cuts.mark_COMMA opens_space

line_end : Opens (codes ";\n") (codes ";" ∷ [])
line_end = opens_opens cuts.mark_SEMI opens_line

-- ---- operators

cuts_order : (o : Order) → Opens (order_text o) (order_word o ∷ [])
cuts_order order.Less = cuts.spaced_LT
cuts_order order.LessOrEqual = cuts.spaced_LE
cuts_order order.Greater = cuts.spaced_GT
cuts_order order.GreaterOrEqual = cuts.spaced_GE

order_stops : (o : Order) (rest : List ℕ) → stops (order_text o ++ rest) ≡ true
order_stops order.Less rest = refl
order_stops order.LessOrEqual rest = refl
order_stops order.Greater rest = refl
order_stops order.GreaterOrEqual rest = refl

cuts_binary : (o : Binary) → Opens (binary_text o) (binary_word o ∷ [])
cuts_binary binary.Add = cuts.spaced_PLUS
cuts_binary binary.Subtract = cuts.spaced_MINUS
cuts_binary binary.Multiply = cuts.spaced_STAR
cuts_binary binary.Divide = cuts.spaced_SLASH
cuts_binary binary.Remainder = cuts.spaced_PERCENT
cuts_binary binary.And = cuts.spaced_AMP
cuts_binary binary.Or = cuts.spaced_PIPE
cuts_binary binary.Xor = cuts.spaced_CARET
cuts_binary binary.Equal = cuts.spaced_EQ
cuts_binary binary.NotEqual = cuts.spaced_NE
cuts_binary (binary.Ordered o) = cuts_order o
cuts_binary binary.ShiftLeft = cuts.spaced_SHL
cuts_binary binary.ShiftRight = cuts.spaced_SHR

binary_stops : (o : Binary) (rest : List ℕ) → stops (binary_text o ++ rest) ≡ true
binary_stops binary.Add rest = refl
binary_stops binary.Subtract rest = refl
binary_stops binary.Multiply rest = refl
binary_stops binary.Divide rest = refl
binary_stops binary.Remainder rest = refl
binary_stops binary.And rest = refl
binary_stops binary.Or rest = refl
binary_stops binary.Xor rest = refl
binary_stops binary.Equal rest = refl
binary_stops binary.NotEqual rest = refl
binary_stops (binary.Ordered o) rest = order_stops o rest
binary_stops binary.ShiftLeft rest = refl
binary_stops binary.ShiftRight rest = refl

cuts_unary : (o : Unary) → Opens (unary_text o) (unary_text o ∷ [])
cuts_unary unary.Negate = cuts.mark_MINUS
cuts_unary unary.Complement = cuts.mark_TILDE
cuts_unary unary.AllOnes = cuts.mark_AMP
cuts_unary unary.SomeOne = cuts.mark_PIPE
cuts_unary unary.Parity = cuts.mark_CARET

-- a text behind another one stops what stands before both
stops_on : (a b rest : List ℕ) → ((r : List ℕ) → stops (a ++ r) ≡ true) → stops ((a ++ b) ++ rest) ≡ true
stops_on a b rest h = subst (λ t. stops t ≡ true) (sym (append_assoc a b rest)) (h (b ++ rest))

-- ---- ranges

bounds_cut : (high low : ℕ) → high ≤ 128 → low ≤ 128 → Opens (bounds_text high low) (slice_words high low)
unfolding bounds_text
bounds_cut high low h l =
    opens_opens cuts.mark_LBRACKET
    (cuts_opens (cuts_number high h)
    (opens_opens cuts.mark_COLON (cuts_opens (cuts_number low l) cuts.mark_RBRACKET (λ rest. refl)))
    (λ rest. refl))

range_by : (b : Bool) (width : ℕ) → width ≤ 128
    → Opens (if b then [] else (codes "[" ++ (decimal (width - 1) ++ codes ":0] "))) (if b then [] else (codes "[" ∷ decimal (width - 1) ∷ codes ":" ∷ codes "0" ∷ codes "]" ∷ []))
range_by true width h = opens_nothing
range_by false width h =
    opens_opens cuts.mark_LBRACKET
    (cuts_opens (cuts_number (width - 1) (omega (arith, h))) (opens_opens cuts.mark_COLON (opens_opens cuts.zero_end opens_space)) (λ rest. refl))

range_cut : (width : ℕ) → width ≤ 128 → Opens (range_text width) (range_words width)
unfolding range_text
range_cut width h = range_by (width == 1) width h

-- ---- ports and declarations

direction_cut : (d : Direction) → Opens (direction_text d) (direction_word d ∷ codes "wire" ∷ [])
direction_cut directions.Input = opens_opens (spaced_word (codes "input") refl) (spaced_word (codes "wire") refl)
direction_cut directions.Output = opens_opens (spaced_word (codes "output") refl) (spaced_word (codes "wire") refl)

storage_cut : (s : Storage) → Opens (storage_text s) (storage_word s ∷ [])
storage_cut storages.Wire = spaced_word (codes "wire") refl
storage_cut storages.Register = spaced_word (codes "reg") refl

port_cut : (p : Port) → IsWrittenPort p → Cuts (port_text p) (port_words p)
port_cut p h = opens_cuts (direction_cut p.direction) (opens_cuts (range_cut p.width h.0) (cuts_word p.name h.1.0))

more_ports_stop : (ps : List Port) (rest : List ℕ) → stops rest ≡ true → stops (listed (codes ", ") (map port_text ps) ++ rest) ≡ true
more_ports_stop [] rest h = h
more_ports_stop (p ∷ ps) rest h = refl

more_ports_cut : (ps : List Port) → AllByRecursion IsWrittenPort ps → Cuts (listed (codes ", ") (map port_text ps)) (more_ports_words ps)
more_ports_cut [] h = as_cuts opens_nothing
more_ports_cut (p ∷ ps) h = opens_cuts comma (cuts_cuts (port_cut p h.0) (more_ports_cut ps h.1) (more_ports_stop ps))

ports_cut : (ps : List Port) → AllByRecursion IsWrittenPort ps → Cuts (listed [] (map port_text ps)) (ports_words ps)
ports_cut [] h = as_cuts opens_nothing
ports_cut (p ∷ ps) h = cuts_cuts (port_cut p h.0) (more_ports_cut ps h.1) (more_ports_stop ps)

declaration_cut : (d : Declaration) → IsWrittenDeclaration d → Opens (declaration_text d) (declaration_words d)
declaration_cut d h = opens_opens (storage_cut d.storage) (opens_opens (range_cut d.width h.0) (cuts_opens (cuts_word d.name h.1.0) line_end (λ rest. refl)))

declarations_cut : (ds : List Declaration) → AllByRecursion IsWrittenDeclaration ds → Opens (flat_map declaration_text ds) (declarations_words ds)
declarations_cut [] h = opens_nothing
declarations_cut (d ∷ ds) h =
    subst (λ t. Opens t (declarations_words (d ∷ ds))) (sym (flat_map-cons declaration_text d ds)) (opens_opens (declaration_cut d h.0) (declarations_cut ds h.1))

-- ---- expressions, assignments and sets

module _ (m : VModule) (named : AreNamed m) where
  signal_cut : (s : ℕ) → s < length (signals m) → Cuts (signal_text m s) (signal_text m s ∷ [])
  signal_cut s h = cuts_word (signal_text m s) (named s h).0

  atom_cut : (a : Atom) → IsKnownAtom (length (signals m)) a → Cuts (atom_text m a) (atom_text m a ∷ [])
  atom_cut (atom.Signal s) h = signal_cut s.0 h
  atom_cut (atom.Literal l) h = cuts_literal l h

  more_stop : (atoms : List Atom) (rest : List ℕ) → stops rest ≡ true → stops (listed (codes ", ") (map (atom_text m) atoms) ++ rest) ≡ true
  more_stop [] rest h = h
  more_stop (a ∷ atoms) rest h = refl

  more_cut : (atoms : List Atom) → AllByRecursion (IsKnownAtom (length (signals m))) atoms → Cuts (listed (codes ", ") (map (atom_text m) atoms)) (more_words m atoms)
  more_cut [] h = as_cuts opens_nothing
  more_cut (a ∷ atoms) h = opens_cuts comma (cuts_cuts (atom_cut a h.0) (more_cut atoms h.1) (more_stop atoms))

  listed_cut : (atoms : List Atom) → AllByRecursion (IsKnownAtom (length (signals m))) atoms → Cuts (listed [] (map (atom_text m) atoms)) (listed_words m atoms)
  listed_cut [] h = as_cuts opens_nothing
  listed_cut (a ∷ atoms) h = cuts_cuts (atom_cut a h.0) (more_cut atoms h.1) (more_stop atoms)

  bounds_stop : (high low : ℕ) (rest : List ℕ) → stops (bounds_text high low ++ rest) ≡ true
  unfolding bounds_text
  bounds_stop high low rest = refl

  simple_cut : (x : Simple) → IsKnownSimple (length (signals m)) x → IsShort x → Cuts (simple_text m x) (simple_words m x)
  simple_cut (simple.Atom a) h short = atom_cut a h
  simple_cut (simple.Binary o a b) h short =
      cuts_cuts (atom_cut a h.0) (opens_cuts (cuts_binary o) (atom_cut b h.1)) (λ rest stop. stops_on (binary_text o) (atom_text m b) rest (binary_stops o))
  simple_cut (simple.Unary o a) h short = opens_cuts (cuts_unary o) (atom_cut a h)
  simple_cut (simple.Slice s high low) h short = as_cuts (cuts_opens (signal_cut s.0 h) (bounds_cut high low short.0 short.1) (bounds_stop high low))
  simple_cut (simple.Concat atoms) h short = as_cuts (opens_opens cuts.mark_LBRACE (cuts_opens (listed_cut atoms h) cuts.mark_RBRACE (λ rest. refl)))

  signed_cut : (s : ℕ) → s < length (signals m) → Opens (signed_text m s) (codes "$signed" ∷ codes "(" ∷ signal_text m s ∷ codes ")" ∷ [])
  unfolding signed_text
  signed_cut s h = opens_opens cuts.signed_word (cuts_opens (signal_cut s h) cuts.mark_RPAREN (λ rest. refl))

  expr_cut : (x : Expr) → IsKnown (length (signals m)) x → IsShortExpr x → Cuts (expr_text m x) (expr_words m x)
  expr_cut (expr.Simple x) h short = simple_cut x h short
  expr_cut (expr.SignedOrder o a b) h short = as_cuts (opens_opens (signed_cut a.0 h.0) (opens_opens (cuts_order o) (signed_cut b.0 h.1)))
  expr_cut (expr.SignedShift a k) h short = opens_cuts (signed_cut a.0 h.0) (opens_cuts cuts.spaced_ASHR (atom_cut k h.1))
  expr_cut (expr.Choice c a b) h short =
      cuts_cuts (atom_cut c h.0)
      (opens_cuts cuts.spaced_QUESTION (cuts_cuts (simple_cut a h.1 short.0) (opens_cuts cuts.spaced_COLON (simple_cut b h.2 short.1)) (λ rest stop. refl)))
      (λ rest stop. refl)

  assignment_start_cut : (s : ℕ) → s < length (signals m) → Opens (assignment_start m s) (codes "assign" ∷ signal_text m s ∷ codes "=" ∷ [])
  unfolding assignment_start
  assignment_start_cut s h = opens_opens (spaced_word (codes "assign") refl) (cuts_opens (signal_cut s h) cuts.spaced_EQUALS (λ rest. refl))

  assignment_cut : (a : Assignment) → IsWrittenAssignment m a → Opens (assignment_text m a) (assignment_words m a)
  assignment_cut a h = opens_opens (assignment_start_cut a.target.0 h.0) (cuts_opens (expr_cut a.value h.1 h.2) line_end (λ rest. refl))

  assignments_cut : (all : List Assignment) → AllByRecursion (IsWrittenAssignment m) all → Opens (flat_map (assignment_text m) all) (assignments_words m all)
  assignments_cut [] h = opens_nothing
  assignments_cut (a ∷ all) h =
      subst (λ t. Opens t (assignments_words m (a ∷ all))) (sym (flat_map-cons (assignment_text m) a all)) (opens_opens (assignment_cut a h.0) (assignments_cut all h.1))

  set_cut : (set : Set) → IsWrittenSet m set → Opens (set_text m set) (set_words m set)
  set_cut set h = cuts_opens (signal_cut set.target.0 h.0) (opens_opens cuts.spaced_LE (cuts_opens (atom_cut set.value h.1) line_end (λ rest. refl))) (λ rest. refl)

  sets_cut : (sets : List Set) → AllByRecursion (IsWrittenSet m) sets → Opens (flat_map (set_text m) sets) (sets_words m sets)
  sets_cut [] h = opens_nothing
  sets_cut (set ∷ sets) h = subst (λ t. Opens t (sets_words m (set ∷ sets))) (sym (flat_map-cons (set_text m) set sets)) (opens_opens (set_cut set h.0) (sets_cut sets h.1))

  -- ---- what registers take

  start_cut : Opens clocked_start
      (codes "always" ∷ codes "@" ∷ codes "(" ∷ codes "posedge" ∷ codes "clk" ∷ codes ")" ∷ codes "begin" ∷ codes "if" ∷ codes "(" ∷ codes "rst" ∷ codes ")" ∷ codes "begin" ∷ [])
  unfolding clocked_start
  start_cut =
      opens_opens (spaced_word (codes "always") refl) (opens_opens cuts.mark_AT (opens_opens cuts.mark_LPAREN (opens_opens (spaced_word (codes "posedge") refl)
      (cuts_opens (cuts_word (codes "clk") refl) (opens_opens cuts.mark_RPAREN (opens_opens opens_space (opens_opens (spaced_word (codes "begin") refl)
      (opens_opens (spaced_word (codes "if") refl) (opens_opens cuts.mark_LPAREN (cuts_opens (cuts_word (codes "rst") refl) (opens_opens cuts.mark_RPAREN (opens_opens opens_space
      (cuts_opens (cuts_word (codes "begin") refl) opens_line (λ rest. refl)))) (λ rest. refl))))))) (λ rest. refl)))))

  middle_cut : Opens clocked_middle (codes "end" ∷ codes "else" ∷ codes "begin" ∷ [])
  unfolding clocked_middle
  middle_cut =
      opens_opens (spaced_word (codes "end") refl) (opens_opens (spaced_word (codes "else") refl) (cuts_opens (cuts_word (codes "begin") refl) opens_line (λ rest. refl)))

  ends_cut : Opens (codes "end end\n") (codes "end" ∷ codes "end" ∷ [])
  ends_cut = opens_opens (spaced_word (codes "end") refl) (cuts_opens (cuts_word (codes "end") refl) opens_line (λ rest. refl))

  -- the words of a branch, in another order of brackets
  branches : (resets clocks : List (List ℕ)) (e f b : List ℕ)
      → resets ++ (e ∷ f ∷ b ∷ (clocks ++ (e ∷ e ∷ []))) ≡ (resets ++ e ∷ []) ++ (f ∷ b ∷ ((clocks ++ e ∷ []) ++ e ∷ []))
  branches resets clocks e f b =
      ap (λ xs. resets ++ (e ∷ f ∷ b ∷ xs)) (sym (append_assoc clocks (e ∷ []) (e ∷ [])))
      ∙ sym (append_assoc resets (e ∷ []) (f ∷ b ∷ ((clocks ++ e ∷ []) ++ e ∷ [])))

  always_cut : (resets clocks : List Set) → AllByRecursion (IsWrittenSet m) resets → AllByRecursion (IsWrittenSet m) clocks
      → Opens (clocked_start ++ (flat_map (set_text m) resets ++ (clocked_middle ++ (flat_map (set_text m) clocks ++ codes "end end\n")))) (always_words m resets clocks)
  always_cut resets clocks h k =
      subst (λ ws. Opens (clocked_start ++ (flat_map (set_text m) resets ++ (clocked_middle ++ (flat_map (set_text m) clocks ++ codes "end end\n"))))
      (codes "always" ∷ codes "@" ∷ codes "(" ∷ codes "posedge" ∷ codes "clk" ∷ codes ")" ∷ codes "begin" ∷ codes "if" ∷ codes "(" ∷ codes "rst" ∷ codes ")" ∷ codes "begin" ∷ ws))
      (branches (sets_words m resets) (sets_words m clocks) (codes "end") (codes "else") (codes "begin"))
      (opens_opens start_cut (opens_opens (sets_cut resets h) (opens_opens middle_cut (opens_opens (sets_cut clocks k) ends_cut))))

  clocked_by : (b : Bool) → AllByRecursion (IsWrittenSet m) m.at_reset → AllByRecursion (IsWrittenSet m) m.at_clock
      → Opens (if b then [] else (clocked_start ++ (flat_map (set_text m) m.at_reset ++ (clocked_middle ++ (flat_map (set_text m) m.at_clock ++ codes "end end\n")))))
      (if b then [] else always_words m m.at_reset m.at_clock)
  clocked_by true h k = opens_nothing
  clocked_by false h k = always_cut m.at_reset m.at_clock h k

  clocked_cut : AllByRecursion (IsWrittenSet m) m.at_reset → AllByRecursion (IsWrittenSet m) m.at_clock → Opens (clocked_text m) (clocked_words m)
  clocked_cut h k = clocked_by (is_unclocked m) h k

  -- ---- the module

  module_start_cut : is_word m.name ≡ true → AllByRecursion IsWrittenPort m.ports
      → Opens (module_start m) (codes "module" ∷ m.name ∷ codes "(" ∷ (ports_words m.ports ++ codes ")" ∷ codes ";" ∷ []))
  unfolding module_start
  module_start_cut name h =
      opens_opens (spaced_word (codes "module") refl)
      (cuts_opens (cuts_word m.name name)
      (opens_opens cuts.mark_LPAREN (cuts_opens (ports_cut m.ports h) (opens_opens cuts.mark_RPAREN line_end) (λ rest. refl)))
      (λ rest. refl))

  items_cut : IsWrittenModule m → Opens (flat_map declaration_text m.declarations ++ (flat_map (assignment_text m) m.assignments ++ (clocked_text m ++ codes "endmodule\n"))) (items_words m)
  items_cut h =
      opens_opens (declarations_cut m.declarations h.declarations) (opens_opens (assignments_cut m.assignments h.assignments)
      (opens_opens (clocked_cut h.resets h.clocks) (cuts_opens (cuts_word (codes "endmodule") refl) opens_line (λ rest. refl))))

  pub module_cut : IsWrittenModule m → Opens (module_text m) (module_words m)
  module_cut h =
      subst (λ ws. Opens (module_text m) (codes "module" ∷ m.name ∷ codes "(" ∷ ws)) (append_assoc (ports_words m.ports) (codes ")" ∷ codes ";" ∷ []) (items_words m))
      (opens_opens (module_start_cut h.name.0 h.ports) (items_cut h))
