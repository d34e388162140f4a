-- What a text's tokens and trees do to the spans that are kept, and to the names of what stands there.
use Rattle.std.proofs.Common.{◌≡◌, ℕ, Bool, true, false, List, [], ◌∷◌, ◌++◌, map, drop, refl, ap, ◌∙◌, arith}
use Rattle.std.specs.Prelude.{◌==◌, min, if◌then◌else◌}
use Rattle.std.proofs.lemmas.List.{map-append}
use Rattle.std.proofs.lemmas.Bool.Decides.{nat_tests}
use Rattle.base.specs.Stacks.Tops.{top_or}
use Rattle.dslx_token.specs.Lexeme.{Lexeme}
use Rattle.vlog_text.specs.declared.token.rules.generated.kind.TheConstants.{ASSIGN, LITERAL}
use Rattle.vlog_text.specs.Token.TokenPrefixes.{width_said}
use Rattle.vlog_tree.specs.declared.module.Port.{Port}
use Rattle.vlog_tree.specs.declared.module.Declaration.{Declaration}
use Rattle.vlog_tree.specs.declared.module.Assignment.{Assignment}
use Rattle.vlog_tree.specs.declared.module.Set.{Set}
use Rattle.vlog_tree.specs.declared.signal.Signal.{Signal}
use Rattle.xb_span.specs.declared.span.Span.{Span}
use Rattle.vlog_text.specs.declared.builder.rule.Rule.{Rule}
use Rattle.vlog_text.specs.declared.builder.rule.Rule.TheVariants.{Keep, RangeOf, NoRange, PortOf, DirectionOf, DeclarationOf, StorageOf, AssignmentOf, SkipIdent, ResetsOf, ClocksOf, SetOf, NameAtom, LiteralAtom, NameExpr, LiteralExpr, SimpleExpr, SignedExpr, NameSimple, LiteralSimple, UnaryOf, ConcatOf, More, Start, BinaryTail, NoTail, ChoiceTail, SliceTail, OrderTail, ShiftTail, UnaryIs, BinaryIs, OrderedBinary, OrderIs}
use Rattle.vlog_text.specs.declared.builder.state.State.{State}
use Rattle.vlog_text.specs.Builder.Building.{is_name, is_number, reduced, shifted}
use Rattle.vlog_text.specs.Builder.Empty.{no_atom, no_expr, no_ident}
use Rattle.vlog_text.specs.Builder.Parts.{Named, literal_of, most, name_text, signal_of}
use Rattle.vlog_text.specs.Builder.Rules.{declaration_by, declaration_made, port_by, port_made, top_signal}

pub record Marks : Type 0 where
  pub last : Span
  pub starts : List ℕ
  pub idents : List Named
  pub ends : List ℕ
  pub signals : List (List ℕ)
  pub ports : List Span
  pub port_names : List (List ℕ)
  pub declarations : List Span
  pub declaration_names : List (List ℕ)
  pub assignments : List Span
  pub targets : List Signal
  pub sets : List Span
  pub set_targets : List Signal
  pub resets : List Span
  pub reset_targets : List Signal
  pub clocks : List Span
  pub clock_targets : List Signal

abbrev pub targets_of : List Set → List Signal
targets_of sets = map (λ (s : Set). s.target) sets

abbrev pub marks : State → Marks
marks s = record {
  last = s.last;
  starts = s.starts;
  idents = s.idents;
  ends = s.literal_ends;
  signals = s.signals;
  ports = s.port_spans;
  port_names = map (λ (p : Port). p.name) s.ports;
  declarations = s.declaration_spans;
  declaration_names = map (λ (d : Declaration). d.name) s.declarations;
  assignments = s.assignment_spans;
  targets = map (λ (a : Assignment). a.target) s.assignments;
  sets = s.set_spans;
  set_targets = targets_of s.sets;
  resets = s.reset_spans;
  reset_targets = targets_of s.resets;
  clocks = s.clock_spans;
  clock_targets = targets_of s.clocks;
}

-- ---- what is added

-- a port, a declaration, an assignment or a set stands there, with this name
abbrev pub with_port : Span → List ℕ → Marks → Marks
with_port span name m = record m { signals = m.signals ++ name ∷ []; ports = m.ports ++ span ∷ []; port_names = m.port_names ++ name ∷ [] }

abbrev pub with_declaration : Span → List ℕ → Marks → Marks
with_declaration span name m =
    record m { signals = m.signals ++ name ∷ []; declarations = m.declarations ++ span ∷ []; declaration_names = m.declaration_names ++ name ∷ [] }

abbrev pub with_assignment : Span → List ℕ → Marks → Marks
with_assignment span name m = record m { assignments = m.assignments ++ span ∷ []; targets = m.targets ++ record { 0 = signal_of m.signals name } ∷ [] }

abbrev pub with_set : Span → List ℕ → Marks → Marks
with_set span name m = record m { sets = m.sets ++ span ∷ []; set_targets = m.set_targets ++ record { 0 = signal_of m.signals name } ∷ [] }

-- ---- a complete tree of a rule

abbrev pub top_name : Marks → List ℕ
top_name m = (top_or no_ident m.idents).name

-- from the beginning that was kept to the end of the last token
abbrev pub open_span : Marks → Span
open_span m = record { from = top_or 0 m.starts; to = m.last.to }

abbrev pub without_ident : Marks → Marks
without_ident m = record m { idents = drop 1 m.idents }

abbrev pub without_start : Marks → Marks
without_start m = record m { idents = drop 1 m.idents; starts = drop 1 m.starts }

abbrev pub mark_rule : Rule → Marks → Marks
mark_rule (DirectionOf direction) m = record m { starts = m.last.from ∷ m.starts }
mark_rule PortOf m = with_port (open_span m) (top_name m) (without_start m)
mark_rule (StorageOf storage) m = record m { starts = m.last.from ∷ m.starts }
mark_rule DeclarationOf m = with_declaration (open_span m) (top_name m) (without_start m)
mark_rule AssignmentOf m = with_assignment (open_span m) (top_name m) (without_start m)
mark_rule SetOf m = with_set (record { from = (top_or no_ident m.idents).span.from; to = m.last.to }) (top_name m) (without_ident m)
mark_rule SkipIdent m = without_ident m
mark_rule ResetsOf m = record m { idents = drop 1 m.idents; resets = m.sets; reset_targets = m.set_targets; sets = []; set_targets = [] }
mark_rule ClocksOf m = record m { clocks = m.sets; clock_targets = m.set_targets; sets = []; set_targets = [] }
mark_rule NameAtom m = without_ident m
mark_rule NameExpr m = without_ident m
mark_rule SignedExpr m = without_ident m
mark_rule NameSimple m = without_ident m
mark_rule OrderTail m = without_ident m
mark_rule _ m = m

port_named : (s : State) → (port_made s).name ≡ (top_or no_ident s.idents).name
unfolding port_by
port_named s = refl

declaration_named : (s : State) → (declaration_made s).name ≡ (top_or no_ident s.idents).name
unfolding declaration_by
declaration_named s = refl

pub marks-reduced : (r : Rule) (s : State) → marks (reduced r s) ≡ mark_rule r (marks s)
marks-reduced Keep s = refl
marks-reduced RangeOf s = refl
marks-reduced NoRange s = refl
marks-reduced (DirectionOf direction) s = refl
marks-reduced (StorageOf storage) s = refl
marks-reduced PortOf s =
    ap (λ names. record (mark_rule PortOf (marks s)) { port_names = names })
    (map-append (λ (p : Port). p.name) s.ports (port_made s ∷ []) ∙ ap (λ name. map (λ (p : Port). p.name) s.ports ++ name ∷ []) (port_named s))
marks-reduced DeclarationOf s =
    ap (λ names. record (mark_rule DeclarationOf (marks s)) { declaration_names = names })
    (map-append (λ (d : Declaration). d.name) s.declarations (declaration_made s ∷ []) ∙ ap (λ name. map (λ (d : Declaration). d.name) s.declarations ++ name ∷ []) (declaration_named s))
marks-reduced AssignmentOf s =
    ap (λ targets. record (mark_rule AssignmentOf (marks s)) { targets = targets })
    (map-append (λ (a : Assignment). a.target) s.assignments (record { target = top_signal s; value = top_or no_expr s.exprs } ∷ []))
marks-reduced SetOf s =
    ap (λ targets. record (mark_rule SetOf (marks s)) { set_targets = targets })
    (map-append (λ (t : Set). t.target) s.sets (record { target = top_signal s; value = top_or no_atom s.atoms } ∷ []))
marks-reduced SkipIdent s = refl
marks-reduced ResetsOf s = refl
marks-reduced ClocksOf s = refl
marks-reduced NameAtom s = refl
marks-reduced LiteralAtom s = refl
marks-reduced NameExpr s = refl
marks-reduced LiteralExpr s = refl
marks-reduced SimpleExpr s = refl
marks-reduced SignedExpr s = refl
marks-reduced NameSimple s = refl
marks-reduced LiteralSimple s = refl
marks-reduced UnaryOf s = refl
marks-reduced ConcatOf s = refl
marks-reduced More s = refl
marks-reduced Start s = refl
marks-reduced BinaryTail s = refl
marks-reduced NoTail s = refl
marks-reduced ChoiceTail s = refl
marks-reduced SliceTail s = refl
marks-reduced OrderTail s = refl
marks-reduced ShiftTail s = refl
marks-reduced (UnaryIs operator) s = refl
marks-reduced (BinaryIs operator) s = refl
marks-reduced OrderedBinary s = refl
marks-reduced (OrderIs order) s = refl

-- a rule leaves the literals
rule_ends : (r : Rule) (m : Marks) → (mark_rule r m).ends ≡ m.ends
rule_ends Keep m = refl
rule_ends RangeOf m = refl
rule_ends NoRange m = refl
rule_ends PortOf m = refl
rule_ends (DirectionOf direction) m = refl
rule_ends DeclarationOf m = refl
rule_ends (StorageOf storage) m = refl
rule_ends AssignmentOf m = refl
rule_ends SkipIdent m = refl
rule_ends ResetsOf m = refl
rule_ends ClocksOf m = refl
rule_ends SetOf m = refl
rule_ends NameAtom m = refl
rule_ends LiteralAtom m = refl
rule_ends NameExpr m = refl
rule_ends LiteralExpr m = refl
rule_ends SimpleExpr m = refl
rule_ends SignedExpr m = refl
rule_ends NameSimple m = refl
rule_ends LiteralSimple m = refl
rule_ends UnaryOf m = refl
rule_ends ConcatOf m = refl
rule_ends More m = refl
rule_ends Start m = refl
rule_ends BinaryTail m = refl
rule_ends NoTail m = refl
rule_ends ChoiceTail m = refl
rule_ends SliceTail m = refl
rule_ends OrderTail m = refl
rule_ends ShiftTail m = refl
rule_ends (UnaryIs operator) m = refl
rule_ends (BinaryIs operator) m = refl
rule_ends OrderedBinary m = refl
rule_ends (OrderIs order) m = refl

pub ends-reduced : (r : Rule) (s : State) → (reduced r s).literal_ends ≡ s.literal_ends
ends-reduced r s = ap (λ (m : Marks). m.ends) (marks-reduced r s) ∙ rule_ends r (marks s)

-- ---- a token

abbrev pub mark_by : Bool → Bool → Bool → Lexeme → Marks → Marks
mark_by true literal start l m = record m { last = l.span; idents = record { span = l.span; name = name_text l.bytes } ∷ m.idents }
mark_by false true start l m = record m { last = l.span; ends = m.ends ++ l.span.to ∷ [] }
mark_by false false true l m = record m { last = l.span; starts = l.span.from ∷ m.starts }
mark_by false false false l m = record m { last = l.span }

-- what a token of this kind adds
abbrev pub mark_token : ℕ → Lexeme → Marks → Marks
mark_token kind l m = mark_by (is_name kind) (kind == LITERAL) (kind == ASSIGN) l m

abbrev kept_state : Bool → Bool → Bool → Bool → Lexeme → State → State
kept_state name literal number start l s =
    if name then record s { idents = record { span = l.span; name = name_text l.bytes } ∷ s.idents }
    else if literal then record s { literals = literal_of l.bytes ∷ s.literals; literal_ends = s.literal_ends ++ l.span.to ∷ [] }
    else if number then record s { numbers = min (width_said l.bytes) most ∷ s.numbers }
    else if start then record s { starts = l.span.from ∷ s.starts }
    else s

by_tests : (name literal number start : Bool) (l : Lexeme) (s : State) → (number ≡ true → start ≡ false) → marks (kept_state name literal number start l (record s { last = l.span })) ≡ mark_by name literal start l (marks s)
by_tests true literal number start l s one = refl
by_tests false true number start l s one = refl
by_tests false false true true l s one = let no : true ≡ false = one refl in absurd (cc)
by_tests false false true false l s one = refl
by_tests false false false true l s one = refl
by_tests false false false false l s one = refl

no_start : (kind : ℕ) → is_number kind ≡ true → (kind == ASSIGN) ≡ false
no_start kind is = grind (arith, nat_tests)

pub marks-shifted : (l : Lexeme) (s : State) → marks (shifted l s) ≡ mark_token l.kind l (marks s)
marks-shifted l s = by_tests (is_name l.kind) (l.kind == LITERAL) (is_number l.kind) (l.kind == ASSIGN) l s (no_start l.kind)
