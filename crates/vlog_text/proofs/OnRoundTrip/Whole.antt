-- A whole module: what its words build.
use Rattle.std.proofs.Common.{◌≡◌, ◌==◌, ◌∙◌, ℕ, Bool, true, false, List, [], ◌∷◌, ◌++◌, map, length, refl, sym, ap, ap₂, subst, append_assoc}
use Rattle.std.specs.Prelude.{codes, if◌then◌else◌}
use Rattle.std.specs.List.{AllByRecursion}
use Rattle.std.proofs.lemmas.Bool.{eqb-true}
use Rattle.std.proofs.lemmas.List.{nil_from_length}
use Rattle.base.specs.declared.grammar.table.Symbol.TheVariants.{Nonterminal}
use Rattle.vlog_text.specs.declared.token.rules.generated.nonterminal.TheConstants as nonterminal
use Rattle.vlog_tree.specs.declared.module.VModule.{VModule}
use Rattle.vlog_tree.specs.declared.module.Port.{Port}
use Rattle.vlog_tree.specs.declared.module.Set.{Set}
use Rattle.vlog_text.specs.Builder.Empty.{empty}
use Rattle.vlog_text.specs.Builder.Parts.{name_text}
use Rattle.vlog_text.proofs.OnRoundTrip.Core.{Core, core, design_of}
use Rattle.vlog_text.proofs.OnRoundTrip.Grammar as g
use Rattle.vlog_text.proofs.OnRoundTrip.Phrases.{says_always, says_assignments, says_declarations, says_name, says_port, says_ports}
use Rattle.vlog_text.proofs.OnRoundTrip.Says.{Says, says_is, says_next, says_nothing}
use Rattle.vlog_text.proofs.OnRoundTrip.Spelling.{and_first, and_second}
use Rattle.vlog_text.proofs.OnRoundTrip.Words.{IsWrittenModule, IsWrittenPort, always_words, declaration_names, is_unclocked, items_words, module_words, more_ports_words, port_names, port_words, ports_words, said_assignment, said_declaration, said_port, said_set}

-- ---- what the words do to what is being built

abbrev with_declarations : VModule → Core → Core
with_declarations m c = record c { signals = c.signals ++ declaration_names m.declarations; declarations = c.declarations ++ map said_declaration m.declarations }

abbrev with_assignments : VModule → Core → Core
with_assignments m c = record c { assignments = c.assignments ++ map (said_assignment m c.signals) m.assignments }

abbrev with_always : VModule → Core → Core
with_always m c = record c { resets = c.sets ++ map (said_set m c.signals) m.at_reset; clocks = map (said_set m c.signals) m.at_clock; sets = [] }

abbrev with_clocked : Bool → VModule → Core → Core
with_clocked true m c = c
with_clocked false m c = with_always m c

abbrev with_items : VModule → Core → Core
with_items m c = with_clocked (is_unclocked m) m (with_assignments m (with_declarations m c))

abbrev with_ports : Port → List Port → Core → Core
with_ports p ports c = record c { signals = (c.signals ++ name_text p.name ∷ []) ++ port_names ports; ports = (c.ports ++ said_port p ∷ []) ++ map said_port ports }

abbrev with_name : VModule → Core → Core
with_name m c = record c { names = name_text m.name ∷ c.names }

clocked_by : (m : VModule) → IsWrittenModule m → (b : Bool)
    → Says (Nonterminal nonterminal.CLOCKED ∷ []) (if b then [] else always_words m m.at_reset m.at_clock) (with_clocked b m)
clocked_by m w true = says_is (g.by_CLOCKED__NONE says_nothing) (λ c. refl)
clocked_by m w false = says_always m w.named m.at_reset m.at_clock w.resets w.clocks

says_items : (m : VModule) → IsWrittenModule m → Says (Nonterminal nonterminal.ITEMS ∷ []) (items_words m) (with_items m)
says_items m w =
    says_is (g.by_ITEMS (says_next (says_declarations m.declarations w.declarations) (says_next (says_assignments m w.named m.assignments w.assignments)
    (says_next (clocked_by m w (is_unclocked m)) g.word_ENDMODULE)))) (λ c. refl)

says_with : (m : VModule) → IsWrittenModule m → (p : Port) (ports : List Port) → IsWrittenPort p → AllByRecursion IsWrittenPort ports
    → Says (Nonterminal nonterminal.MODULE ∷ []) (codes "module" ∷ m.name ∷ codes "(" ∷ (ports_words (p ∷ ports) ++ codes ")" ∷ codes ";" ∷ items_words m))
    (λ c. with_items m (with_ports p ports (with_name m c)))
says_with m w p ports h k =
    says_is
    (subst (λ ws. Says (Nonterminal nonterminal.MODULE ∷ []) (codes "module" ∷ m.name ∷ codes "(" ∷ ws) (λ c. with_items m (with_ports p ports (with_name m c))))
    (sym (append_assoc (port_words p) (more_ports_words ports) (codes ")" ∷ codes ";" ∷ items_words m)))
    (says_is
    (g.by_MODULE (says_next g.word_MODULE (says_next (says_name m.name w.name.1) (says_next g.word_LPAREN (says_next (says_port p h) (says_next (says_ports ports k)
    (says_next g.word_RPAREN (says_next g.word_SEMI (says_items m w)))))))))
    (λ c. refl)))
    (λ c. refl)

-- ---- the module that is built

-- the names of the signals, as they are read
unfoldable pub read_names : VModule → List (List ℕ)
read_names m = port_names m.ports ++ declaration_names m.declarations

-- the module that is read
abbrev pub said_module : VModule → VModule
said_module m = record {
  name = name_text m.name;
  ports = map said_port m.ports;
  declarations = map said_declaration m.declarations;
  assignments = map (said_assignment m (read_names m)) m.assignments;
  at_reset = map (said_set m (read_names m)) m.at_reset;
  at_clock = map (said_set m (read_names m)) m.at_clock;
}

-- built with these ports
abbrev built_of : VModule → List Port → List Set → List Set → VModule
built_of m ports resets clocks = record {
  name = name_text m.name;
  ports = map said_port ports;
  declarations = map said_declaration m.declarations;
  assignments = map (said_assignment m (port_names ports ++ declaration_names m.declarations)) m.assignments;
  at_reset = map (said_set m (port_names ports ++ declaration_names m.declarations)) resets;
  at_clock = map (said_set m (port_names ports ++ declaration_names m.declarations)) clocks;
}

none_of : (sets : List Set) → (length sets == 0) ≡ true → sets ≡ []
none_of sets h = nil_from_length sets (eqb-true (length sets) 0 h)

built_by : (m : VModule) (p : Port) (ports : List Port) (b : Bool) → is_unclocked m ≡ b
    → design_of (with_clocked b m (with_assignments m (with_declarations m (with_ports p ports (with_name m (core empty)))))) ≡ built_of m (p ∷ ports) m.at_reset m.at_clock
built_by m p ports true e =
    ap₂ (built_of m (p ∷ ports)) (sym (none_of m.at_reset (and_first (length m.at_reset == 0) (length m.at_clock == 0) e)))
    (sym (none_of m.at_clock (and_second (length m.at_reset == 0) (length m.at_clock == 0) e)))
built_by m p ports false e = refl

-- a module with ports, and the words of its text
pub record IsBuilt (m : VModule) : Type 0 where
  pub does : Core → Core
  pub says : Says (Nonterminal nonterminal.MODULE ∷ []) (module_words m) does
  pub is : design_of (does (core empty)) ≡ said_module m

pub module_built : (m : VModule) → IsWrittenModule m → (p : Port) (ports : List Port) → m.ports ≡ p ∷ ports → IsBuilt m
unfolding read_names
module_built m w p ports e =
    let written = subst (AllByRecursion IsWrittenPort) e w.ports in
    record {
      does = λ c. with_items m (with_ports p ports (with_name m c));
      says = subst (λ qs. Says (Nonterminal nonterminal.MODULE ∷ []) (codes "module" ∷ m.name ∷ codes "(" ∷ (ports_words qs ++ codes ")" ∷ codes ";" ∷ items_words m)) (λ c. with_items m (with_ports p ports (with_name m c)))) (sym e)
          (says_with m w p ports written.0 written.1);
      is = built_by m p ports (is_unclocked m) refl ∙ ap (λ qs. built_of m qs m.at_reset m.at_clock) (sym e);
    }
