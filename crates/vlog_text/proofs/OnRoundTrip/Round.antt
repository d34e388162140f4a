-- A printed module reads back.
use Rattle.std.proofs.Common.{◌≡◌, ◌<◌, ◌≤◌, ◌^◌, ◌∙◌, ℕ, List, [], ◌∷◌, ◌++◌, map, length, None, Ok, refl, sym, ap, subst, append-nil, arith}
use Rattle.std.specs.Prelude.{codes, flat_map}
use Rattle.std.proofs.lemmas.List.{length-append, length-map}
use Rattle.std.proofs.lemmas.List.Concat.{flat_map-cons}
use Rattle.xb_value.specs.Text.{listed}
use Rattle.base.specs.Grammar.Steps.{steps_of}
use Rattle.base.specs.Grammar.Tree.{productions_of}
use Rattle.dslx_token.specs.Lexeme.{Lexeme}
use Rattle.vlog_text.specs.Token.Rules.Verilog.{verilog}
use Rattle.vlog_tree.specs.declared.module.VModule.{VModule}
use Rattle.vlog_tree.specs.declared.module.Port.{Port}
use Rattle.vlog_tree.specs.declared.module.Declaration.{Declaration}
use Rattle.vlog_tree.specs.declared.module.Assignment.{Assignment}
use Rattle.vlog_tree.specs.declared.module.Direction.{Direction}
use Rattle.vlog_tree.specs.declared.module.Direction.TheVariants as directions
use Rattle.vlog_tree.specs.declared.module.Storage.{Storage}
use Rattle.vlog_tree.specs.declared.module.Storage.TheVariants as storages
use Rattle.vlog_tree.specs.Signals.{declared_own, declared_port, signals}
use Rattle.vlog_tree.specs.WellFormed.{CanRun}
use Rattle.vlog_tree.specs.declared.verifier.part_spans.PartSpans.{PartSpans}
use Rattle.vlog_tree.specs.Verifier.WithSpans.{no_spans}
use Rattle.vlog_tree.specs.Verifier.Verified.{IsVerdict}
use Rattle.vlog_text.specs.Token.Tokens.{HasTokens, ends, verilog_lexeme_at}
use Rattle.vlog_text.specs.Builder.Building.{built, parsed_of}
use Rattle.vlog_text.specs.Builder.Empty.{empty}
use Rattle.vlog_text.specs.Parser.Reads.{Reads, whole}
use Rattle.vlog_text.specs.declared.builder.parsed.Parsed.{Parsed}
use Rattle.vlog_text.specs.declared.builder.state.State.{State}
use Rattle.vlog_text.specs.Printer.Parts.{expr_text, signal_text}
use Rattle.vlog_text.specs.Printer.ModuleText.{assignment_start, assignment_text, clocked_text, declaration_text, direction_text, module_start, module_text, port_text, storage_text}
use Rattle.vlog_text.specs.Reader.Given.{GivesModule, sound}
use Rattle.vlog_text.specs.RoundTrip.Names.{HasTextNames}
use Rattle.vlog_text.proofs.OnRoundTrip.Core.{core, design-of_core, design_of}
use Rattle.vlog_text.proofs.OnRoundTrip.Cuts.{Opens}
use Rattle.vlog_text.proofs.OnRoundTrip.WithSpans.{verdict_anywhere, names_apart}
use Rattle.vlog_text.proofs.OnRoundTrip.Resolved.{same_module}
use Rattle.vlog_text.proofs.OnRoundTrip.Says.{AreOf, are-append, are-kinds, says_next, says_token}
use Rattle.vlog_text.proofs.OnRoundTrip.Texts.{module_cut}
use Rattle.vlog_text.proofs.OnRoundTrip.Whole.{IsBuilt, module_built, said_module}
use Rattle.vlog_text.proofs.OnRoundTrip.Words.{module_words}
use Rattle.vlog_text.proofs.OnRoundTrip.Writing.{written}

-- ---- a text is longer than its signals are many

behind_longer : (a b : List ℕ) → length b ≤ length (a ++ b)
behind_longer a b = omega (arith, length-append a b)

prefix_longer : (a b : List ℕ) → length a ≤ length (a ++ b)
prefix_longer a b = omega (arith, length-append a b)

direction_some : (d : Direction) → 1 ≤ length (direction_text d)
direction_some directions.Input = omega arith
direction_some directions.Output = omega arith

storage_some : (s : Storage) → 1 ≤ length (storage_text s)
storage_some storages.Wire = omega arith
storage_some storages.Register = omega arith

ports_fewer : (separator : List ℕ) (ports : List Port) → length ports ≤ length (listed separator (map port_text ports))
ports_fewer separator [] = omega arith
ports_fewer separator (p ∷ ports) =
    let more = ports_fewer (codes ", ") ports in
    let some = direction_some p.direction in
    let port : length (direction_text p.direction) ≤ length (port_text p) = prefix_longer (direction_text p.direction) _ in
    let both = length-append (port_text p) (listed (codes ", ") (map port_text ports)) in
    let all = length-append separator (port_text p ++ listed (codes ", ") (map port_text ports)) in
    omega (arith, more, some, port, both, all)

declarations_fewer : (ds : List Declaration) → length ds ≤ length (flat_map declaration_text ds)
declarations_fewer [] = omega arith
declarations_fewer (d ∷ ds) =
    let more = declarations_fewer ds in
    let some = storage_some d.storage in
    let own : length (storage_text d.storage) ≤ length (declaration_text d) = prefix_longer (storage_text d.storage) _ in
    let all = ap length (flat_map-cons declaration_text d ds) ∙ length-append (declaration_text d) (flat_map declaration_text ds) in
    omega (arith, more, some, own, all)

ports_in_start : (m : VModule) → length m.ports ≤ length (module_start m)
unfolding module_start
ports_in_start m =
    let ports = ports_fewer [] m.ports in
    let a = prefix_longer (listed [] (map port_text m.ports)) (codes ");\n") in
    let b = behind_longer (codes "(") (listed [] (map port_text m.ports) ++ codes ");\n") in
    let c = behind_longer m.name (codes "(" ++ (listed [] (map port_text m.ports) ++ codes ");\n")) in
    let d = behind_longer (codes "module ") (m.name ++ (codes "(" ++ (listed [] (map port_text m.ports) ++ codes ");\n"))) in
    omega (arith, ports, a, b, c, d)

fewer : (m : VModule) → length (signals m) ≤ length (module_text m)
fewer m =
    let ports = ports_in_start m in
    let own = declarations_fewer m.declarations in
    let count = length-append (map declared_port m.ports) (map declared_own m.declarations) in
    let p = length-map m.ports declared_port in
    let d = length-map m.declarations declared_own in
    let rest : List ℕ = flat_map (assignment_text m) m.assignments ++ (clocked_text m ++ codes "endmodule\n") in
    let whole = length-append (module_start m) (flat_map declaration_text m.declarations ++ rest) in
    let back = prefix_longer (flat_map declaration_text m.declarations) rest in
    omega (arith, ports, own, count, p, d, whole, back)

-- each assignment's text begins with a word
assignment_some : (m : VModule) (a : Assignment) → 1 ≤ length (assignment_text m a)
unfolding assignment_start
assignment_some m a =
    let start = prefix_longer (codes "assign ") (signal_text m a.target.0 ++ codes " = ") in
    let own = prefix_longer (assignment_start m a.target.0) (expr_text m a.value ++ codes ";\n") in
    omega (arith, start, own)

texts_fewer : (m : VModule) (xs : List Assignment) → length xs ≤ length (flat_map (assignment_text m) xs)
texts_fewer m [] = omega arith
texts_fewer m (a ∷ xs) =
    let more = texts_fewer m xs in
    let some = assignment_some m a in
    let all = ap length (flat_map-cons (assignment_text m) a xs) ∙ length-append (assignment_text m a) (flat_map (assignment_text m) xs) in
    omega (arith, more, some, all)

assignments_fewer : (m : VModule) → length m.assignments ≤ length (module_text m)
assignments_fewer m =
    let own = texts_fewer m m.assignments in
    let rest : List ℕ = clocked_text m ++ codes "endmodule\n" in
    let a = prefix_longer (flat_map (assignment_text m) m.assignments) rest in
    let b = behind_longer (flat_map declaration_text m.declarations) (flat_map (assignment_text m) m.assignments ++ rest) in
    let c = behind_longer (module_start m) (flat_map declaration_text m.declarations ++ (flat_map (assignment_text m) m.assignments ++ rest)) in
    omega (arith, own, a, b, c)

-- ---- tokens of a whole text

record HasWords (text : List ℕ) (words : List (List ℕ)) : Type 0 where
  lexemes : List Lexeme
  are : AreOf lexemes (words ++ [] ∷ [])
  tokens : HasTokens text text lexemes

has_words : (text : List ℕ) (words : List (List ℕ)) → Opens text words → HasWords text words
has_words text words x =
    let end = verilog_lexeme_at (length text) [] in
    let cut = x.cut text [] (end ∷ []) (ends [] refl) in
    record {
      lexemes = cut.lexemes ++ end ∷ [];
      are = are-append cut.lexemes (end ∷ []) words ([] ∷ []) cut.are ((length text, refl), tt);
      tokens = subst (λ t. HasTokens text t (cut.lexemes ++ end ∷ [])) (append-nil text) cut.cuts;
    }

-- ---- what is parsed

no_more : (ls : List Lexeme) (s : State) → built [] ls s ≡ s
unfolding built
no_more ls s = refl

record IsReadAs (ls : List Lexeme) (m : VModule) : Type 0 where
  parsed : Parsed
  reads : Reads ls parsed
  design : parsed.design ≡ m

read_as : (m : VModule) (b : IsBuilt m) (ls : List Lexeme) → AreOf ls (module_words m ++ [] ∷ []) → said_module m ≡ m → IsReadAs ls m
unfolding verilog
read_as m b ls are same =
    let x = says_next b.says (says_token []) in
    let made = x.makes [] [] ls empty (subst (AreOf ls) (sym (append-nil (module_words m ++ [] ∷ []))) are) in
    let state = built (steps_of x.forest) ls empty in
    let state_is : built (steps_of x.forest) ls empty ≡ made.after =
    ap (λ steps. built steps ls empty) (sym (append-nil (steps_of x.forest))) ∙ made.built_is ∙ no_more made.rest made.after in
    record {
      parsed = parsed_of state;
      reads = record {
        productions = productions_of x.forest;
        forest = x.forest;
        derived = record { grows = x.grows; productions = refl; tokens = x.leaves ∙ sym (are-kinds ls (module_words m ++ [] ∷ []) are) };
        parsed_is = refl;
      };
      design = design-of_core state ∙ ap (λ s. design_of (core s)) state_is ∙ ap design_of made.core_is ∙ b.is ∙ same;
    }

-- ---- the round trip

-- what is judged can run: the law is an argument
pub round : ((m : VModule) (part_spans : PartSpans) → IsVerdict m part_spans None → length m.assignments < 2 ^ 32 → CanRun m)
    → (m : VModule) → IsVerdict m no_spans None → HasTextNames m → length (module_text m) < 2 ^ 32 → GivesModule (module_text m) (Ok m)
round can_run m judged names short =
    let run = can_run m no_spans judged (let count = assignments_fewer m in omega (arith, count, short)) in
    let w = written m run names in
    let ports = run.wired.ports in
    let few : length (signals m) < 4294967296 = let count = fewer m in omega (arith, count, short) in
    let same = same_module m w (names_apart m judged) few in
    let words = has_words (module_text m) (module_words m) (module_cut m w.named w) in
    let read = read_as m (module_built m w ports.clock (ports.reset ∷ ports.channels) ports.are) words.lexemes words.are same in
    subst (λ d. GivesModule (module_text m) (Ok d)) read.design
    (sound words.lexemes read.parsed words.tokens (whole read.parsed read.reads)
    (subst (λ d. IsVerdict d read.parsed.part_spans None) (sym read.design) (verdict_anywhere m read.parsed.part_spans judged)))
