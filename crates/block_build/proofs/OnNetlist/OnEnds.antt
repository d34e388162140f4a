-- What the wires of a channel's end say.
use Rattle.std.proofs.Common.{◌≡◌, ℕ, suc, List, [], ◌∷◌, ap, ◌∙◌, cond, Bool}
use Rattle.std.specs.Prelude.{◌||◌}
use Rattle.xb_bits.specs.Word.{Word}
use Rattle.vlog_tree.specs.declared.expression.Atom.{Atom}
use Rattle.vlog_tree.specs.Value.{Values, bit, atom_value}
use Rattle.block_build.specs.Netlist.Wires.{AreWired}
use Rattle.block_build.specs.Netlist.Gates.{net}
use Rattle.block_build.specs.Netlist.Ends.{RequestNets, RequestValues, RequestsAre, some_wires, some_net, some_asserted, word_wires, word_net, asserted_word}
use Rattle.block_build.proofs.OnNetlist.OnGates.{disjunction, choice}

pub some_is_asked : (v : Values) (asserts : List RequestNets) (said : List RequestValues) (k : ℕ) (so_far : Atom) (t : Bool) → AreWired v k (some_wires k so_far asserts) → atom_value v so_far ≡ bit t → RequestsAre v asserts said
    → atom_value v (some_net k so_far asserts) ≡ bit (some_asserted t said)
some_is_asked v [] [] k so_far t h e said = e
some_is_asked v [] (s ∷ ss) k so_far t h e said = absurd said
some_is_asked v (a ∷ rest) [] k so_far t h e said = absurd said
some_is_asked v (a ∷ rest) (s ∷ ss) k so_far t h e said =
    some_is_asked v rest ss (suc k) (net k) (t || s.ask) h.1 (disjunction (v k) (atom_value v so_far) (atom_value v a.ask) t s.ask h.0 e said.0) said.2

pub the_word_is_asked : (v : Values) (width : ℕ) (asserts : List RequestNets) (said : List RequestValues) (k : ℕ) (so_far : Atom) (w : Word) → AreWired v k (word_wires width k so_far asserts) → atom_value v so_far ≡ w → RequestsAre v asserts said
    → atom_value v (word_net k so_far asserts) ≡ asserted_word w said
the_word_is_asked v width [] [] k so_far w h e said = e
the_word_is_asked v width [] (s ∷ ss) k so_far w h e said = absurd said
the_word_is_asked v width (a ∷ rest) [] k so_far w h e said = absurd said
the_word_is_asked v width (a ∷ rest) (s ∷ ss) k so_far w h e said =
    the_word_is_asked v width rest ss (suc k) (net k) (cond s.ask s.word w) h.1
    (choice (v k) (atom_value v a.ask) (atom_value v a.word) (atom_value v so_far) s.ask h.0 said.0
    ∙ ap (λ z. cond s.ask z (atom_value v so_far)) said.1
    ∙ ap (λ z. cond s.ask s.word z) e) said.2
