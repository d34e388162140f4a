use Rattle.std.proofs.Common.{◌∙◌, ◌∷◌, [], ℕ, List, map, length, ap, sym}
use Rattle.std.specs.Prelude.{min}
use Rattle.std.proofs.lemmas.List.{length-map, map-append}
use denote.Ref.{Bor}
use Rattle.vlog_text.specs.Builder.Inner.Tabled.{placed}
use Rattle.vlog_text.specs.Builder.Parts.{index_from, undeclared}
use Rattle.vlog_text.proofs.OnBuilder.Tabling.{one_more_name}
use Rattle.vlog_text.proofs.builder.signals.Signals.declare.Goals as goal

pub invariant_of-self-in-Ok : goal.invariant_of-self-in-Ok
invariant_of-self-in-Ok c = λ q.
    one_more_name (map (λ (n : Bor (List ℕ)). n.now) c.self.inside.names.items) c.args.name.now (placed c.self.inside.places) (placed c.put_new.new.places) c.short-place.result c.self.invariant
    (c.short-place.ensures ∙ ap (λ k. min k undeclared) (ap length c.as_slice.ensures.value ∙ sym (length-map c.self.inside.names.items (λ (n : Bor (List ℕ)). n.now))))
    c.in-Ok.ensures.put q
    ∙ ap (λ ns. index_from 0 ns q) (sym (ap (map (λ (n : Bor (List ℕ)). n.now)) (c.in_ok-push.ensures {u = tt}).items ∙ map-append (λ (n : Bor (List ℕ)). n.now) c.self.inside.names.items (c.args.name ∷ [])))
