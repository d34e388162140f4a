use Rattle.std.proofs.Common.{rules, ◌≡◌, ◌∙◌, ◌++◌, ◌∷◌, length, append_assoc, sym, ap, List}
use Rattle.dslx_check_leaves.specs.Walked.{PatternNames, all_bound}
use Rattle.dslx_check_leaves.proofs.Lemmas.OnArms.{bound_end, bound_then}
use Rattle.dslx_check_leaves.proofs.patterns.bind_last_first.Goals as goal

pub alternatives-preserved : goal.alternatives-preserved
alternatives-preserved c =
    let left : List PatternNames = c.pop.new.self.items in
    let names : PatternNames = c.in-Some.names in
    let around : PatternNames = c.alternatives.s.locals in
    let locals : all_bound left ++ c.bind_all.new.self ≡ all_bound c.alternatives.bound.items ++ around =
    ap (λ (ns : PatternNames). all_bound left ++ ns) c.in_ok-bind_all.ensures ∙ sym (append_assoc (all_bound left) names around)
    ∙ ap (λ (ns : PatternNames). ns ++ around) (sym (bound_then left names)) ∙ ap (λ (bs : List PatternNames). all_bound bs ++ around) (sym c.in-Some.ensures.items) in
    ap (λ (ns : PatternNames). record (c.alternatives.s) { locals = ns }) locals ∙ c.alternatives.invariant

pub returns : goal.returns
returns c =
    let empty : length c.alternatives.bound.items ≡ 0 = search rules in
    sym (ap (λ (ns : PatternNames). record (c.alternatives.s) { locals = ns ++ c.alternatives.s.locals }) (bound_end c.alternatives.bound.items empty)) ∙ c.alternatives.invariant
