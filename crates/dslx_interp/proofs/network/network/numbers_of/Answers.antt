use Rattle.std.proofs.Common.{◌++◌, ◌∷◌, ◌+◌, [], ◌∙◌, ap, sym, drop, append_assoc}
use Rattle.dslx_core.specs.Designs.{numbers_from}
use Rattle.dslx_interp.proofs.OnNetwork.OnFamily.Bounds.{next_number}
use Rattle.dslx_interp.proofs.network.network.numbers_of.Goals as goal

pub outer-preserved : goal.outer-preserved
outer-preserved c =
    let n = c.outer.number in
    let rest = numbers_from (n + 1) (drop (n + 1) c.args.outer.now) in
    ap (λ xs. xs ++ rest) (c.in_ok-push.ensures.items)
    ∙ append_assoc c.outer.numbers.items (n ∷ []) rest
    ∙ ap (λ ns. c.outer.numbers.items ++ ns) (sym (next_number n n c.args.outer.now c.outer-test.true))
    ∙ c.outer.invariant
