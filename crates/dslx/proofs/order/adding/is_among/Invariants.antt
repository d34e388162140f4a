use Rattle.std.proofs.Common.{◌≡◌, drop}
use Rattle.std.specs.List.{list_any}
use Rattle.dslx.specs.Order.Adding.{is_the_same}
use Rattle.dslx.proofs.order.adding.is_among.Given as goal

abbrev pub invariant-order : goal.invariant-order
invariant-order l = list_any (is_the_same l.instance) (drop l.other-index l.order) ≡ list_any (is_the_same l.instance) l.order
