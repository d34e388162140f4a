use Rattle.dslx_check_rules.proofs.Lemmas.Seen.{both_seen, or_first, or_second}
use Rattle.dslx_check_rules.proofs.faults.Faults.and.Goals as goal

pub returns-then-self : goal.returns-then-self
returns-then-self c = λ a b p q.
    both_seen a b c.args.self c.args.other (record { first = c.earlier.result; broken = c.args.self.broken }) p q c.earlier.ensures
    (or_first c.args.self.broken c.args.other.broken c.if-self.true)

pub returns-else-self : goal.returns-else-self
returns-else-self c = λ a b p q.
    both_seen a b c.args.self c.args.other (record { first = c.earlier.result; broken = c.args.other.broken }) p q c.earlier.ensures
    (or_second c.args.self.broken c.args.other.broken c.if-self.false)
