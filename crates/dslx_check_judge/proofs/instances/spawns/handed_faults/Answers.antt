use Rattle.std.proofs.Common.{ap}
use Rattle.std.specs.Option.{option_copied}
use Rattle.dslx_check_judge.proofs.OnInstances.OnSpawns.{cut_hands, seen_hands, unseen_hands, wrong_hands}
use Rattle.dslx_check_judge.proofs.instances.spawns.handed_faults.Goals as goal

pub returns-then-is_wrong : goal.returns-then-is_wrong
returns-then-is_wrong c = wrong_hands c.if-is_wrong.true c.none.ensures

pub returns-then-not-is_whole : goal.returns-then-not-is_whole
returns-then-not-is_whole c = cut_hands c.if-not-is_whole.true

pub returns-in-None : goal.returns-in-None
returns-in-None c = let there = c.in_ok-found.ensures in unseen_hands there.grows there.reached there.rows (ap option_copied c.in-None.is)

pub returns-in-Some : goal.returns-in-Some
returns-in-Some c = let there = c.in_ok-found.ensures in seen_hands c.in-Some.signature.now _ _ _ c.if-is_wrong.false there.grows there.reached there.rows there.seen (ap option_copied c.in-Some.is) c.as_slice.ensures.value c.as_slice-in-Some.ensures c.as_slice-in-Some-2.ensures c.each_handed.ensures
