use Rattle.std.proofs.Common.{◌∙◌}
use Rattle.dslx_check_facts.specs.Walks.{shown}
use Rattle.dslx_check_facts.proofs.Lemmas.Walks.{grows_refl}
use Rattle.dslx_check_judge.proofs.OnItems.OnItems.{some_of}
use Rattle.dslx_check_judge.proofs.OnItems.OnEnums.{no_enum, whole_enum}
use Rattle.dslx_check_judge.proofs.items.enums.type_if_whole.Goals as goal

pub returns-then-is_whole-clause-postponed : goal.returns-then-is_whole-clause-postponed
returns-then-is_whole-clause-postponed c = whole_enum (shown c.args.w.now) (shown c.type_of_enum.new.w) c.args.item c.args.faults c.args.base c.type_of_enum.result c.is_whole.ensures c.if-is_whole.true c.type_of_enum.ensures

pub returns-else-is_whole-clause-finds : goal.returns-else-is_whole-clause-finds
returns-else-is_whole-clause-finds c = no_enum (some_of (shown c.args.w.now).missing c.is_whole.ensures c.if-is_whole.false)

pub returns-else-is_whole-clause-postponed : goal.returns-else-is_whole-clause-postponed
returns-else-is_whole-clause-postponed c = λ missing. grows_refl (shown c.args.w.now)
