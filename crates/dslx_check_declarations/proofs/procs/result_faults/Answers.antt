use Rattle.dslx_check_declarations.proofs.OnProcs.{ends_are}
use Rattle.dslx_check_declarations.proofs.procs.result_faults.Goals as goal

pub returns : goal.returns
returns c = ends_are c.args.process.now _ c.as_slice-idents.ensures c.unknown_ends-unknown.ensures c.in_ok-use_all.ensures c.all_once-are_used.ensures c.is_members.ensures c.both-is_right.ensures c.breaks_if-own.ensures c.and.ensures
