use Rattle.std.proofs.Common.{rules}
use Rattle.xls_cmd.proofs.OnShared.Loaded.{loaded_whole, loaded_past_limit}
use Rattle.xls_cmd.proofs.shared.loading.load.Goals as goal

pub returns-in-Ok-clause-loaded : goal.returns-in-Ok-clause-loaded
returns-in-Ok-clause-loaded g c = (tt, loaded_whole _ c.args.name.now c.in-Ok.bytes.items c.in-Ok.ensures.ok_as_told (search rules))

pub returns-in-Err-TooBig-clause-refused : goal.returns-in-Err-TooBig-clause-refused
returns-in-Err-TooBig-clause-refused g c = (
  (tt, loaded_past_limit _ c.args.name.now (rw c.in-Err-TooBig.field-0-is at c.in-Err-TooBig.ensures.too_big_as_told)),
  rw c.in-Err-TooBig.field-0-is at c.in-Err-TooBig.ensures.unless_failed,
  rw c.in-Err-TooBig.field-0-is at c.in-Err-TooBig.ensures.too_big_taken,
)
