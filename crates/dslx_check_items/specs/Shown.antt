-- What is mentioned, without references.
use Rattle.dslx_meaning.specs.Rules.Mentions as r
use Rattle.dslx_check_items.specs.declared.mention.Mention.{Mention}
use Rattle.dslx_check_items.specs.declared.mention.Use.{Use}
use Rattle.dslx_check_items.specs.declared.mention.Use.TheVariants as u

abbrev pub use_shown : Use → r.Use
use_shown u.Value = r.AsValue
use_shown u.Pattern = r.AsPattern
use_shown u.Type = r.AsType
use_shown u.Function = r.AsFunction
use_shown u.Proc = r.AsProc
use_shown u.Enum = r.AsEnum
use_shown u.Struct = r.AsStruct

abbrev pub mention_shown : Mention → r.Mention
mention_shown m = record { use_as = use_shown m.use_as; name = m.name.now }
