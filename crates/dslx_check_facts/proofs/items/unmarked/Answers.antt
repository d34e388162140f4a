use Rattle.std.proofs.Common.{◌≡◌, ◌∙◌, subst}
use Rattle.std.specs.Str.{IsUtf8}
use Rattle.dslx_check_facts.proofs.OnNames.Bytes.{unmarked_text}
use Rattle.dslx_check_facts.proofs.items.unmarked.Goals as goal

pub returns : goal.returns
returns c = unmarked_text c.args.name.now (subst IsUtf8 (c.as_bytes-bytes.ensures.value ∙ c.as_str-text.ensures) c.as_bytes-bytes.ensures.utf8)
