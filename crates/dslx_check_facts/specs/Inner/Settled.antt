-- Mentions of items of which nothing more is to be known.
use Rattle.std.specs.Prelude.{Bool, true, if◌then◌else◌}
use Rattle.dslx_meaning.specs.Items.{item_named}
use Rattle.dslx_meaning.specs.Rules.Mentions.{Mention, is_of_use}
use Rattle.dslx_check_facts.specs.Known.{is_settled, text_of}
use Rattle.dslx_check_facts.specs.declared.facts.Facts.{Facts}

-- no item is mentioned, or one that is so
abbrev pub mention_settles : Facts → Mention → Bool
mention_settles f m = if is_of_use m.use_as (item_named m.name (text_of f).items) then is_settled f m.name else true
