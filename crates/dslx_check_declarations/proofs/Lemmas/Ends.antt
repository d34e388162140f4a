-- Ends of channels.
use Rattle.std.proofs.Common.{◌≡◌, List, Option, Some, None}
use Rattle.base.specs.Lists.Prefix.{IsPrefix}
use Rattle.dslx_meaning.specs.Rules.TypeEnvs.{ChannelEnd}
use Rattle.dslx_check_rules.specs.declared.table.row.TypeRow.{TypeRow}
use Rattle.dslx_check_rules.specs.Interned.{ItemNames}
use Rattle.dslx_check_facts.specs.declared.type_env.MemberEnd.{MemberEnd}
use Rattle.dslx_check_facts.proofs.Lemmas.Judged.{row_stays_if}
use Rattle.dslx_check_declarations.specs.declared.ends.NamedEnd.{NamedEnd}
use Rattle.dslx_check_declarations.specs.Ends.{IsEndNamed, IsEndAs, IsNamed}

-- they stay so where types are added
end_as_stays : (names : ItemNames) (rows longer later : List TypeRow) (e : MemberEnd) (o : ChannelEnd) → IsPrefix rows longer → IsEndAs names rows later e o → IsEndAs names longer later e o
end_as_stays names rows longer later e o p h = record { row = row_stays_if rows longer e.word p h.row; direction = h.direction; word = h.word }

pub end_stays : (names : ItemNames) (rows longer later : List TypeRow) → IsPrefix rows longer → (e : Option MemberEnd) (o : Option ChannelEnd) → IsEndNamed names rows later e o → IsEndNamed names longer later e o
end_stays names rows longer later p None None h = tt
end_stays names rows longer later p None (Some o) h = absurd h
end_stays names rows longer later p (Some e) None h = absurd h
end_stays names rows longer later p (Some e) (Some o) h = end_as_stays names rows longer later e o p h

pub named_stays : (names : ItemNames) (rows longer later : List TypeRow) → IsPrefix rows longer → (e : NamedEnd) (o : ChannelEnd) → IsNamed names rows later e o → IsNamed names longer later e o
named_stays names rows longer later p e o h = record { name = h.name; end = end_as_stays names rows longer later e.end o p h.end }
