use Rattle.std.proofs.Common.{◌∙◌, ap, Some}
use Rattle.std.specs.Prelude.{if◌then◌else◌}
use Rattle.std.proofs.lemmas.Map.Text.{hash_map_updates_str}
use Rattle.base.specs.NameTable.Found.{found}
use Rattle.base.proofs.OnNameTable.Texts.{bytes_eq-sym}
use Rattle.base.proofs.name_table.table.Table.put.Goals as goal

pub returns : goal.returns
returns g c = λ n.
    hash_map_updates_str c.args.name.now c.args.self.now.entries c.insert.new.self _ c.in_ok-insert.ensures.updates n
    ∙ ap (λ b. if b then Some c.args.value else found c.args.self.now n) (bytes_eq-sym c.args.name.now n)
