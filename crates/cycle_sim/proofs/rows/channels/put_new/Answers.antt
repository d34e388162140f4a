use Rattle.std.proofs.Common.{◌≡◌, ◌∙◌, ℕ, Bool, true, false, Option, Some, None, ap, sym}
use Rattle.std.specs.Prelude.{is_some, not}
use Rattle.std.specs.Option.{option_copied}
use Rattle.std.proofs.lemmas.Map.Text.{btree_map_updates_str}
use denote.Ref.{Bor}
use Rattle.cycle_sim.specs.Rows.Inner.Known.{number_in}
use Rattle.cycle_sim.proofs.OnRows.Known.{comes}
use Rattle.cycle_sim.proofs.rows.channels.put_new.Goals as goal

none_there : (o : Option (Bor ℕ)) (p : Option ℕ) (b : Bool) → option_copied o ≡ p → is_some o ≡ not b → b ≡ true → is_some p ≡ false
none_there None p b e f g = ap is_some (sym e)
none_there (Some x) p b e f g = let no : true ≡ false = f ∙ ap not g in absurd (cc)

pub returns-in_ok-insert : goal.returns-in_ok-insert
returns-in_ok-insert c =
    comes (number_in c.args.numbers.now) (number_in c.insert.new.self) c.args.name.now c.args.number
    (none_there c.get.result (number_in c.args.numbers.now c.args.name.now) c.is_none.result c.get.ensures.value c.is_none.ensures c.if-is_none.true)
    (λ q. btree_map_updates_str c.args.name.now c.args.numbers.now c.insert.new.self (Some c.args.number) c.in_ok-insert.ensures.updates q)
