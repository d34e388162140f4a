use Rattle.std.proofs.Common.{◌≡◌, ◌∙◌, ℕ, Bool, true, false, Option, Some, None, ap, sym}
use Rattle.std.specs.Prelude.{if◌then◌else◌, is_some}
use Rattle.std.specs.Option.{option_copied}
use Rattle.std.proofs.lemmas.Map.Text.{hash_map_updates_str}
use denote.Ref.{Bor}
use Rattle.vlog_text.specs.Builder.Inner.Tabled.{placed}
use Rattle.vlog_text.proofs.OnBuilder.Tabling.{bytes_eq-sym, comes}
use Rattle.vlog_text.proofs.builder.signals.put_new.Goals as goal

none_there : (o : Option (Bor ℕ)) (p : Option ℕ) (b : Bool) → option_copied o ≡ p → b ≡ is_some o → b ≡ false → is_some p ≡ false
none_there None p b e f g = ap is_some (sym e)
none_there (Some x) p b e f g = let no : true ≡ false = sym f ∙ g in absurd (cc)

pub returns-in-Ok-clause-put : goal.returns-in-Ok-clause-put
returns-in-Ok-clause-put c =
    comes (placed c.args.places.now) (placed c.insert.new.self) c.args.name.now c.args.place
    (none_there c.get.result (placed c.args.places.now c.args.name.now) c.is_some.result c.get.ensures.value c.is_some.ensures c.if-is_some.false)
    (λ q. hash_map_updates_str c.args.name.now c.args.places.now c.insert.new.self (Some c.args.place) c.in-Ok.ensures.updates q
    ∙ ap (λ b. if b then Some c.args.place else placed c.args.places.now q) (bytes_eq-sym c.args.name.now q))
