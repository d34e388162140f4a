use Rattle.std.proofs.Common.{◌≡◌, refl, ap, ◌∙◌, Bool, true, false, Option, Some, cond}
use Rattle.std.specs.Prelude.{◌||◌, is_some}
use Rattle.std.specs.Str.{bytes_eq}
use Rattle.std.proofs.lemmas.Map.Text.{btree_map_updates_str}
use Rattle.ir_tree.proofs.rules.names.Names.insert.Goals as goal

there : {A : Type 0} (b : Bool) (x : A) (o : Option A) → is_some (cond b (Some x) o) ≡ (b || is_some o)
there true x o = refl
there false x o = refl

pub returns-in-Ok-None-clause-names : goal.returns-in-Ok-None-clause-names
returns-in-Ok-None-clause-names c = λ q.
    ap is_some (btree_map_updates_str c.args.name.now c.args.self.now.seen c.insert.new.self _ c.in-Ok-None.ensures.updates q) ∙ there (bytes_eq c.args.name.now q) _ _

pub returns-in-Ok-Some-clause-names : goal.returns-in-Ok-Some-clause-names
returns-in-Ok-Some-clause-names c = λ q.
    ap is_some (btree_map_updates_str c.args.name.now c.args.self.now.seen c.insert.new.self _ c.in-Ok-Some.ensures.updates q) ∙ there (bytes_eq c.args.name.now q) _ _
