use Rattle.std.proofs.Common.{◌∙◌, ℕ, List, Some, is_some, not, refl, ap}
use Rattle.std.specs.Prelude.{if◌then◌else◌}
use Rattle.std.specs.Str.{bytes_eq}
use Rattle.base.specs.NameTable.Found.{found}
use Rattle.dslx_check_declarations.proofs.OnConfig.{used_next}
use Rattle.dslx_check_declarations.proofs.config.Made.use_end.Goals as goal

pub returns : goal.returns
returns c = record {
  used = λ names h. used_next (found c.args.self.now.uses) (found c.put.new.self) c.args.name.now names
      (λ q. c.in_ok-put.ensures q
      ∙ (λ i. if bytes_eq q (c.as_str-2.ensures i) then Some (not ((c.has-is_new.ensures ∙ ap (λ (n : List ℕ). is_some (found c.args.self.now.uses n)) c.as_str.ensures) i)) else found c.args.self.now.uses q)) h;
  rest = refl;
}
