use Rattle.std.proofs.Common.{◌≡◌, ◌∙◌, map, subst, sym}
use Rattle.dslx_check_rules.specs.Nodes.Nodes.Structs.{IsField}
use Rattle.dslx_check_rules.specs.Nodes.Parts.{Pairs}
use Rattle.dslx_check_uses.specs.Inner.Fields.{without_type}
use Rattle.dslx_check_uses.specs.Uses.{unwanted}
use Rattle.dslx_check_uses.proofs.OnFields.{unwanted_are}
use Rattle.dslx_check_uses.proofs.structs.undeclared_struct.Goals as goal

pub returns : goal.returns
returns c = record {
  typed = λ names later distinct p xs o placed rest.
      let is : c.as_slice.result.now ≡ map without_type c.args.values.now = c.as_slice.ensures.value ∙ c.in_ok-all.ensures in
      c.undeclared_struct_typing.ensures.typed names later distinct p (unwanted xs) o
      (subst (λ l. Pairs (IsField names c.args.types.now later) l (unwanted xs)) (sym is) (unwanted_are names c.args.types.now later c.args.values.now xs placed)) rest;
}
