use Rattle.std.proofs.Common.{◌≡◌, ◌∙◌, [], Option, Some, ap, sym}
use Rattle.std.proofs.lemmas.Result.{IfOk-weaker}
use Rattle.dslx_meaning.specs.Lists.{and_then, where_true}
use Rattle.dslx_meaning.specs.declared.ty.DslxType.{DslxType}
use Rattle.dslx_core.specs.Lowering.Steps.{can_travel}
use Rattle.dslx_core.specs.Lowering.Trees.{lower_type_of_text}
use Rattle.dslx_core.specs.Machines.Machine.Callees.{CalleesByName}
use Rattle.dslx_scope_names.specs.Patterns.Behind.{body_scope}
use Rattle.dslx_config.specs.Members.Members.{numbered_member}
use Rattle.dslx_config.proofs.members.member.member_of.Goals as goal

pub returns-in-Some : goal.returns-in-Some
returns-in-Some c =
    IfOk-weaker c.travelling.result (λ m. m ≡ where_true (can_travel c.in-Some.word) (Some (record { number = c.args.number; word = c.in-Some.word })))
    (λ m. (callee : CalleesByName) → m ≡ numbered_member (body_scope callee c.args.known [] 0) c.args.number c.args.end.now)
    (λ m is callee.
    let lowered : lower_type_of_text c.args.end.now.word (body_scope callee c.args.known [] 0) ≡ Some c.in-Some.word = sym (c.in_ok-word.ensures callee) ∙ c.in-Some.is in
    is ∙ sym (ap (λ (o : Option DslxType). and_then o (λ t. where_true (can_travel t) (Some (record { number = c.args.number; word = t })))) lowered))
    c.travelling.ensures
