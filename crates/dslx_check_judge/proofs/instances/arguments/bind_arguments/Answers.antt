use Rattle.std.proofs.Common.{◌≡◌, ◌∙◌, ◌∷◌, length, take, arith, ap, refl, sym}
use Rattle.dslx_tree.specs.declared.item.Field.{Field}
use Rattle.std.proofs.lemmas.List.{length-take}
use Rattle.dslx_check_facts.specs.declared.type_env.TypeEnv.{TypeEnv as CodeEnv}
use Rattle.dslx_check_declarations.proofs.Lemmas.Listed.{take_next}
use Rattle.dslx_check_judge.proofs.OnInstances.OnArguments.{bound_all, bound_next, take_at}
use Rattle.dslx_check_judge.proofs.instances.arguments.bind_arguments.Goals as goal

pub arguments-init : goal.arguments-init
arguments-init c = refl

pub arguments-preserved : goal.arguments-preserved
arguments-preserved c =
    let xs = c.args.arguments.now in
    let ts = c.args.types.now in
    let i = c.arguments.i in
    let x = c.index-arguments-i.result in
    let t = c.in_ok-ty.ty in
    let long : length (take i xs) ≡ length (take i ts) = omega (arith, length-take i xs, length-take i ts) in
    ap (λ l. record c.arguments.s { locals = l }) c.in_ok-bind.ensures
    ∙ ap (λ (y : Field). record c.arguments.s { locals = (y.name.name, t) ∷ c.arguments.s.locals }) (sym c.index-arguments-i.is)
    ∙ ap (λ (s : CodeEnv). record s { locals = (x.name.name, t) ∷ s.locals }) c.arguments.invariant
    ∙ ap (λ l. record c.args.s.now { locals = l }) (bound_next c.args.s.now.locals xs ts i x t (take_next xs i x (omega arith) c.index-arguments-i.is) (take_at ts i t c.in_ok-ty.ensures) long)

pub returns : goal.returns
returns c = c.arguments.invariant ∙ ap (λ l. record c.args.s.now { locals = l }) (bound_all c.args.s.now.locals c.args.arguments.now c.args.types.now c.arguments.i (omega arith) (omega arith))
