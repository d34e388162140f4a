use Rattle.std.proofs.Common.{◌≡◌, ◌∙◌, ◌++◌, ◌+◌, List, [], ◌∷◌, Option, length, take, reverse, arith, sym, ap, subst, refl}
use Rattle.std.proofs.lemmas.List.{length-reverse, length-take}
use Rattle.dslx_tree.specs.declared.item.Parametric.{Parametric}
use Rattle.dslx_meaning.specs.declared.value.DslxValue.{DslxValue}
use Rattle.dslx_check_facts.specs.declared.type_env.TypeEnv.{TypeEnv as CodeEnv}
use Rattle.dslx_check_facts.specs.Walks.{shown}
use Rattle.dslx_check_declarations.specs.Scopes.{BindsAll, declaring}
use Rattle.dslx_check_declarations.proofs.Lemmas.Listed.{take_next}
use Rattle.dslx_check_declarations.proofs.OnParts.{next_reversed}
use Rattle.dslx_check_declarations.proofs.OnScopes.{binds_more, binds_nothing, binds_upto}
use Rattle.dslx_check_declarations.proofs.parts.behind_values.Goals as goal

pub values-init : goal.values-init
values-init c = subst (λ (s : CodeEnv). BindsAll c.args.f.now (declaring c.args.item c.args.is_declaring) s (shown c.args.w.now) (shown c.args.w.now) [] [])
    (sym (ap (λ (s : CodeEnv). record s { is_declaring = c.args.is_declaring }) c.new-s.ensures)) (binds_nothing c.args.f.now (declaring c.args.item c.args.is_declaring) (shown c.args.w.now))

pub values-preserved : goal.values-preserved
values-preserved c =
    let ps = c.args.parametrics.now in
    let vs = c.args.values.now in
    let i = c.values.i in
    let p = c.index-parametrics-i.result in
    let v = c.index-values-count.result in
    let long : length (take i ps) ≡ length (take i (reverse vs)) = omega (arith, length-take i ps, length-take i (reverse vs), length-reverse vs, c.lesser-both.ensures) in
    subst (λ (l : List Parametric). BindsAll c.args.f.now (declaring c.args.item c.args.is_declaring) c.bind_next.new.s (shown c.args.w.now) (shown c.bind_next.new.w) l (take (i + 1) (reverse vs)))
    (sym (take_next ps i p (omega (arith, c.lesser-both.ensures)) c.index-parametrics-i.is))
    (subst (λ (l : List (Option DslxValue)). BindsAll c.args.f.now (declaring c.args.item c.args.is_declaring) c.bind_next.new.s (shown c.args.w.now) (shown c.bind_next.new.w) (take i ps ++ p ∷ []) l)
    (sym (next_reversed vs (length c.args.values.now) i _ v refl (omega (arith, c.lesser-both.ensures)) (omega arith) c.index-values-count.is))
    (binds_more (take i ps) (take i (reverse vs)) p v long c.values.invariant c.in_ok-bind_next.ensures))

pub returns : goal.returns
returns c = binds_upto c.args.parametrics.now (reverse c.args.values.now) c.values.i (omega (arith, c.lesser-both.ensures, length-reverse c.args.values.now)) c.values.invariant
