use Rattle.std.proofs.Common.{◌∷◌, [], ℕ, List, sym, ap, ◌∙◌, arith}
use Rattle.dslx_tree.specs.declared.item.Parametric.{Parametric}
use Rattle.dslx_check_items.specs.Inner.Walks.{binding}
use Rattle.dslx_check_items.specs.Inner.Plain.{walk_shown}
use Rattle.dslx_check_items.proofs.OnMentions.Bindings.{begun, ended, singles, went_on}
use Rattle.dslx_check_items.proofs.binds.bind_parametrics.Goals as goal

pub parametrics-init : goal.parametrics-init
parametrics-init c = begun (λ (x : Parametric). x.name.name ∷ []) c.args.parametrics.now (walk_shown c.args.w.now)

pub parametrics-preserved : goal.parametrics-preserved
parametrics-preserved c =
    went_on (λ (x : Parametric). x.name.name ∷ []) c.args.parametrics.now c.parametrics.i _ c.index-parametrics-at.result (walk_shown c.args.w.now) (walk_shown c.parametrics.w) (walk_shown c.bind.new.self)
    (omega arith) c.index-parametrics-at.is c.parametrics.invariant (c.in_ok-bind.ensures ∙ ap (λ (x : Parametric). binding (x.name.name ∷ []) (walk_shown c.parametrics.w)) (sym c.index-parametrics-at.is))

pub returns : goal.returns
returns c =
    ended (λ (x : Parametric). x.name.name ∷ []) c.args.parametrics.now c.parametrics.i (walk_shown c.args.w.now) (walk_shown c.parametrics.w) (omega arith) c.parametrics.invariant
    ∙ ap (λ (names : List (List ℕ)). binding names (walk_shown c.args.w.now)) (singles (λ (x : Parametric). x.name.name) c.args.parametrics.now)
