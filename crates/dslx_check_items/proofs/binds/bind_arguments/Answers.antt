use Rattle.std.proofs.Common.{◌∷◌, [], ℕ, List, sym, ap, ◌∙◌, arith}
use Rattle.dslx_tree.specs.declared.item.Field.{Field}
use Rattle.dslx_check_items.specs.Inner.Walks.{binding}
use Rattle.dslx_check_items.specs.Inner.Plain.{walk_shown}
use Rattle.dslx_check_items.proofs.OnMentions.Bindings.{begun, ended, singles, went_on}
use Rattle.dslx_check_items.proofs.binds.bind_arguments.Goals as goal

pub arguments-init : goal.arguments-init
arguments-init c = begun (λ (x : Field). x.name.name ∷ []) c.args.arguments.now (walk_shown c.args.w.now)

pub arguments-preserved : goal.arguments-preserved
arguments-preserved c =
    went_on (λ (x : Field). x.name.name ∷ []) c.args.arguments.now c.arguments.i _ c.index-arguments-at.result (walk_shown c.args.w.now) (walk_shown c.arguments.w) (walk_shown c.bind.new.self)
    (omega arith) c.index-arguments-at.is c.arguments.invariant (c.in_ok-bind.ensures ∙ ap (λ (x : Field). binding (x.name.name ∷ []) (walk_shown c.arguments.w)) (sym c.index-arguments-at.is))

pub returns : goal.returns
returns c =
    ended (λ (x : Field). x.name.name ∷ []) c.args.arguments.now c.arguments.i (walk_shown c.args.w.now) (walk_shown c.arguments.w) (omega arith) c.arguments.invariant
    ∙ ap (λ (names : List (List ℕ)). binding names (walk_shown c.args.w.now)) (singles (λ (x : Field). x.name.name) c.args.arguments.now)
