use Rattle.std.proofs.Common.{refl, sym, subst, arith}
use Rattle.base.specs.Lists.Prefix.{IsPrefix}
use Rattle.base.proofs.Lemmas.Lists.Prefixes.{IsPrefix-length, IsPrefix-refl, IsPrefix-trans}
use Rattle.dslx_check_rules.proofs.OnBinary.{grows_either, received_is}
use Rattle.dslx_check_rules.specs.Interned.{KeepsItems}
use Rattle.dslx_check_rules.specs.declared.table.row.TypeRow.TheVariants as row
use Rattle.dslx_check_rules.proofs.Lemmas.Rows.{items_stay, items_stay_on, items_themselves}
use Rattle.dslx_check_rules.proofs.OnTable.Puts.{items_kept}
use Rattle.dslx_check_rules.proofs.OnTable.Sums.{both_there}
use Rattle.dslx_check_rules.proofs.table.table.TypeTable.received.Goals as goal

pub tuple-requires : goal.tuple-requires
tuple-requires c =
    both_there c.token.new.self c.in_ok-token.token c.args.word c.in_ok-parts.parts c.in_ok-parts.ensures c.in_ok-token.ensures.there
    (omega (arith, IsPrefix-length c.args.self.now c.token.new.self c.in_ok-token.ensures.grows, c.requires))

pub returns-clause-is : goal.returns-clause-is
returns-clause-is c =
    received_is c.tuple.result c.token.new.self c.tuple.new.self c.in_ok-token.token c.args.word c.in_ok-parts.parts c.in_ok-parts.ensures c.in_ok-token.ensures.is
    c.tuple.ensures.is c.tuple.ensures.grows

pub returns-clause-grows : goal.returns-clause-grows
returns-clause-grows c =
    IsPrefix-trans c.args.self.now c.token.new.self c.tuple.new.self c.in_ok-token.ensures.grows
    (grows_either c.tuple.result c.token.new.self c.tuple.new.self c.tuple.ensures.grows c.tuple.ensures.stays)

pub returns-in_err-token-clause-grows : goal.returns-in_err-token-clause-grows
returns-in_err-token-clause-grows c = subst (IsPrefix c.args.self.now) (sym c.in_err-token.ensures.stays) (IsPrefix-refl c.args.self.now)

pub returns-clause-items : goal.returns-clause-items
returns-clause-items c =
    items_stay_on c.args.self.now c.token.new.self c.tuple.new.self
    (subst (KeepsItems c.args.self.now) (sym c.in_ok-token.ensures.rows) (items_stay c.args.self.now row.Token refl))
    (items_kept c.tuple.result c.token.new.self c.tuple.new.self (row.Tuple c.in_ok-parts.parts) refl c.tuple.ensures.rows c.tuple.ensures.stays)

pub returns-in_err-token-clause-items : goal.returns-in_err-token-clause-items
returns-in_err-token-clause-items c = subst (KeepsItems c.args.self.now) (sym c.in_err-token.ensures.stays) (items_themselves c.args.self.now)

pub returns-in_err-parts-clause-items : goal.returns-in_err-parts-clause-items
returns-in_err-parts-clause-items c = subst (KeepsItems c.args.self.now) (sym c.in_ok-token.ensures.rows) (items_stay c.args.self.now row.Token refl)
