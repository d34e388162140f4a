use Rattle.std.proofs.Common.{◌≡◌, ◌∙◌, ◌&&◌, ◌<◌, ◌+◌, true, false, length, drop, arith, refl, sym, ap, subst}
use Rattle.dslx_check_rules.proofs.Lemmas.Nodes.Lists.{pair_at, pairs_long}
use Rattle.dslx_check_declarations.specs.Ends.{IsNamed}
use Rattle.dslx_check_declarations.specs.Procs.{are_members, is_member_of}
use Rattle.dslx_check_declarations.proofs.OnProcs.{member_step, no_member_left, not_as_many}
use Rattle.dslx_check_declarations.proofs.procs.is_members.Goals as goal

pub returns-then-members-idents : goal.returns-then-members-idents
returns-then-members-idents c = λ names later m os distinct p means named.
    not_as_many m os c.args.idents.now (λ e. omega (arith, e, pairs_long (IsNamed names c.args.types.now later) c.args.members.now os named, c.if-members-idents.true))

pub members-init : goal.members-init
members-init c = record { same_length = omega (arith, c.if-members-idents.false); same_rest = λ names later m os distinct p means named. refl }

pub members-preserved : goal.members-preserved
members-preserved c = record {
  same_length = c.members.invariant.same_length;
  same_rest = λ names later m os distinct p means named.
      let i = c.members.i in
      let x = c.index-idents-i.result in
      let q = pair_at (IsNamed names c.args.types.now later) c.args.members.now os i c.index-members-i.result named (omega arith) in
      let fits : is_member_of m q.0 x ≡ true = sym (c.is_member-fits.ensures names later m q.0 distinct p means (subst (λ e. IsNamed names c.args.types.now later e q.0) (sym c.index-members-i.is) q.2)) ∙ c.if-not-fits.false in
      sym (member_step m os c.args.idents.now i q.0 x q.1 (omega (arith, c.members.invariant.same_length)) c.index-idents-i.is
      ∙ ap (λ b. b && are_members m (drop (i + 1) os) (drop (i + 1) c.args.idents.now)) fits)
      ∙ c.members.invariant.same_rest names later m os distinct p means named;
}

pub returns-then-not-fits : goal.returns-then-not-fits
returns-then-not-fits c = λ names later m os distinct p means named.
    let i = c.members.i in
    let x = c.index-idents-i.result in
    let q = pair_at (IsNamed names c.args.types.now later) c.args.members.now os i c.index-members-i.result named (omega arith) in
    let fits : is_member_of m q.0 x ≡ false = sym (c.is_member-fits.ensures names later m q.0 distinct p means (subst (λ e. IsNamed names c.args.types.now later e q.0) (sym c.index-members-i.is) q.2)) ∙ c.if-not-fits.true in
    sym (ap (λ b. b && are_members m (drop (i + 1) os) (drop (i + 1) c.args.idents.now)) fits)
    ∙ sym (member_step m os c.args.idents.now i q.0 x q.1 (omega (arith, c.members.invariant.same_length)) c.index-idents-i.is)
    ∙ c.members.invariant.same_rest names later m os distinct p means named

pub returns : goal.returns
returns c = λ names later m os distinct p means named.
    no_member_left m os c.args.idents.now c.members.i (omega (arith, pairs_long (IsNamed names c.args.types.now later) c.args.members.now os named)) (omega (arith, c.members.invariant.same_length))
    ∙ c.members.invariant.same_rest names later m os distinct p means named
