-- What is found of the top.
use denote.Ref.{Bor}
use Rattle.std.proofs.Common.{◌≡◌, ◌∙◌, ℕ, List, [], length, drop, Option, Some, None, sym, ap, subst}
use Rattle.dslx_tree.specs.declared.item.Module.{Module}
use Rattle.dslx_tree.specs.declared.process.Proc.{Proc}
use Rattle.dslx_meaning.specs.Rules.ModuleRules.{top_found}
use Rattle.dslx_check_rules.specs.Seen.{seen}
use Rattle.dslx_check_facts.specs.declared.facts.Facts.{Facts}
use Rattle.dslx_check_facts.specs.declared.walk.Walk.{Walk}
use Rattle.dslx_check_facts.specs.Names.{names_of}
use Rattle.dslx_check_facts.specs.Walks.{WalkShown, instances_at, shown}
use Rattle.dslx_check_facts.proofs.Lemmas.Walks.{tables_trans}
use Rattle.dslx_check_declarations.specs.Tops.{IsProcAt, IsProcIf}
use Rattle.dslx_check_judge.specs.Items.Judged.{FindsAs}
use Rattle.dslx_check_tasks.specs.Declarations.Judged.{JudgesTop}
use Rattle.dslx_check_tasks.specs.declared.declarations.tops.TopSeen.{TopSeen}
use Rattle.dslx_check_tasks.specs.Laws.{KnownHolds}
use Rattle.dslx_check_tasks.specs.declared.work.Reaches.{Reaches}
use Rattle.dslx_check_tasks.specs.declared.work.Work.{Work}
use Rattle.dslx_check_tasks.specs.Standing.{FindsTop, WorkGoesOn, IsFoundBy, own_globals, text_in}
use Rattle.dslx_check_tasks.proofs.Lemmas.Standing.{begun, stands_begun}

-- where there is none
pub no_top : (w : Work) (r : Reaches) → r.faults ≡ seen [] → r.reached.items ≡ [] → FindsTop w w None r
no_top w r faults reached right = record { faults = faults; reached = λ later t. ap (instances_at (names_of (text_in w)) later.met) reached }

pub later_top : (a b c : Work) (top : Option Proc) (r : Reaches) → WorkGoesOn a b → FindsTop b c top r → FindsTop a c top r
later_top a b c top r g h right = subst (λ (t : Module). IsFoundBy (names_of t) (shown c.walk) r (top_found (own_globals t) top)) g.text (h (g.right right))

-- a walk over the top that missed nothing
pub top_walked : KnownHolds → (w : Work) (walk1 walk2 : Walk) (item : ℕ) (process p : Proc) (t : TopSeen) (r : Reaches) → shown walk1 ≡ begun (shown w.walk) → JudgesTop w.facts (shown walk1) (shown walk2) item process t
    → (shown walk2).missing ≡ [] → IsProcAt w.facts item process p → r.faults ≡ t.faults → r.reached.items ≡ (shown walk2).reached → FindsTop w (record w { walk = walk2 }) (Some p) r
top_walked holds w walk1 walk2 item process p t r e judges none at faults reached right =
    let s = stands_begun w.facts (shown w.walk) (shown walk1) w.items.items w.instances.items e right in
    let known = own_globals (text_in w) in
    let found : FindsAs w.facts (shown walk1) (shown walk2) t.faults (top_found known (Some p)) =
    judges.finds known (λ later i. holds w.facts (shown walk1) later known s.knows (tables_trans (shown walk1) (shown walk2) later judges.grows.tables i)) s.knows.rows none p at in
    let nothing : (shown walk1).reached ≡ [] = ap (λ (v : WalkShown). v.reached) e in
    record {
      faults = faults ∙ found.faults_are;
      reached = λ later i. ap (instances_at (names_of (text_in w)) later.met) (reached ∙ ap (λ (l : List ℕ). drop (length l) (shown walk2).reached) (sym nothing)) ∙ found.reaches later i;
    }

-- what is promised of the proc that is the top, if one is, is so of it
pub of_top : (f : Facts) (o : Option Proc) (t : Option (ℕ × Bor Proc)) (q : ℕ × Bor Proc) → t ≡ Some q → IsProcIf f o t → (X : Option Proc → Type 0) → ((p : Proc) → IsProcAt f q.0 q.1.now p → X (Some p)) → X o
of_top f None t q e h X made = absurd (subst (IsProcIf f None) e h)
of_top f (Some p) t q e h X made = made p (subst (IsProcIf f (Some p)) e h)

pub of_no_top : (f : Facts) (o : Option Proc) (t : Option (ℕ × Bor Proc)) → t ≡ None → IsProcIf f o t → (X : Option Proc → Type 0) → X None → X o
of_no_top f None t e h X made = made
of_no_top f (Some p) t e h X made = absurd (subst (IsProcIf f (Some p)) e h)
