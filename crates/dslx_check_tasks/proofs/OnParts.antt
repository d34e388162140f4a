-- A part of a declaration that was walked over, and missed nothing, is told.
use Rattle.std.proofs.Common.{◌≡◌, ◌∙◌, ℕ, List, [], Option, Some, slice_get, ap}
use Rattle.dslx_check_rules.proofs.Lemmas.Types.{get_in_prefix}
use Rattle.dslx_check_facts.specs.declared.asked.ForeignKey.{ForeignKey}
use Rattle.dslx_check_facts.specs.declared.facts.Facts.{Facts}
use Rattle.dslx_check_facts.specs.declared.facts.ForeignSeen.{ForeignSeen}
use Rattle.dslx_check_facts.specs.declared.walk.Walk.{Walk}
use Rattle.dslx_check_facts.specs.Known.{text_of}
use Rattle.dslx_check_facts.specs.Walks.{WalkShown, shown}
use Rattle.dslx_check_facts.proofs.Lemmas.Walks.{tables_trans}
use Rattle.dslx_check_tasks.specs.Declarations.Judged.{JudgesForeign}
use Rattle.dslx_check_declarations.specs.Work.Learnt.{LearnsPart}
use Rattle.dslx_check_tasks.specs.Laws.{KnownHolds, KnownStays, PartIsJudged, PartIsKnown}
use Rattle.dslx_check_tasks.specs.declared.work.Reaches.{Reaches}
use Rattle.dslx_check_tasks.specs.declared.work.Work.{Work}
use Rattle.dslx_check_tasks.specs.Standing.{WorkGoesOn, Stands, own_globals}
use Rattle.dslx_check_tasks.proofs.Lemmas.Standing.{begun, found_stays, stands_begun, tables_begun}
use Rattle.dslx_check_tasks.proofs.OnItems.{stands_for}

pub told_text : (old new : Facts) (number : ℕ) (there : ForeignSeen) → LearnsPart old new number there → text_of new ≡ text_of old
told_text old new number there l = ap text_of l.rest

pub told : KnownHolds → KnownStays → PartIsKnown → PartIsJudged → (f new : Facts) (v1 v2 : WalkShown) (number : ℕ) (key : ForeignKey) (there : ForeignSeen) → JudgesForeign f v1 v2 key there → v2.missing ≡ []
    → slice_get v1.asked number ≡ Some key → v1.reached ≡ [] → LearnsPart f new number there → (items instances : List (Option Reaches)) → Stands f v1 items instances → Stands new v2 items instances
told holds stays is_known is_judged f new v1 v2 number key there judges none asked nothing l items instances s =
    let known = own_globals (text_of f) in
    let comes = judges.comes known (λ later t. holds f v1 later known s.knows (tables_trans v1 v2 later judges.grows.tables t)) s.knows.rows none nothing number
    (get_in_prefix v1.asked v2.asked number key judges.grows.tables.asked asked) in
    stands_for f new v2 items instances (told_text f new number there l) s.settled
    (is_known f new v2 known number there (stays f v1 v2 known judges.grows s.knows) l (is_judged f v2 known number there s.settled.declarations comes))
    (found_stays (text_of f) v1 v2 items instances judges.grows.tables s.found)

-- a part that was walked over from where a walk began, and is told
pub part_goes : KnownHolds → KnownStays → PartIsKnown → PartIsJudged → (w : Work) (new : Facts) (walk1 walk2 : Walk) (number : ℕ) (key : ForeignKey) (there : ForeignSeen) → shown walk1 ≡ begun (shown w.walk)
    → JudgesForeign w.facts (shown walk1) (shown walk2) key there → (shown walk2).missing ≡ [] → slice_get (shown w.walk).asked number ≡ Some key → LearnsPart w.facts new number there
    → WorkGoesOn w (record w { facts = new; walk = walk2 })
part_goes holds stays is_known is_judged w new walk1 walk2 number key there e judges none asked l = record {
  text = told_text w.facts new number there l;
  tables = tables_begun (shown w.walk) (shown walk1) (shown walk2) e judges.grows.tables;
  right = λ r. told holds stays is_known is_judged w.facts new (shown walk1) (shown walk2) number key there judges none (ap (λ (v : WalkShown). slice_get v.asked number) e ∙ asked) (ap (λ (v : WalkShown). v.reached) e) l
      w.items.items w.instances.items (stands_begun w.facts (shown w.walk) (shown walk1) w.items.items w.instances.items e r);
}
