use Rattle.std.proofs.Common.{◌*◌, length}
use Rattle.dslx_meaning.specs.Rules.Namesakes.{told_apart}
use Rattle.dslx_check.proofs.OnText.OnNames.{known_by_names}
use Rattle.dslx_check.proofs.text.laws.texts_are_known_by_names.Goals as goal

pub returns : goal.returns
returns c = λ text reaching plain are.
    known_by_names text reaching (c.items_have_names_of_their_own.ensures text plain) (c.items_reach_by_names_as_by_numbers.ensures text plain) are
    (c.texts_have_items_by_kind.ensures (told_apart text) (2 * length (told_apart text).items))
    c.looping_items_mean_nothing.ensures.written c.looping_items_mean_nothing.ensures.fields c.looping_items_mean_nothing.ensures.constant c.looping_items_mean_nothing.ensures.member
