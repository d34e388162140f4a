use Rattle.std.proofs.Common.{◌≡◌, drop, map}
use Rattle.std.specs.List.{list_all}
use Rattle.dslx_config.specs.Channels.Widths.{has_word_widths}
use Rattle.dslx_config.proofs.channels.travel.+has_widths.Given as goal

abbrev pub invariant-have_widths-types : goal.invariant-have_widths-types
invariant-have_widths-types l = list_all (λ b. b) (map has_word_widths (drop l.ty-index l.types)) ≡ list_all (λ b. b) (map has_word_widths l.types)
