-- Types whose bits are 1 to 128 wide.
use Rattle.std.specs.Prelude.{Bool, true, nat_le, ◌&&◌}
use Rattle.std.specs.List.{list_all}
use Rattle.dslx_meaning.specs.declared.ty.DslxType.{DslxType, fold-DslxType}
use Rattle.dslx_meaning.specs.declared.ty.DslxType.TheOpen.{DslxType-F}

abbrev pub word_widths_step : DslxType-F Bool → Bool
word_widths_step (DslxType-F.Bits s w) = nat_le 1 w && nat_le w 128
word_widths_step (DslxType-F.Tuple bs) = list_all (λ b. b) bs
word_widths_step (DslxType-F.Array b n) = b
word_widths_step (DslxType-F.Struct name fields bs) = list_all (λ b. b) bs
word_widths_step (DslxType-F.Enum name s w) = nat_le 1 w && nat_le w 128
word_widths_step DslxType-F.Token = true

-- those of each bits in it
abbrev pub has_word_widths : DslxType → Bool
has_word_widths = fold-DslxType Bool word_widths_step
