-- The numbers of the rules, by name: what each asks. docs/VERILOG.md says what breaks it, and at which span.
use Rattle.std.specs.Prelude.{ℕ}

-- a name is declared once, and where it is used
abbrev pub SIGNAL_IS_DECLARED_ONCE : ℕ
SIGNAL_IS_DECLARED_ONCE = 71

-- an assignment is of a wire or an output, and a set of a register, in both branches
abbrev pub TARGET_MAY_BE_SET : ℕ
TARGET_MAY_BE_SET = 72

-- each wire, output and register has one driver
abbrev pub ONE_DRIVER : ℕ
ONE_DRIVER = 73

-- operands, targets, conditions and slices have the widths that the form needs
abbrev pub WIDTHS_AGREE : ℕ
WIDTHS_AGREE = 74

-- no wire depends on itself without a register between
abbrev pub NO_COMBINATIONAL_LOOP : ℕ
NO_COMBINATIONAL_LOOP = 75

-- the ports are `clk`, `rst` and three for each channel, and `clk` is not read
abbrev pub PORTS_ARE_CHANNELS : ℕ
PORTS_ARE_CHANNELS = 76
