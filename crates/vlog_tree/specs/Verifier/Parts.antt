-- The rules and limits of each part of a module.
use Rattle.std.specs.Prelude.{ℕ, ◌-◌, ◌==◌, ◌&&◌, ◌||◌, nat_lt, not, Bool, true, false, List, [], ◌∷◌, ◌++◌, length, map, slice_get, get_or, Option, Some, None, option_map}
use Rattle.std.specs.Str.{bytes_eq}
use Rattle.std.specs.List.{list_any, list_all}
use Rattle.xb_span.specs.declared.span.Span.{Span}
use Rattle.vlog_tree.specs.declared.module.VModule.{VModule}
use Rattle.vlog_tree.specs.declared.module.Port.{Port}
use Rattle.vlog_tree.specs.declared.module.Assignment.{Assignment}
use Rattle.vlog_tree.specs.declared.module.Set.{Set}
use Rattle.vlog_tree.specs.declared.expression.Atom.{Atom}
use Rattle.vlog_tree.specs.declared.expression.Atom.TheVariants as atom
use Rattle.vlog_tree.specs.declared.signal.Role.{Role}
use Rattle.vlog_tree.specs.declared.signal.Role.TheVariants.{InputSignal, WireSignal, RegisterSignal}
use Rattle.vlog_tree.specs.Signals.{Declared, signals, declared_widths}
use Rattle.vlog_tree.specs.Forms.{atom_width, atom_reads, reads, fits}
use Rattle.vlog_tree.specs.Verifier.Checks.{PartCheck, rule_at, width_at}
use Rattle.vlog_tree.specs.Verifier.Ports.{Due, port_fits}
use Rattle.vlog_tree.specs.Verifier.RuleNumbers as rule

-- a name is one of these
abbrev pub is_among : List (List ℕ) → List ℕ → Bool
is_among names q = list_any (λ n. bytes_eq q n) names

-- a number is one of these
abbrev pub is_listed : List ℕ → ℕ → Bool
is_listed xs s = list_any (λ x. x == s) xs

abbrev pub count_of : VModule → ℕ
count_of m = length (signals m)

-- a signal of the module that is one of these targets
abbrev pub is_target : ℕ → List ℕ → ℕ → Bool
is_target count targets s = nat_lt s count && is_listed targets s

abbrev pub are_declared : ℕ → List ℕ → Bool
are_declared count xs = list_all (λ s. nat_lt s count) xs

-- who gives a signal its value
abbrev pub role_at : VModule → ℕ → Option Role
role_at m s = option_map (λ d. d.role) (slice_get (signals m) s)

abbrev pub is_driven : Option Role → Bool
is_driven (Some WireSignal) = true
is_driven _ = false

-- a declared signal that no assignment may drive
abbrev pub bars_assignment : Option Role → Bool
bars_assignment (Some InputSignal) = true
bars_assignment (Some RegisterSignal) = true
bars_assignment _ = false

-- a declared signal that no set may give a value
abbrev pub bars_set : Option Role → Bool
bars_set (Some InputSignal) = true
bars_set (Some WireSignal) = true
bars_set _ = false

abbrev pub is_signal : Atom → Bool
is_signal (atom.Signal _) = true
is_signal (atom.Literal _) = false

-- the index of the port `clk`
abbrev pub clock_port : ℕ
clock_port = 0

-- ---- a port or a declaration, behind others of these names

abbrev pub signal_checks : VModule → List ℕ → Span → List (List ℕ) → ℕ → Declared → List PartCheck
signal_checks m targets span names s d =
    rule_at span rule.SIGNAL_IS_DECLARED_ONCE (is_among names d.name)
    ∷ rule_at span rule.ONE_DRIVER (is_driven (Some d.role) && not (is_target (count_of m) targets s))
    ∷ width_at span.to d.width
    ∷ []

abbrev pub see_name : List (List ℕ) → Declared → List (List ℕ)
see_name names d = names ++ d.name ∷ []

-- ---- a port, where this one must come next

abbrev pub port_checks : Span → Due → Port → List PartCheck
port_checks span due p = rule_at span rule.PORTS_ARE_CHANNELS (not (port_fits due p)) ∷ []

-- ---- an assignment, behind others to these targets

abbrev pub is_declared_assignment : ℕ → Assignment → Bool
is_declared_assignment count a = nat_lt a.target.0 count && are_declared count (reads a.value)

abbrev pub assignment_checks : VModule → Span → List ℕ → Assignment → List PartCheck
assignment_checks m span earlier a =
    rule_at span rule.SIGNAL_IS_DECLARED_ONCE (not (is_declared_assignment (count_of m) a))
    ∷ rule_at span rule.TARGET_MAY_BE_SET (bars_assignment (role_at m a.target.0))
    ∷ rule_at span rule.ONE_DRIVER (is_target (count_of m) earlier a.target.0)
    ∷ rule_at span rule.WIDTHS_AGREE (is_declared_assignment (count_of m) a && not (fits (declared_widths m) (declared_widths m a.target.0) a.value))
    ∷ rule_at span rule.PORTS_ARE_CHANNELS (is_listed (reads a.value) clock_port)
    ∷ []

abbrev pub see_target : List ℕ → Assignment → List ℕ
see_target targets a = targets ++ a.target.0 ∷ []

-- ---- a set, behind others of its branch to these targets. The other branch sets those

abbrev pub is_declared_set : ℕ → Set → Bool
is_declared_set count set = nat_lt set.target.0 count && are_declared count (atom_reads set.value)

-- a set of what isn't a register, or in one branch only, or a reset to what isn't a literal
abbrev pub is_wrong_set : VModule → Bool → List ℕ → Set → Bool
is_wrong_set m is_reset others set =
    bars_set (role_at m set.target.0)
    || (nat_lt set.target.0 (count_of m) && not (is_target (count_of m) others set.target.0))
    || (is_reset && is_signal set.value)

abbrev pub set_checks : VModule → Bool → List ℕ → Span → List ℕ → Set → List PartCheck
set_checks m is_reset others span earlier set =
    rule_at span rule.SIGNAL_IS_DECLARED_ONCE (not (is_declared_set (count_of m) set))
    ∷ rule_at span rule.TARGET_MAY_BE_SET (is_wrong_set m is_reset others set)
    ∷ rule_at span rule.ONE_DRIVER (is_target (count_of m) earlier set.target.0)
    ∷ rule_at span rule.WIDTHS_AGREE (is_declared_set (count_of m) set && not (atom_width (declared_widths m) set.value == declared_widths m set.target.0))
    ∷ rule_at span rule.PORTS_ARE_CHANNELS (is_listed (atom_reads set.value) clock_port)
    ∷ []

abbrev pub see_set : List ℕ → Set → List ℕ
see_set targets set = targets ++ set.target.0 ∷ []
