use Rattle.std.proofs.Common.{◌≡◌, ◌-◌, map, drop}
use Rattle.xb_value.specs.Inner.Reading.{read_as, read_each, read_times}
use Rattle.xb_value.proofs.Readers.{before}
use Rattle.xb_value.proofs.reader.+read.Given as goal

abbrev pub invariant-take_each-parts : goal.invariant-take_each-parts
invariant-take_each-parts l = read_each (map read_as l.parts) l.fn.tokens ≡ before l.values (read_each (map read_as (drop l.part-index l.parts)) l.rest)

abbrev pub invariant-take_times-turns : goal.invariant-take_times-turns
invariant-take_times-turns l = read_times l.count (read_as l.part) l.fn.tokens ≡ before l.values (read_times (l.count - l.counter) (read_as l.part) l.rest)
