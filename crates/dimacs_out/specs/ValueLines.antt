-- The lines that tell the values of declared names: `NAME = VALUE`, with `true` or `false` for a Boolean and a number
-- for an integer.
use Rattle.std.specs.Prelude.{ℕ, List, map, ℤ}
use Rattle.bee_text.specs.Lines.{join_lines}
use Rattle.order_ints.specs.Truth.{Valuation}
use Rattle.order_ints.specs.Numbers.{number_of}
use Rattle.name_map.specs.Values.{is_boolean}
use Rattle.name_map.specs.ValueLines.{value_line}
use Rattle.name_map.specs.declared.entries.MapEntry.{MapEntry}

-- a name, and the number that it has
abbrev pub number_line : MapEntry → ℤ → List ℕ
number_line e z = value_line e.name (is_boolean e.value) z

-- the lines of all names, with the numbers that they have under a valuation
abbrev pub values_text : Valuation → List MapEntry → List ℕ
values_text σ entries = join_lines (map (λ e. number_line e (number_of σ e.value)) entries)
