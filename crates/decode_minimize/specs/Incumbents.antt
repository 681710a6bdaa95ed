-- What a seeker knows of the solutions that its rounds found.
use Rattle.std.specs.Prelude.{◌≡◌, ℤ, Option, Some}
use Rattle.order_ints.specs.OrderValue.{value_of}
use Rattle.order_ints.specs.Truth.{valuation_of}
use Rattle.state_compile.specs.StandsFor.{read_by}
use Rattle.decode_minimize.specs.declared.asking.Round.{Round}
use Rattle.decode_minimize.specs.declared.asking.Round.TheVariants as round
use Rattle.decode_minimize.specs.declared.improving.Sought.{Sought}
use Rattle.decode_minimize.specs.declared.seeker.ValuedRound.{ValuedRound}
use Rattle.decode_minimize.specs.declared.seeker.ValuedRound.TheVariants.{Better, Last}

-- the round that it came of
abbrev pub round_of : ValuedRound → Round
round_of (Better best) = round.Better best.values
round_of (Last ended) = round.Last ended

-- a solution that was found has its value of what is sought
abbrev pub IsValued : Sought → ValuedRound → Type 0
IsValued sought (Better best) =
    best.number ≡ value_of (read_by sought.view.now (valuation_of best.values)) sought.integer.now
IsValued sought (Last ended) = Unit {0}

-- The incumbent behind a round: the value of the solution that was found, or the one before, where none was.
abbrev pub incumbent_behind : Option ℤ → ValuedRound → Option ℤ
incumbent_behind before (Better best) = Some best.number
incumbent_behind before (Last ended) = before
