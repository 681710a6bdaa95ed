-- A sink over memory: what it holds, and what its next call does.
use Rattle.std.specs.Prelude.{ℕ, ◌-◌, Bool, List, [], ◌||◌, ◌&&◌, ◌==◌, ◌++◌, take, length, min}
use Rattle.std.specs.Prelude.{nat_lt, nat_le, Result, Ok, Err, if◌then◌else◌}
use Rattle.std.specs.List.{list_any}
use Rattle.bee_outside.specs.declared.failed.Failed.{Failed}
use Rattle.bee_outside.specs.Faults.{next_count}

-- what a sink over memory holds: the bytes taken, how many of them were flushed, how many it has room
-- for, how many a call takes at most, the numbers of the calls that fail, how many calls there were, and
-- the faults
pub record MemSinkState : Type 0 where
  pub taken : List ℕ
  pub flushed : ℕ
  pub room : ℕ
  pub step : ℕ
  pub failing : List ℕ
  pub calls : ℕ
  pub faults : ℕ

-- the sink before its first call
abbrev pub fresh_sink : ℕ → ℕ → List ℕ → MemSinkState
fresh_sink room step failing =
    record { taken = []; flushed = 0; room = room; step = step; failing = failing; calls = 0; faults = 0 }

-- the number of the next call is listed
abbrev pub next_is_listed : MemSinkState → Bool
next_is_listed sink = list_any (λ number. number == next_count sink.calls) sink.failing

-- the next call fails as a call of `put`: the piece has bytes, and the call is listed, or there is no room
abbrev pub put_fails : MemSinkState → List ℕ → Bool
put_fails sink piece = nat_lt 0 (length piece) && (nat_le sink.room (length sink.taken) || next_is_listed sink)

-- how many bytes of the piece the next call takes
abbrev pub put_size : MemSinkState → List ℕ → ℕ
put_size sink piece = min (min (length piece) sink.step) (sink.room - length sink.taken)

-- the answer of the next call of `put`
abbrev pub put_answer : MemSinkState → List ℕ → Result ℕ Failed
put_answer sink piece = if put_fails sink piece then Err (record {}) else Ok (put_size sink piece)

-- the sink after a call that failed
abbrev pub after_fault : MemSinkState → MemSinkState
after_fault sink = record sink { calls = next_count sink.calls; faults = next_count sink.faults }

-- the sink after the next call of `put`
abbrev pub after_put : MemSinkState → List ℕ → MemSinkState
after_put sink piece =
    if put_fails sink piece then after_fault sink else record sink {
      taken = sink.taken ++ take (put_size sink piece) piece;
      calls = next_count sink.calls;
    }

-- the answer of the next call of `flush`
abbrev pub flush_answer : MemSinkState → Result (Unit {0}) Failed
flush_answer sink = if next_is_listed sink then Err (record {}) else Ok tt

-- the sink after the next call of `flush`
abbrev pub after_flush : MemSinkState → MemSinkState
after_flush sink =
    if next_is_listed sink then after_fault sink
    else record sink { flushed = length sink.taken; calls = next_count sink.calls }
