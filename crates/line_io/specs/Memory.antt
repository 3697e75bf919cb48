-- Sources and sinks in memory: what they hold, and which calls fail.
use Rattle.line_io.specs.declared.clean_source.CleanSource.{CleanSource}
use Rattle.line_io.specs.declared.mem_sink.MemSink.{MemSink}
use Rattle.line_io.specs.declared.mem_source.MemSource.{MemSource}
use Rattle.std.specs.List.{list_any}
use Rattle.std.specs.Prelude.{◌≡◌, ℕ, ◌+◌, ◌-◌, ◌^◌, ◌==◌, min, Bool, List, [], drop}

-- the number of the next call, which stops at the largest u64
abbrev pub next_call : ℕ → ℕ
next_call calls = min (calls + 1) (2 ^ 64 - 1)

-- the call of this number is one that fails
abbrev pub is_failing : List ℕ → ℕ → Bool
is_failing failing call = list_any (λ n. n == call) failing

-- the bytes that a source has left
abbrev pub source_left : MemSource → List ℕ
source_left s = drop s.given s.bytes.items

abbrev pub clean_left : CleanSource → List ℕ
clean_left s = drop s.given s.bytes.items

-- at most how many bytes a call of the source gives
abbrev pub source_step : MemSource → ℕ
source_step s = s.step

-- the numbers of the calls at which the source fails
abbrev pub source_failing : MemSource → List ℕ
source_failing s = s.failing.items

-- the number of calls of the source so far
abbrev pub source_calls : MemSource → ℕ
source_calls s = s.calls

-- the number of the source's faults so far
abbrev pub source_faults : MemSource → ℕ
source_faults s = s.faults

-- the bytes that a sink took
abbrev pub sink_taken : MemSink → List ℕ
sink_taken s = s.bytes.items

-- how many bytes the sink takes in all
abbrev pub sink_room : MemSink → ℕ
sink_room s = s.room

-- at most how many bytes a call of the sink takes
abbrev pub sink_step : MemSink → ℕ
sink_step s = s.step

-- the numbers of the calls at which the sink fails
abbrev pub sink_failing : MemSink → List ℕ
sink_failing s = s.failing.items

-- the number of calls of the sink so far
abbrev pub sink_calls : MemSink → ℕ
sink_calls s = s.calls

-- the number of the sink's faults so far
abbrev pub sink_faults : MemSink → ℕ
sink_faults s = s.faults

-- a source of these bytes before its first call
pub record IsNewSource (bytes : List ℕ) (step : ℕ) (failing : List ℕ) (s : MemSource) : Type 0 where
  pub left : source_left s ≡ bytes
  pub step_is : s.step ≡ step
  pub failing_is : s.failing.items ≡ failing
  pub no_calls : s.calls ≡ 0
  pub no_faults : s.faults ≡ 0

-- one call later, the step and the list of failing calls are the same
pub record IsNextSource (old new : MemSource) : Type 0 where
  pub step : new.step ≡ old.step
  pub failing : new.failing.items ≡ old.failing.items
  pub calls : new.calls ≡ next_call old.calls

-- an empty sink before its first call
pub record IsNewSink (room step : ℕ) (failing : List ℕ) (s : MemSink) : Type 0 where
  pub taken : sink_taken s ≡ []
  pub room_is : s.room ≡ room
  pub step_is : s.step ≡ step
  pub failing_is : s.failing.items ≡ failing
  pub no_calls : s.calls ≡ 0
  pub no_faults : s.faults ≡ 0

-- one call later, the room, the step and the list of failing calls are the same
pub record IsNextSink (old new : MemSink) : Type 0 where
  pub room : new.room ≡ old.room
  pub step : new.step ≡ old.step
  pub failing : new.failing.items ≡ old.failing.items
  pub calls : new.calls ≡ next_call old.calls
