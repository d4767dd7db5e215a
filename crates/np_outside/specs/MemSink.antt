-- What a sink in memory shows.
use Rattle.std.specs.Prelude.{ℕ, ◌-◌, min, Bool, ◌&&◌, ◌||◌, List, ◌++◌, Option, length, take, nat_lt, ◌==◌, if◌then◌else◌}
use Rattle.np_outside.specs.Calls.{raised, is_next_named, at_step}
use Rattle.np_outside.specs.declared.mem_sink.MemSink.{MemSink}

-- the bytes taken, the whole room, how many bytes a write takes at most, how many writes there were, the
-- numbers of those that are to fail, in the order in which they were named, and how many failed
pub record SinkState : Type 0 where
  pub bytes : List ℕ
  pub room : ℕ
  pub most : Option ℕ
  pub made : ℕ
  pub named : List ℕ
  pub faults : ℕ

-- the state of a sink
abbrev pub state : MemSink → SinkState
state s = record {
  bytes = s.bytes.items;
  room = s.room;
  most = s.most;
  made = s.plan.made;
  named = s.plan.named.items;
  faults = s.faults;
}

-- how many of so many bytes a write that succeeds takes
abbrev pub count_taken : SinkState → ℕ → ℕ
count_taken s offered = at_step s.most (min offered (s.room - length s.bytes))

-- a write fails if it is a named one, and if there is no room for any of its bytes
abbrev pub write_fails : SinkState → ℕ → Bool
write_fails s offered = is_next_named s.made s.named || nat_lt 0 offered && s.room - length s.bytes == 0

-- what a write of these bytes leaves
abbrev pub after_write : SinkState → List ℕ → SinkState
after_write s buf =
    let fails = write_fails s (length buf) in
    record s {
      bytes = (if fails then s.bytes else s.bytes ++ take (count_taken s (length buf)) buf);
      made = raised s.made;
      faults = (if fails then raised s.faults else s.faults);
    }
