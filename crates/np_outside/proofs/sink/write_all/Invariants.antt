use Rattle.std.proofs.Common.{length, ◌-◌, ◌≡◌, ◌≤◌, List, ℕ, ◌++◌, take, Some}
use Rattle.np_outside.proofs.sink.write_all.Given as goal

abbrev pub invariant-loop-done : goal.invariant-loop-done
invariant-loop-done g l =
    let taken = g.K.Sink.taken in
    let faults = g.K.Sink.faults in
    record {
      within : l.done ≤ length l.bytes;
      taken : (b : List ℕ) → taken l.initial.sink ≡ Some b → taken l.sink ≡ Some (b ++ take l.done l.bytes);
      grown : faults l.initial.sink ≤ faults l.sink;
      cap : g.K.Sink.cap l.sink ≡ g.K.Sink.cap l.initial.sink;
      room : g.K.Sink.room l.sink ≡ g.K.Sink.room l.initial.sink;
    }

abbrev pub decreases-loop-done : goal.decreases-loop-done
decreases-loop-done g l = length l.bytes - l.done
