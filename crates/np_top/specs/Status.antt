-- How a run ends.
use Rattle.std.specs.Prelude.{◌≡◌, ℕ}
use Rattle.np_top.specs.declared.status.Status.{Status}
use Rattle.np_top.specs.declared.status.Status.TheVariants.{Holds, Fails, Usage, Refused, ReadFault, WriteFault, Memory}

-- the exit status of the program
abbrev pub number_of : Status → ℕ
number_of Holds = 0
number_of Fails = 1
number_of Usage = 2
number_of Refused = 3
number_of ReadFault = 4
number_of WriteFault = 5
number_of Memory = 6

-- the whole text has been written
abbrev pub IsSettled : Status → Type 0
IsSettled Holds = Unit {0}
IsSettled Fails = Unit {0}
IsSettled Usage = Unit {0}
IsSettled Refused = Unit {0}
IsSettled ReadFault = ⊥
IsSettled WriteFault = ⊥
IsSettled Memory = ⊥

-- a report has been written
abbrev pub IsReport : Status → Type 0
IsReport Holds = Unit {0}
IsReport Fails = Unit {0}
IsReport Usage = ⊥
IsReport Refused = ⊥
IsReport ReadFault = ⊥
IsReport WriteFault = ⊥
IsReport Memory = ⊥

-- the run ended so, unless a device or memory failed
abbrev pub IsUnlessFault : Status → Status → Type 0
IsUnlessFault status Holds = status ≡ Holds
IsUnlessFault status Fails = status ≡ Fails
IsUnlessFault status Usage = status ≡ Usage
IsUnlessFault status Refused = status ≡ Refused
IsUnlessFault status ReadFault = Unit {0}
IsUnlessFault status WriteFault = Unit {0}
IsUnlessFault status Memory = Unit {0}
