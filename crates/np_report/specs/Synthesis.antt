-- The report on a synthesised posture, and that on goals that can't be attained.
use Rattle.std.specs.Prelude.{ℕ, ◌+◌, ◌/◌, ◌%◌, ◌<◌, ◌≤◌, ◌==◌, Bool, true, false, List, [], ◌∷◌, ◌++◌, codes, length, slice_index_or, if◌then◌else◌}
use Rattle.std.specs.Fmt.{decimal}
use Rattle.std.specs.List.{All, filter, flat_map}
use Rattle.np_space.specs.declared.headers.Header.{Header}
use Rattle.np_net.specs.Naming.{device_name, interface_name}
use Rattle.np_net.specs.Path.{device_of}
use Rattle.np_net.specs.Plan.{Plan}
use Rattle.np_net.specs.declared.filtering.Interface.{Interface}
use Rattle.np_synth.specs.Dropping.{nothing}
use Rattle.np_synth.specs.declared.chosen.Dropped.{Dropped}
use Rattle.np_script.specs.Written.{header_words}
use Rattle.np_text.specs.Joined.{text_of_lines}
use Rattle.np_report.specs.Words.{hop_lines}

-- ---- sets of atoms

-- a member before runs of members: it lengthens the first of them if it stands next to it
abbrev pub with_first : ℕ → List (ℕ × ℕ) → List (ℕ × ℕ)
with_first n [] = (n, n) ∷ []
with_first n (run ∷ runs) = if run.0 == n + 1 then (n, run.1) ∷ runs else (n, n) ∷ run ∷ runs

-- the maximal runs of a set's members, in order, each by its first and its last one; the set's first place has this number
abbrev pub runs_from : ℕ → List Bool → List (ℕ × ℕ)
runs_from n [] = []
runs_from n (false ∷ set) = runs_from (n + 1) set
runs_from n (true ∷ set) = with_first n (runs_from (n + 1) set)

-- a run by the numbers of its first and its last atom, from 1; one number where they are the same
abbrev pub run_word : ℕ × ℕ → List ℕ
run_word run = if run.0 == run.1 then decimal (run.0 + 1) else decimal (run.0 + 1) ++ 45 ∷ decimal (run.1 + 1)

-- runs, joined by commas, and `-` where there is none
abbrev pub runs_word : List (ℕ × ℕ) → List ℕ
runs_word [] = codes "-"
runs_word (run ∷ runs) = run_word run ++ flat_map (λ r. 44 ∷ run_word r) runs

-- the members of a set
abbrev pub set_word : List Bool → List ℕ
set_word set = runs_word (runs_from 0 set)

-- ---- lines

-- a line for each atom, of which the first has this number from 0: the number from 1, and its least member
abbrev pub least_lines : ℕ → List Header → List (List (List ℕ))
least_lines n [] = []
least_lines n (h ∷ leasts) = (codes "atom" ∷ decimal (n + 1) ∷ header_words h) ∷ least_lines (n + 1) leasts

-- the words of a slot: its device, its interface, its way, and the atoms that cross it
abbrev pub slot_words : Plan → ℕ → List Bool → List (List ℕ)
slot_words net slot set =
    codes "slot" ∷ device_name net (device_of net.interfaces (slot / 2)) ∷ interface_name net (slot / 2) ∷ (if slot % 2 == 0 then codes "in" else codes "out") ∷ set_word set ∷ []

-- a line that names a dropped atom and the first goal that would be broken, and the hops of its first path
abbrev pub drop_lines : Plan → Dropped → List (List (List ℕ))
drop_lines net d = (codes "drop" ∷ decimal (d.atom + 1) ∷ codes "goal" ∷ decimal (d.goal + 1) ∷ []) ∷ hop_lines net d.path.hops

-- of drops those at a slot
abbrev pub drops_at : ℕ → List Dropped → List Dropped
drops_at slot drops = filter (λ d. d.slot == slot) drops

-- of slots, of which the first has this number and which are free or not, a line for each free one with what crosses it, followed by what it drops
abbrev pub slots_lines : Plan → List (List Bool) → List Dropped → ℕ → List Bool → List (List (List ℕ))
slots_lines net sets drops slot [] = []
slots_lines net sets drops slot (false ∷ free) = slots_lines net sets drops (slot + 1) free
slots_lines net sets drops slot (true ∷ free) =
    slot_words net slot (slice_index_or sets slot []) ∷ (flat_map (drop_lines net) (drops_at slot drops) ++ slots_lines net sets drops (slot + 1) free)

-- ---- texts

-- the text on a chosen posture: the atoms, then the free slots with what they drop, and a last line
abbrev pub chosen_text : Plan → List Header → List (List Bool) → List Dropped → List ℕ
chosen_text net leasts sets drops =
    text_of_lines ((codes "atoms" ∷ decimal (length leasts) ∷ []) ∷ (least_lines 0 leasts ++ (slots_lines net sets drops 0 net.free ++ (codes "synthesised" ∷ []) ∷ [])))

-- the text on goals that can't be attained: the first goal that is broken with the free slots shut, the least header that breaks it, and the hops of its first path
abbrev pub unattainable_text : Plan → ℕ → Header → List (ℕ × ℕ) → List ℕ
unattainable_text net goal header hops = text_of_lines ((codes "unattainable" ∷ codes "goal" ∷ decimal (goal + 1) ∷ header_words header) ∷ hop_lines net hops)

-- ---- what is needed of what is written

-- the interfaces of hops are among these
abbrev pub HopsWithin : List Interface → List (ℕ × ℕ) → Type 0
HopsWithin interfaces hops = All (λ hop. (hop.0 < length interfaces) × (hop.1 < length interfaces)) hops

-- the drops stand by slot, their paths have interfaces that there are, and their atoms and goals are among so many
pub record AreInOrder (interfaces : List Interface) (atoms goals : ℕ) (drops : List Dropped) : Type 0 where
  pub within : All (λ d. HopsWithin interfaces d.path.hops) drops
  pub atoms_within : All (λ d. d.atom < atoms) drops
  pub goals_within : All (λ d. d.goal < goals) drops
  pub by_slot : (m n : ℕ) → m < n → n < length drops → (slice_index_or drops m nothing).slot ≤ (slice_index_or drops n nothing).slot
