-- The commands, and which words are one.
use Rattle.std.specs.Prelude.{ℕ, Bool, List, [], ◌∷◌, Option, Some, None, codes, if◌then◌else◌, nat_eq, option_map, option_and_then}
use Rattle.std.specs.Str.{bytes_eq}
use Rattle.np_text.specs.Numbers.{number_of}
use Rattle.np_top.specs.declared.commands.Command as declared
use Rattle.np_top.specs.declared.commands.Command.TheVariants as variants

-- a command, with the name of the network's file or the seed of a generated network
pub data Command : Type 0 where
  check : List ℕ → Command
  atoms : List ℕ → Command
  synth : List ℕ → Command
  ipsec : List ℕ → Command
  trace : List ℕ → List ℕ → Command
  show : List ℕ → Command
  notes : List ℕ → Command
  gen : ℕ → Command

-- a command as the program holds it; how many workers there are has no part in what it is
abbrev pub command_in : declared.Command → Command
command_in (variants.Check file workers) = check file.now
command_in (variants.Atoms file) = atoms file.now
command_in (variants.Synth file) = synth file.now
command_in (variants.Ipsec file) = ipsec file.now
command_in (variants.Trace file script) = trace file.now script.now
command_in (variants.Show file) = show file.now
command_in (variants.Notes file) = notes file.now
command_in (variants.Gen seed workers) = gen seed

-- the seed that a word says, 0 to 4294967295
abbrev pub seed_of : List ℕ → Option ℕ
seed_of word = number_of word 4294967295

-- the number of workers that a word says, 1 to 64
abbrev pub workers_of : List ℕ → Option ℕ
workers_of word = option_and_then (λ n. if nat_eq n 0 then None else Some n) (number_of word 64)

-- a command whose last word has to be a number of workers
abbrev pub by_workers : List ℕ → Option Command → Option Command
by_workers word command = option_and_then (λ workers. command) (workers_of word)

-- the command of these two words
abbrev pub command_on : List ℕ → List ℕ → Option Command
command_on word second =
    if bytes_eq word (codes "check") then Some (check second) else
    (if bytes_eq word (codes "atoms") then Some (atoms second) else
    (if bytes_eq word (codes "synth") then Some (synth second) else
    (if bytes_eq word (codes "ipsec") then Some (ipsec second) else
    (if bytes_eq word (codes "show") then Some (show second) else
    (if bytes_eq word (codes "notes") then Some (notes second) else
    (if bytes_eq word (codes "gen") then option_map gen (seed_of second) else None))))))

-- the command of these three words
abbrev pub command_on_both : List ℕ → List ℕ → List ℕ → Option Command
command_on_both word second third =
    if bytes_eq word (codes "check") then by_workers third (Some (check second)) else
    (if bytes_eq word (codes "trace") then Some (trace second third) else
    (if bytes_eq word (codes "gen") then by_workers third (option_map gen (seed_of second)) else None))

-- the command that the words are, and nothing where they fit no command
abbrev pub command_of : List (List ℕ) → Option Command
command_of [] = None
command_of (word ∷ []) = None
command_of (word ∷ second ∷ []) = command_on word second
command_of (word ∷ second ∷ third ∷ []) = command_on_both word second third
command_of (word ∷ second ∷ third ∷ more ∷ rest) = None
