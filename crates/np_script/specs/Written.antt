-- How a script is written, and what its text says line by line.
use Rattle.std.specs.Prelude.{◌≡◌, ℕ, ◌==◌, List, [], ◌∷◌, ◌++◌, map, None, Some, Ok, codes, if◌then◌else◌}
use Rattle.std.specs.Fmt.{decimal}
use Rattle.np_text.specs.Addresses.{dotted}
use Rattle.np_lines.specs.Reading.{text_says}
use Rattle.np_space.specs.Flag.{flag_number}
use Rattle.np_space.specs.Header.{HasWidths}
use Rattle.np_space.specs.declared.headers.Header.{Header}
use Rattle.np_net.specs.Naming.{area_name, device_name, interface_name, name_lists, sa_name}
use Rattle.np_net.specs.Path.{device_of}
use Rattle.np_net.specs.Plan.{Plan}
use Rattle.np_ipsec.specs.declared.places.Place.{Place}
use Rattle.np_ipsec.specs.declared.places.Place.TheVariants as at
use Rattle.np_ipsec.specs.declared.places.Motion.{Motion}
use Rattle.np_ipsec.specs.declared.places.Motion.TheVariants as motions
use Rattle.np_ipsec.specs.Steps.{IsPlace}
use Rattle.np_script.specs.declared.script.Script.{Script}
use Rattle.np_script.specs.declared.statement.Start.{Start}
use Rattle.np_script.specs.declared.statement.Statement.TheVariants as statement
use Rattle.np_script.specs.Fitting.{IsMotion}
use Rattle.np_script.specs.Judging.{line_says, words_say}
use Rattle.np_script.specs.Saying.{draft_of}

-- ---- words

-- an interface, by its device and its name
abbrev pub interface_words : Plan → ℕ → List (List ℕ)
interface_words net i = device_name net (device_of net.interfaces i) ∷ interface_name net i ∷ []

-- the words of a place
abbrev pub place_words : Plan → Place → List (List ℕ)
place_words net (at.AtArea a) = codes "area" ∷ area_name net a ∷ []
place_words net (at.AtIn i) = codes "in" ∷ interface_words net i
place_words net (at.AtOut i) = codes "out" ∷ interface_words net i

-- a code point's word, where it isn't 0
abbrev pub dscp_words : ℕ → List (List ℕ)
dscp_words dscp = if dscp == 0 then [] else (codes "dscp=" ++ decimal dscp) ∷ []

-- the words of a header, each number in its shortest form
abbrev pub header_words : Header → List (List ℕ)
header_words h =
    dotted h.src ∷ dotted h.dst ∷ decimal h.proto ∷ decimal h.a ∷ decimal h.b ∷ decimal (flag_number h.est) ∷ dscp_words h.dscp

-- the words of a start
abbrev pub start_words : Plan → Start → List (List ℕ)
start_words net start = codes "start" ∷ (place_words net start.place ++ header_words start.plain)

-- the words of a move
abbrev pub move_words : Plan → Motion → List (List ℕ)
move_words net (motions.Enter i) = codes "enter" ∷ interface_words net i
move_words net motions.Pop = codes "pop" ∷ []
move_words net (motions.Cross j) = codes "cross" ∷ interface_words net j
move_words net (motions.Push k) = codes "push" ∷ sa_name net k ∷ []
move_words net motions.Leave = codes "leave" ∷ []

-- ---- laws

-- the words of a start and of a move say these: a start before there is one, and a move after it
pub record WordsReadBack (net : Plan) : Type 0 where
  pub start : (start : Start) → IsPlace net start.place → HasWidths start.plain → words_say (name_lists net) None (start_words net start) ≡ Ok (Some (statement.Begin start))
  pub move : (start : Start) (motion : Motion) → IsMotion net motion → words_say (name_lists net) (Some start) (move_words net motion) ≡ Ok (Some (statement.Move motion))

-- a text that is a script says its start first, and then its moves and nothing else
abbrev pub IsStartAndMoves : Plan → List ℕ → Script → Type 0
IsStartAndMoves net text script =
    text_says (λ before. line_says (name_lists net) (draft_of before)) text
    ≡ Ok (statement.Begin (record { place = script.place; plain = script.plain }) ∷ map (λ motion. statement.Move motion) script.moves)
