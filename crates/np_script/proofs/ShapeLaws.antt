-- A text that is a script says a start and then moves, which name what the network has.
use Rattle.std.proofs.Common.{◌≡◌, ℕ, ◌<◌, ◌+◌, Bool, List, [], ◌∷◌, ◌++◌, length, map, Option, Some, None, refl, sym, ap, subst, ◌∙◌, arith}
use Rattle.std.specs.Prelude.{Result, Ok, Err, IfOk, codes, position}
use Rattle.std.specs.List.{AllByRecursion, filter_map, list_all}
use Rattle.std.specs.Option.{ok_or}
use Rattle.std.specs.Str.{bytes_eq}
use Rattle.std.proofs.lemmas.List.{length-map}
use Rattle.std.proofs.lemmas.List.Quantifiers.{position-Some}
use Rattle.np_text.specs.Lines.{lines_of}
use Rattle.np_text.specs.Words.{words_of}
use Rattle.np_lines.specs.Judging.{Judged, ◌>>=◌, word_in}
use Rattle.np_lines.specs.Reading.{and_one, at_line, statements_from, text_says}
use Rattle.np_lines.specs.Skipping.{begins_with, is_text_byte}
use Rattle.np_lines.specs.declared.fault.LineFault.{LineFault}
use Rattle.np_lines.proofs.HoldingLaws.{Holds, holds, faulty, after, free, either_way, at_line_holds, ended_holds}
use Rattle.np_net.specs.declared.filtering.Area.{Area}
use Rattle.np_net.specs.declared.filtering.Interface.{Interface}
use Rattle.np_net.specs.declared.associations.Sa.{Sa}
use Rattle.np_net.specs.Distinct.{same_place}
use Rattle.np_net.specs.Naming.{name_lists}
use Rattle.np_net.specs.Plan.{Plan, area_names, interface_names, sa_names}
use Rattle.np_ipsec.specs.declared.places.Motion.{Motion}
use Rattle.np_ipsec.specs.declared.places.Motion.TheVariants as motions
use Rattle.np_ipsec.specs.Steps.{IsPlace}
use Rattle.np_script.specs.declared.draft.Draft.{Draft}
use Rattle.np_script.specs.declared.fault.ScriptWhy.{ScriptWhy}
use Rattle.np_script.specs.declared.fault.ScriptWhy.TheVariants as why
use Rattle.np_script.specs.declared.script.Script.{Script}
use Rattle.np_script.specs.declared.statement.Start.{Start}
use Rattle.np_script.specs.declared.statement.Statement.{Statement}
use Rattle.np_script.specs.declared.statement.Statement.TheVariants as statement
use Rattle.np_script.specs.Fitting.{Fits, IsMotion}
use Rattle.np_script.specs.Judging.{area_in, cross_says, device_named, enter_says, first_says, header_says, interface_in, interface_named, later_says, line_says, move_says, place_in, push_says, sa_in, start_says, words_say}
use Rattle.np_script.specs.Reading.{lines_say, script_from, script_of}
use Rattle.np_script.specs.Saying.{draft_of, move_in, start_in}
use Rattle.np_script.specs.Written.{IsStartAndMoves}

-- ---- names

-- an item that is found is one of so many
found_within : {X : Type 0} (p : X → Bool) (xs : List X) (d : X) (count : ℕ) → length xs ≡ count → (o : Option ℕ) → position p xs ≡ o → Holds (λ n. n < count) (ok_or o why.UnknownName)
found_within p xs d count same None is = faulty _ _
found_within p xs d count same (Some n) is = let h = (position-Some p xs n d is).0 in holds _ n (omega arith)

module _ (net : Plan) where
  area_within : (words : List (List ℕ)) → Holds (λ read. read.0 < length net.areas) (area_in (name_lists net) words)
  unfolding area_in
  area_within [] = faulty _ _
  area_within (word ∷ words) =
      after (λ n. n < length net.areas) _ _ _ (found_within (bytes_eq word) (area_names net.areas) [] (length net.areas) (length-map net.areas (λ (area : Area). area.name)) _ refl) (λ n h. holds _ _ h)

  sa_within : (words : List (List ℕ)) → Holds (λ read. read.0 < length net.sas) (sa_in (name_lists net) words)
  unfolding sa_in
  sa_within [] = faulty _ _
  sa_within (word ∷ words) =
      after (λ n. n < length net.sas) _ _ _ (found_within (bytes_eq word) (sa_names net.sas) [] (length net.sas) (length-map net.sas (λ (sa : Sa). sa.name)) _ refl) (λ n h. holds _ _ h)

  interface_within : (words : List (List ℕ)) → Holds (λ read. read.0 < length net.interfaces) (interface_in (name_lists net) words)
  unfolding interface_in
  interface_within [] = faulty _ _
  interface_within (word ∷ words) = after (λ d. Unit {0}) _ (device_named (name_lists net) word) _ (free _) (by words) where
    by : (words : List (List ℕ)) (d : ℕ) → Unit {0} → Holds {X = ℕ × List (List ℕ)} (λ read. read.0 < length net.interfaces) (word_in why.BadMove words >>= λ name. interface_named (name_lists net) d name.0 >>= λ i. Ok (i, name.1))
    by [] d h = faulty _ _
    by (name ∷ words) d h =
        after (λ n. n < length net.interfaces) _ _ _ (found_within (same_place (d, name)) (interface_names net.interfaces) (0, []) (length net.interfaces) (length-map net.interfaces (λ (i : Interface). (i.device, i.name))) _ refl) (λ n h. holds _ _ h)

  -- ---- statements

  place_is : (words : List (List ℕ)) → Holds (λ read. IsPlace net read.0) (place_in (name_lists net) words)
  unfolding place_in
  place_is [] = faulty _ _
  place_is (keyword ∷ words) =
      either_way _ (bytes_eq keyword (codes "area")) _ _ (after _ _ _ _ (area_within words) (λ read h. holds _ _ h))
      (either_way _ (bytes_eq keyword (codes "in")) _ _ (after _ _ _ _ (interface_within words) (λ read h. holds _ _ h))
      (either_way _ (bytes_eq keyword (codes "out")) _ _ (after _ _ _ _ (interface_within words) (λ read h. holds _ _ h)) (faulty _ _)))

  start_is : (words : List (List ℕ)) → Holds (λ start. IsPlace net start.place) (start_says (name_lists net) words)
  unfolding start_says
  start_is words =
      after (λ read. IsPlace net read.0) _ (place_in (name_lists net) words) _ (place_is words) (λ place h. after (λ plain. Unit {0}) _ (header_says place.1) _ (free _) (λ plain u. holds _ _ h))

  enter_is : (words : List (List ℕ)) → Holds (IsMotion net) (enter_says (name_lists net) words)
  unfolding enter_says
  enter_is words = after (λ read. read.0 < length net.interfaces) _ (interface_in (name_lists net) words) _ (interface_within words) (λ i h. ended_holds (IsMotion net) why.BadMove i.1 (motions.Enter i.0) h)

  cross_is : (words : List (List ℕ)) → Holds (IsMotion net) (cross_says (name_lists net) words)
  unfolding cross_says
  cross_is words = after (λ read. read.0 < length net.interfaces) _ (interface_in (name_lists net) words) _ (interface_within words) (λ i h. ended_holds (IsMotion net) why.BadMove i.1 (motions.Cross i.0) h)

  push_is : (words : List (List ℕ)) → Holds (IsMotion net) (push_says (name_lists net) words)
  unfolding push_says
  push_is words = after (λ read. read.0 < length net.sas) _ (sa_in (name_lists net) words) _ (sa_within words) (λ sa h. ended_holds (IsMotion net) why.BadMove sa.1 (motions.Push sa.0) h)

  move_is : (word : List ℕ) (words : List (List ℕ)) → Holds (IsMotion net) (move_says (name_lists net) word words)
  move_is word words =
      either_way (IsMotion net) (bytes_eq word (codes "enter")) _ _ (enter_is words)
      (either_way (IsMotion net) (bytes_eq word (codes "pop")) _ _ (ended_holds (IsMotion net) why.BadMove words motions.Pop tt)
      (either_way (IsMotion net) (bytes_eq word (codes "cross")) _ _ (cross_is words)
      (either_way (IsMotion net) (bytes_eq word (codes "push")) _ _ (push_is words)
      (either_way (IsMotion net) (bytes_eq word (codes "leave")) _ _ (ended_holds (IsMotion net) why.BadMove words motions.Leave tt) (faulty _ _)))))

  -- ---- a start and then moves

  -- each of the statements is a move
  abbrev AreMoves : List Statement → Type 0
  AreMoves [] = Unit {0}
  AreMoves (statement.Begin start ∷ statements) = ⊥
  AreMoves (statement.Move motion ∷ statements) = IsMotion net motion × AreMoves statements

  -- the first one, if there is any, is a start, and each later one is a move
  abbrev InOrder : List Statement → Type 0
  InOrder [] = Unit {0}
  InOrder (statement.Begin start ∷ statements) = IsPlace net start.place × AreMoves statements
  InOrder (statement.Move motion ∷ statements) = ⊥

  moves_more : (statements : List Statement) (motion : Motion) → AreMoves statements → IsMotion net motion → AreMoves (statements ++ statement.Move motion ∷ [])
  moves_more [] motion are is = (is, tt)
  moves_more (statement.Begin start ∷ statements) motion are is = absurd are
  moves_more (statement.Move first ∷ statements) motion are is = (are.0, moves_more statements motion are.1 is)

  no_starts : (statements : List Statement) → AreMoves statements → filter_map start_in statements ≡ []
  no_starts [] are = refl
  no_starts (statement.Begin start ∷ statements) are = absurd are
  no_starts (statement.Move motion ∷ statements) are = no_starts statements are.1

  all_moves : (statements : List Statement) → AreMoves statements → statements ≡ map (λ motion. statement.Move motion) (filter_map move_in statements)
  all_moves [] are = refl
  all_moves (statement.Begin start ∷ statements) are = absurd are
  all_moves (statement.Move motion ∷ statements) are = ap (λ others. statement.Move motion ∷ others) (all_moves statements are.1)

  moves_named : (statements : List Statement) → AreMoves statements → AllByRecursion (λ motion. IsMotion net motion) (filter_map move_in statements)
  moves_named [] are = tt
  moves_named (statement.Begin start ∷ statements) are = absurd are
  moves_named (statement.Move motion ∷ statements) are = (are.0, moves_named statements are.1)

  -- what a start and then moves say together
  said_together : (start : Start) (statements : List Statement) → AreMoves statements → draft_of (statement.Begin start ∷ statements) ≡ record { start = Some start; moves = filter_map move_in statements }
  unfolding draft_of
  said_together start statements are = rw (no_starts statements are) refl

  -- ---- lines

  -- what a line says goes on in order
  abbrev GoesOn : List Statement → Option Statement → Type 0
  GoesOn before said = InOrder (and_one before said)

  line_in_order : (before : List Statement) (line : List ℕ) → InOrder before → Holds (GoesOn before) (line_says (name_lists net) (draft_of before) line)
  unfolding line_says draft_of
  line_in_order before line order = either_way (GoesOn before) (list_all is_text_byte line) _ _ (by_words before (words_of line) order) (faulty _ _) where
    begins : (words : List (List ℕ)) → Holds (GoesOn []) (words_say (name_lists net) None words)
    begins [] = holds _ _ tt
    begins (word ∷ words) =
        either_way (GoesOn []) (begins_with 35 word) _ _ (holds _ _ tt)
        (after (λ s. InOrder (s ∷ [])) (GoesOn []) (first_says (name_lists net) word words) _
        (either_way (λ s. InOrder (s ∷ [])) (bytes_eq word (codes "start")) _ _ (after (λ start. IsPlace net start.place) _ (start_says (name_lists net) words) _ (start_is words) (λ start h. holds _ _ (h, tt))) (faulty _ _))
        (λ s h. holds _ _ h))

    moves : (start : Start) (statements : List Statement) (words : List (List ℕ)) → IsPlace net start.place → AreMoves statements
        → Holds (GoesOn (statement.Begin start ∷ statements)) (words_say (name_lists net) (Some start) words)
    moves start statements [] place are = holds _ _ (place, are)
    moves start statements (word ∷ words) place are =
        either_way (GoesOn (statement.Begin start ∷ statements)) (begins_with 35 word) _ _ (holds _ _ (place, are))
        (after (λ s. InOrder (statement.Begin start ∷ (statements ++ s ∷ []))) _ (later_says (name_lists net) word words) _
        (after (IsMotion net) _ (move_says (name_lists net) word words) _ (move_is word words) (λ motion is. holds _ _ (place, moves_more statements motion are is)))
        (λ s h. holds _ _ h))

    by_words : (before : List Statement) (words : List (List ℕ)) → InOrder before → Holds (GoesOn before) (words_say (name_lists net) (draft_of before).start words)
    by_words [] words order = begins words
    by_words (statement.Begin start ∷ statements) words order =
        subst (λ first. Holds (GoesOn (statement.Begin start ∷ statements)) (words_say (name_lists net) first words)) (sym (ap (λ (draft : Draft). draft.start) (said_together start statements order.1))) (moves start statements words order.0 order.1)
    by_words (statement.Move motion ∷ statements) words order = absurd order

  lines_in_order : (before : List Statement) (number : ℕ) (lines : List (List ℕ)) → InOrder before
      → Holds InOrder (statements_from (λ earlier. line_says (name_lists net) (draft_of earlier)) before number lines)
  lines_in_order before number [] order = holds _ _ order
  lines_in_order before number (line ∷ lines) order =
      after (GoesOn before) InOrder (at_line number (line_says (name_lists net) (draft_of before) line)) _
      (at_line_holds (GoesOn before) number _ (line_in_order before line order))
      (λ said h. lines_in_order (and_one before said) (number + 1) lines h)

  -- ---- the script of statements in order

  abbrev Judgement : Type 0
  Judgement = Judged (LineFault ScriptWhy) (List Statement)

  -- the statements are the script's start and its moves, which name what the network has
  abbrev Says : Judgement → Script → Type 0
  Says judged script =
      (judged ≡ Ok (statement.Begin (record { place = script.place; plain = script.plain }) ∷ map (λ motion. statement.Move motion) script.moves)) × Fits net script

  no_script : (line : ℕ) (script : Script) → script_from line (draft_of []) ≡ Ok script → Says (Ok []) script
  unfolding draft_of
  no_script line script is = cc

  one_script : (line : ℕ) (script : Script) (start : Start) (statements : List Statement) → IsPlace net start.place → AreMoves statements → script_from line (draft_of (statement.Begin start ∷ statements)) ≡ Ok script → Says (Ok (statement.Begin start ∷ statements)) script
  one_script line script start statements place are is =
      let made : Script = record { place = start.place; plain = start.plain; moves = filter_map move_in statements } in
      let read : Judged (LineFault ScriptWhy) Script = Ok made in
      let both : read ≡ Ok script = sym (ap (script_from line) (said_together start statements are)) ∙ is in
      let same : made ≡ script = cc in
      subst (λ s. Says (Ok (statement.Begin start ∷ statements)) s) same
      (ap (λ others. Ok (statement.Begin start ∷ others)) (all_moves statements are), record { place = place; moves = record { each = moves_named statements are } })

  script_in : (line : ℕ) (judged : Judgement) (script : Script) → Holds InOrder judged → ((judged >>= λ statements. Ok (draft_of statements)) >>= λ draft. script_from line draft) ≡ Ok script → Says judged script
  script_in line (Err fault) script order is = cc
  script_in line (Ok []) script order is = no_script line script is
  script_in line (Ok (statement.Begin start ∷ statements)) script order is = let all = order.of _ refl in one_script line script start statements all.0 all.1 is
  script_in line (Ok (statement.Move motion ∷ statements)) script order is = absurd (order.of _ refl)

  script_said : (text : List ℕ) (script : Script) → script_of net text ≡ Ok script → Says (text_says (λ earlier. line_says (name_lists net) (draft_of earlier)) text) script
  unfolding lines_say
  script_said text script is =
      script_in (length (lines_of text) + 1) (text_says (λ earlier. line_says (name_lists net) (draft_of earlier)) text) script (lines_in_order [] 1 (lines_of text) tt) is

pub says_in_order : (net : Plan) (text : List ℕ) (script : Script) → script_of net text ≡ Ok script → IsStartAndMoves net text script
says_in_order net text script is = (script_said net text script is).0

pub script_fits : (net : Plan) (text : List ℕ) (script : Script) → script_of net text ≡ Ok script → Fits net script
script_fits net text script is = (script_said net text script is).1

-- so what reading gives names it too
pub read_fits : {E : Type 0} (net : Plan) (text : List ℕ) (read : Result Script E) → IfOk read (λ script. script_of net text ≡ Ok script) → IfOk read (λ script. Fits net script)
read_fits net text (Ok script) is = script_fits net text script is
read_fits net text (Err error) is = tt
