-- The words of a start and of a move are read as this start and this move.
use Rattle.std.proofs.Common.{◌≡◌, ℕ, ◌<◌, ◌≤◌, ◌^◌, Bool, true, false, List, [], ◌∷◌, ◌++◌, length, Some, None, refl, arith}
use Rattle.std.specs.Prelude.{Ok, ◌==◌, codes, if◌then◌else◌}
use Rattle.std.specs.Fmt.{decimal}
use Rattle.std.proofs.lemmas.Bool.{eqb-true}
use Rattle.np_text.proofs.AddressLaws.{address_of-dotted}
use Rattle.np_text.proofs.NumberLaws.{number_of-decimal}
use Rattle.np_space.specs.Flag.{flag_number}
use Rattle.np_space.specs.Header.{HasWidths}
use Rattle.np_space.specs.declared.headers.Header.{Header}
use Rattle.np_net.specs.Naming.{area_name, name_lists, sa_name}
use Rattle.np_net.specs.Network.{IsNetwork}
use Rattle.np_net.specs.Path.{device_of}
use Rattle.np_net.specs.Plan.{Plan}
use Rattle.np_net.proofs.NamingLaws.{names_found}
use Rattle.np_net.proofs.RangeLaws.{device_in_range}
use Rattle.np_ipsec.specs.declared.places.Place.{Place}
use Rattle.np_ipsec.specs.declared.places.Place.TheVariants as at
use Rattle.np_ipsec.specs.declared.places.Motion.{Motion}
use Rattle.np_ipsec.specs.declared.places.Motion.TheVariants as motions
use Rattle.np_ipsec.specs.Steps.{IsPlace}
use Rattle.np_script.specs.declared.statement.Start.{Start}
use Rattle.np_script.specs.declared.statement.Statement.TheVariants as statement
use Rattle.np_script.specs.Fitting.{IsMotion}
use Rattle.np_script.specs.Judging.{area_in, code_point_or_none, code_point_of, cross_says, enter_says, header_says, interface_in, place_in, push_says, sa_in, start_says, words_say}
use Rattle.np_script.specs.Written.{WordsReadBack, dscp_words, header_words, interface_words, move_words, place_words, start_words}

-- ---- headers

flag_back : (b : Bool) → (flag_number b == 1) ≡ b
flag_back true = refl
flag_back false = refl

flag_small : (b : Bool) → flag_number b ≤ 1
flag_small true = omega arith
flag_small false = omega arith

code_point_read : (dscp : ℕ) → dscp < 2 ^ 6 → code_point_of (codes "dscp=" ++ decimal dscp) ≡ Ok dscp
code_point_read dscp small =
    rw (number_of-decimal dscp 63 (omega arith) (omega arith)) refl

code_point_back : (dscp : ℕ) → dscp < 2 ^ 6 → code_point_or_none (dscp_words dscp) ≡ Ok dscp
code_point_back dscp small = by (dscp == 0) refl where
  by : (zero : Bool) → (dscp == 0) ≡ zero → code_point_or_none (if zero then [] else (codes "dscp=" ++ decimal dscp) ∷ []) ≡ Ok dscp
  by true is = let none : dscp ≡ 0 = eqb-true dscp 0 is in rw none refl
  by false is = rw (code_point_read dscp small) refl

header_back : (h : Header) → HasWidths h → header_says (header_words h) ≡ Ok h
unfolding header_says
header_back h is =
    let src = is.src in
    let dst = is.dst in
    let proto = is.proto in
    let a = is.a in
    let b = is.b in
    rw (
      address_of-dotted h.src is.src,
      address_of-dotted h.dst is.dst,
      number_of-decimal h.proto 255 (omega arith) (omega arith),
      number_of-decimal h.a 65535 (omega arith) (omega arith),
      number_of-decimal h.b 65535 (omega arith) (omega arith),
      number_of-decimal (flag_number h.est) 1 (omega (arith, flag_small h.est)) (flag_small h.est),
      code_point_back h.dscp is.dscp,
      flag_back h.est,
    ) refl

-- ---- names

module _ (net : Plan) (is : IsNetwork net) where
  area_back : (a : ℕ) (more : List (List ℕ)) → a < length net.areas → area_in (name_lists net) (area_name net a ∷ more) ≡ Ok (a, more)
  unfolding area_in
  area_back a more lt = rw ((names_found net is).areas a lt) refl

  sa_back : (k : ℕ) (more : List (List ℕ)) → k < length net.sas → sa_in (name_lists net) (sa_name net k ∷ more) ≡ Ok (k, more)
  unfolding sa_in
  sa_back k more lt = rw ((names_found net is).sas k lt) refl

  interface_back : (i : ℕ) (more : List (List ℕ)) → i < length net.interfaces → interface_in (name_lists net) (interface_words net i ++ more) ≡ Ok (i, more)
  unfolding interface_in
  interface_back i more lt = rw ((names_found net is).devices (device_of net.interfaces i) (device_in_range net is i lt), (names_found net is).interfaces i lt) refl

  -- ---- statements

  place_back : (place : Place) (more : List (List ℕ)) → IsPlace net place → place_in (name_lists net) (place_words net place ++ more) ≡ Ok (place, more)
  unfolding place_in
  place_back (at.AtArea a) more lt = rw (area_back a more lt) refl
  place_back (at.AtIn i) more lt = rw (interface_back i more lt) refl
  place_back (at.AtOut i) more lt = rw (interface_back i more lt) refl

  start_back : (start : Start) → IsPlace net start.place → HasWidths start.plain → words_say (name_lists net) None (start_words net start) ≡ Ok (Some (statement.Begin start))
  unfolding start_says
  start_back start place plain = rw (place_back start.place (header_words start.plain) place, header_back start.plain plain) refl

  move_back : (start : Start) (motion : Motion) → IsMotion net motion → words_say (name_lists net) (Some start) (move_words net motion) ≡ Ok (Some (statement.Move motion))
  unfolding enter_says cross_says push_says
  move_back start (motions.Enter i) lt = rw (interface_back i [] lt) refl
  move_back start motions.Pop lt = refl
  move_back start (motions.Cross j) lt = rw (interface_back j [] lt) refl
  move_back start (motions.Push k) lt = rw (sa_back k [] lt) refl
  move_back start motions.Leave lt = refl

pub words_back : (net : Plan) → IsNetwork net → WordsReadBack net
words_back net is = record { start = start_back net is; move = move_back net is }
