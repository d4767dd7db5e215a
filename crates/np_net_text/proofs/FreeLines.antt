-- The lines of the free slots are read as these slots, and what they free gives the flags back.
use Rattle.std.proofs.Common.{◌≡◌, ℕ, ◌+◌, ◌*◌, ◌<◌, nat_eq, Bool, true, false, cond, List, [], ◌∷◌, ◌++◌, length, get_or, map, Some, Ok, codes, sym, refl, ap, ◌∙◌, subst, arith, append-nil, append_assoc, length-append, eq-eqb}
use Rattle.std.specs.List.{AllByRecursion, list_any, position, range_with_len}
use Rattle.std.proofs.lemmas.Bool.{ne_eqb, or_from}
use Rattle.std.proofs.lemmas.List.{map-append, length-map}
use Rattle.std.proofs.lemmas.List.Folds.{list_any-append}
use Rattle.std.proofs.Math.Seq.{get_or-append_seam}
use Rattle.np_net.specs.Distinct.{same_place}
use Rattle.np_net.specs.Network.{IsInterface, IsNetwork}
use Rattle.np_net.specs.Plan.{Plan, interface_names}
use Rattle.np_net.specs.declared.filtering.Interface.{Interface}
use Rattle.np_net_read.specs.declared.statement.Statement.TheVariants as statement
use Rattle.np_net_text.specs.Canonical.{slot_line, free_lines, place_words}
use Rattle.np_net_read.specs.Declaring.{free_flags}
use Rattle.np_net_read.specs.Judging.{slot_of, words_say, free_says}
use Rattle.np_net_text.proofs.ChainLaws.{ReadsInto, then_reads}
use Rattle.np_net.proofs.NamingLaws.{place_found}
use Rattle.np_net_text.proofs.StatementLines.{stage, device_named}

-- ---- the slots that flags free

-- this slot, where it is free
abbrev pub slot_if : Bool → ℕ → List ℕ
slot_if free slot = cond free (slot ∷ []) []

-- the free slots, where the flags begin at this slot
abbrev pub free_slots : ℕ → List Bool → List ℕ
free_slots slot [] = []
free_slots slot (free ∷ flags) = slot_if free slot ++ free_slots (slot + 1) flags

-- slots below this one
abbrev pub AreBelow : ℕ → List ℕ → Type 0
AreBelow slot slots = AllByRecursion (λ s. s < slot) slots

below_more : (slot : ℕ) (slots : List ℕ) → AreBelow slot slots → AreBelow (slot + 1) slots
below_more slot [] h = tt
below_more slot (s ∷ slots) h = let first = h.0 in (omega arith, below_more slot slots h.1)

below_append : (slot : ℕ) (xs ys : List ℕ) → AreBelow slot xs → AreBelow slot ys → AreBelow slot (xs ++ ys)
below_append slot [] ys h k = k
below_append slot (x ∷ xs) ys h k = (h.0, below_append slot xs ys h.1 k)

below_one : (free : Bool) (slot : ℕ) → AreBelow (slot + 1) (slot_if free slot)
below_one true slot = (omega arith, tt)
below_one false slot = tt

below_next : (slot : ℕ) (slots : List ℕ) (free : Bool) → AreBelow slot slots → AreBelow (slot + 1) (slots ++ slot_if free slot)
below_next slot slots free h = below_append (slot + 1) slots (slot_if free slot) (below_more slot slots h) (below_one free slot)

-- a slot isn't among those below it
new_behind : (slot : ℕ) (slots : List ℕ) → AreBelow slot slots → list_any (nat_eq slot) slots ≡ false
new_behind slot [] h = refl
new_behind slot (s ∷ slots) h = let first : s < slot = h.0 in or_from _ _ (ne_eqb slot s (λ e. absurd (omega arith))) (new_behind slot slots h.1)

-- nor among those that flags after it free
not_later : (slot first : ℕ) (flags : List Bool) → slot < first → list_any (nat_eq slot) (free_slots first flags) ≡ false
not_later slot first [] lt = refl
not_later slot first (true ∷ flags) lt = or_from _ _ (ne_eqb slot first (λ e. absurd (omega arith))) (not_later slot (first + 1) flags (omega arith))
not_later slot first (false ∷ flags) lt = not_later slot (first + 1) flags (omega arith)

-- and it is itself, where it is free
is_itself : (free : Bool) (slot : ℕ) (flags : List Bool) → list_any (nat_eq slot) (slot_if free slot ++ free_slots (slot + 1) flags) ≡ free
is_itself true slot flags = rw (eq-eqb slot slot refl) refl
is_itself false slot flags = not_later slot (slot + 1) flags (omega arith)

flag_back : (front : List ℕ) (slot : ℕ) (free : Bool) (flags : List Bool) → AreBelow slot front → list_any (nat_eq slot) (front ++ free_slots slot (free ∷ flags)) ≡ free
flag_back front slot free flags h = rw (list_any-append (nat_eq slot) front (free_slots slot (free ∷ flags)), new_behind slot front h) (is_itself free slot flags)

flags_from : (front : List ℕ) (slot : ℕ) (flags : List Bool) → AreBelow slot front → map (λ s. list_any (nat_eq s) (front ++ free_slots slot flags)) (range_with_len slot (length flags)) ≡ flags
flags_from front slot [] h = refl
flags_from front slot (free ∷ flags) h =
    let all = front ++ free_slots slot (free ∷ flags) in
    ap (λ first. first ∷ map (λ s. list_any (nat_eq s) all) (range_with_len (slot + 1) (length flags))) (flag_back front slot free flags h)
    ∙ ap (λ slots. free ∷ map (λ s. list_any (nat_eq s) slots) (range_with_len (slot + 1) (length flags))) (sym (append_assoc front (slot_if free slot) (free_slots (slot + 1) flags)))
    ∙ ap (λ others. free ∷ others) (flags_from (front ++ slot_if free slot) (slot + 1) flags (below_next slot front free h))

-- the flags of the slots that flags free are these flags
pub flags_back : (flags : List Bool) (count : ℕ) → length flags ≡ count → free_flags (free_slots 0 flags) count ≡ flags
flags_back flags count e = ap (λ n. free_flags (free_slots 0 flags) n) (sym e) ∙ flags_from [] 0 flags tt

-- ---- the lines

module _ (net : Plan) (is : IsNetwork net) where
  -- an interface is found at its place
  pub interface_found : (front back : List Interface) (interface : Interface) → net.interfaces ≡ front ++ interface ∷ back → position (same_place (interface.device, interface.name)) (interface_names net.interfaces) ≡ Some (length front)
  interface_found front back interface e =
      let place : ℕ × List ℕ = (interface.device, interface.name) in
      let names : interface_names net.interfaces ≡ interface_names front ++ place ∷ interface_names back = ap interface_names e ∙ map-append (λ (i : Interface). (i.device, i.name)) front (interface ∷ back) in
      let count : length (interface_names front) ≡ length front = length-map front (λ (i : Interface). (i.device, i.name)) in
      let seam : get_or (interface_names net.interfaces) (length (interface_names front)) place ≡ place = rw names (get_or-append_seam (interface_names front) place (interface_names back) place) in
      let at : get_or (interface_names net.interfaces) (length front) place ≡ place = rw (← count) seam in
      let whole : length (interface_names net.interfaces) ≡ length (interface_names front ++ place ∷ interface_names back) = ap length names in
      ap (λ p. position (same_place p) (interface_names net.interfaces)) (sym at)
      ∙ place_found (interface_names net.interfaces) (length front) place is.names.interfaces (omega (arith, length-append (interface_names front) (place ∷ interface_names back)))

  -- a free slot's line, where its way's word gives this slot
  slot_read : (front back : List Interface) (interface : Interface) (way : List ℕ) (slot : ℕ) (freed : List ℕ) → net.interfaces ≡ front ++ interface ∷ back → interface.device < length net.devices → slot_of (length front) way ≡ Ok slot → AreBelow slot freed
      → words_say (stage net net.interfaces freed []) (codes "free" ∷ (place_words net interface ++ way ∷ [])) ≡ Ok (Some (statement.Free slot))
  unfolding free_says
  slot_read front back interface way slot freed e device slot_is below =
      rw (device_named net is interface.device device, interface_found front back interface e, slot_is, new_behind slot freed below) refl

  slot_line_read : (front back : List Interface) (interface : Interface) (way : List ℕ) (free : Bool) (slot : ℕ) (freed : List ℕ) → net.interfaces ≡ front ++ interface ∷ back → interface.device < length net.devices → slot_of (length front) way ≡ Ok slot → AreBelow slot freed
      → ReadsInto (stage net net.interfaces freed []) (slot_line net interface way free) (stage net net.interfaces (freed ++ slot_if free slot) [])
  slot_line_read front back interface way true slot freed e device slot_is below = (statement.Free slot, slot_read front back interface way slot freed e device slot_is below, refl)
  slot_line_read front back interface way false slot freed e device slot_is below = ap (λ freed. stage net net.interfaces freed []) (sym (append-nil freed))

  free_from : (front interfaces : List Interface) (flags : List Bool) (slot : ℕ) (freed : List ℕ) → net.interfaces ≡ front ++ interfaces → AllByRecursion (λ interface. IsInterface (length net.devices) (length net.areas) interface) interfaces
      → slot ≡ 2 * length front → length flags ≡ 2 * length interfaces → AreBelow slot freed
      → ReadsInto (stage net net.interfaces freed []) (free_lines net interfaces flags) (stage net net.interfaces (freed ++ free_slots slot flags) [])
  free_from front [] [] slot freed e formed at count below = ap (λ freed. stage net net.interfaces freed []) (sym (append-nil freed))
  free_from front [] (flag ∷ flags) slot freed e formed at count below = absurd (omega arith)
  free_from front (interface ∷ interfaces) [] slot freed e formed at count below = absurd (omega arith)
  free_from front (interface ∷ interfaces) (flag ∷ []) slot freed e formed at count below = absurd (omega arith)
  free_from front (interface ∷ interfaces) (inward ∷ outward ∷ flags) slot freed e formed at count below =
      let device = formed.0.device in
      let freed1 = freed ++ slot_if inward slot in
      let freed2 = freed1 ++ slot_if outward (slot + 1) in
      let below1 = below_next slot freed inward below in
      let below2 = below_next (slot + 1) freed1 outward below1 in
      let rest = free_from (front ++ interface ∷ []) interfaces flags (slot + 1 + 1) freed2 (e ∙ sym (append_assoc front (interface ∷ []) interfaces)) formed.1 (omega (arith, length-append front (interface ∷ []))) (omega arith) below2 in
      let inner = append_assoc freed1 (slot_if outward (slot + 1)) (free_slots (slot + 1 + 1) flags) in
      let slots : freed2 ++ free_slots (slot + 1 + 1) flags ≡ freed ++ free_slots slot (inward ∷ outward ∷ flags) = inner ∙ append_assoc freed (slot_if inward slot) (free_slots (slot + 1) (outward ∷ flags)) in
      let line1 = slot_line_read front interfaces interface (codes "in") inward slot freed e device (ap (λ s. Ok s) (sym at)) below in
      let line2 = slot_line_read front interfaces interface (codes "out") outward (slot + 1) freed1 e device (ap (λ s. Ok (s + 1)) (sym at)) below1 in
      then_reads (stage net net.interfaces freed []) (stage net net.interfaces freed1 []) _ (slot_line net interface (codes "in") inward) _ line1
      (then_reads (stage net net.interfaces freed1 []) (stage net net.interfaces freed2 []) _ (slot_line net interface (codes "out") outward) (free_lines net interfaces flags) line2
      (subst (λ all. ReadsInto (stage net net.interfaces freed2 []) (free_lines net interfaces flags) (stage net net.interfaces all [])) slots rest))

  pub free_read : ReadsInto (stage net net.interfaces [] []) (free_lines net net.interfaces net.free) (stage net net.interfaces (free_slots 0 net.free) [])
  free_read = free_from [] net.interfaces net.free 0 [] refl is.interfaces (omega arith) is.free tt
