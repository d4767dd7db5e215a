-- How the least headers that come to the places are handed on, and that the classes end with their least ones.
use Rattle.std.proofs.Common.{◌≡◌, ◌≢◌, ℕ, suc, ◌+◌, ◌-◌, ◌<◌, ◌≤◌, Bool, true, false, List, length, replicate, Option, Some, None, refl, sym, ◌∙◌, ap, subst, arith, if◌then◌else◌, ◌⊎◌, inl, inr}
use Rattle.std.proofs.lemmas.Bool.{cases_lt, cases_eq}
use Rattle.std.proofs.lemmas.List.{get_or-replicate, get_or_past, length-replicate}
use Rattle.np_space.specs.Header.{HasWidths, header_le, zeros}
use Rattle.np_space.specs.declared.headers.Header.{Header}
use Rattle.np_space.proofs.OrderLemmas.{le_chained, le_either, le_itself, le_by_fields}
use Rattle.np_bdd.specs.Views.{bits_of_header}
use Rattle.np_bdd.specs.Walking.{AgreeBelow, IsBefore, IsWithBit}
use Rattle.np_bdd.proofs.CanonicalLaws.{changed, unchanged}
use Rattle.np_bdd.proofs.SetBits.{zeros_clear, zeros_widths}
use Rattle.np_bdd.proofs.WayLemmas.{agree_more, agree_on, before_on}
use Rattle.np_bdd.proofs.BitsInOrder.{le_by_bits, bits_by_le}
use Rattle.np_partition.specs.declared.shows.Show.TheVariants.{Class, Test}
use Rattle.np_partition.specs.declared.partition.Partition.{Partition}
use Rattle.np_partition.specs.Diagram.{class_at, show_at, bit_of, bit_at, IsOrderedTest, IsDiagram}
use Rattle.np_partition.specs.Partition.{class_of, IsLeastMember, AreLeastMembers}
use Rattle.np_partition.specs.Least.{slot_at, AreFree, lesser, IsOffered, IsWayTo, WaitsBefore, HasArrived, AreHandedOn}
use Rattle.np_partition.proofs.DiagramLaws.{ordered_test, class_chosen, class_at_class}

-- ---- a header with a bit set

-- a header that is 0 from a bit on, and at most another that has the bit, is so with the bit set too
raised_le : (x set h : Header) (bit : ℕ) → bit < 111 → HasWidths x → HasWidths h → IsWithBit x set bit → ((i : ℕ) → bit ≤ i → i < 111 → bits_of_header x i ≡ false) → bits_of_header h bit ≡ true → header_le x h ≡ true → header_le set h ≡ true
raised_le x set h bit fits v w is clear one le = le_by_bits set h is.widths w (by (bits_by_le x h v w le))
  where
    earlier : AgreeBelow bit (bits_of_header set) (bits_of_header x)
    earlier i l = is.bits i (omega (arith, l, fits)) ∙ unchanged (bits_of_header x) bit true i (λ e. omega (arith, l, e))

    here : bits_of_header set bit ≡ bits_of_header h bit
    here = is.bits bit fits ∙ changed (bits_of_header x) bit true bit refl ∙ sym one

    later : (i : ℕ) → suc bit ≤ i → i < 111 → bits_of_header set i ≡ false
    later i below l = is.bits i l ∙ unchanged (bits_of_header x) bit true i (λ e. omega (arith, below, e)) ∙ clear i (omega (arith, below)) l

    -- they agree up to the bit
    along : AgreeBelow bit (bits_of_header x) (bits_of_header h) → IsBefore 111 (bits_of_header set) (bits_of_header h) ⊎ AgreeBelow 111 (bits_of_header set) (bits_of_header h)
    along agree =
        agree_on (111 - suc bit) (bits_of_header set) (bits_of_header h) (suc bit) 111 (omega (arith, fits))
        (agree_more (bits_of_header set) (bits_of_header h) bit (suc bit) refl (λ i l. earlier i l ∙ agree i l) here) later

    by : IsBefore 111 (bits_of_header x) (bits_of_header h) ⊎ AgreeBelow 111 (bits_of_header x) (bits_of_header h) → IsBefore 111 (bits_of_header set) (bits_of_header h) ⊎ AgreeBelow 111 (bits_of_header set) (bits_of_header h)
    by (inr agree) = along (λ i l. agree i (omega (arith, l, fits)))
    by (inl before) = elim (cases_lt before.place bit) [
      | inl l ↦ inl (before_on (bits_of_header x) (bits_of_header set) (bits_of_header h) bit 111 (omega (arith, fits)) earlier
          (record { place = before.place; within = l; same = before.same; zero_here = before.zero_here; one_there = before.one_there }))
      | inr m ↦ along (λ i l. before.same i (omega (arith, l, m)))
    ]

-- ---- ways

-- the header of zeros comes to the root
pub zeros_way : (p : Partition) → IsWayTo p p.root zeros
zeros_way p = record { widths = zeros_widths; clear = λ i below l. zeros_clear i l; comes = λ bits agree. refl }

-- the way to a place goes on by the low branch as it is
pub low_way : (p : Partition) → IsDiagram p.shows → (at bit low high : ℕ) (x : Header) → at < length p.shows → show_at p.shows at ≡ Test bit low high → IsWayTo p at x → IsWayTo p low x
low_way p d at bit low high x there shown way = record {
  widths = way.widths;
  clear = λ i below l. way.clear i (omega (arith, below, o.low_greater, here)) l;
  comes = λ bits agree.
      way.comes bits (λ i l. agree i (omega (arith, l, o.low_greater, here)))
      ∙ class_chosen p.shows d bits at bit low high there shown
      ∙ ap (λ b. if b then class_at bits p.shows high else class_at bits p.shows low) (agree bit o.low_greater ∙ way.clear bit (omega (arith, here)) o.bit_fits);
}
  where
    o : IsOrderedTest p.shows at bit low high
    o = ordered_test p.shows d at bit low high there shown

    here : bit_at p.shows at ≡ bit
    here = ap bit_of shown

-- and by the high one with the bit set
pub high_way : (p : Partition) → IsDiagram p.shows → (at bit low high : ℕ) (x set : Header) → at < length p.shows → show_at p.shows at ≡ Test bit low high → IsWithBit x set bit → IsWayTo p at x → IsWayTo p high set
high_way p d at bit low high x set there shown is way = record {
  widths = is.widths;
  clear = λ i below l.
      is.bits i l ∙ unchanged (bits_of_header x) bit true i (λ e. omega (arith, below, o.high_greater, e)) ∙ way.clear i (omega (arith, below, o.high_greater, here)) l;
  comes = λ bits agree.
      way.comes bits (λ i l. agree i (omega (arith, l, o.high_greater, here)) ∙ is.bits i (omega (arith, l, here, o.bit_fits)) ∙ unchanged (bits_of_header x) bit true i (λ e. omega (arith, l, here, e)))
      ∙ class_chosen p.shows d bits at bit low high there shown
      ∙ ap (λ b. if b then class_at bits p.shows high else class_at bits p.shows low) (agree bit o.high_greater ∙ is.bits bit o.bit_fits ∙ changed (bits_of_header x) bit true bit refl);
}
  where
    o : IsOrderedTest p.shows at bit low high
    o = ordered_test p.shows d at bit low high there shown

    here : bit_at p.shows at ≡ bit
    here = ap bit_of shown

-- ---- an offer

-- the lesser of two headers is one of them
lesser_from : (slot : Option Header) (x : Header) → (lesser slot x ≡ x) ⊎ (slot ≡ Some (lesser slot x))
lesser_from None x = inl refl
lesser_from (Some y) x = by (header_le y x)
  where
    by : (b : Bool) → ((if b then y else x) ≡ x) ⊎ (Some y ≡ Some (if b then y else x))
    by true = inr refl
    by false = inl refl

-- it is at most either
lesser_le : (slot : Option Header) (x : Header) → header_le (lesser slot x) x ≡ true
lesser_le None x = le_itself x
lesser_le (Some y) x = by (header_le y x) refl
  where
    by : (b : Bool) → header_le y x ≡ b → header_le (if b then y else x) x ≡ true
    by true le = le
    by false le = le_itself x

lesser_before : (slot : Option Header) (x y : Header) → slot ≡ Some y → header_le (lesser slot x) y ≡ true
lesser_before None x y e = absurd (cc)
lesser_before (Some z) x y e =
    let same : z ≡ y = cc in
    ap (λ w. header_le (if header_le w x then w else x) y) same ∙ by (header_le y x) refl (le_either y x)
  where
    by : (b : Bool) → header_le y x ≡ b → (header_le y x ≡ true) ⊎ (header_le x y ≡ true) → header_le (if b then y else x) y ≡ true
    by true le either = le_itself y
    by false not_le (inl le) = let e : false ≡ true = sym not_le ∙ le in absurd (cc)
    by false not_le (inr le) = le

-- what a slot has after an offer is what was offered there, or it was there before
offered_from : (n k : ℕ) (x y : Header) (old new : List (Option Header)) → IsOffered n x old new → slot_at new k ≡ Some y → (k ≡ n) × (y ≡ x) ⊎ (slot_at old k ≡ Some y)
offered_from n k x y old new o stands = by (cases_eq k n)
  where
    at_slot : k ≡ n → y ≡ lesser (slot_at old n) x
    at_slot e = let same : Some y ≡ Some (lesser (slot_at old n) x) = sym stands ∙ ap (λ m. slot_at new m) e ∙ o.here in cc

    which : k ≡ n → y ≡ lesser (slot_at old n) x → (lesser (slot_at old n) x ≡ x) ⊎ (slot_at old n ≡ Some (lesser (slot_at old n) x)) → (k ≡ n) × (y ≡ x) ⊎ (slot_at old k ≡ Some y)
    which e same (inl new) = inl (e, same ∙ new)
    which e same (inr was) = inr (ap (λ m. slot_at old m) e ∙ was ∙ ap Some (sym same))

    by : (k ≡ n) ⊎ (k ≢ n) → (k ≡ n) × (y ≡ x) ⊎ (slot_at old k ≡ Some y)
    by (inl e) = which e (at_slot e) (lesser_from (slot_at old n) x)
    by (inr ne) = inr (sym (o.others k ne) ∙ stands)

-- the places have headers that come to them
abbrev AreWays : Partition → ℕ → List (Option Header) → Type 0
AreWays p at places = (place : ℕ) (x : Header) → place < at → slot_at places place ≡ Some x → IsWayTo p place x

ways_offered : (p : Partition) (at n : ℕ) (x : Header) (old new : List (Option Header)) → IsOffered n x old new → IsWayTo p n x → AreWays p at old → AreWays p at new
ways_offered p at n x old new o way ways place y early stands = by (offered_from n place x y old new o stands)
  where
    by : (place ≡ n) × (y ≡ x) ⊎ (slot_at old place ≡ Some y) → IsWayTo p place y
    by (inl new) = subst (λ m. IsWayTo p m y) (sym new.0) (subst (λ z. IsWayTo p n z) (sym new.1) way)
    by (inr was) = ways place y early was

-- a header that waits goes on waiting
still_waits : (p : Partition) (at n : ℕ) (x h : Header) (old new : List (Option Header)) → IsOffered n x old new → WaitsBefore p at old h → WaitsBefore p at new h
still_waits p at n x h old new o waits = by (cases_eq waits.place n)
  where
    by : (waits.place ≡ n) ⊎ (waits.place ≢ n) → WaitsBefore p at new h
    by (inl e) = record {
      place = waits.place;
      early = waits.early;
      first = lesser (slot_at old n) x;
      stands = ap (λ m. slot_at new m) e ∙ o.here;
      leads = waits.leads;
      least = le_chained (lesser (slot_at old n) x) waits.first h (lesser_before (slot_at old n) x waits.first (ap (λ m. slot_at old m) (sym e) ∙ waits.stands)) waits.least;
    }
    by (inr ne) = record {
      place = waits.place;
      early = waits.early;
      first = waits.first;
      stands = o.others waits.place ne ∙ waits.stands;
      leads = waits.leads;
      least = waits.least;
    }

-- a header that is at least what was offered waits there
waits_there : (p : Partition) (at n : ℕ) (x h : Header) (old new : List (Option Header)) → IsOffered n x old new → n < at → class_of p h ≡ class_at (bits_of_header h) p.shows n → header_le x h ≡ true → WaitsBefore p at new h
waits_there p at n x h old new o early leads least = record {
  place = n;
  early = early;
  first = lesser (slot_at old n) x;
  stands = o.here;
  leads = leads;
  least = le_chained (lesser (slot_at old n) x) x h (lesser_le (slot_at old n) x) least;
}

-- a header that arrived has arrived
still_arrived : (p : Partition) (n : ℕ) (x h : Header) (old new : List (Option Header)) → IsOffered n x old new → HasArrived p old h → HasArrived p new h
still_arrived p n x h old new o arrived = by (cases_eq (class_of p h) n)
  where
    by : (class_of p h ≡ n) ⊎ (class_of p h ≢ n) → HasArrived p new h
    by (inl e) = record {
      first = lesser (slot_at old n) x;
      stands = ap (λ m. slot_at new m) e ∙ o.here;
      least = le_chained (lesser (slot_at old n) x) arrived.first h (lesser_before (slot_at old n) x arrived.first (ap (λ m. slot_at old m) (sym e) ∙ arrived.stands)) arrived.least;
    }
    by (inr ne) = record { first = arrived.first; stands = o.others (class_of p h) ne ∙ arrived.stands; least = arrived.least }

arrives_there : (p : Partition) (n : ℕ) (x h : Header) (old new : List (Option Header)) → IsOffered n x old new → class_of p h ≡ n → header_le x h ≡ true → HasArrived p new h
arrives_there p n x h old new o e least = record {
  first = lesser (slot_at old n) x;
  stands = ap (λ m. slot_at new m) e ∙ o.here;
  least = le_chained (lesser (slot_at old n) x) x h (lesser_le (slot_at old n) x) least;
}

-- ---- one place

-- a header that waits before the next place waits before this one, or at this one
record WaitsHere (p : Partition) (at : ℕ) (places : List (Option Header)) (h : Header) : Type 0 where
  first : Header
  stands : slot_at places at ≡ Some first
  leads : class_of p h ≡ class_at (bits_of_header h) p.shows at
  least : header_le first h ≡ true

before_or_here : (p : Partition) (at : ℕ) (places : List (Option Header)) (h : Header) → WaitsBefore p (1 + at) places h → WaitsBefore p at places h ⊎ WaitsHere p at places h
before_or_here p at places h waits = by (cases_eq waits.place at)
  where
    by : (waits.place ≡ at) ⊎ (waits.place ≢ at) → WaitsBefore p at places h ⊎ WaitsHere p at places h
    by (inl e) = inr (record {
      first = waits.first;
      stands = ap (λ m. slot_at places m) (sym e) ∙ waits.stands;
      leads = waits.leads ∙ ap (λ m. class_at (bits_of_header h) p.shows m) e;
      least = waits.least;
    })
    by (inr ne) = inl (record {
      place = waits.place;
      early = omega (arith, waits.early, ne);
      first = waits.first;
      stands = waits.stands;
      leads = waits.leads;
      least = waits.least;
    })

-- what is at most a header here
first_here : (p : Partition) (at : ℕ) (places : List (Option Header)) (h x : Header) → (here : WaitsHere p at places h) → slot_at places at ≡ Some x → header_le x h ≡ true
first_here p at places h x here stands =
    let same : x ≡ here.first = (let e : Some x ≡ Some here.first = sym stands ∙ here.stands in cc) in
    ap (λ y. header_le y h) same ∙ here.least

-- a place without a header has nothing to hand on
pub nothing_there : (p : Partition) (at : ℕ) (places leasts : List (Option Header)) → slot_at places at ≡ None → AreHandedOn p (1 + at) places leasts → AreHandedOn p at places leasts
nothing_there p at places leasts none handed = record {
  all = handed.all;
  count = handed.count;
  ways = λ place x early stands. handed.ways place x (omega (arith, early)) stands;
  members = handed.members;
  each = λ h w. by h (handed.each h w);
}
  where
    further : (h : Header) → WaitsBefore p at places h ⊎ WaitsHere p at places h → WaitsBefore p at places h ⊎ HasArrived p leasts h
    further h (inl before) = inl before
    further h (inr here) = let e : None ≡ Some here.first = sym none ∙ here.stands in absurd (cc)

    by : (h : Header) → WaitsBefore p (1 + at) places h ⊎ HasArrived p leasts h → WaitsBefore p at places h ⊎ HasArrived p leasts h
    by h (inl waits) = further h (before_or_here p at places h waits)
    by h (inr arrived) = inr arrived

-- the header of a place that shows a class is in that class
pub class_there : (p : Partition) (at n : ℕ) (x : Header) → at < length p.shows → show_at p.shows at ≡ Class n → IsWayTo p at x → class_of p x ≡ n
class_there p at n x there shown way = way.comes (bits_of_header x) (λ i l. refl) ∙ class_at_class (bits_of_header x) p.shows at n there shown

-- it is handed on to the class
pub to_class : (p : Partition) (at n : ℕ) (x : Header) (places leasts new : List (Option Header)) → at < length p.shows → show_at p.shows at ≡ Class n → slot_at places at ≡ Some x → IsOffered n x leasts new
    → AreHandedOn p (1 + at) places leasts → AreHandedOn p at places new
to_class p at n x places leasts new there shown stands o handed = record {
  all = handed.all;
  count = o.count ∙ handed.count;
  ways = λ place y early is. handed.ways place y (omega (arith, early)) is;
  members = λ k y is. member k y (offered_from n k x y leasts new o is);
  each = λ h w. by h (handed.each h w);
}
  where
    way : IsWayTo p at x
    way = handed.ways at x (omega arith) stands

    member : (k : ℕ) (y : Header) → (k ≡ n) × (y ≡ x) ⊎ (slot_at leasts k ≡ Some y) → HasWidths y × (class_of p y ≡ k)
    member k y (inl is) = (subst (λ z. HasWidths z) (sym is.1) way.widths, ap (λ z. class_of p z) is.1 ∙ class_there p at n x there shown way ∙ sym is.0)
    member k y (inr was) = handed.members k y was

    further : (h : Header) → WaitsBefore p at places h ⊎ WaitsHere p at places h → WaitsBefore p at places h ⊎ HasArrived p new h
    further h (inl before) = inl before
    further h (inr here) =
        inr (arrives_there p n x h leasts new o (here.leads ∙ class_at_class (bits_of_header h) p.shows at n there shown) (first_here p at places h x here stands))

    by : (h : Header) → WaitsBefore p (1 + at) places h ⊎ HasArrived p leasts h → WaitsBefore p at places h ⊎ HasArrived p new h
    by h (inl waits) = further h (before_or_here p at places h waits)
    by h (inr arrived) = inr (still_arrived p n x h leasts new o arrived)

-- the header of a test is handed on to both branches
pub to_branches : (p : Partition) → IsDiagram p.shows → (at bit low high : ℕ) (x set : Header) (places middle new leasts : List (Option Header)) → at < length p.shows → show_at p.shows at ≡ Test bit low high → slot_at places at ≡ Some x
    → IsWithBit x set bit → IsOffered low x places middle → IsOffered high set middle new → AreHandedOn p (1 + at) places leasts → AreHandedOn p at new leasts
to_branches p d at bit low high x set places middle new leasts there shown stands is first second handed = record {
  all = second.count ∙ first.count ∙ handed.all;
  count = handed.count;
  ways = ways_offered p at high set middle new second (high_way p d at bit low high x set there shown is way)
      (ways_offered p at low x places middle first (low_way p d at bit low high x there shown way) (λ place y early. handed.ways place y (omega (arith, early))));
  members = handed.members;
  each = λ h w. by h w (handed.each h w);
}
  where
    way : IsWayTo p at x
    way = handed.ways at x (omega arith) stands

    o : IsOrderedTest p.shows at bit low high
    o = ordered_test p.shows d at bit low high there shown

    goes : (h : Header) → HasWidths h → WaitsHere p at places h → (b : Bool) → bits_of_header h bit ≡ b → WaitsBefore p at new h
    goes h w here true one =
        waits_there p at high set h middle new second o.high_before
        (here.leads ∙ class_chosen p.shows d (bits_of_header h) at bit low high there shown ∙ ap (λ b. if b then class_at (bits_of_header h) p.shows high else class_at (bits_of_header h) p.shows low) one)
        (raised_le x set h bit o.bit_fits way.widths w is (λ i below l. way.clear i (omega (arith, below, ap bit_of shown)) l) one (first_here p at places h x here stands))
    goes h w here false zero =
        still_waits p at high set h middle new second
        (waits_there p at low x h places middle first o.low_before
        (here.leads ∙ class_chosen p.shows d (bits_of_header h) at bit low high there shown ∙ ap (λ b. if b then class_at (bits_of_header h) p.shows high else class_at (bits_of_header h) p.shows low) zero)
        (first_here p at places h x here stands))

    further : (h : Header) → HasWidths h → WaitsBefore p at places h ⊎ WaitsHere p at places h → WaitsBefore p at new h
    further h w (inl before) = still_waits p at high set h middle new second (still_waits p at low x h places middle first before)
    further h w (inr here) = goes h w here (bits_of_header h bit) refl

    by : (h : Header) → HasWidths h → WaitsBefore p (1 + at) places h ⊎ HasArrived p leasts h → WaitsBefore p at new h ⊎ HasArrived p leasts h
    by h w (inl waits) = inl (further h w (before_or_here p at places h waits))
    by h w (inr arrived) = inr arrived

-- ---- the start and the end

-- slots that are made all alike have no header
pub free_slots : (n : ℕ) → AreFree n (replicate n None)
free_slots n = record { count = length-replicate n None; each = λ k. by k (cases_lt k n) }
  where
    by : (k : ℕ) → (k < n) ⊎ (n ≤ k) → slot_at (replicate n None) k ≡ None
    by k (inl l) = get_or-replicate n k None None l
    by k (inr m) = get_or_past (replicate n None) k None (omega (arith, m, length-replicate {A = Option Header} n None))

-- the header of zeros is at the root, and there is no other
pub starts_at_root : (p : Partition) (free places leasts : List (Option Header)) → p.root < length p.shows → AreFree (length p.shows) free → AreFree p.classes leasts → IsOffered p.root zeros free places → AreHandedOn p (length p.shows) places leasts
starts_at_root p free places leasts there none empty o = record {
  all = o.count ∙ none.count;
  count = empty.count;
  ways = ways_offered p (length p.shows) p.root zeros free places o (zeros_way p) (λ place x early stands. let e : None ≡ Some x = sym (none.each place) ∙ stands in absurd (cc));
  members = λ n x stands. let e : None ≡ Some x = sym (empty.each n) ∙ stands in absurd (cc);
  each = λ h w. inl (waits_there p (length p.shows) p.root zeros h free places o there refl (zeros_least h));
}
  where
    zeros_least : (h : Header) → header_le zeros h ≡ true
    zeros_least h = le_by_fields zeros h (omega arith) (omega arith) (omega arith) (omega arith) (omega arith) (omega arith) (omega arith)

-- once the first place has handed its header on, each class has its least one
pub all_arrived : (p : Partition) (places leasts : List (Option Header)) → AreHandedOn p 0 places leasts → AreLeastMembers p leasts
all_arrived p places leasts handed = record { count = handed.count; each = λ n within. by n (slot_at leasts n) refl }
  where
    arrived : (h : Header) → WaitsBefore p 0 places h ⊎ HasArrived p leasts h → HasArrived p leasts h
    arrived h (inl waits) = absurd (omega (arith, waits.early))
    arrived h (inr has) = has

    by : (n : ℕ) (slot : Option Header) → slot_at leasts n ≡ slot → IsLeastMember p n slot
    by n None e = λ h w is.
        let has = arrived h (handed.each h w) in
        let none : None ≡ Some has.first = sym e ∙ ap (λ m. slot_at leasts m) (sym is) ∙ has.stands in
        absurd (cc)
    by n (Some x) e = (
      (handed.members n x e).0,
      (handed.members n x e).1,
      λ h w is.
          let has = arrived h (handed.each h w) in
          let here : Some x ≡ Some has.first = sym e ∙ ap (λ m. slot_at leasts m) (sym is) ∙ has.stands in
          let same : x ≡ has.first = cc in
          ap (λ y. header_le y h) same ∙ has.least,
    )
