-- The next hop is the nearest, and of the nearest ones the first.
use Rattle.std.proofs.Common.{◌≡◌, ◌⊎◌, ℕ, ◌+◌, ◌*◌, ◌<◌, ◌≤◌, ◌&&◌, Bool, true, false, List, length, Option, Some, None, sym, ◌∙◌, ap, subst, inl, inr, refl, arith}
use Rattle.std.proofs.lemmas.Bool.{cases_lt, eqb-true, eq-eqb}
use Rattle.std.specs.Prelude.{nat_eq}
use Rattle.np_net.specs.declared.filtering.Interface.{Interface}
use Rattle.np_net.specs.Path.{device_of, area_of}
use Rattle.np_flow.specs.Distances.{distance_at, known_if, out_at, way_out, first_part, in_at, way_in, IsHopTo, IsBeforeOrSame, IsNextHop}
use Rattle.np_flow.proofs.LeastLaws.{IsLeast, IsFound, is_found}

-- ---- a distance that is known where a test holds

known_if_is : (test : Bool) (o : Option ℕ) (m : ℕ) → known_if test o ≡ Some m → (test ≡ true) × (o ≡ Some m)
known_if_is true o m is = (refl, is)
known_if_is false o m is = let no : None ≡ Some m = is in cc

both-true : (a b : Bool) → (a && b) ≡ true → (a ≡ true) × (b ≡ true)
both-true true b is = (refl, is)
both-true false b is = let no : false ≡ true = is in cc

part_is : (o : Option (ℕ × ℕ)) (m : ℕ) → first_part o ≡ Some m → (n : ℕ) × (o ≡ Some (m, n))
part_is None m is = let no : None ≡ Some m = is in cc
part_is (Some f) m is = let e : Some f.0 ≡ Some m = is in let same : f.0 ≡ m = cc in (f.1, ap (λ k. Some (k, f.1)) same)

known_by : (test : Bool) (o : Option ℕ) → test ≡ true → known_if test o ≡ o
known_by true o is = refl
known_by false o is = let no : false ≡ true = is in cc

same-and : (a b : ℕ) (c : Bool) → a ≡ b → c ≡ true → (nat_eq a b && c) ≡ true
same-and a b c same is = ap (λ x. x && c) (eq-eqb a b same) ∙ is

-- what was found is the least
least_of : (at : ℕ → Option ℕ) (n : ℕ) (o : Option (ℕ × ℕ)) (f : ℕ × ℕ) → IsFound at n o → o ≡ Some f → IsLeast at n f
least_of at n o f found is = subst (λ x. IsFound at n x) is found

-- something was found where there is something
some_of : (at : ℕ → Option ℕ) (n : ℕ) (o : Option (ℕ × ℕ)) → IsFound at n o → (k m : ℕ) → k < n → at k ≡ Some m → (f : ℕ × ℕ) × (o ≡ Some f)
some_of at n None found k m lt is = let no : None ≡ Some m = sym (found k lt) ∙ is in cc
some_of at n (Some f) found k m lt is = (f, refl)

module _ (interfaces : List Interface) (lets : ℕ → Bool) (distances : List (Option ℕ)) where
  abbrev outs : (d : ℕ) → ℕ → Option ℕ
  outs d = out_at interfaces lets distances d

  abbrev ins : (a : ℕ) → ℕ → Option ℕ
  ins a = in_at interfaces lets distances a

  -- a hop is a way out of its device
  out_of_hop : (a m : ℕ) (hop : ℕ × ℕ) → IsHopTo interfaces lets distances a m hop → out_at interfaces lets distances (device_of interfaces hop.0) hop.1 ≡ Some m
  out_of_hop a m hop h =
      known_by (nat_eq (device_of interfaces hop.1) (device_of interfaces hop.0) && lets (2 * hop.1 + 1)) (distance_at distances (area_of interfaces hop.1))
      (same-and (device_of interfaces hop.1) (device_of interfaces hop.0) (lets (2 * hop.1 + 1)) (sym h.is.2) h.outward)
      ∙ h.ends

  -- the nearest way out of a hop's device
  way_of_hop : (a m : ℕ) (hop : ℕ × ℕ) → IsHopTo interfaces lets distances a m hop → (f : ℕ × ℕ) × (way_out interfaces lets distances (device_of interfaces hop.0) ≡ Some f)
  way_of_hop a m hop h =
      some_of (outs (device_of interfaces hop.0)) (length interfaces) (way_out interfaces lets distances (device_of interfaces hop.0))
      (is_found (outs (device_of interfaces hop.0)) (length interfaces)) hop.1 m h.is.1 (out_of_hop a m hop h)

  -- it is a way in from its area
  in_of_hop : (a m : ℕ) (hop f : ℕ × ℕ) → IsHopTo interfaces lets distances a m hop → way_out interfaces lets distances (device_of interfaces hop.0) ≡ Some f
      → in_at interfaces lets distances a hop.0 ≡ Some f.0
  in_of_hop a m hop f h way =
      known_by (nat_eq (area_of interfaces hop.0) a && lets (2 * hop.0)) (first_part (way_out interfaces lets distances (device_of interfaces hop.0)))
      (same-and (area_of interfaces hop.0) a (lets (2 * hop.0)) h.begins h.inward)
      ∙ ap first_part way

  -- where there is no way in there is no hop
  pub no_hop : (a : ℕ) → way_in interfaces lets distances a ≡ None → (m : ℕ) (hop : ℕ × ℕ) → IsHopTo interfaces lets distances a m hop → ⊥
  no_hop a none m hop h =
      let way = way_of_hop a m hop h in
      let found = some_of (ins a) (length interfaces) (way_in interfaces lets distances a) (is_found (ins a) (length interfaces)) hop.0 way.0.0 h.is.0 (in_of_hop a m hop way.0 h way.1) in
      let no : None ≡ Some found.0 = sym none ∙ found.1 in
      cc

  -- a way in is a way out of its device
  pub way_through : (a : ℕ) (f : ℕ × ℕ) → way_in interfaces lets distances a ≡ Some f
      → (f.1 < length interfaces) × ((n : ℕ) × (way_out interfaces lets distances (device_of interfaces f.1) ≡ Some (f.0, n)))
  way_through a f way =
      let least = least_of (ins a) (length interfaces) (way_in interfaces lets distances a) f (is_found (ins a) (length interfaces)) way in (
        least.within,
        part_is (way_out interfaces lets distances (device_of interfaces f.1)) f.0
            (known_if_is (nat_eq (area_of interfaces f.1) a && lets (2 * f.1)) (first_part (way_out interfaces lets distances (device_of interfaces f.1))) f.0 least.here).1,
      )

  module _ (a : ℕ) (f g : ℕ × ℕ) (way : way_in interfaces lets distances a ≡ Some f) (out : way_out interfaces lets distances (device_of interfaces f.1) ≡ Some g) where
    through : (n : ℕ) × (way_out interfaces lets distances (device_of interfaces f.1) ≡ Some (f.0, n))
    through = (way_through a f way).1

    -- both distances are the same
    pub same_way : g.0 ≡ f.0
    same_way = let e : Some g ≡ Some (f.0, through.0) = sym out ∙ through.1 in let p : g ≡ (f.0, through.0) = cc in ap (λ (x : ℕ × ℕ). x.0) p

    least_in : IsLeast (ins a) (length interfaces) f
    least_in = least_of (ins a) (length interfaces) (way_in interfaces lets distances a) f (is_found (ins a) (length interfaces)) way

    least_out : IsLeast (outs (device_of interfaces f.1)) (length interfaces) g
    least_out = least_of (outs (device_of interfaces f.1)) (length interfaces) (way_out interfaces lets distances (device_of interfaces f.1)) g
        (is_found (outs (device_of interfaces f.1)) (length interfaces)) out

    hop_is : IsHopTo interfaces lets distances a g.0 (f.1, g.1)
    hop_is =
        let inward = known_if_is (nat_eq (area_of interfaces f.1) a && lets (2 * f.1)) (first_part (way_out interfaces lets distances (device_of interfaces f.1))) f.0 least_in.here in
        let outward = known_if_is (nat_eq (device_of interfaces g.1) (device_of interfaces f.1) && lets (2 * g.1 + 1)) (distance_at distances (area_of interfaces g.1)) g.0 least_out.here in
        let in_both = both-true (nat_eq (area_of interfaces f.1) a) (lets (2 * f.1)) inward.0 in
        let out_both = both-true (nat_eq (device_of interfaces g.1) (device_of interfaces f.1)) (lets (2 * g.1 + 1)) outward.0 in
        record {
          is = (least_in.within, least_out.within, sym (eqb-true (device_of interfaces g.1) (device_of interfaces f.1) out_both.0));
          begins = eqb-true (area_of interfaces f.1) a in_both.0;
          inward = in_both.1;
          outward = out_both.1;
          ends = outward.1;
        }

    -- of another hop by the same first interface
    same_in : (k : ℕ) (other h : ℕ × ℕ) → IsHopTo interfaces lets distances a k other → way_out interfaces lets distances (device_of interfaces other.0) ≡ Some h
        → f.1 ≡ other.0 → (h.0 ≡ k) × (h.1 ≤ other.1) → IsBeforeOrSame f.1 g.1 other
    same_in k other h hop its same most =
        let e : Some g ≡ Some h = sym out ∙ ap (λ i. way_out interfaces lets distances (device_of interfaces i)) same ∙ its in
        let p : g ≡ h = cc in
        let second : g.1 ≡ h.1 = ap (λ (x : ℕ × ℕ). x.1) p in
        let le : h.1 ≤ other.1 = most.1 in
        inr (same, (elim (cases_lt g.1 other.1) [ inl lt ↦ inl lt | inr ge ↦ inr (omega arith) ]))

    hop_first : (k : ℕ) (other : ℕ × ℕ) → IsHopTo interfaces lets distances a k other → (g.0 < k) ⊎ ((g.0 ≡ k) × IsBeforeOrSame f.1 g.1 other)
    hop_first k other hop =
        let its = way_of_hop a k other hop in
        let h : ℕ × ℕ = its.0 in
        let its_least = least_of (outs (device_of interfaces other.0)) (length interfaces) (way_out interfaces lets distances (device_of interfaces other.0)) h
        (is_found (outs (device_of interfaces other.0)) (length interfaces)) its.1 in
        let level : g.0 ≡ f.0 = same_way in
        elim (its_least.least other.1 k hop.is.1 (out_of_hop a k other hop)) [
          | inl far ↦
              elim (least_in.least other.0 h.0 hop.is.0 (in_of_hop a k other h hop its.1)) [
                | inl lt ↦ inl (omega arith)
                | inr eq ↦ let e : f.0 ≡ h.0 = eq.0 in inl (omega arith)
              ]
          | inr near ↦
              let n : h.0 ≡ k = near.0 in
              elim (least_in.least other.0 h.0 hop.is.0 (in_of_hop a k other h hop its.1)) [
                | inl lt ↦ inl (omega arith)
                | inr eq ↦
                    let e : f.0 ≡ h.0 = eq.0 in
                    let le : f.1 ≤ other.0 = eq.1 in
                    inr (
                      omega arith,
                      (elim (cases_lt f.1 other.0) [
                        | inl before ↦ inl before
                        | inr not_before ↦ same_in k other h hop its.1 (omega arith) near
                      ]),
                    )
              ]
        ]

    pub next_is : IsNextHop interfaces lets distances a g.0 f.1 g.1
    next_is = record { hop = hop_is; first = hop_first }

  -- no hop is nearer than the nearest way in
  pub way_most : (a m : ℕ) (hop f : ℕ × ℕ) → IsHopTo interfaces lets distances a m hop → way_in interfaces lets distances a ≡ Some f → f.0 ≤ m
  way_most a m hop f h way =
      let its = way_of_hop a m hop h in
      let out : ℕ × ℕ = its.0 in
      let of_out = least_of (outs (device_of interfaces hop.0)) (length interfaces) (way_out interfaces lets distances (device_of interfaces hop.0)) out
      (is_found (outs (device_of interfaces hop.0)) (length interfaces)) its.1 in
      let of_in = least_of (ins a) (length interfaces) (way_in interfaces lets distances a) f (is_found (ins a) (length interfaces)) way in
      let below_out : out.0 ≤ m = elim (of_out.least hop.1 m h.is.1 (out_of_hop a m hop h)) [ inl lt ↦ omega arith | inr eq ↦ let e : out.0 ≡ m = eq.0 in omega arith ] in
      let below_in : f.0 ≤ out.0 = elim (of_in.least hop.0 out.0 h.is.0 (in_of_hop a m hop out h its.1)) [ inl lt ↦ omega arith | inr eq ↦ let e : f.0 ≡ out.0 = eq.0 in omega arith ] in
      omega arith
