-- Each search for a path ends: with the first path, or because there is none.
use Rattle.std.proofs.Common.{◌≡◌, ◌≢◌, ◌⊎◌, ℕ, zero, suc, ◌+◌, ◌*◌, ◌<◌, ◌≤◌, Bool, true, false, List, [], ◌∷◌, ◌++◌, length, Option, Some, None, set, replicate, sym, ◌∙◌, ap, subst, inl, inr, refl, arith, add-one, get_or-set_same, get_or-set_other}
use Rattle.std.proofs.lemmas.Bool.{cases_eq}
use Rattle.std.proofs.lemmas.List.{length-set, length-replicate}
use Rattle.np_atomset.specs.AtomSet.{has_member}
use Rattle.np_atomset.proofs.Sets.{has_member-none}
use Rattle.np_net.specs.declared.filtering.Interface.{Interface}
use Rattle.np_net.specs.Path.{device_of, area_of}
use Rattle.np_flow.specs.Spread.{AreWithin}
use Rattle.np_flow.specs.Carrying.{Reaches, IsFirstPath}
use Rattle.np_flow.specs.Distances.{distance_at, unknown, AreKnown, AreDistances, LetsOut, AreExits, LetsIn, AreNearer, way_in, IsHopTo, IsNextHop, hops_left}
use Rattle.np_flow.specs.Finding.{HaveFirstPaths}
use Rattle.np_flow.proofs.DistanceLaws.{news_fewer, news_nearer, no_news, nearer_more, known_next, known_last, known_first}
use Rattle.np_flow.proofs.HopLaws.{no_hop, way_through, next_is}
use Rattle.np_flow.proofs.PathLaws.{AreSoFar, so_far_more, so_far_all, fewer_left, reaches_none}

-- ---- numbers of devices and areas

-- some number is above each of the first values
has_bound : (f : ℕ → ℕ) (n : ℕ) → (bound : ℕ) × ((k : ℕ) → k < n → f k < bound)
has_bound f zero = (0, λ k lt. absurd (omega arith))
has_bound f (suc n) =
    let rest = has_bound f n in (
      rest.0 + f n + 1,
      λ k lt. elim (cases_eq k n) [
        | inl last ↦ let e : f k ≡ f n = ap f last in omega arith
        | inr other ↦ let below : f k < rest.0 = rest.1 k (omega arith) in omega arith
      ],
    )

-- ---- what is decided

-- a test holds or doesn't
pub true_or_false : (b : Bool) → (b ≡ true) ⊎ (b ≡ true → ⊥)
true_or_false true = inl refl
true_or_false false = inr (λ e. let no : false ≡ true = e in cc)

-- a distance is this number or isn't
same_distance : (o : Option ℕ) (m : ℕ) → (o ≡ Some m) ⊎ (o ≡ Some m → ⊥)
same_distance None m = inr (λ e. let no : None ≡ Some m = e in cc)
same_distance (Some k) m = elim (cases_eq k m) [
  | inl same ↦ inl (ap (λ x. Some x) same)
  | inr other ↦ inr (λ e. let no : Some k ≡ Some m = e in let same : k ≡ m = cc in other same)
]

-- so it is decided of two statements together
pub both_or_not : {P Q : Type 0} → P ⊎ (P → ⊥) → Q ⊎ (Q → ⊥) → (P × Q) ⊎ (P × Q → ⊥)
both_or_not (inl p) (inl q) = inl (p, q)
both_or_not (inl p) (inr not_q) = inr (λ both. not_q both.1)
both_or_not (inr not_p) q = inr (λ both. not_p both.0)

-- there is no distance, or there is one
none_or_not : (o : Option ℕ) → (o ≡ None) ⊎ (o ≡ None → ⊥)
none_or_not None = inl refl
none_or_not (Some m) = inr (λ e. let no : Some m ≡ None = e in cc)

module _ (interfaces : List Interface) (lets : ℕ → Bool) where
  -- ---- the devices that let out to an area at a distance

  module _ (distances : List (Option ℕ)) (near n : ℕ) (marks : List Bool) (before : AreExits interfaces lets distances near n marks) where
    marked-same : LetsOut interfaces lets distances near n → device_of interfaces n < length marks → AreExits interfaces lets distances near (n + 1) (set marks (device_of interfaces n) true)
    marked-same out within =
        let device : ℕ = device_of interfaces n in
        let here : has_member (set marks device true) device ≡ true = get_or-set_same marks device true false within in
        let there : (d : ℕ) → d ≢ device → has_member (set marks device true) d ≡ has_member marks d =
        λ d other. get_or-set_other marks device d true false other in
        let kept : (d : ℕ) → has_member marks d ≡ true → has_member (set marks device true) d ≡ true =
        λ d marked. elim (cases_eq d device) [
          | inl same ↦ subst (λ k. has_member (set marks device true) k ≡ true) (sym same) here
          | inr other ↦ there d other ∙ marked
        ] in
        record {
          all = λ k lt its. elim (cases_eq k n) [
            | inl last ↦ subst (λ j. has_member (set marks device true) (device_of interfaces j) ≡ true) (sym last) here
            | inr other ↦ kept (device_of interfaces k) (before.all k (omega arith) its)
          ];
          only = λ d marked. elim (cases_eq d device) [
            | inl same ↦ (n, omega arith, out, sym same)
            | inr other ↦
                let was = before.only d (sym (there d other) ∙ marked) in
                let below : was.0 < n = was.1 in
                (was.0, omega arith, was.2, was.3)
          ];
        }

    marked-none : (LetsOut interfaces lets distances near n → ⊥) → AreExits interfaces lets distances near (n + 1) marks
    marked-none closed = record {
      all = λ k lt its. elim (cases_eq k n) [
        | inl last ↦ absurd (closed (subst (λ j. LetsOut interfaces lets distances near j) last its))
        | inr other ↦ before.all k (omega arith) its
      ];
      only = λ d marked.
          let was = before.only d marked in
          let below : was.0 < n = was.1 in
          (was.0, omega arith, was.2, was.3);
    }

  -- whether interface n lets out to an area at this distance is decided
  lets_out_or_not : (distances : List (Option ℕ)) (near n : ℕ) → LetsOut interfaces lets distances near n ⊎ (LetsOut interfaces lets distances near n → ⊥)
  lets_out_or_not distances near n =
      both_or_not (true_or_false (lets (2 * n + 1))) (same_distance (distance_at distances (area_of interfaces n)) near)

  -- the devices that the first interfaces mark
  exits_of : (distances : List (Option ℕ)) (near devices n : ℕ) → ((k : ℕ) → k < n → device_of interfaces k < devices)
      → (marks : List Bool) × (length marks ≡ devices) × AreExits interfaces lets distances near n marks
  exits_of distances near devices zero within = (
    replicate devices false,
    length-replicate devices false,
    record {
      all = λ k lt its. absurd (omega arith);
      only = λ d marked. let no : false ≡ true = sym (has_member-none devices d) ∙ marked in cc;
    },
  )
  exits_of distances near devices (suc n) within =
      let before = exits_of distances near devices n (λ k lt. within k (omega arith)) in
      let long : length (before.0) ≡ devices = before.1 in
      let lt : device_of interfaces n < devices = within n (omega arith) in
      elim (lets_out_or_not distances near n) [
        | inl out ↦ (
          set before.0 (device_of interfaces n) true,
          length-set before.0 (device_of interfaces n) true ∙ before.1,
          subst (λ k. AreExits interfaces lets distances near k (set before.0 (device_of interfaces n) true)) (add-one n)
              (marked-same distances near n before.0 before.2 out (omega arith)),
        )
        | inr closed ↦ (
          before.0,
          before.1,
          subst (λ k. AreExits interfaces lets distances near k before.0) (add-one n) (marked-none distances near n before.0 before.2 closed),
        )
      ]

  -- ---- one round of distances

  -- the distances after some of a round, which gave one more or nothing
  pub record IsRound (devices : List Bool) (far n : ℕ) (old new : List (Option ℕ)) : Type 0 where
    pub long : length new ≡ length old
    pub nearer : AreNearer interfaces lets devices far n old new
    pub fewer : (unknown new < unknown old) ⊎ (new ≡ old)

  -- whether interface n gives its area a distance is decided
  news_or_not : (devices : List Bool) (distances : List (Option ℕ)) (n : ℕ)
      → ((distance_at distances (area_of interfaces n) ≡ None) × LetsIn interfaces lets devices n) ⊎ ((distance_at distances (area_of interfaces n) ≡ None) × LetsIn interfaces lets devices n → ⊥)
  news_or_not devices distances n =
      both_or_not (none_or_not (distance_at distances (area_of interfaces n)))
      (both_or_not (true_or_false (lets (2 * n))) (true_or_false (has_member devices (device_of interfaces n))))

  round_none : (devices : List Bool) (far : ℕ) (old : List (Option ℕ)) → IsRound devices far 0 old old
  round_none devices far old = record {
    long = refl;
    nearer = record { kept = λ a m known. known; all = λ k lt inward. absurd (omega arith); only = λ a m known. inl known };
    fewer = inr refl;
  }

  module _ (devices : List Bool) (far n : ℕ) (old mid : List (Option ℕ)) (before : IsRound devices far n old mid) where
    news-round : area_of interfaces n < length mid → (distance_at mid (area_of interfaces n) ≡ None) × LetsIn interfaces lets devices n
        → IsRound devices far (n + 1) old (set mid (area_of interfaces n) (Some far))
    news-round within news =
        let new : List (Option ℕ) = set mid (area_of interfaces n) (Some far) in
        let less : unknown new < unknown mid = news_fewer interfaces lets devices far n (area_of interfaces n) mid refl within news in
        record {
          long = length-set mid (area_of interfaces n) (Some far) ∙ before.long;
          nearer = nearer_more interfaces lets devices far n old mid new before.nearer
              (news_nearer interfaces lets devices far n (area_of interfaces n) mid refl within news);
          fewer = elim (before.fewer) [
            | inl were ↦ inl (omega arith)
            | inr same ↦ let e : unknown mid ≡ unknown old = ap unknown same in inl (omega arith)
          ];
        }

    no-news-round : ((distance_at mid (area_of interfaces n) ≡ None) × LetsIn interfaces lets devices n → ⊥) → IsRound devices far (n + 1) old mid
    no-news-round not_news = record {
      long = before.long;
      nearer = nearer_more interfaces lets devices far n old mid mid before.nearer (no_news interfaces lets devices far n (area_of interfaces n) mid refl not_news);
      fewer = before.fewer;
    }

  round_of : (devices : List Bool) (far n : ℕ) (old : List (Option ℕ)) → ((k : ℕ) → k < n → area_of interfaces k < length old)
      → (new : List (Option ℕ)) × IsRound devices far n old new
  round_of devices far zero old within = (old, round_none devices far old)
  round_of devices far (suc n) old within =
      let before = round_of devices far n old (λ k lt. within k (omega arith)) in
      let long : length (before.0) ≡ length old = before.1.long in
      let lt : area_of interfaces n < length old = within n (omega arith) in
      elim (news_or_not devices before.0 n) [
        | inl news ↦ (
          set before.0 (area_of interfaces n) (Some far),
          subst (λ k. IsRound devices far k old (set before.0 (area_of interfaces n) (Some far))) (add-one n)
              (news-round devices far n old before.0 before.1 (omega arith) news),
        )
        | inr not_news ↦ (
          before.0,
          subst (λ k. IsRound devices far k old before.0) (add-one n) (no-news-round devices far n old before.0 before.1 not_news),
        )
      ]

  -- ---- round by round, until a round gives no distance

  -- the distances after one more round, which gave one more
  pub record IsMore (to near areas : ℕ) (old new : List (Option ℕ)) : Type 0 where
    pub long : length new ≡ areas
    pub fewer : unknown new < unknown old
    pub known : AreKnown interfaces lets to (near + 1) new

  module _ (to devices areas : ℕ) (within : AreWithin interfaces devices areas) where
    -- a round is the last one, or gives one more distance
    one_round : (near : ℕ) (old : List (Option ℕ)) → length old ≡ areas → AreKnown interfaces lets to near old
        → ((distances : List (Option ℕ)) × AreDistances interfaces lets to distances) ⊎ ((new : List (Option ℕ)) × IsMore to near areas old new)
    one_round near old long known =
        let exits = exits_of old near devices (length interfaces) (λ k lt. (within k lt).0) in
        let round = round_of exits.0 (near + 1) (length interfaces) old (λ k lt. let below : area_of interfaces k < areas = (within k lt).1 in omega arith) in
        let next : AreKnown interfaces lets to (near + 1) round.0 = known_next interfaces lets to near old round.0 exits.0 known exits.2 round.1.nearer in
        elim (round.1.fewer) [
          | inl less ↦ inr (round.0, record { long = round.1.long ∙ long; fewer = less; known = next })
          | inr same ↦ inl (round.0, known_last interfaces lets to near old round.0 known next same)
        ]

    rounds : (fuel near : ℕ) (old : List (Option ℕ)) → length old ≡ areas → unknown old < fuel → AreKnown interfaces lets to near old
        → (distances : List (Option ℕ)) × AreDistances interfaces lets to distances
    rounds zero near old long few known = absurd (omega arith)
    rounds (suc fuel) near old long few known = elim (one_round near old long known) [
      | inl ends ↦ ends
      | inr more ↦
          let less : unknown (more.0) < unknown old = more.1.fewer in
          rounds fuel (near + 1) more.0 more.1.long (omega arith) more.1.known
    ]

    -- at first the area itself alone has a distance
    distances_within : to < areas → (distances : List (Option ℕ)) × AreDistances interfaces lets to distances
    distances_within lt =
        let first : List (Option ℕ) = set (replicate areas None) to (Some 0) in
        rounds (unknown first + 1) 0 first (length-set (replicate areas None) to (Some 0) ∙ length-replicate areas None) (omega arith)
        (known_first interfaces lets to areas first lt refl)

  -- each area has its distance, or none
  distances_of : (to : ℕ) → (distances : List (Option ℕ)) × AreDistances interfaces lets to distances
  distances_of to =
      let devices = has_bound (device_of interfaces) (length interfaces) in
      let areas = has_bound (area_of interfaces) (length interfaces) in
      distances_within to devices.0 (areas.0 + to + 1)
      (λ k lt. let below : area_of interfaces k < areas.0 = areas.1 k lt in (devices.1 k lt, omega arith)) (omega arith)

  -- ---- hop by hop, until the path ends or there is none

  -- the hop that comes next
  pub record IsOnward (distances : List (Option ℕ)) (area m i j : ℕ) : Type 0 where
    pub next : IsNextHop interfaces lets distances area m i j
    pub way : way_in interfaces lets distances area ≡ Some (m, i)

  module _ (distances : List (Option ℕ)) (area : ℕ) where
    onward_by : (f : ℕ × ℕ) → way_in interfaces lets distances area ≡ Some f
        → (m : ℕ) × (i : ℕ) × (j : ℕ) × IsOnward distances area m i j
    onward_by f way =
        let through = way_through interfaces lets distances area f way in
        (f.0, f.1, through.1.0, record { next = next_is interfaces lets distances area f (f.0, through.1.0) way through.1.1; way = way })

    onward-from : (o : Option (ℕ × ℕ)) → way_in interfaces lets distances area ≡ o
        → ((m : ℕ) × (i : ℕ) × (j : ℕ) × IsOnward distances area m i j) ⊎ ((m : ℕ) (hop : ℕ × ℕ) → IsHopTo interfaces lets distances area m hop → ⊥)
    onward-from None way = inr (no_hop interfaces lets distances area way)
    onward-from (Some f) way = inl (onward_by f way)

  module _ (from to : ℕ) (distances : List (Option ℕ)) (are : AreDistances interfaces lets to distances) where
    abbrev Found : Type 0
    Found = ((hops : List (ℕ × ℕ)) × IsFirstPath interfaces lets from hops to) ⊎ (Reaches interfaces lets from to → ⊥)

    follow_from : (fuel : ℕ) (hops : List (ℕ × ℕ)) (area : ℕ) → hops_left (way_in interfaces lets distances area) < fuel
        → AreSoFar interfaces lets from to hops area → Found
    follow_from zero hops area few so_far = absurd (omega arith)
    follow_from (suc fuel) hops area few so_far =
        elim (onward-from distances area (way_in interfaces lets distances area) refl) [
          | inr none ↦ inr (λ r. reaches_none interfaces lets to distances are area none (so_far.on r))
          | inl on ↦
              let next = on.3.next in
              elim (cases_eq (area_of interfaces on.2) to) [
                | inl here ↦ inl (hops ++ (on.1, on.2) ∷ [], so_far_all interfaces lets from to distances are hops area on.0 on.1 on.2 so_far next here)
                | inr other ↦
                    let left : hops_left (way_in interfaces lets distances (area_of interfaces on.2)) ≤ on.0 =
                    fewer_left interfaces lets to distances are (area_of interfaces on.2) on.0 next.hop.ends other in
                    let were : hops_left (way_in interfaces lets distances area) ≡ suc on.0 = ap hops_left on.3.way in
                    follow_from fuel (hops ++ (on.1, on.2) ∷ []) (area_of interfaces on.2) (omega arith)
                    (so_far_more interfaces lets from to distances are hops area on.0 on.1 on.2 so_far next other)
              ]
        ]

    follow_all : Found
    follow_all =
        follow_from (hops_left (way_in interfaces lets distances from) + 1) [] from (omega arith)
        record { on = λ r. r; first = λ rest path. path }

-- the search for a path ends
pub have_first_paths : HaveFirstPaths
have_first_paths interfaces lets a b = let found = distances_of interfaces lets b in follow_all interfaces lets a b found.0 found.1
