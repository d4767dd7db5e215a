-- Distances, round by round.
use Rattle.std.proofs.Common.{◌≡◌, ◌≢◌, ◌⊎◌, ℕ, zero, suc, ◌+◌, ◌*◌, ◌<◌, ◌≤◌, ◌||◌, Bool, true, false, List, [], ◌∷◌, length, Option, Some, None, get_or, set, replicate, sym, ◌∙◌, ap, subst, inl, inr, refl, arith, get_or-set_same, get_or-set_other}
use Rattle.std.proofs.lemmas.Bool.{cases_eq, cases_lt}
use Rattle.std.proofs.lemmas.List.{length-replicate, get_or-replicate, get_or_past}
use Rattle.std.specs.Bool.{MatchBool, OnFalse, OnTrue}
use Rattle.np_atomset.specs.AtomSet.{has_member}
use Rattle.np_net.specs.declared.filtering.Interface.{Interface}
use Rattle.np_net.specs.Path.{device_of, area_of, IsHop}
use Rattle.np_flow.specs.Distances.{distance_at, unknown, IsWalk, AreKnown, AreDistances, LetsOut, AreExits, LetsIn, HasDistance, IsNearer, AreNearer}

-- ---- one distance given

unknown-set : (xs : List (Option ℕ)) (at m : ℕ) → at < length xs → get_or xs at None ≡ None → unknown (set xs at (Some m)) < unknown xs
unknown-set [] at m lt none = absurd (omega arith)
unknown-set (None ∷ xs) zero m lt none = omega arith
unknown-set (Some k ∷ xs) zero m lt none = let no : Some k ≡ None = none in cc
unknown-set (None ∷ xs) (suc at) m lt none = let rest : unknown (set xs at (Some m)) < unknown xs = unknown-set xs at m (omega arith) none in omega arith
unknown-set (Some k ∷ xs) (suc at) m lt none = unknown-set xs at m (omega arith) none

pub unknown-most : (xs : List (Option ℕ)) → unknown xs ≤ length xs
unknown-most [] = omega arith
unknown-most (None ∷ xs) = let rest : unknown xs ≤ length xs = unknown-most xs in omega arith
unknown-most (Some k ∷ xs) = let rest : unknown xs ≤ length xs = unknown-most xs in omega arith

-- a distance is known or not
known_or_not : (o : Option ℕ) → ((m : ℕ) × (o ≡ Some m)) ⊎ (o ≡ None)
known_or_not None = inr refl
known_or_not (Some m) = inl (m, refl)

module _ (interfaces : List Interface) (lets : ℕ → Bool) (devices : List Bool) (far n at : ℕ) (distances : List (Option ℕ)) (is : at ≡ area_of interfaces n) where
  module _ (lt : at < length distances) (news : (distance_at distances (area_of interfaces n) ≡ None) × LetsIn interfaces lets devices n) where
    none-here : distance_at distances at ≡ None
    none-here = subst (λ k. distance_at distances k ≡ None) (sym is) news.0

    pub news_fewer : unknown (set distances at (Some far)) < unknown distances
    news_fewer = unknown-set distances at far lt none-here

    pub news_nearer : IsNearer interfaces lets devices far n distances (set distances at (Some far))
    news_nearer =
        let here : distance_at (set distances at (Some far)) at ≡ Some far = get_or-set_same distances at (Some far) None lt in
        let there : (a : ℕ) → a ≢ at → distance_at (set distances at (Some far)) a ≡ distance_at distances a =
        λ a other. get_or-set_other distances at a (Some far) None other in
        record {
          kept = λ a m known. elim (cases_eq a at) [
            | inl same ↦ let no : None ≡ Some m = sym none-here ∙ subst (λ k. distance_at distances k ≡ Some m) same known in cc
            | inr other ↦ there a other ∙ known
          ];
          all = λ inward. (far, subst (λ k. distance_at (set distances at (Some far)) k ≡ Some far) is here);
          only = λ a m known. elim (cases_eq a at) [
            | inl same ↦
                let e : Some far ≡ Some m = sym here ∙ subst (λ k. distance_at (set distances at (Some far)) k ≡ Some m) same known in
                let z : m ≡ far = cc in
                inr (z, news.1, sym is ∙ sym same)
            | inr other ↦ inl (sym (there a other) ∙ known)
          ];
        }

  pub no_news : ((distance_at distances (area_of interfaces n) ≡ None) × LetsIn interfaces lets devices n → ⊥)
      → IsNearer interfaces lets devices far n distances distances
  no_news not_news = record {
    kept = λ a m known. known;
    all = λ inward. elim (known_or_not (distance_at distances (area_of interfaces n))) [
      | inl has ↦ has
      | inr none ↦ absurd (not_news (none, inward))
    ];
    only = λ a m known. inl known;
  }

-- ---- one interface after another

pub nearer_more : (interfaces : List Interface) (lets : ℕ → Bool) (devices : List Bool) (far n : ℕ) (old mid new : List (Option ℕ))
    → AreNearer interfaces lets devices far n old mid → IsNearer interfaces lets devices far n mid new
    → AreNearer interfaces lets devices far (n + 1) old new
nearer_more interfaces lets devices far n old mid new before step = record {
  kept = λ a m known. step.kept a m (before.kept a m known);
  all = λ k lt inward. elim (cases_lt k n) [
    | inl earlier ↦ let has = before.all k earlier inward in (has.0, step.kept (area_of interfaces k) has.0 has.1)
    | inr later ↦
        let here : k ≡ n = omega arith in
        subst (λ j. HasDistance interfaces new j) (sym here) (step.all (subst (λ j. LetsIn interfaces lets devices j) here inward))
  ];
  only = λ a m known. elim (step.only a m known) [
    | inl was ↦ (elim (before.only a m was) [
      | inl first ↦ inl first
      | inr x ↦ let below : x.0 < n = x.1 in inr (x.0, omega arith, x.2, x.3, x.4)
    ])
    | inr now ↦ inr (n, omega arith, now.0, now.1, now.2)
  ];
}

pub fewer_more : (before now : Bool) (old mid new : List (Option ℕ)) → MatchBool before (unknown mid < unknown old) (mid ≡ old)
    → OnTrue now (unknown new < unknown mid) → OnFalse now (new ≡ mid)
    → MatchBool (before || now) (unknown new < unknown old) (new ≡ old)
fewer_more true true old mid new was grew same = omega arith
fewer_more true false old mid new was grew same = let e : unknown new ≡ unknown mid = ap unknown same in omega arith
fewer_more false true old mid new was grew same = let e : unknown mid ≡ unknown old = ap unknown was in omega arith
fewer_more false false old mid new was grew same = same ∙ was

-- ---- rounds

walk-more : (interfaces : List Interface) (lets : ℕ → Bool) (a to : ℕ) (hop : ℕ × ℕ) (hops : List (ℕ × ℕ))
    → IsHop interfaces hop → area_of interfaces hop.0 ≡ a → lets (2 * hop.0) ≡ true → lets (2 * hop.1 + 1) ≡ true
    → IsWalk interfaces lets (area_of interfaces hop.1) hops to → IsWalk interfaces lets a (hop ∷ hops) to
walk-more interfaces lets a to hop hops is at inward outward walk = record {
  leads = (is, at, walk.leads);
  cross = (inward, outward, walk.cross);
}

pub walk-rest : (interfaces : List Interface) (lets : ℕ → Bool) (a to : ℕ) (hop : ℕ × ℕ) (hops : List (ℕ × ℕ))
    → IsWalk interfaces lets a (hop ∷ hops) to → IsWalk interfaces lets (area_of interfaces hop.1) hops to
walk-rest interfaces lets a to hop hops walk = record { leads = walk.leads.2; cross = walk.cross.2 }

module _ (interfaces : List Interface) (lets : ℕ → Bool) (to near : ℕ) (old new : List (Option ℕ)) (devices : List Bool)
    (known : AreKnown interfaces lets to near old) (exits : AreExits interfaces lets old near (length interfaces) devices)
    (nearer : AreNearer interfaces lets devices (near + 1) (length interfaces) old new) where
  few-next : (a m : ℕ) → distance_at new a ≡ Some m → m ≤ near + 1
  few-next a m is = elim (nearer.only a m is) [
    | inl was ↦ let le : m ≤ near = known.few a m was in omega arith
    | inr x ↦ let far : m ≡ near + 1 = x.2 in omega arith
  ]

  sound-next : (a m : ℕ) → distance_at new a ≡ Some m → (hops : List (ℕ × ℕ)) × (length hops ≡ m) × IsWalk interfaces lets a hops to
  sound-next a m is = elim (nearer.only a m is) [
    | inl was ↦ known.sound a m was
    | inr x ↦
        let far : m ≡ near + 1 = x.2 in
        let out = exits.only (device_of interfaces x.0) x.3.1 in
        let rest = known.sound (area_of interfaces out.0) near out.2.1 in
        let long : length (rest.0) ≡ near = rest.1 in
        ((x.0, out.0) ∷ rest.0, omega arith, walk-more interfaces lets a to (x.0, out.0) rest.0 (x.1, out.1, sym out.3) x.4 x.3.0 out.2.0 rest.2)
  ]

  all-hop : (a : ℕ) (hop : ℕ × ℕ) (hops : List (ℕ × ℕ)) → IsWalk interfaces lets a (hop ∷ hops) to → length hops ≤ near
      → (m : ℕ) × (m ≤ length (hop ∷ hops)) × (distance_at new a ≡ Some m)
  all-hop a hop hops walk short =
      let rest = known.all (area_of interfaces hop.1) hops (walk-rest interfaces lets a to hop hops walk) short in
      let le : rest.0 ≤ length hops = rest.1 in
      elim (cases_eq (rest.0) near) [
        | inl same ↦
            let out : LetsOut interfaces lets old near hop.1 = (walk.cross.1, subst (λ k. distance_at old (area_of interfaces hop.1) ≡ Some k) same rest.2) in
            let inward : LetsIn interfaces lets devices hop.0 =
            (walk.cross.0, subst (λ d. has_member devices d ≡ true) (sym walk.leads.0.2) (exits.all hop.1 walk.leads.0.1 out)) in
            let has = nearer.all hop.0 walk.leads.0.0 inward in
            let there : distance_at new a ≡ Some has.0 = subst (λ k. distance_at new k ≡ Some has.0) walk.leads.1 has.1 in
            let few : has.0 ≤ near + 1 = few-next a has.0 there in
            (has.0, omega arith, there)
        | inr less ↦
            let few : rest.0 ≤ near = known.few (area_of interfaces hop.1) rest.0 rest.2 in
            let way = known.sound (area_of interfaces hop.1) rest.0 rest.2 in
            let long : length (way.0) ≡ rest.0 = way.1 in
            let more = known.all a (hop ∷ way.0) (walk-more interfaces lets a to hop way.0 walk.leads.0 walk.leads.1 walk.cross.0 walk.cross.1 way.2) (omega arith) in
            let most : more.0 ≤ length (hop ∷ way.0) = more.1 in
            (more.0, omega arith, nearer.kept a more.0 more.2)
      ]

  all-next : (a : ℕ) (hops : List (ℕ × ℕ)) → IsWalk interfaces lets a hops to → length hops ≤ near + 1
      → (m : ℕ) × (m ≤ length hops) × (distance_at new a ≡ Some m)
  all-next a [] walk short = let was = known.all a [] walk (omega arith) in (was.0, was.1, nearer.kept a was.0 was.2)
  all-next a (hop ∷ hops) walk short = all-hop a hop hops walk (omega arith)

  pub known_next : AreKnown interfaces lets to (near + 1) new
  known_next = record { few = few-next; sound = sound-next; all = all-next }

-- where a round gives no distance, each area with a walk has one
all-lengths : (interfaces : List Interface) (lets : ℕ → Bool) (to near : ℕ) (distances : List (Option ℕ))
    → AreKnown interfaces lets to near distances → AreKnown interfaces lets to (near + 1) distances
    → (a : ℕ) (hops : List (ℕ × ℕ)) → IsWalk interfaces lets a hops to → (m : ℕ) × (m ≤ length hops) × (distance_at distances a ≡ Some m)
all-lengths interfaces lets to near distances known next a [] walk = known.all a [] walk (omega arith)
all-lengths interfaces lets to near distances known next a (hop ∷ hops) walk =
    let rest = all-lengths interfaces lets to near distances known next (area_of interfaces hop.1) hops (walk-rest interfaces lets a to hop hops walk) in
    let le : rest.0 ≤ length hops = rest.1 in
    let few : rest.0 ≤ near = known.few (area_of interfaces hop.1) rest.0 rest.2 in
    let way = known.sound (area_of interfaces hop.1) rest.0 rest.2 in
    let long : length (way.0) ≡ rest.0 = way.1 in
    let more = next.all a (hop ∷ way.0) (walk-more interfaces lets a to hop way.0 walk.leads.0 walk.leads.1 walk.cross.0 walk.cross.1 way.2) (omega arith) in
    let most : more.0 ≤ length (hop ∷ way.0) = more.1 in
    (more.0, omega arith, more.2)

pub known_last : (interfaces : List Interface) (lets : ℕ → Bool) (to near : ℕ) (old new : List (Option ℕ))
    → AreKnown interfaces lets to near old → AreKnown interfaces lets to (near + 1) new → new ≡ old
    → AreDistances interfaces lets to new
known_last interfaces lets to near old new known next same =
    let old_known : AreKnown interfaces lets to near new = subst (λ (x : List (Option ℕ)). AreKnown interfaces lets to near x) (sym same) known in
    record { sound = old_known.sound; all = all-lengths interfaces lets to near new old_known next }

none-at : (areas a : ℕ) → distance_at (replicate areas None) a ≡ None
none-at areas a = elim (cases_lt a areas) [
  | inl within ↦ get_or-replicate areas a None None within
  | inr past ↦ get_or_past (replicate areas None) a None (omega (arith, length-replicate {A = Option ℕ} areas None))
]

all-first : (interfaces : List Interface) (lets : ℕ → Bool) (to : ℕ) (distances : List (Option ℕ)) → distance_at distances to ≡ Some 0
    → (a : ℕ) (hops : List (ℕ × ℕ)) → IsWalk interfaces lets a hops to → length hops ≤ 0
    → (m : ℕ) × (m ≤ length hops) × (distance_at distances a ≡ Some m)
all-first interfaces lets to distances here a [] walk short = (0, omega arith, subst (λ k. distance_at distances k ≡ Some 0) (sym walk.leads) here)
all-first interfaces lets to distances here a (hop ∷ hops) walk short = absurd (omega arith)

-- at first the area itself alone has a distance
pub known_first : (interfaces : List Interface) (lets : ℕ → Bool) (to areas : ℕ) (distances : List (Option ℕ)) → to < areas
    → distances ≡ set (replicate areas None) to (Some 0) → AreKnown interfaces lets to 0 distances
known_first interfaces lets to areas distances lt is =
    let none : List (Option ℕ) = replicate areas None in
    let here : distance_at distances to ≡ Some 0 =
    ap (λ (x : List (Option ℕ)). distance_at x to) is ∙ get_or-set_same none to (Some 0) None (omega (arith, length-replicate {A = Option ℕ} areas None)) in
    let there : (a : ℕ) → a ≢ to → distance_at distances a ≡ None =
    λ a other. ap (λ (x : List (Option ℕ)). distance_at x a) is ∙ get_or-set_other none to a (Some 0) None other ∙ none-at areas a in
    record {
      few = λ a m known. elim (cases_eq a to) [
        | inl same ↦ let e : Some 0 ≡ Some m = sym here ∙ subst (λ k. distance_at distances k ≡ Some m) same known in let z : 0 ≡ m = cc in omega arith
        | inr other ↦ let no : None ≡ Some m = sym (there a other) ∙ known in cc
      ];
      sound = λ a m known. elim (cases_eq a to) [
        | inl same ↦
            let e : Some 0 ≡ Some m = sym here ∙ subst (λ k. distance_at distances k ≡ Some m) same known in
            let z : 0 ≡ m = cc in
            ([], z, record { leads = same; cross = tt })
        | inr other ↦ let no : None ≡ Some m = sym (there a other) ∙ known in cc
      ];
      all = λ a hops walk short. all-first interfaces lets to distances here a hops walk short;
    }
