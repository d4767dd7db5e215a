-- How what the interfaces of a network do to bare packets is noted, one interface and one header after another.
use Rattle.std.proofs.Common.{◌≡◌, ◌≢◌, ◌∙◌, ℕ, ◌+◌, ◌<◌, Bool, true, false, List, [], ◌∷◌, ◌++◌, length, get_or, replicate, set, Option, Some, None, IfSome, refl, sym, ap, subst, inl, inr, arith}
use Rattle.std.proofs.lemmas.Bool.{cases_eq, cases_lt}
use Rattle.std.proofs.lemmas.List.{get_or-replicate, get_or-set_other, get_or-set_same, get_or_append_left, get_or_past, length-append, length-replicate, length-set}
use Rattle.std.proofs.Math.Seq.{get_or-append_seam}
use Rattle.np_space.specs.Header.{zeros}
use Rattle.np_space.specs.declared.headers.Header.{Header}
use Rattle.np_atomset.specs.AtomSet.{has_member}
use Rattle.np_net.specs.Plan.{Plan}
use Rattle.np_net.specs.declared.associations.OutAction.TheVariants as outs
use Rattle.np_ipsec.specs.Tables.{out_action_of}
use Rattle.np_ipsec.specs.declared.tables.Top.TheVariants as tops
use Rattle.np_conf.specs.Outlets.{AreAroundTo, AreOutlets, AreWaysTo, IsAround, IsOutlet, PutsAt, members_of, outlet_at, set_or, with_member}
use Rattle.np_conf.specs.Rules.{IsTrustedInterface, IsWayOut}
use Rattle.np_conf.specs.declared.leaving.Outlet.{Outlet}
use Rattle.np_conf.specs.declared.leaving.Outlets.{Outlets}

-- ---- one member more

module _ (size n : ℕ) (lt : n < size) where
  -- a set keeps its size
  member_size : (slot : Option (List Bool)) → IfSome slot (λ members. length members ≡ size) → length (set_or size slot) ≡ size
  member_size None sized = length-replicate size false
  member_size (Some members) sized = sized

  -- it has the new member
  member_new : (slot : Option (List Bool)) → IfSome slot (λ members. length members ≡ size) → has_member (members_of (with_member size slot n)) n ≡ true
  member_new slot sized = get_or-set_same (set_or size slot) n true false (let all = member_size slot sized in omega arith)

  -- no place of a set without members is one
  none_of : (m : ℕ) → has_member (replicate size false) m ≡ false
  none_of m = elim (cases_lt m size) [
    | inl within ↦ get_or-replicate size m false false within
    | inr past ↦ get_or_past (replicate size false) m false (let all : length (replicate size false) ≡ size = length-replicate size false in omega arith)
  ]

  -- and otherwise those that it had
  members_same : (slot : Option (List Bool)) (m : ℕ) → has_member (set_or size slot) m ≡ has_member (members_of slot) m
  members_same None m = none_of m
  members_same (Some members) m = refl

  member_other : (slot : Option (List Bool)) (m : ℕ) → m ≢ n → has_member (members_of (with_member size slot n)) m ≡ has_member (members_of slot) m
  member_other slot m apart = get_or-set_other (set_or size slot) n m true false apart ∙ members_same slot m

-- ---- what is put around packets

module _ (net : Plan) (headers : List Header) where
  -- the header at a place
  abbrev at : ℕ → Header
  at n = get_or headers n zeros

  -- a place for each association, without any set
  abbrev places : List (Option (List Bool))
  places = replicate (length net.sas) None

  place_count : length places ≡ length net.sas
  place_count = length-replicate (length net.sas) None

  -- none of them has one
  place_empty : (k : ℕ) → get_or places k None ≡ None
  place_empty k = elim (cases_lt k (length net.sas)) [
    | inl within ↦ get_or-replicate (length net.sas) k None None within
    | inr past ↦ get_or_past places k None (let count = place_count in omega arith)
  ]

  place_bare : (k m : ℕ) → IsAround places m k → ⊥
  place_bare k m around =
      let none : has_member (members_of None) m ≡ true = subst (λ slot. has_member (members_of slot) m ≡ true) (place_empty k) around in
      cc

  -- at first nothing is noted
  pub none_noted : AreAroundTo net headers 0 0 places
  none_noted = record {
    sizes = record { count = place_count; sizes = λ k. subst (λ slot. IfSome slot (λ members. length members ≡ length headers)) (sym (place_empty k)) tt };
    only = λ k m around. absurd (place_bare k m around);
    all = λ k m j lt done puts. elim done [ inl earlier ↦ absurd (omega arith) | inr here ↦ absurd (let below : m < 0 = here.1 in omega arith) ];
  }

  module _ (i n : ℕ) (sets : List (Option (List Bool))) (before : AreAroundTo net headers i n sets) where
    -- where nothing is put around the header at a place, one more is noted
    pub header_skipped : ((k : ℕ) → PutsAt net (tops.Plain (at n)) i k → ⊥) → AreAroundTo net headers i (n + 1) sets
    header_skipped none = record {
      sizes = before.sizes;
      only = before.only;
      all = λ k m j lt done puts. elim done [
        | inl earlier ↦ before.all k m j lt (inl earlier) puts
        | inr here ↦ elim (cases_lt m n) [
          | inl noted ↦ before.all k m j lt (inr (here.0, noted)) puts
          | inr from ↦
              absurd
              (let below : m < n + 1 = here.1 in
              let same : m ≡ n = omega arith in
              none k (subst (λ x. PutsAt net (tops.Plain (at x)) i k) same (subst (λ x. PutsAt net (tops.Plain (at m)) x k) here.0 puts)))
        ]
      ];
    }

    -- where an association is, it is with the member more
    module _ (k : ℕ) (header : n < length headers) (within : k < length net.sas) (puts : PutsAt net (tops.Plain (at n)) i k) where
      abbrev slot : Option (List Bool)
      slot = get_or sets k None

      abbrev more : Option (List Bool)
      more = with_member (length headers) slot n

      abbrev after : List (Option (List Bool))
      after = set sets k more

      sized : IfSome slot (λ members. length members ≡ length headers)
      sized = before.sizes.sizes k

      own_slot : get_or after k None ≡ more
      own_slot = get_or-set_same sets k more None (let count = before.sizes.count in omega arith)

      other_slot : (j : ℕ) → j ≢ k → get_or after j None ≡ get_or sets j None
      other_slot j apart = get_or-set_other sets k j more None apart

      -- the header is in the set of the association
      added : IsAround after n k
      added = rw own_slot (member_new (length headers) n header slot sized)

      -- of the association's set the other members stay
      own_other : (m : ℕ) → m ≢ n → has_member (members_of (get_or after k None)) m ≡ has_member (members_of slot) m
      own_other m apart = rw own_slot (member_other (length headers) n header slot m apart)

      -- what was noted stays so
      kept : (j m : ℕ) → IsAround sets m j → IsAround after m j
      kept j m around = elim (cases_eq j k) [
        | inr apart ↦ rw (other_slot j apart) around
        | inl same ↦ elim (cases_eq m n) [
          | inl here ↦ subst (λ x. IsAround after x j) (sym here) (subst (λ x. IsAround after n x) (sym same) added)
          | inr other ↦ subst (λ x. IsAround after m x) (sym same) (own_other m other ∙ subst (λ x. IsAround sets m x) same around)
        ]
      ]

      -- and nothing else is noted
      kept_only : (j m : ℕ) → IsAround after m j → (o : ℕ) × PutsAt net (tops.Plain (at m)) o j
      kept_only j m around = elim (cases_eq j k) [
        | inr apart ↦ before.only j m (rw (other_slot j apart) at around)
        | inl same ↦ elim (cases_eq m n) [
          | inl here ↦ (i, subst (λ x. PutsAt net (tops.Plain (at x)) i j) (sym here) (subst (λ x. PutsAt net (tops.Plain (at n)) i x) (sym same) puts))
          | inr other ↦ before.only j m (subst (λ x. IsAround sets m x) (sym same) (sym (own_other m other) ∙ subst (λ x. IsAround after m x) same around))
        ]
      ]

      -- the rules put one association around a packet
      one_put : (j : ℕ) → PutsAt net (tops.Plain (at n)) i j → j ≡ k
      one_put j other =
          let this : out_action_of net i (tops.Plain (at n)) ≡ outs.Protect k = puts.protects in
          let that : out_action_of net i (tops.Plain (at n)) ≡ outs.Protect j = other.protects in
          cc

      slot_sizes : (j : ℕ) → IfSome (get_or after j None) (λ members. length members ≡ length headers)
      slot_sizes j = elim (cases_eq j k) [
        | inl same ↦ subst (λ x. IfSome (get_or after x None) (λ members. length members ≡ length headers)) (sym same) (subst (λ x. IfSome x (λ members. length members ≡ length headers)) (sym own_slot) (length-set (set_or (length headers) slot) n true ∙ member_size (length headers) n header slot sized))
        | inr apart ↦ subst (λ x. IfSome x (λ members. length members ≡ length headers)) (sym (other_slot j apart)) (before.sizes.sizes j)
      ]

      here_put : (j m o : ℕ) → o ≡ i → m ≡ n → PutsAt net (tops.Plain (at m)) o j → IsAround after m j
      here_put j m o same_place same put =
          let own : PutsAt net (tops.Plain (at n)) i j = subst (λ x. PutsAt net (tops.Plain (at x)) i j) same (subst (λ x. PutsAt net (tops.Plain (at m)) x j) same_place put) in
          subst (λ x. IsAround after x j) (sym same) (subst (λ x. IsAround after n x) (sym (one_put j own)) added)

      pub header_added : AreAroundTo net headers i (n + 1) after
      header_added = record {
        sizes = record { count = length-set sets k more ∙ before.sizes.count; sizes = slot_sizes };
        only = kept_only;
        all = λ j m o lt done put. elim done [
          | inl earlier ↦ kept j m (before.all j m o lt (inl earlier) put)
          | inr here ↦ elim (cases_lt m n) [
            | inl noted ↦ kept j m (before.all j m o lt (inr (here.0, noted)) put)
            | inr from ↦ (let below : m < n + 1 = here.1 in let same : m ≡ n = omega arith in here_put j m o here.0 same put)
          ]
        ];
      }

  module _ (i : ℕ) (sets : List (Option (List Bool))) where
    -- once all headers are noted at an interface, it is done
    pub interface_noted : AreAroundTo net headers i (length headers) sets → AreAroundTo net headers (i + 1) 0 sets
    interface_noted before = record {
      sizes = before.sizes;
      only = before.only;
      all = λ k m j lt done puts. elim done [
        | inr here ↦ absurd (let below : m < 0 = here.1 in omega arith)
        | inl upto ↦ elim (cases_lt j i) [
          | inl earlier ↦ before.all k m j lt (inl earlier) puts
          | inr from ↦ (let same : j ≡ i = omega arith in before.all k m j lt (inr (same, lt)) puts)
        ]
      ];
    }

    -- an interface of a device that isn't trusted puts nothing around packets
    pub interface_skipped : (IsTrustedInterface net i → ⊥) → AreAroundTo net headers i 0 sets → AreAroundTo net headers (i + 1) 0 sets
    interface_skipped untrusted before = record {
      sizes = before.sizes;
      only = before.only;
      all = λ k m j lt done puts. elim done [
        | inr here ↦ absurd (let below : m < 0 = here.1 in omega arith)
        | inl upto ↦ elim (cases_lt j i) [
          | inl earlier ↦ before.all k m j lt (inl earlier) puts
          | inr from ↦ absurd (let same : j ≡ i = omega arith in untrusted (subst (IsTrustedInterface net) same puts.at))
        ]
      ];
    }

-- ---- the ways out

module _ (list : List Outlet) (outlet : Outlet) where
  abbrev listed : List Outlet
  listed = list ++ outlet ∷ []

  listed_size : length listed ≡ length list + 1
  listed_size = length-append list (outlet ∷ [])

  listed_kept : (n : ℕ) → n < length list → outlet_at listed n ≡ outlet_at list n
  listed_kept n lt = get_or_append_left list (outlet ∷ []) record { interface = 0; bare = [] } n lt

  listed_last : outlet_at listed (length list) ≡ outlet
  listed_last = get_or-append_seam list outlet [] record { interface = 0; bare = [] }

  -- what holds of the earlier ones and of the new one holds of all
  listed_each : (P : Outlet → Type 0) → ((n : ℕ) → n < length list → P (outlet_at list n)) → P outlet → (n : ℕ) → n < length listed → P (outlet_at listed n)
  listed_each P each last n lt = elim (cases_lt n (length list)) [
    | inl earlier ↦ subst P (sym (listed_kept n earlier)) (each n earlier)
    | inr from ↦
        (let size = listed_size in
        let here : n ≡ length list = omega arith in
        subst (λ k. P (outlet_at listed k)) (sym here) (subst P (sym listed_last) last))
  ]

module _ (net : Plan) (headers : List Header) where
  -- there is none before the first interface
  pub no_ways : AreWaysTo net headers 0 []
  no_ways = record {
    each = λ n lt. absurd (omega arith);
    ascending = λ m n before lt. absurd (omega arith);
    below = λ n lt. absurd (omega arith);
    all = λ i way before. absurd (omega arith);
  }

  module _ (i : ℕ) (list : List Outlet) (ways : AreWaysTo net headers i list) where
    -- an interface that is none has no outlet
    pub way_skipped : (IsWayOut net i → ⊥) → AreWaysTo net headers (i + 1) list
    way_skipped none = record {
      each = ways.each;
      ascending = ways.ascending;
      below = λ n lt. (let below = ways.below n lt in omega arith);
      all = λ j way upto. elim (cases_lt j i) [
        | inl earlier ↦ ways.all j way earlier
        | inr from ↦ absurd (let same : j ≡ i = omega arith in none (subst (IsWayOut net) same way))
      ];
    }

    -- one that is has one
    module _ (outlet : Outlet) (is : IsOutlet net headers outlet) (here : outlet.interface ≡ i) where
      abbrev with_one : List Outlet
      with_one = listed list outlet

      ascends : (m n : ℕ) → m < n → n < length with_one → (outlet_at with_one m).interface < (outlet_at with_one n).interface
      ascends m n before lt = elim (cases_lt n (length list)) [
        | inl earlier ↦ rw (listed_kept list outlet m (omega arith), listed_kept list outlet n earlier) (ways.ascending m n before earlier)
        | inr from ↦
            (let size = listed_size list outlet in
            let last : n ≡ length list = omega arith in
            let within : m < length list = omega arith in
            let below : (outlet_at list m).interface < i = ways.below m within in
            let own : outlet_at with_one n ≡ outlet = ap (outlet_at with_one) last ∙ listed_last list outlet in
            rw (listed_kept list outlet m within, own, here) below)
      ]

      pub way_added : AreWaysTo net headers (i + 1) with_one
      way_added = record {
        each = listed_each list outlet (IsOutlet net headers) ways.each is;
        ascending = ascends;
        below = listed_each list outlet (λ o. o.interface < i + 1) (λ n lt. (let below = ways.below n lt in omega arith)) (let own = here in omega arith);
        all = λ j way upto. elim (cases_lt j i) [
          | inl earlier ↦
              (let has = ways.all j way earlier in
              record {
                place = has.place;
                within = (let size = listed_size list outlet in let lt = has.within in omega arith);
                interface = ap (λ o. o.interface) (listed_kept list outlet has.place has.within) ∙ has.interface;
              })
          | inr from ↦
              (let same : j ≡ i = omega arith in
              record {
                place = length list;
                within = (let size = listed_size list outlet in omega arith);
                interface = ap (λ o. o.interface) (listed_last list outlet) ∙ here ∙ sym same;
              })
        ];
      }

-- ---- both

-- after the last interface all is noted
pub all_noted : (net : Plan) (headers : List Header) (outlets : Outlets) → AreWaysTo net headers (length net.interfaces) outlets.ways → AreAroundTo net headers (length net.interfaces) 0 outlets.around → AreOutlets net headers outlets
all_noted net headers outlets ways around = record {
  ways = record { each = ways.each; ascending = ways.ascending; all = λ i way. ways.all i way way.at.within };
  around = record {
    sizes = around.sizes;
    exact = λ k m lt. (
      λ is. (let some = around.only k m is in record { i = some.0; before = some.1.at.within; puts = some.1 }),
      λ puts. around.all k m puts.i lt (inl puts.before) puts.puts,
    );
  };
}
