-- How the set of associations under which an own packet may be readable is gathered.
use Rattle.std.proofs.Common.{◌≡◌, ◌∙◌, ℕ, ◌+◌, ◌<◌, Bool, true, false, not, cond, List, [], ◌∷◌, length, replicate, get_or, set, Option, None, inl, inr, refl, sym, ap, subst, arith}
use Rattle.std.specs.Prelude.{◌⊎◌}
use Rattle.std.specs.List.{count_by}
use Rattle.std.proofs.lemmas.Bool.{cases_lt, cases_eq}
use Rattle.std.proofs.lemmas.List.{get_or_default, get_or_past, length-replicate, length-set, get_or-replicate, get_or-set_other, get_or-set_same}
use Rattle.std.proofs.lemmas.List.Sums.{sum_by-set}
use Rattle.np_space.specs.Classes.{IsLeastAlike}
use Rattle.np_space.specs.Header.{zeros}
use Rattle.np_space.specs.declared.headers.Header.{Header}
use Rattle.np_pred.specs.declared.predicate.Pred.{Pred}
use Rattle.np_net.specs.Plan.{Plan}
use Rattle.np_net.specs.declared.associations.OutAction.TheVariants as outs
use Rattle.np_atomset.specs.AtomSet.{has_member}
use Rattle.np_ipsec.specs.Tables.{out_action_of}
use Rattle.np_ipsec.specs.declared.tables.Top.{Top}
use Rattle.np_ipsec.specs.declared.tables.Top.TheVariants as tops
use Rattle.np_ipsec.specs.Alike.{AreLeastsFor, AreTakenAlike, KeepsAlike}
use Rattle.np_ipsec.specs.Searching.{IsFirst}
use Rattle.np_ipsec.proofs.AlikeLaws.{out_alike}
use Rattle.np_ipsec.proofs.LeastLaws.{alike_at}
use Rattle.np_conf.specs.Answers.{LetsSomeUnder}
use Rattle.np_conf.specs.Outlets.{AreAround, IsAround, PutsAt, PutsBefore, members_of}
use Rattle.np_conf.specs.Rules.{ArePutAround, IsFirstAround, IsNextAround, IsReadable, LetsOutUnder}
use Rattle.np_conf.specs.Sets.{Adds, IsAroundBefore, IsEmpty, IsGathered, IsLeft, IsReadableSet, LetsOutListed, LetsSomeListed, PutsAround, PutsOwn, has_sa, is_own}
use Rattle.np_conf.proofs.OutletLaws.{own_alike, own_from, own_test}

-- ---- associations that are done

-- one more is done
abbrev pub with_done : List Bool → ℕ → List Bool
with_done done k = set done k true

-- an association that is done then is that one, or was done before
done_before : (done : List Bool) (k n : ℕ) → has_sa (with_done done k) n ≡ true → (n ≡ k) ⊎ (has_sa done n ≡ true)
done_before done k n has = elim (cases_eq n k) [
  | inl e ↦ inl e
  | inr apart ↦ inr (sym (get_or-set_other done k n true false apart) ∙ has)
]

-- then there are fewer left
pub fewer_left : (done : List Bool) (k : ℕ) → k < length done → has_sa done k ≡ false → count_by not (with_done done k) < count_by not done
fewer_left done k lt left =
    let counts = sum_by-set (λ x. cond (not x) 1 0) done k true false lt in
    let one : cond (not (get_or done k false)) 1 0 ≡ 1 = ap (λ x. cond (not x) 1 0) left in
    fewer (count_by not (with_done done k)) (count_by not done) (cond (not (get_or done k false)) 1 0) counts one
  where
    fewer : (new old was : ℕ) → new + was ≡ old + 0 → was ≡ 1 → new < old
    fewer new old was counts one = omega arith

-- no association is in a list without any truth
pub empty_replicate : (n : ℕ) → IsEmpty (replicate n false)
empty_replicate n k = elim (cases_lt k n) [
  | inl lt ↦ get_or-replicate n k false false lt
  | inr past ↦ get_or_past (replicate n false) k false (let size : length (replicate n false) ≡ n = length-replicate n false in omega arith)
]

-- ---- adding

-- what is added in two steps
adds_both : (P Q R : ℕ → Type 0) (old mid new : List Bool) → ((k : ℕ) → R k → P k ⊎ Q k) → ((k : ℕ) → P k → R k) → ((k : ℕ) → Q k → R k) → Adds P old mid → Adds Q mid new → Adds R old new
adds_both P Q R old mid new parts first second before after = record {
  size = after.size ∙ before.size;
  kept = λ k has. after.kept k (before.kept k has);
  all = λ k r. elim (parts k r) [ inl p ↦ after.kept k (before.all k p) | inr q ↦ after.all k q ];
  only = λ k has. elim (after.only k has) [
    | inl was ↦ (elim (before.only k was) [ inl first ↦ inl first | inr p ↦ inr (first k p) ])
    | inr q ↦ inr (second k q)
  ];
}

-- what one interface more adds
pub added_more : (net : Plan) (top : Top) (i : ℕ) (old mid new : List Bool) → Adds (PutsBefore net top i) old mid → Adds (PutsAt net top i) mid new → Adds (PutsBefore net top (i + 1)) old new
added_more net top i old mid new before after = adds_both (PutsBefore net top i) (PutsAt net top i) (PutsBefore net top (i + 1)) old mid new parts first second before after
  where
    parts : (k : ℕ) → PutsBefore net top (i + 1) k → PutsBefore net top i k ⊎ PutsAt net top i k
    parts k p =
        let upto : p.i < i + 1 = p.before in
        elim (cases_lt p.i i) [
          | inl earlier ↦ inl record { i = p.i; before = earlier; puts = p.puts }
          | inr later ↦ (let here : p.i ≡ i = omega arith in inr (subst (λ j. PutsAt net top j k) here p.puts))
        ]

    first : (k : ℕ) → PutsBefore net top i k → PutsBefore net top (i + 1) k
    first k p = let lt : p.i < i = p.before in record { i = p.i; before = omega arith; puts = p.puts }

    second : (k : ℕ) → PutsAt net top i k → PutsBefore net top (i + 1) k
    second k p = record { i = i; before = omega arith; puts = p }

-- what one header more adds
pub added_header : (net : Plan) (from : ℕ) (pred : Pred) (headers : List Header) (x : ℕ) (old mid new : List Bool) → Adds (PutsAround net from pred headers x) old mid → Adds (PutsOwn net from pred (get_or headers x zeros)) mid new → Adds (PutsAround net from pred headers (x + 1)) old new
added_header net from pred headers x old mid new before after = adds_both (PutsAround net from pred headers x) (PutsOwn net from pred (get_or headers x zeros)) (PutsAround net from pred headers (x + 1)) old mid new parts first second before after
  where
    parts : (k : ℕ) → PutsAround net from pred headers (x + 1) k → PutsAround net from pred headers x k ⊎ PutsOwn net from pred (get_or headers x zeros) k
    parts k p =
        let upto : p.x < x + 1 = p.before in
        elim (cases_lt p.x x) [
          | inl earlier ↦ inl record { x = p.x; before = earlier; puts = p.puts }
          | inr later ↦ (let here : p.x ≡ x = omega arith in inr (subst (λ n. PutsOwn net from pred (get_or headers n zeros) k) here p.puts))
        ]

    first : (k : ℕ) → PutsAround net from pred headers x k → PutsAround net from pred headers (x + 1) k
    first k p = let lt : p.x < x = p.before in record { x = p.x; before = omega arith; puts = p.puts }

    second : (k : ℕ) → PutsOwn net from pred (get_or headers x zeros) k → PutsAround net from pred headers (x + 1) k
    second k p = record { x = x; before = omega arith; puts = p }

module _ (sets : List (Option (List Bool))) (m k : ℕ) (old mid : List Bool) (before : Adds (IsAroundBefore sets m k) old mid) where
  -- an association that isn't put around the header adds nothing
  pub added_not : (IsAround sets m k → ⊥) → Adds (IsAroundBefore sets m (k + 1)) old mid
  added_not none = record {
    size = before.size;
    kept = before.kept;
    all = λ n p. elim (cases_lt n k) [
      | inl earlier ↦ before.all n record { before = earlier; around = p.around }
      | inr from ↦ absurd (let below : n < k + 1 = p.before in let same : n ≡ k = omega arith in none (subst (IsAround sets m) same p.around))
    ];
    only = λ n has. elim (before.only n has) [
      | inl was ↦ inl was
      | inr p ↦ inr record { before = (let lt : n < k = p.before in omega arith); around = p.around }
    ];
  }

  -- one that is adds itself
  pub added_next : IsAround sets m k → k < length mid → Adds (IsAroundBefore sets m (k + 1)) old (with_done mid k)
  added_next around within = record {
    size = length-set mid k true ∙ before.size;
    kept = λ n was. kept n (before.kept n was);
    all = λ n p. elim (cases_lt n k) [
      | inl earlier ↦ kept n (before.all n record { before = earlier; around = p.around })
      | inr from ↦ (let below : n < k + 1 = p.before in let same : n ≡ k = omega arith in subst (λ x. has_sa (with_done mid k) x ≡ true) (sym same) here)
    ];
    only = λ n has. elim (done_before mid k n has) [
      | inl same ↦ inr record { before = (let own = same in omega arith); around = subst (IsAround sets m) (sym same) around }
      | inr was ↦ elim (before.only n was) [
        | inl first ↦ inl first
        | inr p ↦ inr record { before = (let lt : n < k = p.before in omega arith); around = p.around }
      ]
    ];
  }
    where
      here : has_sa (with_done mid k) k ≡ true
      here = get_or-set_same mid k true false within

      kept : (n : ℕ) → has_sa mid n ≡ true → has_sa (with_done mid k) n ≡ true
      kept n was = elim (cases_eq n k) [
        | inl same ↦ subst (λ x. has_sa (with_done mid k) x ≡ true) (sym same) here
        | inr apart ↦ get_or-set_other mid k n true false apart ∙ was
      ]

-- what is put around packets with an own header of the list
pub own_added : (net : Plan) (from : ℕ) (pred : Pred) (headers : List Header) (sets : List (Option (List Bool))) (m : ℕ) (old new : List Bool) → AreAround net headers sets → m < length headers →
    is_own net from pred (get_or headers m zeros) ≡ true → Adds (IsAroundBefore sets m (length sets)) old new → Adds (PutsOwn net from pred (get_or headers m zeros)) old new
own_added net from pred headers sets m old new are lt own adds = record {
  size = adds.size;
  kept = adds.kept;
  all = λ k p.
      let around : IsAround sets m k = (are.exact k m lt).1 p.puts in
      adds.all k record { before = within k around; around = around };
  only = λ k has. elim (adds.only k has) [ inl was ↦ inl was | inr p ↦ inr record { own = own; puts = (are.exact k m lt).0 p.around } ];
}
  where
    within : (k : ℕ) → IsAround sets m k → k < length sets
    within k around = elim (cases_lt k (length sets)) [
      | inl lt ↦ lt
      | inr past ↦ absurd (let none : get_or sets k None ≡ None = get_or_past sets k None past in let empty : has_member (members_of None) m ≡ true = subst (λ slot. has_member (members_of slot) m ≡ true) none around in cc)
    ]

-- ---- gathering

module _ (net : Plan) (from : ℕ) (pred : Pred) where
  -- what is put around packets under an association is put there by some interface
  next_put : (under k : ℕ) → PutsBefore net (tops.Under under) (length net.interfaces) k → IsNextAround net k under
  next_put under k p = record { open_to_all = p.puts.open_to_all; i = p.i; at = p.puts.at; protects = p.puts.protects }

  -- and the other way round
  put_next : (under k : ℕ) → IsNextAround net k under → PutsBefore net (tops.Under under) (length net.interfaces) k
  put_next under k n = record { i = n.i; before = n.at.within; puts = record { at = n.at; open_to_all = n.open_to_all; protects = n.protects } }

  -- what is put around a packet that may be readable may be readable
  next_readable : (under k : ℕ) → IsReadable net from pred under → IsNextAround net k under → IsReadable net from pred k
  next_readable under k readable next = record { rest = under ∷ readable.rest; put = (next, readable.put) }

  -- those around packets under one more are there
  pub gathered_more : (before after done : List Bool) (k : ℕ) → IsGathered net from pred before done → IsLeft before done k → Adds (PutsBefore net (tops.Under k) (length net.interfaces)) before after → IsGathered net from pred after (with_done done k)
  gathered_more before after done k gathered left adds = record {
    sound = λ n has. elim (adds.only n has) [
      | inl was ↦ gathered.sound n was
      | inr put ↦ next_readable k n (gathered.sound k left.listed) (next_put k n put)
    ];
    firsts = λ n first. adds.kept n (gathered.firsts n first);
    nexts = λ n under has next. elim (done_before done k under has) [
      | inl e ↦ adds.all n (put_next k n (subst (IsNextAround net n) e next))
      | inr was ↦ adds.kept n (gathered.nexts n under was next)
    ];
  }

  -- where all of the set are done, it has all associations that were put around an own packet one after another
  all_put : (now done : List Bool) → IsGathered net from pred now done → ((k : ℕ) → has_sa now k ≡ true → has_sa done k ≡ true) → (k : ℕ) (rest : List ℕ) → ArePutAround net from pred (k ∷ rest) → has_sa now k ≡ true
  all_put now done gathered none k [] put = gathered.firsts k put
  all_put now done gathered none k (j ∷ rest) put = gathered.nexts k j (none j (all_put now done gathered none j rest put.1)) put.0

  -- so it has exactly those under which an own packet may be readable
  pub gathered_all : (now done : List Bool) → IsGathered net from pred now done → length now ≡ length done → ((k : ℕ) → IsLeft now done k → ⊥) → IsReadableSet net from pred now
  gathered_all now done gathered same none = record {
    exact = λ k. (gathered.sound k, λ r. all_put now done gathered all_done k r.rest r.put);
  }
    where
      has_within : (k : ℕ) → has_sa now k ≡ true → k < length done
      has_within k has = elim (cases_lt k (length now)) [
        | inl lt ↦ omega arith
        | inr past ↦ absurd (let both : false ≡ true = sym (get_or_past now k false past) ∙ has in cc)
      ]

      all_done : (k : ℕ) → has_sa now k ≡ true → has_sa done k ≡ true
      all_done k has = by (has_sa done k) (λ e. none k record { listed = has; within = has_within k has; left = e })
        where
          by : (b : Bool) → (b ≡ false → ⊥) → b ≡ true
          by true never = refl
          by false never = absurd (never refl)

  module _ (leasts : List Header) (are : AreLeastsFor net leasts) where
    -- what is put around a bare own packet of a least header is put around a bare own packet
    first_put : (k : ℕ) → PutsAround net from pred leasts (length leasts) k → IsFirstAround net from pred k
    first_put k p =
        record {
          open_to_all = p.puts.puts.puts.open_to_all;
          i = p.puts.puts.i;
          at = p.puts.puts.puts.at;
          h = get_or leasts p.x zeros;
          own = own_from net from pred (get_or leasts p.x zeros) (alike_at are.tests leasts are.least p.x p.before).valid p.puts.own;
          protects = p.puts.puts.puts.protects;
        }

    module _ (within : from < length net.areas) (keeps : KeepsAlike net pred) where
      -- and the other way round, since a least header is taken alike
      put_first : (k : ℕ) → IsFirstAround net from pred k → PutsAround net from pred leasts (length leasts) k
      put_first k f =
          let found = are.least.reached f.h f.own.valid in
          let x = found.listed.0 in
          let lt : x < length leasts = found.listed.1 in
          let at : get_or leasts x zeros ≡ found.one = get_or_default leasts x zeros found.one lt ∙ found.listed.2 in
          let valid = subst (λ h. IsLeastAlike are.tests h) at (alike_at are.tests leasts are.least x lt) in
          let taken : AreTakenAlike net found.one f.h = are.respected found.one f.h valid.valid f.own.valid found.alike in
          let own : is_own net from pred found.one ≡ true = own_alike net from pred within keeps found.one f.h taken ∙ own_test net from pred f.h f.own in
          let protects : out_action_of net f.i (tops.Plain found.one) ≡ outs.Protect k = out_alike net found.one f.h taken f.i f.at.within ∙ f.protects in
          record {
            x = x;
            before = lt;
            puts = subst (λ h. PutsOwn net from pred h k) (sym at) record {
              own = own;
              puts = record { i = f.i; before = f.at.within; puts = record { at = f.at; open_to_all = f.open_to_all; protects = protects } };
            };
          }

      -- what is put around bare own packets is there at first
      pub gathered_first : (before after done : List Bool) → IsEmpty before → IsEmpty done → Adds (PutsAround net from pred leasts (length leasts)) before after → IsGathered net from pred after done
      gathered_first before after done no_set no_done adds = record {
        sound = λ k has. elim (adds.only k has) [
          | inl was ↦ absurd (let both : false ≡ true = sym (no_set k) ∙ was in cc)
          | inr put ↦ record { rest = []; put = first_put k put }
        ];
        firsts = λ k first. adds.all k (put_first k first);
        nexts = λ k under has next. absurd (let both : false ≡ true = sym (no_done under) ∙ has in cc);
      }

-- ---- what goes out

module _ (net : Plan) (from : ℕ) (pred : Pred) (now : List Bool) (is : IsReadableSet net from pred now) where
  -- what goes out under an association of the set goes out under one with which an own packet may be readable
  pub listed_out : (i k : ℕ) → LetsOutListed net now i k → LetsOutUnder net from pred i k
  listed_out i k l = record { way = l.way; readable = (is.exact k).0 l.listed; passes = l.passes }

  -- and the other way round
  pub out_listed : (i k : ℕ) → LetsOutUnder net from pred i k → LetsOutListed net now i k
  out_listed i k l = record { way = l.way; listed = (is.exact k).1 l.readable; passes = l.passes }

  -- so the first interface is the same
  pub first_out : (i : ℕ) → IsFirst (LetsSomeListed net now) i → IsFirst (LetsSomeUnder net from pred) i
  first_out i first = record {
    holds = (first.holds.0, listed_out i first.holds.0 first.holds.1);
    first = λ n lt some. first.first n lt (some.0, out_listed n some.0 some.1);
  }

  -- and there the first association
  pub first_under : (i k : ℕ) → IsFirst (LetsOutListed net now i) k → IsFirst (LetsOutUnder net from pred i) k
  first_under i k first = record {
    holds = listed_out i k first.holds;
    first = λ n lt lets. first.first n lt (out_listed i n lets);
  }
