-- How the passages of a network are listed one after another.
use Rattle.std.proofs.Common.{◌≡◌, ◌∙◌, ◌⊎◌, ℕ, ◌+◌, ◌<◌, true, false, List, [], ◌∷◌, ◌++◌, length, Option, Some, None, refl, sym, ap, subst, inl, inr, arith}
use Rattle.std.proofs.lemmas.Bool.{cases_lt}
use Rattle.std.proofs.lemmas.List.{get_or_append_left, length-append}
use Rattle.std.proofs.Math.Seq.{get_or-append_seam}
use Rattle.np_space.specs.declared.headers.Header.{Header}
use Rattle.np_net.specs.Path.{device_of}
use Rattle.np_net.specs.Plan.{Plan}
use Rattle.np_ipsec.specs.Tables.{is_trusted_device}
use Rattle.np_auth.specs.Passages.{ArePassages, AreUpTo, ComesBefore, HasPassage, IsDoubtful, IsPassage, StandsBefore, mark_after, passage_at}
use Rattle.np_auth.specs.declared.marking.Passage.{Passage}
use Rattle.np_auth.specs.declared.marking.Passages.{Passages}

-- ---- the order

-- a mark comes before the next one
before_next : (mark : Option ℕ) → ComesBefore mark (mark_after mark)
before_next None = tt
before_next (Some k) = omega arith

-- what comes before a mark comes before the next one
before_later : (other mark : Option ℕ) → ComesBefore other mark → ComesBefore other (mark_after mark)
before_later None None before = absurd before
before_later None (Some k) before = tt
before_later (Some n) None before = absurd before
before_later (Some n) (Some k) before = let lt : n < k = before in omega arith

-- what comes before the next mark is the mark, or comes before it
before_or_same : (other mark : Option ℕ) → ComesBefore other (mark_after mark) → (other ≡ mark) ⊎ ComesBefore other mark
before_or_same None None before = inl refl
before_or_same None (Some k) before = inr tt
before_or_same (Some n) None before = absurd (let lt : n < 0 = before in omega arith)
before_or_same (Some n) (Some k) before =
    let lt : n < k + 1 = before in
    elim (cases_lt n k) [ inl below ↦ inr below | inr upto ↦ (let same : n ≡ k = omega arith in inl (ap Some same)) ]

-- nothing comes before itself, nor both before and after another
never_itself : (mark : Option ℕ) → ComesBefore mark mark → ⊥
never_itself None before = before
never_itself (Some k) before = let lt : k < k = before in omega arith

never_both : (mark other : Option ℕ) → ComesBefore mark other → ComesBefore other mark → ⊥
never_both None None before after = before
never_both None (Some k) before after = after
never_both (Some n) None before after = before
never_both (Some n) (Some k) before after = let lt : n < k = before in let gt : k < n = after in omega arith

-- the same of interfaces with marks
pub stands_not_itself : (i : ℕ) (mark : Option ℕ) → StandsBefore i mark i mark → ⊥
stands_not_itself i mark (inl lt) = let below : i < i = lt in omega arith
stands_not_itself i mark (inr same) = never_itself mark same.1

pub stands_not_both : (i j : ℕ) (mark other : Option ℕ) → StandsBefore i mark j other → StandsBefore j other i mark → ⊥
stands_not_both i j mark other (inl lt) (inl gt) = let below : i < j = lt in let above : j < i = gt in omega arith
stands_not_both i j mark other (inl lt) (inr same) = let below : i < j = lt in let e : j ≡ i = same.0 in omega arith
stands_not_both i j mark other (inr same) (inl gt) = let e : i ≡ j = same.0 in let above : j < i = gt in omega arith
stands_not_both i j mark other (inr same) (inr back) = never_both mark other same.1 back.1

-- ---- one more

module _ (list : List Passage) (passage : Passage) where
  abbrev more : List Passage
  more = list ++ passage ∷ []

  more_size : length more ≡ length list + 1
  more_size = length-append list (passage ∷ [])

  -- the earlier ones stay
  more_kept : (n : ℕ) → n < length list → passage_at more n ≡ passage_at list n
  more_kept n lt = get_or_append_left list (passage ∷ []) record { interface = 0; mark = None; passing = [] } n lt

  -- the new one is the last
  more_last : passage_at more (length list) ≡ passage
  more_last = get_or-append_seam list passage [] record { interface = 0; mark = None; passing = [] }

  -- what holds of the earlier ones and of the new one holds of all
  more_each : (P : Passage → Type 0) → ((n : ℕ) → n < length list → P (passage_at list n)) → P passage → (n : ℕ) → n < length more → P (passage_at more n)
  more_each P each last n lt = elim (cases_lt n (length list)) [
    | inl earlier ↦ subst P (sym (more_kept n earlier)) (each n earlier)
    | inr from ↦
        (let size = more_size in
        let here : n ≡ length list = omega arith in
        subst (λ k. P (passage_at more k)) (sym here) (subst P (sym more_last) last))
  ]

  -- what is listed stays listed
  more_has : (i : ℕ) (mark : Option ℕ) → HasPassage list i mark → HasPassage more i mark
  more_has i mark has = record {
    place = has.place;
    within = (let size = more_size in let lt = has.within in omega arith);
    interface = ap (λ p. p.interface) (more_kept has.place has.within) ∙ has.interface;
    mark_is = ap (λ p. p.mark) (more_kept has.place has.within) ∙ has.mark_is;
  }

  -- and the new one is listed
  last_has : HasPassage more passage.interface passage.mark
  last_has = record {
    place = length list;
    within = (let size = more_size in omega arith);
    interface = ap (λ p. p.interface) more_last;
    mark_is = ap (λ p. p.mark) more_last;
  }

-- ---- the list so far

module _ (net : Plan) (headers : List Header) where
  -- nothing stands before the first interface without a mark
  pub none_yet : AreUpTo net headers 0 None []
  none_yet = record {
    each = λ n lt. absurd (omega arith);
    ascending = λ m n before lt. absurd (omega arith);
    below = λ n lt. absurd (omega arith);
    all = λ j other doubtful before. elim before [ inl lt ↦ absurd (let below : j < 0 = lt in omega arith) | inr same ↦ absurd (never_none other same.1) ];
  }
    where
      never_none : (other : Option ℕ) → ComesBefore other None → ⊥
      never_none None before = before
      never_none (Some k) before = before

  module _ (i : ℕ) (mark : Option ℕ) (list : List Passage) (upto : AreUpTo net headers i mark list) where
    -- what stands before these stands before the interface with a later mark, or before a later interface
    stands_later : (j : ℕ) (other : Option ℕ) → StandsBefore j other i mark → StandsBefore j other i (mark_after mark)
    stands_later j other (inl lt) = inl lt
    stands_later j other (inr same) = inr (same.0, before_later other mark same.1)

    -- what stands before the interface with the next mark is this one, or stands before it
    stands_or_same : (j : ℕ) (other : Option ℕ) → StandsBefore j other i (mark_after mark) → ((j ≡ i) × (other ≡ mark)) ⊎ StandsBefore j other i mark
    stands_or_same j other (inl lt) = inr (inl lt)
    stands_or_same j other (inr same) = elim (before_or_same other mark same.1) [ inl e ↦ inl (same.0, e) | inr before ↦ inr (inr (same.0, before)) ]

    -- where no packet with the mark may be forged, the list is that up to the next mark too
    pub mark_skipped : (IsDoubtful net i mark → ⊥) → AreUpTo net headers i (mark_after mark) list
    mark_skipped none = record {
      each = upto.each;
      ascending = upto.ascending;
      below = λ n lt. stands_later (passage_at list n).interface (passage_at list n).mark (upto.below n lt);
      all = λ j other doubtful before. elim (stands_or_same j other before) [
        | inl same ↦ absurd (none (subst (λ m. IsDoubtful net i m) same.1 (subst (λ k. IsDoubtful net k other) same.0 doubtful)))
        | inr earlier ↦ upto.all j other doubtful earlier
      ];
    }

    -- where one may, the list with its passage is
    module _ (passage : Passage) (is : IsPassage net headers passage) (here : passage.interface ≡ i) (marked : passage.mark ≡ mark) where
      -- the new one stands after all earlier ones
      last_after : (n : ℕ) → n < length list → StandsBefore (passage_at list n).interface (passage_at list n).mark passage.interface passage.mark
      last_after n lt = subst (λ m. StandsBefore (passage_at list n).interface (passage_at list n).mark passage.interface m) (sym marked) (subst (λ k. StandsBefore (passage_at list n).interface (passage_at list n).mark k mark) (sym here) (upto.below n lt))

      -- and before what comes next
      last_below : StandsBefore passage.interface passage.mark i (mark_after mark)
      last_below = inr (here, subst (λ m. ComesBefore m (mark_after mark)) (sym marked) (before_next mark))

      more_ascends : (m n : ℕ) → m < n → n < length (more list passage) →
          StandsBefore (passage_at (more list passage) m).interface (passage_at (more list passage) m).mark (passage_at (more list passage) n).interface (passage_at (more list passage) n).mark
      more_ascends m n before lt = elim (cases_lt n (length list)) [
        | inl earlier ↦
            subst (λ p. StandsBefore p.interface p.mark (passage_at (more list passage) n).interface (passage_at (more list passage) n).mark) (sym (more_kept list passage m (omega arith)))
            (subst (λ p. StandsBefore (passage_at list m).interface (passage_at list m).mark p.interface p.mark) (sym (more_kept list passage n earlier)) (upto.ascending m n before earlier))
        | inr from ↦
            (let size = more_size list passage in
            let last : n ≡ length list = omega arith in
            let within : m < length list = omega arith in
            subst (λ p. StandsBefore p.interface p.mark (passage_at (more list passage) n).interface (passage_at (more list passage) n).mark) (sym (more_kept list passage m within))
            (subst (λ p. StandsBefore (passage_at list m).interface (passage_at list m).mark p.interface p.mark) (sym (ap (passage_at (more list passage)) last ∙ more_last list passage)) (last_after m within)))
      ]

      pub mark_added : AreUpTo net headers i (mark_after mark) (more list passage)
      mark_added = record {
        each = more_each list passage (IsPassage net headers) upto.each is;
        ascending = more_ascends;
        below =
            more_each list passage (λ p. StandsBefore p.interface p.mark i (mark_after mark))
            (λ n lt. stands_later (passage_at list n).interface (passage_at list n).mark (upto.below n lt)) last_below;
        all = λ j other doubtful before. elim (stands_or_same j other before) [
          | inl same ↦
              subst (λ m. HasPassage (more list passage) j m) (marked ∙ sym same.1)
              (subst (λ k. HasPassage (more list passage) k passage.mark) (here ∙ sym same.0) (last_has list passage))
          | inr earlier ↦ more_has list passage j other (upto.all j other doubtful earlier)
        ];
      }

    -- where no mark from this one on is left at the interface, the list is that up to the next interface
    mark_last : ((other : Option ℕ) → IsDoubtful net i other → ComesBefore other mark) → AreUpTo net headers (i + 1) None list
    mark_last none = record {
      each = upto.each;
      ascending = upto.ascending;
      below = λ n lt. inl (elim (upto.below n lt) [
        | inl earlier ↦ (let before : (passage_at list n).interface < i = earlier in omega arith)
        | inr same ↦ (let e : (passage_at list n).interface ≡ i = same.0 in omega arith)
      ]);
      all = λ j other doubtful before. elim before [
        | inl lt ↦ elim (cases_lt j i) [
          | inl earlier ↦ upto.all j other doubtful (inl earlier)
          | inr from ↦
              (let below : j < i + 1 = lt in
              let here : j ≡ i = omega arith in
              upto.all j other doubtful (inr (here, none other (subst (λ k. IsDoubtful net k other) here doubtful))))
        ]
        | inr same ↦ absurd (never_first other same.1)
      ];
    }
      where
        never_first : (other : Option ℕ) → ComesBefore other None → ⊥
        never_first None before = before
        never_first (Some k) before = before

  module _ (i : ℕ) (list : List Passage) where
    -- an interface of a device that isn't trusted has no passages
    pub interface_untrusted : AreUpTo net headers i None list → is_trusted_device net (device_of net.interfaces i) ≡ false → AreUpTo net headers (i + 1) None list
    interface_untrusted upto untrusted =
        mark_last i None list upto (λ other doubtful. absurd (let trusted : is_trusted_device net (device_of net.interfaces i) ≡ true = doubtful.trusted in cc))

    -- after the last association an interface is done
    pub interface_done : AreUpTo net headers i (Some (length net.sas)) list → AreUpTo net headers (i + 1) None list
    interface_done upto = mark_last i (Some (length net.sas)) list upto among
      where
        among : (other : Option ℕ) → IsDoubtful net i other → ComesBefore other (Some (length net.sas))
        among None doubtful = tt
        among (Some k) doubtful = doubtful.forgeable.0

-- after the last interface all passages are there
pub all_done : (net : Plan) (headers : List Header) (passages : Passages) → AreUpTo net headers (length net.interfaces) None passages.list → ArePassages net headers passages
all_done net headers passages upto = record {
  each = upto.each;
  ascending = upto.ascending;
  all = λ i mark doubtful. upto.all i mark doubtful (inl doubtful.within);
}

-- ---- earlier places

-- in such a list an interface with a mark that stands before those of a place is listed before it
pub listed_before : (net : Plan) (headers : List Header) (passages : Passages) → ArePassages net headers passages → (n i : ℕ) (mark : Option ℕ) → n < length passages.list → (has : HasPassage passages.list i mark) →
    StandsBefore i mark (passage_at passages.list n).interface (passage_at passages.list n).mark → has.place < n
listed_before net headers passages are n i mark lt has before = elim (cases_lt has.place n) [
  | inl earlier ↦ earlier
  | inr from ↦
      elim (cases_lt n has.place) [
        | inl later ↦ absurd (stands_not_both (passage_at passages.list has.place).interface (passage_at passages.list n).interface (passage_at passages.list has.place).mark (passage_at passages.list n).mark stands (are.ascending n has.place later has.within))
        | inr upto ↦
            (let same : has.place ≡ n = omega arith in
            absurd (stands_not_itself (passage_at passages.list n).interface (passage_at passages.list n).mark
            (subst (λ k. StandsBefore (passage_at passages.list k).interface (passage_at passages.list k).mark (passage_at passages.list n).interface (passage_at passages.list n).mark) same stands)))
      ]
]
  where
    stands : StandsBefore (passage_at passages.list has.place).interface (passage_at passages.list has.place).mark (passage_at passages.list n).interface (passage_at passages.list n).mark
    stands =
        subst (λ m. StandsBefore (passage_at passages.list has.place).interface m (passage_at passages.list n).interface (passage_at passages.list n).mark) (sym has.mark_is)
        (subst (λ k. StandsBefore k mark (passage_at passages.list n).interface (passage_at passages.list n).mark) (sym has.interface) before)
