-- The runs of a set's members.
use Rattle.std.proofs.Common.{◌≡◌, inl, inr, ℕ, ◌+◌, ◌-◌, ◌^◌, ◌<◌, ◌≤◌, Bool, true, false, List, [], ◌∷◌, length, get_or, refl, arith, zero, suc, add-one}
use Rattle.std.specs.List.{All}
use Rattle.std.proofs.lemmas.Bool.{eq-eqb, ne_eqb, false≢true, cases_eq}
use Rattle.std.proofs.lemmas.List.{get_or_default}
use Rattle.np_atomset.specs.AtomSet.{has_member}
use Rattle.np_atomset.proofs.Sets.{member_within}
use Rattle.np_report.specs.Synthesis.{with_first, runs_from}
use Rattle.np_report.specs.Runs.{first_of, last_of, AreRuns, RunsAreMaximal, HasNumbers}

-- ---- what a reader would check

-- runs of a set whose first place has this number
record AreRunsFrom (m : ℕ) (set : List Bool) (runs : List (ℕ × ℕ)) : Type 0 where
  from : (n : ℕ) → n < length runs → m ≤ first_of runs n
  ascending : (n : ℕ) → n < length runs → first_of runs n ≤ last_of runs n
  only : (n k : ℕ) → n < length runs → first_of runs n ≤ k → k ≤ last_of runs n → has_member set (k - m) ≡ true
  all : (k : ℕ) → has_member set k ≡ true → (n : ℕ) × (n < length runs) × (first_of runs n ≤ m + k) × (m + k ≤ last_of runs n)
  apart : (n : ℕ) → suc n < length runs → last_of runs n + 1 < first_of runs (suc n)

-- a place of a set is the next one of the set with one more place before it
moved : (m k : ℕ) (has : Bool) (set : List Bool) → m + 1 ≤ k → has_member set (k - (m + 1)) ≡ true → has_member (has ∷ set) (k - m) ≡ true
moved m k has set le member = let next : k - m ≡ suc (k - (m + 1)) = omega arith in rw next member

-- the first place of a set is a member
first_is : (m k : ℕ) (set : List Bool) → k ≡ m → has_member (true ∷ set) (k - m) ≡ true
first_is m k set e = let none : k - m ≡ 0 = omega arith in rw none refl

none_are : (m : ℕ) → AreRunsFrom m [] []
none_are m = record {
  from = λ n lt. absurd (omega arith);
  ascending = λ n lt. absurd (omega arith);
  only = λ n k lt. absurd (omega arith);
  all = λ k member. absurd (false≢true member);
  apart = λ n lt. absurd (omega arith);
}

-- a place that is no member
passed_are : (m : ℕ) (set : List Bool) (runs : List (ℕ × ℕ)) → AreRunsFrom (m + 1) set runs → AreRunsFrom m (false ∷ set) runs
passed_are m set runs are = record {
  from = λ n lt. let h = are.from n lt in omega arith;
  ascending = are.ascending;
  only = λ n k lt first last. let h = are.from n lt in moved m k false set (omega arith) (are.only n k lt first last);
  all = all;
  apart = are.apart;
}
  where
    all : (k : ℕ) → has_member (false ∷ set) k ≡ true → (n : ℕ) × (n < length runs) × (first_of runs n ≤ m + k) × (m + k ≤ last_of runs n)
    all zero member = absurd (false≢true member)
    all (suc k) member = let at = are.all k member in let first = at.2 in let last = at.3 in (at.0, at.1, omega arith, omega arith)

-- a member with no run after it
alone_is : (m : ℕ) (set : List Bool) → AreRunsFrom (m + 1) set [] → AreRunsFrom m (true ∷ set) ((m, m) ∷ [])
alone_is m set are = record { from = from; ascending = ascending; only = only; all = all; apart = λ n lt. absurd (omega arith) }
  where
    from : (n : ℕ) → n < 1 → m ≤ first_of ((m, m) ∷ []) n
    from zero lt = omega arith
    from (suc n) lt = absurd (omega arith)

    ascending : (n : ℕ) → n < 1 → first_of ((m, m) ∷ []) n ≤ last_of ((m, m) ∷ []) n
    ascending zero lt = omega arith
    ascending (suc n) lt = absurd (omega arith)

    only : (n k : ℕ) → n < 1 → first_of ((m, m) ∷ []) n ≤ k → k ≤ last_of ((m, m) ∷ []) n → has_member (true ∷ set) (k - m) ≡ true
    only zero k lt first last = first_is m k set (omega arith)
    only (suc n) k lt first last = absurd (omega arith)

    all : (k : ℕ) → has_member (true ∷ set) k ≡ true → (n : ℕ) × (n < 1) × (first_of ((m, m) ∷ []) n ≤ m + k) × (m + k ≤ last_of ((m, m) ∷ []) n)
    all zero member = (0, omega arith, omega arith, omega arith)
    all (suc k) member = let at = are.all k member in absurd (omega (arith, at.1))

-- a member that stands next to the run after it
joined_is : (m : ℕ) (set : List Bool) (run : ℕ × ℕ) (runs : List (ℕ × ℕ)) → run.0 ≡ m + 1 → AreRunsFrom (m + 1) set (run ∷ runs) → AreRunsFrom m (true ∷ set) ((m, run.1) ∷ runs)
joined_is m set run runs next are = record { from = from; ascending = ascending; only = only; all = all; apart = apart }
  where
    from : (n : ℕ) → n < length ((m, run.1) ∷ runs) → m ≤ first_of ((m, run.1) ∷ runs) n
    from zero lt = omega arith
    from (suc n) lt = let h = are.from (suc n) lt in omega arith

    ascending : (n : ℕ) → n < length ((m, run.1) ∷ runs) → first_of ((m, run.1) ∷ runs) n ≤ last_of ((m, run.1) ∷ runs) n
    ascending zero lt = let h = are.ascending 0 (omega arith) in omega arith
    ascending (suc n) lt = are.ascending (suc n) lt

    only : (n k : ℕ) → n < length ((m, run.1) ∷ runs) → first_of ((m, run.1) ∷ runs) n ≤ k → k ≤ last_of ((m, run.1) ∷ runs) n → has_member (true ∷ set) (k - m) ≡ true
    only zero k lt first last =
        elim (cases_eq k m) [
          | inl e ↦ first_is m k set e
          | inr other ↦ moved m k true set (omega arith) (are.only 0 k (omega arith) (omega arith) last)
        ]
    only (suc n) k lt first last = let h = are.from (suc n) lt in moved m k true set (omega arith) (are.only (suc n) k lt first last)

    placed : (k n : ℕ) → n < length (run ∷ runs) → first_of (run ∷ runs) n ≤ m + 1 + k → m + 1 + k ≤ last_of (run ∷ runs) n → (n : ℕ) × (n < length ((m, run.1) ∷ runs)) × (first_of ((m, run.1) ∷ runs) n ≤ m + suc k) × (m + suc k ≤ last_of ((m, run.1) ∷ runs) n)
    placed k zero lt first last = (0, omega arith, omega arith, omega arith)
    placed k (suc n) lt first last = (suc n, lt, omega arith, omega arith)

    all : (k : ℕ) → has_member (true ∷ set) k ≡ true → (n : ℕ) × (n < length ((m, run.1) ∷ runs)) × (first_of ((m, run.1) ∷ runs) n ≤ m + k) × (m + k ≤ last_of ((m, run.1) ∷ runs) n)
    all zero member = let h = are.ascending 0 (omega arith) in (0, omega arith, omega arith, omega arith)
    all (suc k) member = let at = are.all k member in placed k at.0 at.1 at.2 at.3

    apart : (n : ℕ) → suc n < length ((m, run.1) ∷ runs) → last_of ((m, run.1) ∷ runs) n + 1 < first_of ((m, run.1) ∷ runs) (suc n)
    apart zero lt = are.apart 0 lt
    apart (suc n) lt = are.apart (suc n) lt

-- a member that stands apart from the run after it
apart_is : (m : ℕ) (set : List Bool) (run : ℕ × ℕ) (runs : List (ℕ × ℕ)) → (run.0 ≡ m + 1 → ⊥) → AreRunsFrom (m + 1) set (run ∷ runs) → AreRunsFrom m (true ∷ set) ((m, m) ∷ run ∷ runs)
apart_is m set run runs other are = record { from = from; ascending = ascending; only = only; all = all; apart = apart }
  where
    from : (n : ℕ) → n < length ((m, m) ∷ run ∷ runs) → m ≤ first_of ((m, m) ∷ run ∷ runs) n
    from zero lt = omega arith
    from (suc n) lt = let h = are.from n (omega arith) in omega arith

    ascending : (n : ℕ) → n < length ((m, m) ∷ run ∷ runs) → first_of ((m, m) ∷ run ∷ runs) n ≤ last_of ((m, m) ∷ run ∷ runs) n
    ascending zero lt = omega arith
    ascending (suc n) lt = are.ascending n (omega arith)

    only : (n k : ℕ) → n < length ((m, m) ∷ run ∷ runs) → first_of ((m, m) ∷ run ∷ runs) n ≤ k → k ≤ last_of ((m, m) ∷ run ∷ runs) n → has_member (true ∷ set) (k - m) ≡ true
    only zero k lt first last = first_is m k set (omega arith)
    only (suc n) k lt first last =
        let within : n < length (run ∷ runs) = omega arith in
        let h = are.from n within in
        moved m k true set (omega arith) (are.only n k within first last)

    all : (k : ℕ) → has_member (true ∷ set) k ≡ true → (n : ℕ) × (n < length ((m, m) ∷ run ∷ runs)) × (first_of ((m, m) ∷ run ∷ runs) n ≤ m + k) × (m + k ≤ last_of ((m, m) ∷ run ∷ runs) n)
    all zero member = (0, omega arith, omega arith, omega arith)
    all (suc k) member = let at = are.all k member in let within = at.1 in let first = at.2 in let last = at.3 in (suc at.0, omega arith, omega arith, omega arith)

    apart : (n : ℕ) → suc n < length ((m, m) ∷ run ∷ runs) → last_of ((m, m) ∷ run ∷ runs) n + 1 < first_of ((m, m) ∷ run ∷ runs) (suc n)
    apart zero lt = let h = are.from 0 (omega arith) in omega arith
    apart (suc n) lt = are.apart n (omega arith)

with_first_are : (m : ℕ) (set : List Bool) (runs : List (ℕ × ℕ)) → AreRunsFrom (m + 1) set runs → AreRunsFrom m (true ∷ set) (with_first m runs)
with_first_are m set [] are = alone_is m set are
with_first_are m set (run ∷ runs) are =
    elim (cases_eq run.0 (m + 1)) [
      | inl e ↦ rw (eq-eqb run.0 (m + 1) e) (joined_is m set run runs e are)
      | inr other ↦ rw (ne_eqb run.0 (m + 1) other) (apart_is m set run runs other are)
    ]

runs_from_are : (m : ℕ) (set : List Bool) → AreRunsFrom m set (runs_from m set)
runs_from_are m [] = none_are m
runs_from_are m (false ∷ set) = passed_are m set (runs_from (m + 1) set) (runs_from_are (m + 1) set)
runs_from_are m (true ∷ set) = with_first_are m set (runs_from (m + 1) set) (runs_from_are (m + 1) set)

pub runs_are_maximal : RunsAreMaximal
runs_are_maximal set = whole (runs_from 0 set) (runs_from_are 0 set)
  where
    whole : (runs : List (ℕ × ℕ)) → AreRunsFrom 0 set runs → AreRuns set runs
    whole runs are = record {
      ascending = are.ascending;
      only = λ n k lt first last. let same : k - 0 ≡ k = omega arith in rw same at (are.only n k lt first last);
      all = λ k member. let at = are.all k member in let first = at.2 in let last = at.3 in (at.0, at.1, omega arith, omega arith);
      apart = λ n lt. rw (add-one n) (are.apart n (omega arith));
    }

-- ---- that the numbers of runs can be written

pub runs_fit : (set : List Bool) → length set < 2 ^ 64 → All HasNumbers (runs_from 0 set)
runs_fit set few = fit (runs_from 0 set) (runs_are_maximal set)
  where
    fit : (runs : List (ℕ × ℕ)) → AreRuns set runs → All HasNumbers runs
    fit runs are k d lt =
        let same : get_or runs k d ≡ get_or runs k (0, 0) = get_or_default runs k d (0, 0) lt in
        let up = are.ascending k lt in
        let within : last_of runs k < length set = member_within set (last_of runs k) (are.only k (last_of runs k) lt up (omega arith)) in
        rw same (omega arith, omega arith)
