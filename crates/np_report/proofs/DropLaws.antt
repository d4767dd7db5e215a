-- Drops that are walked along with the slots.
use Rattle.std.proofs.Common.{◌≡◌, ℕ, ◌+◌, ◌-◌, ◌^◌, ◌<◌, ◌≤◌, ◌==◌, Bool, true, false, List, [], ◌∷◌, length, get_or, take, drop, refl, sym, ap, arith, zero, suc, eq-eqb}
use Rattle.std.specs.List.{All, filter}
use Rattle.std.proofs.lemmas.Bool.{ne_eqb}
use Rattle.np_net.specs.declared.filtering.Interface.{Interface}
use Rattle.np_synth.specs.Dropping.{nothing}
use Rattle.np_synth.specs.declared.chosen.Dropped.{Dropped}
use Rattle.np_report.specs.Synthesis.{drops_at, AreInOrder}
use Rattle.np_report.specs.Drops.{slot_at, AreBefore, IsWritable}

-- ---- a filter that passes a part of a list

filter_none : {X : Type 0} (p : X → Bool) (d : X) (xs : List X) → ((k : ℕ) → k < length xs → p (get_or xs k d) ≡ false) → filter p xs ≡ []
filter_none p d [] others = refl
filter_none p d (x ∷ xs) others = rw (others 0 (omega arith)) (filter_none p d xs (λ k lt. others (suc k) (omega arith)))

filter_front : {X : Type 0} (p : X → Bool) (d : X) (xs : List X) (m : ℕ) → m ≤ length xs → ((k : ℕ) → k < m → p (get_or xs k d) ≡ true) → ((k : ℕ) → m ≤ k → k < length xs → p (get_or xs k d) ≡ false) → filter p xs ≡ take m xs
filter_front p d xs zero le those others = filter_none p d xs (λ k lt. others k (omega arith) lt)
filter_front p d [] (suc m) le those others = absurd (omega arith)
filter_front p d (x ∷ xs) (suc m) le those others =
    rw (those 0 (omega arith)) (ap (λ ys. x ∷ ys) (filter_front p d xs m (omega arith) (λ k lt. those (suc k) (omega arith)) (λ k le lt. others (suc k) (omega arith) (omega arith))))

filter_part : {X : Type 0} (p : X → Bool) (d : X) (xs : List X) (n m : ℕ) → n + m ≤ length xs → ((k : ℕ) → k < n → p (get_or xs k d) ≡ false) → ((k : ℕ) → n ≤ k → k < n + m → p (get_or xs k d) ≡ true) → ((k : ℕ) → n + m ≤ k → k < length xs → p (get_or xs k d) ≡ false) → filter p xs ≡ take m (drop n xs)
filter_part p d xs zero m le before those others = filter_front p d xs m (omega arith) (λ k lt. those k (omega arith) (omega arith)) (λ k le lt. others k (omega arith) lt)
filter_part p d [] (suc n) m le before those others = absurd (omega arith)
filter_part p d (x ∷ xs) (suc n) m le before those others =
    rw (before 0 (omega arith)) (filter_part p d xs n m (omega arith) (λ k lt. before (suc k) (omega arith)) (λ k le lt. those (suc k) (omega arith) (omega arith)) (λ k le lt. others (suc k) (omega arith) (omega arith)))

-- ---- the drops at a slot

-- those between what is before a slot and what is before the next one
pub drops_between : (drops : List Dropped) (slot n m : ℕ) → AreBefore slot n drops → AreBefore (slot + 1) m drops → n ≤ m → take (m - n) (drop n drops) ≡ drops_at slot drops
drops_between drops slot n m now next le =
    sym (filter_part (λ d. d.slot == slot) nothing drops n (m - n) (let h = next.within in omega arith)
    (λ k lt. let h = now.before k lt in ne_eqb (slot_at drops k) slot (λ e. omega arith))
    (λ k le lt. let h = now.behind k le (let w = next.within in omega arith) in let i = next.before k (omega arith) in eq-eqb (slot_at drops k) slot (omega arith))
    (λ k le lt. let h = next.behind k (omega arith) lt in ne_eqb (slot_at drops k) slot (λ e. omega arith)))

-- ---- that drops can be written

pub drops_writable : (interfaces : List Interface) (atoms goals : ℕ) (drops : List Dropped) → atoms < 2 ^ 64 → goals < 2 ^ 64 → AreInOrder interfaces atoms goals drops → All (IsWritable interfaces) drops
drops_writable interfaces atoms goals drops few some are k d lt =
    let atom = are.atoms_within k d lt in
    let goal = are.goals_within k d lt in
    record { hops = are.within k d lt; atom = omega arith; goal = omega arith }
