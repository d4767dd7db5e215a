-- Lists of sets of which one is made larger.
use Rattle.std.proofs.Common.{◌≡◌, ◌≢◌, ◌⊎◌, ℕ, zero, suc, ◌+◌, ◌*◌, ◌<◌, ◌≤◌, ◌&&◌, ◌||◌, Bool, true, false, List, [], ◌∷◌, length, get_or, set, refl, sym, ◌∙◌, ap, subst, inl, inr, arith, length-set, get_or-set_same, get_or-set_other}
use Rattle.std.proofs.lemmas.Bool.{cases_eq}
use Rattle.std.proofs.lemmas.List.{get_or_default}
use Rattle.std.proofs.lemmas.List.Sums.{count_by-le-length}
use Rattle.std.specs.Prelude.{count_by, IsTrue, ◌↔◌}
use Rattle.std.specs.Bool.{MatchBool, OnFalse, OnTrue}
use Rattle.np_atomset.specs.AtomSet.{has_member, joined, met}
use Rattle.np_atomset.proofs.Sets.{has_member-joined, has_member-met, length-combine, length-join_met, count_by-joined_grew}
use Rattle.np_flow.specs.Postures.{AllHaveLength}
use Rattle.np_flow.specs.Spread.{has_atom, total, Adds, AreMarked, StayMarked}

or_cases : (a b : Bool) → (a || b) ≡ true → (a ≡ true) ⊎ (b ≡ true)
or_cases true b e = inl refl
or_cases false b e = inr e

or_left : (a b : Bool) → a ≡ true → (a || b) ≡ true
or_left true b e = refl
or_left false b e = let no : false ≡ true = e in cc

or_right : (a b : Bool) → b ≡ true → (a || b) ≡ true
or_right true b e = refl
or_right false b e = e

and_both : (a b : Bool) → (a && b) ≡ true → (a ≡ true) × (b ≡ true)
and_both true b e = (refl, e)
and_both false b e = let no : false ≡ true = e in cc

and_from : (a b : Bool) → a ≡ true → b ≡ true → (a && b) ≡ true
and_from true b e f = f
and_from false b e f = let no : false ≡ true = e in cc

-- the set at a place is replaced by one of the same length that has what it had and the atoms of P
adds_by : (P : ℕ → Type 0) (sets : List (List Bool)) (at : ℕ) (made : List Bool) → at < length sets
    → length made ≡ length (get_or sets at [])
    → ((atom : ℕ) → has_atom sets at atom ≡ true → has_member made atom ≡ true)
    → ((atom : ℕ) → P atom → has_member made atom ≡ true)
    → ((atom : ℕ) → has_member made atom ≡ true → (has_atom sets at atom ≡ true) ⊎ P atom)
    → Adds P at sets (set sets at made)
adds_by P sets at made within len kept all only =
    let here : get_or (set sets at made) at [] ≡ made = get_or-set_same sets at made [] within in
    let there : (k : ℕ) → k ≢ at → get_or (set sets at made) k [] ≡ get_or sets k [] = λ k other. get_or-set_other sets at k made [] other in
    record {
      widths = λ w same k lt. elim (cases_eq k at) [
        | inl is ↦ rw (is, here) (len ∙ same at within)
        | inr other ↦ rw (there k other) (same k (rw length-set at lt))
      ];
      kept = λ k atom has. elim (cases_eq k at) [
        | inl is ↦ rw (is, here) (kept atom (rw is at has))
        | inr other ↦ rw (there k other) has
      ];
      all = λ atom p. rw here (all atom p);
      only = λ k atom has. elim (cases_eq k at) [
        | inl is ↦ (elim (only atom (rw (is, here) at has)) [ inl was ↦ inl (rw is was) | inr p ↦ inr (p, sym is) ])
        | inr other ↦ inl (rw (there k other) at has)
      ];
    }

has_join_met : (s x y : List Bool) → length s ≡ length x → length s ≡ length y
    → (atom : ℕ) → has_member (joined s (met x y)) atom ≡ (has_member s atom || (has_member x atom && has_member y atom))
has_join_met s x y lx ly atom =
    let common : length (met x y) ≡ length x = length-combine (λ a b. a && b) x y (omega arith) in
    has_member-joined s (met x y) (omega arith) atom ∙ ap (λ b. has_member s atom || b) (has_member-met x y (omega arith) atom)

-- the set at a place, by any default
at_any : (sets : List (List Bool)) (at : ℕ) (d : List Bool) → at < length sets → get_or sets at d ≡ get_or sets at []
at_any sets at d within = get_or_default sets at d [] within

-- what two sets have in common is added
pub join_met_adds : (sets : List (List Bool)) (at : ℕ) (d x y made : List Bool) → at < length sets
    → length (get_or sets at []) ≡ length x → length (get_or sets at []) ≡ length y → made ≡ joined (get_or sets at d) (met x y)
    → Adds (λ atom. (has_member x atom ≡ true) × (has_member y atom ≡ true)) at sets (set sets at made)
join_met_adds sets at d x y made within lx ly joined_is =
    let is : made ≡ joined (get_or sets at []) (met x y) = joined_is ∙ ap (λ (s : List Bool). joined s (met x y)) (at_any sets at d within) in
    let has : (atom : ℕ) → has_member made atom ≡ (has_atom sets at atom || (has_member x atom && has_member y atom)) =
    λ atom. ap (λ (s : List Bool). has_member s atom) is ∙ has_join_met (get_or sets at []) x y lx ly atom in
    adds_by (λ atom. (has_member x atom ≡ true) × (has_member y atom ≡ true)) sets at made within
    (ap length is ∙ length-join_met (get_or sets at []) x y lx ly)
    (λ atom was. has atom ∙ or_left _ _ was)
    (λ atom p. has atom ∙ or_right (has_atom sets at atom) _ (and_from _ _ p.0 p.1))
    (λ atom now. elim (or_cases (has_atom sets at atom) (has_member x atom && has_member y atom) (sym (has atom) ∙ now)) [
      | inl was ↦ inl was
      | inr both ↦ inr (and_both _ _ both)
    ])

-- a set is added
pub join_adds : (sets : List (List Bool)) (at : ℕ) (d x made : List Bool) → at < length sets
    → length (get_or sets at []) ≡ length x → made ≡ joined (get_or sets at d) x
    → Adds (λ atom. has_member x atom ≡ true) at sets (set sets at made)
join_adds sets at d x made within lx joined_is =
    let is : made ≡ joined (get_or sets at []) x = joined_is ∙ ap (λ (s : List Bool). joined s x) (at_any sets at d within) in
    let has : (atom : ℕ) → has_member made atom ≡ (has_atom sets at atom || has_member x atom) =
    λ atom. ap (λ (s : List Bool). has_member s atom) is ∙ has_member-joined (get_or sets at []) x lx atom in
    adds_by (λ atom. has_member x atom ≡ true) sets at made within
    (ap length is ∙ length-combine (λ a b. a || b) (get_or sets at []) x lx)
    (λ atom was. has atom ∙ or_left _ _ was)
    (λ atom p. has atom ∙ or_right (has_atom sets at atom) _ p)
    (λ atom now. or_cases (has_atom sets at atom) (has_member x atom) (sym (has atom) ∙ now))

-- ---- how many members there are

total-set : (sets : List (List Bool)) (at : ℕ) (made : List Bool) → at < length sets
    → total (set sets at made) + count_by (λ b. b) (get_or sets at []) ≡ total sets + count_by (λ b. b) made
total-set [] at made lt = absurd (omega arith)
total-set (s ∷ sets) zero made lt = omega arith
total-set (s ∷ sets) (suc at) made lt =
    let rest : total (set sets at made) + count_by (λ b. b) (get_or sets at []) ≡ total sets + count_by (λ b. b) made = total-set sets at made (omega arith) in
    omega arith

-- a join that changes the set makes the total larger
pub join_met_grew : (r : Bool) (sets : List (List Bool)) (at : ℕ) (d x y made : List Bool) → at < length sets
    → length (get_or sets at []) ≡ length x → length (get_or sets at []) ≡ length y → made ≡ joined (get_or sets at d) (met x y)
    → IsTrue r ↔ (made ≢ get_or sets at d) → OnTrue r (total sets < total (set sets at made))
join_met_grew true sets at d x y made within lx ly joined_is change =
    let any = at_any sets at d within in
    let is : made ≡ joined (get_or sets at []) (met x y) = joined_is ∙ ap (λ (s : List Bool). joined s (met x y)) any in
    let common : length (met x y) ≡ length x = length-combine (λ a b. a && b) x y (omega arith) in
    let more : count_by (λ b. b) (get_or sets at []) < count_by (λ b. b) (joined (get_or sets at []) (met x y)) =
    count_by-joined_grew (get_or sets at []) (met x y) (omega arith) (λ e. change.0 refl (is ∙ e ∙ sym any)) in
    let counts : count_by (λ b. b) made ≡ count_by (λ b. b) (joined (get_or sets at []) (met x y)) = ap (count_by (λ b. b)) is in
    let sums = total-set sets at made within in
    omega arith
join_met_grew false sets at d x y made within lx ly joined_is change = tt

-- and the total has a bound
pub total-bound : (w : ℕ) (sets : List (List Bool)) → AllHaveLength w sets → total sets ≤ length sets * w
total-bound w [] same = omega arith
total-bound w (s ∷ sets) same =
    let here : length s ≡ w = same 0 (omega arith) in
    let few : count_by (λ b. b) s ≤ length s = count_by-le-length (λ b. b) s in
    let rest : total sets ≤ length sets * w = total-bound w sets (λ k lt. same (suc k) (omega arith)) in
    omega arith

-- the same place and the same two sets by other names
pub adds_same : (at at' : ℕ) (x x' y y' : List Bool) (old new : List (List Bool)) → at ≡ at' → x ≡ x' → y ≡ y'
    → Adds (λ atom. (has_member x atom ≡ true) × (has_member y atom ≡ true)) at old new
    → Adds (λ atom. (has_member x' atom ≡ true) × (has_member y' atom ≡ true)) at' old new
adds_same at at' x x' y y' old new at_is x_is y_is adds =
    subst (λ k. Adds (λ atom. (has_member x' atom ≡ true) × (has_member y' atom ≡ true)) k old new) at_is
    (subst (λ (s : List Bool). Adds (λ atom. (has_member x' atom ≡ true) × (has_member s atom ≡ true)) at old new) y_is
    (subst (λ (s : List Bool). Adds (λ atom. (has_member s atom ≡ true) × (has_member y atom ≡ true)) at old new) x_is adds))

-- a set of two lists of sets of one length is added
pub join_adds_at : (w : ℕ) (Q : Type 0) (slots sets : List (List Bool)) (slot at at' : ℕ) (d x made : List Bool)
    → AllHaveLength w slots → AllHaveLength w sets → slot < length slots → at < length sets → at ≡ at' → x ≡ get_or slots slot [] → Q
    → made ≡ joined (get_or sets at d) x
    → Adds (λ atom. (has_atom slots slot atom ≡ true) × Q) at' sets (set sets at made)
join_adds_at w Q slots sets slot at at' d x made same_slots same_sets slot_within within at_is x_is q is =
    let long : length (get_or sets at []) ≡ length x = same_sets at within ∙ sym (ap length x_is ∙ same_slots slot slot_within) in
    let adds = join_adds sets at d x made within long is in
    let into : (atom : ℕ) → has_member x atom ≡ true → has_atom slots slot atom ≡ true =
    λ atom has. subst (λ (s : List Bool). has_member s atom ≡ true) x_is has in
    let back : (atom : ℕ) → has_atom slots slot atom ≡ true → has_member x atom ≡ true =
    λ atom has. subst (λ (s : List Bool). has_member s atom ≡ true) (sym x_is) has in
    let here : Adds (λ atom. (has_atom slots slot atom ≡ true) × Q) at sets (set sets at made) = record {
      widths = adds.widths;
      kept = adds.kept;
      all = λ atom p. adds.all atom (back atom p.0);
      only = λ k atom has. elim (adds.only k atom has) [ inl was ↦ inl was | inr p ↦ inr ((into atom p.0, q), p.1) ];
    } in
    subst (λ k. Adds (λ atom. (has_atom slots slot atom ≡ true) × Q) k sets (set sets at made)) at_is here

-- whether something grew, after one step more
pub grew_more : (before now : Bool) (old mid new : List (List Bool)) → MatchBool before (total old < total mid) (mid ≡ old)
    → OnTrue now (total mid < total new) → OnFalse now (new ≡ mid)
    → MatchBool (before || now) (total old < total new) (new ≡ old)
grew_more true true old mid new was grew same = omega arith
grew_more true false old mid new was grew same = let e : total new ≡ total mid = ap total same in omega arith
grew_more false true old mid new was grew same = let e : total mid ≡ total old = ap total was in omega arith
grew_more false false old mid new was grew same = same ∙ was

-- ---- which sets are marked

-- a set that may have grown is marked, if something grew
pub marked_by : (grew : Bool) (P : ℕ → Type 0) (at : ℕ) (old new : List (List Bool)) (marks : List Bool) → Adds P at old new
    → OnFalse grew (new ≡ old) → OnTrue grew (has_member marks at ≡ true) → AreMarked old new marks
marked_by true P at old new marks adds same marked k atom has = elim (adds.only k atom has) [
  | inl was ↦ inl was
  | inr p ↦ inr (subst (λ j. has_member marks j ≡ true) p.1 marked)
]
marked_by false P at old new marks adds same marked k atom has = inl (subst (λ (x : List (List Bool)). has_atom x k atom ≡ true) same has)

-- one step more
pub marked_more : (old mid new : List (List Bool)) (before marks : List Bool) → AreMarked old mid before
    → AreMarked mid new marks → StayMarked before marks → AreMarked old new marks
marked_more old mid new before marks was now stay k atom has = elim (now k atom has) [
  | inl earlier ↦ (elim (was k atom earlier) [ inl first ↦ inl first | inr marked ↦ inr (stay k marked) ])
  | inr marked ↦ inr marked
]

-- nothing is added where all is there
pub adds_none : (P : ℕ → Type 0) (at : ℕ) (sets : List (List Bool))
    → ((atom : ℕ) → P atom → has_atom sets at atom ≡ true) → Adds P at sets sets
adds_none P at sets there = record {
  widths = λ w same. same;
  kept = λ k atom has. has;
  all = there;
  only = λ k atom has. inl has;
}
