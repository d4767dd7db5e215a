-- A file that is read piece by piece.
use Rattle.std.proofs.Common.{◌≡◌, ℕ, ◌+◌, ◌<◌, ◌≤◌, min, List, [], ◌++◌, Option, Some, None, IsSome, length, take, drop, refl, sym, ap, ◌∙◌, inr, append_assoc, arith}
use Rattle.std.specs.Option.{option_map, ForSome}
use Rattle.std.proofs.Math.Seq.{drop-append-add, drop-append_seam}
use Rattle.std.proofs.lemmas.List.{take-append-drop, nil_from_length}
use Rattle.std.proofs.lemmas.Bool.{false≢true}
use Rattle.np_outside.specs.Calls.{at_step}
use Rattle.np_outside.specs.Files.{IsLeftOf}

-- what is left of a file behind this front of it
abbrev pub Behind : Option (List ℕ) → List ℕ → Option (List ℕ) → Type 0
Behind file front rest = (r : List ℕ) × (rest ≡ Some r) × (file ≡ Some (front ++ r))

-- a file that has just been begun
pub behind_nothing : (file rest : Option (List ℕ)) (front : List ℕ) → front ≡ [] → IsSome file → rest ≡ file → Behind file front rest
behind_nothing None rest front none there same = absurd (false≢true there)
behind_nothing (Some bytes) rest front none there same = (bytes, same, ap (λ (xs : List ℕ). Some (xs ++ bytes)) (sym none))

-- one piece further
pub behind_piece : (file : Option (List ℕ)) (front r piece : List ℕ) (n : ℕ) → file ≡ Some (front ++ r) → piece ≡ take n r → (rest : Option (List ℕ)) → rest ≡ Some (drop n r)
    → Behind file (front ++ piece) rest
behind_piece file front r piece n whole given rest left = (
  drop n r,
  left,
  whole ∙ ap Some (ap (λ (xs : List ℕ). front ++ xs) (sym (take-append-drop n r)) ∙ sym (append_assoc front (take n r) (drop n r))
      ∙ ap (λ (xs : List ℕ). (front ++ xs) ++ drop n r) (sym given)),
)

pub left_behind : (file rest : Option (List ℕ)) (front r : List ℕ) (most : ℕ) → file ≡ Some (front ++ r) → rest ≡ Some r → length front ≤ most → IsLeftOf file most rest
left_behind file rest front r most whole left within =
    inr (length front, within, left ∙ ap Some (sym (drop-append_seam front r)) ∙ ap (option_map (drop (length front))) (sym whole))

pub left_further : (file rest : Option (List ℕ)) (front r : List ℕ) (most n : ℕ) → file ≡ Some (front ++ r) → rest ≡ Some (drop n r) → length front + n ≤ most → IsLeftOf file most rest
left_further file rest front r most n whole left within =
    inr (length front + n, within, left ∙ ap Some (sym (drop-append-add front r n)) ∙ ap (option_map (drop (length front + n))) (sym whole))

-- a read that gives nothing into a buffer that has room is at the end of the file
pub nothing_given : (most : Option ℕ) (room : ℕ) (r : List ℕ) → ForSome most (λ n. 0 < n) → at_step most (min room (length r)) ≡ 0 → 0 < room → r ≡ []
nothing_given None room r moves given space = nil_from_length r (omega arith)
nothing_given (Some m) room r moves given space = let some : 0 < m = moves m refl in nil_from_length r (omega arith)
