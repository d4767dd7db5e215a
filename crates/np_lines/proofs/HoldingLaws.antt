-- What holds of a judged value, if there is one.
use Rattle.std.proofs.Common.{◌≡◌, ℕ, Bool, true, false, nat_lt, List, [], ◌∷◌, refl, subst}
use Rattle.std.specs.Prelude.{Ok, Err, if◌then◌else◌}
use Rattle.np_lines.specs.Judging.{Judged, ◌>>=◌, ended, within}
use Rattle.np_lines.specs.Reading.{at_line}

-- it holds of what judging gives
pub record Holds {W X : Type 0} (P : X → Type 0) (j : Judged W X) : Type 0 where
  pub of : (x : X) → j ≡ Ok x → P x

-- of a value of which it holds
pub holds : {W X : Type 0} (P : X → Type 0) (x : X) → P x → Holds {W = W} P (Ok x)
holds {W} P x h = record { of = λ y is. let same : x ≡ y = cc in subst P same h }

-- where there is a fault, and no value
pub faulty : {W X : Type 0} (P : X → Type 0) (e : W) → Holds {X = X} P (Err e)
faulty P e = record { of = λ y is. cc }

-- it goes on through judging
pub after : {W X Y : Type 0} (P : X → Type 0) (Q : Y → Type 0) (j : Judged W X) (f : X → Judged W Y) → Holds P j → ((x : X) → P x → Holds Q (f x)) → Holds Q (j >>= f)
after P Q (Ok x) f p next = next x (p.of x refl)
after P Q (Err e) f p next = faulty Q e

-- whatever the first value is
pub onward : {W X Y : Type 0} (Q : Y → Type 0) (j : Judged W X) (f : X → Judged W Y) → ((x : X) → Holds Q (f x)) → Holds Q (j >>= f)
onward Q (Ok x) f next = next x
onward Q (Err e) f next = faulty Q e

-- nothing is said of the value
pub free : {W X : Type 0} (j : Judged W X) → Holds (λ x. Unit {0}) j
free j = record { of = λ y is. tt }

-- it is what the judging gives
pub itself : {W X : Type 0} (j : Judged W X) → Holds (λ x. j ≡ Ok x) j
itself j = record { of = λ y is. is }

-- on both ways
pub either_way : {W X : Type 0} (P : X → Type 0) (b : Bool) (x y : Judged W X) → Holds P x → Holds P y → Holds P (if b then x else y)
either_way P true x y h k = h
either_way P false x y h k = k

-- of the same value with the line's number at a fault
pub at_line_holds : {W X : Type 0} (P : X → Type 0) (number : ℕ) (j : Judged W X) → Holds P j → Holds P (at_line number j)
at_line_holds P number (Ok x) h = holds P x (h.of x refl)
at_line_holds P number (Err e) h = faulty P _

-- of a value after which no word may be left
pub ended_holds : {W X : Type 0} (P : X → Type 0) (more : W) (words : List (List ℕ)) (x : X) → P x → Holds P (ended more words x)
ended_holds P more [] x h = holds P x h
ended_holds P more (word ∷ words) x h = faulty P more

-- of an item for which there has to be room
pub within_holds : {W X : Type 0} (P : X → Type 0) (many : W) (limit count : ℕ) (x : X) → P x → Holds P (within many limit count x)
within_holds P many limit count x h = either_way P (nat_lt count limit) (Ok x) (Err many) (holds P x h) (faulty P many)
