-- A set of atoms as a list of truth values, and the words of 64 bits that hold one.
use Rattle.std.specs.Prelude.{◌≡◌, ℕ, ◌/◌, ◌%◌, ◌^◌, ◌<◌, ◌≤◌, ◌==◌, ◌&&◌, ◌||◌, Bool, false, not, List, [], ◌∷◌, length, map, slice_index, slice_index_or}
use Rattle.std.specs.Int.{bit_at, div_ceil}
use Rattle.std.specs.List.{range_with_len}

-- whether n is a member; no place past the end is one
abbrev pub has_member : List Bool → ℕ → Bool
has_member set n = slice_index_or set n false

-- the values at each place of two sets, made into one
abbrev pub combine : (Bool → Bool → Bool) → List Bool → List Bool → List Bool
combine f (x ∷ xs) (y ∷ ys) = f x y ∷ combine f xs ys
combine f (x ∷ xs) [] = []
combine f [] ys = []

-- what is in one of the sets, or in both
abbrev pub joined : List Bool → List Bool → List Bool
joined xs ys = combine (λ x y. x || y) xs ys

-- what is in both
abbrev pub met : List Bool → List Bool → List Bool
met xs ys = combine (λ x y. x && y) xs ys

-- what is in the first alone
abbrev pub without : List Bool → List Bool → List Bool
without xs ys = combine (λ x y. x && not y) xs ys

-- bit k mod 64 of word k / 64, where each word past the end is 0
abbrev pub word_bit : List ℕ → ℕ → Bool
word_bit words k = bit_at (slice_index words (k / 64)) (k % 64) == 1

-- each is a word of 64 bits
abbrev pub AreWords : List ℕ → Type 0
AreWords words = (k : ℕ) → slice_index words k < 2 ^ 64

-- the words hold the set: they are as many as the set needs, bit k mod 64 of word k / 64 says whether k is a member,
-- and so every other bit is 0
pub record AreWordsOf (set : List Bool) (words : List ℕ) : Type 0 where
  pub count : length words ≡ div_ceil (length set) 64
  pub bits : (k : ℕ) → word_bit words k ≡ has_member set k

-- the set of length n that the words hold
unfoldable pub members : ℕ → List ℕ → List Bool
members n words = map (word_bit words) (range_with_len 0 n)

-- the words are as many as a set of length n needs, and each bit past it is 0
pub record FitsLength (n : ℕ) (words : List ℕ) : Type 0 where
  pub small : n < 2 ^ 64
  pub count : length words ≡ div_ceil n 64
  pub clear : (k : ℕ) → n ≤ k → word_bit words k ≡ false
