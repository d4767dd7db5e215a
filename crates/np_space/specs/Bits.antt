-- The bits of a header: those of one field after those of another, the highest bit of each first.
use Rattle.std.specs.Prelude.{◌≡◌, ℕ, zero, suc, ◌+◌, ◌-◌, ◌<◌, List, [], ◌∷◌, ◌++◌, length, slice_index_or}
use Rattle.std.specs.Int.{bit_at}
use Rattle.std.specs.Cmp.Lexicographic.{slice_cmp}
use Rattle.std.specs.Ordering.{nat_cmp}
use Rattle.np_space.specs.Flag.{flag_number}
use Rattle.np_space.specs.Header.{HasWidths, header_order}
use Rattle.np_space.specs.declared.headers.Header.{Header}

-- the lowest bits of a number, as many as the width says, the highest of them first
unfoldable pub low_bits : ℕ → ℕ → List ℕ
low_bits zero n = []
low_bits (suc k) n = bit_at n k ∷ low_bits k n

-- the bits of numbers, each of which stands beside its width, one number after another
unfoldable pub bits_of : List (ℕ × ℕ) → List ℕ
bits_of [] = []
bits_of (field ∷ fields) = low_bits field.0 field.1 ++ bits_of fields

-- how many bits that is
unfoldable pub width_of : List (ℕ × ℕ) → ℕ
width_of [] = 0
width_of (field ∷ fields) = field.0 + width_of fields

-- the fields of a header with their widths, in the order in which they count
abbrev pub header_fields : Header → List (ℕ × ℕ)
header_fields h =
    (32, h.src) ∷ (32, h.dst) ∷ (8, h.proto) ∷ (16, h.a) ∷ (16, h.b) ∷ (1, flag_number h.est) ∷ (6, h.dscp) ∷ []

-- the bits of a header, from the highest of `src` to the lowest of `dscp`
abbrev pub header_bits : Header → List ℕ
header_bits h = bits_of (header_fields h)

-- a header has 111 bits
abbrev pub HaveAllBits : Type 0
HaveAllBits = (h : Header) → length (header_bits h) ≡ 111

-- headers stand in the order of their bits: the first bit that differs decides
abbrev pub OrderIsByBits : Type 0
OrderIsByBits = (x y : Header) → HasWidths x → HasWidths y → header_order x y ≡ slice_cmp nat_cmp (header_bits x) (header_bits y)

-- headers with the same bits are equal
abbrev pub EqualFromBits : Type 0
EqualFromBits = (x y : Header) → HasWidths x → HasWidths y → header_bits x ≡ header_bits y → x ≡ y

-- the bit at a place of a field is that bit of the field's number
abbrev pub BitsAreInPlace : Type 0
BitsAreInPlace =
    (before after : List (ℕ × ℕ)) (width n i d : ℕ) → i < width → slice_index_or (bits_of (before ++ (width, n) ∷ after)) (width_of before + i) d ≡ bit_at n (width - 1 - i)
