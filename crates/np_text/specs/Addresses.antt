-- IPv4 addresses and prefixes, as `10.1.2.3` and `10.0.0.0/8`.
use Rattle.std.specs.Prelude.{ℕ, ◌-◌, ◌*◌, ◌/◌, ◌^◌, ◌==◌, Bool, nat_le, nat_lt, List, [], ◌∷◌, length, map, Option, Some, None, option_and_then, option_map, if◌then◌else◌}
use Rattle.std.specs.Fmt.{decimal}
use Rattle.std.specs.Int.{w32, from_be_bytes, to_be_bytes}
use Rattle.std.specs.List.{slice_split, join_with_byte, before_first, after_first, position_or_len}
use Rattle.np_text.specs.Numbers.{number_of}

-- `b'.'`
abbrev pub is_dot : ℕ → Bool
is_dot b = b == 46

-- `b'/'`
abbrev pub is_slash : ℕ → Bool
is_slash b = b == 47

-- one to three digits that write a number of at most 255
unfoldable pub octet_of : List ℕ → Option ℕ
octet_of part = if nat_le (length part) 3 then number_of part 255 else None

-- the numbers of the parts, if each is one
abbrev pub octets_of : List (List ℕ) → Option (List ℕ)
octets_of [] = Some []
octets_of (part ∷ parts) = option_and_then (λ octet. option_map (λ octets. octet ∷ octets) (octets_of parts)) (octet_of part)

-- four such parts, joined by dots; the first is the high byte of the address
unfoldable pub address_of : List ℕ → Option ℕ
address_of word =
    let parts = slice_split is_dot word in
    if length parts == 4 then option_map (from_be_bytes w32) (octets_of parts) else None

-- the first bits of an address, as many as the length says; the others are 0
abbrev pub front_bits : ℕ → ℕ → ℕ
front_bits address length = address / 2 ^ (32 - length) * 2 ^ (32 - length)

-- an address and a length up to 32; without `/length` the length is 32
unfoldable pub prefix_of : List ℕ → Option (ℕ × ℕ)
prefix_of word =
    if nat_lt (position_or_len is_slash word) (length word)
    then option_and_then (λ address. option_map (λ length. (front_bits address length, length)) (number_of (after_first is_slash word) 32)) (address_of (before_first is_slash word))
    else option_map (λ address. (address, 32)) (address_of word)

-- the four bytes of an address in decimal, joined by dots
unfoldable pub dotted : ℕ → List ℕ
dotted address = join_with_byte 46 (map decimal (to_be_bytes w32 address))
