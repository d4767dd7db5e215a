-- The forms of names.
use Rattle.std.specs.Prelude.{ℕ, Bool, false, ◌&&◌, ◌||◌, not, ◌==◌, nat_le, nat_lt, List, [], ◌∷◌, length, codes}
use Rattle.std.specs.List.{list_all}
use Rattle.std.specs.Char.{is_ascii_alphabetic, is_ascii_digit}
use Rattle.std.specs.Str.{bytes_eq}
use Rattle.np_net.specs.Limits.{name_limit}

-- a letter, a digit, or one of `-`, `_` and `.`
abbrev pub is_name_byte : ℕ → Bool
is_name_byte b = is_ascii_alphabetic b || is_ascii_digit b || b == 45 || b == 95 || b == 46

-- a byte of a name, or one of `/` and `:`
abbrev pub is_interface_byte : ℕ → Bool
is_interface_byte b = is_name_byte b || b == 47 || b == 58

-- a letter, and then these bytes, as many in all as a name may have
abbrev pub is_named_by : (ℕ → Bool) → List ℕ → Bool
is_named_by may [] = false
is_named_by may (b ∷ bs) = is_ascii_alphabetic b && list_all may bs && nat_le (length (b ∷ bs)) name_limit

-- the name of an area, a device or a security association
abbrev pub is_name : List ℕ → Bool
is_name word = is_named_by is_name_byte word && not (bytes_eq word (codes "none"))

-- the name of an interface
abbrev pub is_interface_name : List ℕ → Bool
is_interface_name word = is_named_by is_interface_byte word

-- a printable byte that is no space
abbrev pub is_file_byte : ℕ → Bool
is_file_byte b = nat_le 33 b && nat_le b 126

-- the name of a configuration's file
abbrev pub is_file_name : List ℕ → Bool
is_file_name word = nat_lt 0 (length word) && list_all is_file_byte word
