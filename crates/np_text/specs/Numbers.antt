-- Numbers in decimal.
use Rattle.std.specs.Prelude.{ℕ, ◌+◌, ◌-◌, ◌*◌, Bool, ◌&&◌, nat_lt, nat_le, List, length, Option, Some, None, if◌then◌else◌}
use Rattle.std.specs.Char.{is_ascii_digit}
use Rattle.std.specs.Str.{all_ascii_digits}
use Rattle.std.specs.Str.Parse.{digits_value}

-- one decimal digit or more, and nothing else
abbrev pub is_numeral : List ℕ → Bool
is_numeral word = nat_lt 0 (length word) && all_ascii_digits word

-- the number that a word of decimal digits writes, if it is at most max
unfoldable pub number_of : List ℕ → ℕ → Option ℕ
number_of word max =
    if is_numeral word && nat_le (digits_value 10 word) max then Some (digits_value 10 word) else None

-- the value followed by one more digit, if that is a digit and the value is at most max
abbrev pub with_digit : ℕ → ℕ → ℕ → Option ℕ
with_digit max value byte =
    if is_ascii_digit byte && nat_le (value * 10 + (byte - 48)) max then Some (value * 10 + (byte - 48)) else None
