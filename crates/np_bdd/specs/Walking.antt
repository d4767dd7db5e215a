-- Bits of which one is changed, the order of bits, and the way of the least header.
use Rattle.std.specs.Prelude.{◌≡◌, ◌≢◌, ℕ, ◌≤◌, ◌<◌, Bool, true, false, ◌==◌, ◌⊎◌, List, length, if◌then◌else◌}
use Rattle.np_space.specs.Header.{HasWidths}
use Rattle.np_space.specs.declared.headers.Header.{Header}
use Rattle.np_bdd.specs.declared.views.View.{View}
use Rattle.np_bdd.specs.Views.{Bits, bits_of_header, leads_to_yes}
use Rattle.np_bdd.specs.Diagram.{bit_at_place}

-- the bits with this one in the place of the one that has the number
abbrev pub with_bit : Bits → ℕ → Bool → Bits
with_bit bits n b i = if i == n then b else bits i

-- the second header is the first with the bit set
pub record IsWithBit (h set : Header) (bit : ℕ) : Type 0 where
  pub widths : HasWidths set
  pub bits : (i : ℕ) → i < 111 → bits_of_header set i ≡ with_bit (bits_of_header h) bit true i

-- they agree in every bit before this one
abbrev pub AgreeBelow : ℕ → Bits → Bits → Type 0
AgreeBelow end f g = (i : ℕ) → i < end → f i ≡ g i

-- the first bit in which they differ is before this one, and is 0 in the first of them
pub record IsBefore (end : ℕ) (f g : Bits) : Type 0 where
  pub place : ℕ
  pub within : place < end
  pub same : AgreeBelow place f g
  pub zero_here : f place ≡ false
  pub one_there : g place ≡ true

-- on the way of the least bits that lead from x to Yes, they are known up to the bit that is tested at this place: it
-- leads on to Yes, the bits from there on are 0 so far, whatever agrees with the bits so far comes here from x, and
-- whatever leads from x to Yes comes after them or comes here too
pub record IsWay (views : List View) (x at : ℕ) (f : Bits) : Type 0 where
  pub there : at < length views
  pub some : at ≢ 0
  pub clear : (i : ℕ) → bit_at_place views at ≤ i → i < 111 → f i ≡ false
  pub comes : (g : Bits) → AgreeBelow (bit_at_place views at) g f → leads_to_yes views g x ≡ leads_to_yes views g at
  pub least : (g : Bits) → leads_to_yes views g x ≡ true → IsBefore (bit_at_place views at) f g ⊎ AgreeBelow (bit_at_place views at) f g × (leads_to_yes views g at ≡ true)
