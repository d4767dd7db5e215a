-- Numbers drawn one after another from a state.
use Rattle.std.specs.Prelude.{ℕ, zero, suc, ◌+◌, ◌*◌, ◌/◌, ◌%◌, List, [], ◌∷◌}

-- a drawing: what is drawn from a state, and the state after it
abbrev pub Drawing : Type 0 → Type 0
Drawing X = ℕ → X × ℕ

-- the state after one draw
abbrev pub next_state : ℕ → ℕ
next_state x = (1664525 * x + 1013904223) % 4294967296

-- a number below the bound, by the upper half of the next state
unfoldable pub draw : ℕ → Drawing ℕ
draw bound x = (next_state x / 65536 % bound, next_state x)

-- nothing is drawn for this value
abbrev pub given : {X : Type 0} → X → Drawing X
given value x = (value, x)

-- first the one drawing, and then the other, which knows what the first has drawn
infixl 10 ◌>>=◌
abbrev pub ◌>>=◌ : {X Y : Type 0} → Drawing X → (X → Drawing Y) → Drawing Y
(first >>= next) x = next (first x).0 (first x).1

-- so many drawings in turn, for this number and those after it
unfoldable pub in_turn : {X : Type 0} → (ℕ → Drawing X) → ℕ → ℕ → Drawing (List X)
in_turn drawing k zero = given []
in_turn drawing k (suc count) = drawing k >>= λ first. in_turn drawing (k + 1) count >>= λ others. given (first ∷ others)
