-- Bytes that are taken piece by piece.
use Rattle.std.proofs.Common.{◌≡◌, ℕ, ◌+◌, ◌-◌, List, ◌++◌, length, take, drop, sym, ap, ◌∙◌, append_assoc}
use Rattle.std.proofs.Math.Seq.{take-add}
use Rattle.std.proofs.lemmas.List.{take_rest}

-- a front of the bytes, and n of those behind it
pub written_further : (front xs : List ℕ) (done n : ℕ) → (front ++ take done xs) ++ take n (take (length xs - done) (drop done xs)) ≡ front ++ take (done + n) xs
written_further front xs done n =
    ap (λ (rest : List ℕ). (front ++ take done xs) ++ take n rest) (take_rest xs done)
    ∙ append_assoc front (take done xs) (take n (drop done xs))
    ∙ ap (λ (bytes : List ℕ). front ++ bytes) (sym (take-add done n xs))
