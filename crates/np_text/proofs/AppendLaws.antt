-- How calls that append, one after another, leave the bytes when memory runs out.
use Rattle.std.proofs.Common.{◌≡◌, List, [], ◌++◌, ℕ, Result, Ok, Err, sym, refl, ap, ◌∙◌, append_assoc, append-nil}
use Rattle.std.specs.Result.{OnErr}
use Rattle.np_text.specs.Appending.{AppendsFront}

-- nothing was appended
pub AppendsFront-none : (old text : List ℕ) → AppendsFront old old text
AppendsFront-none old text = record { written = []; lost = text; whole = refl; after = sym (append-nil old) }

-- all of it was appended
pub AppendsFront-all : (old new text : List ℕ) → new ≡ old ++ text → AppendsFront old new text
AppendsFront-all old new text h = record { written = text; lost = []; whole = sym (append-nil text); after = h }

-- the first of two calls failed
pub AppendsFront-more : {old new text : List ℕ} (more : List ℕ) → AppendsFront old new text → AppendsFront old new (text ++ more)
AppendsFront-more more h =
    record { written = h.written; lost = h.lost ++ more; whole = ap (λ t. t ++ more) h.whole ∙ append_assoc h.written h.lost more; after = h.after }

-- the first of two calls appended its text, and the second failed
pub AppendsFront-after : (old middle : List ℕ) {new more : List ℕ} (text : List ℕ) → middle ≡ old ++ text → AppendsFront middle new more → AppendsFront old new (text ++ more)
AppendsFront-after old middle text first h =
    record {
      written = text ++ h.written;
      lost = h.lost;
      whole = ap (λ t. text ++ t) h.whole ∙ sym (append_assoc text h.written h.lost);
      after = h.after ∙ ap (λ m. m ++ h.written) first ∙ append_assoc old text h.written;
    }

-- a fact, at the exit of a `?`
pub OnErr-from : {T E P : Type 0} (r : Result T E) → P → OnErr r P
OnErr-from (Ok x) p = tt
OnErr-from (Err e) p = p
