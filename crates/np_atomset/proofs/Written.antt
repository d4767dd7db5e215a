-- What each call leaves in a set: `now` and `new` are its words before and after, and s is its value before.
use Rattle.std.proofs.Common.{Vec, vec_len, ◌≡◌, ◌≢◌, ℕ, ◌^◌, ◌<◌, ◌&&◌, ◌||◌, Bool, false, List, length, set, sym, ◌∙◌, subst, length-set}
use Rattle.std.proofs.lemmas.List.{with_items_is}
use Rattle.std.specs.Prelude.{IsTrue, ◌↔◌}
use Rattle.std.specs.Vec.{with_items}
use Rattle.np_atomset.specs.AtomSet.{AreWords, combine, joined, met, word_bit, AreWordsOf, members, FitsLength}
use Rattle.np_atomset.proofs.Sets.{length-combine, length-join_met}
use Rattle.np_atomset.proofs.Held.{AreWordsOf-slice, length-value, FitsLength-from_words, members-from_words, AreWordsOf-set, AreWordsOf-combine, AreWordsOf-join_met, AreWordsOf-unique, same_set}

-- a set after a write of its words as a slice, which keeps their number
written : {Z : Type 0} (s : List Bool) (len : ℕ) (v : Vec ℕ Z) (new : List ℕ) → len < 2 ^ 64 → length new ≡ vec_len v
    → AreWordsOf s new → length s ≡ len
    → FitsLength len (with_items v new).items × (members len (with_items v new).items ≡ s)
written s len v new small same are long = (
  rw (with_items_is v new same) (FitsLength-from_words s new len small are long),
  rw (with_items_is v new same) (members-from_words s new len are long),
)

-- one member set or cleared
pub set_written : {Z : Type 0} (s : List Bool) (len : ℕ) (v : Vec ℕ Z) (n : ℕ) (b : Bool) (now new : List ℕ)
    → members len v.items ≡ s → FitsLength len v.items → n < length s → now ≡ v.items
    → length new ≡ length now → length now ≡ vec_len v
    → word_bit new n ≡ b → ((k : ℕ) → k ≢ n → word_bit new k ≡ word_bit now k)
    → FitsLength len (with_items v new).items × (members len (with_items v new).items ≡ set s n b)
set_written s len v n b now new view fits within is_now same count at_n others =
    let are = AreWordsOf-slice s len v.items now view fits is_now in
    let long = length-value s len v.items view in
    written (set s n b) len v new fits.small (same ∙ count)
    (AreWordsOf-set s now new n b are within same at_n others)
    (length-set s n b ∙ long)

-- two sets made into one
pub combine_written : {Z : Type 0} (f : Bool → Bool → Bool) → f false false ≡ false
    → (s t : List Bool) (len : ℕ) (v : Vec ℕ Z) (now others new : List ℕ)
    → members len v.items ≡ s → FitsLength len v.items → AreWordsOf t others → length s ≡ length t → now ≡ v.items
    → length new ≡ length now → length now ≡ vec_len v
    → ((k : ℕ) → word_bit new k ≡ f (word_bit now k) (word_bit others k))
    → FitsLength len (with_items v new).items × (members len (with_items v new).items ≡ combine f s t)
combine_written f none s t len v now others new view fits are_t same_len is_now same count made =
    let are = AreWordsOf-slice s len v.items now view fits is_now in
    let long = length-value s len v.items view in
    written (combine f s t) len v new fits.small (same ∙ count)
    (AreWordsOf-combine f none s t now others new are are_t same_len same made)
    (length-combine f s t same_len ∙ long)

-- a set with what two others have in common
pub join_met_written : {Z : Type 0} (s t u : List Bool) (len : ℕ) (v : Vec ℕ Z) (now xs ys new : List ℕ)
    → members len v.items ≡ s → FitsLength len v.items → AreWordsOf t xs → AreWordsOf u ys → length s ≡ length t → length s ≡ length u
    → now ≡ v.items → length new ≡ length now → length now ≡ vec_len v
    → ((k : ℕ) → word_bit new k ≡ (word_bit now k || (word_bit xs k && word_bit ys k)))
    → FitsLength len (with_items v new).items × (members len (with_items v new).items ≡ joined s (met t u))
join_met_written s t u len v now xs ys new view fits are_t are_u len_t len_u is_now same count made =
    let are = AreWordsOf-slice s len v.items now view fits is_now in
    let long = length-value s len v.items view in
    written (joined s (met t u)) len v new fits.small (same ∙ count)
    (AreWordsOf-join_met s t u now xs ys new are are_t are_u len_t len_u same made)
    (length-join_met s t u len_t len_u ∙ long)

-- a call that changed a word changed the set, and one that changed none did not
pub changed_set : (r : Bool) (s made value : List Bool) (now new : List ℕ) → AreWordsOf s now → AreWordsOf made new
    → length made ≡ length s → value ≡ made → AreWords now → AreWords new → (IsTrue r ↔ (new ≢ now))
    → IsTrue r ↔ (value ≢ s)
changed_set r s made value now new are_s are_made len is fit_now fit_new change =
    let P : List Bool → Type 0 = λ t. AreWordsOf t new in
    let Q : List ℕ → Type 0 = λ ws. AreWordsOf made ws in (
      λ t unchanged.
          change.0 t (AreWordsOf-unique s new now (subst P (sym is ∙ unchanged) are_made) are_s fit_new fit_now),
      λ differs. change.1 (λ same. differs (is ∙ same_set made s now (subst Q same are_made) are_s len)),
    )
