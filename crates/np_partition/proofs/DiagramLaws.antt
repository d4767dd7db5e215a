-- How the class of bits reads: at a class, at a test, and among more places.
use Rattle.std.proofs.Common.{◌≡◌, ℕ, suc, ◌+◌, ◌<◌, ◌≤◌, Bool, true, false, List, [], ◌∷◌, ◌++◌, length, take, drop, refl, sym, ◌∙◌, ap, subst, arith, if◌then◌else◌}
use Rattle.std.specs.Prelude.{fold, slice_index_or}
use Rattle.std.proofs.Math.Seq.{get_or-append_seam, drop-cons}
use Rattle.std.proofs.lemmas.List.{get_or_append_left, length-append, length-take-le, take-append-drop}
use Rattle.std.proofs.lemmas.List.Sums.{fold-append}
use Rattle.np_bdd.specs.Views.{Bits}
use Rattle.np_partition.specs.declared.shows.Show.{Show}
use Rattle.np_partition.specs.declared.shows.Show.TheVariants.{Class, Test}
use Rattle.np_partition.specs.Diagram.{class_shown, classes_from, class_at, show_at, bit_of, bit_at, IsOrderedTest, IsOrdered, IsDiagram}

-- ---- the classes, place by place

-- one place more
abbrev step_of : Bits → List ℕ → Show → List ℕ
step_of bits before show = before ++ class_shown bits before show ∷ []

length_more : (bits : Bits) (before : List ℕ) (shows : List Show) → length (fold (step_of bits) before shows) ≡ length before + length shows
length_more bits before [] = omega arith
length_more bits before (show ∷ shows) =
    length_more bits (step_of bits before show) shows ∙ omega (arith, length-append before (class_shown bits before show ∷ []))

earlier_kept : (bits : Bits) (before : List ℕ) (shows : List Show) (at : ℕ) → at < length before → slice_index_or (fold (step_of bits) before shows) at 0 ≡ slice_index_or before at 0
earlier_kept bits before [] at there = refl
earlier_kept bits before (show ∷ shows) at there =
    earlier_kept bits (step_of bits before show) shows at (omega (arith, there, length-append before (class_shown bits before show ∷ [])))
    ∙ get_or_append_left before (class_shown bits before show ∷ []) 0 at there

-- there is a class for each place
length_classes : (bits : Bits) (shows : List Show) → length (classes_from bits shows) ≡ length shows
unfolding classes_from
length_classes bits shows = length_more bits [] shows ∙ omega arith

-- places that follow change nothing of the earlier ones
pub class_kept : (bits : Bits) (shows more : List Show) (at : ℕ) → at < length shows → class_at bits (shows ++ more) at ≡ class_at bits shows at
unfolding classes_from
class_kept bits shows more at there =
    ap (λ classes. slice_index_or classes at 0) (fold-append (step_of bits) [] shows more)
    ∙ earlier_kept bits (fold (step_of bits) [] shows) more at (omega (arith, there, length_more bits [] shows))

-- the last place
pub class_last : (bits : Bits) (shows : List Show) (show : Show) → class_at bits (shows ++ show ∷ []) (length shows) ≡ class_shown bits (classes_from bits shows) show
unfolding classes_from
class_last bits shows show =
    ap (λ classes. slice_index_or classes (length shows) 0) (fold-append (step_of bits) [] shows (show ∷ []))
    ∙ ap (λ n. slice_index_or (step_of bits (classes_from bits shows) show) n 0) (sym (length_classes bits shows))
    ∙ get_or-append_seam (classes_from bits shows) (class_shown bits (classes_from bits shows) show) [] 0

-- ---- the class at a place

-- the places before one, it, and those after it
split_at : (shows : List Show) (at : ℕ) → at < length shows → shows ≡ take at shows ++ show_at shows at ∷ drop (suc at) shows
split_at shows at there = sym (take-append-drop at shows) ∙ ap (λ rest. take at shows ++ rest) (drop-cons shows at (Class 0) there)

-- the class at a place of two parts, by the last of the first part
class_seam : (bits : Bits) (before after : List Show) (show : Show) → class_at bits (before ++ show ∷ after) (length before) ≡ class_shown bits (classes_from bits before) show
class_seam bits before after show =
    ap (λ shows. class_at bits shows (length before)) (sym (append_one before after show))
    ∙ class_kept bits (before ++ show ∷ []) after (length before) (omega (arith, length-append before (show ∷ [])))
    ∙ class_last bits before show
  where
    append_one : (before after : List Show) (show : Show) → (before ++ show ∷ []) ++ after ≡ before ++ show ∷ after
    append_one [] after show = refl
    append_one (x ∷ before) after show = ap (λ rest. x ∷ rest) (append_one before after show)

-- by what it shows, and the classes of the places before it
class_of_show : (bits : Bits) (shows : List Show) (at : ℕ) → at < length shows → class_at bits shows at ≡ class_shown bits (classes_from bits (take at shows)) (show_at shows at)
class_of_show bits shows at there =
    ap (λ all. class_at bits all at) (split_at shows at there)
    ∙ ap (λ n. class_at bits (take at shows ++ show_at shows at ∷ drop (suc at) shows) n) (sym count)
    ∙ class_seam bits (take at shows) (drop (suc at) shows) (show_at shows at)
  where
    count : length (take at shows) ≡ at
    count = length-take-le at shows (omega (arith, there))

-- a place before it has the class that it has in the whole list
class_before : (bits : Bits) (shows : List Show) (at low : ℕ) → at < length shows → low < at → class_at bits (take at shows) low ≡ class_at bits shows low
class_before bits shows at low there before =
    sym (class_kept bits (take at shows) (drop at shows) low (omega (arith, before, there, length-take-le at shows (omega (arith, there)))))
    ∙ ap (λ all. class_at bits all low) (take-append-drop at shows)

-- a class
pub class_at_class : (bits : Bits) (shows : List Show) (at n : ℕ) → at < length shows → show_at shows at ≡ Class n → class_at bits shows at ≡ n
class_at_class bits shows at n there e = class_of_show bits shows at there ∙ ap (λ show. class_shown bits (classes_from bits (take at shows)) show) e

-- a test, whose branches stand before it
class_at_test : (bits : Bits) (shows : List Show) (at bit low high : ℕ) → at < length shows → show_at shows at ≡ Test bit low high → low < at → high < at
    → class_at bits shows at ≡ (if bits bit then class_at bits shows high else class_at bits shows low)
class_at_test bits shows at bit low high there e low_before high_before =
    class_of_show bits shows at there
    ∙ ap (λ show. class_shown bits (classes_from bits (take at shows)) show) e
    ∙ by (bits bit)
  where
    by : (b : Bool) → (if b then class_at bits (take at shows) high else class_at bits (take at shows) low) ≡ (if b then class_at bits shows high else class_at bits shows low)
    by true = class_before bits shows at high there high_before
    by false = class_before bits shows at low there low_before

-- ---- diagrams

-- what the diagram says of a test
pub ordered_test : (shows : List Show) → IsDiagram shows → (at bit low high : ℕ) → at < length shows → show_at shows at ≡ Test bit low high → IsOrderedTest shows at bit low high
ordered_test shows d at bit low high there e = subst (λ show. IsOrdered shows at show) e (d at there)

-- a test chooses by its bit
pub class_chosen : (shows : List Show) → IsDiagram shows → (bits : Bits) (at bit low high : ℕ) → at < length shows → show_at shows at ≡ Test bit low high
    → class_at bits shows at ≡ (if bits bit then class_at bits shows high else class_at bits shows low)
class_chosen shows d bits at bit low high there e =
    let o = ordered_test shows d at bit low high there e in
    class_at_test bits shows at bit low high there e o.low_before o.high_before

small_bit : (shows : List Show) (at : ℕ) (show : Show) → IsOrdered shows at show → bit_of show ≤ 111
small_bit shows at (Class n) o = omega arith
small_bit shows at (Test bit low high) o = omega (arith, o.bit_fits)

-- every place's bit is at most one past the last
pub bit_small : (shows : List Show) → IsDiagram shows → (at : ℕ) → at < length shows → bit_at shows at ≤ 111
bit_small shows d at there = small_bit shows at (show_at shows at) (d at there)

-- ---- one place more

-- what an earlier place shows
show_kept : (shows more : List Show) (at : ℕ) → at < length shows → show_at (shows ++ more) at ≡ show_at shows at
show_kept shows more at there = get_or_append_left shows more (Class 0) at there

pub show_last : (shows : List Show) (show : Show) → show_at (shows ++ show ∷ []) (length shows) ≡ show
show_last shows show = get_or-append_seam shows show [] (Class 0)

pub bit_kept : (shows more : List Show) (at : ℕ) → at < length shows → bit_at (shows ++ more) at ≡ bit_at shows at
bit_kept shows more at there = ap bit_of (show_kept shows more at there)

-- the class at a new test
pub class_new_test : (bits : Bits) (shows : List Show) (bit low high : ℕ)
    → class_at bits (shows ++ Test bit low high ∷ []) (length shows) ≡ (if bits bit then class_at bits shows high else class_at bits shows low)
class_new_test bits shows bit low high = class_last bits shows (Test bit low high)
