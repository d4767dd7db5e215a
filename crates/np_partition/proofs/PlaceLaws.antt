-- Places while a diagram is built: what is kept of the earlier ones, and what a new one says.
use Rattle.std.proofs.Common.{◌≡◌, ℕ, ◌<◌, Bool, true, false, List, [], ◌∷◌, ◌++◌, length, sym, ◌∙◌, subst, arith, if◌then◌else◌}
use Rattle.std.proofs.lemmas.List.{length-append}
use Rattle.np_partition.specs.declared.shows.Show.{Show}
use Rattle.np_partition.specs.declared.shows.Show.TheVariants.{Class, Test}
use Rattle.np_partition.specs.Diagram.{class_at, show_at, bit_of, IsDiagram}
use Rattle.np_partition.specs.Places.{KeepsPlaces, StartsAt, IsPlaceOfClass, Chooses, IsSplit}
use Rattle.np_partition.proofs.DiagramLaws.{class_kept, class_last, class_new_test, bit_kept, show_last, class_chosen, ordered_test}

-- ---- keeping

pub keeps_places_chained : (first next last : List Show) → KeepsPlaces first next → KeepsPlaces next last → KeepsPlaces first last
keeps_places_chained first next last a b = record {
  there = λ at h. b.there at (a.there at h);
  bit = λ at h. b.bit at (a.there at h) ∙ a.bit at h;
  same = λ at h bits. b.same at (a.there at h) bits ∙ a.same at h bits;
}

keeps_places_before : (shows more : List Show) → KeepsPlaces shows (shows ++ more)
keeps_places_before shows more = record {
  there = λ at h. omega (arith, h, length-append shows more);
  bit = λ at h. bit_kept shows more at h;
  same = λ at h bits. class_kept bits shows more at h;
}

-- ---- one place more

-- a list to which one place is added
pub record IsAdded (old new : List Show) (show : Show) (at : ℕ) : Type 0 where
  pub list : new ≡ old ++ show ∷ []
  pub place : at ≡ length old

added_there : (old new : List Show) (show : Show) (at : ℕ) → IsAdded old new show at → at < length new
added_there old new show at a = rw (a.list, a.place) (omega (arith, length-append old (show ∷ [])))

pub added_kept : (old new : List Show) (show : Show) (at : ℕ) → IsAdded old new show at → KeepsPlaces old new
added_kept old new show at a = subst (λ shows. KeepsPlaces old shows) (sym a.list) (keeps_places_before old (show ∷ []))

added_starts : (old new : List Show) (show : Show) (at : ℕ) → IsAdded old new show at → StartsAt new (bit_of show) at
added_starts old new show at a = record { there = added_there old new show at a; from = rw (a.list, a.place, show_last old show) (omega arith) }

-- a class
pub added_class : (old new : List Show) (n at : ℕ) → IsAdded old new (Class n) at → IsPlaceOfClass new n at
added_class old new n at a = record {
  starts = added_starts old new (Class n) at a;
  leads = λ bits. rw (a.list, a.place) (class_last bits old (Class n));
}

-- a test
pub added_test : (old new : List Show) (bit low high at : ℕ) → IsAdded old new (Test bit low high) at → low < length old → high < length old → Chooses new bit low high at
added_test old new bit low high at a low_there high_there bits =
    rw (a.list, a.place) (class_new_test bits old bit low high)
    ∙ by (bits bit)
  where
    kept : KeepsPlaces old new
    kept = added_kept old new (Test bit low high) at a

    by : (b : Bool) → (if b then class_at bits old high else class_at bits old low) ≡ (if b then class_at bits new high else class_at bits new low)
    by true = sym (kept.same high high_there bits)
    by false = sym (kept.same low low_there bits)

-- ---- splitting

-- a test splits its place
pub split_at_test : (shows : List Show) (at bit low high : ℕ) → IsDiagram shows → at < length shows → show_at shows at ≡ Test bit low high → IsSplit shows bit low high at
split_at_test shows at bit low high d there e =
    let o = ordered_test shows d at bit low high there e in
    record {
      low_starts = record { there = omega (arith, o.low_before, there); from = omega (arith, o.low_greater) };
      high_starts = record { there = omega (arith, o.high_before, there); from = omega (arith, o.high_greater) };
      chooses = λ bits. class_chosen shows d bits at bit low high there e;
    }
