-- What is found among the least headers is the least header that breaks a rule at its place.
use Rattle.std.proofs.Common.{◌≡◌, ◌≢◌, ◌∙◌, ℕ, ◌<◌, Bool, true, false, ◌&&◌, List, length, get_or, Option, Some, None, refl, sym, ap, subst, inl, inr}
use Rattle.std.specs.Prelude.{MatchOption}
use Rattle.np_space.specs.Classes.{IsAlike}
use Rattle.np_space.specs.Header.{IsLeastOf, IsValid, zeros}
use Rattle.np_space.specs.declared.headers.Header.{Header}
use Rattle.np_pred.specs.Meaning.{pred_holds}
use Rattle.np_pred.specs.declared.predicate.Pred.{Pred}
use Rattle.np_atomset.specs.AtomSet.{has_member}
use Rattle.np_net.specs.Plan.{Plan}
use Rattle.np_net.specs.declared.associations.InAction.{InAction}
use Rattle.np_net.specs.declared.associations.InAction.TheVariants as ins
use Rattle.np_ipsec.specs.Alike.{AreLeastsFor, KeepsAlike}
use Rattle.np_ipsec.specs.Searching.{Finds, FindsListed}
use Rattle.np_ipsec.specs.Steps.{area_at, area_has}
use Rattle.np_ipsec.specs.Tables.{in_action_of}
use Rattle.np_ipsec.specs.declared.tables.Top.TheVariants as tops
use Rattle.np_ipsec.proofs.AlikeLaws.{in_alike}
use Rattle.np_ipsec.proofs.LeastLaws.{alike_at, found_least}
use Rattle.np_auth.specs.Answers.{HoldsA2, IsFirstForged}
use Rattle.np_auth.specs.Passages.{ArePassages, ArePassing, HasPassage, IsDoubtful, StandsBefore, is_bypass, passage_at}
use Rattle.np_auth.specs.Rules.{HasSourceToo, LetsForged}
use Rattle.np_auth.specs.Searches.{FindsPassage, IsFirstPassage, IsMeantIn, IsSentAt, NonePasses}
use Rattle.np_auth.specs.declared.marking.Passage.{Passage}
use Rattle.np_auth.specs.declared.marking.Passages.{Passages}
use Rattle.np_auth.proofs.PassageLaws.{listed_before}

-- ---- tests

-- both tests are passed
both_pass : (a b : Bool) → (a && b) ≡ true → (a ≡ true) × (b ≡ true)
both_pass true b both = (refl, both)
both_pass false b both = absurd (cc)

-- an action that passes the test is the bypass
bypass_from : (action : InAction) → is_bypass action ≡ true → action ≡ ins.Bypass
bypass_from ins.Bypass passes = refl
bypass_from ins.Discard passes = absurd (cc)

module _ (net : Plan) (pred : Pred) (meant : KeepsAlike net pred) (leasts : List Header) (are : AreLeastsFor net leasts) where
  -- the header at a place
  abbrev at : ℕ → Header
  at n = get_or leasts n zeros

  -- a listed header is valid
  valid_at : (n : ℕ) → n < length leasts → IsValid (at n)
  valid_at n lt = (alike_at are.tests leasts are.least n lt).valid

  -- ---- A1

  module _ (from a : ℕ) (within : a < length net.areas) (trusted : (area_at net a).trusted ≡ true) (other : a ≢ from) where
    source_alike : (h k : Header) → IsValid h → IsValid k → IsAlike are.tests h k → HasSourceToo net from pred a k → HasSourceToo net from pred a h
    source_alike h k valid other_valid alike has =
        let taken = are.respected h k valid other_valid alike in
        record { within = within; trusted = trusted; other = other; valid = valid; meant = meant h k taken ∙ has.meant; source = taken.sources a within ∙ has.source }

    source_there : (n : ℕ) → n < length leasts → HasSourceToo net from pred a (at n) → IsSentAt net pred a leasts n
    source_there n lt has = let holds = has.meant in let source = has.source in cc

    source_back : (n : ℕ) → n < length leasts → IsSentAt net pred a leasts n → HasSourceToo net from pred a (at n)
    source_back n lt sent =
        let both = both_pass (pred_holds pred (at n)) (area_has net a (at n)) sent in
        record { within = within; trusted = trusted; other = other; valid = valid_at n lt; meant = both.0; source = both.1 }

    -- the least header is found whose source the area has too
    pub source_found : (found : Option Header) → FindsListed (IsSentAt net pred a leasts) leasts found → Finds (HasSourceToo net from pred a) found
    source_found found listed =
        found_least are.tests leasts are.least (HasSourceToo net from pred a) (λ h has. has.valid) source_alike (IsSentAt net pred a leasts) source_there source_back found listed

  -- ---- A2, at one passage

  module _ (i : ℕ) (mark : Option ℕ) (set : List Bool) (passing : ArePassing net leasts i mark set) where
    forged_alike : (h k : Header) → IsValid h → IsValid k → IsAlike are.tests h k → LetsForged net pred i mark k → LetsForged net pred i mark h
    forged_alike h k valid other_valid alike forged =
        let taken = are.respected h k valid other_valid alike in
        record {
          within = forged.within;
          trusted = forged.trusted;
          forgeable = forged.forgeable;
          valid = valid;
          meant = meant h k taken ∙ forged.meant;
          passes = in_alike net h k taken i forged.within mark ∙ forged.passes;
        }

    -- a listed header that passes is in the set
    pub forged_there : (n : ℕ) → n < length leasts → LetsForged net pred i mark (at n) → IsMeantIn set leasts pred n
    forged_there n lt forged =
        let holds : pred_holds pred (at n) ≡ true = forged.meant in
        let member : has_member set n ≡ true = passing.exact n lt ∙ ap is_bypass forged.passes in
        λ j. member j && holds j

    forged_back : IsDoubtful net i mark → (n : ℕ) → n < length leasts → IsMeantIn set leasts pred n → LetsForged net pred i mark (at n)
    forged_back doubtful n lt meant_in =
        let both = both_pass (has_member set n) (pred_holds pred (at n)) meant_in in
        record {
          within = doubtful.within;
          trusted = doubtful.trusted;
          forgeable = doubtful.forgeable;
          valid = valid_at n lt;
          meant = both.1;
          passes = bypass_from (in_action_of net i (tops.Plain (at n)) mark) (sym (passing.exact n lt) ∙ both.0);
        }

    -- the first listed header is the least of all that pass, and where there is none, none passes
    pub forged_found : IsDoubtful net i mark → (found : Option Header) → FindsListed (IsMeantIn set leasts pred) leasts found → Finds (LetsForged net pred i mark) found
    forged_found doubtful found listed =
        found_least are.tests leasts are.least (LetsForged net pred i mark) (λ h forged. forged.valid) forged_alike (IsMeantIn set leasts pred) forged_there (forged_back doubtful) found listed

  -- ---- A2, at all of them

  module _ (passages : Passages) (all : ArePassages net leasts passages) where
    abbrev passage : ℕ → Passage
    passage n = passage_at passages.list n

    -- where a packet passes that may be forged, there is a passage
    doubtful_at : (i : ℕ) (mark : Option ℕ) (h : Header) → LetsForged net pred i mark h → IsDoubtful net i mark
    doubtful_at i mark h forged = record { within = forged.within; trusted = forged.trusted; forgeable = forged.forgeable }

    -- none passes one of the first passages where no listed header does
    none_at : (end n : ℕ) → NonePasses passages.list leasts pred end → n < end → n < length passages.list → (h : Header) → LetsForged net pred (passage n).interface (passage n).mark h → ⊥
    none_at end n none lt within h forged =
        let is = all.each n within in
        forged_found (passage n).interface (passage n).mark (passage n).passing is.passing is.doubtful None (λ k listed meant_in. none n lt k listed meant_in) h forged

    -- so where none passes at the passages before an end, none passes an interface with a mark of which the passage is before it
    none_listed : (end i : ℕ) (mark : Option ℕ) → NonePasses passages.list leasts pred end → (has : HasPassage passages.list i mark) → has.place < end → (h : Header) → LetsForged net pred i mark h → ⊥
    none_listed end i mark none has lt h forged =
        none_at end has.place none lt has.within h
        (subst (λ m. LetsForged net pred (passage has.place).interface m h) (sym has.mark_is) (subst (λ k. LetsForged net pred k mark h) (sym has.interface) forged))

    module _ (i : ℕ) (mark : Option ℕ) (h : Header) (first : IsFirstPassage passages.list leasts pred i mark h) where
      -- none passes an interface with a mark that stands before those of the first passage
      none_before : (j : ℕ) (other : Option ℕ) (k : Header) → StandsBefore j other i mark → LetsForged net pred j other k → ⊥
      none_before j other k before forged =
          let has = all.all j other (doubtful_at j other k forged) in
          let stands : StandsBefore j other (passage first.place).interface (passage first.place).mark =
          subst (λ m. StandsBefore j other (passage first.place).interface m) first.mark_is (subst (λ n. StandsBefore j other n mark) first.interface before) in
          none_listed first.place j other first.earlier has (listed_before net leasts passages all first.place j other first.within has stands) k forged

      -- there the least header is found
      least_there : IsLeastOf (LetsForged net pred i mark) h
      least_there =
          let is = all.each first.place first.within in
          let least : IsLeastOf (LetsForged net pred (passage first.place).interface (passage first.place).mark) h =
          forged_found (passage first.place).interface (passage first.place).mark (passage first.place).passing is.passing is.doubtful (Some h) first.listed in
          subst (λ m. IsLeastOf (LetsForged net pred i m) h) (sym first.mark_is)
          (subst (λ n. IsLeastOf (LetsForged net pred n (passage first.place).mark) h) (sym first.interface) least)

      first_forged : IsFirstForged net pred i mark h
      first_forged = record {
        marked = record { least = least_there; first = λ earlier k before forged. none_before i earlier k (inr (refl, before)) forged };
        first = λ j other k before forged. none_before j other k (inl before) forged;
      }

    -- the first passage where a packet of the predicate passes breaks the rule first, and where there is none, the rule holds
    pub passage_found : (found : Option (ℕ × Option ℕ × Header)) → FindsPassage passages.list leasts pred found → MatchOption found (HoldsA2 net pred) (λ found. IsFirstForged net pred found.0 found.1 found.2)
    passage_found None none = λ i mark h forged. (let has = all.all i mark (doubtful_at i mark h forged) in none_listed (length passages.list) i mark none has has.within h forged)
    passage_found (Some found) first = first_forged found.0 found.1 found.2 first
