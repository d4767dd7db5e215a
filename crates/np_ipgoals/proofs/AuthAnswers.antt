-- Each authentication goal has an answer.
use Rattle.std.proofs.Common.{◌≡◌, ◌≢◌, ◌⊎◌, ℕ, Bool, true, false, length, Option, Some, None, refl, inl, inr}
use Rattle.std.proofs.lemmas.Bool.{cases_eq}
use Rattle.np_space.specs.Header.{is_valid_header, IsLeastOf}
use Rattle.np_space.specs.declared.headers.Header.{Header}
use Rattle.np_space.proofs.HeaderLemmas.{valid_widths}
use Rattle.np_pred.specs.Meaning.{pred_holds}
use Rattle.np_pred.specs.declared.predicate.Pred.{Pred}
use Rattle.np_net.specs.Path.{area_of, device_of}
use Rattle.np_net.specs.Plan.{Plan}
use Rattle.np_net.specs.declared.associations.InAction.{InAction}
use Rattle.np_net.specs.declared.associations.InAction.TheVariants as ins
use Rattle.np_flow.proofs.FindingLaws.{true_or_false, both_or_not}
use Rattle.np_space.proofs.Listing.{least_or_none}
use Rattle.np_ipsec.specs.Steps.{area_at, area_has}
use Rattle.np_ipsec.specs.Tables.{has_pop, in_action_of, is_sound, is_trusted_device}
use Rattle.np_ipsec.specs.declared.tables.Top.TheVariants as tops
use Rattle.np_ipsec.specs.Goals.{IsForeign}
use Rattle.np_auth.specs.Rules.{HasSourceToo, IsForgeable, LetsForged}
use Rattle.np_auth.specs.Passages.{ComesBefore}
use Rattle.np_auth.specs.Answers.{AreBothTrusted, HoldsA0, HoldsA1, HoldsA2, HoldsA2At, IsAnswer, IsFirstForged, IsFirstMark, IsFirstUntrusted}
use Rattle.np_auth.specs.declared.answers.Answer.{Answer}
use Rattle.np_auth.specs.declared.answers.Answer.TheVariants.{Yes, No}
use Rattle.np_auth.specs.declared.answers.Broken.TheVariants.{A0Area, A0Interface, A1, A2}
use Rattle.np_ipsec.specs.Searching.{IsFirst}
use Rattle.np_ipgoals.specs.Existence.{HaveAuthAnswers}
use Rattle.np_ipgoals.proofs.Searching.{Decided, decided_as, below_or_not, false_or_not, first_or_none, first_and_least, IsFirstWithLeast}

-- an action lets the packet pass or doesn't
bypass_or_not : (action : InAction) → Decided (action ≡ ins.Bypass)
bypass_or_not ins.Bypass = inl refl
bypass_or_not ins.Discard = inr (λ e. let both : ins.Discard ≡ ins.Bypass = e in cc)

-- two numbers are apart or aren't
apart_or_not : (n m : ℕ) → Decided (n ≢ m)
apart_or_not n m = elim (cases_eq n m) [ inl same ↦ inr (λ apart. apart same) | inr apart ↦ inl apart ]

module _ (net : Plan) (from here : ℕ) (pred : Pred) where
  -- ---- A0

  -- both areas are trusted, or one is the first that isn't
  trusted_or_first : AreBothTrusted net from here ⊎ ((a : ℕ) × IsFirstUntrusted net from here a)
  trusted_or_first = by (area_at net from).trusted (area_at net here).trusted refl refl
    where
      by : (x y : Bool) → (area_at net from).trusted ≡ x → (area_at net here).trusted ≡ y → AreBothTrusted net from here ⊎ ((a : ℕ) × IsFirstUntrusted net from here a)
      by true true first second = inl record { from_trusted = first; here_trusted = second }
      by true false first second = inr (here, inr (first, second, refl))
      by false y first second = inr (from, inl (first, refl))

  foreign_or_not : (i : ℕ) → Decided (IsForeign net i)
  foreign_or_not i =
      decided_as (λ all. record { within = all.0; inside = all.1.0; foreign = all.1.1 }) (λ is. (is.within, (is.inside, is.foreign)))
      (both_or_not (below_or_not i (length net.interfaces)) (both_or_not (true_or_false (area_at net (area_of net.interfaces i)).trusted) (false_or_not (is_trusted_device net (device_of net.interfaces i)))))

  first_foreign : ((i : ℕ) × IsFirst (IsForeign net) i) ⊎ ((i : ℕ) → IsForeign net i → ⊥)
  first_foreign = first_or_none (IsForeign net) foreign_or_not (length net.interfaces) (λ i is. is.within)

  -- ---- A1

  source_or_not : (a : ℕ) (h : Header) → Decided (HasSourceToo net from pred a h)
  source_or_not a h =
      decided_as (λ all. record { within = all.0; trusted = all.1.0; other = all.1.1.0; valid = all.1.1.1.0; meant = all.1.1.1.1.0; source = all.1.1.1.1.1 })
      (λ is. (is.within, (is.trusted, (is.other, (is.valid, (is.meant, is.source))))))
      (both_or_not (below_or_not a (length net.areas))
      (both_or_not (true_or_false (area_at net a).trusted)
      (both_or_not (apart_or_not a from)
      (both_or_not (true_or_false (is_valid_header h)) (both_or_not (true_or_false (pred_holds pred h)) (true_or_false (area_has net a h)))))))

  first_source : ((a : ℕ) × (h : Header) × IsFirstWithLeast (HasSourceToo net from pred) a h) ⊎ HoldsA1 net from pred
  first_source = first_and_least (HasSourceToo net from pred) source_or_not (λ a h is. is.valid) (length net.areas) (λ a h is. is.within)

  -- ---- A2

  forgeable_or_not : (i : ℕ) (mark : Option ℕ) → Decided (IsForgeable net i mark)
  forgeable_or_not i None = false_or_not (area_at net (area_of net.interfaces i)).trusted
  forgeable_or_not i (Some k) =
      decided_as (λ all. (all.0, all.1.0, all.1.1)) (λ is. (is.0, (is.1, is.2)))
      (both_or_not (below_or_not k (length net.sas)) (both_or_not (true_or_false (has_pop net i k)) (false_or_not (is_sound net k))))

  forged_or_not : (i : ℕ) (mark : Option ℕ) (h : Header) → Decided (LetsForged net pred i mark h)
  forged_or_not i mark h =
      decided_as (λ all. record { within = all.0; trusted = all.1.0; forgeable = all.1.1.0; valid = all.1.1.1.0; meant = all.1.1.1.1.0; passes = all.1.1.1.1.1 })
      (λ is. (is.within, (is.trusted, (is.forgeable, (is.valid, (is.meant, is.passes))))))
      (both_or_not (below_or_not i (length net.interfaces))
      (both_or_not (true_or_false (is_trusted_device net (device_of net.interfaces i)))
      (both_or_not (forgeable_or_not i mark)
      (both_or_not (true_or_false (is_valid_header h)) (both_or_not (true_or_false (pred_holds pred h)) (bypass_or_not (in_action_of net i (tops.Plain h) mark)))))))

  -- the first mark at an interface with which a packet passes that may be forged, or there is none
  abbrev Marked : ℕ → Type 0
  Marked i = (mark : Option ℕ) × (h : Header) × IsFirstMark net pred i mark h

  marked_none : (i : ℕ) (h : Header) → IsLeastOf (LetsForged net pred i None) h → Marked i
  marked_none i h least = (None, h, record { least = least; first = before })
    where
      before : (earlier : Option ℕ) (k : Header) → ComesBefore earlier None → LetsForged net pred i earlier k → ⊥
      before None k less forged = less
      before (Some n) k less forged = less

  marked_some : (i k : ℕ) (h : Header) → ((x : Header) → LetsForged net pred i None x → ⊥) → IsFirstWithLeast (λ n x. LetsForged net pred i (Some n) x) k h → Marked i
  marked_some i k h none found = (Some k, h, record { least = found.least; first = before })
    where
      before : (earlier : Option ℕ) (x : Header) → ComesBefore earlier (Some k) → LetsForged net pred i earlier x → ⊥
      before None x less forged = none x forged
      before (Some n) x less forged = found.first.first n less (x, forged)

  marked_nowhere : (i : ℕ) → ((h : Header) → LetsForged net pred i None h → ⊥) → ((n : ℕ) (h : Header) → LetsForged net pred i (Some n) h → ⊥) → HoldsA2At net pred i
  marked_nowhere i none some None h forged = none h forged
  marked_nowhere i none some (Some n) h forged = some n h forged

  first_mark : (i : ℕ) → Marked i ⊎ HoldsA2At net pred i
  first_mark i =
      elim (least_or_none (LetsForged net pred i None) (forged_or_not i None) (λ h is. valid_widths h is.valid)) [
        | inl found ↦ inl (marked_none i found.0 found.1)
        | inr none ↦
            elim (first_and_least (λ n h. LetsForged net pred i (Some n) h) (λ n h. forged_or_not i (Some n) h) (λ n h is. is.valid) (length net.sas) (λ n h is. is.forgeable.0)) [
              | inl found ↦ inl (marked_some i found.0 found.1 none found.2)
              | inr some ↦ inr (marked_nowhere i none some)
            ]
      ]

  -- some packet passes an interface that may be forged
  abbrev LetsSome : ℕ → Type 0
  LetsSome i = (mark : Option ℕ) × (h : Header) × LetsForged net pred i mark h

  some_or_not : (i : ℕ) → Decided (LetsSome i)
  some_or_not i = elim (first_mark i) [ inl found ↦ inl (found.0, found.1, found.2.least.has) | inr none ↦ inr (λ some. none some.0 some.1 some.2) ]

  forged_at : (i : ℕ) → IsFirst LetsSome i → (j : ℕ) × (mark : Option ℕ) × (h : Header) × IsFirstForged net pred j mark h
  forged_at i first = elim (first_mark i) [
    | inl found ↦ (i, found.0, found.1, record { marked = found.2; first = λ j other k less forged. first.first j less (other, k, forged) })
    | inr none ↦ absurd (none first.holds.0 first.holds.1 first.holds.2)
  ]

  first_forged : ((i : ℕ) × (mark : Option ℕ) × (h : Header) × IsFirstForged net pred i mark h) ⊎ HoldsA2 net pred
  first_forged =
      elim (first_or_none LetsSome some_or_not (length net.interfaces) (λ i some. some.2.within)) [
        | inl found ↦ inl (forged_at found.0 found.1)
        | inr none ↦ inr (λ i mark h forged. none i (mark, h, forged))
      ]

  -- ---- the answer

  abbrev Answered : Type 0
  Answered = (answer : Answer) × IsAnswer net from here pred answer

  -- where the first rules hold, the next one decides
  after_sources : HoldsA0 net from here → HoldsA1 net from pred → Answered
  after_sources own sources =
      elim first_forged [
        | inl found ↦ (No (A2 found.0 found.1 found.2), (own, sources, found.3))
        | inr none ↦ (Yes, record { from_trusted = own.areas.from_trusted; here_trusted = own.areas.here_trusted; own = own.own; sources = sources; discards = none })
      ]

  after_own : HoldsA0 net from here → Answered
  after_own own =
      elim first_source [
        | inl found ↦ (No (A1 found.0 found.1), (own, record { least = found.2.least; first = λ b k less has. found.2.first.first b less (k, has) }))
        | inr none ↦ after_sources own none
      ]

  after_areas : AreBothTrusted net from here → Answered
  after_areas areas =
      elim first_foreign [
        | inl found ↦ (No (A0Interface found.0), (areas, found.1))
        | inr none ↦ after_own record { areas = areas; own = none }
      ]

  answered : Answered
  answered = elim trusted_or_first [ inl areas ↦ after_areas areas | inr found ↦ (No (A0Area found.0), found.1) ]

-- each goal has an answer
pub have_auth_answers : HaveAuthAnswers
have_auth_answers net from here pred = answered net from here pred
