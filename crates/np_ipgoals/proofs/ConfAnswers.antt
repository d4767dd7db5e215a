-- Each confidentiality goal has an answer.
use Rattle.std.proofs.Common.{◌≡◌, ◌⊎◌, ℕ, ◌<◌, Bool, true, false, List, length, refl, inl, inr}
use Rattle.np_space.specs.declared.headers.Header.{Header}
use Rattle.np_pred.specs.declared.predicate.Pred.{Pred}
use Rattle.np_net.specs.Path.{area_of, device_of}
use Rattle.np_net.specs.Plan.{Plan}
use Rattle.np_net.specs.declared.associations.OutAction.{OutAction}
use Rattle.np_net.specs.declared.associations.OutAction.TheVariants as outs
use Rattle.np_flow.proofs.FindingLaws.{true_or_false, both_or_not}
use Rattle.np_ipsec.specs.Steps.{area_at}
use Rattle.np_ipsec.specs.Tables.{is_trusted_device, out_action_of}
use Rattle.np_ipsec.specs.declared.tables.Top.TheVariants as tops
use Rattle.np_ipsec.specs.Goals.{IsForeign}
use Rattle.np_ipsec.specs.Searching.{IsFirst}
use Rattle.np_conf.specs.Rules.{IsReadable, IsWayOut, LetsOutBare, LetsOutUnder}
use Rattle.np_conf.specs.Sets.{IsReadableSet, has_sa}
use Rattle.np_conf.specs.Answers.{IsAnswer, KeepsBare, KeepsInside, LetsSomeUnder}
use Rattle.np_conf.specs.declared.answers.Answer.{Answer}
use Rattle.np_conf.specs.declared.answers.Answer.TheVariants.{Yes, No}
use Rattle.np_conf.specs.declared.answers.Broken.TheVariants.{K0Area, K0Interface, K1, K2}
use Rattle.np_ipgoals.specs.Existence.{HaveConfAnswers}
use Rattle.np_ipgoals.proofs.Searching.{Decided, decided_as, below_or_not, false_or_not, first_or_none, some_or_none, first_and_least, IsFirstWithLeast}
use Rattle.np_ipgoals.proofs.ReadableSets.{has_within, have_readable_set, interface_or_not, own_or_not}

-- a packet goes on as it is or doesn't
bypass_or_not : (action : OutAction) → Decided (action ≡ outs.Bypass)
bypass_or_not (outs.Protect k) = inr (λ e. let both : outs.Protect k ≡ outs.Bypass = e in cc)
bypass_or_not outs.Bypass = inl refl
bypass_or_not outs.Discard = inr (λ e. let both : outs.Discard ≡ outs.Bypass = e in cc)

module _ (net : Plan) (from : ℕ) (pred : Pred) where
  -- ---- K0

  foreign_or_not : (i : ℕ) → Decided (IsForeign net i)
  foreign_or_not i =
      decided_as (λ all. record { within = all.0; inside = all.1.0; foreign = all.1.1 }) (λ is. (is.within, (is.inside, is.foreign)))
      (both_or_not (below_or_not i (length net.interfaces)) (both_or_not (true_or_false (area_at net (area_of net.interfaces i)).trusted) (false_or_not (is_trusted_device net (device_of net.interfaces i)))))

  first_foreign : ((i : ℕ) × IsFirst (IsForeign net) i) ⊎ ((i : ℕ) → IsForeign net i → ⊥)
  first_foreign = first_or_none (IsForeign net) foreign_or_not (length net.interfaces) (λ i is. is.within)

  -- ---- K1

  way_or_not : (i : ℕ) → Decided (IsWayOut net i)
  way_or_not i =
      decided_as (λ all. record { at = all.0; outside = all.1 }) (λ is. (is.at, is.outside))
      (both_or_not (interface_or_not net i) (false_or_not (area_at net (area_of net.interfaces i)).trusted))

  bare_or_not : (i : ℕ) (h : Header) → Decided (LetsOutBare net from pred i h)
  bare_or_not i h =
      decided_as (λ all. record { way = all.0; own = all.1.0; passes = all.1.1 }) (λ is. (is.way, (is.own, is.passes)))
      (both_or_not (way_or_not i) (both_or_not (own_or_not net from pred h) (bypass_or_not (out_action_of net i (tops.Plain h)))))

  first_bare : ((i : ℕ) × (h : Header) × IsFirstWithLeast (LetsOutBare net from pred) i h) ⊎ KeepsBare net from pred
  first_bare = first_and_least (LetsOutBare net from pred) bare_or_not (λ i h is. is.own.valid) (length net.interfaces) (λ i h is. is.way.at.within)

  -- ---- K2

  -- the first interface where a packet goes out under an association with which it may be readable, and there the first such association
  record IsFirstUnder (i k : ℕ) : Type 0 where
    first : IsFirst (LetsSomeUnder net from pred) i
    least : IsFirst (LetsOutUnder net from pred i) k

  module _ (set : List Bool) (is : IsReadableSet net from pred set) where
    readable_or_not : (k : ℕ) → Decided (IsReadable net from pred k)
    readable_or_not k = decided_as (is.exact k).0 (is.exact k).1 (true_or_false (has_sa set k))

    under_or_not : (i k : ℕ) → Decided (LetsOutUnder net from pred i k)
    under_or_not i k =
        decided_as (λ all. record { way = all.0; readable = all.1.0; passes = all.1.1 }) (λ lets. (lets.way, (lets.readable, lets.passes)))
        (both_or_not (way_or_not i) (both_or_not (readable_or_not k) (bypass_or_not (out_action_of net i (tops.Under k)))))

    under_within : (i k : ℕ) → LetsOutUnder net from pred i k → k < length set
    under_within i k lets = has_within set k ((is.exact k).1 lets.readable)

    some_under : (i : ℕ) → Decided (LetsSomeUnder net from pred i)
    some_under i = some_or_none (LetsOutUnder net from pred i) (under_or_not i) (length set) (under_within i)

    under_at : (i : ℕ) → IsFirst (LetsSomeUnder net from pred) i → (j : ℕ) × (k : ℕ) × IsFirstUnder j k
    under_at i first = elim (first_or_none (LetsOutUnder net from pred i) (under_or_not i) (length set) (under_within i)) [
      | inl found ↦ (i, found.0, record { first = first; least = found.1 })
      | inr none ↦ absurd (none first.holds.0 first.holds.1)
    ]

    under_of : ((i : ℕ) × (k : ℕ) × IsFirstUnder i k) ⊎ ((i k : ℕ) → LetsOutUnder net from pred i k → ⊥)
    under_of = elim (first_or_none (LetsSomeUnder net from pred) some_under (length net.interfaces) (λ i some. some.1.way.at.within)) [
      | inl found ↦ inl (under_at found.0 found.1)
      | inr none ↦ inr (λ i k lets. none i (k, lets))
    ]

  first_under : ((i : ℕ) × (k : ℕ) × IsFirstUnder i k) ⊎ ((i k : ℕ) → LetsOutUnder net from pred i k → ⊥)
  first_under = let readable = have_readable_set net from pred in under_of readable.0 readable.1

  -- ---- the answer

  abbrev Answered : Type 0
  Answered = (answer : Answer) × IsAnswer net from pred answer

  -- where the first rules hold, the next one decides
  after_bare : KeepsInside net from → KeepsBare net from pred → Answered
  after_bare inside bare =
      elim first_under [
        | inl found ↦ (No (K2 found.0 found.1), record { inside = inside; bare = bare; first = found.2.first; least = found.2.least })
        | inr none ↦ (Yes, record { from_trusted = inside.from_trusted; own = inside.own; bare = bare; under = none })
      ]

  after_inside : KeepsInside net from → Answered
  after_inside inside =
      elim first_bare [
        | inl found ↦ (No (K1 found.0 found.1), record { inside = inside; first = found.2.first; least = found.2.least })
        | inr none ↦ after_bare inside none
      ]

  after_area : (area_at net from).trusted ≡ true → Answered
  after_area trusted =
      elim first_foreign [
        | inl found ↦ (No (K0Interface found.0), record { from_trusted = trusted; first = found.1 })
        | inr none ↦ after_inside record { from_trusted = trusted; own = none }
      ]

  answered : Answered
  answered = by (area_at net from).trusted refl
    where
      by : (b : Bool) → (area_at net from).trusted ≡ b → Answered
      by true trusted = after_area trusted
      by false untrusted = (No (K0Area from), record { same = refl; untrusted = untrusted })

-- each goal has an answer
pub have_conf_answers : HaveConfAnswers
have_conf_answers net from pred = answered net from pred
