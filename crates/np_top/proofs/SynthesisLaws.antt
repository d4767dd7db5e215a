-- A network and its configurations have a report on their synthesis, and one alone; and on a chosen posture it is the text of a maximal one.
use Rattle.std.proofs.Common.{◌≡◌, ℕ, ◌*◌, ◌<◌, inl, inr, Bool, false, List, [], length, get_or, map, refl, arith, sym, ◌∙◌, ap, subst}
use Rattle.std.specs.List.{range_with_len}
use Rattle.std.proofs.lemmas.Bool.{cases_order}
use Rattle.std.proofs.lemmas.List.{ext_get_or, length-map, get_or-map}
use Rattle.std.proofs.lemmas.List.FromFn.{length-range_with_len, get_or-map-range_with_len}
use Rattle.np_space.specs.Header.{IsValid, zeros}
use Rattle.np_space.specs.Classes.{AreLeasts, IsAlike}
use Rattle.np_space.specs.declared.headers.Header.{Header}
use Rattle.np_space.proofs.ClassLaws.{leasts_are_unique}
use Rattle.np_acl_read.specs.declared.config.Config.{Config}
use Rattle.np_net.specs.Plan.{Plan}
use Rattle.np_net.specs.declared.paths.Path.{Path}
use Rattle.np_cut.specs.AppliedLists.{AppliedLists}
use Rattle.np_cut.specs.Applying.{applied_of, slot_lets}
use Rattle.np_cut.proofs.ApplyLaws.{applied_is}
use Rattle.np_goals.specs.Cases.{goal_at}
use Rattle.np_goals.specs.declared.verdicts.Verdict.TheVariants.{Violated}
use Rattle.np_goals.proofs.CaseLaws.{lets_alike, forbids_alike}
use Rattle.np_goals.proofs.ExistenceLaws.{have_leasts}
use Rattle.np_synth.specs.Choosing.{shut, IsChosen}
use Rattle.np_synth.specs.Dropping.{IsDropped, nothing}
use Rattle.np_synth.specs.Headers.{no_goal, forbidding, IsSynthesised, IsUnattained}
use Rattle.np_synth.specs.declared.chosen.Dropped.{Dropped}
use Rattle.np_synth.proofs.ChoosingLaws.{chosen_is_unique}
use Rattle.np_synth.proofs.ExistenceLaws.{have_syntheses}
use Rattle.np_synth.proofs.HeaderLaws.{synthesised_is_maximal, broken_of_breaks}
use Rattle.np_synth.proofs.SameLaws.{chosen_same, drop_same, drops_same}
use Rattle.np_synth.proofs.UniqueLaws.{dropped_are_unique}
use Rattle.np_report.specs.Synthesis.{chosen_text, unattainable_text}
use Rattle.np_top.specs.declared.status.Status.{Status}
use Rattle.np_top.specs.declared.status.Status.TheVariants.{Holds, Fails}
use Rattle.np_top.specs.Report.{cuts_of}
use Rattle.np_top.specs.Status.{IsReport}
use Rattle.np_top.specs.Synthesis.{AreShown, IsChosenReport, IsSynthesisReport, IsMaximalText}
use Rattle.np_top.proofs.OneReport.{Same, one_verdict}

-- ---- goals that can't be attained

module _ (net : Plan) (lets : ℕ → Header → Bool) where
  -- what crosses while the free slots are shut
  abbrev pub while_shut : ℕ → Header → Bool
  while_shut s h = shut net.free (λ t. lets t h) s

  -- a goal that is violated comes no sooner than the first that is
  no_sooner : (j k : ℕ) (x y : Header) (p q : Path) → IsUnattained net lets j x p → IsUnattained net lets k y q → j < k → ⊥
  no_sooner j k x y p q a b less = b.first j no_goal less x (a.violated no_goal).0.has

  -- so there is one first goal
  one_goal : (j k : ℕ) (x y : Header) (p q : Path) → IsUnattained net lets j x p → IsUnattained net lets k y q → j ≡ k
  one_goal j k x y p q a b =
      elim (cases_order j k) [
        | inl same ↦ same
        | inr apart ↦ elim apart [ inl less ↦ absurd (no_sooner j k x y p q a b less) | inr more ↦ absurd (no_sooner k j y x q p b a more) ]
      ]

  -- with one least header and one first path
  one_violation : (j k : ℕ) (x y : Header) (p q : Path) → j ≡ k → IsUnattained net lets j x p → IsUnattained net lets k y q → Violated x p ≡ Violated y q
  one_violation j k x y p q same a b =
      let there : IsUnattained net lets k x p = subst (λ g. IsUnattained net lets g x p) same a in
      one_verdict net.interfaces while_shut (goal_at net.goals no_goal k) (Violated x p) (Violated y q) (there.violated no_goal) (b.violated no_goal)

  -- what is said of them is the same
  one_unattainable_text : (j k : ℕ) (x y : Header) (p q : Path) → IsUnattained net lets j x p → IsUnattained net lets k y q → unattainable_text net j x p.hops ≡ unattainable_text net k y q.hops
  one_unattainable_text j k x y p q a b =
      let goal : j ≡ k = one_goal j k x y p q a b in
      let violation : Violated x p ≡ Violated y q = one_violation j k x y p q goal a b in
      let header : x ≡ y = cc in
      let path : p ≡ q = cc in
      λ i. unattainable_text net (goal i) (header i) (path i).hops

  -- and nothing is synthesised then: with the free slots shut the header breaks the goal
  not_both : (goal : ℕ) (header : Header) (path : Path) (leasts : List Header) (chosen : ℕ → Header → Bool) (drops : List Dropped) → IsUnattained net lets goal header path → IsSynthesised net lets leasts chosen drops → ⊥
  not_both goal header path leasts chosen drops un is =
      let breaks = (un.violated no_goal).0.has in
      is.attained header breaks.valid record { goal = goal; broken = broken_of_breaks net.interfaces net.goals while_shut goal no_goal header un.within breaks }

-- ---- one chosen posture

module _ (net : Plan) (lets : ℕ → Header → Bool) (leasts : List Header) (chosen taken : ℕ → Header → Bool) (drops others : List Dropped) (a : IsSynthesised net lets leasts chosen drops) (b : IsSynthesised net lets leasts taken others) where
  -- both let a valid header cross the same slots
  same_chosen : (slot : ℕ) (h : Header) → slot < 2 * length net.interfaces → IsValid h → chosen slot h ≡ taken slot h
  same_chosen slot h within valid =
      chosen_is_unique net.interfaces net.goals (forbidding net.goals h) net.free (λ s. lets s h) (λ s. chosen s h) (λ s. taken s h) (a.chosen_is h valid) (b.chosen_is h valid) slot within

  module _ (valid : (atom : ℕ) → atom < length leasts → IsValid (get_or leasts atom zeros)) where
    -- so they drop the same
    same_drops : drops ≡ others
    same_drops =
        dropped_are_unique net.interfaces net.goals net.free (length leasts) bad (λ atom s. taken s (get_or leasts atom zeros)) drops others
        (drops_same net.interfaces net.goals net.free (length leasts) bad bad (λ atom s. chosen s (get_or leasts atom zeros)) (λ atom s. taken s (get_or leasts atom zeros)) drops
        (λ atom below k within. refl) (λ atom below s within. same_chosen s (get_or leasts atom zeros) within (valid atom below)) a.dropped) b.dropped
      where
        bad : ℕ → ℕ → Bool
        bad = λ atom. forbidding net.goals (get_or leasts atom zeros)

    -- and the same of the least members cross each slot
    same_crossing : (slot : ℕ) → slot < 2 * length net.interfaces → map (chosen slot) leasts ≡ map (taken slot) leasts
    same_crossing slot within =
        ext_get_or false (map (chosen slot) leasts) (map (taken slot) leasts) (length-map leasts (chosen slot) ∙ sym (length-map leasts (taken slot)))
        (λ atom below.
        let here : atom < length leasts = omega (arith, below, length-map leasts (chosen slot)) in
        get_or-map (chosen slot) leasts atom zeros false here ∙ same_chosen slot (get_or leasts atom zeros) within (valid atom here) ∙ sym (get_or-map (taken slot) leasts atom zeros false here))

    same_sets : (sets more : List (List Bool)) → AreShown (2 * length net.interfaces) leasts chosen sets → AreShown (2 * length net.interfaces) leasts taken more → sets ≡ more
    same_sets sets more s t =
        ext_get_or [] sets more (s.each ∙ sym t.each)
        (λ slot below.
        let within : slot < 2 * length net.interfaces = omega (arith, below, s.each) in
        s.shown slot within ∙ same_crossing slot within ∙ sym (t.shown slot within))

    -- so what is said of them is the same
    same_text : (sets more : List (List Bool)) → AreShown (2 * length net.interfaces) leasts chosen sets → AreShown (2 * length net.interfaces) leasts taken more → chosen_text net leasts sets drops ≡ chosen_text net leasts more others
    same_text sets more s t =
        let there : sets ≡ more = same_sets sets more s t in
        λ i. chosen_text net leasts (there i) (same_drops i)

one_chosen_text : (net : Plan) (configs : List Config) (s t : List ℕ) (x y : Status) → IsChosenReport net configs s x → IsChosenReport net configs t y → s ≡ t
one_chosen_text net configs s t x y a b =
    a.text_is
    ∙ same_text net lets a.leasts a.chosen b.chosen a.drops b.drops a.synthesised there (λ atom below. (a.least.each atom zeros below).valid) a.sets b.sets a.shown shown
    ∙ ap (λ leasts. chosen_text net leasts b.sets b.drops) same
    ∙ sym b.text_is
  where
    lets : ℕ → Header → Bool
    lets = slot_lets net.interfaces configs

    same : a.leasts ≡ b.leasts
    same = leasts_are_unique (cuts_of net configs) a.leasts b.leasts a.least b.least

    there : IsSynthesised net lets a.leasts b.chosen b.drops
    there = subst (λ leasts. IsSynthesised net lets leasts b.chosen b.drops) (sym same) b.synthesised

    shown : AreShown (2 * length net.interfaces) a.leasts b.chosen b.sets
    shown = subst (λ leasts. AreShown (2 * length net.interfaces) leasts b.chosen b.sets) (sym same) b.shown

-- ---- one report

pub one_synthesis_report : (net : Plan) (configs : List Config) (s t : List ℕ) (x y : Status) → IsSynthesisReport net configs s x → IsSynthesisReport net configs t y → Same s x t y
one_synthesis_report net configs s t x y (inl a) (inl b) = (
  a.text_is ∙ one_unattainable_text net (slot_lets net.interfaces configs) a.goal b.goal a.header b.header a.path b.path a.unattained b.unattained ∙ sym b.text_is,
  a.status_is ∙ sym b.status_is,
)
one_synthesis_report net configs s t x y (inr a) (inr b) = (one_chosen_text net configs s t x y a b, a.status_is ∙ sym b.status_is)
one_synthesis_report net configs s t x y (inl a) (inr b) =
    absurd (not_both net (slot_lets net.interfaces configs) a.goal a.header a.path b.leasts b.chosen b.drops a.unattained b.synthesised)
one_synthesis_report net configs s t x y (inr a) (inl b) =
    absurd (not_both net (slot_lets net.interfaces configs) b.goal b.header b.path a.leasts a.chosen a.drops b.unattained a.synthesised)

-- it is a report on goals, or on a posture
pub synthesis_reported : (net : Plan) (configs : List Config) (text : List ℕ) (status : Status) → IsSynthesisReport net configs text status → IsReport status
synthesis_reported net configs text status (inl a) = subst IsReport (sym a.status_is) tt
synthesis_reported net configs text status (inr a) = subst IsReport (sym a.status_is) tt

-- ---- there is one

-- for each slot which of the headers cross it
shown_sets : (slots : ℕ) (leasts : List Header) (chosen : ℕ → Header → Bool) → AreShown slots leasts chosen (map (λ slot. map (chosen slot) leasts) (range_with_len 0 slots))
shown_sets slots leasts chosen =
    record {
      each = length-map (range_with_len 0 slots) (λ slot. map (chosen slot) leasts) ∙ length-range_with_len 0 slots;
      shown = λ slot within. get_or-map-range_with_len (λ s. map (chosen s) leasts) 0 slots slot slot [] within (omega arith);
    }

module _ (net : Plan) (configs : List Config) where
  abbrev There : Type 0
  There = (text : List ℕ) × (status : Status) × IsSynthesisReport net configs text status

  denied : (goal : ℕ) (header : Header) (path : Path) → IsUnattained net (slot_lets net.interfaces configs) goal header path → There
  denied goal header path un = (
    unattainable_text net goal header path.hops,
    Fails,
    inl record { goal = goal; header = header; path = path; unattained = un; text_is = refl; status_is = refl },
  )

  chosen_so : (leasts : List Header) → AreLeasts (cuts_of net configs) leasts → (chosen : ℕ → Header → Bool) (drops : List Dropped) → IsSynthesised net (slot_lets net.interfaces configs) leasts chosen drops → There
  chosen_so leasts least chosen drops is =
      let sets : List (List Bool) = map (λ slot. map (chosen slot) leasts) (range_with_len 0 (2 * length net.interfaces)) in (
        chosen_text net leasts sets drops,
        Holds,
        inr record {
          leasts = leasts;
          least = least;
          chosen = chosen;
          drops = drops;
          synthesised = is;
          sets = sets;
          shown = shown_sets (2 * length net.interfaces) leasts chosen;
          text_is = refl;
          status_is = refl;
        },
      )

  pub a_synthesis_report : There
  a_synthesis_report =
      let leasts = have_leasts (cuts_of net configs) in
      elim (have_syntheses net (slot_lets net.interfaces configs) leasts.0) [
        | inl un ↦ denied un.0 un.1 un.2 un.3
        | inr is ↦ chosen_so leasts.0 leasts.1 is.0 is.1 is.2
      ]

-- ---- the text of a maximal posture

module _ (net : Plan) (configs : List Config) (leasts : List Header) (chosen : ℕ → Header → Bool) (drops : List Dropped) (is : IsSynthesised net (slot_lets net.interfaces configs) leasts chosen drops)
    (h k : Header) (valid : IsValid h) (too : IsValid k) (alike : IsAlike (cuts_of net configs) h k) where
  abbrev lets : ℕ → Header → Bool
  lets = slot_lets net.interfaces configs

  abbrev applied : AppliedLists
  applied = applied_of net.interfaces configs

  -- the configurations let both cross the same slots
  same_lets : (s : ℕ) → s < 2 * length net.interfaces → lets s h ≡ lets s k
  same_lets s below =
      sym (applied_is net.interfaces configs s below h) ∙ lets_alike applied net.goals h k valid too alike s ∙ applied_is net.interfaces configs s below k

  -- the same goals forbid both
  same_goals : (goal : ℕ) → goal < length net.goals → forbidding net.goals h goal ≡ forbidding net.goals k goal
  same_goals goal below = forbids_alike applied net.goals h k valid too alike goal no_goal below

  as_other : IsChosen net.interfaces net.goals (forbidding net.goals k) net.free (λ s. lets s k) (λ s. chosen s h)
  as_other =
      chosen_same net.interfaces net.goals (forbidding net.goals h) (forbidding net.goals k) net.free same_goals
      (λ s. lets s h) (λ s. lets s k) (λ s. chosen s h) (λ s. chosen s h) same_lets (λ s below. refl) (is.chosen_is h valid)

  -- so alike valid headers cross the same slots, where nothing more is known than what the cuts say
  same_for_alike : (slot : ℕ) → slot < 2 * length net.interfaces → chosen slot h ≡ chosen slot k
  same_for_alike slot within =
      chosen_is_unique net.interfaces net.goals (forbidding net.goals k) net.free (λ s. lets s k) (λ s. chosen s h) (λ s. chosen s k) as_other (is.chosen_is k too) slot within

  -- and are dropped for the same reason
  same_reason : (slot goal : ℕ) (hops : List (ℕ × ℕ)) → IsDropped net.interfaces net.goals (forbidding net.goals h) net.free (λ s. chosen s h) slot goal hops
      → IsDropped net.interfaces net.goals (forbidding net.goals k) net.free (λ s. chosen s k) slot goal hops
  same_reason slot goal hops reason =
      drop_same net.interfaces net.goals (forbidding net.goals h) (forbidding net.goals k) net.free same_goals (λ s. chosen s h) (λ s. chosen s k) same_for_alike slot goal hops reason

-- a report on a chosen posture is the text of a maximal one
pub chosen_is_maximal_text : (net : Plan) (configs : List Config) (text : List ℕ) (status : Status) → IsChosenReport net configs text status → IsMaximalText net configs text
chosen_is_maximal_text net configs text status is =
    record {
      leasts = is.leasts;
      least = is.least;
      chosen = is.chosen;
      fixed = λ slot h within not_free valid. (is.synthesised.chosen_is h valid).fixed slot within not_free;
      maximal = synthesised_is_maximal net (slot_lets net.interfaces configs) is.leasts is.chosen is.drops is.synthesised;
      atoms = λ slot h k within valid too alike. same_for_alike net configs is.leasts is.chosen is.drops is.synthesised h k valid too alike slot within;
      drops = is.drops;
      reasons = λ n h below valid alike.
          let drop : Dropped = get_or is.drops n nothing in
          let each = is.synthesised.dropped.each n below in
          same_reason net configs is.leasts is.chosen is.drops is.synthesised (get_or is.leasts drop.atom zeros) h (is.least.each drop.atom zeros each.0).valid valid alike drop.slot drop.goal drop.path.hops each.1;
      sets = is.sets;
      shown = is.shown;
      text_is = is.text_is;
    }

-- and so is a report with status 0, since goals that can't be attained have another
pub holds_is_maximal : (net : Plan) (configs : List Config) (text : List ℕ) → IsSynthesisReport net configs text Holds → IsMaximalText net configs text
holds_is_maximal net configs text (inl a) = let differ : Holds ≡ Fails = a.status_is in absurd (cc)
holds_is_maximal net configs text (inr a) = chosen_is_maximal_text net configs text Holds a
