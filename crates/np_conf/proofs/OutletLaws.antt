-- What is found among the least headers of outlets is the least own header that goes out bare.
use Rattle.std.proofs.Common.{◌≡◌, ◌∙◌, ℕ, ◌<◌, ◌&&◌, Bool, true, false, List, length, get_or, Option, Some, None, IfNone, IfSome, inl, inr, refl, sym, ap, subst, arith}
use Rattle.std.proofs.lemmas.Bool.{cases_lt}
use Rattle.np_space.specs.Classes.{IsAlike}
use Rattle.np_space.specs.Header.{IsLeastOf, IsValid, zeros}
use Rattle.np_space.specs.declared.headers.Header.{Header}
use Rattle.np_pred.specs.Meaning.{pred_holds}
use Rattle.np_pred.specs.declared.predicate.Pred.{Pred}
use Rattle.np_atomset.specs.AtomSet.{has_member}
use Rattle.np_net.specs.Plan.{Plan}
use Rattle.np_net.specs.declared.associations.OutAction.{OutAction}
use Rattle.np_net.specs.declared.associations.OutAction.TheVariants as outs
use Rattle.np_ipsec.specs.Alike.{AreLeastsFor, AreTakenAlike, KeepsAlike}
use Rattle.np_ipsec.specs.Searching.{Finds, FindsListed, IsFirst}
use Rattle.np_ipsec.specs.Steps.{area_has}
use Rattle.np_ipsec.specs.Tables.{out_action_of}
use Rattle.np_ipsec.specs.declared.tables.Top.TheVariants as tops
use Rattle.np_ipsec.proofs.AlikeLaws.{out_alike}
use Rattle.np_ipsec.proofs.LeastLaws.{alike_at, found_least}
use Rattle.np_conf.specs.Answers.{LetsSomeBare}
use Rattle.np_conf.specs.Outlets.{AreBare, AreWays, HasOutlet, is_bypass, outlet_at}
use Rattle.np_conf.specs.Rules.{IsOwn, IsWayOut, LetsOutBare}
use Rattle.np_conf.specs.Sets.{FindsOutlet, IsFirstOutlet, IsOwnIn, NoneGoesOut, is_own}
use Rattle.np_conf.specs.declared.leaving.Outlet.{Outlet}

-- both parts of a conjunction
pub both_true : (a b : Bool) → (a && b) ≡ true → (a ≡ true) × (b ≡ true)
both_true true true e = (refl, refl)
both_true true false e = absurd (cc)
both_true false b e = absurd (cc)

-- an action that is bypass
is_bypassed : (action : OutAction) → is_bypass action ≡ true → action ≡ outs.Bypass
is_bypassed (outs.Protect k) e = absurd (cc)
is_bypassed outs.Bypass e = refl
is_bypassed outs.Discard e = absurd (cc)

-- an own header passes both tests
pub own_test : (net : Plan) (from : ℕ) (pred : Pred) (h : Header) → IsOwn net from pred h → is_own net from pred h ≡ true
own_test net from pred h own = let meant = own.meant in let source = own.source in λ j. meant j && source j

-- and a valid header that does is an own one
pub own_from : (net : Plan) (from : ℕ) (pred : Pred) (h : Header) → IsValid h → is_own net from pred h ≡ true → IsOwn net from pred h
own_from net from pred h valid passes = let both = both_true (pred_holds pred h) (area_has net from h) passes in record { valid = valid; meant = both.0; source = both.1 }

module _ (net : Plan) (from : ℕ) (pred : Pred) (within : from < length net.areas) (keeps : KeepsAlike net pred) where
  -- of headers that are taken alike both are own or neither is
  pub own_alike : (h k : Header) → AreTakenAlike net h k → is_own net from pred h ≡ is_own net from pred k
  own_alike h k alike =
      let meant = keeps h k alike in
      let source = alike.sources from within in
      λ j. meant j && source j

  module _ (leasts : List Header) (are : AreLeastsFor net leasts) where
    -- the header at a place
    abbrev at : ℕ → Header
    at n = get_or leasts n zeros

    -- ---- at one outlet

    module _ (i : ℕ) (set : List Bool) (way : IsWayOut net i) (bare : AreBare net leasts i set) where
      bare_alike : (h k : Header) → IsValid h → IsValid k → IsAlike are.tests h k → LetsOutBare net from pred i k → LetsOutBare net from pred i h
      bare_alike h k valid other_valid alike lets =
          let taken = are.respected h k valid other_valid alike in
          record {
            way = way;
            own = own_from net from pred h valid (own_alike h k taken ∙ own_test net from pred k lets.own);
            passes = out_alike net h k taken i way.at.within ∙ lets.passes;
          }

      bare_there : (n : ℕ) → n < length leasts → LetsOutBare net from pred i (at n) → IsOwnIn set net from pred leasts n
      bare_there n lt lets =
          let member : has_member set n ≡ true = bare.exact n lt ∙ ap is_bypass lets.passes in
          let own = own_test net from pred (at n) lets.own in
          λ j. member j && own j

      bare_back : (n : ℕ) → n < length leasts → IsOwnIn set net from pred leasts n → LetsOutBare net from pred i (at n)
      bare_back n lt own_in =
          let both = both_true (has_member set n) (is_own net from pred (at n)) own_in in
          record {
            way = way;
            own = own_from net from pred (at n) (alike_at are.tests leasts are.least n lt).valid both.1;
            passes = is_bypassed (out_action_of net i (tops.Plain (at n))) (sym (bare.exact n lt) ∙ both.0);
          }

      -- the first listed header is the least that goes out, and where there is none, none goes out
      bare_found : (found : Option Header) → FindsListed (IsOwnIn set net from pred leasts) leasts found → Finds (LetsOutBare net from pred i) found
      bare_found found listed =
          found_least are.tests leasts are.least (LetsOutBare net from pred i) (λ h lets. lets.own.valid) bare_alike (IsOwnIn set net from pred leasts) bare_there bare_back found listed

    -- ---- at all of them

    module _ (list : List Outlet) (ways : AreWays net leasts list) where
      abbrev outlet : ℕ → Outlet
      outlet n = outlet_at list n

      -- none goes out at one of the first outlets where no listed header does
      none_at : (end i : ℕ) → NoneGoesOut list net from pred leasts end → (has : HasOutlet list i) → has.place < end → (h : Header) → LetsOutBare net from pred i h → ⊥
      none_at end i none has lt h lets =
          let is = ways.each has.place has.within in
          bare_found (outlet has.place).interface (outlet has.place).bare is.way is.bare None (λ k listed own_in. none has.place lt k listed own_in) h
          (subst (λ n. LetsOutBare net from pred n h) (sym has.interface) lets)

      -- an interface before that of a place is listed before it
      listed_before : (n i : ℕ) → n < length list → (has : HasOutlet list i) → i < (outlet n).interface → has.place < n
      listed_before n i lt has before = elim (cases_lt has.place n) [
        | inl earlier ↦ earlier
        | inr from_here ↦
            (let is : (outlet has.place).interface ≡ i = has.interface in
            elim (cases_lt n has.place) [
              | inl later ↦ absurd (let above = ways.ascending n has.place later has.within in omega arith)
              | inr upto ↦
                  absurd
                  (let same : has.place ≡ n = omega arith in
                  let own : (outlet n).interface ≡ i = subst (λ m. (outlet m).interface ≡ i) same is in
                  omega arith)
            ])
      ]

      module _ (i : ℕ) (h : Header) (first : IsFirstOutlet list net from pred leasts i h) where
        least_there : IsLeastOf (LetsOutBare net from pred i) h
        least_there =
            let is = ways.each first.place first.within in
            subst (λ n. IsLeastOf (LetsOutBare net from pred n) h) (sym first.interface)
            (bare_found (outlet first.place).interface (outlet first.place).bare is.way is.bare (Some h) first.listed)

        first_there : IsFirst (LetsSomeBare net from pred) i
        first_there = record {
          holds = (h, least_there.has);
          first = λ j before some.
              let has = ways.all j some.1.way in
              let here : j < (outlet first.place).interface = (let is = first.interface in omega arith) in
              none_at first.place j first.earlier has (listed_before first.place j first.within has here) some.0 some.1;
        }

      -- where no outlet was found, none goes out bare
      pub outlet_none : (found : Option (ℕ × Header)) → FindsOutlet list net from pred leasts found → IfNone found ((i : ℕ) (h : Header) → LetsOutBare net from pred i h → ⊥)
      outlet_none None none = λ i h lets. (let has = ways.all i lets.way in none_at (length list) i none has has.within h lets)
      outlet_none (Some found) first = tt

      -- one that was found is at the first interface where one does
      pub outlet_first : (found : Option (ℕ × Header)) → FindsOutlet list net from pred leasts found → IfSome found (λ found. IsFirst (LetsSomeBare net from pred) found.0)
      outlet_first None none = tt
      outlet_first (Some found) first = first_there found.0 found.1 first

      -- and has the least header there
      pub outlet_least : (found : Option (ℕ × Header)) → FindsOutlet list net from pred leasts found → IfSome found (λ found. IsLeastOf (LetsOutBare net from pred found.0) found.1)
      outlet_least None none = tt
      outlet_least (Some found) first = least_there found.0 found.1 first
