-- The way of the least bits that lead to Yes, from its start, by a step, to its end.
use Rattle.std.proofs.Common.{◌≡◌, ◌≢◌, ℕ, zero, suc, ◌+◌, ◌-◌, ◌<◌, ◌≤◌, Bool, true, false, List, length, refl, sym, ◌∙◌, ap, arith, if◌then◌else◌, ◌⊎◌, inl, inr}
use Rattle.std.specs.Prelude.{not}
use Rattle.std.proofs.lemmas.Bool.{true≢false, cases_eq}
use Rattle.np_bdd.specs.declared.views.Node.{Node}
use Rattle.np_bdd.specs.declared.views.View.{View}
use Rattle.np_bdd.specs.declared.views.View.TheVariants.{No, Yes, Test}
use Rattle.np_bdd.specs.Views.{Bits, view_at, leads_to_yes}
use Rattle.np_bdd.specs.Diagram.{bit_of, bit_at_place, IsOrdered, IsOrderedTest, IsDiagram}
use Rattle.np_bdd.specs.Walking.{with_bit, AgreeBelow, IsBefore, IsWay}
use Rattle.np_bdd.proofs.PlaceLemmas.{leads_at_no, leads_at_yes, leads_at_test}
use Rattle.np_bdd.proofs.CanonicalLaws.{changed, unchanged, IsTestOf, ordered_at, chosen, chosen_there, chosen_later}
use Rattle.np_bdd.proofs.NodeLaws.{first_view}

-- ---- bits that agree so far

pub agree_more : (f g : Bits) (n m : ℕ) → m ≡ suc n → AgreeBelow n f g → f n ≡ g n → AgreeBelow m f g
agree_more f g n m k agree here i l = by (cases_eq i n)
  where
    by : (i ≡ n) ⊎ (i ≢ n) → f i ≡ g i
    by (inl e) = ap f e ∙ here ∙ ap g (sym e)
    by (inr ne) = agree i (omega (arith, l, k, ne))

-- on bits that are 0 in the first, the second agrees or comes after it
pub agree_on : (k : ℕ) (f g : Bits) (n m : ℕ) → n + k ≡ m → AgreeBelow n f g → ((i : ℕ) → n ≤ i → i < m → f i ≡ false) → IsBefore m f g ⊎ AgreeBelow m f g
agree_on zero f g n m e agree clear = inr (λ i l. agree i (omega (arith, e, l)))
agree_on (suc k) f g n m e agree clear = by (g n) refl (λ same. agree_on k f g (suc n) m (omega (arith, e)) (agree_more f g n (suc n) refl agree same) (λ i below above. clear i (omega (arith, below)) above))
  where
    here : f n ≡ false
    here = clear n (omega arith) (omega (arith, e))

    by : (b : Bool) → g n ≡ b → (f n ≡ g n → IsBefore m f g ⊎ AgreeBelow m f g) → IsBefore m f g ⊎ AgreeBelow m f g
    by true one on = inl (record { place = n; within = omega (arith, e); same = agree; zero_here = here; one_there = one })
    by false none on = on (here ∙ sym none)

-- what comes before stays before, where the later bits change and the end is put off
pub before_on : (f g h : Bits) (n m : ℕ) → n ≤ m → AgreeBelow n g f → IsBefore n f h → IsBefore m g h
before_on f g h n m l agree b = record {
  place = b.place;
  within = omega (arith, b.within, l);
  same = λ i k. agree i (omega (arith, k, b.within)) ∙ b.same i k;
  zero_here = agree b.place b.within ∙ b.zero_here;
  one_there = b.one_there;
}

-- no place tests a bit past the last
pub bit_small : (views : List View) → IsDiagram views → (at : ℕ) → at < length views → bit_at_place views at ≤ 111
bit_small views d at there = by (view_at views at) (d.ordered at there)
  where
    by : (v : View) → IsOrdered views v → bit_of v ≤ 111
    by No o = omega arith
    by Yes o = omega arith
    by (Test bit low high) o = omega (arith, o.bit_fits)

-- ---- the start

pub way_starts : (views : List View) → IsDiagram views → (x : ℕ) → x < length views → x ≢ 0 → (f : Bits) → ((i : ℕ) → i < 111 → f i ≡ false) → IsWay views x x f
way_starts views d x there some f clear = record {
  there = there;
  some = some;
  clear = λ i below l. clear i l;
  comes = λ g agree. refl;
  least = λ g leads. by g leads (agree_on (bit_at_place views x) f g 0 (bit_at_place views x) (omega arith) (λ i l. absurd (omega (arith, l))) (λ i below l. clear i (omega (arith, l, bit_small views d x there))));
}
  where
    by : (g : Bits) → leads_to_yes views g x ≡ true → IsBefore (bit_at_place views x) f g ⊎ AgreeBelow (bit_at_place views x) f g
        → IsBefore (bit_at_place views x) f g ⊎ AgreeBelow (bit_at_place views x) f g × (leads_to_yes views g x ≡ true)
    by g leads (inl before) = inl before
    by g leads (inr agree) = inr (agree, leads)

-- ---- a step

-- the branch of the bit leads where the test does
leads_chosen : (views : List View) → IsDiagram views → (bit at : ℕ) → at < length views → (t : IsTestOf views bit at) (g : Bits) (b : Bool) → g bit ≡ b → leads_to_yes views g at ≡ leads_to_yes views g (chosen t b)
leads_chosen views d bit at there t g b e =
    leads_at_test views d g at bit t.low t.high there t.shows
    ∙ ap (λ c. if c then leads_to_yes views g t.high.at else leads_to_yes views g t.low.at) e
    ∙ either b
  where
    either : (c : Bool) → (if c then leads_to_yes views g t.high.at else leads_to_yes views g t.low.at) ≡ leads_to_yes views g (chosen t c)
    either false = refl
    either true = refl

-- bits that go the other way at this test come after those of the new way, if they lead to Yes
abbrev OthersAfter : List View → ℕ → ℕ → Bool → Bits → Bits → Type 0
OthersAfter views bit at b f new = (g : Bits) → AgreeBelow bit f g → g bit ≡ not b → leads_to_yes views g at ≡ true → IsBefore (suc bit) new g

-- the way goes on by one of the branches, and the bit that is tested is now known
way_on : (views : List View) → IsDiagram views → (x bit at : ℕ) (t : IsTestOf views bit at) (f new : Bits) (b : Bool) → IsWay views x at f → ((i : ℕ) → i < 111 → new i ≡ with_bit f bit b i) → chosen t b ≢ 0 → OthersAfter views bit at b f new
    → IsWay views x (chosen t b) new
way_on views d x bit at t f new b way set some others = record {
  there = there;
  some = some;
  clear = λ i below l. set i l ∙ unchanged f bit b i (λ e. omega (arith, below, later, e)) ∙ way.clear i (omega (arith, below, later, here)) l;
  comes = λ g agree. way.comes g (λ i l. agree i (omega (arith, l, here, later)) ∙ earlier i (omega (arith, l, here))) ∙ leads_chosen views d bit at way.there t g b (agree bit later ∙ known);
  least = λ g leads. by g (way.least g leads);
}
  where
    o : IsOrderedTest views bit t.low t.high
    o = ordered_at views d bit at way.there t

    here : bit_at_place views at ≡ bit
    here = ap bit_of t.shows

    there : chosen t b < length views
    there = chosen_there views bit at t o b

    later : bit < bit_at_place views (chosen t b)
    later = chosen_later views bit at t o b

    -- the bits before the test are the same in both
    earlier : (i : ℕ) → i < bit → new i ≡ f i
    earlier i l = set i (omega (arith, l, o.bit_fits)) ∙ unchanged f bit b i (λ e. omega (arith, l, e))

    known : new bit ≡ b
    known = set bit o.bit_fits ∙ changed f bit b bit refl

    End : Bits → Type 0
    End g = IsBefore (bit_at_place views (chosen t b)) new g ⊎ AgreeBelow (bit_at_place views (chosen t b)) new g × (leads_to_yes views g (chosen t b) ≡ true)

    further : (g : Bits) → leads_to_yes views g (chosen t b) ≡ true → IsBefore (bit_at_place views (chosen t b)) new g ⊎ AgreeBelow (bit_at_place views (chosen t b)) new g → End g
    further g leads (inl before) = inl before
    further g leads (inr agree) = inr (agree, leads)

    same_way : (g : Bits) → AgreeBelow bit f g → leads_to_yes views g at ≡ true → g bit ≡ b → End g
    same_way g agree leads e =
        further g (sym (leads_chosen views d bit at way.there t g b e) ∙ leads)
        (agree_on (bit_at_place views (chosen t b) - suc bit) new g (suc bit) (bit_at_place views (chosen t b)) (omega (arith, later))
        (agree_more new g bit (suc bit) refl (λ i l. earlier i l ∙ agree i l) (known ∙ sym e))
        (λ i below l. let small = bit_small views d (chosen t b) there in set i (omega (arith, l, small)) ∙ unchanged f bit b i (λ k. omega (arith, below, k)) ∙ way.clear i (omega (arith, below, here)) (omega (arith, l, small))))

    other_way : (g : Bits) → AgreeBelow bit f g → leads_to_yes views g at ≡ true → g bit ≡ not b → End g
    other_way g agree leads e = inl (before_on new new g (suc bit) (bit_at_place views (chosen t b)) (omega (arith, later)) (λ i l. refl) (others g agree e leads))

    which : (g : Bits) (c a : Bool) → g bit ≡ c → b ≡ a → (g bit ≡ b) ⊎ (g bit ≡ not b)
    which g true true e k = inl (e ∙ sym k)
    which g false false e k = inl (e ∙ sym k)
    which g true false e k = inr (e ∙ ap not (sym k))
    which g false true e k = inr (e ∙ ap not (sym k))

    either : (g : Bits) → AgreeBelow bit f g → leads_to_yes views g at ≡ true → (g bit ≡ b) ⊎ (g bit ≡ not b) → End g
    either g agree leads (inl e) = same_way g agree leads e
    either g agree leads (inr e) = other_way g agree leads e

    by : (g : Bits) → IsBefore (bit_at_place views at) f g ⊎ AgreeBelow (bit_at_place views at) f g × (leads_to_yes views g at ≡ true) → End g
    by g (inl before) = inl (before_on f new g (bit_at_place views at) (bit_at_place views (chosen t b)) (omega (arith, here, later)) (λ i l. earlier i (omega (arith, l, here))) before)
    by g (inr along) = either g (λ i l. along.0 i (omega (arith, l, here))) along.1 (which g (g bit) b refl refl)

-- to the low branch, where it isn't No: what has a 1 here comes after
pub way_low : (views : List View) → IsDiagram views → (x at bit : ℕ) (low high : Node) (f : Bits) → view_at views at ≡ Test bit low high → low.at ≢ 0 → IsWay views x at f → IsWay views x low.at f
way_low views d x at bit low high f shows some way = way_on views d x bit at t f f false way set some others
  where
    t : IsTestOf views bit at
    t = record { low = low; high = high; shows = shows }

    o : IsOrderedTest views bit low high
    o = ordered_at views d bit at way.there t

    none : f bit ≡ false
    none = way.clear bit (omega (arith, ap bit_of shows)) o.bit_fits

    set : (i : ℕ) → i < 111 → f i ≡ with_bit f bit false i
    set i l = by (cases_eq i bit)
      where
        by : (i ≡ bit) ⊎ (i ≢ bit) → f i ≡ with_bit f bit false i
        by (inl e) = ap f e ∙ none ∙ sym (changed f bit false i e)
        by (inr ne) = sym (unchanged f bit false i ne)

    others : OthersAfter views bit at false f f
    others g agree one leads = record { place = bit; within = omega arith; same = agree; zero_here = none; one_there = one }

-- to the high branch, where the low one is No: what has a 0 here leads to No
pub way_high : (views : List View) → IsDiagram views → (x at bit : ℕ) (low high : Node) (f new : Bits) → view_at views at ≡ Test bit low high → low.at ≡ 0 → ((i : ℕ) → i < 111 → new i ≡ with_bit f bit true i) → IsWay views x at f → IsWay views x high.at new
way_high views d x at bit low high f new shows none set way = way_on views d x bit at t f new true way set (λ e. o.differ (none ∙ sym e)) others
  where
    t : IsTestOf views bit at
    t = record { low = low; high = high; shows = shows }

    o : IsOrderedTest views bit low high
    o = ordered_at views d bit at way.there t

    others : OthersAfter views bit at true f new
    others g agree e leads =
        absurd (true≢false (sym leads ∙ leads_chosen views d bit at way.there t g false e ∙ ap (λ n. leads_to_yes views g n) none ∙ leads_at_no views g 0 (first_view views d.no_first).0))

-- ---- the end

-- a place without a test, other than that of No, is that of Yes
end_is_yes : (views : List View) → IsDiagram views → (at : ℕ) → at < length views → at ≢ 0 → 111 ≤ bit_at_place views at → view_at views at ≡ Yes
end_is_yes views d at there some ends = by (view_at views at) refl (d.ordered at there)
  where
    by : (v : View) → view_at views at ≡ v → IsOrdered views v → view_at views at ≡ Yes
    by No e o = absurd (some (d.unique at 0 there (first_view views d.no_first).1 (e ∙ sym (first_view views d.no_first).0)))
    by Yes e o = e
    by (Test bit low high) e o = absurd (omega (arith, ap bit_of e, o.bit_fits, ends))

-- there the bits lead from x to Yes
pub way_leads : (views : List View) → IsDiagram views → (x at : ℕ) (f : Bits) → IsWay views x at f → 111 ≤ bit_at_place views at → leads_to_yes views f x ≡ true
way_leads views d x at f way ends = way.comes f (λ i l. refl) ∙ leads_at_yes views f at (end_is_yes views d at way.there way.some ends)

-- and whatever else leads there comes after them or agrees with them
pub way_least : (views : List View) → IsDiagram views → (x at : ℕ) (f : Bits) → IsWay views x at f → 111 ≤ bit_at_place views at → (g : Bits) → leads_to_yes views g x ≡ true → IsBefore 111 f g ⊎ AgreeBelow 111 f g
way_least views d x at f way ends g leads = by (way.least g leads)
  where
    last : bit_at_place views at ≡ 111
    last = omega (arith, ends, bit_small views d at way.there)

    by : IsBefore (bit_at_place views at) f g ⊎ AgreeBelow (bit_at_place views at) f g × (leads_to_yes views g at ≡ true) → IsBefore 111 f g ⊎ AgreeBelow 111 f g
    by (inl before) = inl (before_on f f g (bit_at_place views at) 111 (omega (arith, last)) (λ i l. refl) before)
    by (inr along) = inr (λ i l. along.0 i (omega (arith, l, last)))
