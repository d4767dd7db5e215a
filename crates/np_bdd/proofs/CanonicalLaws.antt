-- Places of a diagram from which all bits lead to the same answer are the same place.
use Rattle.std.proofs.Common.{◌≡◌, ◌≢◌, ℕ, zero, suc, ◌+◌, ◌<◌, ◌≤◌, Bool, true, false, List, length, refl, sym, ◌∙◌, ap, subst, arith, if◌then◌else◌, ◌⊎◌, inl, inr}
use Rattle.std.proofs.lemmas.Bool.{true≢false, cases_lt, eq-eqb, ne_eqb}
use Rattle.np_bdd.specs.declared.views.Node.{Node}
use Rattle.np_bdd.specs.declared.views.View.{View}
use Rattle.np_bdd.specs.declared.views.View.TheVariants.{No, Yes, Test}
use Rattle.np_bdd.specs.Views.{Bits, view_at, sent_by, place_after, is_yes, leads_to_yes}
use Rattle.np_bdd.specs.Diagram.{bit_of, bit_at_place, IsOrdered, IsOrderedTest, IsDiagram}
use Rattle.np_bdd.specs.Walking.{with_bit}
use Rattle.np_bdd.proofs.PlaceLemmas.{step, leads_at_no, leads_at_yes, leads_at_test}
use Rattle.np_bdd.proofs.WalkLemmas.{sent_there}

-- ---- which bits are read

-- both agree in each bit of a header from this one on
abbrev pub AgreeFrom : ℕ → Bits → Bits → Type 0
AgreeFrom first f g = (i : ℕ) → first ≤ i → i < 111 → f i ≡ g i

-- a step from a place reads the bit that is tested there
same_step : (views : List View) (first : ℕ) (f g : Bits) → AgreeFrom first f g → (at : ℕ) (v : View) → IsOrdered views v → first ≤ bit_of v → sent_by v f at ≡ sent_by v g at
same_step views first f g agree at No o from = refl
same_step views first f g agree at Yes o from = refl
same_step views first f g agree at (Test bit low high) o from = ap (λ b. if b then high.at else low.at) (agree bit from o.bit_fits)

-- and leads to no test before it
step_from : (views : List View) → IsDiagram views → (first : ℕ) (f : Bits) (at : ℕ) → at < length views → first ≤ bit_at_place views at → first ≤ bit_at_place views (sent_by (view_at views at) f at)
step_from views d first f at there from = by (step views d f at there)
  where
    by : (sent_by (view_at views at) f at ≡ at) × (111 ≤ bit_at_place views at) ⊎ (sent_by (view_at views at) f at < length views) × (bit_at_place views at < bit_at_place views (sent_by (view_at views at) f at)) × (bit_at_place views at < 111)
        → first ≤ bit_at_place views (sent_by (view_at views at) f at)
    by (inl stays) = rw stays.0 from
    by (inr goes) = omega (arith, goes.1, from)

-- so many steps read no bit before the first that may be tested
same_place : (n : ℕ) (views : List View) → IsDiagram views → (first : ℕ) (f g : Bits) → AgreeFrom first f g → (at : ℕ) → at < length views → first ≤ bit_at_place views at → place_after n views f at ≡ place_after n views g at
unfolding place_after
same_place zero views d first f g agree at there from = refl
same_place (suc n) views d first f g agree at there from =
    same_place n views d first f g agree (sent_by (view_at views at) f at) (sent_there views d f at there) (step_from views d first f at there from)
    ∙ ap (λ x. place_after n views g x) (same_step views first f g agree at (view_at views at) (d.ordered at there) from)

-- bits that agree from there on lead to the same answer
pub reads_from : (views : List View) → IsDiagram views → (first : ℕ) (f g : Bits) → AgreeFrom first f g → (at : ℕ) → at < length views → first ≤ bit_at_place views at → leads_to_yes views f at ≡ leads_to_yes views g at
unfolding leads_to_yes
reads_from views d first f g agree at there from = ap (λ x. is_yes (view_at views x)) (same_place 111 views d first f g agree at there from)

-- ---- one bit changed

pub changed : (f : Bits) (n : ℕ) (b : Bool) (i : ℕ) → i ≡ n → with_bit f n b i ≡ b
changed f n b i e = ap (λ t. if t then b else f i) (eq-eqb i n e)

pub unchanged : (f : Bits) (n : ℕ) (b : Bool) (i : ℕ) → i ≢ n → with_bit f n b i ≡ f i
unchanged f n b i e = ap (λ t. if t then b else f i) (ne_eqb i n e)

-- a place with later tests alone doesn't see the change
leads_past : (views : List View) → IsDiagram views → (f : Bits) (n : ℕ) (b : Bool) (at : ℕ) → at < length views → n < bit_at_place views at → leads_to_yes views (with_bit f n b) at ≡ leads_to_yes views f at
leads_past views d f n b at there later =
    reads_from views d (suc n) (with_bit f n b) f (λ i from below. unchanged f n b i (λ e. omega (arith, from, e))) at there (omega (arith, later))

-- the place shows a test of the bit
pub record IsTestOf (views : List View) (bit at : ℕ) : Type 0 where
  pub low : Node
  pub high : Node
  pub shows : view_at views at ≡ Test bit low high

-- what the diagram says of the test
pub ordered_at : (views : List View) → IsDiagram views → (bit at : ℕ) → at < length views → (t : IsTestOf views bit at) → IsOrderedTest views bit t.low t.high
ordered_at views d bit at there t = subst (λ v. IsOrdered views v) t.shows (d.ordered at there)

-- the place that the bit chooses
abbrev pub chosen : {views : List View} {bit at : ℕ} → IsTestOf views bit at → Bool → ℕ
chosen t b = if b then t.high.at else t.low.at

pub chosen_there : (views : List View) (bit at : ℕ) (t : IsTestOf views bit at) → IsOrderedTest views bit t.low t.high → (b : Bool) → chosen t b < length views
chosen_there views bit at t o false = o.low_there
chosen_there views bit at t o true = o.high_there

pub chosen_later : (views : List View) (bit at : ℕ) (t : IsTestOf views bit at) → IsOrderedTest views bit t.low t.high → (b : Bool) → bit < bit_at_place views (chosen t b)
chosen_later views bit at t o false = o.low_greater
chosen_later views bit at t o true = o.high_greater

-- the changed bit chooses
leads_by : (views : List View) → IsDiagram views → (bit at : ℕ) → at < length views → (t : IsTestOf views bit at) (f : Bits) (b : Bool) → leads_to_yes views (with_bit f bit b) at ≡ leads_to_yes views f (chosen t b)
leads_by views d bit at there t f b =
    let o = ordered_at views d bit at there t in
    leads_at_test views d (with_bit f bit b) at bit t.low t.high there t.shows
    ∙ ap (λ c. if c then leads_to_yes views (with_bit f bit b) t.high.at else leads_to_yes views (with_bit f bit b) t.low.at) (changed f bit b bit refl)
    ∙ either b
    ∙ leads_past views d f bit b (chosen t b) (chosen_there views bit at t o b) (chosen_later views bit at t o b)
  where
    either : (c : Bool) → (if c then leads_to_yes views (with_bit f bit b) t.high.at else leads_to_yes views (with_bit f bit b) t.low.at) ≡ leads_to_yes views (with_bit f bit b) (chosen t c)
    either false = refl
    either true = refl

-- ---- equal answers, equal places

-- all bits lead to the same answer from both places
abbrev pub Alike : List View → ℕ → ℕ → Type 0
Alike views x y = (f : Bits) → leads_to_yes views f x ≡ leads_to_yes views f y

-- that places which test no bit before the first are the same if they are alike
abbrev AloneFrom : List View → ℕ → Type 0
AloneFrom views first = (x y : ℕ) → x < length views → y < length views → first ≤ bit_at_place views x → first ≤ bit_at_place views y → Alike views x y → x ≡ y

-- a place tests this bit or later ones alone
test_or_past : (views : List View) (bit at : ℕ) → bit < 111 → (v : View) → view_at views at ≡ v → bit ≤ bit_at_place views at → (bit < bit_at_place views at) ⊎ IsTestOf views bit at
test_or_past views bit at fits No e from = inl (omega (arith, ap bit_of e, fits))
test_or_past views bit at fits Yes e from = inl (omega (arith, ap bit_of e, fits))
test_or_past views bit at fits (Test tested low high) e from = by (cases_lt bit tested)
  where
    by : (bit < tested) ⊎ (tested ≤ bit) → (bit < bit_at_place views at) ⊎ IsTestOf views bit at
    by (inl later) = inl (omega (arith, ap bit_of e, later))
    by (inr early) =
        let same : tested ≡ bit = omega (arith, ap bit_of e, early, from) in
        inr (record { low = low; high = high; shows = e ∙ ap (λ n. Test n low high) same })

-- places without a test
alone_at_end : (views : List View) → IsDiagram views → AloneFrom views 111
alone_at_end views d x y tx ty fx fy alike = by (view_at views x) (view_at views y) refl refl (d.ordered x tx) (d.ordered y ty)
  where
    by : (v w : View) → view_at views x ≡ v → view_at views y ≡ w → IsOrdered views v → IsOrdered views w → x ≡ y
    by No No e g o p = d.unique x y tx ty (e ∙ sym g)
    by Yes Yes e g o p = d.unique x y tx ty (e ∙ sym g)
    by No Yes e g o p = absurd (true≢false (sym (leads_at_yes views (λ i. false) y g) ∙ sym (alike (λ i. false)) ∙ leads_at_no views (λ i. false) x e))
    by Yes No e g o p = absurd (true≢false (sym (leads_at_yes views (λ i. false) x e) ∙ alike (λ i. false) ∙ leads_at_no views (λ i. false) y g))
    by (Test bit low high) w e g o p = absurd (omega (arith, ap bit_of e, o.bit_fits, fx))
    by v (Test bit low high) e g o p = absurd (omega (arith, ap bit_of g, p.bit_fits, fy))

-- a place that tests the bit is not alike to one that doesn't, since both of its branches would be
not_alike : (views : List View) → IsDiagram views → (bit : ℕ) → AloneFrom views (suc bit) → (x y : ℕ) → x < length views → y < length views → IsTestOf views bit x → bit < bit_at_place views y → Alike views x y → ⊥
not_alike views d bit alone x y tx ty t later alike = o.differ (found false ∙ sym (found true))
  where
    o : IsOrderedTest views bit t.low t.high
    o = ordered_at views d bit x tx t

    found : (b : Bool) → chosen t b ≡ y
    found b =
        alone (chosen t b) y (chosen_there views bit x t o b) ty (omega (arith, chosen_later views bit x t o b)) (omega (arith, later))
        (λ f. sym (leads_by views d bit x tx t f b) ∙ alike (with_bit f bit b) ∙ leads_past views d f bit b y ty later)

-- two places that test the bit and are alike have the same branches
same_tests : (views : List View) → IsDiagram views → (bit : ℕ) → AloneFrom views (suc bit) → (x y : ℕ) → x < length views → y < length views → IsTestOf views bit x → IsTestOf views bit y → Alike views x y → x ≡ y
same_tests views d bit alone x y tx ty t s alike = d.unique x y tx ty (t.shows ∙ (λ i. Test bit (record { at = found false i }) (record { at = found true i })) ∙ sym s.shows)
  where
    found : (b : Bool) → chosen t b ≡ chosen s b
    found b =
        let o = ordered_at views d bit x tx t in
        let p = ordered_at views d bit y ty s in
        alone (chosen t b) (chosen s b) (chosen_there views bit x t o b) (chosen_there views bit y s p b) (omega (arith, chosen_later views bit x t o b)) (omega (arith, chosen_later views bit y s p b))
        (λ f. sym (leads_by views d bit x tx t f b) ∙ alike (with_bit f bit b) ∙ leads_by views d bit y ty s f b)

-- from later tests to those of this bit too
alone_before : (views : List View) → IsDiagram views → (bit : ℕ) → bit < 111 → AloneFrom views (suc bit) → AloneFrom views bit
alone_before views d bit fits alone x y tx ty fx fy alike = by (test_or_past views bit x fits (view_at views x) refl fx) (test_or_past views bit y fits (view_at views y) refl fy)
  where
    by : (bit < bit_at_place views x) ⊎ IsTestOf views bit x → (bit < bit_at_place views y) ⊎ IsTestOf views bit y → x ≡ y
    by (inl px) (inl py) = alone x y tx ty (omega (arith, px)) (omega (arith, py)) alike
    by (inl px) (inr s) = absurd (not_alike views d bit alone y x ty tx s px (λ f. sym (alike f)))
    by (inr t) (inl py) = absurd (not_alike views d bit alone x y tx ty t py alike)
    by (inr t) (inr s) = same_tests views d bit alone x y tx ty t s alike

alone_from : (k : ℕ) (views : List View) → IsDiagram views → (bit : ℕ) → bit + k ≡ 111 → AloneFrom views bit
alone_from zero views d bit e = let last : 111 ≡ bit = omega (arith, e) in subst (λ n. AloneFrom views n) last (alone_at_end views d)
alone_from (suc k) views d bit e = alone_before views d bit (omega (arith, e)) (alone_from k views d (suc bit) (omega (arith, e)))

-- places that are alike are the same
pub alike_same : (views : List View) → IsDiagram views → (x y : ℕ) → x < length views → y < length views → Alike views x y → x ≡ y
alike_same views d x y tx ty alike = alone_from 111 views d 0 refl x y tx ty (omega arith) (omega arith) alike
