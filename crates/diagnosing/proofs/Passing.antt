-- Where a slot passes, the rules change nothing but last levels, dominant slots in a row and Sc.
use Prim.Native.Nat.{ℕ, ◌/◌, ◌%◌, ◌+◌}
use mathlib.Core.Bool.{Bool, true, false, false≢true, not, ◌||◌}
use mathlib.Core.Path.{◌≡◌, refl, sym, ap, subst, ◌∙◌}
use native.Mathlib.Omega.{arith}
use lib.Dec.{eqb, ltb}
use borrow.Author.Tests.{eq-eqb, eqb-true}
use Rattle.line.specs.Bits.{pick}
use Rattle.diagnosis.specs.Control.{divider_runs}
use Rattle.diagnosis.specs.Rules.{input_level, differ, edge, counted, connected, edges_counted, dominant_run, watched, asynchronous, transmission, protocol, or_else, found, speaks, condition_found, is_major, noted, completes, ticked, turned, judged, clocked}
use Rattle.diagnosis.specs.declared.Finding.TheVariants.{Nothing, Data, DataBar}
use Rattle.diagnosis.specs.declared.Period.{Period}
use Rattle.diagnosis.specs.declared.Diagnosis.{Diagnosis}
use Rattle.diagnosing.proofs.Tests.{or_pick}
use Rattle.diagnosing.specs.Steady.{settled, passes, passed}

-- ---- what the tests say

both_hold : (a b : Bool) → pick a b false ≡ true → (a ≡ true) × (b ≡ true)
both_hold true b e = (refl, e)
both_hold false b e = absurd (false≢true e)

first_fails : (a b : Bool) → pick a false b ≡ true → (a ≡ false) × (b ≡ true)
first_fails true b e = absurd (false≢true e)
first_fails false b e = (refl, e)

-- ---- counts

at_four : (b : Bool) (n : ℕ) → n ≡ 4 → counted 4 b n ≡ n
unfolding counted
at_four b n e = rw e (go b) where
  go : (b : Bool) → pick b (pick (ltb 4 4) (4 + 1) 4) 4 ≡ 4
  go true = refl
  go false = refl

no_edge : (b : Bool) (n : ℕ) → b ≡ false → counted 4 b n ≡ n
unfolding counted
no_edge b n e = rw e

same_data : (before levels : ℕ) → levels / 2 ≡ before / 2 → edge before levels 1 ≡ false
unfolding edge input_level
same_data before levels h = ap not (eq-eqb (levels / 2 % 2) (before / 2 % 2) (omega (arith, h)))

same_data_bar : (before levels : ℕ) → levels / 2 ≡ before / 2 → edge before levels 2 ≡ false
unfolding edge input_level
same_data_bar before levels h = ap not (eq-eqb (levels / 4 % 2) (before / 4 % 2) (omega (arith, h)))

-- a count of edges on RxD1 or RxD2 that is four, or sees the same levels
stays : (b : Bool) (before levels n : ℕ) → (levels / 2 ≡ before / 2 → b ≡ false) → pick (eqb n 4) true (eqb (levels / 2) (before / 2)) ≡ true → counted 4 b n ≡ n
stays b before levels n quiet e = go (eqb n 4) refl e where
  go : (t : Bool) → eqb n 4 ≡ t → pick t true (eqb (levels / 2) (before / 2)) ≡ true → counted 4 b n ≡ n
  go true d f = at_four b n (eqb-true n 4 d)
  go false d f = no_edge b n (quiet (eqb-true (levels / 2) (before / 2) f))

-- ---- a settled period

record Settled (before levels : ℕ) (p : Period) : Type 0 where
  four : p.connected ≡ 4
  same : p.rxd1 ≡ p.rxd2
  rests : pick (eqb p.rxd1 4) true (eqb (levels / 2) (before / 2)) ≡ true

settled_is : (before levels : ℕ) (p : Period) → settled before levels p ≡ true → Settled before levels p
unfolding settled
settled_is before levels p e =
    let a = both_hold (eqb p.connected 4) _ e in
    let b = both_hold (eqb p.rxd1 p.rxd2) _ a.1 in
    record { four = eqb-true p.connected 4 a.0; same = eqb-true p.rxd1 p.rxd2 b.0; rests = b.1 }

counts_stay : (before levels input : ℕ) (p : Period) → Settled before levels p → edges_counted before levels input p ≡ p
unfolding edges_counted
counts_stay before levels input p h =
    let r : pick (eqb p.rxd2 4) true (eqb (levels / 2) (before / 2)) ≡ true =
    subst (λ (n : ℕ). pick (eqb n 4) true (eqb (levels / 2) (before / 2)) ≡ true) h.same h.rests in
    rw (stays (edge before levels 1) before levels p.rxd1 (same_data before levels) h.rests, stays (edge before levels 2) before levels p.rxd2 (same_data_bar before levels) r, at_four (edge before levels input) p.connected h.four)

-- as many edges on RxD1 as on RxD2
no_difference : (p : Period) → p.rxd1 ≡ p.rxd2 → asynchronous p ≡ Nothing
unfolding asynchronous
no_difference p h = rw h (go (eqb p.rxd2 4) refl) where
  go : (t : Bool) → eqb p.rxd2 4 ≡ t → pick t (pick (eqb p.rxd2 0) DataBar Nothing) (pick t (pick (eqb p.rxd2 0) Data Nothing) Nothing) ≡ Nothing
  go true e = rw (eqb-true p.rxd2 4 e)
  go false e = refl

-- ---- no finding, no pulse, no turn

nothing_found : (y : Diagnosis) → eqb y.dominant 8 ≡ false → asynchronous y.period ≡ Nothing → found false y ≡ Nothing
unfolding found protocol transmission or_else
nothing_found y d e = rw (d, e)

nothing_noted : (y : Diagnosis) → noted Nothing y ≡ y
unfolding noted condition_found speaks
nothing_noted y = refl

never_completes : (control : ℕ) (p : Period) → divider_runs control ≡ false → completes control p ≡ false
unfolding completes
never_completes control p e = rw e

no_tick : (control : ℕ) (y : Diagnosis) → divider_runs control ≡ false → ticked control y ≡ y
unfolding ticked
no_tick control y e = rw (never_completes control y.period e, e)

no_turn : (y : Diagnosis) → turned y.condition false y ≡ y
unfolding turned
no_turn y = rw (go (is_major y.condition) y.alternate) where
  go : (a b : Bool) → pick a b (pick a false b) ≡ b
  go true b = refl
  go false b = refl

-- ---- the slot

watched_is : (control levels : ℕ) (x : Diagnosis) → Settled x.levels levels x.period → watched (connected control x) levels x ≡ passed levels (dominant_run (input_level levels (connected control x)) x.dominant) x
unfolding watched passed
watched_is control levels x h = rw (counts_stay x.levels levels (connected control x) x.period h)

passing : (control levels : ℕ) (turns : Bool) (x : Diagnosis) → passes control levels turns (dominant_run (input_level levels (connected control x)) x.dominant) x ≡ true → clocked control levels turns x ≡ passed levels (dominant_run (input_level levels (connected control x)) x.dominant) x
unfolding clocked judged passes passed
passing control levels turns x e =
    let run : ℕ = dominant_run (input_level levels (connected control x)) x.dominant in
    let a = first_fails (divider_runs control) _ e in
    let b = first_fails turns _ a.1 in
    let d = first_fails (eqb run 8) _ b.1 in
    let h = settled_is x.levels levels x.period d.1 in
    let y : Diagnosis = passed levels run x in
    rw (b.0, watched_is control levels x h, nothing_found y d.0 (no_difference x.period h.same), nothing_noted y, no_tick control y a.0, never_completes control x.period a.0) (no_turn y)

as_passed : (d : Bool) (run levels : ℕ) (x : Diagnosis) → d ≡ differ levels → record { condition = x.condition; alternate = x.alternate; sc = d || x.sc; levels = levels; dominant = run; period = x.period } ≡ passed levels run x
unfolding passed
as_passed d run levels x w = rw (or_pick d x.sc, w)

-- as the code has it
pub quick : (control levels : ℕ) (turns : Bool) (x : Diagnosis) {input level run : ℕ} {b d : Bool} → input ≡ connected control x → level ≡ input_level levels input → run ≡ dominant_run level x.dominant → b ≡ passes control levels turns run x → b ≡ true → d ≡ differ levels → record { condition = x.condition; alternate = x.alternate; sc = d || x.sc; levels = levels; dominant = run; period = x.period } ≡ clocked control levels turns x
quick control levels turns x {input} {level} {run} {b} {d} i l r e t w =
    let same : run ≡ dominant_run (input_level levels (connected control x)) x.dominant = r ∙ ap (λ (n : ℕ). dominant_run n x.dominant) (l ∙ ap (input_level levels) i) in
    let holds : passes control levels turns (dominant_run (input_level levels (connected control x)) x.dominant) x ≡ true =
    ap (λ (n : ℕ). passes control levels turns n x) (sym same) ∙ sym e ∙ t in
    as_passed d run levels x w ∙ ap (λ (n : ℕ). passed levels n x) same ∙ sym (passing control levels turns x holds)
