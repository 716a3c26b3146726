-- The counts of the diagnosis are those of the claims' own record.
--   Same == diagnosis and record belong together; k is 0x02        same_slot, same_pulsed, same_renewed, same_rate == they do after a slot, a pulse and a write
use Prim.Native.Nat.{ℕ, ◌+◌, ◌<◌, min}
use mathlib.Core.Bool.{Bool, true, false, not, false≢true}
use mathlib.Core.Path.{◌≡◌, refl, sym, ap, subst, ◌∙◌}
use native.Mathlib.Omega.{arith}
use borrow.Author.Tests.{le-leb, lt-leb, ltb-true, ltb-false, eqb-true, eqb-false}
use lib.Dec.{eqb, ltb, leb}
use Rattle.line.specs.Bits.{pick}
use Rattle.line.proofs.Laws.{picked}
use Rattle.diagnosis.specs.Control.{rate, divider, divider_runs}
use Rattle.diagnosis.specs.Rules.{with_slots, new_period, input_level, edge, counted, connected, dominant_run, edges_counted, renewed, pulse, turned, pulsed, completes, diagnosed}
use Rattle.diagnosis.proofs.Limits.{same_divider}
use Rattle.diagnosis.proofs.After.{counts, levels_after, dominant_after, period_after}
use Rattle.diagnosis.specs.declared.Period.{Period}
use Rattle.diagnosis.specs.declared.Diagnosis.{Diagnosis}
use Rattle.rules.specs.Definitions.Registers.{both}
use Rattle.every_run.specs.Wires.{Wires, renewed_w, edges_w, watched_w, ends_period, ticked_w}

pub record Same (k : ℕ) (x : Diagnosis) (w : Wires) : Type 0 where
  pub levels : x.levels ≡ w.levels
  pub rxd1 : x.period.rxd1 ≡ min w.rxd1 4
  pub rxd2 : x.period.rxd2 ≡ min w.rxd2 4
  pub selected : x.period.connected ≡ min w.selected 4
  pub dominant : x.dominant ≡ min w.dominant 8
  pub slots : x.period.slots ≡ w.slots
  pub within : w.slots < divider k

-- ---- one count

pub counted_edges : (before levels input n m : ℕ) → n ≡ min m 4 → counted 4 (edge before levels input) n ≡ min (edges_w before levels input m) 4
unfolding counted edge edges_w
counted_edges before levels input n m h = go (eqb (input_level levels input) (input_level before input))
  where
    go : (b : Bool) → pick (not b) (pick (ltb n 4) (n + 1) n) n ≡ min (pick b m (m + 1)) 4
    go true = h
    go false =
        picked (λ (z : ℕ). z ≡ min (m + 1) 4) (ltb n 4) (n + 1) n (λ e. let l = ltb-true n 4 e in omega arith) (λ e. let l = ltb-false n 4 e in omega arith)

pub counted_run : (level n m : ℕ) → n ≡ min m 8 → dominant_run level n ≡ min (pick (eqb level 0) (m + 1) 0) 8
unfolding dominant_run counted
counted_run level n m h = go (eqb level 0)
  where
    go : (b : Bool) → pick b (pick (ltb n 8) (n + 1) n) 0 ≡ min (pick b (m + 1) 0) 8
    go true =
        picked (λ (z : ℕ). z ≡ min (m + 1) 8) (ltb n 8) (n + 1) n (λ e. let l = ltb-true n 8 e in omega arith) (λ e. let l = ltb-false n 8 e in omega arith)
    go false = omega arith

-- ---- a slot

module _ (k levels : ℕ) (turns ended : Bool) (x : Diagnosis) (w : Wires) (s : Same k x w) where
  abbrev input : ℕ
  input = connected k x

  abbrev seen : Wires
  seen = watched_w input levels w

  abbrev after : Diagnosis
  after = diagnosed k levels turns ended x

  -- both say in the same slot that the period is complete
  pub completes_same : completes k x.period ≡ ends_period k w
  unfolding completes ends_period
  completes_same = go (divider_runs k)
    where
      full : (b : Bool) → eqb (w.slots + 1) (divider k) ≡ b → leb (divider k) (x.period.slots + 1) ≡ b
      full true e = let q = eqb-true (w.slots + 1) (divider k) e in let r = s.slots in le-leb (divider k) (x.period.slots + 1) (omega arith)
      full false e = let q = eqb-false (w.slots + 1) (divider k) e in let r = s.slots in let i = s.within in lt-leb (divider k) (x.period.slots + 1) (omega arith)

      go : (r : Bool) → pick r (leb (divider k) (x.period.slots + 1)) false ≡ both r (eqb (w.slots + 1) (divider k))
      go true = full (eqb (w.slots + 1) (divider k)) refl
      go false = refl

  seen_period : ends_period k seen ≡ ends_period k w
  unfolding ends_period watched_w
  seen_period = refl

  pub rxd1_seen : counted 4 (edge x.levels levels 1) x.period.rxd1 ≡ min seen.rxd1 4
  unfolding watched_w
  rxd1_seen = rw s.levels (counted_edges w.levels levels 1 x.period.rxd1 w.rxd1 s.rxd1)

  pub rxd2_seen : counted 4 (edge x.levels levels 2) x.period.rxd2 ≡ min seen.rxd2 4
  unfolding watched_w
  rxd2_seen = rw s.levels (counted_edges w.levels levels 2 x.period.rxd2 w.rxd2 s.rxd2)

  pub selected_seen : counted 4 (edge x.levels levels input) x.period.connected ≡ min seen.selected 4
  unfolding watched_w
  selected_seen = ap (λ (b : ℕ). counted 4 (edge b levels input) x.period.connected) s.levels ∙ counted_edges w.levels levels input x.period.connected w.selected s.selected

  pub dominant_seen : dominant_run (input_level levels input) x.dominant ≡ min seen.dominant 8
  unfolding watched_w
  dominant_seen = counted_run (input_level levels input) x.dominant w.dominant s.dominant

  levels_seen : seen.levels ≡ levels
  unfolding watched_w
  levels_seen = refl

  slots_seen : seen.slots ≡ w.slots
  unfolding watched_w
  slots_seen = refl

  -- the period that is left, by what it is
  whole : (p : Period) → after.period ≡ p → (v : Wires) → v.levels ≡ levels → p.rxd1 ≡ min v.rxd1 4 → p.rxd2 ≡ min v.rxd2 4 → p.connected ≡ min v.selected 4
      → v.dominant ≡ seen.dominant → p.slots ≡ v.slots → v.slots < divider k → Same k after v
  whole p e v l a b c d n i =
      record {
        levels = levels_after k levels turns ended x ∙ sym l;
        rxd1 = ap (λ (q : Period). q.rxd1) e ∙ a;
        rxd2 = ap (λ (q : Period). q.rxd2) e ∙ b;
        selected = ap (λ (q : Period). q.connected) e ∙ c;
        dominant = dominant_after k levels turns ended x ∙ dominant_seen ∙ ap (λ (m : ℕ). min m 8) (sym d);
        slots = ap (λ (q : Period). q.slots) e ∙ n;
        within = i;
      }

  -- fewer slots than the divider where the period goes on
  goes_on : divider_runs k ≡ true → ends_period k w ≡ false → w.slots + 1 < divider k
  unfolding ends_period
  goes_on r e = go (divider_runs k) r e
    where
      go : (b : Bool) → b ≡ true → both b (eqb (w.slots + 1) (divider k)) ≡ false → w.slots + 1 < divider k
      go true d h = let q = eqb-false (w.slots + 1) (divider k) h in let i = s.within in omega arith
      go false d h = absurd (false≢true d)

  same_slot_in : (b : Bool) → ends_period k w ≡ b → (r : Bool) → divider_runs k ≡ r
      → after.period ≡ pick b new_period (pick r (with_slots (counts k levels turns ended x) (x.period.slots + 1)) (counts k levels turns ended x))
      → Same k after (pick b (renewed_w seen) (pick r (record { levels = seen.levels; rxd1 = seen.rxd1; rxd2 = seen.rxd2; selected = seen.selected; slots = seen.slots + 1; dominant = seen.dominant }) seen))
  unfolding new_period renewed_w edges_counted
  same_slot_in true e r d p = whole new_period p (renewed_w seen) levels_seen (omega arith) (omega arith) (omega arith) refl refl (let i = s.within in omega arith)
  same_slot_in false e true d p =
      whole _ p _ levels_seen rxd1_seen rxd2_seen selected_seen refl (ap (λ (n : ℕ). n + 1) (s.slots ∙ sym slots_seen))
      (subst (λ (n : ℕ). n + 1 < divider k) (sym slots_seen) (goes_on d e))
  same_slot_in false e false d p =
      whole _ p seen levels_seen rxd1_seen rxd2_seen selected_seen refl (s.slots ∙ sym slots_seen) (subst (λ (n : ℕ). n < divider k) (sym slots_seen) s.within)

  pub same_slot : Same k after (ticked_w k seen)
  unfolding ticked_w
  same_slot =
      rw seen_period
      (same_slot_in (ends_period k w) refl (divider_runs k) refl (period_after k levels turns ended x ∙ ap (λ (b : Bool). pick b new_period (pick (divider_runs k) (with_slots (counts k levels turns ended x) (x.period.slots + 1)) (counts k levels turns ended x))) completes_same))

-- ---- a pulse by hand, and other SDC bits

pub same_renewed : (k j : ℕ) (x : Diagnosis) (w : Wires) → 0 < divider j → Same k x w → Same j (renewed x) (renewed_w w)
unfolding renewed new_period renewed_w
same_renewed k j x w h s = record { levels = s.levels; rxd1 = omega arith; rxd2 = omega arith; selected = omega arith; dominant = s.dominant; slots = refl; within = h }

pub same_pulsed : (k : ℕ) (x : Diagnosis) (w : Wires) → Same k x w → Same k (pulsed k x) (renewed_w w)
unfolding pulsed turned pulse renewed new_period renewed_w
same_pulsed k x w s = record { levels = s.levels; rxd1 = omega arith; rxd2 = omega arith; selected = omega arith; dominant = s.dominant; slots = refl; within = let i = s.within in omega arith }

pub same_rate : (k j : ℕ) (x : Diagnosis) (w : Wires) → rate k ≡ rate j → Same k x w → Same j x w
same_rate k j x w e s =
    record { levels = s.levels; rxd1 = s.rxd1; rxd2 = s.rxd2; selected = s.selected; dominant = s.dominant; slots = s.slots; within = subst (λ (n : ℕ). w.slots < n) (same_divider k j e) s.within }
