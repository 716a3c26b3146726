-- A sample that carries a frame on: it is no fault, the frame stays under way, no reply begins, and no service joins.
use Prim.Native.Nat.{ℕ, ◌+◌, ◌*◌, ◌%◌, ◌/◌}
use mathlib.Core.Bool.{Bool, true, false, false≢true, not}
use mathlib.Core.List.{List}
use mathlib.Core.Path.{◌≡◌, refl, sym, ap, ◌∙◌}
use native.Mathlib.Omega.{arith}
use lib.Dec.{eqb, ltb}
use lib.ListN.{get_or}
use borrow.Author.Tests.{eq-eqb, ne_eqb, eqb-true, eqb-false}
use Rattle.line.specs.Bits.{pick}
use Rattle.line.specs.Frame.{start}
use Rattle.rules.specs.Definitions.Longest.{capacity, most_nibbles}
use Rattle.rules.specs.Definitions.Registers.{both, CV, FV}
use Rattle.rules.specs.Definitions.Channels.{acknowledge_asked}
use Rattle.rules.specs.Definitions.Reception.{under_way, is_under_way, in_body, is_body, behind, start_ended, command_ended, reads_asked, at_place, moved, entered, bit_taken, more_nibbles, nibble_taken, data_ended, begun, follow_start, follow_body, follow_acknowledge, follow_end, follow_in, followed, winner_taken}
use Rattle.rules.specs.Definitions.Hearing.{acknowledges, acknowledge_wrong, hear_start, hear_body, hear_second_half, hear_acknowledge, hear_end, hear_in, reception_after}
use Rattle.rules.specs.Definitions.Slots.{reception_judged}
use Rattle.rules.specs.declared.Phase.{Phase}
use Rattle.rules.specs.declared.Phase.TheVariants.{Quiet, Start, Body, Acknowledge, End}
use Rattle.rules.specs.declared.Reception.{Reception}
use Rattle.rules.specs.declared.Hearing.TheVariants.{Follows, Fault}
use Rattle.rules.proofs.Logic.{both_true, both_false, not_true}
use Rattle.ordinary.specs.Ways.{body_goes, acknowledge_goes, end_goes, start_goes, goes_in}

-- ---- it is no fault

second_follows : (r : Reception) (v : ℕ) → both (not (eqb v (r.bits % 2))) (ltb r.nibbles (most_nibbles capacity)) ≡ true → hear_second_half r capacity v ≡ Follows
unfolding hear_second_half
second_follows r v e =
    let a = both_true (not (eqb v (r.bits % 2))) (ltb r.nibbles (most_nibbles capacity)) e in
    rw (not_true (eqb v (r.bits % 2)) a.0, a.1)

body_follows : (r : Reception) (v : ℕ) → body_goes r v ≡ true → hear_body r capacity v ≡ Follows
unfolding body_goes hear_body
body_follows r v e = go (ltb r.place.at 4) e where
  go : (b : Bool) → pick b (not (both (eqb r.nibbles 3) (both (eqb r.place.at 2) (eqb (v % 2) 1)))) (both (not (eqb v (r.bits % 2))) (ltb r.nibbles (most_nibbles capacity))) ≡ true → pick b Follows (hear_second_half r capacity v) ≡ Follows
  go true d = refl
  go false d = second_follows r v d

acknowledge_follows : (r : Reception) (v : ℕ) → acknowledge_goes r v ≡ true → hear_acknowledge r v ≡ Follows
unfolding acknowledge_goes hear_acknowledge acknowledge_wrong
acknowledge_follows r v e =
    go (eqb r.place.at 0) (eqb (r.bits % 2) 0) (eqb v 0) (acknowledge_asked (get_or r.bytes 1 0)) (acknowledges r) e where
      go : (a b d asked drove : Bool) → pick a true (pick b false (pick d asked (not drove))) ≡ true → pick a Follows (pick (pick b true (pick d (not asked) drove)) (Fault FV) Follows) ≡ Follows
      go true b d asked drove h = refl
      go false true d asked drove h = absurd (false≢true h)
      go false false true true drove h = refl
      go false false true false drove h = absurd (false≢true h)
      go false false false asked true h = absurd (false≢true h)
      go false false false asked false h = refl

end_follows : (r : Reception) (v : ℕ) → end_goes r v ≡ true → hear_end r.place.at v ≡ Follows
unfolding end_goes hear_end
end_follows r v e = let a = both_true (not (eqb v 0)) (ltb r.place.at 7) e in rw (not_true (eqb v 0) a.0, a.1)

start_follows : (r : Reception) (resting : Bool) (v : ℕ) → start_goes r resting v ≡ true → hear_start r.place.at v ≡ Follows
unfolding start_goes hear_start
start_follows r resting v e = go (eqb v (get_or start r.place.at 1)) e where
  go : (b : Bool) → pick b (pick (ltb r.place.at 9) true resting) false ≡ true → pick b Follows (Fault CV) ≡ Follows
  go true d = refl
  go false d = absurd (false≢true d)

pub follows : (p : Phase) (r : Reception) (resting : Bool) (v : ℕ) → goes_in p r resting v ≡ true → hear_in p r capacity v ≡ Follows
unfolding goes_in hear_in
follows Quiet r resting v e = absurd (false≢true e)
follows Start r resting v e = start_follows r resting v e
follows Body r resting v e = body_follows r v e
follows Acknowledge r resting v e = acknowledge_follows r v e
follows End r resting v e = end_follows r v e

-- ---- what it leaves

pub record Stays (t : Reception) (resting : Bool) : Type 0 where
  pub going : under_way t.place ≡ true
  pub unasked : reads_asked t ≡ false
  pub unjoined : start_ended t ≡ true → resting ≡ true

-- outside the body nothing is asked, and no start has just ended
outside : (t : Reception) (resting : Bool) → is_under_way t.place.phase ≡ true → is_body t.place.phase ≡ false → Stays t resting
unfolding reads_asked start_ended behind in_body under_way
outside t resting u e =
    record { going = u; unasked = rw e; unjoined = λ d. absurd (false≢true (sym (ap (λ (b : Bool). both b (both (eqb t.nibbles 0) (eqb t.place.at 0))) e) ∙ d)) }

-- between two nibbles of the body
between : (t : Reception) (resting : Bool) → t.place.phase ≡ Body → t.place.at ≡ 0 → (start_ended t ≡ true → resting ≡ true) → Stays t resting
unfolding reads_asked in_body is_body under_way is_under_way
between t resting p a j = record { going = rw p; unasked = rw (p, a) (both_false (eqb t.nibbles 3)); unjoined = j }

start_stays : (r : Reception) (resting : Bool) (v : ℕ) → r.place.phase ≡ Start → start_goes r resting v ≡ true → Stays (follow_start r) resting
unfolding start_goes follow_start
start_stays r resting v p e = go (eqb v (get_or start r.place.at 1)) (ltb r.place.at 9) e where
  go : (a b : Bool) → pick a (pick b true resting) false ≡ true → Stays (pick b (moved r) (entered r Body)) resting
  go true true d = outside (moved r) resting (unfold moved at_place is_under_way in rw p) (unfold moved at_place is_body in rw p)
  go true false d = between (entered r Body) resting (unfold entered at_place in refl) (unfold entered at_place in refl) (λ _. d)
  go false b d = absurd (false≢true d)

-- a bit of the body: R/W 1 is not among them
bit_unasked : (r : Reception) (v : ℕ) → not (both (eqb r.nibbles 3) (both (eqb r.place.at 2) (eqb (v % 2) 1))) ≡ true → reads_asked (bit_taken r v) ≡ false
unfolding reads_asked bit_taken moved at_place in_body
bit_unasked r v e =
    let b : (r.bits % 8 * 2 + v % 2) % 2 ≡ v % 2 = omega arith in
    rw (b, next_at r.place.at) (go (is_body r.place.phase) (eqb r.nibbles 3) (eqb r.place.at 2) (eqb ((r.bits % 8 * 2 + v % 2) / 4 % 2) 1) (eqb (v % 2) 1) e) where
      next_at : (n : ℕ) → eqb (n + 1) 3 ≡ eqb n 2
      next_at n = by (eqb n 2) refl where
        by : (t : Bool) → eqb n 2 ≡ t → eqb (n + 1) 3 ≡ t
        by true d = let x = eqb-true n 2 d in eq-eqb (n + 1) 3 (omega (arith, x))
        by false d = ne_eqb (n + 1) 3 (λ q. eqb-false n 2 d (omega (arith, q)))

      go : (a n s x y : Bool) → not (both n (both s y)) ≡ true → both a (both n (both s (both x y))) ≡ false
      go false n s x y d = refl
      go true false s x y d = refl
      go true true false x y d = refl
      go true true true true true d = absurd (false≢true d)
      go true true true true false d = refl
      go true true true false y d = refl

-- behind a bit no start has just ended
bit_unended : (r : Reception) (v : ℕ) → start_ended (bit_taken r v) ≡ false
unfolding start_ended behind bit_taken moved at_place in_body
bit_unended r v =
    rw (ne_eqb (r.place.at + 1) 0 (λ q. absurd (omega (arith, q))), both_false (eqb r.nibbles 0)) (both_false (is_body r.place.phase))

bit_stays : (r : Reception) (resting : Bool) (v : ℕ) → r.place.phase ≡ Body → not (both (eqb r.nibbles 3) (both (eqb r.place.at 2) (eqb (v % 2) 1))) ≡ true → Stays (bit_taken r v) resting
bit_stays r resting v p e =
    record {
      going = unfold bit_taken moved at_place under_way is_under_way in rw p;
      unasked = bit_unasked r v e;
      unjoined = λ d. absurd (false≢true (sym (bit_unended r v) ∙ d));
    }

-- a nibble is taken, so at least one is whole
nibble_unended : (r : Reception) → ltb r.nibbles (most_nibbles capacity) ≡ true → start_ended (nibble_taken r) ≡ false
unfolding start_ended behind nibble_taken entered at_place in_body is_body more_nibbles
nibble_unended r e = rw (e, ne_eqb (r.nibbles + 1) 0 (λ q. absurd (omega (arith, q))))

nibble_stays : (r : Reception) (resting : Bool) → ltb r.nibbles (most_nibbles capacity) ≡ true → Stays (nibble_taken r) resting
nibble_stays r resting e =
    between (nibble_taken r) resting (unfold nibble_taken entered at_place in refl) (unfold nibble_taken entered at_place in refl) (λ d. absurd (false≢true (sym (nibble_unended r e) ∙ d)))

body_stays : (r : Reception) (resting : Bool) (v : ℕ) → r.place.phase ≡ Body → body_goes r v ≡ true → Stays (follow_body r v) resting
unfolding body_goes follow_body
body_stays r resting v p e = go (ltb r.place.at 4) e where
  go : (b : Bool) → pick b (not (both (eqb r.nibbles 3) (both (eqb r.place.at 2) (eqb (v % 2) 1)))) (both (not (eqb v (r.bits % 2))) (ltb r.nibbles (most_nibbles capacity))) ≡ true → Stays (pick b (bit_taken r v) (pick (eqb v (r.bits % 2)) (data_ended r) (nibble_taken r))) resting
  go true d = bit_stays r resting v p d
  go false d =
      let a = both_true (not (eqb v (r.bits % 2))) (ltb r.nibbles (most_nibbles capacity)) d in
      rw (not_true (eqb v (r.bits % 2)) a.0) (nibble_stays r resting a.1)

acknowledge_stays : (r : Reception) (resting : Bool) (v : ℕ) → r.place.phase ≡ Acknowledge → Stays (follow_acknowledge r v) resting
unfolding follow_acknowledge
acknowledge_stays r resting v p = go (eqb r.place.at 0) where
  go : (b : Bool) → Stays (pick b (bit_taken r v) (entered r End)) resting
  go true = outside (bit_taken r v) resting (unfold bit_taken moved at_place is_under_way in rw p) (unfold bit_taken moved at_place is_body in rw p)
  go false = outside (entered r End) resting (unfold entered at_place is_under_way in refl) (unfold entered at_place is_body in refl)

end_stays : (r : Reception) (resting : Bool) → r.place.phase ≡ End → Stays (follow_end r) resting
unfolding follow_end
end_stays r resting p = go (ltb r.place.at 7) where
  go : (b : Bool) → Stays (pick b (moved r) r) resting
  go true = outside (moved r) resting (unfold moved at_place is_under_way in rw p) (unfold moved at_place is_body in rw p)
  go false = outside r resting (unfold is_under_way in rw p) (unfold is_body in rw p)

stays_in : (p : Phase) (r : Reception) (resting : Bool) (v : ℕ) → r.place.phase ≡ p → goes_in p r resting v ≡ true → Stays (follow_in p r v) resting
unfolding goes_in follow_in
stays_in Quiet r resting v p e = absurd (false≢true e)
stays_in Start r resting v p e = start_stays r resting v p e
stays_in Body r resting v p e = body_stays r resting v p e
stays_in Acknowledge r resting v p e = acknowledge_stays r resting v p
stays_in End r resting v p e = end_stays r resting p

-- with the winner named
named : (m : List ℕ) (t : Reception) (resting : Bool) → Stays t resting → Stays (pick (command_ended t) (winner_taken t m) t) resting
named m t resting g = go (command_ended t) where
  won : Stays (winner_taken t m) resting
  won =
      record {
        going = unfold winner_taken in g.going;
        unasked = unfold winner_taken reads_asked in (unfold reads_asked in g.unasked);
        unjoined = unfold winner_taken start_ended behind in (unfold start_ended behind in g.unjoined);
      }

  go : (b : Bool) → Stays (pick b (winner_taken t m) t) resting
  go true = won
  go false = g

pub stays : (m : List ℕ) (r : Reception) (resting : Bool) (v : ℕ) → goes_in r.place.phase r resting v ≡ true → Stays (reception_judged m Follows r v) resting
unfolding reception_judged reception_after followed
stays m r resting v e = named m (follow_in r.place.phase r v) resting (stays_in r.place.phase r resting v refl e)

-- a frame begins
begun_stays : (resting : Bool) → Stays begun resting
begun_stays resting = outside begun resting (unfold begun at_place is_under_way in refl) (unfold begun at_place is_body in refl)

pub begins : (m : List ℕ) (r : Reception) (resting : Bool) (v : ℕ) → r.place.phase ≡ Quiet → Stays (reception_judged m Follows r v) resting
unfolding reception_judged reception_after followed follow_in
begins m r resting v p = rw p (named m begun resting (begun_stays resting))
