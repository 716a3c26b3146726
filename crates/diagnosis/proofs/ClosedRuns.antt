-- Closed runs, computed. What each shows is said at its statement.
use mathlib.Core.Bool.{true, false}
use mathlib.Core.List.{[], ◌∷◌, ◌++◌}
use mathlib.Core.Path.{◌≡◌, refl}
use lib.ListN.{replicate}
use Rattle.diagnosis.specs.Control.{rate, divider}
use Rattle.diagnosis.specs.Claims.{slot, ran, one, shows, each, by_hand, reset, hears, Courses}

dividers : (divider 0x00 ≡ 64) × (divider 0x70 ≡ 8192) × (divider 0xF0 ≡ 2097152)
unfolding rate divider
dividers = (refl, refl, refl)

cut_data : each 0x0C (2 ∷ 7 ∷ 2 ∷ 7 ∷ []) reset ≡ 4 ∷ 4 ∷ 4 ∷ 5 ∷ []
unfolding slot ran one shows each by_hand reset hears
cut_data = refl

cut_data_bar : each 0x0C (4 ∷ 7 ∷ 4 ∷ 7 ∷ []) reset ≡ 4 ∷ 4 ∷ 4 ∷ 6 ∷ []
unfolding slot ran one shows each by_hand reset hears
cut_data_bar = refl

one_edge : shows (ran 0x00 (5 ∷ 7 ∷ 5 ∷ 1 ∷ 5 ∷ []) reset) ≡ 4
unfolding slot ran one shows each by_hand reset hears
one_edge = refl

hears_data_bar : hears 0x0C (ran 0x0C (2 ∷ 7 ∷ 2 ∷ 7 ∷ []) reset) ≡ 2
unfolding slot ran one shows each by_hand reset hears
hears_data_bar = refl

hears_data : hears 0x0C (ran 0x0C (4 ∷ 7 ∷ 4 ∷ 7 ∷ []) reset) ≡ 1
unfolding slot ran one shows each by_hand reset hears
hears_data = refl

hears_selected : hears 0x08 (ran 0x08 (2 ∷ 7 ∷ 2 ∷ 7 ∷ []) reset) ≡ 1
unfolding slot ran one shows each by_hand reset hears
hears_selected = refl

hears_nominal : (hears 0x0C reset ≡ 0) × (hears 0x00 reset ≡ 0) × (hears 0x04 reset ≡ 2) × (hears 0x08 reset ≡ 1) × (hears 0xFB reset ≡ 1)
unfolding slot ran one shows each by_hand reset hears
hears_nominal = (refl, refl, refl, refl, refl)

silence : (shows (ran 0x01 (replicate 63 7) reset) ≡ 0) × (shows (ran 0x01 (replicate 64 7) reset) ≡ 3)
unfolding slot ran one shows each by_hand reset hears
silence = (refl, refl)

four_edges : shows (ran 0x01 (replicate 60 7 ++ (0 ∷ 7 ∷ 0 ∷ 7 ∷ [])) reset) ≡ 0
unfolding slot ran one shows each by_hand reset hears
four_edges = refl

three_edges : shows (ran 0x01 (replicate 61 7 ++ (0 ∷ 7 ∷ 0 ∷ [])) reset) ≡ 3
unfolding slot ran one shows each by_hand reset hears
three_edges = refl

next_period : (shows (ran 0x01 (0 ∷ 7 ∷ 0 ∷ 7 ∷ replicate 123 7) reset) ≡ 0) × (shows (ran 0x01 (0 ∷ 7 ∷ 0 ∷ 7 ∷ replicate 124 7) reset) ≡ 3)
unfolding slot ran one shows each by_hand reset hears
next_period = (refl, refl)

stopped : shows (ran 0x00 (replicate 70 7) reset) ≡ 0
unfolding slot ran one shows each by_hand reset hears
stopped = refl

eight : each 0x00 (replicate 8 0) reset ≡ 0 ∷ 0 ∷ 0 ∷ 0 ∷ 0 ∷ 0 ∷ 0 ∷ 3 ∷ []
unfolding slot ran one shows each by_hand reset hears
eight = refl

not_in_a_row : shows (ran 0x00 (0 ∷ 0 ∷ 0 ∷ 0 ∷ 0 ∷ 0 ∷ 0 ∷ 7 ∷ 0 ∷ []) reset) ≡ 0
unfolding slot ran one shows each by_hand reset hears
not_in_a_row = refl

by_hand_major : shows (by_hand 0x00 reset) ≡ 3
unfolding slot ran one shows each by_hand reset hears
by_hand_major = refl

by_hand_nominal : shows (by_hand 0x00 (ran 0x00 (0 ∷ 7 ∷ 0 ∷ 7 ∷ []) (by_hand 0x00 reset))) ≡ 0
unfolding slot ran one shows each by_hand reset hears
by_hand_nominal = refl

by_hand_connected : (shows (ran 0x0C (3 ∷ 7 ∷ 3 ∷ 7 ∷ []) reset) ≡ 5) × (shows (by_hand 0x0C (ran 0x0C (3 ∷ 7 ∷ 3 ∷ 7 ∷ []) reset)) ≡ 7)
unfolding slot ran one shows each by_hand reset hears
by_hand_connected = (refl, refl)

sc_stays : shows (by_hand 0x00 (ran 0x00 (6 ∷ 7 ∷ 6 ∷ 7 ∷ []) reset)) ≡ 4
unfolding slot ran one shows each by_hand reset hears
sc_stays = refl

turns : (hears 0x0C (by_hand 0x0C reset) ≡ 1) × (hears 0x0C (by_hand 0x0C (by_hand 0x0C reset)) ≡ 2) × (hears 0x0C (by_hand 0x0C (by_hand 0x0C (by_hand 0x0C reset))) ≡ 1)
unfolding slot ran one shows each by_hand reset hears
turns = (refl, refl, refl)

turns_again : hears 0x0C (by_hand 0x0C (by_hand 0x00 (ran 0x00 (0 ∷ 7 ∷ 0 ∷ 7 ∷ []) (by_hand 0x0C reset)))) ≡ 1
unfolding slot ran one shows each by_hand reset hears
turns_again = refl

kept_degraded : shows (by_hand 0x0C (ran 0x0C (2 ∷ 7 ∷ 2 ∷ 7 ∷ 2 ∷ 7 ∷ 2 ∷ 7 ∷ []) reset)) ≡ 5
unfolding slot ran one shows each by_hand reset hears
kept_degraded = refl

nominal_again : shows (by_hand 0x0C (ran 0x0C (0 ∷ 7 ∷ 0 ∷ 7 ∷ []) (by_hand 0x0C (ran 0x0C (2 ∷ 7 ∷ 2 ∷ 7 ∷ 2 ∷ 7 ∷ 2 ∷ 7 ∷ []) reset)))) ≡ 4
unfolding slot ran one shows each by_hand reset hears
nominal_again = refl

specified : shows (by_hand 0x04 (ran 0x04 (2 ∷ 7 ∷ 2 ∷ 7 ∷ []) reset)) ≡ 4
unfolding slot ran one shows each by_hand reset hears
specified = refl

compared : (shows (slot 0x02 2 true false reset) ≡ 5) × (shows (slot 0x02 4 true false reset) ≡ 6) × (shows (slot 0x00 2 true false reset) ≡ 4) × (shows (slot 0x02 6 true false reset) ≡ 4) × (shows (slot 0x02 2 false false reset) ≡ 4)
unfolding slot ran one shows each by_hand reset hears
compared = (refl, refl, refl, refl, refl)

returns_nominal : (shows (slot 0x00 7 false true (ran 0x00 (2 ∷ 7 ∷ 2 ∷ 7 ∷ []) reset)) ≡ 0) × (shows (ran 0x00 (7 ∷ []) (slot 0x00 7 false true (ran 0x00 (2 ∷ 7 ∷ 2 ∷ 7 ∷ []) reset))) ≡ 1)
unfolding slot ran one shows each by_hand reset hears
returns_nominal = (refl, refl)

no_return : shows (slot 0x0C 7 false true (ran 0x0C (2 ∷ 7 ∷ 2 ∷ 7 ∷ []) reset)) ≡ 5
unfolding slot ran one shows each by_hand reset hears
no_return = refl

replaced : shows (ran 0x00 (2 ∷ 7 ∷ 2 ∷ 7 ∷ []) (by_hand 0x00 reset)) ≡ 5
unfolding slot ran one shows each by_hand reset hears
replaced = refl

dominant_over_edges : shows (ran 0x00 (4 ∷ 6 ∷ 4 ∷ 6 ∷ 4 ∷ 6 ∷ 4 ∷ 6 ∷ []) reset) ≡ 7
unfolding slot ran one shows each by_hand reset hears
dominant_over_edges = refl

compared_over_edges : shows (slot 0x02 3 true false (ran 0x02 (1 ∷ 3 ∷ 1 ∷ []) (by_hand 0x02 (ran 0x02 (3 ∷ []) reset)))) ≡ 5
unfolding slot ran one shows each by_hand reset hears
compared_over_edges = refl

pub courses : Courses
courses =
    record {
      dividers = dividers;
      cut_data = cut_data;
      cut_data_bar = cut_data_bar;
      one_edge = one_edge;
      hears_data_bar = hears_data_bar;
      hears_data = hears_data;
      hears_selected = hears_selected;
      hears_nominal = hears_nominal;
      silence = silence;
      four_edges = four_edges;
      three_edges = three_edges;
      next_period = next_period;
      stopped = stopped;
      eight = eight;
      not_in_a_row = not_in_a_row;
      by_hand_major = by_hand_major;
      by_hand_nominal = by_hand_nominal;
      by_hand_connected = by_hand_connected;
      sc_stays = sc_stays;
      turns = turns;
      turns_again = turns_again;
      kept_degraded = kept_degraded;
      nominal_again = nominal_again;
      specified = specified;
      compared = compared;
      returns_nominal = returns_nominal;
      no_return = no_return;
      replaced = replaced;
      dominant_over_edges = dominant_over_edges;
      compared_over_edges = compared_over_edges;
    }
