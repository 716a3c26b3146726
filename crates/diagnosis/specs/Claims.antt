-- What closed runs of the diagnosis show: slots of given levels, with no frame of the model's own and no end of a frame, from the state after a reset.
--   ran == a run of slots        shows == Sa + 2·Sb + 4·Sc        each == what is shown after each slot        hears == the input connected
use Rattle.std.specs.Prelude.{ℕ, ◌+◌, ◌*◌, Bool, true, false, List, [], ◌∷◌, ◌++◌, ◌≡◌, replicate}
use Rattle.line.specs.Bits.{pick}
use Rattle.diagnosis.specs.Control.{rate, divider, selection, automatic, compares_transmission, divider_runs}
use Rattle.diagnosis.specs.Rules.{new_period, undiagnosed, input_level, edge, differ, counted, automatic_input, connected, edges_counted, dominant_run, watched, asynchronous, transmission, protocol, or_else, found, speaks, condition_found, is_major, noted, condition_pulsed, renewed, pulse, turned, pulsed, completes, ticked, returns, returned, judged, clocked, diagnosed, fault_on_data, fault_on_data_bar}
use Rattle.diagnosis.specs.declared.Diagnosis.{Diagnosis}

-- it unfolds every definition, so that a run computes; turns and ended as in `diagnosed`
unfoldable pub slot : ℕ → ℕ → Bool → Bool → Diagnosis → Diagnosis
unfolding rate divider selection automatic compares_transmission divider_runs new_period undiagnosed input_level edge differ counted automatic_input connected edges_counted dominant_run watched asynchronous transmission protocol or_else found speaks condition_found is_major noted condition_pulsed renewed pulse turned pulsed completes ticked returns returned judged clocked diagnosed fault_on_data fault_on_data_bar
slot control levels turns ended x = diagnosed control levels turns ended x

unfoldable pub ran : ℕ → List ℕ → Diagnosis → Diagnosis
ran control [] x = x
ran control (l ∷ ls) x = ran control ls (slot control l false false x)

unfoldable pub one : Bool → ℕ
one b = pick b 1 0

unfoldable pub shows : Diagnosis → ℕ
unfolding fault_on_data fault_on_data_bar
shows x = one (fault_on_data x.condition) + 2 * one (fault_on_data_bar x.condition) + 4 * one x.sc

unfoldable pub each : ℕ → List ℕ → Diagnosis → List ℕ
each control [] x = []
each control (l ∷ ls) x = shows (slot control l false false x) ∷ each control ls (slot control l false false x)

unfoldable pub by_hand : ℕ → Diagnosis → Diagnosis
unfolding automatic selection new_period condition_pulsed renewed pulse is_major turned pulsed
by_hand control x = pulsed control x

unfoldable pub reset : Diagnosis
unfolding new_period undiagnosed
reset = undiagnosed

unfoldable pub hears : ℕ → Diagnosis → ℕ
unfolding selection automatic automatic_input connected
hears control x = connected control x

pub record Courses : Type 0 where
  -- Table 6, its ends and the sheet's example
  pub dividers : (divider 0x00 ≡ 64) × (divider 0x70 ≡ 8192) × (divider 0xF0 ≡ 2097152)
  -- four edges on RxD2 and none on RxD1: found in the slot of the fourth; the same on the other wire; three edges find nothing
  pub cut_data : each 0x0C (2 ∷ 7 ∷ 2 ∷ 7 ∷ []) reset ≡ 4 ∷ 4 ∷ 4 ∷ 5 ∷ []
  pub cut_data_bar : each 0x0C (4 ∷ 7 ∷ 4 ∷ 7 ∷ []) reset ≡ 4 ∷ 4 ∷ 4 ∷ 6 ∷ []
  -- one edge on the other wire is enough
  pub one_edge : shows (ran 0x00 (5 ∷ 7 ∷ 5 ∷ 1 ∷ 5 ∷ []) reset) ≡ 4
  -- the automatic selection listens to the wire that works, a specified one does not follow
  pub hears_data_bar : hears 0x0C (ran 0x0C (2 ∷ 7 ∷ 2 ∷ 7 ∷ []) reset) ≡ 2
  pub hears_data : hears 0x0C (ran 0x0C (4 ∷ 7 ∷ 4 ∷ 7 ∷ []) reset) ≡ 1
  pub hears_selected : hears 0x08 (ran 0x08 (2 ∷ 7 ∷ 2 ∷ 7 ∷ []) reset) ≡ 1
  pub hears_nominal : (hears 0x0C reset ≡ 0) × (hears 0x00 reset ≡ 0) × (hears 0x04 reset ≡ 2) × (hears 0x08 reset ≡ 1) × (hears 0xFB reset ≡ 1)
  -- the divider: fewer than four edges in 64 slots are a major error, in the slot that completes the period; the edges of that slot belong to it
  pub silence : (shows (ran 0x01 (replicate 63 7) reset) ≡ 0) × (shows (ran 0x01 (replicate 64 7) reset) ≡ 3)
  pub four_edges : shows (ran 0x01 (replicate 60 7 ++ (0 ∷ 7 ∷ 0 ∷ 7 ∷ [])) reset) ≡ 0
  pub three_edges : shows (ran 0x01 (replicate 61 7 ++ (0 ∷ 7 ∷ 0 ∷ [])) reset) ≡ 3
  -- the next period counts anew: 64 slots with edges, then 64 without
  pub next_period : (shows (ran 0x01 (0 ∷ 7 ∷ 0 ∷ 7 ∷ replicate 123 7) reset) ≡ 0) × (shows (ran 0x01 (0 ∷ 7 ∷ 0 ∷ 7 ∷ replicate 124 7) reset) ≡ 3)
  -- ESDC 0: no pulse
  pub stopped : shows (ran 0x00 (replicate 70 7) reset) ≡ 0
  -- the eighth dominant slot in a row
  pub eight : each 0x00 (replicate 8 0) reset ≡ 0 ∷ 0 ∷ 0 ∷ 0 ∷ 0 ∷ 0 ∷ 0 ∷ 3 ∷ []
  pub not_in_a_row : shows (ran 0x00 (0 ∷ 0 ∷ 0 ∷ 0 ∷ 0 ∷ 0 ∷ 0 ∷ 7 ∷ 0 ∷ []) reset) ≡ 0
  -- the pulse by hand: at once; with four edges on the input connected it is nominal again; edges of another input do not count
  pub by_hand_major : shows (by_hand 0x00 reset) ≡ 3
  pub by_hand_nominal : shows (by_hand 0x00 (ran 0x00 (0 ∷ 7 ∷ 0 ∷ 7 ∷ []) (by_hand 0x00 reset))) ≡ 0
  pub by_hand_connected : (shows (ran 0x0C (3 ∷ 7 ∷ 3 ∷ 7 ∷ []) reset) ≡ 5) × (shows (by_hand 0x0C (ran 0x0C (3 ∷ 7 ∷ 3 ∷ 7 ∷ []) reset)) ≡ 7)
  -- Sc stays through a pulse
  pub sc_stays : shows (by_hand 0x00 (ran 0x00 (6 ∷ 7 ∷ 6 ∷ 7 ∷ []) reset)) ≡ 4
  -- major error: RxD1 first, the other after each pulse that finds it so; entered again it begins with RxD1
  pub turns : (hears 0x0C (by_hand 0x0C reset) ≡ 1) × (hears 0x0C (by_hand 0x0C (by_hand 0x0C reset)) ≡ 2) × (hears 0x0C (by_hand 0x0C (by_hand 0x0C (by_hand 0x0C reset))) ≡ 1)
  pub turns_again : hears 0x0C (by_hand 0x0C (by_hand 0x00 (ran 0x00 (0 ∷ 7 ∷ 0 ∷ 7 ∷ []) (by_hand 0x0C reset)))) ≡ 1
  -- automatic selection: a period with a finding keeps the state, one without makes it nominal
  pub kept_degraded : shows (by_hand 0x0C (ran 0x0C (2 ∷ 7 ∷ 2 ∷ 7 ∷ 2 ∷ 7 ∷ 2 ∷ 7 ∷ []) reset)) ≡ 5
  pub nominal_again : shows (by_hand 0x0C (ran 0x0C (0 ∷ 7 ∷ 0 ∷ 7 ∷ []) (by_hand 0x0C (ran 0x0C (2 ∷ 7 ∷ 2 ∷ 7 ∷ 2 ∷ 7 ∷ 2 ∷ 7 ∷ []) reset)))) ≡ 4
  -- a specified selection is nominal after such a pulse, whatever was found
  pub specified : shows (by_hand 0x04 (ran 0x04 (2 ∷ 7 ∷ 2 ∷ 7 ∷ []) reset)) ≡ 4
  -- the transmission comparison: the recessive wire is faulty; not without ETIP; not where both are alike
  pub compared : (shows (slot 0x02 2 true false reset) ≡ 5) × (shows (slot 0x02 4 true false reset) ≡ 6) × (shows (slot 0x00 2 true false reset) ≡ 4) × (shows (slot 0x02 6 true false reset) ≡ 4) × (shows (slot 0x02 2 false false reset) ≡ 4)
  -- RI: nominal and Sc 0, but not in automatic selection; with counts as they were the finding is back in the next slot
  pub returns_nominal : (shows (slot 0x00 7 false true (ran 0x00 (2 ∷ 7 ∷ 2 ∷ 7 ∷ []) reset)) ≡ 0) × (shows (ran 0x00 (7 ∷ []) (slot 0x00 7 false true (ran 0x00 (2 ∷ 7 ∷ 2 ∷ 7 ∷ []) reset))) ≡ 1)
  pub no_return : shows (slot 0x0C 7 false true (ran 0x0C (2 ∷ 7 ∷ 2 ∷ 7 ∷ []) reset)) ≡ 5
  -- the newest finding replaces the old: major error, then a wire that lives
  pub replaced : shows (ran 0x00 (2 ∷ 7 ∷ 2 ∷ 7 ∷ []) (by_hand 0x00 reset)) ≡ 5
  -- where two rules speak in a slot: eight dominant slots over the edges, the transmission comparison over the edges
  pub dominant_over_edges : shows (ran 0x00 (4 ∷ 6 ∷ 4 ∷ 6 ∷ 4 ∷ 6 ∷ 4 ∷ 6 ∷ []) reset) ≡ 7
  pub compared_over_edges : shows (slot 0x02 3 true false (ran 0x02 (1 ∷ 3 ∷ 1 ∷ []) (by_hand 0x02 (ran 0x02 (3 ∷ []) reset)))) ≡ 5
