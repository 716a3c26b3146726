-- The rules of the three-wire diagnosis (000, Diagnosis System; 02, Req 05). Levels are RxD0 + 2·RxD1 + 4·RxD2, after the receive inversion; recessive is 1.
-- RxD0 is connected to the differential receiver, RxD1 to that of DATA, RxD2 to that of DATA-bar.
--   input_level == the level of an input        connected == the input connected to the reception logic        edge == a level unlike the last slot's
--   watched == counts, last levels and Sc after a slot        asynchronous, transmission, protocol, found == what its rules find        pulsed == an SDC pulse
--   ticked == the divider        returned == RI        diagnosed == a slot, in the order in which these act        renewed == a period anew
use Rattle.std.specs.Prelude.{ℕ, ◌+◌, ◌/◌, ◌%◌, Bool, true, false, not, eqb, ltb, leb}
use Rattle.line.specs.Bits.{pick}
use Rattle.diagnosis.specs.Control.{divider, selection, automatic, compares_transmission, divider_runs}
use Rattle.diagnosis.specs.declared.Condition.{Condition}
use Rattle.diagnosis.specs.declared.Condition.TheVariants.{Nominal, DegradedOnData, DegradedOnDataBar, MajorError}
use Rattle.diagnosis.specs.declared.Finding.{Finding}
use Rattle.diagnosis.specs.declared.Finding.TheVariants.{Nothing, Data, DataBar, Both}
use Rattle.diagnosis.specs.declared.Period.{Period}
use Rattle.diagnosis.specs.declared.Diagnosis.{Diagnosis}

-- ---- a struct anew, but for what is named

abbrev pub with_slots : Period → ℕ → Period
with_slots p n = record { slots = n; rxd1 = p.rxd1; rxd2 = p.rxd2; connected = p.connected; failure = p.failure }

abbrev pub with_failure : Period → Bool → Period
with_failure p b = record { slots = p.slots; rxd1 = p.rxd1; rxd2 = p.rxd2; connected = p.connected; failure = b }

abbrev pub with_period : Diagnosis → Period → Diagnosis
with_period x p = record { condition = x.condition; alternate = x.alternate; sc = x.sc; levels = x.levels; dominant = x.dominant; period = p }

abbrev pub with_condition : Diagnosis → Condition → Bool → Diagnosis
with_condition x c alternate = record { condition = c; alternate = alternate; sc = x.sc; levels = x.levels; dominant = x.dominant; period = x.period }

abbrev pub with_sc : Diagnosis → Bool → Diagnosis
with_sc x b = record { condition = x.condition; alternate = x.alternate; sc = b; levels = x.levels; dominant = x.dominant; period = x.period }

-- ---- reset: nominal, Sc 0, "recessive before the first after reset" (02), counts 0

unfoldable pub new_period : Period
new_period = record { slots = 0; rxd1 = 0; rxd2 = 0; connected = 0; failure = false }

unfoldable pub undiagnosed : Diagnosis
undiagnosed = record { condition = Nominal; alternate = false; sc = false; levels = 0b111; dominant = 0; period = new_period }

-- ---- levels and edges

-- 01, Session and listing: "levels RxD0 + 2·RxD1 + 4·RxD2"
unfoldable pub input_level : ℕ → ℕ → ℕ
input_level levels input = pick (eqb input 1) (levels / 2 % 2) (pick (eqb input 2) (levels / 4 % 2) (levels % 2))

-- "An edge is a level unlike the last slot's" (02)
unfoldable pub edge : ℕ → ℕ → ℕ → Bool
edge before levels input = not (eqb (input_level levels input) (input_level before input))

-- "As soon as one of the three inputs (RXD2, RXD1, RXD0) differs from the others"
unfoldable pub differ : ℕ → Bool
differ levels = not (pick (eqb levels 0) true (eqb levels 0b111))

-- a count that stops at its largest
unfoldable pub counted : ℕ → Bool → ℕ → ℕ
counted largest b n = pick b (pick (ltb n largest) (n + 1) n) n

-- ---- the input connected to the reception logic

-- Table 3: "Differential communication", "Communication on DATA", "Communication on DATA-bar", "attempt to communicate alternatively on DATA then DATA-bar every SDC period"
unfoldable pub automatic_input : Condition → Bool → ℕ
automatic_input Nominal alternate = 0
automatic_input DegradedOnData alternate = 1
automatic_input DegradedOnDataBar alternate = 2
automatic_input MajorError alternate = pick alternate 2 1

-- Tables 4 and 7
unfoldable pub connected : ℕ → Diagnosis → ℕ
connected control x =
    pick (eqb (selection control) 0b01) 2
    (pick (eqb (selection control) 0b10) 1
    (pick (automatic control) (automatic_input x.condition x.alternate) 0))

-- ---- what a slot counts; input is the one connected as it begins

unfoldable pub edges_counted : ℕ → ℕ → ℕ → Period → Period
edges_counted before levels input p =
    record {
      slots = p.slots;
      rxd1 = counted 4 (edge before levels 1) p.rxd1;
      rxd2 = counted 4 (edge before levels 2) p.rxd2;
      connected = counted 4 (edge before levels input) p.connected;
      failure = p.failure;
    }

-- "counting the number of consecutive dominant timeslots"
unfoldable pub dominant_run : ℕ → ℕ → ℕ
dominant_run level n = pick (eqb level 0) (counted 8 true n) 0

unfoldable pub watched : ℕ → ℕ → Diagnosis → Diagnosis
watched input levels x =
    record {
      condition = x.condition;
      alternate = x.alternate;
      sc = pick (differ levels) true x.sc;
      levels = levels;
      dominant = dominant_run (input_level levels input) x.dominant;
      period = edges_counted x.levels levels input x.period;
    }

-- ---- what its rules find

-- "If four edges are detected on one input and no edges on the other during the same period, the second input is considered faulty"
unfoldable pub asynchronous : Period → Finding
asynchronous p =
    pick (eqb p.rxd1 4) (pick (eqb p.rxd2 0) DataBar Nothing)
    (pick (eqb p.rxd2 4) (pick (eqb p.rxd1 0) Data Nothing) Nothing)

-- "the bus line seen as dominant is assumed to be correct, the other one, recessive, is considered faulty"
unfoldable pub transmission : Bool → ℕ → Finding
transmission compares levels =
    pick compares (pick (eqb (input_level levels 1) (input_level levels 2)) Nothing (pick (eqb (input_level levels 1) 1) Data DataBar)) Nothing

-- "If eight consecutive timeslots are dominant, the diagnosis mode will change to the major error mode."
unfoldable pub protocol : ℕ → Finding
protocol dominant = pick (eqb dominant 8) Both Nothing

-- the first that speaks
unfoldable pub or_else : Finding → Finding → Finding
or_else Nothing f = f
or_else Data f = Data
or_else DataBar f = DataBar
or_else Both f = Both

-- compares: a slot of the transmission comparison
unfoldable pub found : Bool → Diagnosis → Finding
found compares x = or_else (protocol x.dominant) (or_else (transmission compares x.levels) (asynchronous x.period))

-- ---- what that makes of the condition

unfoldable pub speaks : Finding → Bool
speaks Nothing = false
speaks Data = true
speaks DataBar = true
speaks Both = true

-- "connects the line receiver not coupled to the failing signal"
unfoldable pub condition_found : Finding → Condition → Condition
condition_found Nothing c = c
condition_found Data c = DegradedOnDataBar
condition_found DataBar c = DegradedOnData
condition_found Both c = MajorError

unfoldable pub is_major : Condition → Bool
is_major Nominal = false
is_major DegradedOnData = false
is_major DegradedOnDataBar = false
is_major MajorError = true

-- the condition, and whether a slot of the period had a finding
unfoldable pub noted : Finding → Diagnosis → Diagnosis
noted f x = with_period (with_condition x (condition_found f x.condition) x.alternate) (with_failure x.period (pick (speaks f) true x.period.failure))

-- ---- the SDC pulse, of the divider or by hand

-- "If there are less than four edges during one SDC period, the diagnosis mode will change to the major error mode." Else (003, figure 17) nominal "in specified selection mode
-- .. through an active SDC", and "in automatic selection mode .. no failure sampled by 2 consecutive SDC rising edges"
unfoldable pub condition_pulsed : ℕ → Period → Condition → Condition
condition_pulsed control p c =
    pick (ltb p.connected 4) MajorError (pick (automatic control) (pick p.failure c Nominal) Nominal)

-- "starts period and counts anew" (02)
unfoldable pub renewed : Diagnosis → Diagnosis
renewed x = with_period x new_period

unfoldable pub pulse : ℕ → Diagnosis → Diagnosis
pulse control x = renewed (with_condition x (condition_pulsed control x.period x.condition) x.alternate)

-- ---- major error: RxD1 first, the other "every SDC period". Outside major error the turn means nothing, and entering it begins with RxD1

-- by the condition before, whether there was a pulse, and the state after
unfoldable pub turned : Condition → Bool → Diagnosis → Diagnosis
turned before pulses x =
    with_condition x x.condition
    (pick (is_major before) (pick pulses (not x.alternate) x.alternate) (pick (is_major x.condition) false x.alternate))

-- a pulse by hand (000, Command Register, MSDC)
unfoldable pub pulsed : ℕ → Diagnosis → Diagnosis
pulsed control x = turned x.condition true (pulse control x)

-- ---- the divider: "connected to the timeslot clock"

-- the slot completes the period; a reached state has fewer slots than the divider
unfoldable pub completes : ℕ → Period → Bool
completes control p = pick (divider_runs control) (leb (divider control) (p.slots + 1)) false

unfoldable pub ticked : ℕ → Diagnosis → Diagnosis
ticked control x =
    pick (completes control x.period) (pulse control x)
    (pick (divider_runs control) (with_period x (with_slots x.period (x.period.slots + 1))) x)

-- ---- RI: "a pulse generated when an EOF is detected", "disabled in automatic selection mode"

unfoldable pub returns : ℕ → Bool → Bool
returns control ended = pick (automatic control) false ended

unfoldable pub returned : Diagnosis → Diagnosis
returned x = with_sc (with_condition x Nominal false) false

-- ---- a slot

-- counts; findings; the divider and its pulse; whose turn it is; RI last. turns: the model's own frame turns from dominant to recessive; ended: a good frame ends
unfoldable pub judged : ℕ → ℕ → Bool → Diagnosis → Diagnosis
judged control levels turns x =
    noted (found (pick turns (compares_transmission control) false) (watched (connected control x) levels x)) (watched (connected control x) levels x)

unfoldable pub clocked : ℕ → ℕ → Bool → Diagnosis → Diagnosis
clocked control levels turns x =
    turned x.condition (completes control x.period) (ticked control (judged control levels turns x))

unfoldable pub diagnosed : ℕ → ℕ → Bool → Bool → Diagnosis → Diagnosis
diagnosed control levels turns ended x =
    pick (returns control ended) (returned (clocked control levels turns x)) (clocked control levels turns x)

-- ---- Sa and Sb (000, Table 3): faults on DATA, on DATA-bar

unfoldable pub fault_on_data : Condition → Bool
fault_on_data Nominal = false
fault_on_data DegradedOnData = false
fault_on_data DegradedOnDataBar = true
fault_on_data MajorError = true

unfoldable pub fault_on_data_bar : Condition → Bool
fault_on_data_bar Nominal = false
fault_on_data_bar DegradedOnData = true
fault_on_data_bar DegradedOnDataBar = false
fault_on_data_bar MajorError = true
