-- The diagnosis of a slot: a transition matters only where ETIP is set, and the level driven does not depend on the diagnosis.
use Prim.Native.Nat.{ℕ}
use mathlib.Core.Bool.{Bool, true, false, ◌&&◌}
use mathlib.Core.List.{List}
use mathlib.Core.Path.{◌≡◌, refl, sym, ap, subst, ◌∙◌}
use lib.Dec.{eqb}
use lib.ListN.{get_or}
use Rattle.line.specs.Bits.{pick}
use Rattle.diagnosis.specs.Control.{compares_transmission}
use Rattle.diagnosis.specs.Rules.{input_level, connected, judged, clocked, diagnosed}
use Rattle.diagnosis.specs.declared.Diagnosis.{Diagnosis}
use Rattle.rules.specs.Definitions.Setters.{with_report, with_service, with_diagnosis}
use Rattle.rules.specs.Definitions.Longest.{longest_of}
use Rattle.rules.specs.Definitions.Registers.{both, line_control, diagnosis_control, received, transmitted}
use Rattle.rules.specs.Definitions.Service.{own_frame, choose, report_sending}
use Rattle.rules.specs.Definitions.State.{is_active, is_asleep, serving, idled, idle_due}
use Rattle.rules.specs.Definitions.Slots.{role_in, drives, drives_as, core_judged, judged_slot, chooses, choice_made, start_made, follows_on, levels_of, sample_of, sampled_slot, turns, diagnosis_after, diagnosed_slot, ended, active_slot}
use Rattle.rules.specs.Definitions.Run.{accept, answered, rested_slot}
use Rattle.rules.specs.Definitions.Answers.{controller}
use Rattle.rules.specs.declared.Role.{Role}
use Rattle.rules.specs.declared.Role.TheVariants.{Nobody, Receiver, Sender, Asker, Replier}
use Rattle.rules.specs.declared.Mode.{Mode}
use Rattle.rules.specs.declared.Mode.TheVariants.{Idle, Active, Asleep}
use Rattle.rules.specs.declared.Service.{Service}
use Rattle.rules.specs.declared.Core.{Core}
use Rattle.rules.specs.declared.Controller.{Controller}
use Rattle.rules.proofs.Logic.{left}
use Rattle.slots.specs.Follow.{own_dominant, turning, moved_slot, moved_level, moved_turns, moved_good, awake_slot}

and_both : (a b : Bool) → a && b ≡ both a b
and_both true b = refl
and_both false b = refl

both_both : (a b d : Bool) → both (both a b) d ≡ both a (both b d)
both_both true b d = refl
both_both false b d = refl

pub asleep_not_active : (mode : Mode) → is_asleep mode ≡ true → is_active mode ≡ false
unfolding is_asleep is_active
asleep_not_active Idle e = refl
asleep_not_active Active e = sym e
asleep_not_active Asleep e = refl

-- ---- the transition

turning_is : (control : ℕ) (before k : Core) → compares_transmission control ≡ true → turning control before k ≡ turns before k
unfolding turning own_dominant turns
turning_is control before k e = rw (e, both_both (own_frame (role_in before)) (eqb (drives before) 0) (eqb (drives k) 1))

compared : (control : ℕ) (before k : Core) → pick (turning control before k) (compares_transmission control) false ≡ pick (turns before k) (compares_transmission control) false
compared control before k = go (compares_transmission control) refl where
  never : (b : Bool) → pick b false false ≡ false
  never true = refl
  never false = refl

  go : (t : Bool) → compares_transmission control ≡ t → pick (turning control before k) t false ≡ pick (turns before k) t false
  go true e = ap (λ (b : Bool). pick b true false) (turning_is control before k e)
  go false e = rw (never (turning control before k), never (turns before k))

diagnosed_is : (control levels : ℕ) (before k : Core) (good : Bool) (x : Diagnosis) → diagnosed control levels (turning control before k) good x ≡ diagnosed control levels (turns before k) good x
unfolding diagnosed clocked judged
diagnosed_is control levels before k good x = rw (compared control before k)

-- ---- the level

drives_as_kept : (x : Role) (k : Core) (d : Diagnosis) → drives_as x (with_diagnosis k d) ≡ drives_as x k
unfolding drives_as
drives_as_kept Nobody k d = refl
drives_as_kept Receiver k d = refl
drives_as_kept Sender k d = refl
drives_as_kept Asker k d = refl
drives_as_kept Replier k d = refl

drives_kept : (k : Core) (d : Diagnosis) → drives (with_diagnosis k d) ≡ drives k
unfolding drives
drives_kept k d = drives_as_kept (role_in k) k d

pub turning_as : (control : ℕ) (before k : Core) {own : Bool} {level : ℕ} → own ≡ own_dominant control before → level ≡ drives k → own && eqb level 1 ≡ turning control before k
unfolding turning
turning_as control before k {own} {level} o l = and_both own (eqb level 1) ∙ rw (o, l)

-- ---- a sample leaves the diagnosis as it was

idle_undiagnosed : (k : Core) → (idle_due k).diagnosis ≡ k.diagnosis
unfolding idle_due idled
idle_undiagnosed k =
    left (λ (t : Core). t.diagnosis) k.activity.waiting (pick (serving k.service) k (idled k)) k k.diagnosis
    (left (λ (t : Core). t.diagnosis) (serving k.service) k (idled k) k.diagnosis refl refl) refl

choice_undiagnosed : (m : List ℕ) (k : Core) → (choice_made m k).diagnosis ≡ k.diagnosis
unfolding choice_made
choice_undiagnosed m k =
    let s : Service = choose m (longest_of k) in
    let t : Core = with_service (with_report k (report_sending k.report s)) s in
    left (λ (t : Core). t.diagnosis) (chooses k) (pick (serving s) t k) k k.diagnosis (left (λ (t : Core). t.diagnosis) (serving s) t k k.diagnosis refl refl) refl

sampled_undiagnosed : (c : Controller) (v : ℕ) → (sampled_slot c v).core.diagnosis ≡ c.core.diagnosis
unfolding sampled_slot judged_slot follows_on start_made core_judged
sampled_undiagnosed c v = choice_undiagnosed _ _ ∙ idle_undiagnosed _

moved_undiagnosed : (c : Controller) (v : ℕ) → (moved_slot c v).core.diagnosis ≡ c.core.diagnosis
unfolding moved_slot
moved_undiagnosed c v = left (λ (t : Controller). t.core.diagnosis) (is_active c.core.activity.mode) (sampled_slot c v) c c.core.diagnosis (sampled_undiagnosed c v) refl

pub undiagnosed_by : (c : Controller) (m : List ℕ) (k : Core) (v : ℕ) → controller m k ≡ moved_slot c v → k.diagnosis ≡ c.core.diagnosis
undiagnosed_by c m k v e = ap (λ (t : Controller). t.core.diagnosis) e ∙ moved_undiagnosed c v

-- ---- the slot, active and idle

sample_as : (c : Controller) (levels : ℕ) {three input v : ℕ} → three ≡ received (get_or c.memory line_control 0) levels → input ≡ connected (get_or c.memory diagnosis_control 0) c.core.diagnosis → v ≡ input_level three input → v ≡ sample_of c levels
unfolding sample_of levels_of
sample_as c levels r i l = l ∙ rw (r, i)

after_is : (c : Controller) (levels : ℕ) (t good : Bool) → diagnosis_after c levels t good ≡ diagnosed (get_or c.memory diagnosis_control 0) (received (get_or c.memory line_control 0) levels) t good c.core.diagnosis
unfolding diagnosis_after levels_of
after_is c levels t good = refl

active_is : (c : Controller) (m : List ℕ) (k : Core) (levels : ℕ) → controller m k ≡ sampled_slot c (sample_of c levels) → accept (transmitted (get_or m line_control 0) (drives k)) (controller m (with_diagnosis k (diagnosis_after c levels (turning (get_or c.memory diagnosis_control 0) c.core k) (ended c (sample_of c levels))))) ≡ answered (active_slot c levels)
unfolding active_slot diagnosed_slot diagnosis_after answered
active_is c m k levels e =
    let control : ℕ = get_or c.memory diagnosis_control 0 in
    let good : Bool = ended c (sample_of c levels) in
    rw (sym e, diagnosed_is control (levels_of c levels) c.core k good c.core.diagnosis, drives_kept k (diagnosed control (levels_of c levels) (turns c.core k) good c.core.diagnosis))

idle_is : (c : Controller) (m : List ℕ) (k : Core) (levels : ℕ) → controller m k ≡ c → accept (transmitted (get_or m line_control 0) 1) (controller m (with_diagnosis k (diagnosis_after c levels false false))) ≡ rested_slot (diagnosed_slot c levels c false false)
unfolding diagnosed_slot rested_slot
idle_is c m k levels e = rw (sym e)

awake_is : (c : Controller) (m : List ℕ) (k : Core) (levels : ℕ) → controller m k ≡ moved_slot c (sample_of c levels) → accept (transmitted (get_or m line_control 0) (moved_level c.core k)) (controller m (with_diagnosis k (diagnosis_after c levels (moved_turns (get_or c.memory diagnosis_control 0) c.core k) (moved_good c (sample_of c levels))))) ≡ awake_slot c levels
unfolding moved_slot moved_level moved_turns moved_good awake_slot
awake_is c m k levels e = go (is_active c.core.activity.mode) e where
  go : (b : Bool) → controller m k ≡ pick b (sampled_slot c (sample_of c levels)) c → accept (transmitted (get_or m line_control 0) (pick b (drives k) 1)) (controller m (with_diagnosis k (diagnosis_after c levels (pick b (turning (get_or c.memory diagnosis_control 0) c.core k) false) (pick b (ended c (sample_of c levels)) false)))) ≡ pick b (answered (active_slot c levels)) (rested_slot (diagnosed_slot c levels c false false))
  go true d = active_is c m k levels d
  go false d = idle_is c m k levels d

-- as the code has it
pub awake_as : (c : Controller) (m : List ℕ) (k : Core) (levels : ℕ) {three input v level out : ℕ} {t good : Bool} {x : Diagnosis} → three ≡ received (get_or c.memory line_control 0) levels → input ≡ connected (get_or c.memory diagnosis_control 0) c.core.diagnosis → v ≡ input_level three input → controller m k ≡ moved_slot c v → level ≡ moved_level c.core k → t ≡ moved_turns (get_or c.memory diagnosis_control 0) c.core k → good ≡ moved_good c v → x ≡ diagnosed (get_or c.memory diagnosis_control 0) three t good c.core.diagnosis → out ≡ transmitted (get_or m line_control 0) level → accept out (controller m (with_diagnosis k x)) ≡ awake_slot c levels
awake_as c m k levels {v} r i l state level t good x out =
    let s : v ≡ sample_of c levels = sample_as c levels r i l in
    rw (out, x, level, t, good, r, s) (rw (sym (after_is c levels (moved_turns (get_or c.memory diagnosis_control 0) c.core k) (moved_good c (sample_of c levels)))) (awake_is c m k levels (subst (λ (n : ℕ). controller m k ≡ moved_slot c n) s state)))
