-- Every controller that a fresh one reaches is fine: none is refused with number 6. A refused event changes nothing.
--   fine_fresh, fine_next, fine_after == every reached controller is fine        in_range_other == a controller in range is never refused with 6 (Never6.antt: none that is reached is)
--   refused_same, refused_value == a refusal leaves the controller as it is, with zero elsewhere
use Prim.Native.Nat.{ℕ, ◌%◌, ◌≤◌, ◌<◌}
use mathlib.Core.Bool.{Bool, true, false, not, false≢true}
use mathlib.Core.List.{List, [], ◌∷◌}
use mathlib.Core.Path.{◌≡◌, refl, sym, ap, subst, ◌∙◌}
use native.Mathlib.Omega.{arith}
use borrow.Author.Tests.{eq-eqb}
use lib.Dec.{eqb}
use lib.ListN.{get_or, set}
use Rattle.line.specs.Bits.{Below}
use Rattle.line.proofs.Laws.{picked}
use Rattle.diagnosis.specs.declared.Diagnosis.{Diagnosis}
use Rattle.rules.specs.Definitions.Setters.{with_activity, with_report, with_service, with_diagnosis}
use Rattle.rules.specs.Definitions.Longest.{longest_of}
use Rattle.rules.specs.Definitions.Registers.{both, command, interrupt_reset, transmit_control, autonomous, write_only, asks_idle, asks_activation, asks_rearbitration, reset_report, CV, BOV}
use Rattle.rules.specs.Definitions.Reception.{unsettled, reads_asked}
use Rattle.rules.specs.Definitions.Hearing.{hear_frame}
use Rattle.rules.specs.Definitions.Delivery.{delivery_of}
use Rattle.rules.specs.Definitions.Service.{ending_of, good_for, answered_as, fulfils, judge_reply, reply_taken, stopped, choose, aborts, abort_asked, rear_asked}
use Rattle.rules.specs.Definitions.State.{in_range, is_active, serving, in_mode, reset_core, idled, idle_due, slept, idle_asked, activated}
use Rattle.rules.specs.Definitions.Slots.{role_in, reply_verdict, heard_as, heard, delivers, verdict_as, verdict, service_judged, ending, reception_judged, report_after, memory_judged, reply_after, core_judged, chooses, choice_made, start_made, follows_on, sample_of, judged_slot, sampled_slot, diagnosed_slot, active_slot, resting_slot}
use Rattle.rules.specs.Definitions.Host.{reset_all, resets, sleeps, mode_commanded, rear_commanded, kept_byte, flags_cleared, core_written, service_asked, stopped_core, byte_written, host_written, byte_read, access_refusals, write_refusals, read_refusals}
use Rattle.rules.specs.Definitions.Answers.{number}
use Rattle.rules.specs.Definitions.Run.{fresh, refuse, accept, unless_refused, pin_reset, host_write, host_read, answered, rested_slot, slot, step, next, after}
use Rattle.every_run.proofs.Ranges.Limits.{ReplyLimits, RetriesLimits, ReportLimits, Fine}
use Rattle.every_run.proofs.Ranges.Bytes.{set_below, zeros_below, reset_below}
use Rattle.every_run.proofs.Ranges.Reception.{Received, quiet_received, judged_received, line_small, Heard, silent, follows, fault, good, frame_heard, quiet_heard, heard_report, delivered_report, delivered_below}
use Rattle.rules.proofs.Logic.{both_true}
use Rattle.every_run.proofs.Judged.{slot_judged, Awaited, on, broken, fulfilled, Tried, unjudged, judged, awaited}
use Rattle.every_run.proofs.Ranges.Service.{Served, resting_served, own_heard, slot_heard, Spent, served_spent, judged_spent, Ends, fulfilment, stopped_ends, ending_ends, settled_served, ended_below, replied_below, sending_report, judged_report, ended_report, replied_report, none_replies, replied_limits, taken_limits, choose_served, started_served, abort_served, rear_served}
use Rattle.every_run.proofs.Steps.{Call, refused, taken, call_of, resting_cases}
use Rattle.rules.specs.declared.Report.{Report}
use Rattle.rules.specs.declared.Service.{Service}
use Rattle.rules.specs.declared.Hearing.{Hearing}
use Rattle.rules.specs.declared.Reception.{Reception}
use Rattle.rules.specs.declared.Delivery.{Delivery}
use Rattle.rules.specs.declared.Delivery.TheVariants as delivery
use Rattle.rules.specs.declared.Ending.TheVariants.{Fulfilled}
use Rattle.rules.specs.declared.Verdict.{Verdict}
use Rattle.rules.specs.declared.Role.{Role}
use Rattle.rules.specs.declared.Role.TheVariants.{Nobody, Receiver, Sender, Asker, Replier}
use Rattle.rules.specs.declared.Mode.TheVariants.{Active}
use Rattle.rules.specs.declared.Activity.{Activity}
use Rattle.rules.specs.declared.Core.{Core}
use Rattle.rules.specs.declared.Controller.{Controller}
use Rattle.rules.specs.declared.Answer.{Answer}
use Rattle.rules.specs.declared.Refusal.{Refusal}
use Rattle.rules.specs.declared.Refusal.TheVariants.{Range}
use Rattle.rules.specs.declared.Event.{Event}
use Rattle.rules.specs.declared.Event.TheVariants.{Reset, Write, Read, Slot}

-- ---- what a fine controller's state keeps, part by part

pub record FineCore (k : Core) : Type 0 where
  pub report : ReportLimits k.report
  pub line : k.line.count ≤ 12
  pub reception : Received k.reception
  pub service : Served k.service
  pub reply : ReplyLimits k.reply

pub core_fine : (c : Controller) → Below 256 c.memory → FineCore c.core → Fine c
core_fine c b f =
    record {
      memory = b;
      received = f.reception.bytes;
      limits = record { report = f.report; line = f.line; reception = f.reception.limits; service = f.service.limits; reply = f.reply };
      retries = f.service.retries;
    }

pub fine_core : (c : Controller) → Fine c → FineCore c.core
fine_core c f =
    let l = f.limits in
    record {
      report = l.report;
      line = l.line;
      reception = record { limits = l.reception; bytes = f.received };
      service = record { limits = l.service; retries = f.retries };
      reply = l.reply;
    }

-- ---- a sample, with its effects

as_heard : (x : Role) (k : Core) {w : Verdict} (v : ℕ) → Tried k.service.effort v w → Heard (heard_as x k w v)
unfolding heard_as
as_heard Nobody k v j = quiet_heard k.line v
as_heard Receiver k v j = frame_heard k.reception (longest_of k) v
as_heard Sender k v j = own_heard j
as_heard Asker k v j = frame_heard k.reception (longest_of k) v
as_heard Replier k v j = unfold judge_reply in slot_heard (slot_judged k.reply.frame k.reply.at v)

is_heard : (k : Core) {w : Verdict} (v : ℕ) → Tried k.service.effort v w → Heard (heard k w v)
unfolding heard
is_heard k v j = as_heard (role_in k) k v j

-- what a sample is for an attempt that is answered
good_awaited : (d : Delivery) → Awaited (good_for d)
unfolding good_for
good_awaited delivery.Nothing = broken CV (omega arith)
good_awaited delivery.Stored = fulfilled
good_awaited delivery.Overflowed = broken BOV (omega arith)
good_awaited delivery.Spoiled = broken CV (omega arith)

answered_awaited : {h : Hearing} → Heard h → (d : Delivery) → Awaited (answered_as h d)
unfolding answered_as
answered_awaited silent d = on
answered_awaited follows d = on
answered_awaited (fault code h) d = broken code h
answered_awaited good d = good_awaited d

verdict_as_tried : (x : Role) (k : Core) (v : ℕ) → Tried k.service.effort v (verdict_as x k v)
unfolding verdict_as
verdict_as_tried Nobody k v = unjudged
verdict_as_tried Receiver k v = unjudged
verdict_as_tried Sender k v = judged (slot_judged k.service.effort.frame k.service.effort.progress.at v)
verdict_as_tried Asker k v = awaited (answered_awaited (frame_heard k.reception (longest_of k) v) (delivery_of (hear_frame k.reception (longest_of k) v) k.reception))
verdict_as_tried Replier k v = unjudged

pub verdict_tried : (k : Core) (v : ℕ) → Tried k.service.effort v (verdict k v)
unfolding verdict
verdict_tried k v = verdict_as_tried (role_in k) k v

ends_so : (k : Core) (w : Verdict) (h : Hearing) → Spent (service_judged w k.service) → Ends (service_judged w k.service) (ending k w h)
unfolding ending
ends_so k w h s =
    picked (Ends (service_judged w k.service)) (fulfils (delivers (role_in k) h k.reception) k.reception k.service) Fulfilled (ending_of w (service_judged w k.service))
    (λ e. fulfilment) (λ e. ending_ends w (service_judged w k.service) s)

after_report : (k : Core) (w q : Verdict) {h : Hearing} {v : ℕ} → FineCore k → Tried k.service.effort v w → Heard h → ReportLimits (report_after k w q h)
unfolding report_after
after_report k w q {h} f j i =
    let s : Spent (service_judged w k.service) = judged_spent k.service j f.service in
    replied_report q _ k.reply.channel
    (ended_report (ending k w h) _ (service_judged w k.service)
    (judged_report j _ (service_judged w k.service)
    (delivered_report (delivers (role_in k) h k.reception) _ k.reception (heard_report i k.report f.report) f.reception) s)
    s)
    f.reply.channel

judged_below : {m : List ℕ} → Below 256 m → (k : Core) (w q : Verdict) (h : Hearing) → FineCore k → Below 256 (memory_judged m k w q h)
unfolding memory_judged
judged_below b k w q h f =
    replied_below q (ended_below (ending k w h) (delivered_below (delivers (role_in k) h k.reception) b k.reception f.reception) k.service.channel) k.reply.channel

reply_kept : (x : Role) (m : List ℕ) (k : Core) (v : ℕ) (r : Reception) → ReplyLimits k.reply → ReplyLimits (reply_after x m k (reply_verdict x k v) r)
unfolding reply_after reply_verdict
reply_kept Nobody m k v r l = l
reply_kept Receiver m k v r l = picked ReplyLimits (reads_asked r) (reply_taken m (longest_of k) r) k.reply (λ e. taken_limits m (longest_of k) r) (λ e. l)
reply_kept Sender m k v r l = l
reply_kept Asker m k v r l = l
reply_kept Replier m k v r l = replied_limits k.reply v l

judged_kept : {m : List ℕ} → Below 256 m → (k : Core) (w : Verdict) {h : Hearing} (v : ℕ) → FineCore k → Tried k.service.effort v w → Heard h
    → FineCore (core_judged m k w (reply_verdict (role_in k) k v) h v)
unfolding core_judged
judged_kept {m} b k w {h} v f j i =
    let s : Spent (service_judged w k.service) = judged_spent k.service j f.service in
    record {
      report = after_report k w (reply_verdict (role_in k) k v) f j i;
      line = line_small h k.line v f.line;
      reception = judged_received b h k.reception v f.reception;
      service = settled_served (service_judged w k.service) s (ends_so k w h s);
      reply = reply_kept (role_in k) m k v (reception_judged m h k.reception v) f.reply;
    }

-- ---- what follows: idle, choice, start

report_kept : (k : Core) (x : Report) → FineCore k → ReportLimits x → FineCore (with_report k x)
report_kept k x f l = record { report = l; line = f.line; reception = f.reception; service = f.service; reply = f.reply }

service_kept : (k : Core) (s : Service) → FineCore k → Served s → FineCore (with_service k s)
service_kept k s f g = record { report = f.report; line = f.line; reception = f.reception; service = g; reply = f.reply }

activity_kept : (k : Core) (a : Activity) → FineCore k → FineCore (with_activity k a)
activity_kept k a f = record { report = f.report; line = f.line; reception = f.reception; service = f.service; reply = f.reply }

idled_kept : (k : Core) → FineCore k → FineCore (idled k)
unfolding idled
idled_kept k f = record { report = f.report; line = f.line; reception = quiet_received; service = f.service; reply = none_replies }

idle_kept : (k : Core) → FineCore k → FineCore (idle_due k)
unfolding idle_due
idle_kept k f =
    picked FineCore k.activity.waiting _ k (λ e. picked FineCore (serving k.service) k (idled k) (λ d. f) (λ d. idled_kept k f)) (λ e. f)

choice_kept : {m : List ℕ} → Below 256 m → (k : Core) → FineCore k → FineCore (choice_made m k)
unfolding choice_made
choice_kept {m} b k f =
    let s : Served (choose m (longest_of k)) = choose_served b (longest_of k) in
    picked FineCore (chooses k) _ k
    (λ e. picked FineCore (serving (choose m (longest_of k))) _ k
    (λ d. service_kept _ (choose m (longest_of k)) (report_kept k _ f (sending_report k.report (choose m (longest_of k)) f.report (served_spent _ s))) s)
    (λ d. f))
    (λ e. f)

start_kept : (m : List ℕ) (k : Core) → FineCore k → FineCore (start_made m k)
unfolding start_made
start_kept m k f = service_kept k _ f (started_served k.service (autonomous (get_or m transmit_control 0)) k.line k.reception f.service)

follows_kept : {m : List ℕ} → Below 256 m → (k : Core) → FineCore k → FineCore (follows_on m k)
unfolding follows_on
follows_kept {m} b k f = start_kept m _ (choice_kept b _ (idle_kept k f))

-- ---- the slot

judged_fine : (c : Controller) (w : Verdict) {h : Hearing} (v : ℕ) → Fine c → Tried c.core.service.effort v w → Heard h → Fine (judged_slot c w (reply_verdict (role_in c.core) c.core v) h v)
unfolding judged_slot
judged_fine c w {h} v f j i =
    let k = fine_core c f in
    let b = judged_below f.memory c.core w (reply_verdict (role_in c.core) c.core v) h k in
    core_fine _ b (follows_kept b _ (judged_kept b c.core w v k j i))

sampled_fine : (c : Controller) (v : ℕ) → Fine c → Fine (sampled_slot c v)
unfolding sampled_slot
sampled_fine c v f = let j = verdict_tried c.core v in judged_fine c _ v f j (is_heard c.core v j)

-- what a fine controller keeps does not look at the diagnosis
beside_fine : (c : Controller) (x : Diagnosis) → Fine c → Fine (record { memory = c.memory; core = with_diagnosis c.core x })
beside_fine c x f =
    let l = f.limits in
    record {
      memory = f.memory;
      received = f.received;
      limits = record { report = l.report; line = l.line; reception = l.reception; service = l.service; reply = l.reply };
      retries = f.retries;
    }

active_fine : (c : Controller) (levels : ℕ) → Fine c → Fine (active_slot c levels)
unfolding active_slot diagnosed_slot
active_fine c levels f = beside_fine (sampled_slot c (sample_of c levels)) _ (sampled_fine c (sample_of c levels) f)

resting_fine : (c : Controller) (levels : ℕ) → Fine c → Fine (resting_slot c levels)
unfolding diagnosed_slot
resting_fine c levels f = resting_cases Fine c levels f (beside_fine c _ f)

-- ---- reset

reset_kept : FineCore reset_core
unfolding reset_core reset_report unsettled
reset_kept =
    let r : RetriesLimits (record { count = 0; channel = 0 }) = record { count = omega arith; channel = omega arith } in
    record { report = record { sending = r; message = r; error = omega arith }; line = omega arith; reception = quiet_received; service = resting_served; reply = none_replies }

reset_fine : (c : Controller) → Below 256 c.memory → Fine (reset_all c)
unfolding reset_all
reset_fine c b = core_fine _ (reset_below b) reset_kept

-- ---- a write

activated_kept : (k : Core) → FineCore k → FineCore (activated k)
unfolding activated unsettled
activated_kept k f =
    picked FineCore (is_active k.activity.mode) (with_activity k (in_mode Active false)) _ (λ e. activity_kept k (in_mode Active false) f)
    (λ e. record { report = f.report; line = omega arith; reception = f.reception; service = f.service; reply = f.reply })

idle_asked_kept : (k : Core) → FineCore k → FineCore (idle_asked k)
unfolding idle_asked
idle_asked_kept k f = picked FineCore (is_active k.activity.mode) (with_activity k (in_mode Active true)) k (λ e. activity_kept k (in_mode Active true) f) (λ e. f)

mode_kept : (k : Core) (v : ℕ) → FineCore k → FineCore (mode_commanded k v)
unfolding mode_commanded
mode_kept k v f =
    picked FineCore (asks_idle v) (idle_asked k) _ (λ e. idle_asked_kept k f)
    (λ e. picked FineCore (asks_activation v) (activated k) k (λ d. activated_kept k f) (λ d. f))

cleared_kept : (k : Core) (v : ℕ) → FineCore k → FineCore (flags_cleared k v)
unfolding flags_cleared
cleared_kept k v f = let l = f.report in report_kept k _ f (record { sending = l.sending; message = l.message; error = l.error })

written_kept : (k : Core) (address v : ℕ) → FineCore k → FineCore (core_written k address v)
unfolding core_written
written_kept k address v f =
    picked FineCore (eqb address command) (mode_commanded k v) _ (λ e. mode_kept k v f)
    (λ e. picked FineCore (eqb address interrupt_reset) (flags_cleared k v) k (λ d. cleared_kept k v f) (λ d. f))

asked_served : (s : Service) (address v : ℕ) → Served s → Served (service_asked s address v)
unfolding service_asked rear_commanded
asked_served s address v f =
    picked Served (eqb address command) _ _
    (λ e. picked Served (asks_rearbitration v) (rear_asked s) s (λ d. rear_served s f) (λ d. f))
    (λ e. picked Served (aborts s address v) (abort_asked s) s (λ d. abort_served s f) (λ d. f))

stopped_kept : (k : Core) (s : Service) → FineCore k → Served s → FineCore (stopped_core k s)
unfolding stopped_core
stopped_kept k s f g =
    let p = served_spent s g in
    idle_kept _ (service_kept _ _ (report_kept k _ f (ended_report (stopped s) k.report s f.report p)) (settled_served s p (stopped_ends s p)))

slept_kept : (k : Core) → FineCore k → FineCore (slept k)
unfolding slept
slept_kept k f = record { report = f.report; line = f.line; reception = quiet_received; service = resting_served; reply = none_replies }

kept_below : {m : List ℕ} → Below 256 m → (address v : ℕ) → v < 256 → Below 256 (kept_byte m address v)
unfolding kept_byte
kept_below {m} b address v h = picked (Below 256) (write_only address) m (set m (address % 256) v) (λ e. b) (λ e. set_below b (address % 256) v h)

byte_fine : (c : Controller) (address v : ℕ) → v < 256 → Fine c → Fine (byte_written c address v)
unfolding byte_written
byte_fine c address v h f =
    let k = fine_core c f in
    beside_fine (record { memory = _; core = _ }) _
    (core_fine _ (ended_below _ (kept_below f.memory address v h) c.core.service.channel)
    (stopped_kept _ _ (written_kept c.core address v k) (asked_served c.core.service address v k.service)))

written_fine : (c : Controller) (address v : ℕ) → v < 256 → Fine c → Fine (host_written c address v)
unfolding host_written
written_fine c address v h f =
    picked Fine (resets address v) (reset_all c) _ (λ e. reset_fine c f.memory)
    (λ e. picked Fine (sleeps address v) _ (byte_written c address v) (λ d. core_fine _ f.memory (slept_kept c.core (fine_core c f))) (λ d. byte_fine c address v h f))

-- ---- every event

fine_called : (c : Controller) (a x : Answer) → Fine c → Fine a.next → Call c a x → Fine x.next
unfolding refuse
fine_called c a x f g (refused why h) = subst (λ (y : Answer). Fine y.next) (sym h) f
fine_called c a x f g (taken h) = subst (λ (y : Answer). Fine y.next) (sym h) g

pub fine_next : (c : Controller) (e : Event) → Fine c → Fine (next c e)
unfolding next step pin_reset host_write host_read slot accept answered rested_slot
fine_next c Reset f = fine_called c _ _ f (reset_fine c f.memory) (call_of c _ (accept 0 (reset_all c)))
fine_next c (Write address value) f =
    fine_called c _ _ f (written_fine c address (value % 256) (omega arith) f) (call_of c _ (accept 0 (host_written c address (value % 256))))
fine_next c (Read address) f = fine_called c _ _ f f (call_of c _ (accept (byte_read c address) c))
fine_next c (Slot levels) f =
    fine_called c _ _ f
    (picked (λ (y : Answer). Fine y.next) (is_active c.core.activity.mode) (answered (active_slot c levels)) (rested_slot (resting_slot c levels)) (λ a. active_fine c levels f) (λ a. resting_fine c levels f))
    (call_of c _ _)

pub fine_fresh : Fine fresh
unfolding fresh
fine_fresh = reset_fine _ (zeros_below 256)

pub fine_from : (c : Controller) (es : List Event) → Fine c → Fine (after c es)
unfolding after
fine_from c [] f = f
fine_from c (e ∷ es) f = fine_from (next c e) es (fine_next c e f)

pub fine_after : (es : List Event) → Fine (after fresh es)
fine_after es = fine_from fresh es fine_fresh

-- ---- number 6

abbrev Other : ℕ → Type 0
Other n = n ≡ 6 → ⊥

-- no refusal of a list has number 6
abbrev sixless : List (Bool × Refusal) → Bool
sixless [] = true
sixless (r ∷ rs) = both (not (eqb (number r.1) 6)) (sixless rs)

other : (why : Refusal) → not (eqb (number why) 6) ≡ true → Other (number why)
other why s d = false≢true (sym (ap not (eq-eqb (number why) 6 d)) ∙ s)

others : (c : Controller) (rs : List (Bool × Refusal)) (a : Answer) → sixless rs ≡ true → Other a.refused → Other (unless_refused c rs a).refused
unfolding unless_refused refuse
others c [] a s h = h
others c (r ∷ rs) a s h =
    let b = both_true (not (eqb (number r.1) 6)) (sixless rs) s in
    picked (λ (x : Answer). Other x.refused) r.0 (refuse c r.1) (unless_refused c rs a) (λ e. other r.1 b.0) (λ e. others c rs a b.1 h)

-- the first refusal of every call is 6, where a number is not in range
others_in_range : (c : Controller) (rs : List (Bool × Refusal)) (a : Answer) → in_range c ≡ true → sixless rs ≡ true → Other a.refused
    → Other (unless_refused c ((not (in_range c), Range) ∷ rs) a).refused
unfolding unless_refused
others_in_range c rs a i s h = rw i (others c rs a s h)

-- a controller in range is never refused with 6
pub in_range_other : (c : Controller) (e : Event) → in_range c ≡ true → (step c e).refused ≡ 6 → ⊥
unfolding step pin_reset host_write host_read slot answered rested_slot accept access_refusals write_refusals read_refusals number
in_range_other c Reset h = others_in_range c _ _ h refl (λ d. omega arith)
in_range_other c (Write address value) h = others_in_range c _ _ h refl (λ d. omega arith)
in_range_other c (Read address) h = others_in_range c _ _ h refl (λ d. omega arith)
in_range_other c (Slot levels) h =
    others_in_range c _ _ h refl
    (picked (λ (x : Answer). Other x.refused) (is_active c.core.activity.mode) (answered (active_slot c levels)) (rested_slot (resting_slot c levels)) (λ i d. omega arith) (λ i d. omega arith))

-- ---- a refusal

-- what a refused answer says: nothing but its number
pub record Unchanged (c : Controller) (a : Answer) : Type 0 where
  pub value : a.value ≡ 0
  pub next : a.next ≡ c

unchanged_called : (c : Controller) (a x : Answer) → a.refused ≡ 0 → Call c a x → (x.refused ≡ 0 → ⊥) → Unchanged c x
unfolding refuse
unchanged_called c a x z (refused why h) n = record { value = ap (λ (y : Answer). y.value) h; next = ap (λ (y : Answer). y.next) h }
unchanged_called c a x z (taken h) n = absurd (n (ap (λ (y : Answer). y.refused) h ∙ z))

pub unchanged : (c : Controller) (e : Event) → ((step c e).refused ≡ 0 → ⊥) → Unchanged c (step c e)
unfolding step pin_reset host_write host_read slot answered rested_slot accept
unchanged c Reset = unchanged_called c _ _ refl (call_of c _ _)
unchanged c (Write address value) = unchanged_called c _ _ refl (call_of c _ _)
unchanged c (Read address) = unchanged_called c _ _ refl (call_of c _ _)
unchanged c (Slot levels) =
    unchanged_called c _ _
    (picked (λ (y : Answer). y.refused ≡ 0) (is_active c.core.activity.mode) (answered (active_slot c levels)) (rested_slot (resting_slot c levels)) (λ a. refl) (λ a. refl))
    (call_of c _ _)

pub refused_same : (c : Controller) (e : Event) → ((step c e).refused ≡ 0 → ⊥) → (step c e).next ≡ c
refused_same c e h = (unchanged c e h).next

pub refused_value : (c : Controller) (e : Event) → ((step c e).refused ≡ 0 → ⊥) → (step c e).value ≡ 0
refused_value c e h = (unchanged c e h).value
