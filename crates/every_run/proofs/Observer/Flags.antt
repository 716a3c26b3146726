-- The six status bits after a slot of an active controller, by the end of a service, the delivery and the end of a reply.
--   ended_flags, delivered_flags, replied_flags == the bits after each
use Prim.Native.Nat.{ℕ}
use mathlib.Core.Bool.{Bool, true, false, not}
use mathlib.Core.List.{List}
use mathlib.Core.Path.{◌≡◌, refl, ap, ◌∙◌}
use lib.ListN.{get_or}
use Rattle.line.specs.Bits.{pick}
use Rattle.rules.specs.Definitions.Setters.{with_te, with_tok, with_re, with_rok, with_rnok}
use Rattle.rules.specs.Definitions.Registers.{both, either}
use Rattle.rules.specs.Definitions.Channels.{acknowledge_asked}
use Rattle.rules.specs.Definitions.Delivery.{receive_error, report_stored, report_heard, report_delivered}
use Rattle.rules.specs.Definitions.Service.{report_sending, report_judged, report_ended, report_replied}
use Rattle.rules.specs.Definitions.State.{idle_due}
use Rattle.rules.specs.Definitions.Slots.{role_in, delivers, service_judged, ending, report_after, start_made, follows_on}
use Rattle.every_run.specs.Observer.{is_stored}
use Rattle.every_run.specs.Settled.{marks_cher}
use Rattle.rules.proofs.Logic.{left}
use Rattle.every_run.proofs.Sending.Follow.{idle_report, choice_flags, is_exhausted}
use Rattle.rules.specs.declared.Flags.{Flags}
use Rattle.rules.specs.declared.Report.{Report}
use Rattle.rules.specs.declared.Reception.{Reception}
use Rattle.rules.specs.declared.Hearing.{Hearing}
use Rattle.rules.specs.declared.Hearing.TheVariants.{Silent, Follows, Fault, Good}
use Rattle.rules.specs.declared.Delivery.{Delivery}
use Rattle.rules.specs.declared.Delivery.TheVariants.{Nothing, Stored, Overflowed, Spoiled}
use Rattle.rules.specs.declared.Service.{Service}
use Rattle.rules.specs.declared.Verdict.{Verdict}
use Rattle.rules.specs.declared.Verdict.TheVariants.{Unjudged, Goes, Lost, Failed, Done, Answered}
use Rattle.rules.specs.declared.Ending.{Ending}
use Rattle.rules.specs.declared.Ending.TheVariants.{Going, Sent, Exhausted, Aborted, Rearbitrated, Fulfilled}
use Rattle.rules.specs.declared.Core.{Core}

-- ---- the bits after a slot

unfoldable pub ended_flags : Ending → Flags → Flags
ended_flags Going f = f
ended_flags Sent f = with_tok f true
ended_flags Exhausted f = with_te f true
ended_flags Aborted f = f
ended_flags Rearbitrated f = f
ended_flags Fulfilled f = f

unfoldable pub delivered_flags : Delivery → Bool → Flags → Flags
delivered_flags Nothing asked f = f
delivered_flags Stored asked f = pick asked (with_rok f true) (with_rnok f true)
delivered_flags Overflowed asked f = with_re f true
delivered_flags Spoiled asked f = with_re f true

unfoldable pub replied_flags : Verdict → Flags → Flags
replied_flags Unjudged f = f
replied_flags Goes f = f
replied_flags Lost f = f
replied_flags (Failed code) f = with_re f true
replied_flags Done f = with_tok f true
replied_flags Answered f = f

pub flags_ended : (x : Ending) (r : Report) (s : Service) → (report_ended x r s).flags ≡ ended_flags x r.flags
unfolding report_ended ended_flags
flags_ended Going r s = refl
flags_ended Sent r s = refl
flags_ended Exhausted r s = refl
flags_ended Aborted r s = refl
flags_ended Rearbitrated r s = refl
flags_ended Fulfilled r s = refl

flags_delivered : (d : Delivery) (r : Report) (x : Reception) → (report_delivered d r x).flags ≡ delivered_flags d (acknowledge_asked (get_or x.bytes 1 0)) r.flags
unfolding report_delivered report_stored receive_error delivered_flags
flags_delivered Nothing r x = refl
flags_delivered Stored r x = refl
flags_delivered Overflowed r x = refl
flags_delivered Spoiled r x = refl

flags_replied : (q : Verdict) (r : Report) (c : ℕ) → (report_replied q r c).flags ≡ replied_flags q r.flags
unfolding report_replied replied_flags
flags_replied Unjudged r c = refl
flags_replied Goes r c = refl
flags_replied Lost r c = refl
flags_replied (Failed code) r c = refl
flags_replied Done r c = refl
flags_replied Answered r c = refl

flags_verdict : (w : Verdict) (r : Report) (s : Service) → (report_judged w r s).flags ≡ r.flags
unfolding report_judged report_sending
flags_verdict Unjudged r s = refl
flags_verdict Goes r s = refl
flags_verdict Lost r s = refl
flags_verdict (Failed code) r s = refl
flags_verdict Done r s = refl
flags_verdict Answered r s = refl

flags_heard : (h : Hearing) (r : Report) → (report_heard h r).flags ≡ r.flags
unfolding report_heard
flags_heard Silent r = refl
flags_heard Follows r = refl
flags_heard (Fault code) r = refl
flags_heard Good r = refl

pub flags_follow : (m : List ℕ) (k : Core) → (follows_on m k).report.flags ≡ k.report.flags
unfolding follows_on start_made
flags_follow m k = choice_flags m (idle_due k) ∙ ap (λ (x : Report). x.flags) (idle_report k)

-- ---- one of them

-- a bit that the end of a service leaves
pub ended_same : (g : Flags → Bool) → ((f : Flags) → g (with_tok f true) ≡ g f) → ((f : Flags) → g (with_te f true) ≡ g f) → (x : Ending) (f : Flags) → g (ended_flags x f) ≡ g f
unfolding ended_flags
ended_same g p q Going f = refl
ended_same g p q Sent f = p f
ended_same g p q Exhausted f = q f
ended_same g p q Aborted f = refl
ended_same g p q Rearbitrated f = refl
ended_same g p q Fulfilled f = refl

delivered_same : (g : Flags → Bool) → ((f : Flags) → g (with_re f true) ≡ g f) → ((f : Flags) → g (with_rok f true) ≡ g f) → ((f : Flags) → g (with_rnok f true) ≡ g f)
    → (d : Delivery) (a : Bool) (f : Flags) → g (delivered_flags d a f) ≡ g f
unfolding delivered_flags
delivered_same g p q r Nothing a f = refl
delivered_same g p q r Stored a f = left g a (with_rok f true) (with_rnok f true) (g f) (q f) (r f)
delivered_same g p q r Overflowed a f = p f
delivered_same g p q r Spoiled a f = p f

replied_same : (g : Flags → Bool) → ((f : Flags) → g (with_tok f true) ≡ g f) → ((f : Flags) → g (with_re f true) ≡ g f) → (q : Verdict) (f : Flags) → g (replied_flags q f) ≡ g f
unfolding replied_flags
replied_same g p r Unjudged f = refl
replied_same g p r Goes f = refl
replied_same g p r Lost f = refl
replied_same g p r (Failed code) f = r f
replied_same g p r Done f = p f
replied_same g p r Answered f = refl

unfoldable pub is_sent : Ending → Bool
is_sent Going = false
is_sent Sent = true
is_sent Exhausted = false
is_sent Aborted = false
is_sent Rearbitrated = false
is_sent Fulfilled = false

-- the reply has sent its last, or has failed
unfoldable pub is_done : Verdict → Bool
is_done Unjudged = false
is_done Goes = false
is_done Lost = false
is_done (Failed code) = false
is_done Done = true
is_done Answered = false

unfoldable pub is_failed : Verdict → Bool
is_failed Unjudged = false
is_failed Goes = false
is_failed Lost = false
is_failed (Failed code) = true
is_failed Done = false
is_failed Answered = false

pub ended_tok : (x : Ending) (f : Flags) → (ended_flags x f).tok ≡ pick (is_sent x) true f.tok
unfolding ended_flags is_sent
ended_tok Going f = refl
ended_tok Sent f = refl
ended_tok Exhausted f = refl
ended_tok Aborted f = refl
ended_tok Rearbitrated f = refl
ended_tok Fulfilled f = refl

pub ended_te : (x : Ending) (f : Flags) → (ended_flags x f).te ≡ pick (is_exhausted x) true f.te
unfolding ended_flags is_exhausted
ended_te Going f = refl
ended_te Sent f = refl
ended_te Exhausted f = refl
ended_te Aborted f = refl
ended_te Rearbitrated f = refl
ended_te Fulfilled f = refl

replied_tok : (q : Verdict) (f : Flags) → (replied_flags q f).tok ≡ pick (is_done q) true f.tok
unfolding replied_flags is_done
replied_tok Unjudged f = refl
replied_tok Goes f = refl
replied_tok Lost f = refl
replied_tok (Failed code) f = refl
replied_tok Done f = refl
replied_tok Answered f = refl

replied_re : (q : Verdict) (f : Flags) → (replied_flags q f).re ≡ pick (is_failed q) true f.re
unfolding replied_flags is_failed
replied_re Unjudged f = refl
replied_re Goes f = refl
replied_re Lost f = refl
replied_re (Failed code) f = refl
replied_re Done f = refl
replied_re Answered f = refl

delivered_re : (d : Delivery) (a : Bool) (f : Flags) → (delivered_flags d a f).re ≡ pick (marks_cher d) true f.re
unfolding delivered_flags marks_cher
delivered_re Nothing a f = refl
delivered_re Stored true f = refl
delivered_re Stored false f = refl
delivered_re Overflowed a f = refl
delivered_re Spoiled a f = refl

delivered_rok : (d : Delivery) (a : Bool) (f : Flags) → (delivered_flags d a f).rok ≡ pick (both (is_stored d) a) true f.rok
unfolding delivered_flags is_stored
delivered_rok Nothing a f = refl
delivered_rok Stored true f = refl
delivered_rok Stored false f = refl
delivered_rok Overflowed a f = refl
delivered_rok Spoiled a f = refl

delivered_rnok : (d : Delivery) (a : Bool) (f : Flags) → (delivered_flags d a f).rnok ≡ pick (both (is_stored d) (not a)) true f.rnok
unfolding delivered_flags is_stored
delivered_rnok Nothing a f = refl
delivered_rnok Stored true f = refl
delivered_rnok Stored false f = refl
delivered_rnok Overflowed a f = refl
delivered_rnok Spoiled a f = refl

-- raised by either of two
pub raised_by : (a b x : Bool) → pick a true (pick b true x) ≡ pick (either b a) true x
raised_by true true x = refl
raised_by true false x = refl
raised_by false true x = refl
raised_by false false x = refl

module _ (k : Core) (w q : Verdict) (h : Hearing) where
  abbrev d : Delivery
  d = delivers (role_in k) h k.reception

  abbrev asked : Bool
  asked = acknowledge_asked (get_or k.reception.bytes 1 0)

  abbrev was : Flags
  was = k.report.flags

  abbrev now : Flags
  now = (report_after k w q h).flags

  flags_after : now ≡ replied_flags q (ended_flags (ending k w h) (delivered_flags d asked was))
  unfolding report_after
  flags_after =
      let s : Service = service_judged w k.service in
      let x : Report = report_delivered d (report_heard h k.report) k.reception in
      flags_replied q (report_ended (ending k w h) (report_judged w x s) s) k.reply.channel
      ∙ ap (replied_flags q)
      (flags_ended (ending k w h) (report_judged w x s) s
      ∙ ap (ended_flags (ending k w h)) (flags_verdict w x s ∙ flags_delivered d (report_heard h k.report) k.reception ∙ ap (delivered_flags d asked) (flags_heard h k.report)))

  pub after_rst : now.rst ≡ was.rst
  after_rst =
      ap (λ (f : Flags). f.rst) flags_after ∙ replied_same (λ f. f.rst) (λ f. refl) (λ f. refl) q _ ∙ ended_same (λ f. f.rst) (λ f. refl) (λ f. refl) (ending k w h) _
      ∙ delivered_same (λ f. f.rst) (λ f. refl) (λ f. refl) (λ f. refl) d asked was

  pub after_tok : now.tok ≡ pick (either (is_sent (ending k w h)) (is_done q)) true was.tok
  after_tok =
      ap (λ (f : Flags). f.tok) flags_after ∙ replied_tok q _ ∙ ap (λ (b : Bool). pick (is_done q) true b) (ended_tok (ending k w h) _)
      ∙ ap (λ (b : Bool). pick (is_done q) true (pick (is_sent (ending k w h)) true b)) (delivered_same (λ f. f.tok) (λ f. refl) (λ f. refl) (λ f. refl) d asked was)
      ∙ raised_by (is_done q) (is_sent (ending k w h)) was.tok

  pub after_re : now.re ≡ pick (either (marks_cher d) (is_failed q)) true was.re
  after_re =
      ap (λ (f : Flags). f.re) flags_after ∙ replied_re q _
      ∙ ap (λ (b : Bool). pick (is_failed q) true b) (ended_same (λ f. f.re) (λ f. refl) (λ f. refl) (ending k w h) _ ∙ delivered_re d asked was)
      ∙ raised_by (is_failed q) (marks_cher d) was.re

  pub after_rok : now.rok ≡ pick (both (is_stored d) asked) true was.rok
  after_rok =
      ap (λ (f : Flags). f.rok) flags_after ∙ replied_same (λ f. f.rok) (λ f. refl) (λ f. refl) q _ ∙ ended_same (λ f. f.rok) (λ f. refl) (λ f. refl) (ending k w h) _
      ∙ delivered_rok d asked was

  pub after_rnok : now.rnok ≡ pick (both (is_stored d) (not asked)) true was.rnok
  after_rnok =
      ap (λ (f : Flags). f.rnok) flags_after ∙ replied_same (λ f. f.rnok) (λ f. refl) (λ f. refl) q _ ∙ ended_same (λ f. f.rnok) (λ f. refl) (λ f. refl) (ending k w h) _
      ∙ delivered_rnok d asked was
