-- The ranges of the state's numbers as facts, and what every reached controller keeps (01, Numbers refused, 6).
--   Limits == State.ranges as facts: limits_in_range        Fine == what every reached controller keeps
use Prim.Native.Nat.{◌≤◌, ◌-◌}
use mathlib.Core.Bool.{true}
use mathlib.Core.Path.{◌≡◌}
use borrow.Author.Tests.{le-leb}
use lib.ListN.{get_or}
use Rattle.line.specs.Bits.{Below}
use Rattle.line.specs.Frame.{size}
use Rattle.rules.specs.Definitions.Longest.{capacity, most_nibbles}
use Rattle.diagnosis.proofs.Limits as diagnosis
use Rattle.rules.specs.Definitions.Registers.{diagnosis_control}
use Rattle.rules.specs.Definitions.State.{ranges, within, in_range}
use Rattle.rules.specs.declared.Winner.{Winner}
use Rattle.rules.specs.declared.Retries.{Retries}
use Rattle.rules.specs.declared.Report.{Report}
use Rattle.rules.specs.declared.Reception.{Reception}
use Rattle.rules.specs.declared.Effort.{Effort}
use Rattle.rules.specs.declared.Service.{Service}
use Rattle.rules.specs.declared.ImmediateReply.{ImmediateReply}
use Rattle.rules.specs.declared.Core.{Core}
use Rattle.rules.specs.declared.Controller.{Controller}

-- ---- the ranges

pub record WinnerLimits (w : Winner) : Type 0 where
  pub channel : w.channel ≤ 13
  pub pointer : w.pointer ≤ 127
  pub length : w.length ≤ 31

pub record ReceptionLimits (r : Reception) : Type 0 where
  pub at : r.place.at ≤ 9
  pub nibbles : r.nibbles ≤ most_nibbles capacity
  pub bits : r.bits ≤ 15
  pub winner : WinnerLimits r.winner

pub record EffortLimits (e : Effort) : Type 0 where
  pub n : e.frame.n ≤ capacity
  pub setting : e.setting ≤ 15
  pub at : e.progress.at ≤ size capacity - 1
  pub errors : e.counters.errors.0 ≤ 15

pub record ServiceLimits (s : Service) : Type 0 where
  pub channel : s.channel ≤ 13
  pub effort : EffortLimits s.effort

pub record RetriesLimits (r : Retries) : Type 0 where
  pub count : r.count ≤ 15
  pub channel : r.channel ≤ 13

pub record ReportLimits (x : Report) : Type 0 where
  pub sending : RetriesLimits x.sending
  pub message : RetriesLimits x.message
  pub error : x.error ≤ 32

pub record ReplyLimits (y : ImmediateReply) : Type 0 where
  pub channel : y.channel ≤ 13
  pub at : y.at ≤ size capacity - 1
  pub n : y.frame.n ≤ capacity

pub record Limits (k : Core) : Type 0 where
  pub report : ReportLimits k.report
  pub line : k.line.count ≤ 12
  pub reception : ReceptionLimits k.reception
  pub service : ServiceLimits k.service
  pub reply : ReplyLimits k.reply

-- ---- between events: bytes are bytes, numbers are in range, and error R + 1 has ended its service

pub record Fine (c : Controller) : Type 0 where
  pub memory : Below 256 c.memory
  pub received : Below 256 c.core.reception.bytes
  pub limits : Limits c.core
  pub retries : c.core.service.effort.counters.errors.0 ≤ c.core.service.effort.setting

-- ---- the facts make the test hold, row by row

pub limits_in_range : (c : Controller) → Limits c.core → diagnosis.Limits (get_or c.memory diagnosis_control 0) c.core.diagnosis → in_range c ≡ true
unfolding in_range within ranges
limits_in_range c l d =
    rw (
      le-leb _ _ l.report.sending.count,
      le-leb _ _ l.report.sending.channel,
      le-leb _ _ l.report.message.count,
      le-leb _ _ l.report.message.channel,
      le-leb _ _ l.report.error,
      le-leb _ _ l.line,
      le-leb _ _ l.reception.at,
      le-leb _ _ l.reception.nibbles,
      le-leb _ _ l.reception.bits,
      le-leb _ _ l.reception.winner.channel,
      le-leb _ _ l.reception.winner.pointer,
      le-leb _ _ l.reception.winner.length,
      le-leb _ _ l.service.channel,
      le-leb _ _ l.service.effort.n,
      le-leb _ _ l.service.effort.setting,
      le-leb _ _ l.service.effort.at,
      le-leb _ _ l.service.effort.errors,
      le-leb _ _ l.reply.channel,
      le-leb _ _ l.reply.at,
      le-leb _ _ l.reply.n,
      le-leb _ _ d.levels,
      le-leb _ _ d.dominant,
      le-leb _ _ d.slots,
      le-leb _ _ d.rxd1,
      le-leb _ _ d.rxd2,
      le-leb _ _ d.connected,
    )
