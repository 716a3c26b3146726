-- A struct anew, but for one field: the one place that lists a struct's fields.
use Rattle.std.specs.Prelude.{ℕ, Bool}
use Rattle.rules.specs.declared.Flags.{Flags}
use Rattle.rules.specs.declared.Retries.{Retries}
use Rattle.rules.specs.declared.Report.{Report}
use Rattle.rules.specs.declared.Line.{Line}
use Rattle.rules.specs.declared.Reception.{Reception}
use Rattle.rules.specs.declared.Timeslots.{Timeslots}
use Rattle.rules.specs.declared.Attempts.{Attempts}
use Rattle.rules.specs.declared.Coded.{Coded}
use Rattle.rules.specs.declared.Progress.{Progress}
use Rattle.rules.specs.declared.Counters.{Counters}
use Rattle.rules.specs.declared.Effort.{Effort}
use Rattle.rules.specs.declared.Service.{Service}
use Rattle.rules.specs.declared.ImmediateReply.{ImmediateReply}
use Rattle.rules.specs.declared.Activity.{Activity}
use Rattle.diagnosis.specs.declared.Diagnosis.{Diagnosis}
use Rattle.rules.specs.declared.Core.{Core}

-- ---- Flags

abbrev pub with_te : Flags → Bool → Flags
with_te f b = record { rst = f.rst; te = b; tok = f.tok; re = f.re; rok = f.rok; rnok = f.rnok }

abbrev pub with_tok : Flags → Bool → Flags
with_tok f b = record { rst = f.rst; te = f.te; tok = b; re = f.re; rok = f.rok; rnok = f.rnok }

abbrev pub with_re : Flags → Bool → Flags
with_re f b = record { rst = f.rst; te = f.te; tok = f.tok; re = b; rok = f.rok; rnok = f.rnok }

abbrev pub with_rok : Flags → Bool → Flags
with_rok f b = record { rst = f.rst; te = f.te; tok = f.tok; re = f.re; rok = b; rnok = f.rnok }

abbrev pub with_rnok : Flags → Bool → Flags
with_rnok f b = record { rst = f.rst; te = f.te; tok = f.tok; re = f.re; rok = f.rok; rnok = b }

-- ---- Report

abbrev pub with_sending : Report → Retries → Report
with_sending x r = record { sending = r; message = x.message; error = x.error; flags = x.flags }

abbrev pub with_message : Report → Retries → Report
with_message x r = record { sending = x.sending; message = r; error = x.error; flags = x.flags }

abbrev pub with_error : Report → ℕ → Report
with_error x code = record { sending = x.sending; message = x.message; error = code; flags = x.flags }

abbrev pub with_flags : Report → Flags → Report
with_flags x f = record { sending = x.sending; message = x.message; error = x.error; flags = f }

-- ---- Counters

abbrev pub with_slots : Counters → Timeslots → Counters
with_slots c n = record { slots = n; lost = c.lost; errors = c.errors }

abbrev pub with_lost : Counters → Attempts → Counters
with_lost c n = record { slots = c.slots; lost = n; errors = c.errors }

abbrev pub with_errors : Counters → Attempts → Counters
with_errors c n = record { slots = c.slots; lost = c.lost; errors = n }

-- ---- Effort

abbrev pub with_frame : Effort → Coded → Effort
with_frame e x = record { frame = x; setting = e.setting; progress = e.progress; counters = e.counters }

abbrev pub with_setting : Effort → ℕ → Effort
with_setting e n = record { frame = e.frame; setting = n; progress = e.progress; counters = e.counters }

abbrev pub with_progress : Effort → Progress → Effort
with_progress e p = record { frame = e.frame; setting = e.setting; progress = p; counters = e.counters }

abbrev pub with_counters : Effort → Counters → Effort
with_counters e c = record { frame = e.frame; setting = e.setting; progress = e.progress; counters = c }

-- ---- Service

abbrev pub with_channel : Service → ℕ → Service
with_channel s n = record { channel = n; abort = s.abort; rear = s.rear; effort = s.effort }

abbrev pub with_abort : Service → Bool → Service
with_abort s b = record { channel = s.channel; abort = b; rear = s.rear; effort = s.effort }

abbrev pub with_rear : Service → Bool → Service
with_rear s b = record { channel = s.channel; abort = s.abort; rear = b; effort = s.effort }

abbrev pub with_effort : Service → Effort → Service
with_effort s e = record { channel = s.channel; abort = s.abort; rear = s.rear; effort = e }

-- ---- Core

abbrev pub with_activity : Core → Activity → Core
with_activity k a = record { activity = a; report = k.report; line = k.line; reception = k.reception; service = k.service; reply = k.reply; diagnosis = k.diagnosis }

abbrev pub with_report : Core → Report → Core
with_report k x = record { activity = k.activity; report = x; line = k.line; reception = k.reception; service = k.service; reply = k.reply; diagnosis = k.diagnosis }

abbrev pub with_line : Core → Line → Core
with_line k l = record { activity = k.activity; report = k.report; line = l; reception = k.reception; service = k.service; reply = k.reply; diagnosis = k.diagnosis }

abbrev pub with_reception : Core → Reception → Core
with_reception k r = record { activity = k.activity; report = k.report; line = k.line; reception = r; service = k.service; reply = k.reply; diagnosis = k.diagnosis }

abbrev pub with_service : Core → Service → Core
with_service k s = record { activity = k.activity; report = k.report; line = k.line; reception = k.reception; service = s; reply = k.reply; diagnosis = k.diagnosis }

abbrev pub with_reply : Core → ImmediateReply → Core
with_reply k y = record { activity = k.activity; report = k.report; line = k.line; reception = k.reception; service = k.service; reply = y; diagnosis = k.diagnosis }

abbrev pub with_diagnosis : Core → Diagnosis → Core
with_diagnosis k x = record { activity = k.activity; report = k.report; line = k.line; reception = k.reception; service = k.service; reply = k.reply; diagnosis = x }
