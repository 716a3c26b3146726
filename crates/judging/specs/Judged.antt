-- What a sample is, by what the model is in the frame under way, from the parts of the state that decide it.
--   hears == for the line, but for a frame of the model's own        tried, reply_verdict == for the attempt, for the reply        heard == for the line
--   reply_after == the reply after the sample        reply_left == the same in 16 bits, where its place stops at its largest        effected == the state with the sample's effect on registers and service
use Rattle.std.specs.Prelude.{ℕ, List}
use Rattle.line.specs.Bits.{pick}
use Rattle.rules.specs.Definitions.Longest.{capacity}
use Rattle.rules.specs.Definitions.Reception.{reads_asked}
use Rattle.rules.specs.Definitions.Hearing.{hear_frame, hear_quiet}
use Rattle.rules.specs.Definitions.Delivery.{delivery_of}
use Rattle.rules.specs.Definitions.Attempt.{judge_slot}
use Rattle.rules.specs.Definitions.Service.{receives, answered_as, judge_reply, replied, reply_taken, no_reply, hear_own, settled}
use Rattle.rules.specs.Definitions.Setters.{with_report, with_service}
use Rattle.rules.specs.Definitions.Slots.{service_judged, ending, report_after}
use Rattle.rules.specs.declared.Core.{Core}
use Rattle.rules.specs.declared.Line.{Line}
use Rattle.rules.specs.declared.Reception.{Reception}
use Rattle.rules.specs.declared.Hearing.{Hearing}
use Rattle.rules.specs.declared.Effort.{Effort}
use Rattle.rules.specs.declared.ImmediateReply.{ImmediateReply}
use Rattle.rules.specs.declared.Verdict.{Verdict}
use Rattle.rules.specs.declared.Verdict.TheVariants.{Unjudged, Goes, Lost, Failed, Done, Answered}
use Rattle.rules.specs.declared.Role.{Role}
use Rattle.rules.specs.declared.Role.TheVariants.{Nobody, Receiver, Sender, Asker, Replier}
use Rattle.attempt.specs.Following.{next_place}

unfoldable pub hears : Role → Reception → Line → ℕ → Hearing
hears x r l v = pick (receives x) (hear_frame r capacity v) (hear_quiet l v)

-- h is what the sample is for another module's frame
unfoldable pub tried : Role → Effort → Hearing → Reception → ℕ → Verdict
tried Nobody e h r v = Unjudged
tried Receiver e h r v = Unjudged
tried Sender e h r v = judge_slot e.frame e.progress.at v
tried Asker e h r v = answered_as h (delivery_of h r)
tried Replier e h r v = Unjudged

unfoldable pub reply_verdict : Role → ImmediateReply → ℕ → Verdict
reply_verdict Nobody y v = Unjudged
reply_verdict Receiver y v = Unjudged
reply_verdict Sender y v = Unjudged
reply_verdict Asker y v = Unjudged
reply_verdict Replier y v = judge_reply y v

-- w is what the sample is for the attempt, q for the reply
unfoldable pub heard : Role → Hearing → Verdict → Verdict → Hearing
heard Nobody h w q = h
heard Receiver h w q = h
heard Sender h w q = hear_own w
heard Asker h w q = h
heard Replier h w q = hear_own q

-- r is the frame after the sample
unfoldable pub reply_after : Role → List ℕ → ImmediateReply → Verdict → Reception → ImmediateReply
reply_after Nobody m y q r = y
reply_after Receiver m y q r = pick (reads_asked r) (reply_taken m capacity r) y
reply_after Sender m y q r = y
reply_after Asker m y q r = y
reply_after Replier m y q r = replied q y

-- the reply goes on, or it has ended
unfoldable pub reply_advanced : Verdict → ImmediateReply → ImmediateReply
reply_advanced Unjudged y = y
reply_advanced Goes y = record { going = y.going; channel = y.channel; at = next_place y.at; frame = y.frame }
reply_advanced Lost y = no_reply
reply_advanced (Failed code) y = no_reply
reply_advanced Done y = no_reply
reply_advanced Answered y = no_reply

unfoldable pub reply_left : Role → List ℕ → ImmediateReply → Verdict → Reception → ImmediateReply
reply_left Nobody m y q r = y
reply_left Receiver m y q r = pick (reads_asked r) (reply_taken m capacity r) y
reply_left Sender m y q r = y
reply_left Asker m y q r = y
reply_left Replier m y q r = reply_advanced q y

-- q is what the sample is for the reply
unfoldable pub effected : Core → Verdict → Verdict → Hearing → Core
effected k w q h = with_service (with_report k (report_after k w q h)) (settled (ending k w h) (service_judged w k.service))
