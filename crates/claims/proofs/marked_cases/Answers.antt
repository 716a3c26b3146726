use Rattle.std.proofs.Common.{refl, ap, ◌∙◌}
use Rattle.std.specs.Int.Bits.{and_zero_r}
use Rattle.line.specs.Bits.{bits}
use Rattle.line.specs.LineCode.{line_code, pattern}
use Rattle.line.specs.Frame.{size}
use Rattle.line.proofs.Laws.{slots_length}
use Rattle.rules.specs.Definitions.Channels.{base, matches}
use Rattle.rules.specs.Definitions.Mailbox.{mailbox_at, status_byte}
use Rattle.rules.specs.Definitions.Hearing.{fits}
use Rattle.leb128.specs.Leb128.{decode, uleb128, groups, groups_of, before, fault_of, refusal_number}
use Rattle.claims.specs.Claims.{Marked}
use Rattle.claims.proofs.marked_cases.Goals as goal

marked : Marked
unfolding pattern line_code bits size base matches mailbox_at status_byte fits decode uleb128 groups groups_of before fault_of refusal_number
marked =
    record {
      p1 = refl;
      p2 = refl;
      p3 = refl;
      p4 = λ f e. slots_length f ∙ ap size e;
      p5 = λ f e. slots_length f ∙ ap size e;
      p6 = refl;
      p7 = (refl, refl);
      p8 = λ tag identifier. simp and_zero_r;
      p9 = (refl, refl, refl);
      p10 = (refl, refl);
      p11 = refl;
      p12 = λ low e. rw e;
      m_l_3 = λ w h. (rw h, rw h);
    }

pub returns : goal.returns
returns c = marked
