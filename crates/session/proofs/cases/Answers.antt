use Rattle.std.proofs.Common.{refl}
use Rattle.std.specs.Prelude.{◌≡◌}
use Rattle.leb128.specs.Leb128.{decode, groups, before, refusal_number}
use Rattle.leb128.specs.declared.Refusal.{Refusal}
use Rattle.leb128.specs.declared.Refusal.TheVariants.{Cut, NotShortest, TooLarge}
use Rattle.session.specs.Cases.{Cases}
use Rattle.session.specs.Reading.{fault_number, refusal, placed, varint_at, counted, versioned, header_at, valued, operands, kinded, event_at, end_at, follow, events_at, started, session}
use Rattle.session.proofs.cases.Goals as goal

numbered : (why : Refusal) → fault_number (refusal why) ≡ refusal_number why
unfolding fault_number refusal refusal_number
numbered Cut = refl
numbered NotShortest = refl
numbered TooLarge = refl

values : Cases
unfolding decode groups before fault_number refusal placed varint_at counted versioned header_at valued operands kinded event_at end_at follow events_at started session
values =
    record {
      empty = refl;
      cut = refl;
      refused = numbered;
      listing = refl;
      header_behind = refl;
      header_past = refl;
      event_behind = refl;
      event_past = refl;
      end_behind = refl;
      end_past = refl;
    }

pub returns : goal.returns
returns c = values
