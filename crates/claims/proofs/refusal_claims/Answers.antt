use Rattle.codec.proofs.Rooms.{encode_room, decode_room}
use Rattle.every_run.proofs.Ranges.Reach.{refused_same, refused_value}
use Rattle.every_run.proofs.Ranges.Counting.{never_six, never_refused_six}
use Rattle.claims.proofs.RefusalNumbers.{reset_number, write_number, read_number, slot_number}
use Rattle.claims.specs.Claims.{Refusals}
use Rattle.claims.proofs.refusal_claims.Goals as goal

refusals : Refusals
refusals =
    record {
      same = refused_same;
      zero_elsewhere = refused_value;
      always_in_range = never_six;
      never_six = never_refused_six;
      of_reset = reset_number;
      of_write = write_number;
      of_read = read_number;
      of_slot = slot_number;
      encode_room = encode_room;
      decode_room = decode_room;
    }

pub returns : goal.returns
returns c = refusals
