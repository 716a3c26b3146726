use Rattle.every_run.proofs.Receiving.EveryRun.{delivery}
use Rattle.closed_runs.proofs.ClosedRuns.{received}
use Rattle.every_run.proofs.OwnFrames.EveryRun.{own_frames}
use Rattle.every_run.proofs.Interrupts.Raised.{interrupts}
use Rattle.rules.proofs.Resets.{reset_read, reset_leaves}
use Rattle.claims.proofs.Decoded.{every_run}
use Rattle.claims.proofs.Agree.{agree_sound, agree_complete}
use Rattle.claims.specs.Claims.{Receiving}
use Rattle.claims.proofs.receiving_claims.Goals as goal

receiving : Receiving
receiving =
    record {
      delivered = every_run;
      sound = agree_sound;
      complete = agree_complete;
      acknowledged = delivery;
      closed = received;
      own = own_frames;
      interrupts = interrupts;
      resets = record { reads = reset_read; leaves = reset_leaves };
    }

pub returns : goal.returns
returns c = receiving
