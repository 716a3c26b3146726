use Rattle.std.proofs.Common.{◌≡◌, ◌+◌, ◌≤◌, length, drop}
use Rattle.codec.specs.Decode.{expected}
use Rattle.decoder.proofs.Slots.expected.Given as goal

abbrev pub invariant-loop-k : goal.invariant-loop-k
invariant-loop-k l =
    (l.at + l.k ≤ length l.self.levels.now) × (expected l.refusal l.pattern (drop l.at l.self.levels.now) ≡ expected l.refusal (drop l.k l.pattern) (drop (l.at + l.k) l.self.levels.now))
