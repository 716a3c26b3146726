use native.Mathlib.Omega.{arith}
use lib.ListN.{drop, length-drop}
use Rattle.std.proofs.lemmas.List.{take_rest, drop-drop}
use Rattle.decoder.proofs.Views.{ack_wrong, ack_one, ack_two}
use Rattle.decoder.proofs.Slots.acknowledged.Goals as goal

pub returns-in-len1-up : goal.returns-in-len1-up
returns-in-len1-up c =
    let s = c.args.self.now.levels.now in
    ack_wrong (drop c.args.at s) (rw (take_rest s c.args.at) at c.in-len1-up.len_at_least) (rw (take_rest s c.args.at) at c.if-first-ne1.true)

pub returns-in-len1 : goal.returns-in-len1
returns-in-len1 c =
    let s = c.args.self.now.levels.now in
    ack_one (drop c.args.at s) (rw (take_rest s c.args.at) at c.in-len1.len_below) (rw (take_rest s c.args.at) at c.if-first-ne1.false)

pub returns-in-len2-up : goal.returns-in-len2-up
returns-in-len2-up c =
    let s = c.args.self.now.levels.now in
    let l = rw (take_rest s c.args.at) at c.in-len2-up.len_at_least in
    let n = rw length-drop at l in
    (omega arith, rw (take_rest s c.args.at, ← (drop-drop 2 c.args.at s)) (ack_two (drop c.args.at s) l (rw (take_rest s c.args.at) at c.if-first-ne1.false)))
