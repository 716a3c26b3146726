use Prim.Native.Nat.{ℕ}
use mathlib.Core.Bool.{Bool, true, false}
use mathlib.Core.Path.{◌≡◌, sym, ap, ◌∙◌}
use lib.ListN.{get_or}
use Rattle.line.specs.Bits.{pick}
use Rattle.rules.specs.Definitions.Setters.{with_line, with_service, with_effort, with_progress}
use Rattle.rules.specs.Definitions.Registers.{both, autonomous}
use Rattle.rules.specs.Definitions.Reception.{counted, free}
use Rattle.rules.specs.Definitions.Attempt.{waits, is_waiting, drives_frame, at_stage}
use Rattle.rules.specs.Definitions.Service.{opened}
use Rattle.rules.specs.Definitions.Slots.{drives}
use Rattle.rules.specs.declared.Stage.TheVariants.{Opening}
use Rattle.rules.specs.declared.Line.{Line}
use Rattle.rules.specs.declared.Core.{Core}
use Rattle.row.specs.Row.{byte_at, stage_of, with_count, core_by, core_of}
use Rattle.ordinary.proofs.Moving.{counted_moves, opening, staying, opened_level, quiet_level}
use Rattle.ordinary.proofs.Tests.{listening}
use Rattle.ordinary.proofs.OwnFrame.{and_both}
use Rattle.ordinary.proofs.Effects.{count_alone}
use Rattle.ordinary.proofs.count.Goals as goal

pub returns-then-autonomous-free-clause-moves : goal.returns-then-autonomous-free-clause-moves
unfolding waits is_waiting drives_frame opened at_stage core_of core_by
returns-then-autonomous-free-clause-moves c =
    let a = c.args in
    let k = (core_of c.args.s.now) in
    let r = c.requires.counting in
    let on = c.requires.active in
    let l : c.count.new.l ≡ counted k.line a.v = c.count.ensures ∙ ap (λ (x : Line). counted x a.v) c.line_of-l.ensures in
    let e : core_of c.put_count.new.s ≡ with_line k (counted k.line a.v) =
    c.put_count.ensures ∙ ap (λ (x : Line). with_line k (with_count k.line x.count)) l ∙ ap (with_line k) (count_alone k.line a.v) in
    let w : waits k.service.effort.progress ≡ true = ap (λ (x : Core). waits x.service.effort.progress) (sym e) ∙ ap (λ (b : ℕ). is_waiting (stage_of b)) c.if-s-eq1.true in
    let f : both (autonomous (get_or a.m.now 1 0)) (free (counted k.line a.v)) ≡ true =
    sym ((λ i. both (c.autonomous.ensures i) (c.free.ensures i)) ∙ ap (λ (x : Line). both (autonomous (get_or a.m.now 1 0)) (free x)) l) ∙ sym (and_both c.autonomous.result c.free.result) ∙ c.if-autonomous-free.true in
    let t : core_of c.put_progress.new.s ≡ with_service (with_line k (counted k.line a.v)) (opened k.service 0) =
    c.put_progress.ensures ∙ ap (λ (x : Core). with_service x (with_effort x.service (with_progress x.service.effort (at_stage Opening 0)))) e in
    λ control. counted_moves a.m.now k control a.v r on (core_of c.put_progress.new.s) (t ∙ sym (opening a.m.now k control a.v r on w f)) (opened_level a.m.now k control a.v r on ∙ ap drives (sym t))

pub returns-else-autonomous-free-clause-moves : goal.returns-else-autonomous-free-clause-moves
unfolding waits is_waiting drives_frame opened at_stage core_of core_by
returns-else-autonomous-free-clause-moves c =
    let a = c.args in
    let k = (core_of c.args.s.now) in
    let r = c.requires.counting in
    let on = c.requires.active in
    let l : c.count.new.l ≡ counted k.line a.v = c.count.ensures ∙ ap (λ (x : Line). counted x a.v) c.line_of-l.ensures in
    let e : core_of c.put_count.new.s ≡ with_line k (counted k.line a.v) =
    c.put_count.ensures ∙ ap (λ (x : Line). with_line k (with_count k.line x.count)) l ∙ ap (with_line k) (count_alone k.line a.v) in
    let w : waits k.service.effort.progress ≡ true = ap (λ (x : Core). waits x.service.effort.progress) (sym e) ∙ ap (λ (b : ℕ). is_waiting (stage_of b)) c.if-s-eq1.true in
    let f : both (autonomous (get_or a.m.now 1 0)) (free (counted k.line a.v)) ≡ false =
    sym ((λ i. both (c.autonomous.ensures i) (c.free.ensures i)) ∙ ap (λ (x : Line). both (autonomous (get_or a.m.now 1 0)) (free x)) l) ∙ sym (and_both c.autonomous.result c.free.result) ∙ c.if-autonomous-free.false in
    let s : pick (waits k.service.effort.progress) (both (autonomous (get_or a.m.now 1 0)) (free (counted k.line a.v))) false ≡ false =
    (λ i. pick (w i) (f i) false) in
    λ control. counted_moves a.m.now k control a.v r on (core_of c.put_count.new.s) (e ∙ sym (staying a.m.now k control a.v r on s)) (quiet_level a.m.now k control a.v r on ∙ ap drives (sym e))

pub returns-else-s-eq1-clause-moves : goal.returns-else-s-eq1-clause-moves
unfolding waits is_waiting drives_frame opened at_stage core_of core_by
returns-else-s-eq1-clause-moves c =
    let a = c.args in
    let k = (core_of c.args.s.now) in
    let r = c.requires.counting in
    let on = c.requires.active in
    let l : c.count.new.l ≡ counted k.line a.v = c.count.ensures ∙ ap (λ (x : Line). counted x a.v) c.line_of-l.ensures in
    let e : core_of c.put_count.new.s ≡ with_line k (counted k.line a.v) =
    c.put_count.ensures ∙ ap (λ (x : Line). with_line k (with_count k.line x.count)) l ∙ ap (with_line k) (count_alone k.line a.v) in
    let w : waits k.service.effort.progress ≡ false =
    ap (λ (x : Core). waits x.service.effort.progress) (sym e) ∙ listening (byte_at c.put_count.new.s 68) c.if-s-eq1.false (ap (λ (x : Core). drives_frame x.service.effort.progress) e ∙ r.listens.drives) in
    let s : pick (waits k.service.effort.progress) (both (autonomous (get_or a.m.now 1 0)) (free (counted k.line a.v))) false ≡ false =
    ap (λ (b : Bool). pick b (both (autonomous (get_or a.m.now 1 0)) (free (counted k.line a.v))) false) w in
    λ control. counted_moves a.m.now k control a.v r on (core_of c.put_count.new.s) (e ∙ sym (staying a.m.now k control a.v r on s)) (quiet_level a.m.now k control a.v r on ∙ ap drives (sym e))
