use Rattle.std.proofs.Common.{◌≡◌, replicate, length, ap, ◌∙◌, arith}
use Rattle.allocation.proofs.Going.{going_none, going_all}
use Rattle.allocation.proofs.Turn.{turn}
use Rattle.allocation.proofs.Rounds.{walk_covered, walk_more, walk_again}
use Rattle.allocation.proofs.assign.Goals as goal

pub draws-init : goal.draws-init
draws-init g c =
    let zeros : c.fill.new.self ≡ replicate (length c.args.shorts.now) 0 = c.fill.ensures.after (λ y h. h) ∙ ap (λ n. replicate n 0) c.requires.places in
    rw (zeros, c.total-remaining.ensures)
    (going_none (g.S.Draws.meaning c.args.source.now) c.args.shorts.now c.args.exercised c.args.block c.requires.positive c.requires.few c.requires.enough c.requires.supplied)

pub overflow_sub-open_contracts : goal.overflow_sub-open_contracts
overflow_sub-open_contracts g c = walk_covered (c.loop-i.invariant _ _ _ c.loop.invariant) (omega arith) c.loop-i-test.true

pub loop-i-preserved : goal.loop-i-preserved
loop-i-preserved g c = λ old start count w.
    walk_more (c.loop-i.invariant old start count w) (omega arith) c.loop-i-test.true c.min-passed.ensures c.min-taken.ensures

pub loop-preserved : goal.loop-preserved
loop-preserved g c = walk_again c.loop.counter (c.loop-i.invariant _ _ _ c.loop.invariant) (omega arith)

pub draws-preserved-then-need-eq0 : goal.draws-preserved-then-need-eq0
draws-preserved-then-need-eq0 g c =
    let walked = walk_more (c.loop-i.invariant _ _ _ c.loop.invariant) (omega arith) c.loop-i-test.true c.min-passed.ensures c.min-taken.ensures in
    turn (g.S.Draws.below c.draws.source) c.requires.positive c.draws.invariant c.draws-test.true c.draw_start-start.ensures.answer c.min-count.ensures c.draw_start-start.ensures.left walked c.if-need-eq0.true

pub draws-preserved : goal.draws-preserved
draws-preserved g c =
    turn (g.S.Draws.below c.draws.source) c.requires.positive c.draws.invariant c.draws-test.true c.draw_start-start.ensures.answer c.min-count.ensures c.draw_start-start.ensures.left c.loop.invariant c.if-prove.false

pub returns : goal.returns
returns g c =
    let z : c.draws.left ≡ 0 = omega arith in
    let a = going_all (g.S.Draws.meaning c.args.source.now) c.args.shorts.now c.args.exercised c.args.block c.requires.positive (g.S.Draws.meaning c.draws.source) c.draws.assigned c.draws.remaining (rw z at c.draws.invariant) in
    record { shares = a.0; drawn = a.1 }
