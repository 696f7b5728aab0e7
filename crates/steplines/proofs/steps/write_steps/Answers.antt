use Rattle.std.proofs.Common.{sym, ◌∙◌, arith}
use Rattle.definition.specs.Registers.{register}
use Rattle.steplines.proofs.CourseLaws.{course_told}
use Rattle.steplines.proofs.PageLaws.{page_next, page_passed, page_ends, page_ends_none}
use Rattle.steplines.proofs.steps.write_steps.Goals as goal

pub returns-in-Some : goal.returns-in-Some
returns-in-Some c tested here =
    let l = c.loop-out in
    page_ends _ _ _ _ _ _ _ l.registers l.saved l.mem l.current _ _ _ l.invariant.0 _ l.invariant.1 tested c.loop-out-test.true _
    (sym c.in-Some.is ∙ c.course_of.ensures) _ _ c.last_line.ensures

pub loop-out-preserved : goal.loop-out-preserved
unfolding register
loop-out-preserved c =
    let l = c.loop-out in
    let g = sym c.course_of.ensures ∙ c.in_default.is in
    let told = course_told _ _ _ _ g in
    let p = c.put_step-filled.ensures in
    let t = l.invariant.0 in
    let later = c.at-requests.ensures in (
      page_next _ _ _ _ _ _ _ _ _ _ _ t c.loop-out-test.true g _ _ _ (λ q. c.line_step-done.ensures told.1.0 (t.leads q).here) (omega arith) _ _ p.1.0
          (record { ends = p.0; lies = p.1.1 }) _ later.lists
          (λ q. later.upcoming (page_passed _ _ _ _ _ _ _ _ _ _ _ t q told.0 _ _ _ (c.line_step-done.ensures told.1.0 (t.leads q).here))),
      later.lists ∙ l.invariant.1,
    )

pub returns : goal.returns
returns c tested here =
    let l = c.loop-out in
    page_ends_none _ _ _ _ _ _ _ l.registers l.saved l.mem l.current _ _ _ l.invariant.0 _ l.invariant.1 tested c.loop-out-test.false _ c.no_line-2.ensures
