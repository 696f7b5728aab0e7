use Rattle.std.proofs.Common.{sym, ◌∙◌, ap, add-one, arith, rules, tests}
use Rattle.std.proofs.lemmas.List.{length_push}
use Rattle.std.proofs.lemmas.List.Edits.{sets}
use Rattle.std.proofs.lemmas.Iterator.Consumers.{YieldsList-turn, YieldsList-end}
use Rattle.definition.specs.Setting.{Trace}
use Rattle.loader.specs.Setup.{pieces}
use Rattle.loader.proofs.SetupLaws.{pieces_given, trace_next, trace_end}
use Rattle.loader.proofs.load.load_trace.Goals as goal

pub loop-line-preserved-in-Some-record_of : goal.loop-line-preserved-in-Some-record_of
loop-line-preserved-in-Some-record_of c =
    let l = c.loop-line in
    let t = YieldsList-turn (pieces_given _ c.args.sheet.now (cc) (cc) (cc) (λ x b q k. search (rules, tests))) l.yielded _ l.yielded_by _ _ c.in-Some.line c.in-Some.is c.next.ensures.steps in
    let e = trace_next _ _ _ t _ (length_push l.yielded c.in-Some.line) _ c.record_of.ensures in (
      omega (arith, length_push l.yielded c.in-Some.line),
      l.invariant.1 ∙ ap (λ (t : Trace). sets l.stamps l.records t.stamps) e ∙ simp (c.in-Some-record_of.is, c.put_at.ensures, add-one),
      l.invariant.2 ∙ ap (λ (t : Trace). sets l.words l.records t.words) e ∙ simp (c.in-Some-record_of.is, c.put_at-in-Some-record_of.ensures, add-one),
    )

pub loop-line-preserved : goal.loop-line-preserved
loop-line-preserved c =
    let l = c.loop-line in
    let t = YieldsList-turn (pieces_given _ c.args.sheet.now (cc) (cc) (cc) (λ x b q k. search (rules, tests))) l.yielded _ l.yielded_by _ _ c.in-Some.line c.in-Some.is c.next.ensures.steps in
    let e = trace_next _ _ _ t _ (length_push l.yielded c.in-Some.line) _ c.record_of.ensures in (
      omega (arith, length_push l.yielded c.in-Some.line),
      l.invariant.1 ∙ ap (λ (t : Trace). sets l.stamps l.records t.stamps) e ∙ simp c.in_default.is,
      l.invariant.2 ∙ ap (λ (t : Trace). sets l.words l.records t.words) e ∙ simp c.in_default.is,
    )

pub returns-clause-stamps : goal.returns-clause-stamps
returns-clause-stamps c =
    let l = c.loop-line in
    let t = YieldsList-end (pieces_given _ c.args.sheet.now (cc) (cc) (cc) (λ x b q k. search (rules, tests))) l.yielded _ l.yielded_by _ _ c.in-None.is c.next.ensures.steps in
    sym (l.invariant.1 ∙ ap (λ (t : Trace). sets l.stamps l.records t.stamps) (trace_end (pieces c.args.sheet.now) _ (omega (arith, t.1))))

pub returns-clause-words : goal.returns-clause-words
returns-clause-words c =
    let l = c.loop-line in
    let t = YieldsList-end (pieces_given _ c.args.sheet.now (cc) (cc) (cc) (λ x b q k. search (rules, tests))) l.yielded _ l.yielded_by _ _ c.in-None.is c.next.ensures.steps in
    sym (l.invariant.2 ∙ ap (λ (t : Trace). sets l.words l.records t.words) (trace_end (pieces c.args.sheet.now) _ (omega (arith, t.1))))
