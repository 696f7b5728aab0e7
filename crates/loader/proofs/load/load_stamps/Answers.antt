use Rattle.std.proofs.Common.{sym, ◌∙◌, ap, add-one, arith, rules, tests}
use Rattle.std.proofs.lemmas.List.{length_push}
use Rattle.std.proofs.lemmas.List.Edits.{sets}
use Rattle.std.proofs.lemmas.Iterator.Consumers.{YieldsList-turn, YieldsList-end}
use Rattle.loader.specs.Setup.{pieces}
use Rattle.loader.proofs.SetupLaws.{pieces_given, stamps_next, stamps_end}
use Rattle.loader.proofs.load.load_stamps.Goals as goal

pub loop-line-preserved-in-Some-stamp_of : goal.loop-line-preserved-in-Some-stamp_of
loop-line-preserved-in-Some-stamp_of c =
    let l = c.loop-line in
    let t = YieldsList-turn (pieces_given _ c.args.sheet.now (cc) (cc) (cc) (λ x b q k. search (rules, tests))) l.yielded _ l.yielded_by _ _ c.in-Some.line c.in-Some.is c.next.ensures.steps in
    let n = length_push l.yielded c.in-Some.line in
    (omega arith, l.invariant.1 ∙ ap (sets l.stamps l.count) (stamps_next _ _ _ t _ n _ c.stamp_of.ensures) ∙ simp (c.in-Some-stamp_of.is, c.put_at.ensures, add-one))

pub loop-line-preserved : goal.loop-line-preserved
loop-line-preserved c =
    let l = c.loop-line in
    let t = YieldsList-turn (pieces_given _ c.args.sheet.now (cc) (cc) (cc) (λ x b q k. search (rules, tests))) l.yielded _ l.yielded_by _ _ c.in-Some.line c.in-Some.is c.next.ensures.steps in
    let n = length_push l.yielded c.in-Some.line in
    (omega arith, l.invariant.1 ∙ ap (sets l.stamps l.count) (stamps_next _ _ _ t _ n _ c.stamp_of.ensures) ∙ simp c.in_default.is)

pub returns : goal.returns
returns c =
    let l = c.loop-line in
    let t = YieldsList-end (pieces_given _ c.args.sheet.now (cc) (cc) (cc) (λ x b q k. search (rules, tests))) l.yielded _ l.yielded_by _ _ c.in-None.is c.next.ensures.steps in
    sym (l.invariant.1 ∙ ap (sets l.stamps l.count) (stamps_end (pieces c.args.sheet.now) _ (omega (arith, t.1))))
