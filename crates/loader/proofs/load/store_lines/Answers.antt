use Rattle.std.proofs.Common.{sym, ◌∙◌, arith, rules, tests}
use Rattle.std.proofs.lemmas.List.{length_push}
use Rattle.std.proofs.lemmas.Iterator.Consumers.{YieldsList-turn, YieldsList-end}
use Rattle.loader.specs.Setup.{pieces}
use Rattle.loader.proofs.SetupLaws.{pieces_given, memory_next, memory_end}
use Rattle.loader.proofs.load.store_lines.Goals as goal

pub loop-line-preserved : goal.loop-line-preserved
loop-line-preserved c =
    let l = c.loop-line in
    let t = YieldsList-turn (pieces_given _ c.args.sheet.now (cc) (cc) (cc) (λ x b q k. search (rules, tests))) l.yielded _ l.yielded_by _ _ c.in-Some.line c.in-Some.is c.next.ensures.steps in
    l.invariant ∙ memory_next _ _ _ t _ (length_push l.yielded c.in-Some.line) _ _ c.store_line.ensures

pub returns : goal.returns
returns c =
    let l = c.loop-line in
    let t = YieldsList-end (pieces_given _ c.args.sheet.now (cc) (cc) (cc) (λ x b q k. search (rules, tests))) l.yielded _ l.yielded_by _ _ c.in-None.is c.next.ensures.steps in
    sym (l.invariant ∙ memory_end (pieces c.args.sheet.now) _ l.mem (omega (arith, t.1)))
