use Rattle.std.proofs.Common.{sym, ◌∙◌, arith}
use Rattle.output.proofs.OpenLaws.{opened_refused, opened_read}
use Rattle.output.proofs.open.open_sheet.Goals as goal

pub returns-in-Err : goal.returns-in-Err
returns-in-Err c =
    opened_refused _ _ _ (sym c.in-Err.is ∙ c.read_sheet.ensures.result) (omega arith) _ c.no_layout.ensures _ c.unwritten.ensures

pub returns-in-Ok : goal.returns-in-Ok
returns-in-Ok c =
    let read = sym c.in-Ok.is ∙ c.read_sheet.ensures.result in
    opened_read _ _ c.in-Ok.setup read _ c.load_memory.ensures.loaded c.load_stamps.ensures
    (c.load_setup_trace.ensures.stamps (sym read)) (c.load_setup_trace.ensures.words (sym read)) (sym c.load_memory.ensures.size) (omega arith) (omega arith) (omega arith) _ c.unwritten-in-Ok.ensures
