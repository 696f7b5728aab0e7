-- What is handed back in a caller's numbers is read again as it was. Assumes nothing.
use Rattle.std.proofs.Common.{◌≡◌, Bool, true, not, List, ℕ, arith, eqb, get_or, Option}
use Rattle.base.specs.Test.{any, all}
use Rattle.base.specs.Word.{byte_of}
use Rattle.base.proofs.Tests.{choices}
use Rattle.layout.specs.declared.sections.Layout.{Layout}
use Rattle.definition.specs.declared.state.SavedContext.{SavedContext}
use Rattle.definition.specs.State.{framed_slot, framed_alarm, framed_context}
use Rattle.definition.proofs.frame.FrameLaws.{frame_parts}
use Rattle.lentstate.specs.State.{stamp_of, stamp_number, time_of, time_fields, odd_flag, context_of, control_fields, machine_of, numbers_of}
use Rattle.lentstate.specs.Laws.{MachineAgain}

slot_again : (clock : ℕ) (s : Option ℕ) → framed_slot clock s ≡ true → stamp_of (stamp_number s) ≡ s
unfolding stamp_of all
slot_again clock s h = grind (arith, choices)

alarm_again : (clock : ℕ) (s : Option ℕ) → framed_alarm clock s ≡ true → stamp_of (stamp_number s) ≡ s
unfolding stamp_of
alarm_again clock s h = grind (arith, choices)

context_again : (L : Layout) (saved : List ℕ) (previous : ℕ) (halted : Bool) (v : Option SavedContext) → framed_context L saved v ≡ true
    → context_of (control_fields previous halted v) ≡ v
unfolding context_of odd_flag any all byte_of
context_again L saved previous halted v h = grind (arith, choices)

halted_again : (previous : ℕ) (halted : Bool) (v : Option SavedContext) → not (eqb (get_or (control_fields previous halted v) 1 0) 0) ≡ halted
halted_again previous halted v = grind arith

previous_again : (previous : ℕ) (halted : Bool) (v : Option SavedContext) → get_or (control_fields previous halted v) 0 0 ≡ previous
previous_again previous halted v = grind arith

pub machine_again : MachineAgain
unfolding MachineAgain machine_of numbers_of time_of time_fields
machine_again S m h =
    let f = frame_parts S m h in
    simp (
      previous_again m.previous m.halted m.context,
      halted_again m.previous m.halted m.context,
      context_again S.layout m.saved m.previous m.halted m.context f.context,
      slot_again m.time.clock m.time.slot f.time.slot,
      alarm_again m.time.clock m.time.alarm f.time.alarm,
    )
