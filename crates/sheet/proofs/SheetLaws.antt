-- The lines of a sheet, one at a time: what stands before the first newline is the first line. Assumes nothing.
use Rattle.std.proofs.Common.{ℕ, ◌+◌, ◌≤◌, ◌<◌, ◌≡◌, ◌∙◌, refl, ap, false, List, [], ◌∷◌, None, Some, Continue, Break, eqb, length, length-drop, arith}
use Rattle.std.specs.List.{onto_first}
use Rattle.base.specs.Limits.{most_sheet_bytes}
use Rattle.base.specs.Test.{when◌then◌else◌}
use Rattle.base.specs.declared.refusal.Refusal.TheVariants.{Line as LineRefusal}
use Rattle.base.proofs.Tests.{choices}
use Rattle.layout.specs.declared.sections.Layout.{Layout}
use Rattle.lines.specs.declared.line.Content.{Content}
use Rattle.lines.specs.declared.line.Content.TheVariants.{Layout as Layouts}
use Rattle.sheet.specs.declared.reader.ListsSoFar.{ListsSoFar}
use Rattle.text.specs.Text.{newline, find, head, rest}
use Rattle.lines.specs.Line.{parse_line}
use Rattle.loader.specs.Setup.{pieces}
use Rattle.sheet.specs.Sheet.{none_follows, nothing_follows, Answer, refused, no_lists, stage_of, unless_stopped, if_parsed, body_from, first_of, if_layout, lines_answer, sheet_answer, sheet_refusal, refused_line, SheetPromise}
use Rattle.loader.proofs.SetupLaws.{pieces_here, pieces_last}

-- ---- pieces

onto_first_filled : (x : ℕ) (ps : List (List ℕ)) → (none_follows (onto_first x ps) ≡ false) × (nothing_follows (onto_first x ps) ≡ false)
onto_first_filled x [] = (refl, refl)
onto_first_filled x (p ∷ ps) = (refl, refl)

-- there is always a piece, and it is empty and the last where the text is empty
pub pieces_filled : (s : List ℕ) → none_follows (pieces s) ≡ false
unfolding pieces
pieces_filled [] = refl
pieces_filled (x ∷ xs) = grind (arith, choices, onto_first_filled x (pieces xs))

pub pieces_nothing : (s : List ℕ) → nothing_follows (pieces s) ≡ eqb (length s) 0
unfolding pieces
pieces_nothing [] = refl
pieces_nothing (x ∷ xs) = grind (arith, choices, pieces_filled xs, onto_first_filled x (pieces xs))

-- a line and its newline are left behind
pub rest_shorter : (s : List ℕ) → find s newline < length s → length (rest s newline) + 1 ≤ length s
rest_shorter s h = rw (length-drop (find s newline + 1) s) (omega arith)

-- ---- the lines after L

module _ (L : Layout) (n : ℕ) (lists : ListsSoFar) (s : List ℕ) where
  pub body_last : length s ≤ find s newline → body_from L n lists (pieces s) ≡ refused LineRefusal n
  unfolding body_from when◌then◌else◌
  body_last h = rw (pieces_last s h)

  module _ (h : find s newline < length s) where
    body_here : body_from L n lists (pieces s)
        ≡ if_parsed n (parse_line (head s newline))
        (λ content. unless_stopped (stage_of L n lists content (eqb (length (rest s newline)) 0))
        (λ more. body_from L (n + 1) more (pieces (rest s newline))))
    unfolding body_from
    body_here =
        grind (arith, choices, pieces_here s h, pieces_filled (rest s newline), pieces_nothing (rest s newline))

    pub body_unreadable : parse_line (head s newline) ≡ None → body_from L n lists (pieces s) ≡ refused LineRefusal n
    body_unreadable e = body_here ∙ rw e

    module _ (content : Content) (e : parse_line (head s newline) ≡ Some content) where
      body_content : body_from L n lists (pieces s)
          ≡ unless_stopped (stage_of L n lists content (eqb (length (rest s newline)) 0))
          (λ more. body_from L (n + 1) more (pieces (rest s newline)))
      body_content = body_here ∙ rw e

      pub body_stops : (a : Answer) → stage_of L n lists content (eqb (length (rest s newline)) 0) ≡ Break a
          → body_from L n lists (pieces s) ≡ a
      body_stops a g = body_content ∙ rw g

      pub body_goes : (more : ListsSoFar) → stage_of L n lists content (eqb (length (rest s newline)) 0) ≡ Continue more
          → body_from L n lists (pieces s) ≡ body_from L (n + 1) more (pieces (rest s newline))
      body_goes more g = body_content ∙ rw g

-- ---- the first line

module _ (s : List ℕ) where
  pub first_last : length s ≤ find s newline → lines_answer (pieces s) ≡ refused LineRefusal 1
  unfolding lines_answer when◌then◌else◌
  first_last h = rw (pieces_last s h)

  pub first_here : find s newline < length s
      → lines_answer (pieces s)
      ≡ if_parsed 1 (parse_line (head s newline))
      (λ content. if_layout (first_of content) (λ L. body_from L 2 no_lists (pieces (rest s newline))))
  unfolding lines_answer
  first_here h = grind (arith, choices, pieces_here s h, pieces_filled (rest s newline))

  pub sheet_lines : length s ≤ most_sheet_bytes → sheet_answer s ≡ lines_answer (pieces s)
  unfolding sheet_answer
  sheet_lines h = grind (arith, choices)

-- what is no layout
pub no_layout_first : (content : Content) → ((L : Layout) → content ≡ Layouts L → ⊥) → first_of content ≡ None
no_layout_first content h = grind arith

-- ---- what the reader promises

pub sheet_promised : (sheet : List ℕ) (answer : Answer) → answer ≡ sheet_answer sheet → SheetPromise sheet answer
sheet_promised sheet answer e = record { result = e; number = ap sheet_refusal e; line = ap refused_line e }

-- the lines after L, one at a time
pub ruleset body_steps = (rest_shorter, body_last, body_unreadable, body_stops, body_goes)

-- the first line, by what it says
pub ruleset first_steps = (first_last, first_here, sheet_lines, no_layout_first, sheet_promised)
