-- No first word is in two rows of the table; in whatever order the rows are looked at, a word begins the same; and the code finds that row.
-- Assumes nothing.
use Rattle.std.proofs.Common.{◌≡◌, refl, sym, ◌∙◌, ap, Bool, true, false, not, List, [], ◌∷◌, ℕ, zero, suc, ◌/◌, ◌%◌, arith, ne_eqb, ltb, eqb, true≢false, Option, None, Some}
use Rattle.std.specs.List.{Contains}
use Rattle.std.proofs.lemmas.Option.{same_Some}
use Rattle.std.proofs.lemmas.Bool.{eqb-true, eq-eqb}
use Rattle.base.specs.Test.{when◌then◌else◌, all}
use Rattle.base.proofs.Tests.{each, every, choose, choices}
use Rattle.rows.specs.declared.row.Operation.TheVariants.{Add, Sub, Cmp, And}
use Rattle.rows.specs.declared.row.Row.{Row}
use Rattle.rows.specs.declared.row.Row.TheVariants.{Hlt as HLT, In as IN, Out as OUT, Jz as JZ, Reti as RETI, Nop as NOP, Jmp as JMP, Mov as MOV, Load as LOAD, Store as STORE, Immediate as IMMEDIATE, Compute as COMPUTE, Not as NOT}
use Rattle.rows.specs.declared.read.Begun.{Begun}
use Rattle.rows.specs.Table.{pointer, format_of, rows, movable, first_word, s_digit, d_digit}
use Rattle.rows.specs.Words.{has_word, found, begun_in, begun}
use Rattle.rows.specs.Laws.{OneRow, AnyOrder}
use Rattle.rows.specs.internal.Dispatch.{work_order, row_if, register_move, row_by_digits, first_and_third, row_of, begun_by}

abbrev found_in_word : Row → ℕ → Option Begun
found_in_word r w = found r (s_digit r w) (d_digit r w)

-- what it says that a word is in a row
pub has : (r : Row) (w : ℕ) → w ≡ first_word r (s_digit r w) (d_digit r w) → (format_of r).takes (s_digit r w) (d_digit r w) ≡ true
    → has_word r w ≡ true
unfolding has_word
has r w p t = every _ (eq-eqb _ _ p, (t, tt))

pub word_of : (r : Row) (w : ℕ) → has_word r w ≡ true → w ≡ first_word r (s_digit r w) (d_digit r w)
unfolding has_word
word_of r w e = eqb-true _ _ (each _ e).0

pub taken : (r : Row) (w : ℕ) → has_word r w ≡ true → (format_of r).takes (s_digit r w) (d_digit r w) ≡ true
unfolding has_word
taken r w e = (each _ e).1.0

-- MOV between registers, where it is neither JMP nor NOP
move_of_registers : (s d : ℕ) → movable s d ≡ true → register_move s d ≡ MOV
unfolding register_move all
move_of_registers s d t = grind (arith, choices)

-- a register above r3 may be MOV's destination, whatever its source
move_above : (s d : ℕ) → ltb 3 d ≡ true → movable s d ≡ true
unfolding all
move_above s d h = grind (arith, choices)

-- and any that is neither JMP's nor NOP's
move_else : (s d : ℕ) → eqb d 0 ≡ false → all (eqb s 3 ∷ eqb d 3 ∷ []) ≡ false → movable s d ≡ true
move_else s d e k = every (not (eqb d 0) ∷ not (all (eqb s 3 ∷ eqb d 3 ∷ [])) ∷ []) (ap not e, (ap not k, tt))

-- a word that is in a row is sent to that row
dispatched : (r : Row) (w : ℕ) → has_word r w ≡ true → row_of w ≡ Some r
unfolding first_word row_of row_by_digits register_move when◌then◌else◌ all
dispatched HLT w e = rw (word_of HLT w e)
dispatched RETI w e = rw (word_of RETI w e)
dispatched NOP w e = rw (word_of NOP w e)
dispatched IN w e =
    let p = word_of IN w e in
    let f : first_and_third w ≡ 0x0010 = omega arith in
    let s : w / 256 % 16 ≡ 0 = omega arith in
    let i : eqb (w / 16) 0x403 ≡ false = ne_eqb _ _ (omega arith) in
    simp (f, i, s)
dispatched OUT w e =
    let p = word_of OUT w e in
    let f : first_and_third w ≡ 0x0020 = omega arith in
    let s : w / 256 % 16 ≡ 0 = omega arith in
    let i : eqb (w / 16) 0x403 ≡ false = ne_eqb _ _ (omega arith) in
    simp (f, i, s)
dispatched JZ w e =
    let p = word_of JZ w e in
    let f : first_and_third w ≡ 0x0030 = omega arith in
    let s : w / 256 % 16 ≡ 0 = omega arith in
    let i : eqb (w / 16) 0x403 ≡ false = ne_eqb _ _ (omega arith) in
    simp (f, i, s)
dispatched NOT w e =
    let p = word_of NOT w e in
    let f : first_and_third w ≡ 0xE030 = omega arith in
    let s : w / 256 % 16 ≡ 0 = omega arith in
    let i : eqb (w / 16) 0x403 ≡ false = ne_eqb _ _ (omega arith) in
    simp (f, i, s)
dispatched IMMEDIATE w e =
    let p = word_of IMMEDIATE w e in
    let f : eqb (first_and_third w) 0x4000 ≡ false = ne_eqb _ _ (omega arith) in
    let i : eqb (w / 16) 0x403 ≡ true = eq-eqb _ _ (omega arith) in
    simp (f, i)
dispatched JMP w e =
    let p = word_of JMP w e in
    let f : first_and_third w ≡ 0x4000 = omega arith in
    let d : w % 16 ≡ 0 = omega arith in
    simp (f, d)
dispatched MOV w e =
    let p = word_of MOV w e in
    let f : first_and_third w ≡ 0x4000 = omega arith in
    simp (f) (ap (λ (r : Row). Some r) (move_of_registers (w / 256 % 16) (w % 16) (taken MOV w e)))
dispatched LOAD w e =
    let p = word_of LOAD w e in
    let f : first_and_third w ≡ 0x4020 = omega arith in
    let i : eqb (w / 16) 0x403 ≡ false = ne_eqb _ _ (omega arith) in
    simp (f, i, taken LOAD w e)
dispatched STORE w e =
    let p = word_of STORE w e in
    let f : first_and_third w ≡ 0x4080 = omega arith in
    let i : eqb (w / 16) 0x403 ≡ false = ne_eqb _ _ (omega arith) in
    simp (f, i, taken STORE w e)
dispatched (COMPUTE Add) w e =
    let p = word_of (COMPUTE Add) w e in
    let f : first_and_third w ≡ 0x5000 = omega arith in
    let i : eqb (w / 16) 0x403 ≡ false = ne_eqb _ _ (omega arith) in
    simp (f, i)
dispatched (COMPUTE Sub) w e =
    let p = word_of (COMPUTE Sub) w e in
    let f : first_and_third w ≡ 0x8000 = omega arith in
    let i : eqb (w / 16) 0x403 ≡ false = ne_eqb _ _ (omega arith) in
    simp (f, i)
dispatched (COMPUTE Cmp) w e =
    let p = word_of (COMPUTE Cmp) w e in
    let f : first_and_third w ≡ 0x9000 = omega arith in
    let i : eqb (w / 16) 0x403 ≡ false = ne_eqb _ _ (omega arith) in
    simp (f, i)
dispatched (COMPUTE And) w e =
    let p = word_of (COMPUTE And) w e in
    let f : first_and_third w ≡ 0xF000 = omega arith in
    let i : eqb (w / 16) 0x403 ≡ false = ne_eqb _ _ (omega arith) in
    simp (f, i)

pub one_row : (r q : Row) (w : ℕ) → has_word r w ≡ true → has_word q w ≡ true → r ≡ q
one_row r q w e f = same_Some _ _ (sym (dispatched r w e) ∙ dispatched q w f)

pub one_row_only : OneRow
unfolding OneRow
one_row_only = one_row

-- ---- any order

-- what a word may begin: nothing, or what a row that has it says
pub data Begins (w : ℕ) : Option Begun → Type 0 where
  nothing : Begins w None
  row : (r : Row) → has_word r w ≡ true → Begins w (found r (s_digit r w) (d_digit r w))

begins_in : (w : ℕ) (rs : List Row) → Begins w (begun_in rs w)
unfolding begun_in
begins_in w [] = nothing
begins_in w (r ∷ rs) = choose (Begins w) (has_word r w) (λ h. row r h) (λ h. begins_in w rs)

pub begun_begins : (w : ℕ) → Begins w (begun w)
unfolding begun
begun_begins w = begins_in w rows

-- a row of a list that is not its first stands behind it
contained_behind : (r q : Row) (rs : List Row) → Contains (q ∷ rs) r → (q ≡ r → ⊥) → Contains rs r
contained_behind r q rs (zero, l, e) n = absurd (n e)
contained_behind r q rs (suc k, l, e) n = (k, omega arith, e)

-- a word's row is found, whatever the order of the rows
found_in : (r : Row) (w : ℕ) (rs : List Row) → Contains rs r → has_word r w ≡ true → begun_in rs w ≡ found_in_word r w
unfolding begun_in
found_in r w [] (k, l, x'') e = absurd (omega arith)
found_in r w (q ∷ rs) c e =
    choose (λ (b : Option Begun). b ≡ found_in_word r w) (has_word q w)
    (λ h. ap (λ (x : Row). found_in_word x w) (one_row q r w h e))
    (λ h. found_in r w rs (contained_behind r q rs c (λ p. true≢false (sym e ∙ ap (λ (x : Row). has_word x w) (sym p) ∙ h))) e)

-- two ways of looking that find only a row that has the word, and find it where there is one, find the same
settled : (w : ℕ) (x y : Option Begun) → Begins w x → ((r : Row) → has_word r w ≡ true → x ≡ found_in_word r w)
    → Begins w y → ((r : Row) → has_word r w ≡ true → y ≡ found_in_word r w) → x ≡ y
settled w x y nothing f nothing g = refl
settled w x y nothing f (row r h) g = f r h
settled w x y (row r h) f b g = sym (g r h)

listed : (r : Row) → Contains rows r
listed HLT = (0, omega arith, refl)
listed IN = (1, omega arith, refl)
listed OUT = (2, omega arith, refl)
listed JZ = (3, omega arith, refl)
listed RETI = (4, omega arith, refl)
listed NOP = (5, omega arith, refl)
listed JMP = (6, omega arith, refl)
listed MOV = (7, omega arith, refl)
listed LOAD = (8, omega arith, refl)
listed STORE = (9, omega arith, refl)
listed IMMEDIATE = (10, omega arith, refl)
listed (COMPUTE Add) = (11, omega arith, refl)
listed (COMPUTE Sub) = (12, omega arith, refl)
listed (COMPUTE Cmp) = (13, omega arith, refl)
listed (COMPUTE And) = (14, omega arith, refl)
listed NOT = (15, omega arith, refl)

pub any_order : AnyOrder
unfolding AnyOrder begun
any_order order each_row w =
    settled w _ _ (begins_in w order) (λ r h. found_in r w order (each_row r) h)
    (begins_in w rows) (λ r h. found_in r w rows (listed r) h)

pub begun_row : (r : Row) (w : ℕ) → has_word r w ≡ true → begun w ≡ found r (s_digit r w) (d_digit r w)
unfolding begun
begun_row r w e = found_in r w rows (listed r) e

-- ---- the code's order

worked_on : (r : Row) → Contains work_order r
worked_on HLT = (15, omega arith, refl)
worked_on IN = (12, omega arith, refl)
worked_on OUT = (13, omega arith, refl)
worked_on JZ = (10, omega arith, refl)
worked_on RETI = (14, omega arith, refl)
worked_on NOP = (2, omega arith, refl)
worked_on JMP = (1, omega arith, refl)
worked_on MOV = (0, omega arith, refl)
worked_on LOAD = (4, omega arith, refl)
worked_on STORE = (5, omega arith, refl)
worked_on IMMEDIATE = (3, omega arith, refl)
worked_on (COMPUTE Add) = (6, omega arith, refl)
worked_on (COMPUTE Sub) = (7, omega arith, refl)
worked_on (COMPUTE Cmp) = (8, omega arith, refl)
worked_on (COMPUTE And) = (9, omega arith, refl)
worked_on NOT = (11, omega arith, refl)

module _ (w : ℕ) where
  -- of what is found: it is nothing, or a row that has the word
  abbrev Found : Option Row → Type 0
  Found x = Begins w (begun_by x w)

  only : (t : Bool) (r : Row) → (t ≡ true → has_word r w ≡ true) → Found (row_if t r)
  only t r f = choose Found t (λ h. row r (f h)) (λ h. nothing)

  register_move_begins : first_and_third w ≡ 0x4000 → Found (Some (register_move (w / 256 % 16) (w % 16)))
  unfolding register_move first_word all
  register_move_begins f =
      choose (λ (r : Row). Found (Some r)) (ltb 3 (w % 16)) (λ e. row MOV (has MOV w (omega arith) (move_above (w / 256 % 16) (w % 16) e)))
      (λ _. choose (λ (r : Row). Found (Some r)) (eqb (w % 16) 0) (λ e. row JMP (has JMP w (omega (arith, eqb-true)) refl))
      (λ e. choose (λ (r : Row). Found (Some r)) (all (eqb (w / 256 % 16) 3 ∷ eqb (w % 16) 3 ∷ []))
      (λ k. let t = each (eqb (w / 256 % 16) 3 ∷ eqb (w % 16) 3 ∷ []) k in row NOP (has NOP w (omega (arith, eqb-true)) refl))
      (λ k. row MOV (has MOV w (omega arith) (move_else (w / 256 % 16) (w % 16) e k)))))

  -- what the code finds is a row that has the word
  row_begins : Found (row_of w)
  unfolding row_of row_by_digits first_word
  row_begins =
      let k = first_and_third w in
      choose Found (eqb k 0x4000) (λ e. register_move_begins (eqb-true _ _ e))
      (λ _. choose Found (eqb (w / 16) 0x403) (λ e. row IMMEDIATE (has IMMEDIATE w (omega (arith, eqb-true)) refl))
      (λ _. choose Found (eqb k 0x4020) (λ e. only (pointer (w / 256 % 16)) LOAD (λ s. has LOAD w (omega (arith, eqb-true)) s))
      (λ _. choose Found (eqb k 0x4080) (λ e. only (pointer (w % 16)) STORE (λ s. has STORE w (omega (arith, eqb-true)) s))
      (λ _. choose Found (eqb k 0x5000) (λ e. row (COMPUTE Add) (has (COMPUTE Add) w (omega (arith, eqb-true)) refl))
      (λ _. choose Found (eqb k 0x8000) (λ e. row (COMPUTE Sub) (has (COMPUTE Sub) w (omega (arith, eqb-true)) refl))
      (λ _. choose Found (eqb k 0x9000) (λ e. row (COMPUTE Cmp) (has (COMPUTE Cmp) w (omega (arith, eqb-true)) refl))
      (λ _. choose Found (eqb k 0xF000) (λ e. row (COMPUTE And) (has (COMPUTE And) w (omega (arith, eqb-true)) refl))
      (λ _. choose Found (eqb k 0x0030) (λ e. only (eqb (w / 256 % 16) 0) JZ (λ s. has JZ w (omega (arith, eqb-true)) refl))
      (λ _. choose Found (eqb k 0xE030) (λ e. only (eqb (w / 256 % 16) 0) NOT (λ s. has NOT w (omega (arith, eqb-true)) refl))
      (λ _. choose Found (eqb k 0x0010) (λ e. only (eqb (w / 256 % 16) 0) IN (λ s. has IN w (omega (arith, eqb-true)) refl))
      (λ _. choose Found (eqb k 0x0020) (λ e. only (eqb (w / 256 % 16) 0) OUT (λ s. has OUT w (omega (arith, eqb-true)) refl))
      (λ _. choose Found (eqb k 0x1000)
      (λ e. only (all (eqb (w / 256 % 16) 3 ∷ eqb (w % 16) 0 ∷ [])) RETI
      (λ s. let t = each (eqb (w / 256 % 16) 3 ∷ eqb (w % 16) 0 ∷ []) s in has RETI w (omega (arith, eqb-true)) refl))
      (λ _. choose Found (eqb k 0x0000)
      (λ e. only (all (eqb (w / 256 % 16) 0 ∷ eqb (w % 16) 1 ∷ [])) HLT
      (λ s. let t = each (eqb (w / 256 % 16) 0 ∷ eqb (w % 16) 1 ∷ []) s in has HLT w (omega (arith, eqb-true)) refl))
      (λ _. nothing))))))))))))))

-- so the code finds what looking through the rows in its order finds, and by `any_order` in any
reader_begun : (w : ℕ) → begun_by (row_of w) w ≡ begun w
unfolding AnyOrder
reader_begun w =
    settled w _ _ (row_begins w) (λ r h. ap (λ (x : Option Row). begun_by x w) (dispatched r w h))
    (begins_in w work_order) (λ r h. found_in r w work_order (worked_on r) h)
    ∙ any_order work_order worked_on w

pub some_begun : (w : ℕ) (r : Row) → row_of w ≡ Some r → found_in_word r w ≡ begun w
some_begun w r e = cc (reader_begun w)

pub none_begun : (w : ℕ) → row_of w ≡ None → ◌≡◌ {A = Option Begun} None (begun w)
none_begun w e = cc (reader_begun w)
