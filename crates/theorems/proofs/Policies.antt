-- Every byte of the file after a word that is done is given by exactly one rule (`bytes-of-words`), and what follows from it for readers.
-- Assumes nothing.
use Rattle.std.proofs.Common.{Option, Some, None, Bool, true, false, true≢false, cond, not, ◌&&◌, ◌||◌, List, ◌≡◌, refl, sym, ap, subst, ◌∙◌, ℕ, ◌+◌, ◌-◌, ◌*◌, ◌/◌, ◌%◌, ◌^◌, ◌<◌, ◌≤◌, div-add-mod', mod-lt, mul-le-mul_right, suc-mul, le_of_suc-le-suc, mul_comm, arith, eq-eqb, eqb-true, leb-true, leb-false, eqb, leb, length, get_or}
use native.Mathlib.Decide.{dec_le, dec_lt, ℕ_discrete}
use borrow.Author.Tests.{eqb-false, not-false}
use Rattle.octets.specs.Bytes.{AreBytes}
use Rattle.octets.proofs.BigEndian.{be_at-same}
use Rattle.octets.proofs.LittleEndian.{read_le-same}
use Rattle.octets.proofs.Tests.{both}
use Rattle.vector_registers.specs.declared.settings.Settings.{Settings}
use Rattle.vector_registers.specs.Settings.{register_bytes, group_length, with_policies}
use Rattle.vector_word.specs.declared.Fields.{Fields}
use Rattle.vector_kind.specs.declared.Kind.{Kind}
use Rattle.vector_kind.specs.declared.Kind.TheVariants.{VclmulVv, VclmulVx, VclmulhVv, VclmulhVx, VghshVv, VghshVs, VgmulVv, VgmulVs}
use Rattle.vector_kind.specs.Kinds.{is_ghash, kinds}
use Rattle.vector_word.specs.declared.Instruction.{Instruction}
use Rattle.vector_word.specs.Word.{decode, instruction, row, allows, vm_of, funct6_of}
use Rattle.vector_word.proofs.Tests.{or-false}
use Rattle.vector_word.proofs.Writer.{among-row, decoded-fit}
use Rattle.vector_refusal.specs.Refusal.{refusal_of_known, refusal_of_decoded, refusal_of}
use Rattle.vector_element.specs.Element.{element_at, block_place, mask_bit, active}
use Rattle.vector_clmul.specs.Carryless.{element}
use Rattle.vector_ghash.specs.GhashWords.{group}
use Rattle.vector_fill.specs.Fill.{mask_filled, tail_filled, filled}
use Rattle.vector_execute.specs.Execute.{done_known, done, executed}
use Rattle.vector_execute.proofs.Admitted.{Admitted, admitted-as, performed, refused}
use Rattle.theorems.specs.Execution.{first_unit, past_unit, active_unit, unit_bytes, unit_place, unit_of, Within, WordDone}
use Rattle.theorems.specs.Policies.{Rule, result, tail, masked, kept, InUnit, ByTail, Gives, EveryByte, BytesOfWords, InactiveIs, OnlyVdGroup, NumbersIgnorePolicies}
use Rattle.theorems.proofs.Execution.{units-done, unmasked}
use Rattle.theorems.proofs.Filled.{Fills, MaskedOff, mask-fill, InTail, tail-fill}
use Rattle.theorems.proofs.Places.{sew32, settings, sews, vd-of}

-- ---- units in a row: where each lies, and which one a byte is in

module _ (base w : ℕ) (some : 0 < w) where
  -- the unit of a byte
  unit-of : (p : ℕ) → base ≤ p → Within (base + (p - base) / w * w) w p
  unit-of p h =
      let e = div-add-mod' (p - base) w in
      let r = mod-lt (p - base) some in
      (omega (arith, e, r), omega (arith, e, r))

  -- before and past a unit
  unit-before : (i n p : ℕ) → i < n → Within (base + i * w) w p → p < base + n * w
  unit-before i n p l h = omega (arith, h, mul-le-mul_right w l, suc-mul i w)

  unit-past : (i n p : ℕ) → n ≤ i → Within (base + i * w) w p → base + n * w ≤ p
  unit-past i n p l h = omega (arith, h, mul-le-mul_right w l)

  -- a byte is in one unit
  one_unit : (i j p : ℕ) → Within (base + i * w) w p → Within (base + j * w) w p → i ≡ j
  one_unit i j p a b = go (dec_lt i j) (dec_lt j i)
    where
      go : Dec (i < j) → Dec (j < i) → i ≡ j
      go (yes l) d = absurd (omega (arith, unit-before i j p l a, b))
      go (no n) (yes l) = absurd (omega (arith, unit-before j i p l b, a))
      go (no n) (no m) = omega (arith, n, m)

-- ---- which rule gives a byte

-- the units of vd's group stand in a row from its start on, and the tail after them
record InARow (k : Kind) (f : Fields) (s : Settings) : Type 0 where
  some : 0 < unit_bytes k s
  places : (i : ℕ) → unit_place k f s i ≡ f.vd * register_bytes s.vlen + i * unit_bytes k s
  tail_at : element_at s.vlen s.sew f.vd s.vl ≡ f.vd * register_bytes s.vlen + past_unit k s * unit_bytes k s

module _ (k : Kind) (f : Fields) (s : Settings) (file : List ℕ) (row : InARow k f s) where
  abbrev base : ℕ
  base = f.vd * register_bytes s.vlen

  abbrev w : ℕ
  w = unit_bytes k s

  abbrev Given : ℕ → Rule → Type 0
  Given p r = Gives k f s file p r

  -- the same units, by their places in the row
  in_row : (i p : ℕ) → Within (unit_place k f s i) w p → Within (base + i * w) w p
  in_row i p = subst (λ (n : ℕ). Within n w p) (row.places i)

  in_place : (i p : ℕ) → Within (base + i * w) w p → Within (unit_place k f s i) w p
  in_place i p = subst (λ (n : ℕ). Within n w p) (sym (row.places i))

  not-tail : (i p : ℕ) (b : Bool) → InUnit k f s file b i p → ByTail f s p → ⊥
  not-tail i p b u t = omega (arith, unit-before base w row.some i (past_unit k s) p u.1 (in_row i p u.3), row.tail_at, t.2)

  same-unit : (i j p : ℕ) (a b : Bool) → InUnit k f s file a i p → InUnit k f s file b j p → i ≡ j
  same-unit i j p a b u v = one_unit base w row.some i j p (in_row i p u.3) (in_row j p v.3)

  -- a unit is active or not
  not-both : (i j p : ℕ) → InUnit k f s file true i p → InUnit k f s file false j p → ⊥
  not-both i j p u v =
      true≢false (sym u.2 ∙ ap (active_unit k f file) (same-unit i j p true false u v) ∙ v.2)

  -- no two rules give a byte
  one-rule : (p : ℕ) (a b : Rule) → Given p a → Given p b → a ≡ b
  one-rule p (result i) (result j) u v = ap result (same-unit i j p true true u v)
  one-rule p (result i) tail u v = absurd (not-tail i p true u v)
  one-rule p (result i) (masked j) u v = absurd (not-both i j p u v.1)
  one-rule p (result i) kept u v = absurd (v.0 i u)
  one-rule p tail (result j) u v = absurd (not-tail j p true v u)
  one-rule p tail tail u v = refl
  one-rule p tail (masked j) u v = absurd (not-tail j p false v.1 u)
  one-rule p tail kept u v = absurd (v.1 u)
  one-rule p (masked i) (result j) u v = absurd (not-both j i p v u.1)
  one-rule p (masked i) tail u v = absurd (not-tail i p false u.1 v)
  one-rule p (masked i) (masked j) u v = ap masked (same-unit i j p false false u.1 v.1)
  one-rule p (masked i) kept u v = absurd (v.2 i u)
  one-rule p kept (result j) u v = absurd (u.0 j v)
  one-rule p kept tail u v = absurd (u.1 v)
  one-rule p kept (masked j) u v = absurd (u.2 j v)
  one-rule p kept kept u v = refl

  -- a byte of no unit in range, and one of a unit in range
  no-unit : (p : ℕ) → ((i : ℕ) → first_unit k s ≤ i → i < past_unit k s → Within (base + i * w) w p → ⊥) → (ByTail f s p → ⊥) → Given p kept
  no-unit p none t =
      (λ i u. none i u.0 u.1 (in_row i p u.3), t, λ i u. none i u.1.0 u.1.1 (in_row i p u.1.3))

  by-unit : (p i : ℕ) → first_unit k s ≤ i → i < past_unit k s → Within (base + i * w) w p → (r : Rule) × Given p r
  by-unit p i lo hi h = go (active_unit k f file i) refl s.vma refl
    where
      unit : (b : Bool) → active_unit k f file i ≡ b → InUnit k f s file b i p
      unit b a = (lo, hi, a, in_place i p h)

      go : (b : Bool) → active_unit k f file i ≡ b → (m : Bool) → s.vma ≡ m → (r : Rule) × Given p r
      go true a m e = (result i, unit true a)
      go false a true e = (masked i, (e, unit false a))
      go false a false e =
          (kept, ((λ j u. not-both j i p u (unit false a)), not-tail i p false (unit false a), λ j u. true≢false (sym u.0 ∙ e)))

  -- the tail, where a word does anything
  by-tail : (p : ℕ) → base + past_unit k s * w ≤ p → (r : Rule) × Given p r
  by-tail p h = go s.vta refl (dec_lt s.vstart s.vl) (dec_lt p (f.vd * register_bytes s.vlen + group_length s.vlen s.lmul))
    where
      past : (i : ℕ) → first_unit k s ≤ i → i < past_unit k s → Within (base + i * w) w p → ⊥
      past i lo hi u = omega (arith, h, unit-before base w row.some i (past_unit k s) p hi u)

      go : (t : Bool) → s.vta ≡ t → Dec (s.vstart < s.vl) → Dec (p < f.vd * register_bytes s.vlen + group_length s.vlen s.lmul) → (r : Rule) × Given p r
      go false e d c = (kept, no-unit p past (λ t. true≢false (sym t.0 ∙ e)))
      go true e (no n) c = (kept, no-unit p past (λ t. n t.1))
      go true e (yes l) (no n) = (kept, no-unit p past (λ t. n t.3))
      go true e (yes l) (yes m) = (tail, (e, l, omega (arith, h, row.tail_at), m))

  some-rule : (p : ℕ) → (r : Rule) × Given p r
  some-rule p = go (dec_le base p)
    where
      i : ℕ
      i = (p - base) / w

      inside : base ≤ p → Dec (i < first_unit k s) → Dec (i < past_unit k s) → (r : Rule) × Given p r
      inside h d (no n) = by-tail p (unit-past base w row.some i (past_unit k s) p (omega (arith, n)) (unit-of base w row.some p h))
      inside h (no m) (yes l) = by-unit p i (omega (arith, m)) l (unit-of base w row.some p h)
      inside h (yes m) (yes l) = (
        kept,
        no-unit p (λ j lo hi u. omega (arith, m, lo, one_unit base w row.some i j p (unit-of base w row.some p h) u))
            (λ t. omega (arith, t.2, row.tail_at, unit-before base w row.some i (past_unit k s) p l (unit-of base w row.some p h))),
      )

      go : Dec (base ≤ p) → (r : Rule) × Given p r
      go (yes h) = inside h (dec_lt i (first_unit k s)) (dec_lt i (past_unit k s))
      go (no n) = (kept, no-unit p (λ j lo hi u. omega (arith, n, u)) (λ t. omega (arith, n, t.2, row.tail_at)))

-- ---- a word that is not refused: its units in a row

-- a GHASH word has vm 1
ghash-unmasked : (word : ℕ) {k : Kind} {f : Fields} → decode word ≡ Some (instruction k f) → is_ghash k ≡ true → f.vm ≡ 1
unfolding decode
ghash-unmasked word {k} {f} known ghash =
    let found = among-row kinds word known in
    let columns = both (eqb (funct6_of word) (row k).funct6) _ found.0 in
    ap (λ (h : Fields). h.vm) (sym found.1) ∙ is-1 k ghash (both (allows (row k).vm (vm_of word)) _ columns.1).0
  where
    is-1 : (k : Kind) → is_ghash k ≡ true → allows (row k).vm (vm_of word) ≡ true → vm_of word ≡ 1
    is-1 VclmulVv e h = absurd (true≢false (sym e))
    is-1 VclmulVx e h = absurd (true≢false (sym e))
    is-1 VclmulhVv e h = absurd (true≢false (sym e))
    is-1 VclmulhVx e h = absurd (true≢false (sym e))
    is-1 VghshVv e h = eqb-true (vm_of word) 1 h
    is-1 VghshVs e h = eqb-true (vm_of word) 1 h
    is-1 VgmulVv e h = eqb-true (vm_of word) 1 h
    is-1 VgmulVs e h = eqb-true (vm_of word) 1 h

module _ (word : ℕ) (s : Settings) {file_length : ℕ} {k : Kind} {f : Fields} (known : decode word ≡ Some (instruction k f)) (a : Admitted file_length k f s) where
  element-bytes : 0 < s.sew / 8
  element-bytes = omega (arith, (settings a).sew-bytes, (sews a).positive)

  in_a_row : InARow k f s
  in_a_row = record { some = some (is_ghash k); places = λ i. places i (is_ghash k); tail_at = tail_at (is_ghash k) a.not4 a.not5 }
    where
      start : ℕ
      start = f.vd * register_bytes s.vlen

      some : (b : Bool) → 0 < cond b 16 (s.sew / 8)
      some true = omega arith
      some false = element-bytes

      places : (i : ℕ) (b : Bool) → cond b (block_place s.vlen f.vd i) (element_at s.vlen s.sew f.vd i) ≡ start + i * cond b 16 (s.sew / 8)
      places i true = ap (λ (n : ℕ). start + n) (mul_comm 16 i)
      places i false = refl

      quarters : (n : ℕ) → n % 4 ≡ 0 → n * 4 ≡ n / 4 * 16
      quarters n h = omega arith

      tail_at : (b : Bool) → b && not (eqb s.sew 32) ≡ false → b && (not (eqb (s.vl % 4) 0) || not (eqb (s.vstart % 4) 0)) ≡ false
          → element_at s.vlen s.sew f.vd s.vl ≡ start + cond b (s.vl / 4) s.vl * cond b 16 (s.sew / 8)
      tail_at true e4 e5 =
          let whole : s.vl % 4 ≡ 0 = eqb-true (s.vl % 4) 0 (not-false (eqb (s.vl % 4) 0) (or-false (not (eqb (s.vl % 4) 0)) _ e5).0) in
          ap (λ (n : ℕ). start + s.vl * (n / 8)) (sew32 s.sew e4) ∙ ap (λ (n : ℕ). start + n) (quarters s.vl whole)
      tail_at false e4 e5 = refl

  -- a unit in range is one where vstart is before vl
  started : (i : ℕ) → first_unit k s ≤ i → i < past_unit k s → s.vstart < s.vl
  started i = go (is_ghash k)
    where
      go : (b : Bool) → cond b (s.vstart / 4) s.vstart ≤ i → i < cond b (s.vl / 4) s.vl → s.vstart < s.vl
      go true lo hi = omega arith
      go false lo hi = omega arith

  module _ (file : List ℕ) (i p : ℕ) where
    -- byte p is one of unit i, which is not active, in a GHASH word or not
    abbrev Off : Bool → Type 0
    Off b =
        (cond b (s.vstart / 4) s.vstart ≤ i) × (i < cond b (s.vl / 4) s.vl) × ((b || active f file i) ≡ false)
        × Within (cond b (block_place s.vlen f.vd i) (element_at s.vlen s.sew f.vd i)) (cond b 16 (s.sew / 8)) p

    -- the elements that the mask policy fills are the units that are not active: a GHASH word has vm 1
    is-unit : MaskedOff f s file i p → InUnit k f s file false i p
    is-unit = go (is_ghash k) (ghash-unmasked word known)
      where
        go : (b : Bool) → (b ≡ true → f.vm ≡ 1) → MaskedOff f s file i p → Off b
        go true one h = absurd (true≢false (sym (eq-eqb f.vm 1 (one refl)) ∙ (or-false (eqb f.vm 1) (eqb (mask_bit file i) 1) h.2).0))
        go false one h = h

    is-masked : InUnit k f s file false i p → MaskedOff f s file i p
    is-masked = go (is_ghash k)
      where
        go : (b : Bool) → Off b → MaskedOff f s file i p
        go true h = absurd (true≢false h.2)
        go false h = h

-- a unit is told by its bytes
unit-same : (k : Kind) (f : Fields) (s : Settings) (i : ℕ) (g h : List ℕ)
    → ((p : ℕ) → Within (unit_place k f s i) (unit_bytes k s) p → get_or g p 0 ≡ get_or h p 0) → unit_of k f s i g ≡ unit_of k f s i h
unit-same k f s i g h = go (is_ghash k)
  where
    go : (b : Bool)
        → ((p : ℕ) → Within (cond b (block_place s.vlen f.vd i) (element_at s.vlen s.sew f.vd i)) (cond b 16 (s.sew / 8)) p → get_or g p 0 ≡ get_or h p 0)
        → cond b (group s g f.vd i) (element s g f.vd i) ≡ cond b (group s h f.vd i) (element s h f.vd i)
    go true e = be_at-same g h (block_place s.vlen f.vd i) 16 e
    go false e = read_le-same g h (element_at s.vlen s.sew f.vd i) (s.sew / 8) e

-- ---- what the rules give

module _
    (word : ℕ) (s : Settings) (scalar : ℕ) (file : List ℕ) (bytes : AreBytes file) (number : refusal_of (length file) word s ≡ 0)
    (k : Kind) (f : Fields) (known : decode word ≡ Some (instruction k f))
  where
    a : Admitted (length file) k f s
    a = admitted-as (length file) word s known number

    -- the file after the active units
    abbrev g : List ℕ
    g = done_known k f s scalar file

    units : WordDone k f s scalar file g
    units = units-done word s scalar file bytes number k f known

    vd-small : f.vd ≤ 31
    vd-small = le_of_suc-le-suc (decoded-fit word known).vd

    units_row : InARow k f s
    units_row = in_a_row word s known a

    rules : (p : ℕ) → (r : Rule) × Gives k f s file p r
    rules = some-rule k f s file units_row

    -- what is not in an active unit is as at entry after these
    unit_kept : (p : ℕ) → ((i : ℕ) → InUnit k f s file true i p → ⊥) → get_or g p 0 ≡ get_or file p 0
    unit_kept p h = units.others p (λ i lo hi on w. h i (lo, hi, on, w))

    masked-out : Fills g (mask_filled f s g) (λ p. (s.vma ≡ true) × ((i : ℕ) × MaskedOff f s file i p))
    masked-out =
        mask-fill f s (settings a) vd-small (vd-of a) (element-bytes word s known a)
        (unmasked f.vm f.vd _ (le_of_suc-le-suc (decoded-fit word known).vm) a.not8) file g units.same_length
        (λ p l. unit_kept p (λ i u. omega (arith, l, units_row.places i, u.3)))

    tail-out : Fills (mask_filled f s g) (tail_filled f s (mask_filled f s g)) (λ p. (s.vta ≡ true) × InTail f s p)
    tail-out =
        tail-fill f s (mask_filled f s g)
        (omega (arith, masked-out.same_length, units.same_length, (settings a).in-file f.vd vd-small (vd-of a)))

    only : (p : ℕ) (r : Rule) → Gives k f s file p r → r ≡ (rules p).0
    only p r h = one-rule k f s file units_row p r (rules p).0 h (rules p).1

    every : (b : Bool) → leb s.vl s.vstart ≡ b → EveryByte k f s scalar file (cond b g (tail_filled f s (mask_filled f s g)))
    every true e =
        let past = leb-true s.vl s.vstart e in
        record {
          rule = λ p. (rules p).0;
          gives = λ p. (rules p).1;
          only = only;
          results = units.results;
          tails = λ p h. absurd (omega (arith, past, h.1));
          masks = λ p i h. absurd (omega (arith, past, started word s known a i h.1.0 h.1.1));
          others = λ p h. unit_kept p h.0;
          same_length = units.same_length;
        }
    every false e =
        let before = leb-false s.vl s.vstart e in
        -- a byte of a unit in range is not one of the tail
        let no-tail : (p i : ℕ) (b : Bool) → InUnit k f s file b i p → (s.vta ≡ true) × InTail f s p → ⊥ =
        λ p i b u t. not-tail k f s file units_row i p b u (t.0, omega (arith, before), t.1.0, t.1.1) in
        record {
          rule = λ p. (rules p).0;
          gives = λ p. (rules p).1;
          only = only;
          results = λ i lo hi on.
              unit-same k f s i (tail_filled f s (mask_filled f s g)) g (λ p w.
              tail-out.others p (no-tail p i true (lo, hi, on, w))
              ∙ masked-out.others p (λ m.
              not-both k f s file units_row i m.1.0 p (lo, hi, on, w) (is-unit word s known a file m.1.0 p m.1.1)))
              ∙ units.results i lo hi on;
          tails = λ p h. tail-out.ones p (h.0, (h.2, h.3));
          masks = λ p i h.
              tail-out.others p (no-tail p i false h.1)
              ∙ masked-out.ones p (h.0, (i, is-masked word s known a file i p h.1));
          others = λ p h.
              tail-out.others p (λ t. h.1 (t.0, omega (arith, before), t.1.0, t.1.1))
              ∙ masked-out.others p (λ m. h.2 m.1.0 (m.0, is-unit word s known a file m.1.0 p m.1.1))
              ∙ unit_kept p h.0;
          same_length = tail-out.same_length ∙ masked-out.same_length ∙ units.same_length;
        }

pub bytes-of-words : BytesOfWords
unfolding filled
bytes-of-words word s scalar file bytes number k f known =
    subst (EveryByte k f s scalar file) (ap (λ (w : Option Instruction). done w s scalar file) (sym known) ∙ (performed word s scalar file number).1)
    (every word s scalar file bytes number k f known (leb s.vl s.vstart) refl)

-- ---- for readers

pub inactive-is : InactiveIs
unfolding mask_bit
inactive-is word k f known file i = (λ h. not-active h, λ h. rw (h.0, h.1, h.2) refl)
  where
    bit : ℕ
    bit = mask_bit file i

    zero_bit : eqb bit 1 ≡ false → bit ≡ 0
    zero_bit e =
        let small : bit < 2 = mod-lt (get_or file (i / 8) 0 / 2 ^ (i % 8)) (omega arith) in
        omega (arith, eqb-false bit 1 e, small)

    not-active : active_unit k f file i ≡ false → (is_ghash k ≡ false) × (f.vm ≡ 0) × (mask_bit file i ≡ 0)
    not-active h =
        let p = or-false (is_ghash k) (active f file i) h in
        let q = or-false (eqb f.vm 1) (eqb bit 1) p.1 in
        (p.0, omega (arith, eqb-false f.vm 1 q.0, (decoded-fit word known).vm), zero_bit q.1)

pub only-vd-group : OnlyVdGroup
only-vd-group word s scalar file bytes k f known p out = go (ℕ_discrete (refusal_of (length file) word s) 0)
  where
    inside : (number : refusal_of (length file) word s ≡ 0) → Gives k f s file p kept
    inside number =
        let a = admitted-as (length file) word s known number in
        let units_row = in_a_row word s known a in
        let start = f.vd * register_bytes s.vlen in
        let unit : (i : ℕ) (b : Bool) → InUnit k f s file b i p → ⊥ =
        λ i b u.
        let w = in_row k f s file units_row i p u.3 in
        let end = unit-before start (unit_bytes k s) units_row.some i (past_unit k s) p u.1 w in
        out (omega (arith, w), omega (arith, end, units_row.tail_at, (settings a).elements-fit)) in
        ((λ i u. unit i true u), (λ t. out (omega arith, omega arith)), λ i u. unit i false u.1)

    go : Dec (refusal_of (length file) word s ≡ 0) → get_or (executed word s scalar file) p 0 ≡ get_or file p 0
    go (yes number) = (bytes-of-words word s scalar file bytes number k f known).others p (inside number)
    go (no n) = ap (λ (l : List ℕ). get_or l p 0) (sym (refused word s scalar file n).1)

pub numbers-ignore-policies : NumbersIgnorePolicies
unfolding refusal_of refusal_of_known
numbers-ignore-policies file_length word s vta vma = go (decode word)
  where
    go : (w : Option Instruction) → refusal_of_decoded file_length w (with_policies vta vma s) ≡ refusal_of_decoded file_length w s
    go None = refl
    go (Some i) = refl
