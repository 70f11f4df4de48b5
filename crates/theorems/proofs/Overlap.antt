-- Refusal 7 is the overlap of vd's group with the key (`seven-is-overlap`), so no write of a .vs word that is done touches the key
-- (`writes-miss-key`, `key-stays`).
-- Assumes nothing.
use Rattle.std.proofs.Common.{Option, Some, Bool, true, false, true≢false, cond, not, ◌&&◌, List, ◌≡◌, refl, sym, ap, subst, ◌∙◌, ℕ, ◌+◌, ◌-◌, ◌*◌, ◌/◌, ◌<◌, ◌≤◌, mul-le-mul_right, suc-mul, add-mul, lt_of_not-le, arith, le-leb, lt-ltb, leb-true, ltb-true, eqb, leb, ltb, length}
use native.Mathlib.Decide.{dec_le}
use Rattle.octets.proofs.BigEndian.{be_at-same}
use Rattle.octets.proofs.Tests.{both}
use Rattle.gf128.proofs.Bytes.{put_block-other}
use Rattle.vector_registers.specs.declared.settings.Settings.{Settings}
use Rattle.vector_registers.specs.Settings.{applies1, register_bytes, group_registers, occupies}
use Rattle.vector_word.specs.declared.Fields.{Fields}
use Rattle.vector_kind.specs.declared.Kind.{Kind}
use Rattle.vector_kind.specs.declared.Kind.TheVariants.{VclmulVv, VclmulVx, VclmulhVv, VclmulhVx, VghshVv, VghshVs, VgmulVv, VgmulVs}
use Rattle.vector_kind.specs.Kinds.{is_ghash, is_vs}
use Rattle.vector_word.specs.declared.Instruction.{Instruction}
use Rattle.vector_word.specs.Word.{decode, instruction}
use Rattle.vector_word.proofs.Tests.{past, held, passed-by}
use Rattle.vector_refusal.specs.Refusal.{applies7, applies8, refusal_of_word, refusal_of}
use Rattle.vector_element.specs.Element.{block_place}
use Rattle.vector_element.specs.Steps.{steps}
use Rattle.vector_element.proofs.Steps.{steps-keep}
use Rattle.vector_ghash.specs.declared.GhashMultiplier.{GhashMultiplier}
use Rattle.vector_ghash.specs.declared.GhashMultiplier.TheVariants.{YXorX, YAlone}
use Rattle.vector_ghash.specs.GhashWords.{vs_step, ghash_vs}
use Rattle.vector_execute.specs.Execute.{done_known, done}
use Rattle.vector_execute.proofs.Admitted.{Admitted, past-six, admitted-as, performed}
use Rattle.theorems.specs.Execution.{Within, InVdGroup}
use Rattle.theorems.specs.Overlap.{key_bytes, InKey, KeyOverlaps, SevenIsOverlap, WritesMissKey, key_in, KeyStays}
use Rattle.vector_fill.specs.Fill.{filled}
use Rattle.theorems.proofs.Filled.{filled-outside}
use Rattle.theorems.proofs.Places.{sew32, settings}
use Rattle.theorems.proofs.Registers.{Ready, ready, group-fits}

-- ---- registers and bytes: a group of n registers of v bytes has one of the bytes from register r on, v at most, exactly when it occupies r

module _ (first r n v bytes : ℕ) (some : 0 < bytes) (most : bytes ≤ v) where
  common : (first ≤ r) × (r < first + n) → (p : ℕ) × Within (r * v + 16 * 0) bytes p × Within (first * v) (n * v) p
  common h =
      (r * v, (omega arith, omega arith), (mul-le-mul_right v h.0, omega (arith, mul-le-mul_right v h.1, suc-mul r v, add-mul first n v)))

  occupied : (p : ℕ) → Within (r * v + 16 * 0) bytes p → Within (first * v) (n * v) p → (first ≤ r) × (r < first + n)
  occupied p key w = (from (dec_le first r), to (dec_le (first + n) r))
    where
      from : Dec (first ≤ r) → first ≤ r
      from (yes h) = h
      from (no h) = absurd (omega (arith, mul-le-mul_right v (lt_of_not-le h), suc-mul r v))

      to : Dec (first + n ≤ r) → r < first + n
      to (yes h) = absurd (omega (arith, mul-le-mul_right v h, add-mul first n v))
      to (no h) = lt_of_not-le h

-- of vd's group and the key
module _ (f : Fields) (s : Settings) (large : 16 ≤ register_bytes s.vlen) where
  abbrev end : ℕ
  end = f.vd + group_registers s.lmul

  meets : occupies s.lmul f.vd f.vs2 ≡ true → (p : ℕ) × InKey f s p × InVdGroup f s p
  meets e =
      let h = both (leb f.vd f.vs2) (ltb f.vs2 end) e in
      common f.vd f.vs2 (group_registers s.lmul) (register_bytes s.vlen) key_bytes (omega arith) (omega (arith, large))
      (leb-true f.vd f.vs2 h.0, ltb-true f.vs2 end h.1)

  met : (p : ℕ) → InKey f s p → InVdGroup f s p → occupies s.lmul f.vd f.vs2 ≡ true
  met p key w =
      let h =
      occupied f.vd f.vs2 (group_registers s.lmul) (register_bytes s.vlen) key_bytes (omega arith) (omega (arith, large)) p key w in
      rw (le-leb f.vd f.vs2 h.0, lt-ltb f.vs2 end h.1) refl

-- ---- the number

module _
    (file_length word : ℕ) (s : Settings) (k : Kind) (f : Fields) (known : decode word ≡ Some (instruction k f))
    (none : (0 < refusal_of file_length word s) × (refusal_of file_length word s < 7) → ⊥)
  where
    abbrev Is : ℕ → Type 0
    Is n = refusal_of file_length word s ≡ n

    no_number : (n : ℕ) → 0 < n → n < 7 → Is n → ⊥
    no_number n low high e = none (omega arith, omega arith)

    abbrev rest : ℕ
    rest = cond (applies8 k f) 8 0

    left : Ready file_length s × Is (cond (applies7 k f s) 7 rest)
    unfolding refusal_of
    left =
        let p1 = passed-by Is (applies1 file_length s.vlen) 1 (refusal_of_word (decode word) s) (no_number 1 (omega arith) (omega arith)) refl in
        let p = past-six Is k f s no_number (subst (λ (w : Option Instruction). Is (refusal_of_word w s)) known p1.1) in
        (ready file_length s p1.0 p.0, p.4)

    applied : Is 7 → applies7 k f s ≡ true
    applied e = go (applies7 k f s) refl
      where
        other : (b : Bool) → ◌≡◌ {A = ℕ} 7 (cond b 8 0) → ⊥
        other true h = omega arith
        other false h = omega arith

        go : (b : Bool) → applies7 k f s ≡ b → applies7 k f s ≡ true
        go true h = h
        go false h = absurd (other (applies8 k f) (sym e ∙ past (applies7 k f s) 7 rest left.1 h))

    overlaps : Is 7 → KeyOverlaps k f s
    overlaps e =
        let h = both (is_vs k) (occupies s.lmul f.vd f.vs2) (applied e) in
        let b = meets f s left.0.sixteen h.1 in
        (h.0, b.0, b.1, b.2)

    given : KeyOverlaps k f s → Is 7
    given (vs, p, key, w) =
        let applies : applies7 k f s ≡ true = rw (vs, met f s left.0.sixteen p key w) refl in
        sym (held (applies7 k f s) 7 rest left.1 applies)

pub seven-is-overlap : SevenIsOverlap
seven-is-overlap file_length word s k f known none =
    let below : (0 < refusal_of file_length word s) × (refusal_of file_length word s < 7) → ⊥ = λ h. none (h.0, omega (arith, h.1)) in
    (overlaps file_length word s k f known below, given file_length word s k f known below)

-- ---- the writes of a word that is done

-- what holds of both .vs kinds holds of every kind that is .vs
each-vs : (P : Kind → Type 0) → P VghshVs → P VgmulVs → (k : Kind) → is_vs k ≡ true → P k
each-vs P hsh mul VclmulVv e = absurd (true≢false (sym e))
each-vs P hsh mul VclmulVx e = absurd (true≢false (sym e))
each-vs P hsh mul VclmulhVv e = absurd (true≢false (sym e))
each-vs P hsh mul VclmulhVx e = absurd (true≢false (sym e))
each-vs P hsh mul VghshVv e = absurd (true≢false (sym e))
each-vs P hsh mul VghshVs e = hsh
each-vs P hsh mul VgmulVv e = absurd (true≢false (sym e))
each-vs P hsh mul VgmulVs e = mul

module _ {file_length : ℕ} {k : Kind} {f : Fields} {s : Settings} (a : Admitted file_length k f s) (vs : is_vs k ≡ true) where
  free : occupies s.lmul f.vd f.vs2 ≡ false
  free = subst (λ (b : Bool). b && occupies s.lmul f.vd f.vs2 ≡ false) vs a.not7

  outside : (p : ℕ) → InVdGroup f s p → InKey f s p → ⊥
  outside p w key = true≢false (sym (met f s (settings a).sixteen p key w) ∙ free)

  misses : (i : ℕ) → i < s.vl / 4 → (p : ℕ) → Within (block_place s.vlen f.vd i) 16 p → InKey f s p → ⊥
  misses i h p w key =
      let is32 : s.sew ≡ 32 = sew32 s.sew (subst (λ (b : Bool). b && not (eqb s.sew 32) ≡ false) (each-vs (λ (k : Kind). is_ghash k ≡ true) refl refl k vs) a.not4) in
      let fits = group-fits s (settings a) is32 i h in
      outside p (omega arith, omega arith) key

  steps-keep-key : (m : GhashMultiplier) (file : List ℕ) (n : ℕ) → n ≤ s.vl / 4 - s.vstart / 4
      → key_in f s (steps (vs_step (key_in f s file) m f s) n (s.vstart / 4) file) ≡ key_in f s file
  unfolding vs_step
  steps-keep-key m file n h =
      steps-keep (vs_step (key_in f s file) m f s) (λ g. key_in f s g ≡ key_in f s file) n (s.vstart / 4) file
      (λ i g low high e.
      be_at-same (vs_step (key_in f s file) m f s i g) g (block_place s.vlen f.vs2 0) 16
      (λ p key. put_block-other g (block_place s.vlen f.vd i) _ p (λ w. misses i (omega arith) p w key))
      ∙ e) refl

word_keeps : (k : Kind) (f : Fields) (s : Settings) (scalar : ℕ) (file : List ℕ) → is_vs k ≡ true → Admitted (length file) k f s
    → key_in f s (done_known k f s scalar file) ≡ key_in f s file
unfolding ghash_vs
word_keeps k f s scalar file vs =
    each-vs (λ (k : Kind). Admitted (length file) k f s → key_in f s (done_known k f s scalar file) ≡ key_in f s file)
    (λ a. steps-keep-key a refl YXorX file (s.vl / 4 - s.vstart / 4) (omega arith))
    (λ a. steps-keep-key a refl YAlone file (s.vl / 4 - s.vstart / 4) (omega arith)) k vs

pub writes-miss-key : WritesMissKey
writes-miss-key file_length word s number k f known vs = outside (admitted-as file_length word s known number) vs

pub key-stays : KeyStays
key-stays word s scalar file number k f known vs =
    let a = admitted-as (length file) word s known number in
    let g = done_known k f s scalar file in
    record {
      between = λ m n h. steps-keep-key a vs m file n (omega (arith, h));
      after =
          ap (key_in f s) (sym (performed word s scalar file number).1 ∙ ap (λ (w : Option Instruction). done w s scalar file) known)
          ∙ be_at-same (filled f s g) g (block_place s.vlen f.vs2 0) 16
          (λ p key. filled-outside f s (settings a) g p (λ w. outside a vs p w key))
          ∙ word_keeps k f s scalar file vs a;
    }
