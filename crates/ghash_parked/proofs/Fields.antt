-- A record's bytes, field by field: written over zeros (`written`), how many they are (`length-record_bytes`), and read again (`written-is-read`,
-- `spare-zeros`).
-- Assumes nothing.
use Rattle.std.proofs.Common.{ℕ, zero, suc, ◌+◌, ◌^◌, ◌<◌, true, List, ◌++◌, append_assoc, ◌≡◌, refl, sym, ap, subst, ◌∙◌, mod-eq_of_lt, arith, length, take, drop, replicate, length-append, take_at, drop_at}
use lib.ListN.{length-replicate, replicate-append-replicate, get_or-append}
use lib.Seq.{sets, sets-eq, drop-append-add}
use Rattle.octets.specs.LittleEndian.{read_le, le_bytes}
use Rattle.octets.proofs.BigEndian.{be_at-same, be_at-be_bytes, bytes_bits, length-be_bytes}
use Rattle.octets.proofs.LittleEndian.{read-after, read-le_bytes, length-le_bytes}
use Rattle.octets.proofs.Stores.{sets-append}
use Rattle.gf128.specs.Bytes.{block_bytes}
use Rattle.gf128.specs.Running.{State, all_zero}
use Rattle.ghash_parked.specs.declared.layout.Layout.{Layout}
use Rattle.ghash_parked.specs.Layout.{at_y, at_block, at_count_a, at_count_c, at_phase, at_spare, size}
use Rattle.ghash_parked.specs.Record.{record_bytes, state_at}

-- ---- runs of bytes

-- a run of stores that begins where one ends
next-to : (l : List ℕ) (at next : ℕ) (xs ys : List ℕ) → next ≡ at + length xs → sets (sets l at xs) next ys ≡ sets l at (xs ++ ys)
next-to l at next xs ys e = ap (λ (p : ℕ). sets (sets l at xs) p ys) e ∙ sets-append l at xs ys

-- stores over zeros, with m of them left
over_zeros : (n m : ℕ) (vs : List ℕ) → n ≡ length vs + m → sets (replicate n 0) 0 vs ≡ vs ++ replicate m 0
over_zeros n m vs e =
    let z = length-replicate {A = ℕ} n 0 in
    let first : List ℕ = replicate (length vs) 0 in
    let zeros : replicate n 0 ≡ first ++ replicate m 0 =
    ap (λ (k : ℕ). replicate k 0) e ∙ sym (replicate-append-replicate {A = ℕ} (length vs) m 0) in
    sets-eq vs (replicate n 0) 0 (omega (arith, z))
    ∙ ap (λ (r : List ℕ). vs ++ r)
    (ap (drop (0 + length vs)) zeros ∙ drop_at first (replicate m 0) (0 + length vs) (omega (arith, length-replicate {A = ℕ} (length vs) 0)))

-- past the fields before
skip : (n : ℕ) (xs ys : List ℕ) (at k : ℕ) → at ≡ length xs + k → read_le (xs ++ ys) at n ≡ read_le ys k n
skip n xs ys at k e = ap (λ (p : ℕ). read_le (xs ++ ys) p n) e ∙ read-after xs ys k n

past : (xs ys : List ℕ) (at k : ℕ) → at ≡ length xs + k → drop at (xs ++ ys) ≡ drop k ys
past xs ys at k e = ap (λ (p : ℕ). drop p (xs ++ ys)) e ∙ drop-append-add xs ys k

zeros : (n : ℕ) → all_zero (replicate n 0) ≡ true
zeros zero = refl
zeros (suc n) = zeros n

-- ---- a record

module _ (l : Layout) (s : State) (full : length s.block ≡ 16) where
  abbrev n : ℕ
  n = l.count_bytes

  abbrev x : List ℕ
  x = block_bytes s.y

  abbrev a : List ℕ
  a = le_bytes n s.count_a

  abbrev c : List ℕ
  c = le_bytes n s.count_c

  abbrev p : List ℕ
  p = le_bytes 1 s.phase

  abbrev z : List ℕ
  z = replicate l.spare_bytes 0

  -- all fields but the spare bytes
  abbrev fields : List ℕ
  fields = x ++ (s.block ++ (a ++ (c ++ p)))

  length_fields : length fields ≡ at_spare l
  length_fields =
      rw (length-append, length-append, length-append, length-append, length-be_bytes 16 s.y, full, length-le_bytes n s.count_a, length-le_bytes n s.count_c, length-le_bytes 1 s.phase)
      (omega arith)

  pub written : sets (sets (sets (sets (sets (replicate (size l) 0) at_y x) at_block s.block) at_count_a a) (at_count_c l) c) (at_phase l) p ≡ record_bytes l s
  unfolding record_bytes
  written =
      let z : List ℕ = replicate (size l) 0 in
      let x16 = length-be_bytes 16 s.y in
      let an = length-le_bytes n s.count_a in
      let cn = length-le_bytes n s.count_c in
      next-to (sets (sets (sets z at_y x) at_block s.block) at_count_a a) (at_count_c l) (at_phase l) c p (omega arith)
      ∙ next-to (sets (sets z at_y x) at_block s.block) at_count_a (at_count_c l) a (c ++ p) (omega arith)
      ∙ next-to (sets z at_y x) at_block at_count_a s.block (a ++ (c ++ p)) (omega arith)
      ∙ next-to z at_y at_block x (s.block ++ (a ++ (c ++ p))) (omega arith)
      ∙ over_zeros (size l) l.spare_bytes fields (omega (arith, length_fields))
      ∙ simp append_assoc

  pub length-record_bytes : length (record_bytes l s) ≡ size l
  unfolding record_bytes
  length-record_bytes =
      rw (length-append, length-append, length-append, length-append, length-append, length-be_bytes 16 s.y, full, length-le_bytes n s.count_a, length-le_bytes n s.count_c, length-le_bytes 1 s.phase, length-replicate)
      (omega arith)

  pub written-is-read : s.y < 2 ^ 128 → s.count_a < 256 ^ n → s.count_c < 256 ^ n → s.phase < 256 → state_at l (record_bytes l s) ≡ s
  unfolding record_bytes state_at
  written-is-read hy ha hc hp =
      let x16 = length-be_bytes 16 s.y in
      let b16 = full in
      let an = length-le_bytes n s.count_a in
      let cn = length-le_bytes n s.count_c in
      let after-y = s.block ++ (a ++ (c ++ (p ++ z))) in
      λ i. record {
        y =
            (be_at-same (x ++ after-y) x 0 16 (λ k w. get_or-append x after-y 0 k (omega (arith, w.1)))
            ∙ be_at-be_bytes 16 s.y
            ∙ mod-eq_of_lt (subst (λ (m : ℕ). s.y < m) (sym (bytes_bits 16)) hy)) i;
        block = (ap (take 16) (drop_at x after-y 16 x16) ∙ take_at s.block (a ++ (c ++ (p ++ z))) 16 b16) i;
        count_a =
            (skip n x after-y 32 16 (omega arith)
            ∙ skip n s.block (a ++ (c ++ (p ++ z))) 16 0 (omega arith)
            ∙ read-le_bytes n s.count_a (c ++ (p ++ z))
            ∙ mod-eq_of_lt ha) i;
        count_c =
            (skip n x after-y (32 + n) (16 + n) (omega arith)
            ∙ skip n s.block (a ++ (c ++ (p ++ z))) (16 + n) n (omega arith)
            ∙ skip n a (c ++ (p ++ z)) n 0 (omega arith)
            ∙ read-le_bytes n s.count_c (p ++ z)
            ∙ mod-eq_of_lt hc) i;
        phase =
            (skip 1 x after-y (32 + n + n) (16 + n + n) (omega arith)
            ∙ skip 1 s.block (a ++ (c ++ (p ++ z))) (16 + n + n) (n + n) (omega arith)
            ∙ skip 1 a (c ++ (p ++ z)) (n + n) n (omega arith)
            ∙ skip 1 c (p ++ z) n 0 (omega arith)
            ∙ read-le_bytes 1 s.phase z
            ∙ mod-eq_of_lt hp) i;
      }

  -- its spare bytes are zeros
  pub spare-zeros : all_zero (drop (at_spare l) (record_bytes l s)) ≡ true
  unfolding record_bytes
  spare-zeros =
      let x16 = length-be_bytes 16 s.y in
      let b16 = full in
      let an = length-le_bytes n s.count_a in
      let cn = length-le_bytes n s.count_c in
      let p1 = length-le_bytes 1 s.phase in
      ap all_zero
      (past x (s.block ++ (a ++ (c ++ (p ++ z)))) (at_spare l) (17 + n + n) (omega arith)
      ∙ past s.block (a ++ (c ++ (p ++ z))) (17 + n + n) (1 + n + n) (omega arith)
      ∙ past a (c ++ (p ++ z)) (1 + n + n) (1 + n) (omega arith)
      ∙ past c (p ++ z) (1 + n) 1 (omega arith)
      ∙ past p z 1 0 (omega arith))
      ∙ zeros l.spare_bytes
