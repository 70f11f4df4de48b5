-- A word that is not refused does what the pseudocode of sources 000 and 002 does: `follows-pseudocode` (the whole file is the
-- pseudocode's) and `elements-follow` (each active element or element group is what the pseudocode gives from the file at entry). Below
-- them, over the width: `low-is-clmul`, `high-is-clmulh`, the halves of a carry-less product are source 002's clmul and clmulh.
-- Assumes nothing.
use Rattle.std.proofs.Common.{Option, Some, Bool, true, false, cond, List, ◌≡◌, refl, sym, ap, ap₂, subst, ◌∙◌, ℕ, zero, suc, ◌+◌, ◌-◌, ◌*◌, ◌/◌, ◌%◌, ◌^◌, ◌<◌, ◌≤◌, zero-le, mod-lt, mul_comm, mul-zero, le_of_lt, le_of_eq, le_refl, mod-eq_of_lt, zero-add, le_of_suc-le-suc, arith, le-leb, eqb, length, pow-add, pow_pos}
use native.Mathlib.Nat.{div-eq_of_lt, zero-mod, mul-div-mul_right, zero-div, sub-zero}
use lib.Bits.{bit_xor, xor_mod, xor_shr}
use lib.Pow.{shr_mod}
use lib.Seq.{sets}
use Rattle.gf128.specs.Field.{product}
use Rattle.gf128.specs.Bytes.{block_bytes, put_block}
use Rattle.octets.specs.Bytes.{AreBytes}
use Rattle.octets.specs.LittleEndian.{read_le, write_le}
use Rattle.octets.proofs.BigEndian.{be_at-lt, bytes_bits}
use Rattle.octets.proofs.LittleEndian.{read-lt, write_le-length, write_le-bytes}
use Rattle.gf128.proofs.Places.{digit-map}
use Rattle.vector_registers.specs.declared.settings.Settings.{Settings}
use Rattle.vector_registers.specs.Settings.{register_bytes}
use Rattle.vector_word.specs.declared.Fields.{Fields}
use Rattle.vector_kind.specs.declared.Kind.{Kind}
use Rattle.vector_kind.specs.declared.Kind.TheVariants.{VclmulVv, VclmulVx, VclmulhVv, VclmulhVx, VghshVv, VghshVs, VgmulVv, VgmulVs}
use Rattle.vector_word.specs.declared.Instruction.{Instruction}
use Rattle.vector_word.specs.Word.{decode, instruction}
use Rattle.vector_refusal.specs.Refusal.{refusal_of}
use Rattle.vector_product.specs.declared.clmul.Half.{Half}
use Rattle.vector_product.specs.declared.clmul.Half.TheVariants.{Low, High}
use Rattle.vector_product.specs.Clmul as Clmul
use Rattle.vector_product.specs.Clmul.{clmul64, low_half, high_half, half_of}
use Rattle.vector_element.specs.Element.{element_at, block_place, active}
use Rattle.vector_element.specs.Steps.{steps}
use Rattle.vector_product.proofs.Bilinear.{whole, sum_lt}
use Rattle.vector_product.proofs.Carryless.{bit_of, bit-lt}
use Rattle.vector_product.proofs.Sew.{SewFacts}
use Rattle.vector_clmul.specs.declared.Multiplier.{Multiplier}
use Rattle.vector_clmul.specs.declared.Multiplier.TheVariants.{Vs1, Scalar}
use Rattle.vector_clmul.specs.Carryless.{element, scalar_of, carryless_result, carryless_step, carryless}
use Rattle.vector_ghash.specs.declared.GhashMultiplier.{GhashMultiplier}
use Rattle.vector_ghash.specs.declared.GhashMultiplier.TheVariants.{YXorX, YAlone}
use Rattle.vector_ghash.specs.GhashWords.{group, multiplier_of, vv_step, vs_step, ghash_vv, ghash_vs}
use Rattle.vector_execute.specs.Execute.{done_known, done, executed}
use Rattle.vector_execute.proofs.Admitted.{Admitted, admitted-as, performed}
use Rattle.vector_word.proofs.Writer.{FieldsFit, decoded-fit}
use Rattle.theorems.specs.Execution.{unit_of, result_of}
use Rattle.theorems.specs.Pseudocode.{◌!◌, ◌xor◌, shl, shr, turns, foreach, brev8, reversed, get_velem, set_velem, «X», zext_or_truncate_to_sew, clmul, clmulh, Suffix, vv, vx, if_vv, VCLMUL, VCLMULH, EGW, multiplied, VGHSH, VGHSHVS, VGMUL, VGMULVV, pseudocode, FollowsPseudocode, width_of, given, ElementsFollowPseudocode}
use Rattle.vector_fill.specs.Fill.{filled}
use Rattle.theorems.proofs.Filled.{filled-bytes}
use Rattle.theorems.proofs.Policies.{bytes-of-words}
use Rattle.theorems.proofs.Places.{sew32, settings, sews, vd-of}
use Rattle.theorems.proofs.Registers.{Aligned, Ready, group-fits}
use Rattle.theorems.proofs.Reversal.{turns-states, if-bit, reversed-xor, multiplied-is-product, brev8-xor, brev8-twice, brev8-read, write-brev8}

-- ---- clmul and clmulh

-- the low w bits of n steps of the product are n turns
low_turn : (a b w k : ℕ) → cond (eqb (b ! k) 1) (Clmul.clmul k a b % 2 ^ w xor shl w a k) (Clmul.clmul k a b % 2 ^ w) ≡ Clmul.clmul (suc k) a b % 2 ^ w
unfolding Clmul.clmul
low_turn a b w k =
    if-bit (bit_of b k) (Clmul.clmul k a b % 2 ^ w) (shl w a k) (bit-lt b k)
    ∙ sym (xor_mod (Clmul.clmul k a b) (bit_of b k * (a * 2 ^ k)) w
    ∙ ap (bit_xor (Clmul.clmul k a b % 2 ^ w)) (digit-map (λ x. x % 2 ^ w) (zero-mod (2 ^ w)) (bit_of b k) (a * 2 ^ k) (bit-lt b k)))

pub low-is-clmul : (a b w : ℕ) → b < 2 ^ w → w ≤ 64 → low_half w (clmul64 a b) ≡ clmul a b w
unfolding clmul Clmul.clmul
low-is-clmul a b w hb h =
    let body : ℕ → ℕ → ℕ = λ i result. cond (eqb (b ! i) 1) (result xor shl w a i) result in
    ap (λ (p : ℕ). p % 2 ^ w) (whole a b w hb h)
    ∙ sym (ap (λ (n : ℕ). turns body n 0 0) (sub-zero w)
    ∙ ap (turns body w 0) (sym (zero-mod (2 ^ w)))
    ∙ turns-states body (λ k. Clmul.clmul k a b % 2 ^ w) w (λ k l. low_turn a b w k) w 0 (le_of_eq (zero-add w))
    ∙ ap (λ (k : ℕ). Clmul.clmul k a b % 2 ^ w) (zero-add w))

-- a moved up by i, from bit w up
term-high : (a b w i : ℕ) → i ≤ w → bit_of b i * (a * 2 ^ i) / 2 ^ w ≡ bit_of b i * (a / 2 ^ (w - i))
term-high a b w i h =
    let e : w ≡ w - i + i = omega arith in
    digit-map (λ x. x / 2 ^ w) (zero-div (2 ^ w)) (bit_of b i) (a * 2 ^ i) (bit-lt b i)
    ∙ ap (λ (x : ℕ). bit_of b i * x)
    (ap (λ (n : ℕ). a * 2 ^ i / n) (ap (λ (k : ℕ). 2 ^ k) e ∙ pow-add 2 (w - i) i) ∙ mul-div-mul_right a (2 ^ (w - i)) (pow_pos i))

high-turn : (a b w k : ℕ) → k < w
    → cond (eqb (b ! k) 1) (Clmul.clmul k a b / 2 ^ w xor shr a (w - k)) (Clmul.clmul k a b / 2 ^ w) ≡ Clmul.clmul (suc k) a b / 2 ^ w
unfolding Clmul.clmul
high-turn a b w k h =
    if-bit (bit_of b k) (Clmul.clmul k a b / 2 ^ w) (shr a (w - k)) (bit-lt b k)
    ∙ sym (xor_shr (Clmul.clmul k a b) (bit_of b k * (a * 2 ^ k)) w ∙ ap (bit_xor (Clmul.clmul k a b / 2 ^ w)) (term-high a b w k (le_of_lt h)))

-- one step leaves nothing there
high-start : (a b w : ℕ) → a < 2 ^ w → Clmul.clmul 1 a b / 2 ^ w ≡ 0
unfolding Clmul.clmul
high-start a b w ha =
    term-high a b w 0 zero-le
    ∙ ap (λ (x : ℕ). bit_of b 0 * x) (ap (λ (k : ℕ). a / 2 ^ k) (sub-zero w) ∙ div-eq_of_lt ha)
    ∙ mul-zero (bit_of b 0)

pub high-is-clmulh : (a b w : ℕ) → 0 < w → a < 2 ^ w → b < 2 ^ w → w ≤ 64 → high_half w (clmul64 a b) ≡ clmulh a b w
unfolding clmulh
high-is-clmulh a b w pos ha hb h =
    let body : ℕ → ℕ → ℕ = λ i result. cond (eqb (b ! i) 1) (result xor shr a (w - i)) result in
    let all : 1 + (w - 1) ≡ w = omega arith in
    shr_mod w w (sum_lt a b w ha hb)
    ∙ ap (λ (p : ℕ). p / 2 ^ w) (whole a b w hb h)
    ∙ sym (ap (turns body (w - 1) 1) (sym (high-start a b w ha))
    ∙ turns-states body (λ k. Clmul.clmul k a b / 2 ^ w) w (high-turn a b w) (w - 1) 1 (le_of_eq all)
    ∙ ap (λ (k : ℕ). Clmul.clmul k a b / 2 ^ w) all)

-- ---- two loops over a file

-- g is bytes, as many as the file's
pub record Kept (file g : List ℕ) : Type 0 where
  pub same_length : length g ≡ length file
  pub bytes : AreBytes g

-- if the steps agree on such files, and leave such files, so do the loops
module _ (file : List ℕ) (S B : ℕ → List ℕ → List ℕ) (from to : ℕ)
    (same : (i : ℕ) (g : List ℕ) → i < to → Kept file g → S i g ≡ B i g) (keeps : (i : ℕ) (g : List ℕ) → Kept file g → Kept file (B i g)) where
  loops : (n i : ℕ) (g : List ℕ) → from ≤ i → i + n ≡ from + (to - from) → Kept file g → (steps S n i g ≡ turns B n i g) × Kept file (turns B n i g)
  unfolding steps turns
  loops zero i g hi e k = (refl, k)
  loops (suc n) i g hi e k =
      let rest = loops n (i + 1) (B i g) (omega arith) (omega arith) (keeps i g k) in
      (ap (steps S n (i + 1)) (same i g (omega arith) k) ∙ rest.0, rest.1)

  pub same-loops : Kept file file → (steps S (to - from) from file ≡ foreach from to B file) × Kept file (foreach from to B file)
  same-loops k = loops (to - from) from file (le_refl from) refl k

set_keeps : (file g : List ℕ) (n at v : ℕ) → Kept file g → Kept file (write_le n g at v)
set_keeps file g n at v k = record { same_length = write_le-length n g at v ∙ k.same_length; bytes = write_le-bytes n g at v k.bytes }

cond-keeps : (file g h : List ℕ) (b : Bool) → Kept file g → Kept file h → Kept file (cond b g h)
cond-keeps file g h true k l = k
cond-keeps file g h false k l = l

-- ---- the carry-less words

module _ (f : Fields) (s : Settings) (scalar : ℕ) (file : List ℕ) (ready : Ready (length file) s) (facts : SewFacts s.sew) where
  element-lt : (g : List ℕ) → Kept file g → (r i : ℕ) → element s g r i < 2 ^ s.sew
  element-lt g k r i =
      subst (λ (n : ℕ). element s g r i < n) (bytes_bits (s.sew / 8) ∙ ap (λ (n : ℕ). 2 ^ n) (sym ready.sew-bytes))
      (read-lt g (element_at s.vlen s.sew r i) (s.sew / 8) k.bytes)

  -- the scalar
  abbrev x : ℕ
  x = zext_or_truncate_to_sew s («X» scalar f.vs1)

  x_lt : x < 2 ^ s.sew
  x_lt = mod-lt («X» scalar f.vs1) (pow_pos s.sew)

  x-is : scalar_of f s scalar ≡ x
  x-is = go (eqb f.vs1 0)
    where
      go : (b : Bool) → cond b 0 (scalar % 2 ^ s.sew) ≡ cond b 0 scalar % 2 ^ s.sew
      go true = sym (zero-mod (2 ^ s.sew))
      go false = refl

  -- what the pseudocode gives for element i
  abbrev value : Half → Suffix → List ℕ → ℕ → ℕ
  value Low suffix g i = clmul (if_vv suffix (element s g f.vs1 i) x) (element s g f.vs2 i) s.sew
  value High suffix g i = clmulh (if_vv suffix (element s g f.vs1 i) x) (element s g f.vs2 i) s.sew

  half_is : (which : Half) (suffix : Suffix) (g : List ℕ) → Kept file g → (i : ℕ)
      → half_of which s.sew (clmul64 (if_vv suffix (element s g f.vs1 i) x) (element s g f.vs2 i)) ≡ value which suffix g i
  half_is Low suffix g k i =
      low-is-clmul (if_vv suffix (element s g f.vs1 i) x) (element s g f.vs2 i) s.sew (element-lt g k f.vs2 i) facts.most
  half_is High vv g k i =
      high-is-clmulh (element s g f.vs1 i) (element s g f.vs2 i) s.sew facts.positive (element-lt g k f.vs1 i) (element-lt g k f.vs2 i) facts.most
  half_is High vx g k i =
      high-is-clmulh x (element s g f.vs2 i) s.sew facts.positive x_lt (element-lt g k f.vs2 i) facts.most

  abbrev multiplierBy : Suffix → Multiplier
  multiplierBy vv = Vs1
  multiplierBy vx = Scalar (scalar_of f s scalar)

  pub result-is : (which : Half) (suffix : Suffix) (g : List ℕ) → Kept file g → (i : ℕ)
      → carryless_result which (multiplierBy suffix) f s g i ≡ value which suffix g i
  unfolding carryless_result
  result-is which vv g k i = half_is which vv g k i
  result-is which vx g k i =
      ap (λ (a : ℕ). half_of which s.sew (clmul64 a (element s g f.vs2 i))) x-is ∙ half_is which vx g k i

  abbrev turn : Half → Suffix → ℕ → List ℕ → List ℕ
  turn which suffix i g = cond (active f g i) (set_velem s g f.vd s.sew i (value which suffix g i)) g

  pub elements_same : (which : Half) (suffix : Suffix) → Kept file file
      → (carryless which (multiplierBy suffix) f s file ≡ foreach s.vstart s.vl (turn which suffix) file)
      × Kept file (foreach s.vstart s.vl (turn which suffix) file)
  unfolding carryless carryless_step
  elements_same which suffix =
      same-loops file (carryless_step which (multiplierBy suffix) f s) (turn which suffix) s.vstart s.vl
      (λ i g l k. ap (λ (v : ℕ). cond (active f g i) (set_velem s g f.vd s.sew i v) g) (result-is which suffix g k i))
      (λ i g k. cond-keeps file (set_velem s g f.vd s.sew i (value which suffix g i)) g (active f g i)
      (set_keeps file g (s.sew / 8) (element_at s.vlen s.sew f.vd i) (value which suffix g i) k) k)

-- ---- the GHASH words

module _ (f : Fields) (s : Settings) where
  place_is : (r i : ℕ) → r * register_bytes s.vlen + i * 16 ≡ block_place s.vlen r i
  place_is r i = ap (λ (p : ℕ). r * register_bytes s.vlen + p) (mul_comm i 16)

  -- an element group is a block, with its bits in the other order
  velem-is : (g : List ℕ) → AreBytes g → (r i : ℕ) → brev8 (get_velem s g r EGW i) ≡ reversed 128 (group s g r i)
  velem-is g b r i = ap (λ (p : ℕ). brev8 (read_le g p 16)) (place_is r i) ∙ brev8-read g b (block_place s.vlen r i) 16

  -- S, the multiplier
  abbrev multiplierIn : GhashMultiplier → List ℕ → ℕ → ℕ
  multiplierIn YXorX g i = brev8 (get_velem s g f.vd EGW i xor get_velem s g f.vs1 EGW i)
  multiplierIn YAlone g i = brev8 (get_velem s g f.vd EGW i)

  multiplier-is : (m : GhashMultiplier) (g : List ℕ) → AreBytes g → (i : ℕ) → multiplierIn m g i ≡ reversed 128 (multiplier_of m f s g i)
  multiplier-is YXorX g b i =
      brev8-xor 16 (get_velem s g f.vd EGW i) (get_velem s g f.vs1 EGW i)
      ∙ ap₂ bit_xor (velem-is g b f.vd i) (velem-is g b f.vs1 i)
      ∙ sym (reversed-xor 128 (group s g f.vd i) (group s g f.vs1 i))
  multiplier-is YAlone g b i = velem-is g b f.vd i

  -- Z at the end, with group j of vs2 in a file l as H
  abbrev z_of : GhashMultiplier → List ℕ → ℕ → List ℕ → ℕ → ℕ
  z_of m g i l j = multiplied (multiplierIn m g i) (brev8 (get_velem s l f.vs2 EGW j))

  z-is : (m : GhashMultiplier) (g l : List ℕ) → AreBytes g → AreBytes l → (i j : ℕ)
      → z_of m g i l j ≡ reversed 128 (product (multiplier_of m f s g i) (group s l f.vs2 j))
  z-is m g l b bl i j =
      ap₂ multiplied (multiplier-is m g b i) (velem-is l bl f.vs2 j)
      ∙ multiplied-is-product (multiplier_of m f s g i) (group s l f.vs2 j) (be_at-lt l bl (block_place s.vlen f.vs2 j) 16)

  -- an element group that holds the product holds brev8(Z)
  holds : (m : GhashMultiplier) (file out : List ℕ) → AreBytes file → AreBytes out → (i j : ℕ)
      → group s out f.vd i ≡ product (multiplier_of m f s file i) (group s file f.vs2 j)
      → get_velem s out f.vd EGW i ≡ brev8 (z_of m file i file j)
  holds m file out b bo i j e =
      let at = f.vd * register_bytes s.vlen + i * 16 in
      sym (brev8-twice 16 (read_le out at 16) ∙ mod-eq_of_lt (read-lt out at 16 bo))
      ∙ ap brev8 (velem-is out bo f.vd i ∙ ap (reversed 128) e ∙ sym (z-is m file file b b i j))

module _ (f : Fields) (s : Settings) (file : List ℕ) (ready : Ready (length file) s) (vd-small : f.vd ≤ 31) (vd-aligned : Aligned s f.vd) (sew32 : s.sew ≡ 32) where
  -- a product is put where set_velem puts it
  put_is : (g : List ℕ) → Kept file g → (i v : ℕ) → i < s.vl / 4
      → put_block g (block_place s.vlen f.vd i) v ≡ set_velem s g f.vd EGW i (brev8 (reversed 128 v))
  put_is g k i v l =
      let at = block_place s.vlen f.vd i in
      let room : at + 16 ≤ length g = omega (arith, k.same_length, group-fits s ready sew32 i l, ready.in-file f.vd vd-small vd-aligned) in
      ap (λ (b : Bool). cond b (sets g at (block_bytes v)) g) (le-leb (at + 16) (length g) room)
      ∙ sym (write-brev8 16 g at v)
      ∙ ap (λ (p : ℕ). write_le 16 g p (brev8 (reversed 128 v))) (sym (place_is f s f.vd i))

  turn_is : (m : GhashMultiplier) (g l : List ℕ) → Kept file g → Kept file l → (i j : ℕ) → i < s.vl / 4
      → put_block g (block_place s.vlen f.vd i) (product (multiplier_of m f s g i) (group s l f.vs2 j))
      ≡ set_velem s g f.vd EGW i (brev8 (z_of f s m g i l j))
  turn_is m g l k kl i j h =
      put_is g k i (product (multiplier_of m f s g i) (group s l f.vs2 j)) h
      ∙ ap (λ (v : ℕ). set_velem s g f.vd EGW i (brev8 v)) (sym (z-is f s m g l k.bytes kl.bytes i j))

  keeps : (i v : ℕ) (g : List ℕ) → Kept file g → Kept file (set_velem s g f.vd EGW i v)
  keeps i v g k = set_keeps file g 16 (f.vd * register_bytes s.vlen + i * 16) v k

  abbrev vvTurn : GhashMultiplier → ℕ → List ℕ → List ℕ
  vvTurn m i g = set_velem s g f.vd EGW i (brev8 (z_of f s m g i g i))

  abbrev vsTurn : GhashMultiplier → ℕ → List ℕ → List ℕ
  vsTurn m i g = set_velem s g f.vd EGW i (brev8 (z_of f s m g i file 0))

  vv-same : (m : GhashMultiplier) → Kept file file
      → (ghash_vv m f s file ≡ foreach (s.vstart / 4) (s.vl / 4) (vvTurn m) file) × Kept file (foreach (s.vstart / 4) (s.vl / 4) (vvTurn m) file)
  unfolding ghash_vv vv_step
  vv-same m =
      same-loops file (vv_step m f s) (vvTurn m) (s.vstart / 4) (s.vl / 4) (λ i g l k. turn_is m g g k k i i l)
      (λ i g k. keeps i (brev8 (z_of f s m g i g i)) g k)

  vs-same : (m : GhashMultiplier) → Kept file file
      → (ghash_vs m f s file ≡ foreach (s.vstart / 4) (s.vl / 4) (vsTurn m) file) × Kept file (foreach (s.vstart / 4) (s.vl / 4) (vsTurn m) file)
  unfolding ghash_vs vs_step
  vs-same m entry =
      same-loops file (vs_step (group s file f.vs2 0) m f s) (vsTurn m) (s.vstart / 4) (s.vl / 4)
      (λ i g l k. turn_is m g file k entry i 0 l) (λ i g k. keeps i (brev8 (z_of f s m g i file 0)) g k) entry

-- ---- a word of each kind

module _ (f : Fields) (s : Settings) (scalar : ℕ) (file : List ℕ) (n : FieldsFit f) (entry : Kept file file) where
  -- the pseudocode's file is the word's
  same : (k : Kind) {a b : List ℕ} → (a ≡ b) × Kept file b → done_known k f s scalar file ≡ a → pseudocode k f s scalar file ≡ b
      → (done_known k f s scalar file ≡ pseudocode k f s scalar file) × Kept file (done_known k f s scalar file)
  same k p d q = (d ∙ p.0 ∙ sym q, subst (Kept file) (sym (d ∙ p.0)) p.1)

  by_kind : (k : Kind) → Admitted (length file) k f s
      → (done_known k f s scalar file ≡ pseudocode k f s scalar file) × Kept file (done_known k f s scalar file)
  unfolding VCLMUL VCLMULH VGHSH VGHSHVS VGMULVV VGMUL
  by_kind VclmulVv a = same VclmulVv (elements_same f s scalar file (settings a) (sews a) Low vv entry) refl refl
  by_kind VclmulVx a = same VclmulVx (elements_same f s scalar file (settings a) (sews a) Low vx entry) refl refl
  by_kind VclmulhVv a = same VclmulhVv (elements_same f s scalar file (settings a) (sews a) High vv entry) refl refl
  by_kind VclmulhVx a = same VclmulhVx (elements_same f s scalar file (settings a) (sews a) High vx entry) refl refl
  by_kind VghshVv a = same VghshVv (vv-same f s file (settings a) (le_of_suc-le-suc n.vd) (vd-of a) (sew32 s.sew a.not4) YXorX entry) refl refl
  by_kind VghshVs a = same VghshVs (vs-same f s file (settings a) (le_of_suc-le-suc n.vd) (vd-of a) (sew32 s.sew a.not4) YXorX entry) refl refl
  by_kind VgmulVv a = same VgmulVv (vv-same f s file (settings a) (le_of_suc-le-suc n.vd) (vd-of a) (sew32 s.sew a.not4) YAlone entry) refl refl
  by_kind VgmulVs a = same VgmulVs (vs-same f s file (settings a) (le_of_suc-le-suc n.vd) (vd-of a) (sew32 s.sew a.not4) YAlone entry) refl refl

-- ---- the statements

module _ (word : ℕ) (s : Settings) (scalar : ℕ) (file : List ℕ) (bytes : AreBytes file) (number : refusal_of (length file) word s ≡ 0)
    (k : Kind) (f : Fields) (known : decode word ≡ Some (instruction k f)) where
  entry : Kept file file
  entry = record { same_length = refl; bytes = bytes }

  -- what the active units leave is the pseudocode's, and bytes
  units : (done_known k f s scalar file ≡ pseudocode k f s scalar file) × Kept file (done_known k f s scalar file)
  units = by_kind f s scalar file (decoded-fit word known) entry k (admitted-as (length file) word s known number)

  the_word : executed word s scalar file ≡ filled f s (done_known k f s scalar file)
  the_word = sym (performed word s scalar file number).1 ∙ ap (λ (w : Option Instruction). done w s scalar file) known

  pub out-bytes : AreBytes (executed word s scalar file)
  out-bytes = subst AreBytes (sym the_word) (filled-bytes f s (settings (admitted-as (length file) word s known number)) (done_known k f s scalar file) units.1.bytes)

  -- what an element or element group holds
  element-is : (i : ℕ) → unit_of k f s i (executed word s scalar file) ≡ result_of k f s scalar file i
      → get_velem s (executed word s scalar file) f.vd (width_of k s) i ≡ given k f s scalar file i
  unfolding carryless_result
  element-is i = go k (admitted-as (length file) word s known number)
    where
      go : (k : Kind) → Admitted (length file) k f s → unit_of k f s i (executed word s scalar file) ≡ result_of k f s scalar file i
          → get_velem s (executed word s scalar file) f.vd (width_of k s) i ≡ given k f s scalar file i
      go VclmulVv a e = e ∙ result-is f s scalar file (settings a) (sews a) Low vv file entry i
      go VclmulVx a e = e ∙ result-is f s scalar file (settings a) (sews a) Low vx file entry i
      go VclmulhVv a e = e ∙ result-is f s scalar file (settings a) (sews a) High vv file entry i
      go VclmulhVx a e = e ∙ result-is f s scalar file (settings a) (sews a) High vx file entry i
      go VghshVv a e = holds f s YXorX file (executed word s scalar file) entry.bytes out-bytes i i e
      go VghshVs a e = holds f s YXorX file (executed word s scalar file) entry.bytes out-bytes i 0 e
      go VgmulVv a e = holds f s YAlone file (executed word s scalar file) entry.bytes out-bytes i i e
      go VgmulVs a e = holds f s YAlone file (executed word s scalar file) entry.bytes out-bytes i 0 e

pub follows-pseudocode : FollowsPseudocode
follows-pseudocode word s scalar file bytes number k f known =
    the_word word s scalar file bytes number k f known ∙ ap (filled f s) (units word s scalar file bytes number k f known).0

pub elements-follow : ElementsFollowPseudocode
elements-follow word s scalar file bytes number k f known i lo hi on =
    element-is word s scalar file bytes number k f known i ((bytes-of-words word s scalar file bytes number k f known).results i lo hi on)
