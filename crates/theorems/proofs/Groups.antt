-- A GHASH word's fold: each group in range gets the product computed from the file at entry, and every other byte stays. vd may be vs1
-- or vs2: group i is read before it is written, and no later one reads it. The key of a .vs word is read once, before any write.
-- Assumes nothing.
use Rattle.std.proofs.Common.{true, List, ◌≡◌, sym, ap₂, subst, ℕ, ◌+◌, ◌*◌, ◌/◌, ◌^◌, ◌<◌, ◌≤◌, arith, length}
use lib.Bits.{bit_xor}
use Rattle.octets.specs.Bytes.{AreBytes}
use Rattle.gf128.specs.Bytes.{block_at, put_block}
use Rattle.gf128.specs.Field.{product}
use Rattle.octets.proofs.BigEndian.{be_at-lt, be_at-same}
use Rattle.gf128.proofs.Bytes.{block_at-put_block, length-put_block, put_block-other}
use Rattle.gf128.proofs.Field.{product_lt}
use Rattle.vector_registers.specs.declared.settings.Settings.{Settings}
use Rattle.vector_word.specs.declared.Fields.{Fields}
use Rattle.vector_registers.specs.Settings.{register_bytes, group_registers}
use Rattle.vector_ghash.specs.declared.GhashMultiplier.{GhashMultiplier}
use Rattle.vector_ghash.specs.declared.GhashMultiplier.TheVariants.{YXorX, YAlone}
use Rattle.vector_element.specs.Element.{block_place}
use Rattle.vector_ghash.specs.GhashWords.{group, multiplier_of, vv_step, vs_step, ghash_vv, ghash_vs}
use Rattle.theorems.specs.Execution.{Done}
use Rattle.theorems.proofs.Fold.{Except, Does, fold_done}
use Rattle.theorems.proofs.Registers.{Aligned, Ready, group-fits, unread}

-- where X is used, its group is aligned
abbrev pub AlignedMultiplier : GhashMultiplier → Fields → Settings → Type 0
AlignedMultiplier YXorX f s = Aligned s f.vs1
AlignedMultiplier YAlone f s = Unit {0}

put-does : (g : List ℕ) (at v : ℕ) → at + 16 ≤ length g → v < 256 ^ 16 → Does g (put_block g at v) at 16 true (λ h. block_at h at) v
put-does g at v room small = record {
  same_length = length-put_block g at v;
  other = put_block-other g at v;
  skipped = λ e. cc;
  written = λ e. block_at-put_block g at v room small;
}

module _
    (m : GhashMultiplier) (f : Fields) (s : Settings) (file : List ℕ) (bytes : AreBytes file) (ready : Ready (length file) s)
    (vd-small : f.vd ≤ 31) (vd-aligned : Aligned s f.vd) (m-aligned : AlignedMultiplier m f s) (sew32 : s.sew ≡ 32)
  where
    abbrev place : ℕ → ℕ
    place i = block_place s.vlen f.vd i

    group-lt : (r i : ℕ) → group s file r i < 256 ^ 16
    group-lt r i = be_at-lt file bytes (block_place s.vlen r i) 16

    apart : (i j : ℕ) → i < j → place i + 16 ≤ place j
    apart i j h = omega arith

    -- group i is as at entry while only groups before i have been written
    source : (r i : ℕ) (g : List ℕ) → Aligned s r → i < s.vl / 4 → Except file g (place (s.vstart / 4)) (place i) → group s g r i ≡ group s file r i
    source r i g al h x =
        be_at-same g file (block_place s.vlen r i) 16
        (λ p w. x.same p (λ b. unread r f.vd (group_registers s.lmul) (register_bytes s.vlen) (16 * i) 16 (16 * (s.vstart / 4)) p al vd-aligned (group-fits s ready sew32 i h) w b))

    multiplier-same : (i : ℕ) (g : List ℕ) → i < s.vl / 4 → Except file g (place (s.vstart / 4)) (place i) → multiplier_of m f s g i ≡ multiplier_of m f s file i
    multiplier-same i g h x = go m m-aligned
      where
        go : (n : GhashMultiplier) → AlignedMultiplier n f s → multiplier_of n f s g i ≡ multiplier_of n f s file i
        go YXorX al = ap₂ bit_xor (source f.vd i g vd-aligned h x) (source f.vs1 i g al h x)
        go YAlone al = source f.vd i g vd-aligned h x

    -- a step that puts the product of the multiplier and a key that is told by the file at entry
    put_step : (i : ℕ) (g : List ℕ) (h : ℕ) → h < 256 ^ 16 → i < s.vl / 4 → Except file g (place (s.vstart / 4)) (place i)
        → Does g (put_block g (place i) (product (multiplier_of m f s g i) h)) (place i) 16 true (λ l. group s l f.vd i) (product (multiplier_of m f s file i) h)
    put_step i g h small hi x =
        let room : place i + 16 ≤ length g = omega (arith, x.same_length, group-fits s ready sew32 i hi, ready.in-file f.vd vd-small vd-aligned) in
        subst (λ (u : ℕ). Does g (put_block g (place i) (product u h)) (place i) 16 true (λ l. group s l f.vd i) (product (multiplier_of m f s file i) h))
        (sym (multiplier-same i g hi x))
        (put-does g (place i) (product (multiplier_of m f s file i) h) room (product_lt (multiplier_of m f s file i) h small))

    pub vv-done : Aligned s f.vs2 → Done file (ghash_vv m f s file) (s.vstart / 4) (s.vl / 4) 16 place (λ i. true)
        (λ i g. group s g f.vd i) (λ i. product (multiplier_of m f s file i) (group s file f.vs2 i))
    unfolding ghash_vv vv_step
    vv-done vs2-aligned =
        fold_done file place 16 (s.vstart / 4) (s.vl / 4) (vv_step m f s) (λ i. true) (λ i g. group s g f.vd i)
        (λ i. product (multiplier_of m f s file i) (group s file f.vs2 i)) apart (λ g h i e. be_at-same g h (place i) 16 e)
        (λ i g lo hi x.
        subst (λ (k : ℕ). Does g (put_block g (place i) (product (multiplier_of m f s g i) k)) (place i) 16 true (λ l. group s l f.vd i) (product (multiplier_of m f s file i) (group s file f.vs2 i)))
        (sym (source f.vs2 i g vs2-aligned hi x)) (put_step i g (group s file f.vs2 i) (group-lt f.vs2 i) hi x))

    pub vs-done : Done file (ghash_vs m f s file) (s.vstart / 4) (s.vl / 4) 16 place (λ i. true)
        (λ i g. group s g f.vd i) (λ i. product (multiplier_of m f s file i) (group s file f.vs2 0))
    unfolding ghash_vs vs_step
    vs-done =
        fold_done file place 16 (s.vstart / 4) (s.vl / 4) (vs_step (group s file f.vs2 0) m f s) (λ i. true) (λ i g. group s g f.vd i)
        (λ i. product (multiplier_of m f s file i) (group s file f.vs2 0)) apart (λ g h i e. be_at-same g h (place i) 16 e)
        (λ i g lo hi x. put_step i g (group s file f.vs2 0) (group-lt f.vs2 0) hi x)
