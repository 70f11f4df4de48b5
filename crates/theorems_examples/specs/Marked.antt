-- Document 01's "Marked cases", K1 to K14, as one table with one statement, `MarkedCasesHold`. They speak of the written rules, not of code.
-- Assumes nothing.
use Rattle.std.specs.Prelude.{ℕ, ◌+◌, ◌-◌, ◌≡◌, List, [], ◌∷◌, ◌++◌, length, replicate, Some}
use Rattle.gf128.specs.Bytes.{block_at}
use Rattle.gf128.specs.Field.{product}
use Rattle.gf128.specs.Hash.{ghash}
use Rattle.gf128.specs.StepBack.{StepsBack}
use Rattle.vector_kind.specs.declared.Kind.{Kind}
use Rattle.vector_kind.specs.declared.Kind.TheVariants.{VghshVv}
use Rattle.vector_word.specs.Word.{instruction, decode}
use Rattle.vector_product.specs.Clmul.{clmul64, low_half, high_half}
use Rattle.theorems_examples.specs.Rows.{AllHold}

-- a block as document 01 writes it: its first bytes, zero bytes up to 16, its last bytes
infix 50 ◌…◌
abbrev pub ◌…◌ : List ℕ → List ℕ → ℕ
first … last = block_at (first ++ (replicate (16 - (length first + length last)) 0 ++ last)) 0

pub data Case : Type 0 where
  -- two elements of SEW bits, and the low and the high half of their carry-less product
  carryless : (sew a b low high : ℕ) → Case
  -- a block, a key and their product
  times : (u h p : ℕ) → Case
  -- the step back from H, X and Y1: the number and the block that it answers
  back : (h x y1 number block : ℕ) → Case
  -- a word, its kind and its fields
  word : (w : ℕ) → (kind : Kind) → (vm vd vs2 vs1 : ℕ) → Case
  -- a key, A, C and their hash
  hash : (h : ℕ) → (a c : List ℕ) → (block : ℕ) → Case

-- what a case says
abbrev pub Holds : Case → Type 0
Holds (carryless sew a b low high) = (low_half sew (clmul64 a b) ≡ low) × (high_half sew (clmul64 a b) ≡ high)
Holds (times u h p) = product u h ≡ p
Holds (back h x y1 number block) = StepsBack h x y1 number block
Holds (word w kind vm vd vs2 vs1) = decode w ≡ Some (instruction kind (record { vm = vm; vs2 = vs2; vs1 = vs1; vd = vd }))
Holds (hash h a c block) = ghash h a c ≡ block

unfoldable pub table : List Case
table =
    -- K1, SEW 8: 03 by 03 is low 05, high 00
    carryless 8 0x03 0x03 0x05 0x00
    -- K2: FF by FF is low 55, high 55
    ∷ carryless 8 0xFF 0xFF 0x55 0x55
    -- K3: 80 by 80 is low 00, high 40
    ∷ carryless 8 0x80 0x80 0x00 0x40
    -- K4: 80 by 02 is low 00, high 01
    ∷ carryless 8 0x80 0x02 0x00 0x01
    -- K5, SEW 16: FFFF by FFFF is low 5555, high 5555
    ∷ carryless 16 0xFFFF 0xFFFF 0x5555 0x5555
    -- K6: (40…)·(…01) = E1…
    ∷ times ((0x40 ∷ []) … []) ([] … (0x01 ∷ [])) ((0xE1 ∷ []) … [])
    -- K7: (…01)·(…01) = E6 08 … 03
    ∷ times ([] … (0x01 ∷ [])) ([] … (0x01 ∷ [])) ((0xE6 ∷ 0x08 ∷ []) … (0x03 ∷ []))
    -- K8: (80…)·(…01) = …01
    ∷ times ((0x80 ∷ []) … []) ([] … (0x01 ∷ [])) ([] … (0x01 ∷ []))
    -- K9, step back: H 40…, X zero, Y1 80…: C2 … 01
    ∷ back ((0x40 ∷ []) … []) 0 ((0x80 ∷ []) … []) 0 ((0xC2 ∷ []) … (0x01 ∷ []))
    -- K10: H zero, Y1 zero: 13
    ∷ back 0 0 0 13 0
    -- K11: H zero, Y1 80…: 12
    ∷ back 0 0 ((0x80 ∷ []) … []) 12 0
    -- K12: 0xB2862277 is vghsh.vv with vd 4, vs2 8, vs1 12; its vm is 1, as in every GHASH word
    ∷ word 0xB2862277 VghshVv 1 4 8 12
    -- K13: H 40…, A and C empty: zero
    ∷ hash ((0x40 ∷ []) … []) [] [] 0
    -- K14: H 80…, A empty, C the byte 01: 01 … 08
    ∷ hash ((0x80 ∷ []) … []) [] (0x01 ∷ []) ((0x01 ∷ []) … (0x08 ∷ []))
    ∷ []

-- the statement: there are fourteen cases, K1 to K14, and all of them hold
pub record MarkedCasesHold : Type 0 where
  pub rows : length table ≡ 14
  pub all : AllHold Holds table
