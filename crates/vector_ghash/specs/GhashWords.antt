-- Document 01, "Execution", with the pseudocode of sources 000 and 002: what a GHASH word does to the register file.
-- Assumes nothing.
use Rattle.std.specs.Prelude.{ℕ, ◌-◌, ◌/◌, List}
use Rattle.std.specs.Int.Bits.{bit_xor}
use Rattle.gf128.specs.Bytes.{block_at, put_block}
use Rattle.gf128.specs.Field.{product}
use Rattle.vector_ghash.specs.declared.GhashMultiplier.{GhashMultiplier}
use Rattle.vector_ghash.specs.declared.GhashMultiplier.TheVariants.{YXorX, YAlone}
use Rattle.vector_registers.specs.declared.settings.Settings.{Settings}
use Rattle.vector_word.specs.declared.Fields.{Fields}
use Rattle.vector_element.specs.Element.{block_place}
use Rattle.vector_element.specs.Steps.{steps}

-- group i of 128 bits of a register group
abbrev pub group : Settings → List ℕ → ℕ → ℕ → ℕ
group s file register i = block_at file (block_place s.vlen register i)

-- the multiplier of group i: Y, from vd, xored in vghsh with X, from vs1; the multiplicand is H
abbrev pub multiplier_of : GhashMultiplier → Fields → Settings → List ℕ → ℕ → ℕ
multiplier_of YXorX f s file i = bit_xor (group s file f.vd i) (group s file f.vs1 i)
multiplier_of YAlone f s file i = group s file f.vd i

-- a .vv word: H is group i of vs2
unfoldable pub vv_step : GhashMultiplier → Fields → Settings → ℕ → List ℕ → List ℕ
vv_step m f s i file =
    put_block file (block_place s.vlen f.vd i) (product (multiplier_of m f s file i) (group s file f.vs2 i))

-- a .vs word: H is given
unfoldable pub vs_step : ℕ → GhashMultiplier → Fields → Settings → ℕ → List ℕ → List ℕ
vs_step h m f s i file =
    put_block file (block_place s.vlen f.vd i) (product (multiplier_of m f s file i) h)

-- groups vstart/4 to vl/4 - 1
unfoldable pub ghash_vv : GhashMultiplier → Fields → Settings → List ℕ → List ℕ
ghash_vv m f s file = steps (vv_step m f s) (s.vl / 4 - s.vstart / 4) (s.vstart / 4) file

-- H is group 0 of vs2, read once before any write
unfoldable pub ghash_vs : GhashMultiplier → Fields → Settings → List ℕ → List ℕ
ghash_vs m f s file = steps (vs_step (group s file f.vs2 0) m f s) (s.vl / 4 - s.vstart / 4) (s.vstart / 4) file
