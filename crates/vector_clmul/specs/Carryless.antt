-- Document 01, "Execution", with the pseudocode of source 002: what a carry-less word does to the register file.
-- Assumes nothing.
use Rattle.std.specs.Prelude.{ℕ, ◌-◌, ◌/◌, ◌%◌, ◌^◌, cond, List, eqb}
use Rattle.vector_product.specs.declared.clmul.Half.{Half}
use Rattle.vector_clmul.specs.declared.Multiplier.{Multiplier}
use Rattle.vector_clmul.specs.declared.Multiplier.TheVariants.{Vs1, Scalar}
use Rattle.vector_registers.specs.declared.settings.Settings.{Settings}
use Rattle.vector_word.specs.declared.Fields.{Fields}
use Rattle.vector_product.specs.Clmul.{clmul64, half_of}
use Rattle.octets.specs.LittleEndian.{read_le, write_le}
use Rattle.vector_element.specs.Element.{element_at, active}
use Rattle.vector_element.specs.Steps.{steps}

-- element i of a register group
abbrev pub element : Settings → List ℕ → ℕ → ℕ → ℕ
element s file register i = read_le file (element_at s.vlen s.sew register i) (s.sew / 8)

-- the scalar modulo 2^SEW; if rs1 is field 0 the scalar counts as zero
abbrev pub scalar_of : Fields → Settings → ℕ → ℕ
scalar_of f s scalar = cond (eqb f.vs1 0) 0 (scalar % 2 ^ s.sew)

-- the multiplier of element i: vs1's element, or the scalar
abbrev pub multiplier_of : Multiplier → Fields → Settings → List ℕ → ℕ → ℕ
multiplier_of Vs1 f s file i = element s file f.vs1 i
multiplier_of (Scalar x) f s file i = x

-- element i's result
unfoldable pub carryless_result : Half → Multiplier → Fields → Settings → List ℕ → ℕ → ℕ
carryless_result half m f s file i =
    half_of half s.sew (clmul64 (multiplier_of m f s file i) (element s file f.vs2 i))

unfoldable pub carryless_step : Half → Multiplier → Fields → Settings → ℕ → List ℕ → List ℕ
carryless_step half m f s i file =
    cond (active f file i)
    (write_le (s.sew / 8) file (element_at s.vlen s.sew f.vd i) (carryless_result half m f s file i))
    file

-- elements vstart to vl - 1
unfoldable pub carryless : Half → Multiplier → Fields → Settings → List ℕ → List ℕ
carryless half m f s file = steps (carryless_step half m f s) (s.vl - s.vstart) s.vstart file
