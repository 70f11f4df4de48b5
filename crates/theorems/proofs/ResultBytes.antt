-- A byte of an active unit is its result's byte at that place (`result-bytes`).
-- Assumes nothing.
use Rattle.std.proofs.Common.{Bool, true, false, cond, List, ◌≡◌, sym, ap, ◌∙◌, ℕ, suc, ◌+◌, ◌-◌, ◌/◌, ◌%◌, ◌^◌, arith, get_or}
use Rattle.octets.specs.Bytes.{AreBytes}
use Rattle.octets.specs.BigEndian.{be_at}
use Rattle.octets.specs.LittleEndian.{read_le}
use Rattle.octets.proofs.BigEndian.{be_at-byte}
use Rattle.octets.proofs.LittleEndian.{read_le-byte}
use Rattle.vector_registers.specs.declared.settings.Settings.{Settings}
use Rattle.vector_word.specs.declared.Fields.{Fields}
use Rattle.vector_kind.specs.declared.Kind.{Kind}
use Rattle.vector_kind.specs.Kinds.{is_ghash}
use Rattle.vector_element.specs.Element.{element_at, block_place}
use Rattle.vector_clmul.specs.Carryless.{element}
use Rattle.vector_ghash.specs.GhashWords.{group}
use Rattle.vector_execute.specs.Execute.{executed}
use Rattle.theorems.specs.Execution.{unit_bytes, unit_place, unit_of, Within}
use Rattle.theorems.specs.Policies.{byte_in, byte_of, ResultBytes}
use Rattle.theorems.proofs.Policies.{bytes-of-words}
use Rattle.theorems.proofs.Pseudocode.{out-bytes}

-- byte p of the numbers in the n bytes from `at` on
be-byte : (s : List ℕ) → AreBytes s → (at p : ℕ) → Within at 16 p → get_or s p 0 ≡ be_at s at 16 / 256 ^ (15 - (p - at)) % 256
be-byte s b at p w =
    let j = p - at in
    let all : suc j + (15 - j) ≡ 16 = omega (arith, w) in
    let here : at + j ≡ p = omega (arith, w) in
    sym (ap (λ (n : ℕ). be_at s at n / 256 ^ (15 - j) % 256) (sym all) ∙ be_at-byte s b at j (15 - j) ∙ ap (λ (q : ℕ). get_or s q 0) here)

le-byte : (s : List ℕ) → AreBytes s → (at n p : ℕ) → Within at n p → get_or s p 0 ≡ read_le s at n / 256 ^ (p - at) % 256
le-byte s b at n p w =
    let j = p - at in
    let all : j + suc (n - (j + 1)) ≡ n = omega (arith, w) in
    let here : at + j ≡ p = omega (arith, w) in
    sym (ap (λ (m : ℕ). read_le s at m / 256 ^ j % 256) (sym all) ∙ read_le-byte s b at j (n - (j + 1)) ∙ ap (λ (q : ℕ). get_or s q 0) here)

-- of a unit
unit-byte : (k : Kind) (f : Fields) (s : Settings) (i p : ℕ) (g : List ℕ) → AreBytes g → Within (unit_place k f s i) (unit_bytes k s) p
    → get_or g p 0 ≡ byte_of k (unit_of k f s i g) (p - unit_place k f s i)
unit-byte k f s i p g b = go (is_ghash k)
  where
    go : (t : Bool) → Within (cond t (block_place s.vlen f.vd i) (element_at s.vlen s.sew f.vd i)) (cond t 16 (s.sew / 8)) p
        → get_or g p 0
        ≡ byte_in t (cond t (group s g f.vd i) (element s g f.vd i)) (p - cond t (block_place s.vlen f.vd i) (element_at s.vlen s.sew f.vd i))
    go true = be-byte g b (block_place s.vlen f.vd i) p
    go false = le-byte g b (element_at s.vlen s.sew f.vd i) (s.sew / 8) p

pub result-bytes : ResultBytes
result-bytes word s scalar file bytes number k f known p i u =
    unit-byte k f s i p (executed word s scalar file) (out-bytes word s scalar file bytes number k f known) u.3
    ∙ ap (λ (v : ℕ). byte_of k v (p - unit_place k f s i)) ((bytes-of-words word s scalar file bytes number k f known).results i u.0 u.1 u.2)
