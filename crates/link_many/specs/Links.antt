-- Document 02, Ask 7: "Input: records of 32 bytes, a claim block and an expected hash. Output: one lent byte for each, 1 if GHASH with that
-- block as A and empty C equals the expected hash, else 0. An input length that is no multiple of 32, or an output length that isn't the
-- record count, is number 16. Zero records are done."
-- Assumes nothing.
use Rattle.std.specs.Prelude.{ℕ, zero, suc, ◌+◌, ◌/◌, ◌%◌, Bool, cond, not, ◌||◌, List, [], ◌∷◌, map, eqb, length, take, drop}
use Rattle.gf128.specs.Bytes.{block_at}
use Rattle.gf128.specs.Hash.{ghash}

-- ---- a record

-- its claim block (Ask 7's term), as the bytes of A, and the hash that is expected for it
abbrev pub claim_of : List ℕ → List ℕ
claim_of r = take 16 r

abbrev pub expected_of : List ℕ → ℕ
expected_of r = block_at r 16

-- whether it agrees under the key h: GHASH of the claim block as A, with an empty C, is the expected hash
abbrev pub agrees : ℕ → List ℕ → Bool
agrees h r = eqb (ghash h (claim_of r) []) (expected_of r)

-- its byte of the output
abbrev pub answer : ℕ → List ℕ → ℕ
answer h r = cond (agrees h r) 1 0

-- ---- records, one after the other

-- the one from `at` on, n of them, and all
abbrev pub record_at : List ℕ → ℕ → List ℕ
record_at s at = take 32 (drop at s)

unfoldable pub records_from : ℕ → List ℕ → ℕ → List (List ℕ)
records_from zero s at = []
records_from (suc n) s at = record_at s at ∷ records_from n s (at + 32)

abbrev pub records : List ℕ → List (List ℕ)
records s = records_from (length s / 32) s 0

-- the answers, one for each
abbrev pub answers : ℕ → List ℕ → List ℕ
answers h s = map (answer h) (records s)

-- ---- the call

-- by the three lengths: 9 before 16; 0 where neither applies
abbrev pub links_refusal : ℕ → ℕ → ℕ → ℕ
links_refusal key input output =
    cond (not (eqb key 16)) 9
    (cond (not (eqb (input % 32) 0) || not (eqb output (input / 32))) 16 0)

abbrev pub links_number : List ℕ → List ℕ → List ℕ → ℕ
links_number key s results = links_refusal (length key) (length s) (length results)

-- the output bytes afterwards: a refusal writes nothing
abbrev pub links_results : List ℕ → List ℕ → List ℕ → List ℕ
links_results key s results = cond (eqb (links_number key s results) 0) (answers (block_at key 0) s) results
