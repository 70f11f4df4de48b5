-- What the entries on slices answer: document 01's number, and the block, which is zero on a refusal; and what of it
-- the C functions write to `out`.
-- Assumes nothing.
use Rattle.std.specs.Prelude.{ℕ, cond, not, ◌||◌, List, eqb, ltb, length}
use Rattle.gf128.specs.Bytes.{block_at, block_bytes}
use Rattle.gf128.specs.Field.{product}
use Rattle.gf128.specs.Hash.{ghash, limit}
use Rattle.gf128.specs.Running.{State, finish_refusal, after_finish, finish_block}

-- 9: a key or block not 16 bytes long
abbrev pub product_refusal : List ℕ → List ℕ → ℕ
product_refusal key block = cond (not (eqb (length key) 16) || not (eqb (length block) 16)) 9 0

abbrev pub product_block : List ℕ → List ℕ → ℕ
product_block key block = cond (eqb (product_refusal key block) 0) (product (block_at block 0) (block_at key 0)) 0

-- 9: a key not 16 bytes long; 11: A or C over the limit
abbrev pub hash_refusal : List ℕ → List ℕ → List ℕ → ℕ
hash_refusal key a c =
    cond (not (eqb (length key) 16)) 9
    (cond (ltb limit (length a) || ltb limit (length c)) 11 0)

abbrev pub hash_block : List ℕ → List ℕ → List ℕ → ℕ
hash_block key a c = cond (eqb (hash_refusal key a c) 0) (ghash (block_at key 0) a c) 0

-- 9: a key, block or later hash not 16 bytes long, in the step back
abbrev pub step_back_refusal : List ℕ → List ℕ → List ℕ → ℕ
step_back_refusal key block later =
    cond (not (eqb (length key) 16) || (not (eqb (length block) 16) || not (eqb (length later) 16))) 9 0

-- ---- a block written to `out`: one not 16 bytes long is 9, and nothing is written

-- the number, where the call would answer n
abbrev pub out_number : List ℕ → ℕ → ℕ
out_number out n = cond (eqb (length out) 16) n 9

-- `out` afterwards, where the call would give the block v
abbrev pub out_bytes : List ℕ → ℕ → List ℕ
out_bytes out v = cond (eqb (length out) 16) (block_bytes v) out

abbrev pub product_number : List ℕ → List ℕ → List ℕ → ℕ
product_number key block out = out_number out (product_refusal key block)

abbrev pub product_out : List ℕ → List ℕ → List ℕ → List ℕ
product_out key block out = out_bytes out (product_block key block)

abbrev pub hash_number : List ℕ → List ℕ → List ℕ → List ℕ → ℕ
hash_number key a c out = out_number out (hash_refusal key a c)

abbrev pub hash_out : List ℕ → List ℕ → List ℕ → List ℕ → List ℕ
hash_out key a c out = out_bytes out (hash_block key a c)

-- finishing a running hash into `out`: the number, the running hash afterwards, and `out` afterwards
abbrev pub finish_number : List ℕ → State → List ℕ → ℕ
finish_number key s out = out_number out (finish_refusal key s)

abbrev pub finish_state : List ℕ → State → List ℕ → State
finish_state key s out = cond (eqb (length out) 16) (after_finish key s) s

abbrev pub finish_out : List ℕ → State → List ℕ → List ℕ
finish_out key s out = out_bytes out (finish_block key s)
