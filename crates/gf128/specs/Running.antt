-- The running hash: document 01, "Running hash". A message comes in pieces; the key comes with every call.
-- Assumes nothing.
use Rattle.std.specs.Prelude.{ℕ, ◌+◌, ◌%◌, Bool, true, cond, not, ◌&&◌, ◌||◌, List, [], ◌∷◌, eqb, ltb, length, set, drop, replicate}
use Rattle.gf128.specs.Bytes.{block_at}
use Rattle.gf128.specs.Hash.{next, length_block, limit}

-- the running hash (document 01's term): Y, the open block's 16 bytes, the bytes of A and of C so far, and the phase:
-- 0 takes A, 1 takes C, 2 is finished
pub record State : Type 0 where
  pub y : ℕ
  pub block : List ℕ
  pub count_a : ℕ
  pub count_c : ℕ
  pub phase : ℕ

abbrev pub no_bytes : List ℕ
no_bytes = replicate 16 0

abbrev pub fresh : State
fresh = record { y = 0; block = no_bytes; count_a = 0; count_c = 0; phase = 0 }

-- ---- malformed

abbrev pub all_zero : List ℕ → Bool
all_zero [] = true
all_zero (b ∷ bs) = eqb b 0 && all_zero bs

-- the count of the current part modulo 16; in phase 2 no byte is open
abbrev pub open_bytes : State → ℕ
open_bytes s = cond (eqb s.phase 0) (s.count_a % 16) (cond (eqb s.phase 1) (s.count_c % 16) 0)

abbrev pub malformed : State → Bool
malformed s =
    ltb 2 s.phase
    || (ltb limit s.count_a
    || (ltb limit s.count_c
    || ((eqb s.phase 0 && not (eqb s.count_c 0))
    || not (all_zero (drop (open_bytes s) s.block)))))

-- ---- refusal numbers: 9 before 10 before 11; 0 where none applies

abbrev pub feed_a_refusal : List ℕ → State → List ℕ → ℕ
feed_a_refusal key s piece =
    cond (not (eqb (length key) 16)) 9
    (cond (malformed s || not (eqb s.phase 0)) 10
    (cond (ltb limit (s.count_a + length piece)) 11 0))

abbrev pub feed_c_refusal : List ℕ → State → List ℕ → ℕ
feed_c_refusal key s piece =
    cond (not (eqb (length key) 16)) 9
    (cond (malformed s || eqb s.phase 2) 10
    (cond (ltb limit (s.count_c + length piece)) 11 0))

abbrev pub finish_refusal : List ℕ → State → ℕ
finish_refusal key s =
    cond (not (eqb (length key) 16)) 9
    (cond (malformed s || eqb s.phase 2) 10 0)

-- ---- bytes taken in, one by one

-- Y and the open block
pub record Part : Type 0 where
  pub y : ℕ
  pub block : List ℕ

-- byte n of A or of C, counted from 0: it goes to place n mod 16 of the open block; a full block is hashed
unfoldable pub push : ℕ → ℕ → Part → ℕ → Part
push h n p b =
    cond (eqb (n % 16) 15)
    (record { y = next h p.y (block_at (set p.block 15 b) 0); block = no_bytes })
    (record { y = p.y; block = set p.block (n % 16) b })

unfoldable pub pushed : ℕ → ℕ → Part → List ℕ → Part
pushed h n p [] = p
pushed h n p (b ∷ bs) = pushed h (n + 1) (push h n p b) bs

-- the end of A or of C, of n bytes: an open block is padded with zeros and hashed
unfoldable pub closed : ℕ → ℕ → Part → Part
closed h n p =
    cond (eqb (n % 16) 0) p
    (record { y = next h p.y (block_at p.block 0); block = no_bytes })

-- ---- the calls that are not refused; h is the key's block

unfoldable pub fed_a : ℕ → State → List ℕ → State
fed_a h s piece =
    let p = pushed h s.count_a (record { y = s.y; block = s.block }) piece in
    record { y = p.y; block = p.block; count_a = s.count_a + length piece; count_c = s.count_c; phase = 0 }

-- A ends where the first C comes, even one of length 0
unfoldable pub started_c : ℕ → State → Part
started_c h s =
    cond (eqb s.phase 0)
    (closed h s.count_a (record { y = s.y; block = s.block }))
    (record { y = s.y; block = s.block })

unfoldable pub fed_c : ℕ → State → List ℕ → State
fed_c h s piece =
    let p = pushed h s.count_c (started_c h s) piece in
    record { y = p.y; block = p.block; count_a = s.count_a; count_c = s.count_c + length piece; phase = 1 }

-- the hash is then also Y
unfoldable pub finished : ℕ → State → State
finished h s =
    let n = cond (eqb s.phase 0) s.count_a s.count_c in
    let p = closed h n (record { y = s.y; block = s.block }) in
    record { y = next h p.y (length_block s.count_a s.count_c); block = no_bytes; count_a = s.count_a; count_c = s.count_c; phase = 2 }

-- ---- the state after a call, refused or not

abbrev pub after_feed_a : List ℕ → State → List ℕ → State
after_feed_a key s piece = cond (eqb (feed_a_refusal key s piece) 0) (fed_a (block_at key 0) s piece) s

abbrev pub after_feed_c : List ℕ → State → List ℕ → State
after_feed_c key s piece = cond (eqb (feed_c_refusal key s piece) 0) (fed_c (block_at key 0) s piece) s

abbrev pub after_finish : List ℕ → State → State
after_finish key s = cond (eqb (finish_refusal key s) 0) (finished (block_at key 0) s) s

-- the block that finishing returns
abbrev pub finish_block : List ℕ → State → ℕ
finish_block key s = cond (eqb (finish_refusal key s) 0) (finished (block_at key 0) s).y 0
