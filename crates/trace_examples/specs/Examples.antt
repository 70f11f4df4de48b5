-- Examples of the rules of traces, as one table with one statement, `ExamplesHold`: the bytes of a record, what the reader gives, and replays
-- with the file after each, on both sides of every limit. A rule that is changed here or there no longer fits its row.
-- Assumes nothing.
use Rattle.std.specs.Prelude.{ℕ, ◌≡◌, Bool, true, false, List, [], ◌∷◌, ◌++◌, length, set, replicate, take, Option, Some, None}
use Rattle.theorems_examples.specs.Examples.{file}
use Rattle.theorems_examples.specs.Rows.{AllHold}
use Rattle.trace_record.specs.declared.Record.{Record}
use Rattle.trace_record.specs.Record.{record_bytes, write_number, written_into}
use Rattle.trace_policy.specs.Policy.{policy_of}
use Rattle.trace_reader.specs.Reader.{next_at, place_after}
use Rattle.trace_replay.specs.Replay.{replayed, number_of, index_of}

-- a record with these bytes of SEW, LMUL, the answer and the policies; every other byte of it is the number of its place, from 1
abbrev pub numbered : (sew lmul answer policy : ℕ) → Record
numbered sew lmul answer policy =
    record { word = 0x04030201; sew = sew; lmul = lmul; answer = answer; policy = policy; vl = 0x0C0B0A09; vstart = 0x100F0E0D; scalar = 0x1817161514131211 }

-- its bytes
abbrev pub numbered_bytes : (sew lmul answer policy : ℕ) → List ℕ
numbered_bytes sew lmul answer policy =
    1 ∷ 2 ∷ 3 ∷ 4 ∷ sew ∷ lmul ∷ answer ∷ policy ∷ 9 ∷ 10 ∷ 11 ∷ 12 ∷ 13 ∷ 14 ∷ 15 ∷ 16 ∷ 17 ∷ 18 ∷ 19 ∷ 20 ∷ 21 ∷ 22 ∷ 23 ∷ 24 ∷ []

-- what a reader gives, as the record's bytes; none of them at the end
abbrev pub given_bytes : Option Record → List ℕ
given_bytes (Some r) = record_bytes r
given_bytes None = []

-- the bytes of a record of a word at LMUL 1, with both policies off
abbrev pub line : (word sew answer vl vstart scalar : ℕ) → List ℕ
line word sew answer vl vstart scalar =
    record_bytes (record { word = word; sew = sew; lmul = 1; answer = answer; policy = 0; vl = vl; vstart = vstart; scalar = scalar })

-- vclmul.vx v4, v8, x31 on two bytes, recorded with an answer
abbrev pub by_scalar : (answer vstart scalar : ℕ) → List ℕ
by_scalar answer vstart scalar = line 0x328FE257 8 answer 2 vstart scalar

-- vgmul.vs v4, v5 at LMUL 2, whose key is in vd's group, recorded with an answer
abbrev pub by_key_in_group : (answer : ℕ) → List ℕ
by_key_in_group answer = record_bytes (record { word = 0xA658A277; sew = 32; lmul = 2; answer = answer; policy = 0; vl = 8; vstart = 0; scalar = 0 })

-- a file whose v8 starts with 03 05, and its v4
abbrev pub with_v4 : ℕ → List ℕ
with_v4 v4 = file ((4, v4) ∷ (8, 0x030580FF000000000000000000000000) ∷ [])

pub data Example : Type 0 where
  -- a buffer, SEW, LMUL, the answer and the policy byte of a record, and the number and the buffer after it is written
  writes : (before : List ℕ) → (sew lmul answer policy number : ℕ) → (after : List ℕ) → Example
  -- tail and mask agnostic, and the policy byte
  policies : (vta vma : Bool) → (policy : ℕ) → Example
  -- a trace and a place, what a reader gives there, and the place after it
  gives : (trace : List ℕ) → (at : ℕ) → (given : List ℕ) → (place : ℕ) → Example
  -- VLEN, a file and a trace, and the number, the index and the file after the replay
  replays : (vlen : ℕ) → (before trace : List ℕ) → (number index : ℕ) → (after : List ℕ) → Example

-- what an example says
abbrev pub Holds : Example → Type 0
Holds (writes before sew lmul answer policy number after) =
    (write_number (length before) (numbered sew lmul answer policy) ≡ number) × (written_into before (numbered sew lmul answer policy) ≡ after)
Holds (policies vta vma policy) = policy_of vta vma ≡ policy
Holds (gives trace at given place) = (given_bytes (next_at trace at) ≡ given) × (place_after trace at ≡ place)
Holds (replays vlen before trace number index after) =
    (number_of (replayed vlen before trace).answer ≡ number) × (index_of (replayed vlen before trace).answer ≡ index)
    × ((replayed vlen before trace).file ≡ after)

unfoldable pub table : List Example
table =
    -- 14, a record: its buffer not 24 bytes long, SEW, LMUL or the answer over 255, or the policy byte over 3
    writes (replicate 24 0xA5) 5 6 7 3 0 (numbered_bytes 5 6 7 3)
    ∷ writes (replicate 24 0xA5) 255 255 255 3 0 (numbered_bytes 255 255 255 3)
    ∷ writes (replicate 24 0xA5) 256 6 7 3 14 (replicate 24 0xA5)
    ∷ writes (replicate 24 0xA5) 5 256 7 3 14 (replicate 24 0xA5)
    ∷ writes (replicate 24 0xA5) 5 6 256 3 14 (replicate 24 0xA5)
    ∷ writes (replicate 24 0xA5) 5 6 7 0 0 (numbered_bytes 5 6 7 0)
    ∷ writes (replicate 24 0xA5) 5 6 7 4 14 (replicate 24 0xA5)
    ∷ writes (replicate 23 0xA5) 5 6 7 3 14 (replicate 23 0xA5)
    ∷ writes (replicate 25 0xA5) 5 6 7 3 14 (replicate 25 0xA5)
    ∷ writes [] 5 6 7 3 14 []
    -- the policy byte: tail agnostic 1, mask agnostic 2
    ∷ policies false false 0
    ∷ policies true false 1
    ∷ policies false true 2
    ∷ policies true true 3
    -- the reader: whole records, then none; a rest of under 24 bytes is no record
    ∷ gives [] 0 [] 0
    ∷ gives (numbered_bytes 5 6 7 3) 0 (numbered_bytes 5 6 7 3) 24
    ∷ gives (numbered_bytes 5 6 7 3) 24 [] 24
    ∷ gives (numbered_bytes 5 6 7 3) 1 [] 1
    ∷ gives (numbered_bytes 5 6 7 3) 100 [] 100
    ∷ gives (take 23 (numbered_bytes 5 6 7 3)) 0 [] 0
    ∷ gives (0 ∷ numbered_bytes 5 6 7 3) 1 (numbered_bytes 5 6 7 3) 25
    ∷ gives (numbered_bytes 5 6 7 3 ++ numbered_bytes 8 9 10 3) 24 (numbered_bytes 8 9 10 3) 48
    ∷ gives (numbered_bytes 5 6 7 3 ++ take 23 (numbered_bytes 8 9 10 3)) 24 [] 24
    -- replay: an empty trace; a word that is done, with its answer and with another; a refused word, with its answer and with another
    ∷ replays 128 (with_v4 0x11111111111111111111111111111111) [] 0 0 (with_v4 0x11111111111111111111111111111111)
    ∷ replays 128 (with_v4 0x11111111111111111111111111111111) (by_scalar 0 0 3) 0 1 (with_v4 0x050F1111111111111111111111111111)
    ∷ replays 128 (with_v4 0x11111111111111111111111111111111) (by_scalar 3 0 3) 256 0 (with_v4 0x11111111111111111111111111111111)
    ∷ replays 128 (with_v4 0x11111111111111111111111111111111) (line 0x00000013 8 2 2 0 3) 0 1 (with_v4 0x11111111111111111111111111111111)
    ∷ replays 128 (with_v4 0x11111111111111111111111111111111) (line 0x00000013 8 0 2 0 3) 256 0 (with_v4 0x11111111111111111111111111111111)
    -- each record has its own vstart: element 0 stays
    ∷ replays 128 (with_v4 0x11111111111111111111111111111111) (by_scalar 0 1 3 ++ by_scalar 0 1 7) 0 2 (with_v4 0x111B1111111111111111111111111111)
    -- a difference at the second of two, and at the last of three: the file is as before that record
    ∷ replays 128 (with_v4 0x11111111111111111111111111111111) (by_scalar 0 0 3 ++ by_scalar 1 0 7) 256 1 (with_v4 0x050F1111111111111111111111111111)
    ∷ replays 128 (with_v4 0x11111111111111111111111111111111) (by_scalar 0 0 3 ++ (by_scalar 0 1 7 ++ by_scalar 255 0 1)) 256 2
    (with_v4 0x051B1111111111111111111111111111)
    -- 7 as document 02's Ask 4 has it; in a trace that was recorded before it the answer is 0
    ∷ replays 128 (with_v4 0x11111111111111111111111111111111) (by_key_in_group 7) 0 1 (with_v4 0x11111111111111111111111111111111)
    ∷ replays 128 (with_v4 0x11111111111111111111111111111111) (by_scalar 0 0 3 ++ by_key_in_group 0) 256 1 (with_v4 0x050F1111111111111111111111111111)
    -- the policies go with each record; without a mask the mask policy does nothing
    ∷ replays 128 (with_v4 0x11111111111111111111111111111111) (set (by_scalar 0 0 3) 7 1) 0 1 (with_v4 0x050FFFFFFFFFFFFFFFFFFFFFFFFFFFFF)
    ∷ replays 128 (with_v4 0x11111111111111111111111111111111) (set (by_scalar 0 0 3) 7 2) 0 1 (with_v4 0x050F1111111111111111111111111111)
    ∷ replays 128 (with_v4 0x11111111111111111111111111111111) (set (by_scalar 0 0 3) 7 3 ++ by_scalar 0 1 7) 0 2 (with_v4 0x051BFFFFFFFFFFFFFFFFFFFFFFFFFFFF)
    -- vclmul.vx v4, v8, x31, v0.t: element 0 is masked off, as mask bit 0 is; the tail stays
    ∷ replays 128 (set (with_v4 0x11111111111111111111111111111111) 0 2) (set (line 0x308FE257 8 0 2 0 3) 7 2) 0 1
    (set (with_v4 0xFF0F1111111111111111111111111111) 0 2)
    -- 14: the length is no multiple of 24, or a policy byte is over 3, in the last record too
    ∷ replays 128 (with_v4 0x11111111111111111111111111111111) (take 23 (by_scalar 0 0 3)) 14 0 (with_v4 0x11111111111111111111111111111111)
    ∷ replays 128 (with_v4 0x11111111111111111111111111111111) (by_scalar 0 0 3 ++ (0 ∷ [])) 14 0 (with_v4 0x11111111111111111111111111111111)
    ∷ replays 128 (with_v4 0x11111111111111111111111111111111) (by_scalar 0 0 3 ++ take 23 (by_scalar 0 0 3)) 14 0 (with_v4 0x11111111111111111111111111111111)
    ∷ replays 128 (with_v4 0x11111111111111111111111111111111) (set (by_scalar 0 0 3) 7 255) 14 0 (with_v4 0x11111111111111111111111111111111)
    ∷ replays 128 (with_v4 0x11111111111111111111111111111111) (by_scalar 0 0 3 ++ set (by_scalar 0 0 3) 7 4) 14 0 (with_v4 0x11111111111111111111111111111111)
    -- replay never gives 1: with a bad VLEN or file length each call does
    ∷ replays 100 (with_v4 0x11111111111111111111111111111111) (by_scalar 1 0 3) 0 1 (with_v4 0x11111111111111111111111111111111)
    ∷ replays 100 (with_v4 0x11111111111111111111111111111111) (by_scalar 1 0 3 ++ by_scalar 0 0 3) 256 1 (with_v4 0x11111111111111111111111111111111)
    ∷ replays 128 (replicate 511 0) (by_scalar 1 0 3) 0 1 (replicate 511 0)
    ∷ replays 128 [] (by_scalar 0 0 3) 256 0 []
    ∷ []

-- the statement: the rows are so many, and all of them hold
pub record ExamplesHold : Type 0 where
  pub rows : length table ≡ 46
  pub all : AllHold Holds table
