-- Demand 3's second half, in document 01's words: one changed block always shows in the hash, and in the bytes that the C functions write.
-- `hash_block` is the block that ghash_plain and ghash_fast both promise to return, so each message may take either path.
-- Assumes nothing.
use Rattle.std.specs.Prelude.{ℕ, ◌≤◌, ◌≡◌, ◌≢◌, List, ◌++◌, length}
use Rattle.octets.specs.Bytes.{AreBytes}
use Rattle.gf128.specs.Bytes.{block_at}
use Rattle.gf128.specs.Differ.{DifferOnce}
use Rattle.gf128.specs.Entries.{hash_block, hash_out, out_bytes}
use Rattle.gf128.specs.Hash.{blocks_of, limit}
use Rattle.gf128.specs.Pieces.{joined, run_of}

-- a key: 16 bytes, not zero
pub record NonzeroKey (key : List ℕ) : Type 0 where
  pub sixteen : length key ≡ 16
  pub bytes : AreBytes key
  pub not_zero : block_at key 0 ≢ 0

-- a message: a pair of A and C, neither over the limit of number 11
pub record IsMessage (a c : List ℕ) : Type 0 where
  pub bytes_a : AreBytes a
  pub bytes_c : AreBytes c
  pub within_a : length a ≤ limit
  pub within_c : length c ≤ limit

-- two messages: both As are equally long, and so are both Cs; padded and cut, A's blocks before C's, the two lists of blocks differ at
-- exactly one place
pub record OneBlockChanged (a c a' c' : List ℕ) : Type 0 where
  pub first : IsMessage a c
  pub second : IsMessage a' c'
  pub lengths_a : length a ≡ length a'
  pub lengths_c : length c ≡ length c'
  pub once : DifferOnce (blocks_of a ++ blocks_of c) (blocks_of a' ++ blocks_of c')

-- the two hashes differ
abbrev pub OneChangedBlockShows : Type 0
OneChangedBlockShows =
    (key a c a' c' : List ℕ) → NonzeroKey key → OneBlockChanged a c a' c' → hash_block key a c ≢ hash_block key a' c'

-- the same of messages fed in parts: each run starts from a fresh running hash and takes any pieces that make up its A and C; what
-- differs is the block that finishing returns
abbrev pub OneChangedBlockShowsInParts : Type 0
OneChangedBlockShowsInParts =
    (key : List ℕ) (ps qs ps' qs' : List (List ℕ)) → NonzeroKey key → OneBlockChanged (joined ps) (joined qs) (joined ps') (joined qs')
    → (run_of key ps qs).block ≢ (run_of key ps' qs').block

-- the bytes of a message's hash in an `out` of 16 bytes: the function for a whole A and C wrote them, or the one that finishes a run; the
-- plain and the fast form of each write the same
pub data Written (key a c bytes : List ℕ) : Type 0 where
  whole : (out : List ℕ) → length out ≡ 16 → bytes ≡ hash_out key a c out → Written key a c bytes
  parts : (ps qs : List (List ℕ)) (out : List ℕ) → joined ps ≡ a → joined qs ≡ c → length out ≡ 16 → bytes ≡ out_bytes out (run_of key ps qs).block
      → Written key a c bytes

-- the two hashes' bytes differ, whichever function wrote each
abbrev pub OneChangedBlockShowsInBytes : Type 0
OneChangedBlockShowsInBytes =
    (key a c a' c' bytes bytes' : List ℕ) → NonzeroKey key → OneBlockChanged a c a' c' → Written key a c bytes → Written key a' c' bytes'
    → bytes ≢ bytes'
