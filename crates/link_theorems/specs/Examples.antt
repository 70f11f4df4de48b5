-- Examples of checked links, as one table with one statement, `ExamplesHold`: both sides of every limit, and records whose hashes are right or
-- differ in one bit. A rule that is changed here or there no longer fits its row.
-- Assumes nothing.
use Rattle.std.specs.Prelude.{ℕ, ◌≡◌, List, [], ◌∷◌, ◌++◌, length, replicate}
use Rattle.gf128.specs.Bytes.{block_bytes}
use Rattle.link_many.specs.Links.{links_refusal, links_number, links_results}
use Rattle.theorems_examples.specs.Rows.{AllHold}

-- a record
abbrev pub link : (claim expected : ℕ) → List ℕ
link claim expected = block_bytes claim ++ block_bytes expected

-- the one block as key: the hash is the claim block xor the length block, whose bytes are 00 but for 80 at place 7
abbrev pub one : List ℕ
one = 0x80 ∷ replicate 15 0

-- the key that AES-128 has from the zero key, as in the test cases 1 and 2 of the GCM specification
abbrev pub other : List ℕ
other = block_bytes 0x66E94BD4EF8A2C3B884CFA59CA342B2E

abbrev pub numbered : ℕ
numbered = 0x00112233445566778899AABBCCDDEEFF

pub data Example : Type 0 where
  -- the lengths of key, records and output, and the number
  lengths : (key input output number : ℕ) → Example
  -- a key, records, the output before, and the output after a call that is done
  gives : (key s before after : List ℕ) → Example
  -- the same of a call that is refused with this number: the output stays
  stays : (key s before : List ℕ) → (number : ℕ) → Example

-- what an example says
abbrev pub Holds : Example → Type 0
Holds (lengths key input output number) = links_refusal key input output ≡ number
Holds (gives key s before after) = (links_number key s before ≡ 0) × (links_results key s before ≡ after)
Holds (stays key s before number) = (links_number key s before ≡ number) × (links_results key s before ≡ before)

unfoldable pub table : List Example
table =
    -- 9: the key's length
    lengths 0 32 1 9
    ∷ lengths 15 32 1 9
    ∷ lengths 16 32 1 0
    ∷ lengths 17 32 1 9
    ∷ lengths 32 32 1 9
    -- 16: the input's length
    ∷ lengths 16 1 0 16
    ∷ lengths 16 16 0 16
    ∷ lengths 16 31 0 16
    ∷ lengths 16 31 1 16
    ∷ lengths 16 33 1 16
    ∷ lengths 16 63 1 16
    ∷ lengths 16 64 2 0
    ∷ lengths 16 65 2 16
    -- 16: the output's length
    ∷ lengths 16 0 0 0
    ∷ lengths 16 0 1 16
    ∷ lengths 16 32 0 16
    ∷ lengths 16 32 2 16
    ∷ lengths 16 64 1 16
    ∷ lengths 16 64 3 16
    ∷ lengths 16 320000 10000 0
    ∷ lengths 16 320000 9999 16
    ∷ lengths 16 320000 10001 16
    -- no limit but that of memory: 2^32 and more
    ∷ lengths 16 0x2000000000 0x100000000 0
    ∷ lengths 16 0x2000000020 1 16
    ∷ lengths 0x100000010 32 1 9
    -- 9 comes before 16
    ∷ lengths 15 31 0 9
    ∷ lengths 17 32 2 9
    -- the right hash, and one bit more or less in it: in its first and last bit, and on both sides of its middle
    ∷ gives one (link numbered 0x00112233445566F78899AABBCCDDEEFF) (0xA5 ∷ []) (1 ∷ [])
    ∷ gives one (link numbered 0x80112233445566F78899AABBCCDDEEFF) (0xA5 ∷ []) (0 ∷ [])
    ∷ gives one (link numbered 0x00112233445566F68899AABBCCDDEEFF) (0xA5 ∷ []) (0 ∷ [])
    ∷ gives one (link numbered 0x00112233445566F70899AABBCCDDEEFF) (0xA5 ∷ []) (0 ∷ [])
    ∷ gives one (link numbered 0x00112233445566F78899AABBCCDDEEFE) (0xA5 ∷ []) (0 ∷ [])
    -- no length block; the claim block as C
    ∷ gives one (link numbered numbered) (1 ∷ []) (0 ∷ [])
    ∷ gives one (link numbered 0x00112233445566778899AABBCCDDEE7F) (1 ∷ []) (0 ∷ [])
    -- another key, and what both would give under it
    ∷ gives other (link numbered 0xF6C665BF51C374D57848141D8137FE61) (0 ∷ []) (1 ∷ [])
    ∷ gives other (link numbered 0xF6C665BF51C374D57848141D8137FE60) (1 ∷ []) (0 ∷ [])
    ∷ gives other (link 0xFEEDFACEDEADBEEFFEEDFACEDEADBEEF 0x84774AAB651C4907C87BC8FD28A5D83A) (0xFF ∷ []) (1 ∷ [])
    ∷ gives other (link 0 0x792017EE375C24BAE94BD4EF8A2C3B88) (0 ∷ []) (1 ∷ [])
    ∷ gives other (link 0 0) (1 ∷ []) (0 ∷ [])
    -- the zero key: every hash is zero
    ∷ gives (replicate 16 0) (link numbered 0 ++ (link numbered 1 ++ link 0 0)) (0xA5 ∷ 0xA5 ∷ 0xA5 ∷ []) (1 ∷ 0 ∷ 1 ∷ [])
    -- several records, each with its own answer; and two with one expected hash
    ∷ gives one (link 0 0x800000000000000000 ++ (link 1 0 ++ link 1 0x800000000000000001)) (0 ∷ 1 ∷ 0xFF ∷ []) (1 ∷ 0 ∷ 1 ∷ [])
    ∷ gives one (link 7 0x800000000000000007 ++ link 6 0x800000000000000007) (0 ∷ 0 ∷ []) (1 ∷ 0 ∷ [])
    -- no records
    ∷ gives one [] [] []
    -- a refusal leaves the output
    ∷ stays (replicate 15 0) (link 0 0) (0xA5 ∷ []) 9
    ∷ stays one (link 0 0x800000000000000000) (0xA5 ∷ 0x5A ∷ []) 16
    ∷ stays one (link 0 0x800000000000000000) [] 16
    ∷ stays one (link 0 0x800000000000000000 ++ (0 ∷ [])) (0xA5 ∷ []) 16
    ∷ []

-- the statement: the rows are so many, and all of them hold
pub record ExamplesHold : Type 0 where
  pub rows : length table ≡ 47
  pub all : AllHold Holds table
